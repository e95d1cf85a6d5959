-- A number is as near to an exact fraction as to a number with that value: the exact difference rounds to the same magnitude. Assumes nothing.
use Rattle.std.specs.Prelude.{◌≡◌, refl, ℕ, ◌+◌, ◌*◌, ◌<◌, Bool, true, false, ℤ, pos, negsuc, nat_abs, ◌*ℤ◌, T, Float}
use Rattle.std.proofs.Common.{sym, ap, ◌∙◌, mul_comm, mul_assoc, mul_left_comm, add-mul, mul-pos, arith}
use Rattle.std.specs.Float.{nan, inf, fin, binary64}
use Rattle.std.specs.Float.Ieee.{round, add, sub, neg, le}
use Rattle.std.specs.Float.Ieee.Scale.{finite, round_same}
use Rattle.binary64.specs.Integers.{sub_parts_ℤ}
use Rattle.binary64.specs.Rational.{plus, less, Fraction, Sameℚ, value}
use Rattle.binary64.specs.Order.{magnitude, near, tolerance}
use Rattle.binary64.specs.Value.{neg_finite, neg_over, neg_under, neg_den}
use Rattle.binary64.specs.Range.{round_neg}
use Rattle.binary64.specs.Monotone.{plus_of, less_of, Rounded, add_rounded}
use Rattle.binary64.proofs.Fraction.{cross_plus, cross_less, value_plus, value_less, value_den}
use Rattle.geometry.specs.declared.Point.{Point}
use Rattle.exact.specs.Exact.{minusℚ, negative, rounded, near_exact, same_place, Exact, Same, exact, Finite}
use Rattle.geometry.specs.Contact.{matches}

-- ---- rounded magnitudes: the sign doesn't matter, and equal fractions round alike
magnitude_neg : (x : Float) → magnitude (neg x) ≡ magnitude x
unfolding magnitude neg
magnitude_neg nan = refl
magnitude_neg (inf s) = refl
magnitude_neg (fin s m e) = refl

pub unsigned : (s : Bool) (a c : ℕ) → magnitude (round binary64 s a c) ≡ magnitude (round binary64 false a c)
unsigned false a c = refl
unsigned true a c = ap magnitude (round_neg binary64 a c) ∙ magnitude_neg (round binary64 false a c)

magnitude_same : (s : Bool) (a c : ℕ) (t : Bool) (b d : ℕ) → 0 < c → 0 < d → a * d ≡ b * c → magnitude (round binary64 s a c) ≡ magnitude (round binary64 t b d)
magnitude_same s a c t b d C D e = unsigned s a c ∙ ap magnitude (round_same binary64 false a c b d C D e) ∙ sym (unsigned t b d)

-- two signed fractions that are equal have equal sizes
sizes : (z : ℤ) (s : Bool) (n c c' : ℕ) → plus z * c + less_of s n * c' ≡ plus_of s n * c' + less z * c → nat_abs z * c ≡ n * c'
sizes (pos k) false n c c' h = omega arith
sizes (pos k) true n c c' h = omega arith
sizes (negsuc k) false n c c' h = omega arith
sizes (negsuc k) true n c c' h = omega arith

-- x - p and x - y, where p is y's value
differences : (ox ux dx oy uy dy pp lp dp pz lz ps ls : ℕ)
    → pz + (ux * dp + pp * dx) ≡ ox * dp + lp * dx + lz
    → ps + (ux * dy + oy * dx) ≡ ox * dy + uy * dx + ls
    → pp * dy + uy * dp ≡ oy * dp + lp * dy
    → pz * (dx * dy) + ls * (dx * dp) ≡ ps * (dx * dp) + lz * (dx * dy)
differences ox ux dx oy uy dy pp lp dp pz lz ps ls z r s =
    let z' = simp (add-mul, mul_assoc, mul_comm, mul_left_comm) at (ap (λ (w : ℕ). w * (dx * dy)) z) in
    let r' = simp (add-mul, mul_assoc, mul_comm, mul_left_comm) at (ap (λ (w : ℕ). w * (dx * dp)) r) in
    let s' = simp (add-mul, mul_assoc, mul_comm, mul_left_comm) at (ap (λ (w : ℕ). w * (dx * dx)) s) in
    simp (mul_comm, mul_left_comm) (omega arith)

-- x - y is a rounded fraction, by the parts of the two values
sub_is : (x y : Float) → sub binary64 x y ≡ add binary64 x (neg y)
unfolding sub
sub_is x y = refl

pub sub_rounded : (x y : Float) → T (finite x) → T (finite y)
    → Rounded (sub binary64 x y) (plus (value x).numerator * (value y).denominator + less (value y).numerator * (value x).denominator) (less (value x).numerator * (value y).denominator + plus (value y).numerator * (value x).denominator) ((value x).denominator * (value y).denominator)
sub_rounded x y f g =
    rw (sub_is x y, value_plus x, value_less x, value_den x, value_plus y, value_less y, value_den y, ← neg_over y, ← neg_under y, ← neg_den y) (add_rounded x (neg y) f (neg_finite y g))

pub difference : (x y : Float) (p : Fraction) → T (finite x) → T (finite y) → Sameℚ p (value y) → magnitude (rounded (minusℚ (value x) p)) ≡ magnitude (sub binary64 x y)
difference x y p f g e =
    let r = sub_rounded x y f g in
    let v = value x in
    let w = value y in
    let z = minusℚ v p in
    let Z = sub_parts_ℤ (v.numerator *ℤ pos p.denominator) (p.numerator *ℤ pos v.denominator) in
    let k = differences (plus v.numerator) (less v.numerator) v.denominator (plus w.numerator) (less w.numerator) w.denominator (plus p.numerator) (less p.numerator) p.denominator
    (plus z.numerator) (less z.numerator) (plus_of r.sign r.size) (less_of r.sign r.size)
    (omega (arith, Z, cross_plus v p, cross_less v p, cross_plus p v, cross_less p v))
    r.parts
    (omega (arith, ap plus e, ap less e, cross_plus p w, cross_less p w, cross_plus w p, cross_less w p)) in
    magnitude_same (negative z.numerator) (nat_abs z.numerator) z.denominator r.sign r.size (v.denominator * w.denominator) z.above_zero (mul-pos v.above_zero w.above_zero)
    (sizes z.numerator r.sign r.size (v.denominator * w.denominator) (v.denominator * p.denominator) k)
    ∙ ap magnitude (sym r.is)

pub near_same : (x y : Float) (p : Fraction) → T (finite x) → T (finite y) → Sameℚ p (value y) → near_exact x p ≡ near x y
unfolding near_exact near
near_same x y p f g e = ap (λ (w : Float). le w tolerance) (difference x y p f g e)

pub place_same : (a q : Point) (p : Exact) → Finite a → Finite q → Same p (exact q) → same_place a p ≡ matches a q
place_same a q p A Q e = rw (near_same a.x q.x p.x A.x Q.x e.x, near_same a.y q.y p.y A.y Q.y e.y) refl
