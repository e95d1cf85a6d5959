-- An axis whose least coordinate is 0 is shifted exactly: x - 0 is x for every number of the format. So only an axis that moves counts. Assumes nothing.
use Rattle.std.specs.Prelude.{◌≡◌, Bool, true, false, not, ◌&&◌, ℕ, zero, suc, ◌+◌, ◌-◌, ◌*◌, ◌%◌, ◌^◌, ◌≤◌, ◌<◌, ℤ, pos, negsuc, T, eqb, ltb, leb, Float}
use Rattle.std.proofs.Common.{sym, ap, ◌∙◌, subst, le_trans, le_of_eq, lt_of_lt_of_le, lt_of_le_of_lt, mul-one, zero-mul, mul_comm, mul_assoc, mul_right_comm, add-mul, mul-pos, mul-le-mul_left, mul-lt-mul_of_pos_right, arith, ltb→lt, leb→le, nltb→le, lit≤, pow-add, pow_pos, pow_mono}
use Rattle.std.proofs.Math.Nat.{eq_of_mul-eq-mul_right}
use Rattle.std.proofs.Math.Pow.{pow-lt}
use Rattle.std.specs.Float.{nan, inf, fin, binary64}
use Rattle.std.specs.Float.Ieee.{up, down, round, sub, fits}
use Rattle.std.specs.Float.Ieee.Fits.{and_l, and_r}
use Rattle.std.specs.Float.Ieee.Exact.{HasValue, round_exact}
use Rattle.std.specs.Float.Ieee.Positive.{num, den, den_pos}
use Rattle.std.specs.Float.Ieee.Scale.{finite}
use Rattle.binary64.specs.Rational.{plus, less, Sameℚ, value}
use Rattle.binary64.specs.Value.{over, num_parts}
use Rattle.binary64.specs.Monotone.{plus_of, less_of}
use Rattle.binary64.proofs.Fraction.{value_plus, value_less, value_den}
use Rattle.exact.specs.Exact.{nought, minusℚ}
use Rattle.exact.proofs.Near.{sub_rounded}
use Rattle.last_shift.proofs.Fractions.{P, L, D, same_in, same_out, difference_parts}
use Rattle.binary64.specs.ExactOnGrid.{value_parts}
use Rattle.last_shift.specs.Shift.{ExactLess}

-- x is q * 2 ^ j / 2 ^ 1074
record Digits (x : Float) : Type 0 where
  digits : ℕ
  shift : ℕ
  few : digits < 2 ^ 53
  in_range : digits * 2 ^ shift < 2 ^ (1074 + 1024)
  is : num x * 2 ^ 1074 ≡ digits * 2 ^ shift * den x

upward : (m k : ℕ) → m < 2 ^ 53 → m * 2 ^ k < 2 ^ 1024 * 1 → m * 2 ^ (k + 1074) < 2 ^ (1074 + 1024)
upward m k h l =
    lt_of_le_of_lt (le_of_eq (ap (λ (z : ℕ). m * z) (pow-add 2 k 1074) ∙ sym (mul_assoc m (2 ^ k) (2 ^ 1074))))
    (lt_of_lt_of_le (mul-lt-mul_of_pos_right l (pow_pos 1074)) (le_of_eq (ap (λ (z : ℕ). z * 2 ^ 1074) (mul-one (2 ^ 1024)) ∙ mul_comm (2 ^ 1024) (2 ^ 1074) ∙ sym (pow-add 2 1074 1024))))

downward : (m j : ℕ) → m < 2 ^ 53 → j ≤ 1074 → m * 2 ^ j < 2 ^ (1074 + 1024)
downward m j h k = lt_of_lt_of_le (mul-lt-mul_of_pos_right h (pow_pos j)) (le_trans (mul-le-mul_left (2 ^ 53) (pow_mono {j = 1074} k)) (lit≤ tt))

cut : (k : ℕ) → k ≤ 1074 → (1074 - k) + k ≡ 1074
cut k h = omega arith

cut_le : (k : ℕ) → 1074 - k ≤ 1074
cut_le k = omega arith

exponent : (k : ℕ) → 2 ^ k ≤ 2 ^ 1074 → k ≤ 1074
exponent k h = go (ltb 1074 k) (ltb→lt 1074 k) (nltb→le 1074 k)
  where
    no : (a b : ℕ) → a ≤ b → b < a → ⊥
    no a b h k = omega arith

    go : (t : Bool) → (T t → 1074 < k) → (T (not t) → k ≤ 1074) → k ≤ 1074
    go true f g = absurd (no (2 ^ k) (2 ^ 1074) h (pow-lt (f tt)))
    go false f g = g tt

digits_of : (x : Float) → T (finite x) → T (fits binary64 x) → Digits x
unfolding fits
digits_of nan f h = absurd f
digits_of (inf s) f h = absurd f
digits_of (fin s zero e) f h = record { digits = 0; shift = 0; few = pow_pos 53; in_range = lt_of_le_of_lt (le_of_eq (zero-mul (2 ^ 0))) (pow_pos (1074 + 1024)); is = ap (λ (z : ℕ). z * 2 ^ 1074) (zero-mul (up e)) ∙ zero-mul (2 ^ 1074) ∙ sym (zero-mul (down e)) ∙ ap (λ (z : ℕ). z * down e) (sym (zero-mul (2 ^ 0))) }
digits_of (fin s (suc m) (pos k)) f h =
    let a = eqb (suc m % 2) 1 in
    let b = ltb (suc m) (2 ^ 53) in
    let c = leb 1 (2 ^ 1074) in
    let d = ltb (suc m * 2 ^ k) (2 ^ 1024 * 1) in
    let few = ltb→lt (suc m) (2 ^ 53) (and_r a b (and_l (a && b) c (and_l (a && b && c) d h))) in
    let l = ltb→lt (suc m * 2 ^ k) (2 ^ 1024 * 1) (and_r (a && b && c) d h) in
    record { digits = suc m; shift = k + 1074; few = few; in_range = upward (suc m) k few l; is = mul_assoc (suc m) (2 ^ k) (2 ^ 1074) ∙ ap (λ (z : ℕ). suc m * z) (sym (pow-add 2 k 1074)) ∙ sym (mul-one (suc m * 2 ^ (k + 1074))) }
digits_of (fin s (suc m) (negsuc k)) f h =
    let a = eqb (suc m % 2) 1 in
    let b = ltb (suc m) (2 ^ 53) in
    let c = leb (2 ^ suc k) (2 ^ 1074) in
    let d = ltb (suc m * 1) (2 ^ 1024 * 2 ^ suc k) in
    let few = ltb→lt (suc m) (2 ^ 53) (and_r a b (and_l (a && b) c (and_l (a && b && c) d h))) in
    let w = exponent (suc k) (leb→le (2 ^ suc k) (2 ^ 1074) (and_r (a && b) c (and_l (a && b && c) d h))) in
    let j = 1074 - suc k in
    record { digits = suc m; shift = 1074 - suc k; few = few; in_range = downward (suc m) (1074 - suc k) few (cut_le (suc k)); is = ap (λ (z : ℕ). z * 2 ^ 1074) (mul-one (suc m)) ∙ ap (λ (z : ℕ). suc m * z) (ap (λ (z : ℕ). 2 ^ z) (sym (cut (suc k) w)) ∙ pow-add 2 (1074 - suc k) (suc k)) ∙ sym (mul_assoc (suc m) (2 ^ (1074 - suc k)) (2 ^ suc k)) }

-- a fraction n / c of x's size is not rounded
kept : (x : Float) → T (finite x) → T (fits binary64 x) → (s : Bool) (n c : ℕ) → 0 < c → n * den x ≡ num x * c → HasValue (round binary64 s n c) s n c
kept x f h s n c C e =
    let d = digits_of x f h in
    round_exact binary64 s n c d.digits d.shift C d.few d.in_range
    (eq_of_mul-eq-mul_right (den x) (den_pos x) (n * 2 ^ 1074) (d.digits * 2 ^ d.shift * c)
    (mul_right_comm n (2 ^ 1074) (den x) ∙ ap (λ (z : ℕ). z * 2 ^ 1074) e ∙ mul_right_comm (num x) c (2 ^ 1074) ∙ ap (λ (z : ℕ). z * c) d.is ∙ mul_right_comm (d.digits * 2 ^ d.shift) (den x) c))

size_is : (z : ℤ) (s : Bool) (n d : ℕ) → plus_of s n + less z * d ≡ plus z * d + less_of s n → n ≡ (plus z + less z) * d
size_is (pos a) false n d h = simp add-mul (omega arith)
size_is (pos a) true n d h = simp add-mul (omega arith)
size_is (negsuc a) false n d h = simp add-mul (omega arith)
size_is (negsuc a) true n d h = simp add-mul (omega arith)

-- over and under of a number that is n / c, signed
same_of : (oz uz dz pe le c ps ls : ℕ) → oz * c + ls * dz ≡ ps * dz + uz * c → pe + ls ≡ ps + le → oz * c + le * dz ≡ pe * dz + uz * c
same_of oz uz dz pe le c ps ls h k =
    let k' = simp add-mul at (ap (λ (w : ℕ). w * dz) k) in
    omega arith

pub zero_less : (o x : Float) → T (finite o) → T (finite x) → T (fits binary64 x) → Sameℚ (value o) nought → ExactLess o x
zero_less o x fo fx h zero_o =
    let v = value x in
    let w = value o in
    let r = sub_rounded x o fx fo in
    let n = r.size in
    let s = r.sign in
    let c = D v * D w in
    let C = mul-pos v.above_zero w.above_zero in
    let e = minusℚ v w in
    let z = sub binary64 x o in
    let even : P w ≡ L w = omega (arith, same_out w nought zero_o) in
    let level : L w * D v ≡ P w * D v = ap (λ (k : ℕ). k * D v) (sym even) in
    let parts : plus_of s n + L v * D w ≡ P v * D w + less_of s n = omega (arith, r.parts, level) in
    let size : n ≡ (P v + L v) * D w = size_is v.numerator s n (D w) parts in
    let whole : P v + L v ≡ num x = ap (λ (k : ℕ). k + L v) (value_plus x) ∙ ap (λ (k : ℕ). over x + k) (value_less x) ∙ sym (num_parts x) in
    let scaled : n * den x ≡ num x * c =
    ap (λ (k : ℕ). k * den x) size ∙ ap (λ (k : ℕ). k * D w * den x) whole ∙ ap (λ (k : ℕ). num x * D w * k) (sym (value_den x)) ∙ mul_assoc (num x) (D w) (D v) ∙ ap (λ (k : ℕ). num x * k) (mul_comm (D w) (D v)) in
    let held : HasValue z s n c = subst (λ (y : Float). HasValue y s n c) (sym r.is) (kept x fx h s n c C scaled) in
    let q = (value_parts z s n c held).1 in
    let q' : P (value z) * c + less_of s n * D (value z) ≡ plus_of s n * D (value z) + L (value z) * c = rw (value_plus z, value_less z, value_den z) q in
    same_in (value z) e (same_of (P (value z)) (L (value z)) (D (value z)) (P e) (L e) c (plus_of s n) (less_of s n) q' (omega (arith, r.parts, difference_parts v w)))
