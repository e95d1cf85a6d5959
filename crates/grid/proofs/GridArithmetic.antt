-- Exact arithmetic on a grid. `At g x z` says that x is finite and is exactly the whole number z over 2 ^ g. Where the result's z has at most 53 digits, a sum, a difference and a half round nothing.
-- Assumes nothing.
use Rattle.std.specs.Prelude.{◌≡◌, refl, ℕ, suc, ◌+◌, ◌*◌, ◌^◌, ◌≤◌, ◌<◌, Bool, true, false, cond, ℤ, pos, negsuc, nat_abs, ◌*ℤ◌, T, Float}
use Rattle.std.proofs.Common.{sym, ap, ◌∙◌, le_trans, le_of_eq, mul-one, mul_comm, mul_assoc, mul_left_comm, mul_right_comm, add-mul, mul-le-mul_right, mul-lt-mul_of_pos_right, mul-pos, zero-lt-suc, pow-suc, lt_of_mul-lt-mul_right, le_of_mul-le-mul_right, arith, pow-add, pow_pos}
use Rattle.std.proofs.Math.Nat.{mul-mul-mul_comm, eq_of_mul-eq-mul_right}
use Rattle.std.specs.Float.{nan, inf, fin, binary64}
use Rattle.std.specs.Float.Ieee.{up, down, unlike, round, mul, lt, of_int}
use Rattle.std.specs.Float.Ieee.Fits.{down_pos}
use Rattle.std.specs.Float.Ieee.Back.{round_whole}
use Rattle.std.specs.Float.Ieee.Positive.{den, den_pos}
use Rattle.binary64.specs.Value.{over, under, side, lt→below, below→lt}
use Rattle.binary64.specs.Range.{Bounded, half}
use Rattle.binary64.specs.Rational.{plus, less, Belowℤ}
use Rattle.binary64.specs.Integers.{neg_plus, neg_less}
use Rattle.binary64.specs.ExactOnGrid.{round_on_grid, same_parts, value_parts, at_size, At}

-- z = x / 2 and x = a / G give z = a / 2G
halve : (oz uz dz ox ux dx G pa la : ℕ) → 0 < dx → oz * (dx * 2) + ux * dz ≡ ox * dz + uz * (dx * 2) → ox * G + la * dx ≡ pa * dx + ux * G → oz * (G * 2) + la * dz ≡ pa * dz + uz * (G * 2)
halve oz uz dz ox ux dx G pa la X h x =
    let h' = simp (add-mul, mul_assoc, mul_comm, mul_left_comm) at (ap (λ (z : ℕ). z * G) h) in
    let x' = simp (add-mul, mul_assoc, mul_comm, mul_left_comm) at (ap (λ (z : ℕ). z * dz) x) in
    eq_of_mul-eq-mul_right dx X (oz * (G * 2) + la * dz) (pa * dz + uz * (G * 2)) (simp (add-mul, mul_assoc, mul_comm, mul_left_comm) (omega arith))

pub half_exact : (g : ℕ) (x : Float) (a : ℤ) → suc g ≤ 1074 → nat_abs a < 2 ^ 53 → At g x a → At (suc g) (half x) a
unfolding mul
half_exact g nan a G N h = absurd h.is_finite
half_exact g (inf s) a G N h = absurd h.is_finite
half_exact g (fin s m e) a G N h =
    let x = fin s m e in
    let u = unlike s false in
    let z = round binary64 u (m * up e * 1) (down e * 2) in
    let i : m * up e * 1 * 2 ^ suc g ≡ nat_abs a * (down e * 2) =
    ap (λ (w : ℕ). w * 2 ^ suc g) (mul-one (m * up e)) ∙ ap (λ (w : ℕ). m * up e * w) (pow-suc 2 g) ∙ sym (mul_assoc (m * up e) (2 ^ g) 2) ∙ ap (λ (w : ℕ). w * 2) (at_size g x a h) ∙ mul_assoc (nat_abs a) (down e) 2 in
    let r = value_parts z u (m * up e * 1) (down e * 2) (round_on_grid u (suc g) (m * up e * 1) (down e * 2) (nat_abs a) G (mul-pos (down_pos e) (zero-lt-suc 1)) N i) in
    record {
      is_finite = r.0;
      is = rw (pow-suc 2 g) (halve (over z) (under z) (den z) (over x) (under x) (down e) (2 ^ g) (plus a) (less a) (down_pos e) (rw (← over_half s m e, ← under_half s m e) r.1) h.is);
    }
  where
    over_half : (s : Bool) (m : ℕ) (e : ℤ) → cond (unlike s false) 0 (m * up e * 1) ≡ over (fin s m e)
    over_half true m e = refl
    over_half false m e = mul-one (m * up e)

    under_half : (s : Bool) (m : ℕ) (e : ℤ) → cond (unlike s false) (m * up e * 1) 0 ≡ under (fin s m e)
    under_half true m e = mul-one (m * up e)
    under_half false m e = refl

-- ---- the order of two numbers of one grid is that of the whole numbers
level_with : (ox ux dx oy uy dy G pa la pb lb : ℕ) → ox * G + la * dx ≡ pa * dx + ux * G → oy * G + lb * dy ≡ pb * dy + uy * G
    → (ox * dy + uy * dx) * G + (pb + la) * (dx * dy) ≡ (oy * dx + ux * dy) * G + (pa + lb) * (dx * dy)
level_with ox ux dx oy uy dy G pa la pb lb x y =
    let x' = simp (add-mul, mul_assoc, mul_comm, mul_left_comm) at (ap (λ (z : ℕ). z * dy) x) in
    let y' = simp (add-mul, mul_assoc, mul_comm, mul_left_comm) at (ap (λ (z : ℕ). z * dx) y) in
    simp (add-mul, mul_assoc, mul_comm, mul_left_comm) (omega arith)

cross_below : (l r p q G D : ℕ) → 0 < G → l * G + q * D ≡ r * G + p * D → l < r → p < q
cross_below l r p q G D X e h = let k = mul-lt-mul_of_pos_right {k = G} h X in lt_of_mul-lt-mul_right D {m = p} {n = q} (omega arith)

cross_back : (l r p q G D : ℕ) → 0 < D → l * G + q * D ≡ r * G + p * D → p < q → l < r
cross_back l r p q G D X e h = let k = mul-lt-mul_of_pos_right {k = D} h X in lt_of_mul-lt-mul_right G {m = l} {n = r} (omega arith)

module _ (g : ℕ) (x y : Float) (a b : ℤ) (h : At g x a) (k : At g y b) where
  pub balance : side x y * 2 ^ g + (plus b + less a) * (den x * den y) ≡ side y x * 2 ^ g + (plus a + less b) * (den x * den y)
  balance = level_with (over x) (under x) (den x) (over y) (under y) (den y) (2 ^ g) (plus a) (less a) (plus b) (less b) h.is k.is

  pub lt→Belowℤ : T (lt x y) → Belowℤ a b
  lt→Belowℤ t = cross_below (side x y) (side y x) (plus a + less b) (plus b + less a) (2 ^ g) (den x * den y) (pow_pos g) balance (lt→below x y h.is_finite k.is_finite t)

  pub Belowℤ→lt : Belowℤ a b → T (lt x y)
  Belowℤ→lt t = below→lt x y h.is_finite k.is_finite (cross_back (side x y) (side y x) (plus a + less b) (plus b + less a) (2 ^ g) (den x * den y) (mul-pos (den_pos x) (den_pos y)) balance t)

-- ---- the numerator's size from the number's: |x| ≤ b gives |z| ≤ b * 2 ^ g
pub at_bounded : (g b : ℕ) (x : Float) (z : ℤ) → At g x z → Bounded b x → nat_abs z ≤ b * 2 ^ g
at_bounded g b x z h k = le_of_mul-le-mul_right (le_trans (le_of_eq (sym (at_size g x z h))) (le_trans (mul-le-mul_right (2 ^ g) k.size) (le_of_eq (mul_right_comm b (den x) (2 ^ g))))) (den_pos x)

-- ---- products
mul_parts : (s : Bool) (m : ℕ) (e : ℤ) (t : Bool) (n : ℕ) (d : ℤ)
    → cond (unlike s t) 0 (m * up e * (n * up d)) + (over (fin s m e) * under (fin t n d) + under (fin s m e) * over (fin t n d))
    ≡ over (fin s m e) * over (fin t n d) + under (fin s m e) * under (fin t n d) + cond (unlike s t) (m * up e * (n * up d)) 0
mul_parts false m e false n d = omega arith
mul_parts false m e true n d = omega arith
mul_parts true m e false n d = omega arith
mul_parts true m e true n d = omega arith

-- ---- on a grid
pub times_parts : (a b : ℤ) → plus (a *ℤ b) + (plus a * less b + less a * plus b) ≡ plus a * plus b + less a * less b + less (a *ℤ b)
times_parts (pos a) (pos b) = omega arith
times_parts (pos a) (negsuc b) = omega (arith, neg_plus (pos (a * suc b)), neg_less (pos (a * suc b)))
times_parts (negsuc a) (pos b) = omega (arith, neg_plus (pos (suc a * b)), neg_less (pos (suc a * b)))
times_parts (negsuc a) (negsuc b) = omega arith

-- (X - X') = (A - A') and (Y - Y') = (B - B') give the equation of the products
pub cross_products : (X X' A A' Y Y' B B' : ℕ) → X + A' ≡ A + X' → Y + B' ≡ B + Y' → X * Y + X' * Y' + (A * B' + A' * B) ≡ A * B + A' * B' + (X * Y' + X' * Y)
cross_products X X' A A' Y Y' B B' e f =
    let a = simp (add-mul, mul_comm) at (ap (λ (z : ℕ). z * Y) e) in
    let b = simp (add-mul, mul_comm) at (ap (λ (z : ℕ). z * Y') e) in
    let c = simp (add-mul, mul_comm) at (ap (λ (z : ℕ). z * A) f) in
    let d = simp (add-mul, mul_comm) at (ap (λ (z : ℕ). z * A') f) in
    omega arith

products : (oz uz dz ox ux dx oy uy dy G H pa la pb lb P L : ℕ) → 0 < dx → 0 < dy
    → oz * (dx * dy) + (ox * uy + ux * oy) * dz ≡ (ox * oy + ux * uy) * dz + uz * (dx * dy)
    → ox * G + la * dx ≡ pa * dx + ux * G → oy * H + lb * dy ≡ pb * dy + uy * H → P + (pa * lb + la * pb) ≡ pa * pb + la * lb + L
    → oz * (G * H) + L * dz ≡ P * dz + uz * (G * H)
products oz uz dz ox ux dx oy uy dy G H pa la pb lb P L X Y h x y p =
    let c = cross_products (ox * G) (ux * G) (pa * dx) (la * dx) (oy * H) (uy * H) (pb * dy) (lb * dy) x y in
    let c' = simp (add-mul, mul_assoc, mul_comm, mul_left_comm) at (ap (λ (z : ℕ). z * dz) c) in
    let h' = simp (add-mul, mul_assoc, mul_comm, mul_left_comm) at (ap (λ (z : ℕ). z * (G * H)) h) in
    let p' = simp (add-mul, mul_assoc, mul_comm, mul_left_comm) at (ap (λ (z : ℕ). z * (dx * (dy * dz))) p) in
    eq_of_mul-eq-mul_right (dx * dy) (mul-pos X Y) (oz * (G * H) + L * dz) (P * dz + uz * (G * H)) (simp (add-mul, mul_assoc, mul_comm, mul_left_comm) (omega arith))

pub mul_exact : (g h : ℕ) (x y : Float) (a b : ℤ) → g + h ≤ 1074 → nat_abs a * nat_abs b < 2 ^ 53 → At g x a → At h y b → At (g + h) (mul binary64 x y) (a *ℤ b)
unfolding mul
mul_exact g h nan y a b G N p q = absurd p.is_finite
mul_exact g h (inf s) y a b G N p q = absurd p.is_finite
mul_exact g h (fin s m e) nan a b G N p q = absurd q.is_finite
mul_exact g h (fin s m e) (inf t) a b G N p q = absurd q.is_finite
mul_exact g h (fin s m e) (fin t n d) a b G N p q =
    let x = fin s m e in
    let y = fin t n d in
    let u = unlike s t in
    let k = m * up e * (n * up d) in
    let c = down e * down d in
    let z = round binary64 u k c in
    let i : k * 2 ^ (g + h) ≡ nat_abs a * nat_abs b * c =
    ap (λ (w : ℕ). k * w) (pow-add 2 g h) ∙ mul-mul-mul_comm (m * up e) (n * up d) (2 ^ g) (2 ^ h) ∙ ap (λ (w : ℕ). w * (n * up d * 2 ^ h)) (at_size g x a p) ∙ ap (λ (w : ℕ). nat_abs a * down e * w) (at_size h y b q) ∙ mul-mul-mul_comm (nat_abs a) (down e) (nat_abs b) (down d) in
    let r = same_parts z (cond u 0 k) (cond u k 0) (over x * over y + under x * under y) (over x * under y + under x * over y) c (mul_parts s m e t n d)
    (value_parts z u k c (round_on_grid u (g + h) k c (nat_abs a * nat_abs b) G (mul-pos (down_pos e) (down_pos d)) N i)) in
    record {
      is_finite = r.0;
      is = rw (pow-add 2 g h) (products (over z) (under z) (den z) (over x) (under x) (down e) (over y) (under y) (down d) (2 ^ g) (2 ^ h) (plus a) (less a) (plus b) (less b) (plus (a *ℤ b)) (less (a *ℤ b)) (down_pos e) (down_pos d) r.1 p.is q.is (times_parts a b));
    }

-- ---- a whole number as a float
pub of_int_exact : (z : ℤ) → nat_abs z ≤ 2 ^ 53 → At 0 (of_int binary64 z) z
unfolding of_int
of_int_exact (pos n) h = let r = value_parts (round binary64 false n 1) false n 1 (round_whole binary64 false n h) in record { is_finite = r.0; is = r.1 }
of_int_exact (negsuc n) h = let r = value_parts (round binary64 true (suc n) 1) true (suc n) 1 (round_whole binary64 true (suc n) h) in record { is_finite = r.0; is = r.1 }
