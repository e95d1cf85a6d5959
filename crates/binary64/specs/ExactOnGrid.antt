-- Exact arithmetic on a grid. `At g x z` says that x is finite and is exactly the whole number z over 2 ^ g. Where the result's z has at most 53 digits, a sum and a difference round nothing.
-- Assumes nothing.
use Rattle.std.specs.Prelude.{◌≡◌, refl, ℕ, zero, suc, ◌+◌, ◌-◌, ◌*◌, ◌^◌, ◌≤◌, ◌<◌, Bool, true, false, not, cond, ℤ, pos, negsuc, nat_abs, neg_ℤ, ◌+ℤ◌, ◌-ℤ◌, T, ltb, Float}
use Rattle.std.proofs.Common.{sym, ap, ◌∙◌, le_trans, lt_of_lt_of_le, mul_comm, mul_assoc, mul_left_comm, mul_right_comm, add-mul, mul-le-mul_left, mul-lt-mul_of_pos_right, mul-pos, zero-lt-suc, arith, true≢false, ltb→lt, nltb→le, lit≤, pow-add, pow_pos, pow_mono}
use Rattle.std.proofs.Math.Nat.{mul-sub, eq_of_mul-eq-mul_right}
use Rattle.std.specs.Float.{nan, inf, fin, binary64}
use Rattle.std.specs.Float.Ieee.{up, down, round, sum, add, sub, neg}
use Rattle.std.specs.Float.Ieee.Fits.{down_pos}
use Rattle.std.specs.Float.Ieee.Exact.{HasValue, round_exact}
use Rattle.std.specs.Float.Ieee.Positive.{num, den}
use Rattle.std.specs.Float.Ieee.Scale.{finite}
use Rattle.binary64.specs.Rational.{plus, less}
use Rattle.binary64.specs.Integers.{add_parts, neg_plus, neg_less}
use Rattle.binary64.specs.Value.{over, under, neg_finite, neg_over, neg_under, neg_den}
use Rattle.binary64.specs.Monotone.{over_scaled, under_scaled}

pub record At (g : ℕ) (x : Float) (z : ℤ) : Type 0 where
  pub is_finite : T (finite x)
  pub is : over x * 2 ^ g + less z * den x ≡ plus z * den x + under x * 2 ^ g

-- ---- the size alone
no_sum : (a b : ℕ) → 0 < a → a + b ≡ 0 → ⊥
no_sum a b h e = omega arith

pub at_size : (g : ℕ) (x : Float) (z : ℤ) → At g x z → num x * 2 ^ g ≡ nat_abs z * den x
at_size g nan z h = absurd h.is_finite
at_size g (inf s) z h = absurd h.is_finite
at_size g (fin false m e) (pos n) h = omega (arith, h.is)
at_size g (fin false m e) (negsuc n) h = absurd (no_sum (suc n * down e) (m * up e * 2 ^ g) (mul-pos (zero-lt-suc n) (down_pos e)) (omega (arith, h.is)))
at_size g (fin true m e) (pos n) h = omega (arith, h.is)
at_size g (fin true m e) (negsuc n) h = omega (arith, h.is)

-- ---- where rounding is exact
cut : (g : ℕ) → g ≤ 1074 → g + (1074 - g) ≡ 1074
cut g h = omega arith

pub round_on_grid : (s : Bool) (g a c n : ℕ) → g ≤ 1074 → 0 < c → n < 2 ^ 53 → a * 2 ^ g ≡ n * c → HasValue (round binary64 s a c) s a c
round_on_grid s g a c n G C N e =
    let j = 1074 - g in
    let p : 2 ^ g * 2 ^ j ≡ 2 ^ 1074 = sym (pow-add 2 g j) ∙ ap (λ (z : ℕ). 2 ^ z) (cut g G) in
    round_exact binary64 s a c n j C N
    (lt_of_lt_of_le (mul-lt-mul_of_pos_right N (pow_pos j)) (le_trans (mul-le-mul_left (2 ^ 53) (pow_mono {j = 1074} (omega arith))) (lit≤ tt)))
    (ap (λ (z : ℕ). a * z) (sym p) ∙ sym (mul_assoc a (2 ^ g) (2 ^ j)) ∙ ap (λ (z : ℕ). z * 2 ^ j) e ∙ mul_right_comm n c (2 ^ j))

-- ---- a number that has a value, by the numerator's parts
abbrev pub Parts : Float → ℕ → ℕ → ℕ → Type 0
Parts x p q c = T (finite x) × (over x * c + q * den x ≡ p * den x + under x * c)

pub value_parts : (x : Float) (s : Bool) (a c : ℕ) → HasValue x s a c → Parts x (cond s 0 a) (cond s a 0) c
value_parts nan s a c h = absurd h
value_parts (inf t) s a c h = absurd h
value_parts (fin false m e) false a c h = (tt, omega (arith, h.1))
value_parts (fin true m e) true a c h = (tt, omega (arith, h.1))
value_parts (fin false m e) true a c h = absurd (true≢false (sym h.0))
value_parts (fin true m e) false a c h = absurd (true≢false h.0)

pub same_parts : (x : Float) (p q p' q' c : ℕ) → p + q' ≡ p' + q → Parts x p q c → Parts x p' q' c
same_parts x p q p' q' c e h =
    let k = simp add-mul at (ap (λ (z : ℕ). z * den x) e) in
    (h.0, omega (arith, h.1))

module _ (g a b c m n : ℕ) (G : g ≤ 1074) (C : 0 < c) (N : m + n < 2 ^ 53) (A : a * 2 ^ g ≡ m * c) (B : b * 2 ^ g ≡ n * c) where
  together : (s : Bool) → HasValue (round binary64 s (a + b) c) s (a + b) c
  together s = round_on_grid s g (a + b) c (m + n) G C N (add-mul a b (2 ^ g) ∙ ap (λ (z : ℕ). z + b * 2 ^ g) A ∙ ap (λ (z : ℕ). m * c + z) B ∙ sym (add-mul m n c))

  apart : (s : Bool) → HasValue (round binary64 s (a - b) c) s (a - b) c
  apart s = round_on_grid s g (a - b) c (m - n) G C (omega arith)
      (mul_comm (a - b) (2 ^ g) ∙ mul-sub (2 ^ g) a b ∙ ap (λ (z : ℕ). z - 2 ^ g * b) (mul_comm (2 ^ g) a ∙ A ∙ mul_comm m c) ∙ ap (λ (z : ℕ). c * m - z) (mul_comm (2 ^ g) b ∙ B ∙ mul_comm n c) ∙ sym (mul-sub c m n) ∙ mul_comm c (m - n))

swap : (m n : ℕ) → m + n < 2 ^ 53 → n + m < 2 ^ 53
swap m n h = omega arith

-- ±a / c + ±b / c
sum_exact : (g : ℕ) (s : Bool) (a : ℕ) (t : Bool) (b c m n : ℕ) → g ≤ 1074 → 0 < c → m + n < 2 ^ 53 → a * 2 ^ g ≡ m * c → b * 2 ^ g ≡ n * c
    → Parts (sum binary64 s a t b c) (cond s 0 a + cond t 0 b) (cond s a 0 + cond t b 0) c
unfolding sum
sum_exact g false a false b c m n G C N A B = same_parts (round binary64 false (a + b) c) (a + b) 0 (a + b) (0 + 0) c (omega arith) (value_parts (round binary64 false (a + b) c) false (a + b) c (together g a b c m n G C N A B false))
sum_exact g true a true b c m n G C N A B = same_parts (round binary64 true (a + b) c) 0 (a + b) (0 + 0) (a + b) c (omega arith) (value_parts (round binary64 true (a + b) c) true (a + b) c (together g a b c m n G C N A B true))
sum_exact g false a true b c m n G C N A B = go (ltb a b) (ltb→lt a b) (nltb→le a b)
  where
    go : (w : Bool) → (T w → a < b) → (T (not w) → b ≤ a) → Parts (cond w (round binary64 true (b - a) c) (round binary64 false (a - b) c)) (a + 0) (0 + b) c
    go true h k = let l = h tt in same_parts (round binary64 true (b - a) c) 0 (b - a) (a + 0) (0 + b) c (omega arith) (value_parts (round binary64 true (b - a) c) true (b - a) c (apart g b a c n m G C (swap m n N) B A true))
    go false h k = let l = k tt in same_parts (round binary64 false (a - b) c) (a - b) 0 (a + 0) (0 + b) c (omega arith) (value_parts (round binary64 false (a - b) c) false (a - b) c (apart g a b c m n G C N A B false))
sum_exact g true a false b c m n G C N A B = go (ltb a b) (ltb b a) (ltb→lt a b) (nltb→le a b) (nltb→le b a)
  where
    go : (w u : Bool) → (T w → a < b) → (T (not w) → b ≤ a) → (T (not u) → a ≤ b) → Parts (cond w (round binary64 false (b - a) c) (round binary64 u (a - b) c)) (0 + b) (a + 0) c
    go true u h k i = let l = h tt in same_parts (round binary64 false (b - a) c) (b - a) 0 (0 + b) (a + 0) c (omega arith) (value_parts (round binary64 false (b - a) c) false (b - a) c (apart g b a c n m G C (swap m n N) B A false))
    go false true h k i = let l = k tt in same_parts (round binary64 true (a - b) c) 0 (a - b) (0 + b) (a + 0) c (omega arith) (value_parts (round binary64 true (a - b) c) true (a - b) c (apart g a b c m n G C N A B true))
    go false false h k i = let l = k tt in let r = i tt in same_parts (round binary64 false (a - b) c) (a - b) 0 (0 + b) (a + 0) c (omega arith) (value_parts (round binary64 false (a - b) c) false (a - b) c (apart g a b c m n G C N A B false))

-- ---- the operations
-- z = x + y, x = a / G and y = b / G give z = (a + b) / G, each number by its parts
combine : (oz uz dz ox ux dx oy uy dy G pa la pb lb P L : ℕ) → 0 < dx → 0 < dy
    → oz * (dx * dy) + (ux * dy + uy * dx) * dz ≡ (ox * dy + oy * dx) * dz + uz * (dx * dy)
    → ox * G + la * dx ≡ pa * dx + ux * G → oy * G + lb * dy ≡ pb * dy + uy * G → P + (la + lb) ≡ pa + pb + L
    → oz * G + L * dz ≡ P * dz + uz * G
combine oz uz dz ox ux dx oy uy dy G pa la pb lb P L X Y h x y p =
    let h' = simp (add-mul, mul_assoc, mul_comm, mul_left_comm) at (ap (λ (z : ℕ). z * G) h) in
    let x' = simp (add-mul, mul_assoc, mul_comm, mul_left_comm) at (ap (λ (z : ℕ). z * (dy * dz)) x) in
    let y' = simp (add-mul, mul_assoc, mul_comm, mul_left_comm) at (ap (λ (z : ℕ). z * (dx * dz)) y) in
    let p' = simp (add-mul, mul_assoc, mul_comm, mul_left_comm) at (ap (λ (z : ℕ). z * (dx * (dy * dz))) p) in
    eq_of_mul-eq-mul_right (dx * dy) (mul-pos X Y) (oz * G + L * dz) (P * dz + uz * G) (simp (add-mul, mul_assoc, mul_comm, mul_left_comm) (omega arith))

pub add_exact : (g : ℕ) (x y : Float) (a b : ℤ) → g ≤ 1074 → nat_abs a + nat_abs b < 2 ^ 53 → At g x a → At g y b → At g (add binary64 x y) (a +ℤ b)
unfolding add
add_exact g nan y a b G N h k = absurd h.is_finite
add_exact g (inf s) y a b G N h k = absurd h.is_finite
add_exact g (fin s m e) nan a b G N h k = absurd k.is_finite
add_exact g (fin s m e) (inf t) a b G N h k = absurd k.is_finite
add_exact g (fin s m e) (fin t n d) a b G N h k =
    let x = fin s m e in
    let y = fin t n d in
    let A = m * up e * down d in
    let B = n * up d * down e in
    let C = down e * down d in
    let z = sum binary64 s A t B C in
    let i : A * 2 ^ g ≡ nat_abs a * C = mul_right_comm (m * up e) (down d) (2 ^ g) ∙ ap (λ (w : ℕ). w * down d) (at_size g x a h) ∙ mul_assoc (nat_abs a) (down e) (down d) in
    let j : B * 2 ^ g ≡ nat_abs b * C = mul_right_comm (n * up d) (down e) (2 ^ g) ∙ ap (λ (w : ℕ). w * down e) (at_size g y b k) ∙ mul_right_comm (nat_abs b) (down d) (down e) ∙ mul_assoc (nat_abs b) (down e) (down d) in
    let r = sum_exact g s A t B C (nat_abs a) (nat_abs b) G (mul-pos (down_pos e) (down_pos d)) N i j in
    let q : over z * C + (under x * down d + under y * down e) * den z ≡ (over x * down d + over y * down e) * den z + under z * C =
    rw (← over_scaled s m e (down d), ← over_scaled t n d (down e), ← under_scaled s m e (down d), ← under_scaled t n d (down e)) r.1 in
    record {
      is_finite = r.0;
      is = combine (over z) (under z) (den z) (over x) (under x) (down e) (over y) (under y) (down d) (2 ^ g) (plus a) (less a) (plus b) (less b) (plus (a +ℤ b)) (less (a +ℤ b))
          (down_pos e) (down_pos d) q h.is k.is (add_parts a b);
    }

pub neg_exact : (g : ℕ) (x : Float) (a : ℤ) → At g x a → At g (neg x) (neg_ℤ a)
neg_exact g x a h = record {
  is_finite = neg_finite x h.is_finite;
  is = rw (neg_over x, neg_under x, neg_den x, neg_plus a, neg_less a) (omega (arith, h.is));
}

pub neg_size : (a : ℤ) → nat_abs (neg_ℤ a) ≡ nat_abs a
neg_size (pos zero) = refl
neg_size (pos (suc n)) = refl
neg_size (negsuc n) = refl

pub sub_exact : (g : ℕ) (x y : Float) (a b : ℤ) → g ≤ 1074 → nat_abs a + nat_abs b < 2 ^ 53 → At g x a → At g y b → At g (sub binary64 x y) (a -ℤ b)
unfolding sub
sub_exact g x y a b G N h k = add_exact g x (neg y) a (neg_ℤ b) G (rw (neg_size b) N) h (neg_exact g y b k)
