-- Numbers of the format that are not minus zero. A rounded sum or difference is minus zero only where its first operand is: every number of the format is a multiple of its smallest one, so a sum that is not zero does not round to zero.
-- Assumes nothing.
use Rattle.std.specs.Prelude.{◌≡◌, refl, ℕ, zero, suc, ◌+◌, ◌-◌, ◌*◌, ◌^◌, ◌%◌, ◌≤◌, ◌<◌, Bool, not, ◌&&◌, cond, T, ltb, leb, eqb, ℤ, pos, negsuc, Float}
use Rattle.std.proofs.Common.{sym, ap, ◌∙◌, subst, le_trans, le_of_eq, lt_of_lt_of_le, one-mul, mul_comm, mul_assoc, mul_left_comm, add-mul, mul-pos, mul-le-mul_right, lt_of_mul-lt-mul_right, zero-lt-suc, mul-lt-mul_of_pos_right, lt_irrefl, arith, true≢false, leb-true, leb-false, leb→le, ltb→lt, pow-add, pow_pos}
use Rattle.std.proofs.Math.Bool.{true, false}
use Rattle.std.specs.Bool.{beq}
use Rattle.std.proofs.Math.Dec.{eqb-suc-zero}
use Rattle.std.proofs.Math.Pow.{pow-lt}
use Rattle.std.specs.Float.{nan, inf, fin, Format}
use Rattle.std.specs.Float.Ieee.{binary64, prec, emax, low, up, down, odd, units, round, sum, add, sub, neg, le, fits}
use Rattle.std.specs.Float.Ieee.Fits.{round_is, up_pos, down_pos, and_l, and_r, add-fits, sub-fits, neg-fits}
use Rattle.std.specs.Float.Ieee.Order.{round_mono, drop, kept}
use Rattle.std.specs.Float.Ieee.Scale.{finite}
use Rattle.std.specs.Float.Ieee.Positive.{positive, above, above_of_le}
use Rattle.binary64.specs.Accepted.{minus_zero, accepted, zero64}
use Rattle.binary64.specs.Range.{round_neg}
use Rattle.binary64.proofs.Sign.{no_exponent}

-- a number of the format that is not minus zero
abbrev pub Plain : Float → Type 0
Plain x = (minus_zero x ≡ false) × T (fits binary64 x)

pub zero_plain : Plain zero64
unfolding minus_zero fits
zero_plain = (refl, tt)

-- a number that is accepted from outside
pub accepted_plain : (low high x : Float) → accepted low high x ≡ true → T (fits binary64 x) → Plain x
unfolding accepted
accepted_plain low high x e f = (go (finite x) (minus_zero x) (le low x && le x high) e, f)
  where
    go : (a b c : Bool) → (a && (not b && c)) ≡ true → b ≡ false
    go true true c h = sym h
    go true false c h = refl
    go false b c h = absurd (true≢false (sym h))

-- ---- rounding

odd_plain : (d q k l : ℕ) → minus_zero (odd d false q k l) ≡ false
unfolding odd minus_zero
odd_plain d zero k l = refl
odd_plain d (suc q) k l = refl

units_plain : (f : Format) (q k : ℕ) → minus_zero (units f false q k) ≡ false
unfolding units minus_zero
units_plain f q k = go (ltb (q * 2 ^ k) (2 ^ (low f + suc (emax f))))
  where
    go : (b : Bool) → minus_zero (cond b (odd (suc (prec f)) false q k (low f)) (inf false)) ≡ false
    go true = odd_plain (suc (prec f)) q k (low f)
    go false = refl

-- what is not negative
pub round_plain : (a c : ℕ) → minus_zero (round binary64 false a c) ≡ false
round_plain a c = ap minus_zero (round_is binary64 false a c) ∙ units_plain binary64 (kept 53 (a * 2 ^ 1074) c) (drop 53 (a * 2 ^ 1074) c)

above_plain : (z : Float) → T (above z) → minus_zero (neg z) ≡ false
unfolding neg minus_zero
above_plain nan h = absurd h
above_plain (inf s) h = refl
above_plain (fin true m e) h = absurd h
above_plain (fin false zero e) h = absurd h
above_plain (fin false (suc m) e) h = eqb-suc-zero m

smallest : T (positive (round binary64 false 1 (2 ^ 1074)))
unfolding round
smallest = tt

-- what is negative, and at least the smallest number of the format in magnitude
round_negative : (a c : ℕ) → 0 < c → c ≤ a * 2 ^ 1074 → minus_zero (round binary64 true a c) ≡ false
round_negative a c C h =
    ap minus_zero (round_neg binary64 a c)
    ∙ above_plain (round binary64 false a c)
    (above_of_le (round binary64 false 1 (2 ^ 1074)) (round binary64 false a c) smallest (round_mono binary64 1 (2 ^ 1074) a c (pow_pos 1074) C (le_trans (le_of_eq (one-mul c)) h)))

-- ---- multiples of the smallest number

-- k of them are one
pub record Grid (e : ℤ) : Type 0 where
  pub k : ℕ
  pub is : down e * k ≡ 2 ^ 1074

grid : (e : ℤ) → down e ≤ 2 ^ 1074 → Grid e
grid (pos j) h = record { k = 2 ^ 1074; is = one-mul (2 ^ 1074) }
grid (negsuc j) h = go (leb (suc j) 1074) refl
  where
    go : (t : Bool) → leb (suc j) 1074 ≡ t → Grid (negsuc j)
    go true e =
        let l : suc j ≤ 1074 = omega (arith, leb-true) in
        let z : suc j + (1074 - suc j) ≡ 1074 = omega arith in
        record { k = 2 ^ (1074 - suc j); is = sym (pow-add 2 (suc j) (1074 - suc j)) ∙ ap (λ (i : ℕ). 2 ^ i) z }
    go false e =
        let l : 1074 < suc j = omega (arith, leb-false) in
        let p : 2 ^ 1074 < 2 ^ suc j = pow-lt l in
        absurd (lt_irrefl (2 ^ 1074) (lt_of_lt_of_le p h))

fits_down : (s : Bool) (m : ℕ) (e : ℤ) → T (fits binary64 (fin s m e)) → down e ≤ 2 ^ 1074
unfolding fits
fits_down s zero e h = subst (λ (z : ℤ). down z ≤ 2 ^ 1074) (sym (no_exponent e h)) (pow_pos 1074)
fits_down s (suc m) e h =
    let a = eqb (suc m % 2) 1 in
    let b = ltb (suc m) (2 ^ 53) in
    let c = leb (down e) (2 ^ 1074) in
    let d = ltb (suc m * up e) (2 ^ 1024 * down e) in
    leb→le (down e) (2 ^ 1074) (and_r (a && b) c (and_l (a && b && c) d h))

-- two multiples over the common denominator de * dd: where one is above the other, it is so by the smallest number or more
apart : (x ke de y kd dd g : ℕ) → 0 < g → 0 < de * dd → de * ke ≡ g → dd * kd ≡ g → x * dd < y * de → de * dd ≤ (y * de - x * dd) * g
apart x ke de y kd dd g G C p q h =
    let c = de * dd in
    let a : x * dd * g ≡ x * ke * c = ap (λ (z : ℕ). x * dd * z) (sym p) ∙ (simp (mul_assoc, mul_comm, mul_left_comm) refl) in
    let b : y * de * g ≡ y * kd * c = ap (λ (z : ℕ). y * de * z) (sym q) ∙ (simp (mul_assoc, mul_comm, mul_left_comm) refl) in
    let l : x * dd * g < y * de * g = mul-lt-mul_of_pos_right h G in
    let k : x * ke * c < y * kd * c = omega arith in
    let m : suc (x * ke) ≤ y * kd = lt_of_mul-lt-mul_right c k in
    let n : suc (x * ke) * c ≤ y * kd * c = mul-le-mul_right c m in
    let o : suc (x * ke) * c ≡ x * ke * c + c = omega (arith, add-mul (x * ke) 1 c, one-mul c) in
    let r : (y * de - x * dd) + x * dd ≡ y * de = omega arith in
    let t : (y * de - x * dd) * g + x * dd * g ≡ y * de * g = sym (add-mul (y * de - x * dd) (x * dd) g) ∙ ap (λ (z : ℕ). z * g) r in
    omega arith

-- ---- the operations

both_negative : (p de dd q g : ℕ) → 0 < p → de ≤ g → de * dd ≤ (p * dd + q) * g
both_negative p de dd q g P h =
    let a : de * dd ≤ g * dd = mul-le-mul_right dd h in
    let b : 1 * (g * dd) ≤ p * (g * dd) = mul-le-mul_right (g * dd) P in
    let c : p * (g * dd) ≡ p * dd * g = ap (λ (z : ℕ). p * z) (mul_comm g dd) ∙ sym (mul_assoc p dd g) in
    omega (arith, one-mul (g * dd), add-mul (p * dd) q g)

-- a negative number that is not minus zero
size_above : (m : ℕ) (e : ℤ) → minus_zero (fin true m e) ≡ false → 0 < m * up e
unfolding minus_zero
size_above zero e h = absurd (true≢false h)
size_above (suc m) e h = mul-pos (zero-lt-suc m) (up_pos e)

module _ (m : ℕ) (e : ℤ) (n : ℕ) (d : ℤ) (E : down e ≤ 2 ^ 1074) (D : down d ≤ 2 ^ 1074) where
  abbrev a : ℕ
  a = m * up e * down d

  abbrev b : ℕ
  b = n * up d * down e

  abbrev c : ℕ
  c = down e * down d

  C : 0 < c
  C = mul-pos (down_pos e) (down_pos d)

  -- the two have one sign, or the second is the larger one in magnitude, or the first is
  up_negative : a < b → minus_zero (round binary64 true (b - a) c) ≡ false
  unfolding C
  up_negative h =
      let i = grid e E in
      let j = grid d D in
      round_negative (b - a) c C (apart (m * up e) i.k (down e) (n * up d) j.k (down d) (2 ^ 1074) (pow_pos 1074) C i.is j.is h)

  down_negative : b < a → minus_zero (round binary64 true (a - b) c) ≡ false
  unfolding C
  down_negative h =
      let i = grid e E in
      let j = grid d D in
      let k : down d * down e ≤ (a - b) * 2 ^ 1074 = apart (n * up d) j.k (down d) (m * up e) i.k (down e) (2 ^ 1074) (pow_pos 1074) (mul-pos (down_pos d) (down_pos e)) j.is i.is h in
      round_negative (a - b) c C (le_trans (le_of_eq (mul_comm (down e) (down d))) k)

  sum_plain : (s t : Bool) → minus_zero (fin s m e) ≡ false → minus_zero (sum binary64 s a t b c) ≡ false
  unfolding sum C
  sum_plain false false h = round_plain (a + b) c
  sum_plain true true h = round_negative (a + b) c C (both_negative (m * up e) (down e) (down d) b (2 ^ 1074) (size_above m e h) E)
  sum_plain false true h = go (ltb a b) (ltb→lt a b)
    where
      go : (w : Bool) → (T w → a < b) → minus_zero (cond w (round binary64 true (b - a) c) (round binary64 false (a - b) c)) ≡ false
      go true f = up_negative (f tt)
      go false f = round_plain (a - b) c
  sum_plain true false h = go (ltb a b) (ltb b a) (ltb→lt b a)
    where
      go : (w u : Bool) → (T u → b < a) → minus_zero (cond w (round binary64 false (b - a) c) (round binary64 u (a - b) c)) ≡ false
      go true u f = round_plain (b - a) c
      go false true f = down_negative (f tt)
      go false false f = round_plain (a - b) c

add_not : (x y : Float) → minus_zero x ≡ false → T (fits binary64 x) → T (fits binary64 y) → minus_zero (add binary64 x y) ≡ false
unfolding add minus_zero
add_not nan y h f g = refl
add_not (inf s) nan h f g = refl
add_not (inf s) (inf t) h f g = go (beq s t)
  where
    go : (k : Bool) → minus_zero (cond k (inf s) nan) ≡ false
    go true = refl
    go false = refl
add_not (inf s) (fin t n d) h f g = refl
add_not (fin s m e) nan h f g = refl
add_not (fin s m e) (inf t) h f g = refl
add_not (fin s m e) (fin t n d) h f g = sum_plain m e n d (fits_down s m e f) (fits_down t n d g) s t h

pub add_plain : (x y : Float) → Plain x → T (fits binary64 y) → Plain (add binary64 x y)
add_plain x y p f = (add_not x y p.0 p.1 f, add-fits binary64 x y)

pub sub_plain : (x y : Float) → Plain x → T (fits binary64 y) → Plain (sub binary64 x y)
unfolding sub
sub_plain x y p f = (add_not x (neg y) p.0 p.1 (neg-fits binary64 y f), sub-fits binary64 x y)
