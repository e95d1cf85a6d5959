-- The number of 128ths of a number that can stand on the page: std's whole part of its product by 128. Assumes nothing.
use Rattle.std.specs.Prelude.{◌≡◌, refl, ℕ, zero, suc, ◌+◌, ◌-◌, ◌*◌, ◌/◌, ◌^◌, ◌<◌, min, Bool, true, false, cond, pos, negsuc, T, Float}
use Rattle.std.proofs.Common.{sym, ◌∙◌, mul-one, mul_right_comm, zero-lt-suc, mul-pos, arith, lit<}
use Rattle.std.specs.Float.{nan, inf, fin, binary64}
use Rattle.std.specs.Float.Ieee.{up, down, mul, lt, of_bits, to_unsigned}
use Rattle.std.specs.Float.Ieee.Fits.{down_pos}
use Rattle.std.specs.Float.Ieee.Nearest.{div_same}
use Rattle.std.specs.Float.Ieee.Positive.{den}
use Rattle.binary64.specs.Value.{over, under}
use Rattle.binary64.specs.ExactOnGrid.{At, at_size}
use Rattle.grid.proofs.GridArithmetic.{mul_exact, Belowℤ→lt}
use Rattle.grid.specs.On.{on}
use Rattle.grid.proofs.OnLaws.{on_at}
use Rattle.bundle_page.specs.Parts.{parts_of}
use Rattle.bundle_page.specs.PageTables.{OnPage}

whole_quotient : (a d k : ℕ) → 0 < d → a ≡ k * d → a / d ≡ k
whole_quotient a d k h e =
    let f : a * 1 ≡ k * d = mul-one a ∙ e in
    let g : k / 1 ≡ k = omega arith in
    div_same a d k 1 h (lit< tt) f ∙ g

pub parts_at : (x : Float) (k : ℕ) → At 7 x (pos k) → parts_of x ≡ k
unfolding parts_of
parts_at nan k h = absurd h.is_finite
parts_at (inf s) k h = absurd h.is_finite
parts_at (fin s m e) k h = whole_quotient (m * up e * 128) (down e) k (down_pos e) (at_size 7 (fin s m e) (pos k) h)

-- the number k / 128 has k parts
pub parts_on : (k : ℕ) → parts_of (on (pos k)) ≡ k
parts_on k = parts_at (on (pos k)) k (on_at (pos k))

pub page_on : (k : ℕ) → k < 2 ^ 40 → OnPage (on (pos k))
page_on k h = record { count = k; is = on_at (pos k); small = h }

-- the smaller or the larger of two numbers
pub chosen : (t : Bool) (x y : Float) → OnPage x → OnPage y → OnPage (cond t x y)
chosen true x y p q = p
chosen false x y p q = q

-- ---- the product by 128, and its whole part
abbrev pub float_128 : Float
float_128 = of_bits binary64 0x4060000000000000

at_128 : At 0 float_128 (pos 128)
unfolding of_bits
at_128 = record { is_finite = tt; is = refl }

scaled_down : (o u d k : ℕ) → o * 128 + 0 * d ≡ k * 128 * d + u * 128 → o * 1 + 0 * d ≡ k * d + u * 1
scaled_down o u d k h =
    let e : k * 128 * d ≡ k * d * 128 = mul_right_comm k 128 d in
    omega arith

least_of_both : (q k : ℕ) → k < 2 ^ 40 → q ≡ k → min q (2 ^ 64 - 1) ≡ k
least_of_both q k s e = omega arith

nothing : (d u k : ℕ) → 0 < d → 0 * 1 + 0 * d ≡ k * d + u * 1 → 0 ≡ k
nothing d u zero h e = refl
nothing d u (suc k) h e = absurd (omega (arith, mul-pos (zero-lt-suc k) h))

whole_part : (y : Float) (k : ℕ) → k < 2 ^ 40 → At 0 y (pos k) → to_unsigned 64 y ≡ k
unfolding to_unsigned
whole_part nan k s h = absurd h.is_finite
whole_part (inf t) k s h = absurd h.is_finite
whole_part (fin true m e) k s h = nothing (down e) (m * up e) k (down_pos e) h.is
whole_part (fin false m e) k s h =
    let q = h.is in
    least_of_both (m * up e / down e) k s (whole_quotient (m * up e) (down e) k (down_pos e) (omega arith))

module _ (x : Float) (p : OnPage x) where
  pub product_at : At 0 (mul binary64 x float_128) (pos p.count)
  product_at =
      let y = mul binary64 x float_128 in
      let s = p.small in
      let h : At 7 y (pos (p.count * 128)) = mul_exact 7 0 x float_128 (pos p.count) (pos 128) (omega arith) (omega arith) p.is at_128 in
      record { is_finite = h.is_finite; is = scaled_down (over y) (under y) (den y) p.count h.is }

  pub above_minus_one : T (lt (fin true 1 (pos 0)) (mul binary64 x float_128))
  above_minus_one =
      Belowℤ→lt 0 (fin true 1 (pos 0)) (mul binary64 x float_128) (negsuc 0) (pos p.count) (record { is_finite = tt; is = refl }) product_at (omega arith)

  pub below_2_64 : T (lt (mul binary64 x float_128) (fin false 1 (pos 64)))
  below_2_64 =
      let s = p.small in
      Belowℤ→lt 0 (mul binary64 x float_128) (fin false 1 (pos 64)) (pos p.count) (pos (2 ^ 64)) product_at (record { is_finite = tt; is = refl }) (omega arith)

  pub truncated : to_unsigned 64 (mul binary64 x float_128) ≡ parts_of x
  truncated = whole_part (mul binary64 x float_128) p.count p.small product_at ∙ sym (parts_at x p.count p.is)
