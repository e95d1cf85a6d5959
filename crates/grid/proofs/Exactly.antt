-- `on z` is the exact fraction z / 128, in the words of document 01: a whole number over a whole number above zero, cross-multiplied. And a number of the grid is on the drafting grid exactly if its whole number is even and at most 2 ^ 27.
-- Assumes nothing.
use Rattle.std.specs.Prelude.{◌≡◌, ℕ, ◌+◌, ◌*◌, ◌%◌, ◌^◌, ◌≤◌, true, ℤ, nat_abs, T, eqb, leb, Float}
use Rattle.std.proofs.Common.{ap, ◌∙◌, subst, le_trans, le_of_eq, mul-le-mul_right, mul_right_comm, le_of_mul-le-mul_right, arith, le→leb, pow_pos}
use Rattle.std.proofs.Math.Nat.{mul-mod_left}
use Rattle.std.specs.Float.{nan, inf, fin}
use Rattle.std.specs.Float.Ieee.{up, down}
use Rattle.std.specs.Float.Ieee.Fits.{and_i, eq→eqb}
use Rattle.std.specs.Float.Ieee.Positive.{den}
use Rattle.std.specs.Float.Ieee.Bits.{is_true}
use Rattle.binary64.specs.Value.{over, under}
use Rattle.binary64.proofs.Fraction.{cross_plus, cross_less, value_plus, value_less, value_den}
use Rattle.binary64.specs.ExactOnGrid.{At}
use Rattle.binary64.specs.Rational.{plus, less, Sameℚ, cross, value}
use Rattle.binary64.specs.Integers.{by_parts}
use Rattle.binary64.specs.ExactOnGrid.{at_size}
use Rattle.grid.specs.On.{on, over_128, Even}
use Rattle.grid.proofs.OnLaws.{on_at}
use Rattle.grid.proofs.Lanes.{double_size, coarser}
use Rattle.grid.specs.DraftingGrid.{multiple_within, on_drafting_grid, on_plan_grid}

pub on_value : (z : ℤ) → Sameℚ (value (on z)) (over_128 z)
on_value z =
    let x = on z in
    let h = (on_at z).is in
    by_parts (cross (value x) (over_128 z)) (cross (over_128 z) (value x))
    (same (plus (cross (value x) (over_128 z))) (less (cross (value x) (over_128 z))) (plus (cross (over_128 z) (value x))) (less (cross (over_128 z) (value x))) (over x) (under x) (den x) (plus z) (less z)
    (cross_plus (value x) (over_128 z) ∙ ap (λ (k : ℕ). k * 128) (value_plus x)) (cross_less (value x) (over_128 z) ∙ ap (λ (k : ℕ). k * 128) (value_less x))
    (cross_plus (over_128 z) (value x) ∙ ap (λ (k : ℕ). plus z * k) (value_den x)) (cross_less (over_128 z) (value x) ∙ ap (λ (k : ℕ). less z * k) (value_den x)) h)
  where
    same : (a b c d o u e p l : ℕ) → a ≡ o * 128 → b ≡ u * 128 → c ≡ p * e → d ≡ l * e → o * 2 ^ 7 + l * e ≡ p * e + u * 2 ^ 7 → a + d ≡ c + b
    same a b c d o u e p l A B C D h = omega arith

-- ---- back from the whole number to the test
pub tested : (g : ℕ) (x : Float) (h : ℤ) → At g x h → nat_abs h ≤ 2 ^ 20 * 2 ^ g → T (multiple_within g x)
unfolding multiple_within
tested g nan h a s = absurd a.is_finite
tested g (inf t) h a s = absurd a.is_finite
tested g (fin t m e) h a s =
    let z : m * up e * 2 ^ g ≡ nat_abs h * down e = at_size g (fin t m e) h a in
    let r : m * up e * 2 ^ g % down e ≡ 0 = ap (λ (k : ℕ). k % down e) z ∙ mul-mod_left (nat_abs h) (down e) in
    let l : m * up e * 2 ^ g ≤ 2 ^ 20 * down e * 2 ^ g = le_trans (le_of_eq z) (le_trans (mul-le-mul_right (down e) s) (le_of_eq (mul_right_comm (2 ^ 20) (2 ^ g) (down e)))) in
    and_i (eqb (m * up e * 2 ^ g % down e) 0) (leb (m * up e) (2 ^ 20 * down e)) (eq→eqb r) (le→leb (m * up e) (2 ^ 20 * down e) (le_of_mul-le-mul_right {k = 2 ^ g} l (pow_pos g)))

pub even_is_drafting : (z : ℤ) → Even z → nat_abs z ≤ 2 ^ 27 → on_drafting_grid (on z) ≡ true
even_is_drafting z e s =
    let h = e.half in
    let k : nat_abs h + nat_abs h ≤ 2 ^ 27 = subst (λ (n : ℕ). n ≤ 2 ^ 27) (ap nat_abs e.is ∙ double_size h) s in
    is_true (on_drafting_grid (on z)) (tested 6 (on z) h (coarser 6 (on z) h (subst (λ (w : ℤ). At 7 (on z) w) e.is (on_at z))) (omega arith))

-- a number of the grid of 1/128 that is at most 2 ^ 20
pub near_is_planned : (z : ℤ) → nat_abs z ≤ 2 ^ 27 → on_plan_grid (on z) ≡ true
near_is_planned z s = is_true (on_plan_grid (on z)) (tested 7 (on z) z (on_at z) (omega arith))
