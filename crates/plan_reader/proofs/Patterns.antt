-- What the tests on a planned number's pattern say. Assumes nothing.
use Prim.Native.Nat.{ℕ, zero, suc, ◌*◌, ◌%◌, ◌^◌, ◌≤◌, ◌<◌}
use mathlib.Core.Path.{◌≡◌, refl, sym, ap, ◌∙◌, subst}
use mathlib.Core.Bool.{Bool, true, false, not, ◌&&◌, cond, true≢false}
use native.Mathlib.Omega.{arith}
use lib.Dec.{T, eqb, lt→ltb}
use lib.IntN.{ℤ, pos}
use lib.Ieee.{Float, nan, inf, fin, binary64, of_bits, to_bits, fits, is_nan, le, eq, ones, hid, top}
use lib.Ieee.Bits.{nan_bits_is, nan_bits_above, to_bits-of_bits, of_bits-fits}
use borrow.Author.Tests.{eqb-true, not-true, not-false}
use Rattle.binary64.specs.Accepted.{minus_zero, plus_zero, is_coordinate, accepted}
use Rattle.binary64.proofs.Sign.{no_exponent}
use Rattle.grid.specs.DraftingGrid.{on_plan_grid}
use Rattle.wire.proofs.AcceptLaws.{not_nan}
use Rattle.plan_bytes.specs.PlanBytes.{plannable}
use Rattle.plan_bytes.specs.PlanNumbers.{lowest, highest, coordinate_tests}
use Rattle.std.specs.Prelude.{Some, None}
use Rattle.std.specs.Bool.{then_some}
use Rattle.plan_reader.specs.Reading.{judged}

nan_out : (grid : Bool) (x : Float) → T (is_nan x) → plannable grid x ≡ false
unfolding is_nan plannable plus_zero accepted eq
nan_out grid nan t = refl
nan_out grid (inf s) t = absurd t
nan_out grid (fin s m e) t = absurd t

pub nan_judged : (grid : Bool) (b : ℕ) → 0x7ff0_0000_0000_0000 < b % 2 ^ 63 → None ≡ judged grid b
nan_judged grid b h =
    rw (nan_out grid (of_bits binary64 b) (subst T (nan_bits_is binary64 b) (subst T (sym (nan_bits_above binary64 b)) (lt→ltb (ones binary64 * hid binary64) (b % top binary64) h))))

-- ---- minus zero is one pattern
pattern_of_it : to_bits binary64 (fin true 0 (pos 0)) ≡ 2 ^ 63
unfolding to_bits
pattern_of_it = refl

minus_zero_is : (x : Float) → T (fits binary64 x) → minus_zero x ≡ true → x ≡ fin true 0 (pos 0)
unfolding minus_zero fits
minus_zero_is nan f t = absurd (true≢false (sym t))
minus_zero_is (inf s) f t = absurd (true≢false (sym t))
minus_zero_is (fin true zero e) f t = ap (λ (z : ℤ). fin true 0 z) (no_exponent e f)
minus_zero_is (fin true (suc m) e) f t = absurd (omega (arith, eqb-true (suc m) 0 t))
minus_zero_is (fin false m e) f t = absurd (true≢false (sym t))

its_pattern : minus_zero (of_bits binary64 (2 ^ 63)) ≡ true
unfolding of_bits minus_zero
its_pattern = refl

pub other_pattern : (b : ℕ) → b < 2 ^ 64 → b % 2 ^ 63 ≤ 0x7ff0_0000_0000_0000 → not (eqb b 0x8000_0000_0000_0000) ≡ not (minus_zero (of_bits binary64 b))
other_pattern b h n = go (eqb b 0x8000_0000_0000_0000) refl (minus_zero (of_bits binary64 b)) refl
  where
    go : (s : Bool) → eqb b 0x8000_0000_0000_0000 ≡ s → (t : Bool) → minus_zero (of_bits binary64 b) ≡ t → not s ≡ not t
    go true e true f = refl
    go true e false f = absurd (true≢false (sym its_pattern ∙ ap (λ (z : ℕ). minus_zero (of_bits binary64 z)) (sym (eqb-true b 0x8000_0000_0000_0000 e)) ∙ f))
    go false e true f =
        let w : b ≡ 2 ^ 63 = sym (to_bits-of_bits binary64 b h (subst (λ (z : Bool). T (not z)) (nan_bits_is binary64 b) (not_nan b n))) ∙ ap (to_bits binary64) (minus_zero_is (of_bits binary64 b) (of_bits-fits binary64 b) f) ∙ pattern_of_it in
        absurd (true≢false (sym (ap (λ (z : ℕ). eqb z 0x8000_0000_0000_0000) w) ∙ e))
    go false e false f = refl

-- ---- the two ends of the test
true_right : (t : Bool) → (t && true) ≡ t
true_right true = refl
true_right false = refl

-- bit 2 is clear
pub passes : (grid : Bool) (b : ℕ) → not grid ≡ true → (le lowest (of_bits binary64 b) && le (of_bits binary64 b) highest) ≡ plannable grid (of_bits binary64 b)
unfolding plannable
passes grid b clear =
    sym (ap (λ (t : Bool). is_coordinate (plus_zero (of_bits binary64 b)) && cond t (not (minus_zero (of_bits binary64 b)) && on_plan_grid (of_bits binary64 b)) true) (not-true grid clear)
    ∙ true_right (is_coordinate (plus_zero (of_bits binary64 b))) ∙ coordinate_tests (of_bits binary64 b))

-- bit 2 is set
pub passes_on_grid : (grid : Bool) (b : ℕ) → not grid ≡ false → b < 2 ^ 64 → b % 2 ^ 63 ≤ 0x7ff0_0000_0000_0000 → (on : Bool) → on ≡ on_plan_grid (of_bits binary64 b)
    → ((le lowest (of_bits binary64 b) && le (of_bits binary64 b) highest) && (not (eqb b 0x8000_0000_0000_0000) && on)) ≡ plannable grid (of_bits binary64 b)
unfolding plannable
passes_on_grid grid b set h n on e =
    let x = of_bits binary64 b in
    ap (λ (t : Bool). t && (not (eqb b 0x8000_0000_0000_0000) && on)) (sym (coordinate_tests x))
    ∙ ap (λ (t : Bool). is_coordinate (plus_zero x) && (t && on)) (other_pattern b h n)
    ∙ ap (λ (t : Bool). is_coordinate (plus_zero x) && (not (minus_zero x) && t)) e
    ∙ ap (λ (t : Bool). is_coordinate (plus_zero x) && cond t (not (minus_zero x) && on_plan_grid x) true) (sym (not-false grid set))

-- the number where the test passes
pub given : (grid : Bool) (b : ℕ) (t : Bool) → t ≡ plannable grid (of_bits binary64 b) → then_some t (of_bits binary64 b) ≡ judged grid b
given grid b t e = rw e (by_test (plannable grid (of_bits binary64 b)))
  where
    by_test : (p : Bool) → then_some p (of_bits binary64 b) ≡ cond p (Some (of_bits binary64 b)) None
    by_test true = refl
    by_test false = refl
