-- The same-place test is plain equality on the grid, the pitch less the tolerance is the pitch to every distance of the grid, and totalOrder is the order of the whole numbers.
-- Assumes nothing.
use Rattle.std.specs.Prelude.{◌≡◌, refl, ℕ, zero, suc, ◌+◌, ◌^◌, ◌≤◌, ◌<◌, Bool, true, false, not, ℤ, pos, negsuc, nat_abs, ◌-ℤ◌, T, leb, eqb, Float}
use Rattle.std.proofs.Common.{sym, ap, ◌∙◌, subst, arith, leb→le, le→leb, eqb→eq, lit≤}
use Rattle.std.proofs.Math.Dec.{nleb→lt}
use Rattle.std.specs.Float.{fin, binary64}
use Rattle.std.specs.Float.Ieee.{sub, lt, le, of_bits}
use Rattle.std.specs.Float.Ieee.Fits.{eq→eqb}
use Rattle.std.specs.Float.Ieee.Scale.{finite}
use Rattle.std.specs.Float.Ieee.Bits.{is_true}
use Rattle.binary64.specs.Bools.{as_one, is_false}
use Rattle.binary64.specs.Order.{magnitude, tolerance, near}
use Rattle.binary64.proofs.Kind.{finite_between}
use Rattle.binary64.specs.Value.{lt_not_le, le_trans_finite}
use Rattle.binary64.specs.Monotone.{sub_mono}
use Rattle.binary64.specs.ExactOnGrid.{At}
use Rattle.binary64.specs.Accepted.{zero64}
use Rattle.binary64.specs.Rational.{plus, less}
use Rattle.binary64.specs.Integers.{abs_parts, sub_parts_ℤ}
use Rattle.binary64.specs.ExactOnGrid.{sub_exact}
use Rattle.grid.proofs.GridArithmetic.{Belowℤ→lt}
use Rattle.grid.specs.On.{on, at_most, same}
use Rattle.grid.proofs.OnLaws.{on_at, on_finite, on_zero}
use Rattle.grid.proofs.Operations.{le_on, sub_on, magnitude_on}
use Rattle.grid.proofs.Lanes.{finer}

-- ---- the tolerance lies between nothing and a 256th
fine_tolerance : T (finite tolerance)
unfolding of_bits
fine_tolerance = tt

one_above : T (lt tolerance (on (pos 1)))
unfolding of_bits on lt
one_above = tt

abbrev fine : Float
fine = fin false 1 (negsuc 7)

tolerance_fine : T (le tolerance fine)
unfolding of_bits le
tolerance_fine = tt

zero_tolerance : T (le zero64 tolerance)
unfolding of_bits le
zero_tolerance = tt

pub within_tolerance : (n : ℕ) → le (on (pos n)) tolerance ≡ eqb n 0
within_tolerance zero = zero_case
  where
    zero_case : le (on (pos 0)) tolerance ≡ eqb 0 0
    zero_case = rw on_zero (is_true (le zero64 tolerance) zero_tolerance)
within_tolerance (suc n) =
    is_false (le (on (pos (suc n))) tolerance) (λ (h : T (le (on (pos (suc n))) tolerance)).
    let one : T (at_most (pos 1) (pos (suc n))) = le→leb (1 + 0) (suc n + 0) (omega arith) in
    let l : T (le (on (pos 1)) (on (pos (suc n)))) = subst T (sym (le_on (pos 1) (pos (suc n)))) one in
    lt_not_le tolerance (on (pos 1)) fine_tolerance (on_finite (pos 1)) one_above (le_trans_finite (on (pos 1)) (on (pos (suc n))) tolerance (on_finite (pos 1)) (on_finite (pos (suc n))) fine_tolerance l h))
    ∙ sym (is_false (eqb (suc n) 0) (λ (w : T (eqb (suc n) 0)). let z = eqb→eq (suc n) 0 w in absurd (omega arith)))

no_distance : (a b : ℤ) → eqb (nat_abs (a -ℤ b)) 0 ≡ same a b
no_distance a b =
    let p = sub_parts_ℤ a b in
    let q = abs_parts (a -ℤ b) in
    as_one (eqb (nat_abs (a -ℤ b)) 0) (same a b)
    (λ t. let e = eqb→eq (nat_abs (a -ℤ b)) 0 t in eq→eqb (near_zero (plus (a -ℤ b)) (less (a -ℤ b)) (nat_abs (a -ℤ b)) (plus a) (less a) (plus b) (less b) p q e))
    (λ t. let e = eqb→eq (plus a + less b) (plus b + less a) t in eq→eqb (same_zero (a -ℤ b) (plus a) (less a) (plus b) (less b) p e))
  where
    near_zero : (P L n pa la pb lb : ℕ) → P + (la + pb) ≡ pa + lb + L → n ≡ P + L → n ≡ 0 → pa + lb ≡ pb + la
    near_zero P L n pa la pb lb p q e = omega arith

    same_zero : (z : ℤ) (pa la pb lb : ℕ) → plus z + (la + pb) ≡ pa + lb + less z → pa + lb ≡ pb + la → nat_abs z ≡ 0
    same_zero (pos n) pa la pb lb p e = omega arith
    same_zero (negsuc n) pa la pb lb p e = absurd (omega arith)

-- THE SAME PLACE, in one coordinate, is plain equality
pub near_on : (a b : ℤ) → nat_abs a + nat_abs b < 2 ^ 53 → near (on a) (on b) ≡ same a b
unfolding near
near_on a b h = ap (λ (x : Float). le (magnitude x) tolerance) (sub_on a b h) ∙ ap (λ (x : Float). le x tolerance) (magnitude_on (a -ℤ b)) ∙ within_tolerance (nat_abs (a -ℤ b)) ∙ no_distance a b

-- ---- LANE SEPARATION: at least the pitch less the tolerance is at least the pitch
pub apart_on : (p d : ℕ) → p < 2 ^ 52 → le (sub binary64 (on (pos p)) tolerance) (on (pos d)) ≡ leb p d
apart_on p d h = as_one (le less_tolerance (on (pos d))) (leb p d) forth back
  where
    less_tolerance : Float
    less_tolerance = sub binary64 (on (pos p)) tolerance

    high : sub binary64 (on (pos p)) zero64 ≡ on (pos p)
    high = rw (← on_zero) (sub_on (pos p) (pos 0) (omega arith) ∙ ap (λ (n : ℕ). on (pos n)) (add_nothing p))
      where
        add_nothing : (p : ℕ) → p + 0 ≡ p
        add_nothing p = omega arith

    to_high : T (le (sub binary64 (on (pos p)) tolerance) (on (pos p)))
    to_high = subst (λ (x : Float). T (le (sub binary64 (on (pos p)) tolerance) x)) high
        (sub_mono (on (pos p)) (on (pos p)) tolerance zero64 (on_finite (pos p)) (on_finite (pos p)) fine_tolerance tt (subst T (sym (le_on (pos p) (pos p))) (le→leb (p + 0) (p + 0) (omega arith))) zero_tolerance)

    from_low : T (le (sub binary64 (on (pos p)) fine) (sub binary64 (on (pos p)) tolerance))
    from_low = sub_mono (on (pos p)) (on (pos p)) fine tolerance (on_finite (pos p)) (on_finite (pos p)) tt fine_tolerance (subst T (sym (le_on (pos p) (pos p))) (le→leb (p + 0) (p + 0) (omega arith))) tolerance_fine

    low_at : At 8 (sub binary64 (on (pos p)) fine) (pos (p + p) -ℤ pos 1)
    low_at = sub_exact 8 (on (pos p)) fine (pos (p + p)) (pos 1) (lit≤ tt) (omega arith) (finer 7 (on (pos p)) (pos p) (on_at (pos p))) (record { is_finite = tt; is = refl })

    done : T (finite (sub binary64 (on (pos p)) tolerance))
    done = subst T (sym (finite_between (sub binary64 (on (pos p)) fine) (on (pos p)) (sub binary64 (on (pos p)) tolerance) low_at.is_finite (on_finite (pos p)) (is_true (le (sub binary64 (on (pos p)) fine) (sub binary64 (on (pos p)) tolerance)) from_low) (is_true (le (sub binary64 (on (pos p)) tolerance) (on (pos p))) to_high))) tt

    back : T (leb p d) → T (le (sub binary64 (on (pos p)) tolerance) (on (pos d)))
    back t =
        let k : p ≤ d = leb→le p d t in
        le_trans_finite (sub binary64 (on (pos p)) tolerance) (on (pos p)) (on (pos d)) done (on_finite (pos p)) (on_finite (pos d)) to_high
        (subst T (sym (le_on (pos p) (pos d))) (le→leb (p + 0) (d + 0) (omega arith)))

    forth : T (le (sub binary64 (on (pos p)) tolerance) (on (pos d))) → T (leb p d)
    forth t = decide (leb p d) (nleb→lt p d)
      where
        decide : (w : Bool) → (T (not w) → d < p) → T w
        decide true f = tt
        decide false f =
            let l : d < p = f tt in
            let q = sub_parts_ℤ (pos (p + p)) (pos 1) in
            absurd (lt_not_le (on (pos d)) (sub binary64 (on (pos p)) fine) (on_finite (pos d)) low_at.is_finite
            (Belowℤ→lt 8 (on (pos d)) (sub binary64 (on (pos p)) fine) (pos (d + d)) (pos (p + p) -ℤ pos 1) (finer 7 (on (pos d)) (pos d) (on_at (pos d))) low_at (omega arith))
            (le_trans_finite (sub binary64 (on (pos p)) fine) (sub binary64 (on (pos p)) tolerance) (on (pos d)) low_at.is_finite done (on_finite (pos d)) from_low t))
