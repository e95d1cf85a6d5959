-- What the tests on a bit pattern say of a number that is taken. Assumes nothing.
use Rattle.std.specs.Prelude.{◌≡◌, ℕ, ◌+◌, ◌*◌, ◌%◌, ◌^◌, ◌≤◌, ◌<◌, Bool, true, false, not, cond, List, [], ◌∷◌, T, Float, Ok, Err}
use Rattle.std.proofs.Math.Path.{refl}
use Rattle.std.proofs.Common.{sym, subst, lt→ltb}
use Rattle.std.proofs.Math.Arith.{le→nltb}
use Rattle.std.specs.Float.Ieee.{nan, binary64, lt, le, eq, is_nan, nan_bits, of_bits, ones, hid, top}
use Rattle.std.specs.Float.{inf, fin}
use Rattle.std.specs.Float.Ieee.Bits.{nan_bits_is, nan_bits_above}
use Rattle.std.specs.Float.Ieee.Scale.{finite}
use Rattle.binary64.specs.Bools.{all_but}
use Rattle.binary64.specs.Accepted.{zero64, minus_zero, plus_zero, accepted}
use Rattle.binary64.proofs.Kind.{finite_between, plus_zero_plain}
use Rattle.wire.specs.Bytes.{number_on}
use Rattle.wire.specs.Read.{refused, got, after, field, told}
use Rattle.refusal.specs.declared.Refusal.TheVariants.{NumberOutOfRange}
use Rattle.grid.specs.DraftingGrid.{multiple_within}
use Rattle.wire.specs.Accept.{gridded, number_in_bits, number_of, taken, coordinate, size, option}

pub not_nan : (n : ℕ) → n % 2 ^ 63 ≤ 0x7ff0_0000_0000_0000 → T (not (nan_bits binary64 n))
not_nan n h = subst (λ (b : Bool). T (not b)) (sym (nan_bits_above binary64 n)) (le→nltb (ones binary64 * hid binary64) (n % top binary64) h)

module _ (low high : Float) (n : ℕ) where
  refused_by : accepted low high (number_in_bits n) ≡ false → number_of low high n ≡ Err NumberOutOfRange
  unfolding number_of
  refused_by e = rw e

  nan_refused : (x : Float) → T (is_nan x) → accepted low high (plus_zero x) ≡ false
  unfolding is_nan accepted plus_zero eq
  nan_refused nan t = refl
  nan_refused (inf s) t = absurd t
  nan_refused (fin s m e) t = absurd t

  pub nan_bad : 0x7ff0_0000_0000_0000 < n % 2 ^ 63 → number_of low high n ≡ Err NumberOutOfRange
  nan_bad h =
      refused_by (nan_refused (of_bits binary64 n) (subst T (nan_bits_is binary64 n) (subst T (sym (nan_bits_above binary64 n)) (lt→ltb (ones binary64 * hid binary64) (n % top binary64) h))))

  pub below_bad : le low (number_in_bits n) ≡ false → number_of low high n ≡ Err NumberOutOfRange
  unfolding accepted
  below_bad e = let x = number_in_bits n in refused_by (rw e (all_but (finite x) (not (minus_zero x)) (le x high)).0)

  pub above_bad : le (number_in_bits n) high ≡ false → number_of low high n ≡ Err NumberOutOfRange
  unfolding accepted
  above_bad e = let x = number_in_bits n in refused_by (rw e (all_but (finite x) (not (minus_zero x)) (le low x)).1)

  pub in_range_good : T (finite low) → T (finite high) → le low (number_in_bits n) ≡ true → le (number_in_bits n) high ≡ true → number_of low high n ≡ Ok (number_in_bits n)
  unfolding number_of accepted
  in_range_good l h a b = let x = number_in_bits n in rw (a, b, finite_between low high x l h a b, plus_zero_plain (of_bits binary64 n))

told_cond : (b : Bool) (x : Float) (rest : List ℕ) → told (cond b (Ok x) (Err NumberOutOfRange)) rest ≡ cond b (got x rest) (refused 7)
told_cond true x rest = refl
told_cond false x rest = refl

pub told_of : (low high : Float) (n : ℕ) (rest : List ℕ) → told (number_of low high n) rest ≡ taken low high (number_in_bits n) rest
unfolding number_of taken
told_of low high n rest = told_cond (accepted low high (number_in_bits n)) (number_in_bits n) rest

-- ---- closed cases
-- the eight bytes of minus zero are plus zero in every kind of field
pub minus_zero_read : (grid : Bool) → let bytes : List ℕ = 128 ∷ 0 ∷ 0 ∷ 0 ∷ 0 ∷ 0 ∷ 0 ∷ 0 ∷ [] in (coordinate grid bytes ≡ got zero64 []) × (size grid bytes ≡ got zero64 []) × (option grid bytes ≡ got zero64 [])
unfolding after field number_on taken gridded multiple_within accepted minus_zero plus_zero of_bits le lt eq
minus_zero_read true = (refl, refl, refl)
minus_zero_read false = (refl, refl, refl)

-- the number below it stays: a coordinate, and below the range of a size and of an option
pub below_zero_read : let bytes : List ℕ = 128 ∷ 0 ∷ 0 ∷ 0 ∷ 0 ∷ 0 ∷ 0 ∷ 1 ∷ [] in (coordinate false bytes ≡ got (of_bits binary64 (2 ^ 63 + 1)) []) × (size false bytes ≡ refused 7) × (option false bytes ≡ refused 7)
unfolding after field number_on taken gridded accepted minus_zero plus_zero of_bits le lt eq
below_zero_read = (refl, refl, refl)
