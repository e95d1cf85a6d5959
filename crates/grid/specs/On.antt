-- A whole number z as the number z / 128 of binary64, and the order of whole numbers: what document 02's F-2 calls "the exact fraction over 128, the definition being in whole numbers". Definitions only.
-- Assumes nothing.
use Rattle.std.specs.Prelude.{suc, ◌+◌, ◌/◌, ◌≡◌, Bool, true, false, cond, ℤ, pos, negsuc, ◌+ℤ◌, ltb, leb, eqb, Float}
use Rattle.std.specs.Float.Ieee.{odd}
use Rattle.std.proofs.Common.{zero-lt-suc}
use Rattle.binary64.specs.Rational.{plus, less, Fraction}

-- z / 128, written the one way that binary64 has for it
unfoldable pub on : ℤ → Float
on (pos n) = odd 54 false n 1067 1074
on (negsuc n) = odd 54 true (suc n) 1067 1074

-- the exact fraction z / 128, as document 01 has fractions
abbrev pub over_128 : ℤ → Fraction
over_128 z = record { numerator = z; denominator = 128; above_zero = zero-lt-suc 127 }

-- ---- the order of whole numbers
abbrev pub below : ℤ → ℤ → Bool
below a b = ltb (plus a + less b) (plus b + less a)

abbrev pub at_most : ℤ → ℤ → Bool
at_most a b = leb (plus a + less b) (plus b + less a)

abbrev pub same : ℤ → ℤ → Bool
same a b = eqb (plus a + less b) (plus b + less a)

abbrev pub smaller : ℤ → ℤ → ℤ
smaller a b = cond (below b a) b a

abbrev pub larger : ℤ → ℤ → ℤ
larger a b = cond (below a b) b a

-- half of a whole number, rounded down; of an even one it is the half
abbrev pub half_of : ℤ → ℤ
half_of (pos n) = pos (n / 2)
half_of (negsuc n) = negsuc (n / 2)

-- in the order in which candidates are tried
abbrev pub comes : Bool → ℤ → ℤ → Bool
comes falling a b = cond falling (at_most b a) (at_most a b)

-- the whole number is even: a multiple of 1/64
pub record Even (z : ℤ) : Type 0 where
  pub half : ℤ
  pub is : z ≡ half +ℤ half
