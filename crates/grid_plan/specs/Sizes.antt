-- Sizes of whole numbers over 128: which numbers a job and a plan have, and between which a sum or difference is exact. The hypotheses of crate grid_sheet's record `Numbers`. Definitions only.
-- Assumes nothing.
use Rattle.std.specs.Prelude.{ℕ, ◌+◌, ◌^◌, ◌≤◌, ◌<◌, ◌≡◌, ℤ, nat_abs, Option, Some, None}
use Rattle.binary64.specs.Rational.{less}
use Rattle.grid.specs.On.{Even}

-- even, and at most n in size
pub record Sized (n : ℕ) (z : ℤ) : Type 0 where
  pub even : Even z
  pub size : nat_abs z ≤ n

-- of a number that may be absent
abbrev pub OfOption : (ℤ → Type 0) → Option ℤ → Type 0
OfOption P None = Unit {0}
OfOption P (Some z) = P z

-- sum and difference of the two are exact
abbrev pub Fit : ℤ → ℤ → Type 0
Fit a b = nat_abs a + nat_abs b < 2 ^ 53

-- a coordinate: at most 2 ^ 20, so 2 ^ 27 over 128
abbrev pub Near : ℤ → Type 0
Near z = nat_abs z ≤ 2 ^ 27

-- a planned x
abbrev pub Placed : Option ℤ → Type 0
Placed o = OfOption Near o

-- a number of a job: a multiple of 1/64, at most 2 ^ 20
abbrev pub Job : ℤ → Type 0
Job z = Sized (2 ^ 27) z

-- a size or an option of a job
abbrev pub Length : ℤ → Type 0
Length z = Job z × (less z ≡ 0)
