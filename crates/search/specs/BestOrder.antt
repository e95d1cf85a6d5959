-- What the best x of a search is: the order of x by role, what an answer says, and bounds of which the desired x is the better one. Definitions of theorems.
-- Assumes nothing.
use Rattle.std.specs.Prelude.{List, T, Float, Option}
use Rattle.std.specs.Float.Ieee.{le, eq}
use Rattle.binary64.specs.Rational.{Fraction, AtMostℚ, value}
use Rattle.geometry.specs.declared.Role.{Role}
use Rattle.geometry.specs.declared.Role.TheVariants.{Input, Output}
use Rattle.search.specs.declared.Outcome.{Outcome}
use Rattle.search.specs.declared.Outcome.TheVariants.{Found, Nothing, Spent}
use Rattle.search.specs.declared.Bounds.{Bounds}
use Rattle.search.specs.Good.{Good, Real}

-- q is no better than x
abbrev pub UpToℚ : Role → Fraction → Float → Type 0
UpToℚ Input q x = AtMostℚ q (value x)
UpToℚ Output q x = AtMostℚ (value x) q

-- what an answer says
abbrev pub Answers : Role → Bounds → List (List (Option (Float × Float))) → Outcome → Type 0
Answers role b ms (Found x) = Real x × Good b ms (value x) × ((q : Fraction) → Good b ms q → UpToℚ role q x)
Answers role b ms Nothing = (q : Fraction) → Good b ms q → ⊥
Answers role b ms Spent = ⊥

-- x is no better than y
abbrev pub UpTo : Role → Float → Float → Type 0
UpTo Input x y = T (le x y)
UpTo Output x y = T (le y x)

-- the end that is the better one
abbrev pub far : Role → Float → Float → Float
far Input low high = high
far Output low high = low

-- Bounds of which the desired x is the better one. Without `ordered` the theorem fails: minimum 20, maximum and desired 5, run (0,0)-(10,0), Input, pitch 4 finds 5.
pub record Fair (role : Role) (b : Bounds) : Type 0 where
  pub minimum_real : Real b.minimum
  pub desired_real : Real b.desired
  pub maximum_real : Real b.maximum
  pub ordered : T (le b.minimum b.maximum)
  pub aimed : T (eq b.desired (far role b.minimum b.maximum))
