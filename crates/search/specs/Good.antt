-- Which x, as exact fractions, a search may find: between the bounds and in a stretch of every member. Definitions only.
-- Assumes nothing.
use Rattle.std.specs.Prelude.{◌⊎◌, List, [], ◌∷◌, T, Float, Option, Some, None}
use Rattle.std.specs.Float.{binary64}
use Rattle.std.specs.Float.Ieee.{fits}
use Rattle.std.specs.Float.Ieee.Scale.{finite}
use Rattle.binary64.specs.Rational.{Fraction, AtMostℚ, value}
use Rattle.search.specs.declared.Bounds.{Bounds}

-- a finite number of the format
abbrev pub Real : Float → Type 0
Real x = T (finite x) × T (fits binary64 x)

abbrev pub RealStretch : Option (Float × Float) → Type 0
RealStretch None = Unit {0}
RealStretch (Some (low, high)) = Real low × Real high

-- q lies in the stretch, ends included
abbrev pub Holds : Fraction → Option (Float × Float) → Type 0
Holds q None = ⊥
Holds q (Some (low, high)) = AtMostℚ (value low) q × AtMostℚ q (value high)

abbrev pub HoldsSome : Fraction → List (Option (Float × Float)) → Type 0
HoldsSome q [] = ⊥
HoldsSome q (s ∷ ss) = Holds q s ⊎ HoldsSome q ss

-- each member has a stretch of its own that holds q
abbrev pub HoldsAll : Fraction → List (List (Option (Float × Float))) → Type 0
HoldsAll q [] = Unit {0}
HoldsAll q (m ∷ ms) = HoldsSome q m × HoldsAll q ms

-- q lies between the bounds and in a stretch of every member
pub record Good (b : Bounds) (ms : List (List (Option (Float × Float)))) (q : Fraction) : Type 0 where
  pub above : AtMostℚ (value b.minimum) q
  pub below : AtMostℚ q (value b.maximum)
  pub usable : HoldsAll q ms
