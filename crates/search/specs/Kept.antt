-- What the first pass of the search keeps for the second: the stretch of each run, two numbers a run, which stand in a slice as a point's do. Definitions of inner contracts.
-- Assumes nothing.
use Rattle.std.specs.Prelude.{◌≡◌, List, [], ◌∷◌, map, ℕ, ◌+◌, ◌-◌, length, Float, Option, Some, None, Ok, Err}
use Rattle.std.specs.Float.{binary64}
use Rattle.std.specs.Float.Ieee.{of_bits}
use Rattle.geometry.specs.declared.Point.{Point}
use Rattle.geometry.specs.Points.{points_from}
use Rattle.search.specs.Search.{Listed}

-- what is kept of a run: the ends of its stretch, low and high; where shared_trunk_horizontal_range gives none, 1 and 0, between which no x lies
abbrev pub kept : Option (Float × Float) → Point
kept None = record { x = of_bits binary64 0x3ff0_0000_0000_0000; y = of_bits binary64 0 }
kept (Some (low, high)) = record { x = low; y = high }

-- a kept pair, tried as a stretch
abbrev pub spanned : Point → Option (Float × Float)
spanned p = Some (p.x, p.y)

-- the kept pairs of each member, one member's behind the other's from pair i on; a route of count points has one run less
unfoldable pub members_from : List Float → ℕ → List ℕ → List (List (Option (Float × Float)))
unfolding points_from
members_from ks i [] = []
members_from ks i (count ∷ counts) = map spanned (points_from ks i (count - 1)) ∷ members_from ks (i + (count - 1)) counts

-- the pairs at the front of the slice are, in order, those of the runs, unless a visit was due and 0 were left
abbrev pub Keeps : Listed → List Float → List (Option (Float × Float)) → Type 0
Keeps (Err s) ks ss = Unit {0}
Keeps (Ok (n, left)) ks ss = points_from ks 0 (length ss) ≡ map kept ss
