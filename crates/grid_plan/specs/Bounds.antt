-- The bounds of a bundle's collector in whole numbers over 128: the twin of plan/specs/Bounds, name for name. interior_collector_bounds of boundary_bundles.rs. Definitions only.
-- Assumes nothing.
use Rattle.std.specs.Prelude.{cond, get_or, leb, ℤ, ◌+ℤ◌, ◌-ℤ◌, Option, Some, None}
use mathlib.Core.List.{List, [], ◌∷◌, map}
use Rattle.geometry.specs.declared.Role.{Role}
use Rattle.geometry.specs.declared.Role.TheVariants.{Input, Output}
use Rattle.board.specs.declared.Bundle.{Bundle}
use Rattle.board.specs.declared.Member.{Member}
use Rattle.grid_plan.specs.Board.{Board, Route, rail_depth, endpoint_of, members_in, pitch_of}
use Rattle.grid_plan.specs.Depths.{corridor_of}
use Rattle.grid_plan.specs.Search.{Stretch, Bounds, members}
use Rattle.grid.specs.On.{below, smaller, larger}

-- x made at least, and at most, a bound that may be absent
abbrev pub raised : ℤ → Option ℤ → ℤ
raised x None = x
raised x (Some b) = larger x b

abbrev pub lowered : ℤ → Option ℤ → ℤ
lowered x None = x
lowered x (Some b) = smaller x b

-- what follows an x, if there is one
abbrev pub if_at {ℓ} : {A : Type ℓ} → Option ℤ → A → (ℤ → A) → A
if_at None a f = a
if_at (Some x) a f = f x

abbrev pub clamped : ℤ → ℤ → ℤ → ℤ
clamped x low high = smaller (larger x low) high

-- x of the first point and of the last
abbrev pub first_x : Route → Option ℤ
first_x [] = None
first_x (p ∷ ps) = Some p.x

unfoldable pub last_x : Route → Option ℤ
last_x [] = None
last_x (p ∷ []) = Some p.x
last_x (p ∷ q ∷ ps) = last_x (q ∷ ps)

abbrev pub map_bound : (ℤ → ℤ) → Option ℤ → Option ℤ
map_bound f None = None
map_bound f (Some x) = Some (f x)

-- how far a member lets the collector go, from the end of its route
abbrev pub reach_x : Role → ℤ → Option ℤ → ℤ → ℤ
reach_x Input reserve corridor x = lowered (x -ℤ reserve) corridor
reach_x Output reserve corridor x = raised (x +ℤ reserve) corridor

abbrev pub tighter : Role → Option ℤ → ℤ → ℤ
tighter role None x = x
tighter Input (Some d) x = smaller d x
tighter Output (Some d) x = larger d x

-- document 01: bounds are absent where minimum is above maximum
abbrev pub unless_crossed : ℤ → ℤ → ℤ → Option Bounds
unless_crossed low desired high = cond (below high low) None (Some (record { minimum = low; desired = clamped desired low high; maximum = high }))

-- from the port's side to the members' side; lower and upper are "no lower bound" and "no upper bound" where there are none
abbrev pub span_of : Role → ℤ → ℤ → ℤ → Option ℤ → Option ℤ → ℤ → Option Bounds
span_of Input endpoint rail pitch lower upper d = unless_crossed (raised (endpoint +ℤ rail +ℤ pitch) lower) d (lowered d upper)
span_of Output endpoint rail pitch lower upper d = unless_crossed (raised d lower) d (lowered (endpoint -ℤ rail -ℤ pitch) upper)

abbrev pub between : Board → Bundle → Option ℤ → Option ℤ → Role → ℤ → Option Bounds
between b u lower upper role d = span_of role (endpoint_of b u).x (rail_depth b.options) (pitch_of b u) lower upper d

-- document 01: bounds are absent for width or members of at most 1, or an empty member route
abbrev pub bounds_with : Board → Bundle → Option ℤ → Option ℤ → Option ℤ → Option Bounds
bounds_with b u lower upper reached =
    cond (leb u.width 1) None (cond (leb u.count 1) None (if_at reached None (between b u lower upper u.role)))

module _ (b : Board) (routes : List Route) where
  abbrev pub route_of : Member → Route
  route_of m = get_or routes m.edge []

  -- ---- interior_collector_bounds
  -- how far a member lets the collector go; absent where its route is empty
  abbrev pub reach : Role → Member → Option ℤ
  reach Input m = map_bound (reach_x Input b.options.reserve (corridor_of b Output m.edge)) (last_x (route_of m))
  reach Output m = map_bound (reach_x Output b.options.reserve (corridor_of b Input m.edge)) (first_x (route_of m))

  -- how far all members do; absent where one route is empty
  unfoldable pub reach_all : Role → Option ℤ → List Member → Option ℤ
  unfolding last_x
  reach_all role d [] = d
  reach_all role d (m ∷ ms) = if_at (reach role m) None (λ x. reach_all role (Some (tighter role d x)) ms)

  -- interior_collector_bounds
  unfoldable pub bounds_of : Bundle → Option ℤ → Option ℤ → Option Bounds
  unfolding reach_all rail_depth
  bounds_of u lower upper = bounds_with b u lower upper (reach_all u.role None (members_in b u))

  -- the stretches of each member
  abbrev pub trunks : Bundle → List (List (Option Stretch))
  trunks u = members u.role (pitch_of b u) (map route_of (members_in b u))
