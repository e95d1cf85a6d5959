-- Intersections, push_point and the four rewritings in whole numbers over 128: the twin of route/specs/Intersection, Push and Rewrite, name for name. Definitions only.
-- Assumes nothing.
use Rattle.std.specs.Prelude.{ℕ, suc, Bool, true, false, ◌&&◌, ◌||◌, cond, ℤ, ◌+ℤ◌, ◌-ℤ◌, take, drop, Option, Some, None}
use mathlib.Core.List.{List, [], ◌∷◌, ◌++◌, drop_last}
use Rattle.geometry.specs.declared.Role.{Role}
use Rattle.geometry.specs.declared.Role.TheVariants.{Input, Output}
use Rattle.grid_plan.specs.Board.{Point, Segment, Route, runs}
use Rattle.grid_sheet.specs.Touch.{matches, on_line, on_trunk}
use Rattle.grid.specs.On.{same}

-- a run's place in its route, and the point met
abbrev pub met_at : ℕ → Option Point → Option (ℕ × Point)
met_at i None = None
met_at i (Some p) = Some (i, p)

unfoldable pub or_else : Option (ℕ × Point) → Option (ℕ × Point) → Option (ℕ × Point)
or_else None c = c
or_else (Some (i, p)) c = Some (i, p)

-- .enumerate().find_map(..): the first of the runs that is met, counted from i on
unfoldable pub first_met : (Segment → Option Point) → ℕ → List Segment → Option (ℕ × Point)
first_met f i [] = None
first_met f i (s ∷ ss) = or_else (met_at i (f s)) (first_met f (suc i) ss)

-- .enumerate().rev().find_map(..): the last of them
unfoldable pub last_met : (Segment → Option Point) → ℕ → List Segment → Option (ℕ × Point)
last_met f i [] = None
last_met f i (s ∷ ss) = or_else (last_met f (suc i) ss) (met_at i (f s))

-- first_vertical_line_intersection
abbrev pub first_vertical_line_intersection : Route → ℤ → Option (ℕ × Point)
first_vertical_line_intersection r x = first_met (λ s. on_line false x s.start s.end) 0 (runs r)

-- last_vertical_line_intersection
abbrev pub last_vertical_line_intersection : Route → ℤ → Option (ℕ × Point)
last_vertical_line_intersection r x = last_met (λ s. on_line true x s.start s.end) 0 (runs r)

-- first_shared_trunk_intersection
abbrev pub first_shared_trunk_intersection : Route → ℤ → Role → ℤ → Option (ℕ × Point)
first_shared_trunk_intersection r x role minimum_length = first_met (λ s. on_trunk role minimum_length x s.start s.end) 0 (runs r)

-- last_shared_trunk_intersection
abbrev pub last_shared_trunk_intersection : Route → ℤ → Role → ℤ → Option (ℕ × Point)
last_shared_trunk_intersection r x role minimum_length = last_met (λ s. on_trunk role minimum_length x s.start s.end) 0 (runs r)

-- ---- push_point
abbrev pub aligned : Point → Point → Point → Bool
aligned a b p = same a.x b.x && same b.x p.x || same a.y b.y && same b.y p.y

-- whether p takes the place of the last point: it is in the same place, or the last two points and p are in line
unfoldable pub replaces : Route → Point → Bool
replaces [] p = false
replaces (last ∷ []) p = matches last p
replaces (before ∷ last ∷ []) p = matches last p || aligned before last p
replaces (a ∷ b ∷ c ∷ r) p = replaces (b ∷ c ∷ r) p

-- push_point
unfoldable pub push_point : Route → Point → Route
push_point r p = cond (replaces r p) (drop_last r) r ++ (p ∷ [])

-- push_point for each point of a list, in its order
unfoldable pub push_points : Route → List Point → Route
push_points r [] = r
push_points r (p ∷ ps) = push_points (push_point r p) ps

-- ---- the four rewritings
unfoldable pub where_met : Option (ℕ × Point) → (ℕ → Point → Option Route) → Option Route
where_met None k = None
where_met (Some (i, p)) k = k i p

-- where the corridor of a tap stands, its depth away from the tap
abbrev pub corridor_x : Role → Point → ℤ → ℤ
corridor_x Input tap depth = tap.x +ℤ depth
corridor_x Output tap depth = tap.x -ℤ depth

-- the corner where the corridor at x leaves the tap's line
abbrev pub corner : ℤ → Point → Point
corner x tap = record { x = x; y = tap.y }

-- the points pushed on an empty route
abbrev pub pushed : List Point → Option Route
pushed ps = Some (push_points [] ps)

-- rewrite_input_shared_trunk
abbrev pub rewrite_input_shared_trunk : Route → Point → ℤ → Option Route
rewrite_input_shared_trunk r tap minimum_length =
    where_met (first_shared_trunk_intersection r tap.x Input minimum_length)
    (λ i p. cond (matches p tap) (pushed (tap ∷ drop (suc i) r)) None)

-- rewrite_output_shared_trunk
abbrev pub rewrite_output_shared_trunk : Route → Point → ℤ → Option Route
rewrite_output_shared_trunk r tap minimum_length =
    where_met (last_shared_trunk_intersection r tap.x Output minimum_length)
    (λ i p. cond (matches p tap) (pushed (take (suc i) r ++ (tap ∷ []))) None)

-- rewrite_input_route
abbrev pub rewrite_input_route : Route → Point → ℤ → Option Route
rewrite_input_route r tap depth =
    where_met (first_vertical_line_intersection r (corridor_x Input tap depth))
    (λ i p. pushed (tap ∷ corner (corridor_x Input tap depth) tap ∷ p ∷ drop (suc i) r))

-- rewrite_output_route
abbrev pub rewrite_output_route : Route → Point → ℤ → Option Route
rewrite_output_route r tap depth =
    where_met (last_vertical_line_intersection r (corridor_x Output tap depth))
    (λ i p. pushed (take (suc i) r ++ (p ∷ corner (corridor_x Output tap depth) tap ∷ tap ∷ [])))
