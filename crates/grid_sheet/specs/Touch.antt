-- The tests on segments in whole numbers over 128: the twin of geometry/specs/Contact, Kind, Spacing, Enters and Line, name for name; the same place is plain equality. segments_have_disallowed_contact (by its kinds), parallel_segments_are_too_close, verify_member_route_node_interiors and segment_vertical_line_intersection of boundary_bundles.rs. Definitions only.
-- Assumes nothing.
use Rattle.std.specs.Prelude.{Bool, true, false, not, ◌&&◌, ◌||◌, cond, ℤ, pos, nat_abs, ◌+ℤ◌, ◌-ℤ◌, Option, Some, None}
use Rattle.std.specs.Bool.{beq}
use Rattle.geometry.specs.declared.Role.{Role}
use Rattle.geometry.specs.declared.Contact.{Contact}
use Rattle.geometry.specs.declared.Contact.TheVariants as kinds
use Rattle.grid_plan.specs.Board.{Point, Segment, Node}
use Rattle.grid_plan.specs.Search.{stretch, holds}
use Rattle.grid.specs.On.{below, at_most, same, smaller, larger}

-- document 02: the same-place test becomes plain equality
abbrev pub matches : Point → Point → Bool
matches p q = same p.x q.x && same p.y q.y

-- the ends are equal: the run has no length
abbrev pub coincide : Point → Point → Bool
coincide a b = same a.x b.x && same a.y b.y

-- level is the Rust's "horizontal"
abbrev pub level : Point → Point → Bool
level a b = same a.y b.y

-- neither level nor upright
abbrev pub slanted : Point → Point → Bool
slanted a b = not (level a b) && not (same a.x b.x)

pub record Span : Type 0 where
  pub fixed : ℤ
  pub low : ℤ
  pub high : ℤ

-- ---- where two segments along the axes meet
-- a level segment and an upright one, by the coordinate that stays, and the lowest and the highest of the other
abbrev pub across : Point → Point → Span
across a b = record { fixed = a.y; low = smaller a.x b.x; high = larger a.x b.x }

abbrev pub upright : Point → Point → Span
upright a b = record { fixed = a.x; low = smaller a.y b.y; high = larger a.y b.y }

-- a point by the coordinate that stays and the other
abbrev pub place : Bool → ℤ → ℤ → Point
place is_level fixed moving = cond is_level (record { x = moving; y = fixed }) (record { x = fixed; y = moving })

pub data Meet : Type 0 where
  Apart : Meet
  Overlap : Meet
  One : Point → Meet

-- two spans in one direction
abbrev pub in_line : Bool → Span → Span → Meet
in_line is_level bus route =
    cond (not (same bus.fixed route.fixed) || below route.high bus.low || below bus.high route.low) Apart
    (cond (below (larger bus.low route.low) (smaller bus.high route.high)) Overlap
    (One (place is_level bus.fixed (larger bus.low route.low))))

-- a level span and an upright one
abbrev pub crossing : Span → Span → Meet
crossing h v =
    cond (at_most h.low v.fixed && at_most v.fixed h.high && at_most v.low h.fixed && at_most h.fixed v.high) (One (record { x = v.fixed; y = h.fixed })) Apart

-- where a bus and a run meet, neither being slanted
unfoldable pub meet : Segment → Point → Point → Meet
meet bus a b =
    cond (level bus.start bus.end)
    (cond (level a b) (in_line true (across bus.start bus.end) (across a b)) (crossing (across bus.start bus.end) (upright a b)))
    (cond (level a b) (crossing (across a b) (upright bus.start bus.end)) (in_line false (upright bus.start bus.end) (upright a b)))

-- there is a tap, and p is in the same place
abbrev pub at_tap : Option Point → Point → Bool
at_tap None p = false
at_tap (Some tap) p = matches tap p

-- one is level and the other is not
abbrev pub perpendicular : Segment → Point → Point → Bool
perpendicular bus a b = not (beq (level bus.start bus.end) (level a b))

-- p is in the same place as none of the four ends
abbrev pub strict : Segment → Point → Point → Point → Bool
strict bus a b p = not (matches bus.start p) && not (matches bus.end p) && not (matches a p) && not (matches b p)

-- ---- which kind of contact it is (request F-6)
-- the two meet at p alone
abbrev pub kind_at : Segment → Point → Point → Option Point → Point → Contact
kind_at bus a b tap p =
    cond (perpendicular bus a b && strict bus a b p) kinds.StrictCrossing
    (cond (at_tap tap p && (matches a p || matches b p)) kinds.TouchAtTap kinds.TouchElsewhere)

-- by where they meet, neither being slanted
abbrev pub kind_of : Segment → Point → Point → Option Point → Meet → Contact
kind_of bus a b tap Apart = kinds.Apart
kind_of bus a b tap Overlap = kinds.Overlap
kind_of bus a b tap (One p) = kind_at bus a b tap p

-- "the test of a bus against a run"
unfoldable pub kind : Segment → Point → Point → Option Point → Contact
unfolding meet
kind bus a b tap =
    cond (coincide a b) kinds.Apart
    (cond (slanted bus.start bus.end || slanted a b) kinds.Slanted
    (kind_of bus a b tap (meet bus a b)))

-- ---- spacing
abbrev pub overlap_positive : ℤ → ℤ → ℤ → ℤ → Bool
overlap_positive left_a left_b right_a right_b = below (smaller left_a left_b) (larger right_a right_b) && below (smaller right_a right_b) (larger left_a left_b)

-- the difference of l and r is below the spacing in magnitude
abbrev pub closer : ℤ → ℤ → ℤ → Bool
closer l r spacing = below (pos (nat_abs (l -ℤ r))) spacing

-- two level segments, and two that are not level
abbrev pub across_too_close : Segment → Segment → ℤ → Bool
across_too_close l r spacing = overlap_positive l.start.x l.end.x r.start.x r.end.x && closer l.start.y r.start.y spacing

abbrev pub upright_too_close : Segment → Segment → ℤ → Bool
upright_too_close l r spacing = overlap_positive l.start.y l.end.y r.start.y r.end.y && closer l.start.x r.start.x spacing

-- parallel_segments_are_too_close
unfoldable pub too_close : Segment → Segment → ℤ → Bool
too_close l r spacing =
    cond (at_most spacing (pos 0)) false
    (cond (not (beq (level l.start l.end) (level r.start r.end))) false
    (cond (level l.start l.end) (across_too_close l r spacing) (upright_too_close l r spacing)))

-- ---- entering a node
abbrev pub far_x : Node → ℤ
far_x n = n.corner.x +ℤ n.width

abbrev pub far_y : Node → ℤ
far_y n = n.corner.y +ℤ n.height

abbrev pub inside : Span → ℤ → ℤ → ℤ → ℤ → Bool
inside s corner far side far_side = below corner s.fixed && below s.fixed far && below s.low far_side && below side s.high

-- the test for a run that is level or upright: lying along a side does not count
unfoldable pub passes_inside : Point → Point → Node → Bool
passes_inside a b n =
    cond (level a b) (inside (across a b) n.corner.y (far_y n) n.corner.x (far_x n))
    (inside (upright a b) n.corner.x (far_x n) n.corner.y (far_y n))

-- ---- where a vertical line meets a run
abbrev pub on_level : ℤ → Point → Point → Bool
on_level x start end = same start.y end.y && at_most (smaller start.x end.x) x && at_most x (larger start.x end.x)

-- both ends lie on the line
abbrev pub on_upright : ℤ → Point → Point → Bool
on_upright x start end = same start.x x && same end.x x

-- segment_vertical_line_intersection
abbrev pub on_line : Bool → ℤ → Point → Point → Option Point
on_line prefer_end x start end =
    cond (on_level x start end) (Some (record { x = x; y = start.y }))
    (cond (on_upright x start end) (cond prefer_end (Some end) (Some start)) None)

-- shared_trunk_horizontal_intersection
abbrev pub on_trunk : Role → ℤ → ℤ → Point → Point → Option Point
on_trunk role pitch x start end = cond (holds x (stretch role pitch start end)) (Some (record { x = x; y = start.y })) None
