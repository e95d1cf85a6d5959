-- How deep the corridors lie and where they run, in whole numbers over 128: the twin of plan/specs/Depths, name for name. corridor_depth_offsets and fallback_corridors_by_edge of boundary_bundles.rs. Definitions only.
-- Assumes nothing.
use Rattle.std.specs.Prelude.{ℕ, ◌+◌, cond, List, [], ◌∷◌, eqb, ℤ, pos, ◌+ℤ◌, ◌-ℤ◌, ◌*ℤ◌, Option, Some, None}
use Rattle.geometry.specs.declared.Role.{Role}
use Rattle.geometry.specs.declared.Role.TheVariants.{Input, Output}
use Rattle.board.specs.declared.Bundle.{Bundle}
use Rattle.board.specs.declared.Member.{Member}
use Rattle.plan.specs.Depths.{same_role, lane_count}
use Rattle.grid_plan.specs.Board.{Board, rail_depth, node_of, endpoint_of, members_in, pitch_of, inward}
use Rattle.grid.specs.On.{larger}

-- so many lanes of a bundle, as a length
abbrev pub lanes : Board → Bundle → ℕ → ℤ
lanes b u n = pos n *ℤ pitch_of b u

abbrev pub boundary_depth : Board → Bundle → ℤ
boundary_depth b u = (node_of b u).body.width +ℤ rail_depth b.options

-- the offset at a pitch and a boundary depth, past the depth in use
abbrev pub past : ℤ → ℤ → Option ℤ → ℤ
past pitch depth None = pos 0
past pitch depth (Some used) = larger ((used +ℤ pitch) -ℤ (depth +ℤ pitch)) (pos 0)

-- the offset of a bundle, past the depth that the earlier ones of its role use
abbrev pub offset_past : Board → Bundle → Option ℤ → ℤ
offset_past b u o = past (pitch_of b u) (boundary_depth b u) o

-- so many lanes past a depth
abbrev pub lanes_past : ℤ → ℤ → ℤ → ℕ → ℤ
lanes_past pitch depth offset n = (depth +ℤ offset) +ℤ (pos n *ℤ pitch)

-- the depth of the bundle's last lane
abbrev pub last_depth : Board → Bundle → ℤ → ℤ
last_depth b u offset = lanes_past (pitch_of b u) (boundary_depth b u) offset (lane_count (members_in b u))

-- the furthest of what was used and what is
abbrev pub further : Option ℤ → ℤ → Option ℤ
further None d = Some d
further (Some used) d = Some (larger used d)

-- the depth in use, by role
pub record Used : Type 0 where
  pub input : Option ℤ
  pub output : Option ℤ

abbrev pub used_by : Role → Used → Option ℤ
used_by Input w = w.input
used_by Output w = w.output

abbrev pub used : Role → Option ℤ → Used → Used
used Input d w = record { input = d; output = w.output }
used Output d w = record { input = w.input; output = d }

abbrev pub offset_of : Board → Bundle → Used → ℤ
offset_of b u w = offset_past b u (used_by u.role w)

abbrev pub used_after : Board → Bundle → Used → Used
used_after b u w = used u.role (further (used_by u.role w) (last_depth b u (offset_of b u w))) w

unfoldable pub offsets_from : Board → List Bundle → Used → List ℤ
unfolding rail_depth lane_count
offsets_from b [] w = []
offsets_from b (u ∷ us) w = offset_of b u w ∷ offsets_from b us (used_after b u w)

-- corridor_depth_offsets
abbrev pub offsets_of : Board → List ℤ
offsets_of b = offsets_from b b.bundles (record { input = None; output = None })

-- the corridor of one member
abbrev pub corridor_x : Board → Bundle → ℤ → Member → ℤ
corridor_x b u offset m = inward u.role (inward u.role (endpoint_of b u).x (rail_depth b.options)) (offset +ℤ lanes b u (m.tap_lane + 1))

-- the corridor of an edge among a bundle's members
unfoldable pub corridor_among : Board → Bundle → ℤ → ℕ → List Member → Option ℤ
unfolding rail_depth
corridor_among b u offset e [] = None
corridor_among b u offset e (m ∷ ms) = cond (eqb m.edge e) (Some (corridor_x b u offset m)) (corridor_among b u offset e ms)

abbrev pub first_of : Option ℤ → Option ℤ → Option ℤ
first_of None o = o
first_of (Some x) o = Some x

-- fallback_corridors_by_edge: the corridor of an edge for one role
unfoldable pub corridor_from : Board → Role → ℕ → List Bundle → List ℤ → Option ℤ
unfolding corridor_among
corridor_from b role e [] offsets = None
corridor_from b role e (u ∷ us) [] = None
corridor_from b role e (u ∷ us) (d ∷ ds) =
    cond (same_role u.role role) (first_of (corridor_among b u d e (members_in b u)) (corridor_from b role e us ds)) (corridor_from b role e us ds)

abbrev pub corridor_of : Board → Role → ℕ → Option ℤ
corridor_of b role e = corridor_from b role e b.bundles (offsets_of b)
