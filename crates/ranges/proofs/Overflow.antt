-- No addition, subtraction or product of the drawing overflows: each rounded result on the way is below 2 ^ 34. Those that are drawn or written are in proofs/Extent.antt and proofs/Page.antt; here are the others.
-- Assumes nothing.
use Prim.Native.Nat.{suc, ◌≤◌}
use Rattle.std.specs.Prelude.{List, Float}
use Rattle.std.proofs.Common.{arith}
use Rattle.std.specs.Float.Ieee.{binary64, add, sub, mul}
use Rattle.limits.specs.Limits.{max_lane}
use Rattle.binary64.specs.Range.{Bounded, bounded_mono, add_bounded, sub_bounded, mul_bounded, of_int_bounded}
use Rattle.geometry.specs.declared.Point.{Point}
use Rattle.geometry.specs.declared.Role.{Role}
use Rattle.geometry.specs.declared.Role.TheVariants.{Input, Output}
use Rattle.geometry.specs.Points.{Route}
use Rattle.geometry.specs.Enters.{far_x, far_y}
use Rattle.route.specs.Rewrite.{corridor_x}
use Rattle.board.specs.declared.PlacedNode.{PlacedNode}
use Rattle.board.specs.declared.Bundle.{Bundle}
use Rattle.board.specs.declared.Member.{Member}
use Rattle.board.specs.Board.{Board, rail_depth}
use Rattle.sorting.specs.Sorted.{every_map}
use Rattle.sorting.specs.Lists.{Every}
use Rattle.plan.specs.Depths.{number, members_in, pitch_of, offsets_of}
use Rattle.plan.proofs.SmallNumbers.{Small, Numbers}
use Rattle.plan.proofs.Numbers.{members_good, pitch_small, rail_small}
use Rattle.drawing.specs.Build.{center}
use Rattle.drawing.specs.Rewrite.{corridor_depth}
use Rattle.drawing.proofs.CleanChecks.{every_both}
use Rattle.ranges.proofs.Corridors.{Below, Signs, held, offsets_bounded}
use Rattle.ranges.proofs.Extent.{center_bounded, center_not_below, lane_bounded}
use Rattle.ranges.specs.Extent.{Limits, InX, InY}

-- the differences of same place, of the spacing test, of the interior test of rewrite_member_routes, and of the last shift
pub x_difference : (x y : Float) → InX x → InX y → Below 33 (sub binary64 x y)
x_difference x y s t = bounded_mono 4299161600 8589934591 (sub binary64 x y) (omega arith) (sub_bounded 2149580800 2149580800 x y (held 4299161600 (omega arith)) s t)

pub y_difference : (x y : Float) → InY x → InY y → Below 33 (sub binary64 x y)
y_difference x y s t = bounded_mono 4829741056 8589934591 (sub binary64 x y) (omega arith) (sub_bounded 2414870528 2414870528 x y (held 4829741056 (omega arith)) s t)

-- a member's lane on the way to its tap at the rail: from the middle one, and as a length
pub record LaneBelow (b : Board) (u : Bundle) (m : Member) : Type 0 where
  pub off_middle : Below 8 (sub binary64 (number m.tap_lane) (center (members_in b u)))
  pub length : Below 28 (mul binary64 (sub binary64 (number m.tap_lane) (center (members_in b u))) (pitch_of b u))

-- and on the way to its corridor, from a tap of the sheet: its lanes, its depth, and its x
pub record DepthBelow (b : Board) (u : Bundle) (offset : Float) (m : Member) : Type 0 where
  pub lanes : Below 29 (mul binary64 (number (suc m.tap_lane)) (pitch_of b u))
  pub depth : Below 34 (corridor_depth offset (pitch_of b u) m)
  pub corridor : (role : Role) (tap : Point) → InX tap.x → Below 34 (corridor_x role tap (corridor_depth offset (pitch_of b u) m))

at_depth : (role : Role) (tap : Point) (d : Float) → InX tap.x → Bounded 9934209088 d → Below 34 (corridor_x role tap d)
unfolding corridor_x
at_depth Input tap d s t = bounded_mono 12083789888 17179869183 (add binary64 tap.x d) (omega arith) (add_bounded 2149580800 9934209088 tap.x d (held 12083789888 (omega arith)) s t)
at_depth Output tap d s t = bounded_mono 12083789888 17179869183 (sub binary64 tap.x d) (omega arith) (sub_bounded 2149580800 9934209088 tap.x d (held 12083789888 (omega arith)) s t)

module _ (b : Board) (routes : List Route) (limits : Limits b routes) where
  abbrev good : Numbers b routes
  good = limits.numbers

  -- the far sides of the interior check
  pub far_sides_below : Every (λ (n : PlacedNode). Below 32 (far_x n.body) × Below 32 (far_y n.body)) b.nodes
  far_sides_below =
      every_both (λ (n : PlacedNode). Small 30 n.body.corner.x × Small 30 n.body.width) (λ (n : PlacedNode). Small 30 n.body.corner.y × Small 30 n.body.height) (λ (n : PlacedNode). Below 32 (far_x n.body) × Below 32 (far_y n.body))
      (λ n s t. (side n.body.corner.x n.body.width s.0 s.1, side n.body.corner.y n.body.height t.0 t.1))
      b.nodes good.nodes limits.node_ys
    where
      side : (x w : Float) → Small 30 x → Small 30 w → Below 32 (add binary64 x w)
      side x w s t = bounded_mono 2147483648 4294967295 (add binary64 x w) (omega arith) (add_bounded 1073741824 1073741824 x w (held 2147483648 (omega arith)) s.0 t.0)

  -- the least depth of a bundle that counts as interior
  pub interior_depth_below : (u : Bundle) → Below 22 (add binary64 (rail_depth b.options) (pitch_of b u))
  interior_depth_below u =
      bounded_mono 3145728 4194303 (add binary64 (rail_depth b.options) (pitch_of b u)) (omega arith)
      (add_bounded 2097152 1048576 (rail_depth b.options) (pitch_of b u) (held 3145728 (omega arith)) (rail_small b routes good).0 (pitch_small b routes good).0)

  lane_below : (u : Bundle) (m : Member) → m.tap_lane ≤ max_lane → LaneBelow b u m
  lane_below u m h =
      let ms = members_in b u in
      let e = members_good b routes good u in
      let d = sub binary64 (number m.tap_lane) (center ms) in
      let s : Bounded 255 d = lane_bounded m.tap_lane (center ms) h (center_bounded ms e) (center_not_below ms e) in
      record { off_middle = s; length = bounded_mono 267386880 268435455 (mul binary64 d (pitch_of b u)) (omega arith) (mul_bounded 255 1048576 d (pitch_of b u) (held 267386880 (omega arith)) s (pitch_small b routes good).0) }

  pub lanes_below : (u : Bundle) → Every (LaneBelow b u) (members_in b u)
  lanes_below u = every_map (λ (m : Member). m.tap_lane ≤ max_lane) (LaneBelow b u) (members_in b u) (lane_below u) (members_good b routes good u)

  depth_below : (u : Bundle) (offset : Float) → Bounded 9665773632 offset → (m : Member) → m.tap_lane ≤ max_lane → DepthBelow b u offset m
  unfolding corridor_depth
  depth_below u offset s m h =
      let n = suc m.tap_lane in
      let l = mul binary64 (number n) (pitch_of b u) in
      let k : Bounded 256 (number n) = bounded_mono n 256 (number n) (omega arith) (of_int_bounded n (held n (omega arith))) in
      let w : Bounded 268435456 l = mul_bounded 256 1048576 (number n) (pitch_of b u) (held 268435456 (omega arith)) k (pitch_small b routes good).0 in
      let d : Bounded 9934209088 (add binary64 offset l) = add_bounded 9665773632 268435456 offset l (held 9934209088 (omega arith)) s w in
      record {
        lanes = bounded_mono 268435456 536870911 l (omega arith) w;
        depth = bounded_mono 9934209088 17179869183 (add binary64 offset l) (omega arith) d;
        corridor = λ role tap t. at_depth role tap (add binary64 offset l) t d;
      }

  pub depths_below : Signs b → (u : Bundle) → Every (λ (offset : Float). Every (DepthBelow b u offset) (members_in b u)) (offsets_of b)
  depths_below signs u =
      every_map (Bounded 9665773632) (λ (offset : Float). Every (DepthBelow b u offset) (members_in b u)) (offsets_of b)
      (λ offset s. every_map (λ (m : Member). m.tap_lane ≤ max_lane) (DepthBelow b u offset) (members_in b u) (depth_below u offset s) (members_good b routes good u)) (offsets_bounded b routes good signs)
