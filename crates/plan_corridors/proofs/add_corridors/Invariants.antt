use mathlib.Core.Path.{◌≡◌}
use Prim.Native.Nat.{ℕ, ◌+◌, ◌≤◌}
use lib.ListN.{length, get_or, drop}
use Rattle.board.specs.Board.{Board, rail_depth}
use Rattle.plan.specs.Depths.{inward, first_of, endpoint_of, members_in, pitch_of, corridor_among}
use Rattle.plan.specs.declared.Bound.TheVariants.{None}
use Rattle.plan.specs.MemberColumns.{edges_of, lanes_of}
use Rattle.plan.specs.Prepared.{Rowed}
use Rattle.plan_corridors.proofs.add_corridors.Given as goal

abbrev pub invariant-loop-m : goal.invariant-loop-m
invariant-loop-m l =
    (b : Board) (e : ℕ) → Rowed b (edges_of l.members) (lanes_of l.members) → l.u.first + l.u.count ≤ length b.members → l.tap ≡ inward l.u.role (endpoint_of b l.u).x (rail_depth b.options) → l.pitch ≡ pitch_of b l.u
    → first_of (get_or l.corridors e None) (corridor_among b l.u l.offset e (drop l.m-index (members_in b l.u))) ≡ first_of (get_or l.initial.corridors e None) (corridor_among b l.u l.offset e (members_in b l.u))
