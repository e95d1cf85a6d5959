use mathlib.Core.Path.{◌≡◌}
use mathlib.Core.List.{List}
use Prim.Native.Nat.{ℕ, ◌+◌, ◌≤◌}
use lib.ListN.{length, drop}
use Rattle.geometry.specs.Points.{Route}
use Rattle.board.specs.Board.{Board}
use Rattle.plan.specs.Bounds.{reach_all}
use Rattle.plan.specs.Depths.{members_in}
use Rattle.plan.specs.MemberColumns.{edges_of}
use Rattle.plan.specs.Prepared.{Rowed}
use Rattle.plan.specs.Lent.{RoutesTell, CorridorsTell}
use Rattle.plan_bounds.proofs.reach_all.Given as goal

abbrev pub invariant-loop-i : goal.invariant-loop-i
invariant-loop-i l =
    (b : Board) (given : List Route) (lanes : List ℕ) → l.reserve ≡ b.options.member_endpoint_reserve → Rowed b (edges_of l.members) lanes → l.u.first + l.u.count ≤ length b.members
    → RoutesTell b given l.routes → CorridorsTell b l.corridors
    → reach_all b given l.role l.d (drop l.i (members_in b l.u)) ≡ reach_all b given l.role l.initial.d (members_in b l.u)
