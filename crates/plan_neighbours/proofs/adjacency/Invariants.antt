use Rattle.std.proofs.Common.{◌≡◌, List, length}
use Rattle.limits.specs.Limits.{max_bundles}
use Rattle.geometry.specs.Points.{Route}
use Rattle.board.specs.Board.{Board}
use Rattle.plan.specs.MemberColumns.{edges_of}
use Rattle.plan.specs.Prepared.{TabledTo}
use Rattle.plan_neighbours.proofs.adjacency.Given as goal

abbrev pub invariant-loop-i : goal.invariant-loop-i
invariant-loop-i l = record {
  rows_length : length l.rows ≡ max_bundles;
  tabled : (b : Board) (given : List Route) → TabledTo b given (edges_of l.members) l.ranges l.i l.rows;
}
