use Rattle.std.proofs.Common.{◌≡◌, false, List, ℕ, ◌<◌, length, get_or}
use Rattle.limits.specs.Limits.{max_bundles}
use Rattle.geometry.specs.Points.{Route}
use Rattle.board.specs.Board.{Board}
use Rattle.plan.specs.Plan.{joined}
use Rattle.plan.specs.MemberColumns.{edges_of}
use Rattle.plan.specs.Prepared.{EdgesOf, range_at, ranged_from}
use Rattle.plan_neighbours.proofs.adjacent_row.Given as goal

abbrev pub invariant-loop-j : goal.invariant-loop-j
invariant-loop-j l = record {
  row_length : length l.row ≡ max_bundles;
  row_is : (j : ℕ) → j < l.j → (b : Board) (given : List Route) → EdgesOf b (edges_of l.members) l.s.bundle → EdgesOf b (edges_of l.members) (range_at l.ranges j).bundle
      → get_or l.row j false ≡ joined b given (ranged_from l.s) (ranged_from (range_at l.ranges j));
}
