use mathlib.Core.Path.{◌≡◌}
use mathlib.Core.List.{List}
use lib.ListN.{length, take, drop}
use Rattle.limits.specs.Limits.{max_bundles}
use Rattle.geometry.specs.Points.{Route}
use Rattle.board.specs.Board.{Board}
use Rattle.search.specs.Search.{search_of}
use Rattle.plan.specs.Plan.{indices_from, components}
use Rattle.plan.specs.Prepared.{plan_in}
use Rattle.components.specs.Settled.{ranges_in, Known, Neighboured}
use Rattle.component_plan.proofs.components.Given as goal

abbrev pub invariant-loop-i : goal.invariant-loop-i
invariant-loop-i l = record {
  seen_length : length l.seen ≡ max_bundles;
  plan_is : (b : Board) (given : List Route) → Known b given l.layout (ranges_in l.ranges) → Neighboured b given (ranges_in l.ranges) (length l.ranges) l.adjacent.rows
      → components search_of b given (ranges_in l.ranges) (drop l.i (indices_from 0 (ranges_in l.ranges))) (take (length l.ranges) l.seen) (plan_in (length l.ranges) l.p)
      ≡ components search_of b given (ranges_in l.ranges) (indices_from 0 (ranges_in l.ranges)) (take (length l.ranges) l.initial.seen) (plan_in (length l.ranges) l.initial.p);
}
