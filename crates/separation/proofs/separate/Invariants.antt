use mathlib.Core.Path.{◌≡◌}
use mathlib.Core.List.{List, map}
use Prim.Native.Nat.{◌≤◌}
use lib.ListN.{length, take, drop}
use Rattle.limits.specs.Limits.{max_bundles}
use Rattle.geometry.specs.Points.{Route}
use Rattle.board.specs.Board.{Board}
use Rattle.search.specs.Search.{search_of}
use Rattle.plan.specs.Plan.{separated}
use Rattle.plan.specs.Prepared.{ranged_from, x_of}
use Rattle.separation.specs.Taken.{lanes_in, none_taken, RangesTell}
use Rattle.separation.proofs.TakenTurns as laws
use Rattle.separation.proofs.separate.Given as goal

abbrev pub invariant-loop-i : goal.invariant-loop-i
invariant-loop-i l = record {
  rows_length : length l.rows ≡ max_bundles;
  inputs_few : length l.lanes.input.items ≤ l.i;
  outputs_few : length l.lanes.output.items ≤ l.i;
  plan_is : (b : Board) (given : List Route) → RangesTell b given l.setting l.ranges
      → laws.behind (map x_of (take l.i l.rows)) (separated search_of b given (map ranged_from (drop l.i l.ranges)) (map x_of (drop l.i (take (length l.ranges) l.rows))) (lanes_in l.lanes) l.left.0)
      ≡ separated search_of b given (map ranged_from l.ranges) (map x_of (take (length l.ranges) l.initial.rows)) none_taken l.initial.left.0;
}
