use mathlib.Core.Path.{◌≡◌}
use mathlib.Core.List.{List, ◌++◌}
use lib.ListN.{length, take, drop}
use Rattle.limits.specs.Limits.{max_bundles}
use Rattle.board.specs.declared.Edge.{Edge}
use Rattle.plan.specs.Depths.{offsets_from}
use Rattle.plan.specs.Lent.{board_with}
use Rattle.plan_depths.proofs.corridor_depth_offsets.Given as goal

abbrev pub invariant-loop-i : goal.invariant-loop-i
invariant-loop-i l = record {
  rows_length : length l.rows ≡ max_bundles;
  offsets_are : (edges : List Edge) → take l.i l.rows ++ offsets_from (board_with l.t edges) (drop l.i l.t.bundles.now) l.w ≡ offsets_from (board_with l.t edges) l.t.bundles.now l.initial.w;
}
