use mathlib.Core.Path.{◌≡◌}
use mathlib.Core.List.{List, map}
use lib.ListN.{length, take, drop}
use Rattle.geometry.specs.Points.{Route}
use Rattle.board.specs.Board.{Board}
use Rattle.plan.specs.Plan.{Ranged, required}
use Rattle.plan.specs.Prepared.{SameBundles, x_of}
use Rattle.plan.specs.Lent.{LayoutTells}
use Rattle.plan_outputs.proofs.required_output_collector_x.Given as goal

abbrev pub invariant-loop-i : goal.invariant-loop-i
invariant-loop-i l =
    (b : Board) (given : List Route) (ranges : List Ranged) → LayoutTells b given l.layout → SameBundles ranges l.layout.reaches.now
    → required b given ranges (map x_of (take (length l.layout.reaches.now) l.p.rows)) l.r (drop l.i-index l.which) ≡ required b given ranges (map x_of (take (length l.layout.reaches.now) l.p.rows)) l.initial.r l.which
