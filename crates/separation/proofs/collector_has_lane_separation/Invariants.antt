use mathlib.Core.Path.{◌≡◌}
use lib.ListN.{drop}
use Rattle.plan.specs.Plan.{clear}
use Rattle.separation.proofs.collector_has_lane_separation.Given as goal

abbrev pub invariant-loop-y : goal.invariant-loop-y
invariant-loop-y l = clear l.pitch l.x (drop l.y-index l.used) ≡ clear l.pitch l.x l.used
