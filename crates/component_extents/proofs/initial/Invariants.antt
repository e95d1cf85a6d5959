use mathlib.Core.Path.{◌≡◌}
use mathlib.Core.List.{map}
use lib.ListN.{length, take}
use Rattle.limits.specs.Limits.{max_bundles}
use Rattle.plan.specs.Plan.{initial_x}
use Rattle.plan.specs.Prepared.{x_of}
use Rattle.components.specs.Settled.{ranges_in}
use Rattle.component_extents.proofs.initial.Given as goal

abbrev pub invariant-loop-at : goal.invariant-loop-at
invariant-loop-at l = record {
  rows_length : length l.rows ≡ max_bundles;
  xs_are : map x_of (take l.at l.rows) ≡ map initial_x (ranges_in (take l.at l.ranges));
}
