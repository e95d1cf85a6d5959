use mathlib.Core.Path.{◌≡◌}
use mathlib.Core.List.{◌++◌}
use Prim.Native.Nat.{◌≤◌}
use lib.ListN.{length, drop}
use Rattle.plan.specs.Plan.{of_role}
use Rattle.components.specs.Settled.{ranges_in}
use Rattle.component_extents.proofs.of_role.Given as goal

abbrev pub invariant-loop-i : goal.invariant-loop-i
invariant-loop-i l = record {
  few : length l.chosen.items ≤ l.i-index;
  chosen_are : l.chosen.items ++ of_role l.role (ranges_in l.ranges) (drop l.i-index l.order) ≡ of_role l.role (ranges_in l.ranges) l.order;
}
