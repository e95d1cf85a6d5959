use mathlib.Core.Path.{◌≡◌}
use lib.ListN.{length, get_or, drop}
use Rattle.plan.specs.Plan.{desired_at}
use Rattle.plan.specs.Prepared.{Listing}
use Rattle.components.specs.Settled.{ranges_in, bound_at, inmost, extent}
use Rattle.component_extents.proofs.extent.Given as goal

abbrev pub invariant-loop-i : goal.invariant-loop-i
invariant-loop-i l = record {
  listed : Listing l.i-items (length l.ranges);
  inmost_is : record { bound = inmost l.role (bound_at l.role (ranges_in l.ranges)) l.bound (drop l.i-index l.i-items); desired = inmost l.role (desired_at (ranges_in l.ranges)) l.desired (drop l.i-index l.i-items) }
      ≡ extent l.role (ranges_in l.ranges) (get_or l.which 0 0) (drop 1 l.which);
}
