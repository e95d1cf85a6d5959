use mathlib.Core.Path.{◌≡◌}
use mathlib.Core.List.{map}
use Prim.Native.Nat.{ℕ}
use lib.ListN.{length, take, drop}
use Rattle.limits.specs.Limits.{max_bundles}
use Rattle.plan.specs.Plan.{drop_all}
use Rattle.plan.specs.Prepared.{Listing, x_of}
use Rattle.component_extents.proofs.drop_all.Given as goal

abbrev pub invariant-loop-i : goal.invariant-loop-i
invariant-loop-i l = record {
  rows_length : length l.rows ≡ max_bundles;
  xs_are : (m : ℕ) → Listing l.which m → drop_all (drop l.i-index l.which) (map x_of (take m l.rows)) ≡ drop_all l.which (map x_of (take m l.initial.rows));
}
