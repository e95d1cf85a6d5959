use mathlib.Core.Path.{◌≡◌}
use lib.ListN.{drop}
use Rattle.plan.specs.Lent.{bundle_routes}
use Rattle.plan.specs.Over.{divergence_over}
use Rattle.plan_outputs.proofs.input_shared_trunk_divergence_x.Given as goal

abbrev pub invariant-loop-i : goal.invariant-loop-i
invariant-loop-i l = divergence_over l.u.role l.pitch l.x l.d (drop l.i (bundle_routes l.routes l.u)) ≡ divergence_over l.u.role l.pitch l.x l.initial.d (bundle_routes l.routes l.u)
