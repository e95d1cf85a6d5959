use mathlib.Core.Path.{◌≡◌}
use Prim.Native.Nat.{◌+◌, ◌-◌}
use Rattle.geometry.specs.Points.{points_from}
use Rattle.plan.specs.Plan.{diverges_at}
use Rattle.plan_outputs.proofs.run_end.Given as goal

abbrev pub invariant-loop-i : goal.invariant-loop-i
invariant-loop-i l =
    diverges_at l.role l.pitch l.x (points_from l.route.points.now (l.route.start + l.i) (l.route.count - l.i)) ≡ diverges_at l.role l.pitch l.x (points_from l.route.points.now l.route.start l.route.count)
