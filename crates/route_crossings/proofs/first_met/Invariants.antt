use Rattle.std.specs.Prelude.{◌≡◌, Option}
use Rattle.geometry.specs.declared.Point.{Point}
use Rattle.geometry.specs.declared.Segment.{Segment}
use Rattle.route.proofs.WindowSteps.{later}
use Rattle.route.specs.Intersection.{first_met, AnswersAs}
use Rattle.geometry.specs.Points.{points_from, runs}
use Rattle.route_crossings.proofs.first_met.Given as goal

abbrev pub invariant-loop-i : goal.invariant-loop-i
invariant-loop-i g l = (f : Segment → Option Point) → AnswersAs (goal.F-post g l.fn.on_run) f → first_met f l.i (later f l.route.points.now l.route.start l.route.count l.i) ≡ first_met f 0 (runs (points_from l.route.points.now l.route.start l.route.count))
