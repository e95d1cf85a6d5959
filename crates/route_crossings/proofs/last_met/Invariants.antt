use Rattle.std.specs.Prelude.{◌≡◌, Option}
use Rattle.geometry.specs.declared.Point.{Point}
use Rattle.geometry.specs.declared.Segment.{Segment}
use Rattle.route.specs.Intersection.{last_met, AnswersAs}
use Rattle.geometry.specs.Points.{points_from, runs}
use Rattle.route_crossings.proofs.last_met.Given as goal

abbrev pub invariant-loop-end : goal.invariant-loop-end
invariant-loop-end g l = (f : Segment → Option Point) → AnswersAs (goal.F-post g l.fn.on_run) f → last_met f 0 (runs (points_from l.route.points.now l.route.start l.end)) ≡ last_met f 0 (runs (points_from l.route.points.now l.route.start l.route.count))
