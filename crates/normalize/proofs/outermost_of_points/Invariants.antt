use mathlib.Core.Path.{◌≡◌}
use Rattle.geometry.specs.Points.{points_from}
use Rattle.normalize.specs.PageTables.{outermost}
use Rattle.normalize.proofs.Outer.{points_rest}
use Rattle.normalize.proofs.outermost_of_points.Given as goal

abbrev pub invariant-loop-x : goal.invariant-loop-x
invariant-loop-x l = outermost l.corner l.most (points_rest l.route.points.now l.route.start l.route.count l.x-index) ≡ outermost l.corner l.initial.most (points_from l.route.points.now l.route.start l.route.count)
