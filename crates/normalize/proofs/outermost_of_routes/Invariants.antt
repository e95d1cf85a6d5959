use mathlib.Core.Path.{◌≡◌}
use Rattle.route.specs.Slots.{routes_of}
use Rattle.drawing.specs.Normal.{route_points}
use Rattle.normalize.specs.PageTables.{outermost}
use Rattle.normalize.proofs.Outer.{routes_rest}
use Rattle.normalize.proofs.outermost_of_routes.Given as goal

abbrev pub invariant-loop-e : goal.invariant-loop-e
invariant-loop-e l = outermost l.corner l.most (routes_rest l.present.points.now l.present.counts.now l.e) ≡ outermost l.corner l.initial.most (route_points (routes_of l.present.points.now l.present.counts.now))
