use Rattle.std.proofs.Common.{◌≡◌, ◌+◌}
use Rattle.geometry.specs.Points.{runs, points_from}
use Rattle.drawing.specs.Check.{walk, inside_tests}
use Rattle.checks.proofs.TestSteps.{nodes_at, inside_at}
use Rattle.route_interiors.proofs.route_inside.Given as goal

abbrev pub invariant-loop-j : goal.invariant-loop-j
invariant-loop-j l =
    walk 12 (nodes_at l.e l.run l.nodes (inside_at l.nodes l.e l.route.points.now l.route.start l.route.count (l.i + 1)) l.j) l.visits.0
    ≡ walk 12 (inside_at l.nodes l.e l.route.points.now l.route.start l.route.count l.i) l.initial.visits.0

abbrev pub invariant-loop-i : goal.invariant-loop-i
invariant-loop-i l =
    walk 12 (inside_at l.nodes l.e l.route.points.now l.route.start l.route.count l.i) l.visits.0
    ≡ walk 12 (inside_tests l.nodes l.e (runs (points_from l.route.points.now l.route.start l.route.count))) l.initial.visits.0
