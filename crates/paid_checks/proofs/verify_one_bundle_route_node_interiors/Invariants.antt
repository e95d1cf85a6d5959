use Rattle.std.proofs.Common.{◌≡◌}
use Rattle.drawing.specs.Check.{walk, over_routes}
use Rattle.checks.specs.CheckRows.{inside_route}
use Rattle.route.specs.Lent.{routes_lent}
use Rattle.checks.specs.Lent.{chosen_lent}
use Rattle.checks.proofs.TestSteps.{rest_of}
use Rattle.paid_checks.proofs.verify_one_bundle_route_node_interiors.Given as goal

abbrev pub invariant-loop-e : goal.invariant-loop-e
invariant-loop-e l =
    walk 12 (rest_of 12 (inside_route l.board.nodes.now l.board.edges.now) (chosen_lent l.chosen) l.chosen.routes.points.now l.chosen.routes.counts.now l.e) l.visits.0
    ≡ walk 12 (over_routes (inside_route l.board.nodes.now l.board.edges.now) (chosen_lent l.chosen) (routes_lent l.chosen.routes) 0) l.initial.visits.0
