use Rattle.std.proofs.Common.{◌≡◌}
use Rattle.drawing.specs.Check.{walk, over_routes, route_tests}
use Rattle.route.specs.Lent.{routes_lent}
use Rattle.checks.specs.Lent.{chosen_lent, taps_lent}
use Rattle.checks.proofs.TestSteps.{rest_of}
use Rattle.bundle_contacts.proofs.bus_on_routes.Given as goal

abbrev pub invariant-loop-e : goal.invariant-loop-e
invariant-loop-e l =
    walk 11 (rest_of 11 (route_tests l.rules.options l.rules.permits_crossings l.fn.segment (taps_lent l.taps)) (chosen_lent l.chosen) l.chosen.routes.points.now l.chosen.routes.counts.now l.e) l.visits.0
    ≡ walk 11 (over_routes (route_tests l.rules.options l.rules.permits_crossings l.fn.segment (taps_lent l.taps)) (chosen_lent l.chosen) (routes_lent l.chosen.routes) 0) l.initial.visits.0
