use Rattle.std.proofs.Common.{◌≡◌}
use Rattle.geometry.specs.Points.{runs, points_from}
use Rattle.drawing.specs.Build.{tap_of}
use Rattle.drawing.specs.Check.{walk, run_tests}
use Rattle.checks.specs.Lent.{taps_lent}
use Rattle.checks.proofs.TestSteps.{tests_at}
use Rattle.bundle_contacts.proofs.bus_on_route.Given as goal

abbrev pub invariant-loop-i : goal.invariant-loop-i
invariant-loop-i l =
    walk 11 (tests_at l.rules.options l.rules.permits_crossings l.own.bus.segment (tap_of (taps_lent l.own.taps) l.e) l.route.points.now l.route.start l.route.count l.i) l.visits.0
    ≡ walk 11 (run_tests l.rules.options l.rules.permits_crossings l.own.bus.segment (tap_of (taps_lent l.own.taps) l.e) (runs (points_from l.route.points.now l.route.start l.route.count))) l.initial.visits.0
