use Rattle.std.proofs.Common.{◌≡◌, map}
use Rattle.plan.specs.MemberColumns.{edges_of}
use Rattle.drawing.specs.Check.{walk, prior_tests}
use Rattle.route.specs.Lent.{routes_lent}
use Rattle.checks.specs.Lent.{chosen_lent, drawn_lent}
use Rattle.checks.proofs.TestSteps.{priors_at}
use Rattle.bundle_contacts.proofs.verify_priors.Given as goal

abbrev pub invariant-loop-prior : goal.invariant-loop-prior
invariant-loop-prior l =
    walk 11 (priors_at l.rules.options l.rules.permits_crossings l.new (chosen_lent l.changed) (edges_of l.table.members.now) l.table.taps.now (routes_lent l.changed.routes) l.priors l.prior-index) l.visits.0
    ≡ walk 11 (prior_tests l.rules.options l.rules.permits_crossings (drawn_lent l.table l.new) (chosen_lent l.changed) (map (drawn_lent l.table) l.priors) (routes_lent l.changed.routes)) l.initial.visits.0
