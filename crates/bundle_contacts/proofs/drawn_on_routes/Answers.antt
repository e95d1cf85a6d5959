use Rattle.std.proofs.Common.{ap, ◌∙◌, List, ◌++◌}
use Rattle.std.proofs.lemmas.Result.{err_from_is_err_and}
use Rattle.route.specs.Lent.{routes_lent}
use Rattle.drawing.specs.Build.{TapOn}
use Rattle.drawing.specs.Check.{walk, over_routes, route_tests, drawn_tests}
use Rattle.checks.specs.Lent.{chosen_lent}
use Rattle.checks.proofs.TestSteps.{then_on, then_off}
use Rattle.checks.proofs.Windows.{taps_lent_are}
use Rattle.bundle_contacts.proofs.drawn_on_routes.Goals as goal

pub returns-in_err-bus_on_routes : goal.returns-in_err-bus_on_routes
unfolding drawn_tests
returns-in_err-bus_on_routes c =
    let a = c.args in
    let p = err_from_is_err_and c.from_residual.result c.from_residual.ensures.1 in
    let own = taps_lent_are a.table.members.now a.table.taps.now a.d.first a.d.count c.requires in
    rw (p.1, p.2)
    (then_off 11 _ _ _ _ _ c.in_err-bus_on_routes.ensures
    ∙ ap (λ (ts : List TapOn). walk 11 (over_routes (route_tests a.rules.options a.rules.permits_crossings a.d.collector ts) (chosen_lent a.chosen) (routes_lent a.chosen.routes) 0 ++ over_routes (route_tests a.rules.options a.rules.permits_crossings a.d.spine ts) (chosen_lent a.chosen) (routes_lent a.chosen.routes) 0) a.visits.now.0) own)

pub returns : goal.returns
unfolding drawn_tests
returns c =
    let a = c.args in
    let own = taps_lent_are a.table.members.now a.table.taps.now a.d.first a.d.count c.requires in
    c.bus_on_routes-2.ensures
    ∙ then_on 11 _ _ _ _ c.in_ok-bus_on_routes.ensures
    ∙ ap (λ (ts : List TapOn). walk 11 (over_routes (route_tests a.rules.options a.rules.permits_crossings a.d.collector ts) (chosen_lent a.chosen) (routes_lent a.chosen.routes) 0 ++ over_routes (route_tests a.rules.options a.rules.permits_crossings a.d.spine ts) (chosen_lent a.chosen) (routes_lent a.chosen.routes) 0) a.visits.now.0) own
