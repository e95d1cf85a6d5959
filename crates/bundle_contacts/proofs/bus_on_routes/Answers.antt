use Rattle.std.proofs.Common.{sym, ◌∙◌}
use Rattle.std.proofs.lemmas.Result.{err_from_is_err_and}
use Rattle.drawing.specs.Check.{route_tests}
use Rattle.checks.specs.Lent.{chosen_lent, taps_lent}
use Rattle.checks.proofs.TestSteps.{over_skip, over_on, over_off, over_end}
use Rattle.bundle_contacts.proofs.bus_on_routes.Goals as goal
use Rattle.bundle_contacts.proofs.bus_on_routes.Goals.{then-is_chosen+in_ok-bus_on_route, else-is_chosen}

pub returns-in_err-bus_on_route : goal.returns-in_err-bus_on_route
returns-in_err-bus_on_route c =
    let a = c.args in
    let l = c.loop-e in
    let p = err_from_is_err_and c.from_residual.result c.from_residual.ensures.1 in
    let w = rw (c.slot_of.ensures, c.bus_of.ensures) at c.in_err-bus_on_route.ensures in
    rw (p.1, p.2) (over_off 11 (route_tests a.rules.options a.rules.permits_crossings a.segment (taps_lent a.taps)) (chosen_lent a.chosen) a.chosen.routes.points.now a.chosen.routes.counts.now l.e _ _ c.loop-e-test.true (sym c.is_chosen.ensures ∙ c.if-is_chosen.true) _ w ∙ l.invariant)

pub loop-e-preserved : goal.loop-e-preserved
loop-e-preserved c =
    let a = c.args in
    let l = c.loop-e in
    elim c.if-is_chosen.branch [
      | then-is_chosen+in_ok-bus_on_route w ↦
          let t = rw (w.slot_of.ensures, c.bus_of.ensures) at w.in_ok-bus_on_route.ensures in
          rw w.visits-is (over_on 11 (route_tests a.rules.options a.rules.permits_crossings a.segment (taps_lent a.taps)) (chosen_lent a.chosen) a.chosen.routes.points.now a.chosen.routes.counts.now l.e _ _ c.loop-e-test.true (sym c.is_chosen.ensures ∙ w.if-is_chosen.true) t ∙ l.invariant)
      | else-is_chosen w ↦ rw w.visits-is (over_skip 11 (route_tests a.rules.options a.rules.permits_crossings a.segment (taps_lent a.taps)) (chosen_lent a.chosen) a.chosen.routes.points.now a.chosen.routes.counts.now l.e _ c.loop-e-test.true (sym c.is_chosen.ensures ∙ w.if-is_chosen.false) ∙ l.invariant)
    ]

pub returns : goal.returns
returns c =
    let a = c.args in
    let l = c.loop-e in
    over_end 11 (route_tests a.rules.options a.rules.permits_crossings a.segment (taps_lent a.taps)) (chosen_lent a.chosen) a.chosen.routes.points.now a.chosen.routes.counts.now l.e _ c.loop-e-test.false ∙ l.invariant
