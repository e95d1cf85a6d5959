use Rattle.std.proofs.Common.{sym, ◌∙◌}
use Rattle.std.proofs.lemmas.Result.{err_from_is_err_and}
use Rattle.checks.specs.CheckRows.{inside_route}
use Rattle.checks.specs.Lent.{chosen_lent}
use Rattle.checks.proofs.TestSteps.{over_off}
use Rattle.paid_checks.proofs.verify_one_bundle_route_node_interiors.Goals as goal

pub returns-in_err-route_inside : goal.returns-in_err-route_inside
returns-in_err-route_inside c =
    let a = c.args in
    let l = c.loop-e in
    let p = err_from_is_err_and c.from_residual.result c.from_residual.ensures.1 in
    let w = rw c.slot_of-route.ensures at c.in_err-route_inside.ensures in
    rw (p.1, p.2) (over_off 12 (inside_route a.board.nodes.now a.board.edges.now) (chosen_lent a.chosen) a.chosen.routes.points.now a.chosen.routes.counts.now l.e _ _ c.loop-e-test.true (sym c.is_chosen.ensures ∙ c.if-is_chosen.true) _ w ∙ l.invariant)
