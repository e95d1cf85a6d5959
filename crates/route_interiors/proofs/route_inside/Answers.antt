use Rattle.std.proofs.Common.{sym, ◌∙◌, ◌+◌, arith}
use Rattle.std.proofs.lemmas.Result.{err_from_is_err_and}
use Rattle.checks.proofs.TestSteps.{node_own, node_spent, node_hit, node_clean, node_end, inside_at, inside_slanted, inside_straight, inside_end}
use Rattle.route_interiors.proofs.route_inside.Goals as goal

pub returns-then-is_slanted : goal.returns-then-is_slanted
returns-then-is_slanted c =
    let a = c.args in
    let l = c.loop-i in
    let p = c.view_run-run in
    sym (inside_slanted a.nodes.now a.e a.route.points.now a.route.start a.route.count l.i _ p.result (omega arith) p.ensures (sym c.is_slanted.ensures ∙ c.if-is_slanted.true)) ∙ l.invariant

pub loop-j-init : goal.loop-j-init
loop-j-init c =
    let a = c.args in
    let l = c.loop-i in
    let p = c.view_run-run in
    inside_straight a.nodes.now a.e a.route.points.now a.route.start a.route.count l.i _ p.result (omega arith) p.ensures (sym c.is_slanted.ensures ∙ c.if-is_slanted.false)

pub loop-j-preserved-then-is_own : goal.loop-j-preserved-then-is_own
loop-j-preserved-then-is_own c =
    let a = c.args in
    let m = c.loop-j in
    node_own a.e c.view_run-run.result a.nodes.now (inside_at a.nodes.now a.e a.route.points.now a.route.start a.route.count (c.loop-i.i + 1)) m.j _ c.loop-j-test.true (sym c.is_own.ensures ∙ c.if-is_own.true) ∙ m.invariant

pub returns-in_err-charge : goal.returns-in_err-charge
returns-in_err-charge c =
    let a = c.args in
    let m = c.loop-j in
    let p = err_from_is_err_and c.from_residual.result c.from_residual.ensures.1 in
    rw (p.1, p.2, c.in_err-charge.ensures.refusal)
    (node_spent a.e c.view_run-run.result a.nodes.now (inside_at a.nodes.now a.e a.route.points.now a.route.start a.route.count (c.loop-i.i + 1)) m.j _ _ c.loop-j-test.true (sym c.is_own.ensures ∙ c.if-is_own.false) c.in_err-charge.ensures.paid ∙ m.invariant ∙ c.loop-i.invariant)

pub returns-then-run_passes_inside : goal.returns-then-run_passes_inside
returns-then-run_passes_inside c =
    let a = c.args in
    let m = c.loop-j in
    node_hit a.e c.view_run-run.result a.nodes.now (inside_at a.nodes.now a.e a.route.points.now a.route.start a.route.count (c.loop-i.i + 1)) m.j _ _ c.loop-j-test.true (sym c.is_own.ensures ∙ c.if-is_own.false) c.in_ok-charge.ensures.paid (sym c.run_passes_inside.ensures ∙ c.if-run_passes_inside.true) ∙ m.invariant ∙ c.loop-i.invariant

pub loop-j-preserved : goal.loop-j-preserved
loop-j-preserved c =
    let a = c.args in
    let m = c.loop-j in
    node_clean a.e c.view_run-run.result a.nodes.now (inside_at a.nodes.now a.e a.route.points.now a.route.start a.route.count (c.loop-i.i + 1)) m.j _ _ c.loop-j-test.true (sym c.is_own.ensures ∙ c.if-is_own.false) c.in_ok-charge.ensures.paid (sym c.run_passes_inside.ensures ∙ c.if-run_passes_inside.false) ∙ m.invariant

pub loop-i-preserved : goal.loop-i-preserved
loop-i-preserved c =
    let a = c.args in
    let l = c.loop-i in
    let m = c.loop-j in
    sym (node_end a.e c.view_run-run.result a.nodes.now (inside_at a.nodes.now a.e a.route.points.now a.route.start a.route.count (l.i + 1)) m.j _ c.loop-j-test.false) ∙ m.invariant ∙ l.invariant

pub returns : goal.returns
returns c =
    let a = c.args in
    let l = c.loop-i in
    sym (inside_end a.nodes.now a.e a.route.points.now a.route.start a.route.count l.i _ (omega arith)) ∙ l.invariant
