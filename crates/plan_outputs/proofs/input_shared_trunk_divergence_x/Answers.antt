-- `plan_outputs::input_shared_trunk_divergence_x` meets its contract. Assumes nothing.
use mathlib.Core.Path.{◌∙◌}
use Rattle.plan.proofs.Ends as laws
use Rattle.plan_outputs.proofs.input_shared_trunk_divergence_x.Goals as goal

pub returns-in_default : goal.returns-in_default
returns-in_default c =
    let a = c.args in
    let l = c.loop-i in
    let m = c.member_route-route.ensures in
    let e = rw (m.0, m.1, m.2) at c.run_end.ensures in
    laws.over_none a.u.role a.pitch a.x l.d _ _ _ (laws.route_at a.routes.points.now a.routes.starts.now a.routes.counts.now a.routes.windows.paired a.u.first a.u.count c.requires l.i c.loop-i-test.true) c.run_end.result e c.in_default.is
    ∙ l.invariant

pub loop-i-preserved : goal.loop-i-preserved
loop-i-preserved c =
    let a = c.args in
    let l = c.loop-i in
    let t = c.loop-i-test.true in
    let m = c.member_route-route.ensures in
    let e = rw (m.0, m.1, m.2) at c.run_end.ensures in
    laws.over_some a.u.role a.pitch a.x l.d _ _ _ (laws.route_at a.routes.points.now a.routes.starts.now a.routes.counts.now a.routes.windows.paired a.u.first a.u.count c.requires l.i t) c.run_end.result e
    c.in-At.y c.furthest-d.result c.in-At.is c.furthest-d.ensures
    ∙ l.invariant

pub returns : goal.returns
returns c =
    let a = c.args in
    let l = c.loop-i in
    laws.over_end a.u.role a.pitch a.x l.d _ (laws.route_end a.routes.points.now a.routes.starts.now a.routes.counts.now a.routes.windows.paired a.u.first a.u.count c.requires l.i c.loop-i-test.false) ∙ l.invariant
