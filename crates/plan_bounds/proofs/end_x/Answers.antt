-- `plan_bounds::end_x` meets its contract. Assumes nothing.
use mathlib.Core.Path.{sym, ◌∙◌, ap}
use Prim.Native.Nat.{◌<◌}
use native.Mathlib.Omega.{arith}
use Rattle.geometry.specs.declared.Point.{Point}
use Rattle.geometry.specs.declared.Role.{Role}
use Rattle.geometry.specs.Points.{points_from}
use Rattle.plan.specs.declared.Bound.TheVariants.{At}
use Rattle.plan.specs.Prepared.{end_x}
use Rattle.plan_bounds.proofs.Bounding as laws
use Rattle.plan_bounds.proofs.end_x.Goals as goal

pub returns-then-route-eq0 : goal.returns-then-route-eq0
returns-then-route-eq0 c = let a = c.args in laws.end_none a.role a.route.points.now a.route.start a.route.count c.if-route-eq0.true

pub returns-in-Input : goal.returns-in-Input
returns-in-Input c =
    let a = c.args in
    let h : 0 < a.route.count = omega (arith, c.if-route-eq0.false) in
    ap (λ (p : Point). At p.x) c.view_last.ensures
    ∙ laws.end_last a.route.points.now a.route.start a.route.count h
    ∙ ap (λ (r : Role). end_x r (points_from a.route.points.now a.route.start a.route.count)) (sym c.in-Input.is)

pub returns-in-Output : goal.returns-in-Output
returns-in-Output c =
    let a = c.args in
    let h : 0 < a.route.count = omega (arith, c.if-route-eq0.false) in
    ap (λ (p : Point). At p.x) c.view_point.ensures
    ∙ laws.end_first a.route.points.now a.route.start a.route.count h
    ∙ ap (λ (r : Role). end_x r (points_from a.route.points.now a.route.start a.route.count)) (sym c.in-Output.is)
