-- `plan_outputs::run_end` meets its contract. Assumes nothing.
use mathlib.Core.Path.{◌≡◌, ◌∙◌, ap}
use Prim.Native.Nat.{ℕ, ◌+◌, ◌-◌, ◌≤◌, ◌<◌}
use native.Mathlib.Omega.{arith}
use Rattle.geometry.specs.Points.{points_from}
use Rattle.plan.specs.Plan.{diverges_at}
use Rattle.plan.proofs.Ends as laws
use Rattle.plan_outputs.proofs.run_end.Goals as goal

pub returns-then-stretch_holds : goal.returns-then-stretch_holds
returns-then-stretch_holds c =
    let a = c.args in
    let l = c.loop-i in
    let h : 1 < a.route.count - l.i = omega (arith, c.loop-i-test.true, c.saturating_sub-i-end.ensures) in
    laws.ends_here a.role a.pitch a.x a.route.points.now (a.route.start + l.i) (a.route.count - l.i) h c.view_run-run.result c.view_run-run.ensures
    c.shared_trunk_horizontal_range-s.result c.shared_trunk_horizontal_range-s.ensures c.stretch_holds.result c.stretch_holds.ensures c.if-stretch_holds.true
    ∙ l.invariant

pub loop-i-preserved : goal.loop-i-preserved
loop-i-preserved c =
    let a = c.args in
    let l = c.loop-i in
    let t = c.loop-i-test.true in
    let h : 1 < a.route.count - l.i = omega (arith, t, c.saturating_sub-i-end.ensures) in
    let e : a.route.start + (l.i + 1) ≡ a.route.start + l.i + 1 = omega arith in
    let f : a.route.count - (l.i + 1) ≡ a.route.count - l.i - 1 = omega arith in
    ap (λ (j : ℕ). diverges_at a.role a.pitch a.x (points_from a.route.points.now j (a.route.count - (l.i + 1)))) e
    ∙ ap (λ (j : ℕ). diverges_at a.role a.pitch a.x (points_from a.route.points.now (a.route.start + l.i + 1) j)) f
    ∙ laws.ends_later a.role a.pitch a.x a.route.points.now (a.route.start + l.i) (a.route.count - l.i) h c.view_run-run.result c.view_run-run.ensures
    c.shared_trunk_horizontal_range-s.result c.shared_trunk_horizontal_range-s.ensures c.stretch_holds.result c.stretch_holds.ensures c.if-stretch_holds.false
    ∙ l.invariant

pub returns : goal.returns
returns c =
    let a = c.args in
    let l = c.loop-i in
    let h : a.route.count - l.i ≤ 1 = omega (arith, c.loop-i-test.false, c.saturating_sub-i-end.ensures) in
    laws.ends_nowhere a.role a.pitch a.x a.route.points.now (a.route.start + l.i) (a.route.count - l.i) h ∙ l.invariant
