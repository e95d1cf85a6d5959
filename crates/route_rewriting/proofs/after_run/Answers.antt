use Rattle.route.specs.Window.{points_drop}
use Rattle.std.proofs.Common.{sym, ◌∙◌, ap, ◌≡◌, ◌+◌, ◌-◌, suc, arith}
use Rattle.geometry.specs.Points.{points_from}
use Rattle.route_rewriting.proofs.after_run.Goals as goal

pub returns-clause-points : goal.returns-clause-points
returns-clause-points c =
    let r = c.args.route in
    let i = c.args.i in
    let a : r.start + i + 1 ≡ r.start + suc i = omega arith in
    let b : r.count - (i + 1) ≡ r.count - suc i = omega arith in
    ap (λ k. points_from r.points.now k (r.count - (i + 1))) a
    ∙ ap (λ k. points_from r.points.now (r.start + suc i) k) b
    ∙ sym (points_drop r.points.now r.start r.count (suc i))
