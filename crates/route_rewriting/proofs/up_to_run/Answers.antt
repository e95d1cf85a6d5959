use Rattle.route.specs.Window.{points_take}
use Rattle.std.proofs.Common.{sym, ◌∙◌, ap, ◌≡◌, ◌+◌, suc, arith}
use Rattle.geometry.specs.Points.{points_from}
use Rattle.route_rewriting.proofs.up_to_run.Goals as goal

pub returns-clause-points : goal.returns-clause-points
returns-clause-points c =
    let r = c.args.route in
    let i = c.args.i in
    let a : i + 1 ≡ suc i = omega arith in
    ap (λ k. points_from r.points.now r.start k) a ∙ sym (points_take r.points.now r.start r.count (suc i) (omega arith))
