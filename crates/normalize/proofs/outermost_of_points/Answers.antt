-- `normalize::outermost_of_points` meets its contract. Assumes nothing.
use Rattle.std.proofs.Common.{◌+◌, ◌<◌, ap, ◌∙◌, arith}
use Rattle.geometry.specs.declared.Point.{Point}
use Rattle.geometry.specs.Points.{point_at}
use Rattle.normalize.specs.PageTables.{outer, outermost}
use Rattle.normalize.proofs.Outer.{points_rest, points_turn}
use Rattle.normalize.proofs.outermost_of_points.Goals as goal

pub loop-x-preserved : goal.loop-x-preserved
unfolding point_at
loop-x-preserved c =
    let a = c.args in
    let r = a.route in
    let l = c.loop-x in
    let v = c.pairs-x-items.ensures in
    let inside : l.x-index < r.count = omega (arith, v.count) in
    ap (λ (p : Point). outermost a.corner p (points_rest r.points.now r.start r.count (l.x-index + 1))) (c.outer_point-most.ensures ∙ ap (outer a.corner l.most) (v.points l.x-index inside))
    ∙ points_turn a.corner l.most r.points.now r.start r.count l.x-index inside ∙ l.invariant
