-- `route_pushing::push_points` meets its contract. Assumes nothing.
use Rattle.std.proofs.Common.{◌<◌, ◌∙◌, arith}
use Rattle.geometry.specs.Points.{point_at}
use Rattle.route.proofs.WindowSteps.{push_step}
use Rattle.route_pushing.proofs.push_points.Goals as goal

pub loop-x-preserved : goal.loop-x-preserved
unfolding point_at
loop-x-preserved c =
    let r = c.args.route in
    let l = c.loop-x in
    let v = c.pairs-x-items.ensures in
    let f = c.push_point-n.ensures in
    let inside : l.x-index < r.count = omega (arith, v.count) in
    record {
      most = omega (arith, f.most, l.invariant.most);
      points = push_step l.out r.points.now _ l.n r.start r.count l.x-index _ _ inside (v.points l.x-index inside) f.points ∙ l.invariant.points;
    }
