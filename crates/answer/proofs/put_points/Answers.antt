-- `answer::put_points` meets its contract. Assumes nothing.
use Rattle.std.proofs.Common.{◌<◌, ◌∙◌, arith}
use Rattle.geometry.specs.Points.{point_at}
use Rattle.answer.proofs.Stores.{points_turn}
use Rattle.answer.proofs.put_points.Goals as goal

pub loop-x-preserved : goal.loop-x-preserved
unfolding point_at
loop-x-preserved c =
    let r = c.args.route in
    let l = c.loop-x in
    let v = c.pairs-x-items.ensures in
    let inside : l.x-index < r.count = omega (arith, v.count) in
    record {
      place = omega (arith, l.invariant.place);
      bytes = points_turn r.points.now r.start r.count l.x-index l.at l.out _ _ inside (v.points l.x-index inside) c.put_point.ensures ∙ l.invariant.bytes;
    }
