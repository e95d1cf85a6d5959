use Rattle.std.proofs.Common.{arith}
use Rattle.normalize.proofs.Shift.{mapped_turn}
use Rattle.normalize.proofs.shift_rows.Goals as goal

pub loop-row-preserved : goal.loop-row-preserved
loop-row-preserved g c =
    let f = g.R.Shifted.moved c.args.o in
    let l = c.loop-row in
    mapped_turn f c.args.rows.now l.rows l.row-index c.row-item.result _ (omega arith) (omega arith) c.shift.ensures l.invariant
