use Rattle.std.proofs.Common.{ap, sym, ◌∙◌, arith}
use lib.Seq.{sets}
use Rattle.answer.proofs.Stores.{record_turn, records_done}
use Rattle.answer.proofs.put_records.Goals as goal

pub loop-row-preserved : goal.loop-row-preserved
loop-row-preserved g c =
    let r = g.R.Record in
    let l = c.loop-row in
    let w = c.WIDTH-at.ensures in record {
      place = omega (arith, w);
      bytes = rw w (record_turn r.record_bytes r.WIDTH g.met.R.Record.sized c.args.rows.now l.row-index l.out _ l.at _ c.loop-row-test.true c.row-item.is c.put.ensures ∙ l.invariant.bytes);
    }

pub returns-clause-bytes : goal.returns-clause-bytes
returns-clause-bytes g c =
    let l = c.loop-row in
    ap (λ z. sets l.out l.at z) (sym (records_done g.R.Record.record_bytes c.args.rows.now l.row-index c.loop-row-test.false)) ∙ l.invariant.bytes
