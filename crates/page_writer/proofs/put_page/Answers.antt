use Rattle.std.proofs.Common.{◌<◌, length, sym, ap, ◌∙◌, arith}
use lib.Seq.{sets}
use Rattle.limits.specs.Limits.{id_columns}
use Rattle.answer.proofs.Stores.{records_done}
use Rattle.bundle_page.specs.PageTables.{bundle_line}
use Rattle.page_writer.specs.PageTurns.{line_room, line_written, table_room}
use Rattle.page_writer.proofs.put_page.Goals as goal

pub put_entry-at-requires : goal.put_entry-at-requires
put_entry-at-requires c =
    let a = c.args in
    let l = c.loop-b in
    let before : l.b-index < length a.drawn.now = omega arith in
    (c.requires.1 l.b-index _ before, omega (arith, line_room id_columns a.drawn.now l.b-index before, table_room a.drawn.now c.requires.0))

pub loop-b-preserved : goal.loop-b-preserved
loop-b-preserved c =
    let a = c.args in
    let l = c.loop-b in
    let f = c.put_entry-at in
    let before : l.b-index < length a.drawn.now = omega arith in
    let e = f.ensures.place in record {
      place = omega (arith, e, line_room id_columns a.drawn.now l.b-index before);
      bytes = line_written id_columns a.drawn.now l.b-index _ l.out f.new.out l.at _ e before f.ensures.bytes ∙ l.invariant.bytes;
    }

pub returns : goal.returns
returns c =
    let l = c.loop-b in
    let z = records_done (bundle_line id_columns) c.args.drawn.now l.b-index (omega arith) in
    let y = ap length z in
    record { bytes = ap (λ x. sets l.out l.at x) (sym z) ∙ l.invariant.bytes; place = omega arith }
