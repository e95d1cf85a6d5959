use native.Mathlib.Omega.{arith}
use mathlib.Core.Path.{sym, ap, ◌∙◌}
use lib.ListN.{length}
use lib.Seq.{sets}
use Rattle.answer.proofs.Stores.{bundle_room, bundle_written, records_done}
use Rattle.answer.specs.SheetTables.{drawn_bytes}
use Rattle.answer.proofs.put_bundles.Goals as goal

pub put_bundle-at-requires : goal.put_bundle-at-requires
put_bundle-at-requires c =
    let a = c.args in
    let l = c.loop-row in
    let h = c.requires.0 l.row-index _ c.loop-row-test.true in
    let w = bundle_room a.taps.now a.rows.now l.row-index _ c.loop-row-test.true h in
    (h, omega arith)

pub loop-row-preserved : goal.loop-row-preserved
loop-row-preserved c =
    let a = c.args in
    let l = c.loop-row in
    let f = c.put_bundle-at in
    let h = c.requires.0 l.row-index _ c.loop-row-test.true in
    let w = bundle_room a.taps.now a.rows.now l.row-index _ c.loop-row-test.true h in
    let e = f.ensures.place in record {
      place = omega arith;
      bytes = bundle_written a.taps.now a.rows.now l.row-index _ c.loop-row-test.true h l.out f.new.out l.at _ e f.ensures.bytes ∙ l.invariant.bytes;
    }

pub returns : goal.returns
returns c =
    let a = c.args in
    let l = c.loop-row in
    let z = records_done (drawn_bytes a.taps.now) a.rows.now l.row-index c.loop-row-test.false in
    let y = ap length z in
    record { bytes = ap (λ x. sets l.out l.at x) (sym z) ∙ l.invariant.bytes; place = omega arith }
