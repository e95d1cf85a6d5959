-- `plan_writer::put_entries` meets its contract. Assumes nothing.
use Rattle.std.proofs.Common.{sym, ap, ◌∙◌, length, arith}
use lib.Seq.{sets}
use Rattle.plan.specs.declared.Bound.TheVariants.{None}
use Rattle.plan_writer.proofs.Written as laws
use Rattle.plan_writer.proofs.put_entries.Goals as goal

pub loop-row-preserved : goal.loop-row-preserved
loop-row-preserved c =
    let a = c.args in
    let l = c.loop-row in
    let f = c.put_entry-at in
    laws.turn a.rows.now l.row-index (record { x = None }) c.loop-row-test.true l.out f.new.out _ a.from l.at _ _ f.ensures.bytes f.ensures.place l.invariant.0 l.invariant.1 l.invariant.2

pub returns : goal.returns
returns c =
    let a = c.args in
    let l = c.loop-row in
    let z = laws.rows_done a.rows.now l.row-index c.loop-row-test.false in
    let y = ap length z in
    record { bytes = ap (λ x. sets l.out l.at x) (sym z) ∙ l.invariant.2; place = omega (arith, y, l.invariant.1) }
