-- `plan_writer::write_plan` meets its contract. Assumes nothing.
use native.Mathlib.Omega.{arith}
use Rattle.plan_writer.proofs.Written as laws
use Rattle.plan_writer.proofs.write_plan.Goals as goal

pub overflow_cast-end : goal.overflow_cast-end
overflow_cast-end c = let m = laws.rows_move _ _ c.args.rows.now c.put_entries-end.ensures.place in omega (arith, m, c.requires.0)

pub returns : goal.returns
returns c =
    let a = c.args in
    let e = c.put_entries-end.ensures in
    let parts = laws.plan_put _ _ _ _ _ _ a.rows.now a.left.0 c.put8.ensures c.put32.ensures e.bytes e.place c.put32-2.ensures in
    record { bytes = parts.0; place = parts.1 }
