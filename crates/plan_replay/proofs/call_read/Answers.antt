-- `plan_replay::call_read` is safe and ends. Assumes nothing.
use Rattle.job_tables.proofs.Ready.{routes_lent}
use Rattle.plan_replay.proofs.call_read.Goals as goal

pub board_tables-requires : goal.board_tables-requires
board_tables-requires c = record { came = (c.args.points.now, c.requires.came) }

pub invariant_of-q : goal.invariant_of-q
invariant_of-q c =
    let a = c.args in
    let t = c.board_tables in
    record { routes_in = routes_lent a.j.now a.points.now c.requires.came t.result (t.ensures a.points.now) }
