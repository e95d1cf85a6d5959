-- `crossing_walk::walk_runs` meets its contract. Assumes nothing.
use Rattle.std.proofs.lemmas.Result.{err_from_is_err_and}
use Rattle.crossing_rows.specs.Adding.{loop_next, loop_stopped, loop_ended}
use Rattle.crossing_rows.specs.Walk.{runs_step, runs_end}
use native.Mathlib.Omega.{arith}
use Rattle.crossing_walk.proofs.walk_runs.Goals as goal

pub returns-in_err-walk_run : goal.returns-in_err-walk_run
returns-in_err-walk_run c =
    let p = err_from_is_err_and c.from_residual.result c.from_residual.ensures.1 in
    let a = c.args in
    let l = c.loop-i in
    rw (p.1, p.2) (loop_stopped _ _ _ _ _ _ _ _ c.in_err-walk_run.ensures (runs_step a.bus.segment a.ids.bundle a.ids.edge a.route.points.now a.route.start a.route.count l.i _ (omega arith) c.view_run.ensures) l.invariant)

pub loop-i-preserved : goal.loop-i-preserved
loop-i-preserved c =
    let a = c.args in
    let l = c.loop-i in
    loop_next _ _ _ _ _ _ _ c.in_ok-walk_run.ensures (runs_step a.bus.segment a.ids.bundle a.ids.edge a.route.points.now a.route.start a.route.count l.i _ (omega arith) c.view_run.ensures) l.invariant

pub returns : goal.returns
returns c = let a = c.args in let l = c.loop-i in loop_ended _ _ _ _ _ (runs_end a.bus.segment a.ids.bundle a.ids.edge a.route.points.now a.route.start a.route.count l.i (omega arith)) l.invariant
