-- `crossing_walk::walk_route` meets its contract. Assumes nothing.
use Rattle.std.proofs.lemmas.Result.{err_from_is_err_and}
use Rattle.crossing_rows.specs.Adding.{adds_then, adds_stopped}
use Rattle.crossing_walk.proofs.walk_route.Goals as goal

pub returns-in_err-walk_runs : goal.returns-in_err-walk_runs
returns-in_err-walk_runs c =
    let p = err_from_is_err_and c.from_residual.result c.from_residual.ensures.1 in
    rw (p.1, p.2) (adds_stopped _ _ _ _ _ c.in_err-walk_runs.ensures)

pub returns : goal.returns
returns c = adds_then _ _ _ _ _ _ _ c.in_ok-walk_runs.ensures c.walk_runs-2.ensures
