-- `crossing_walk::walk_bundles` meets its contract. Assumes nothing.
use Rattle.std.proofs.lemmas.Result.{err_from_is_err_and}
use Rattle.crossing_rows.specs.Adding.{loop_next, loop_stopped, loop_ended}
use Rattle.crossing_rows.specs.Rows.{id_of}
use Rattle.crossing_rows.specs.Walk.{drawn_step, drawn_end}
use Rattle.route.specs.Slots.{routes_of}
use mathlib.Core.List.{map}
use native.Mathlib.Omega.{arith}
use Rattle.crossing_walk.proofs.walk_bundles.Goals as goal

pub returns-in_err-walk_bundle : goal.returns-in_err-walk_bundle
returns-in_err-walk_bundle c =
    let p = err_from_is_err_and c.from_residual.result c.from_residual.ensures.1 in
    let a = c.args in
    let l = c.loop-row in
    rw (p.1, p.2) (loop_stopped _ _ _ _ _ _ _ _ c.in_err-walk_bundle.ensures (drawn_step _ (map id_of a.routes.edges.now) (routes_of a.routes.present.points.now a.routes.present.counts.now) l.row-index _ (omega arith)) l.invariant)

pub loop-row-preserved : goal.loop-row-preserved
loop-row-preserved c =
    let a = c.args in
    let l = c.loop-row in
    loop_next _ _ _ _ _ _ _ c.in_ok-walk_bundle.ensures (drawn_step _ (map id_of a.routes.edges.now) (routes_of a.routes.present.points.now a.routes.present.counts.now) l.row-index _ (omega arith)) l.invariant

pub returns : goal.returns
returns c = let a = c.args in let l = c.loop-row in loop_ended _ _ _ _ _ (drawn_end _ (map id_of a.routes.edges.now) (routes_of a.routes.present.points.now a.routes.present.counts.now) l.row-index (omega arith)) l.invariant
