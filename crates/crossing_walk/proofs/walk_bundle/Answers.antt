-- `crossing_walk::walk_bundle` meets its contract. Assumes nothing.
use Rattle.std.proofs.lemmas.Result.{err_from_is_err_and}
use Rattle.crossing_rows.specs.Adding.{loop_next, loop_stopped, loop_ended}
use Rattle.crossing_rows.specs.Rows.{route_rows, id_of}
use Rattle.crossing_rows.specs.Walk.{routes_step, routes_end}
use Rattle.std.proofs.lemmas.List.{get_or-map}
use mathlib.Core.List.{map}
use native.Mathlib.Omega.{arith}
use Rattle.crossing_walk.proofs.walk_bundle.Goals as goal

pub returns-in_err-walk_route : goal.returns-in_err-walk_route
unfolding route_rows
returns-in_err-walk_route c =
    let p = err_from_is_err_and c.from_residual.result c.from_residual.ensures.1 in
    let a = c.args in
    let l = c.loop-e in
    let walked = rw (c.bus_of-collector.ensures, c.bus_of-spine.ensures, c.slot_of.ensures, ← get_or-map id_of a.routes.edges.now l.e _ 0 (omega (arith, a.routes.named, c.loop-e-test.true))) at c.in_err-walk_route.ensures in
    rw (p.1, p.2) (loop_stopped _ _ _ _ _ _ _ _ walked (routes_step a.row (map id_of a.routes.edges.now) a.routes.present.points.now a.routes.present.counts.now l.e (omega (arith, a.routes.named, c.loop-e-test.true))) l.invariant)

pub loop-e-preserved : goal.loop-e-preserved
unfolding route_rows
loop-e-preserved c =
    let a = c.args in
    let l = c.loop-e in
    let walked = rw (c.bus_of-collector.ensures, c.bus_of-spine.ensures, c.slot_of.ensures, ← get_or-map id_of a.routes.edges.now l.e _ 0 (omega (arith, a.routes.named, c.loop-e-test.true))) at c.in_ok-walk_route.ensures in
    loop_next _ _ _ _ _ _ _ walked (routes_step a.row (map id_of a.routes.edges.now) a.routes.present.points.now a.routes.present.counts.now l.e (omega (arith, a.routes.named, c.loop-e-test.true))) l.invariant

pub returns : goal.returns
returns c = let a = c.args in let l = c.loop-e in loop_ended _ _ _ _ _ (routes_end a.row (map id_of a.routes.edges.now) a.routes.present.points.now a.routes.present.counts.now l.e (omega (arith, a.routes.named, c.loop-e-test.false))) l.invariant
