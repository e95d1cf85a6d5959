-- `crossing_walk::walk_run` meets its contract. Assumes nothing.
use Rattle.crossing_rows.specs.Adding.{adds_none}
use Rattle.crossing_rows.specs.Walk.{row_hit, row_miss}
use Rattle.crossing_walk.proofs.walk_run.Goals as goal

pub returns-then-is_crossing : goal.returns-then-is_crossing
returns-then-is_crossing c = let a = c.args in rw (← row_hit a.bus.segment a.ids.bundle a.ids.edge a.run _ _ c.is_crossing.ensures c.if-is_crossing.true c.crossing_point-place.ensures) c.keep.ensures

pub returns : goal.returns
returns c = let a = c.args in rw (← row_miss a.bus.segment a.ids.bundle a.ids.edge a.run _ c.is_crossing.ensures c.if-is_crossing.false) (adds_none _ _)
