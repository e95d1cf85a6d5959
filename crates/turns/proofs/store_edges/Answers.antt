use Rattle.std.proofs.Common.{arith, ◌<◌, length}
use Rattle.plan.specs.BoardTables.{no_edge}
use Rattle.turns.proofs.Filling.{fill_start, fill_next, fill_short}
use Rattle.turns.proofs.store_edges.Goals as goal
use Rattle.turns.proofs.store_edges.Goals.{Start}

pub loop-i-init : goal.loop-i-init
loop-i-init c = ((λ k. omega arith), fill_start _)

pub loop-i-preserved : goal.loop-i-preserved
loop-i-preserved c =
    let a = c.args in
    let l = c.loop-i in
    let h = c.loop-i-test.true in
    let f = c.store_route in
    let g = c.requires.0 in
    let here : l.i < length l.counts = omega arith in (
      fill_short a.given.now a.table.now l.i no_edge l.points _ l.counts _ f.ensures (g.short l.i h) here l.invariant.0,
      fill_next a.given.now a.table.now l.i no_edge l.points _ l.counts _ f.ensures (g.short l.i h) here l.invariant.0 h (omega arith) l.invariant.1,
    )
