use lib.Ieee.{of_bits}
use Rattle.normalize.specs.PageTables.{origin}
use Rattle.normalize.proofs.Outer.{bounds_joined}
use Rattle.normalize.proofs.outermost_of_sheet.Goals as goal

pub returns : goal.returns
unfolding of_bits
returns c =
    let a = c.args in
    rw (c.outermost_of_drawn.ensures, c.outermost_of_routes-b.ensures, c.outermost_of_nodes-a.ensures) (bounds_joined a.corner origin a.nodes.now a.drawn.now a.present.points.now a.present.counts.now a.taps.now)
