-- `crossing_walk::sheet_crossings` meets its contract. Assumes nothing.
use Rattle.crossing_rows.specs.Rows.{rows_met}
use Rattle.crossing_rows.specs.Adding.{adds_none}
use Rattle.crossing_walk.proofs.sheet_crossings.Goals as goal

pub returns-then-not-permitted : goal.returns-then-not-permitted
unfolding rows_met
returns-then-not-permitted c = rw (c.if-not-permitted.true, c.clear.ensures) (adds_none _ _)

pub returns : goal.returns
unfolding rows_met
returns c = let kept = rw c.clear.ensures at c.walk_bundles.ensures in rw c.if-not-permitted.false kept
