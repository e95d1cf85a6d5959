use Rattle.std.proofs.Common.{◌≡◌, map, take}
use Rattle.normalize.proofs.shifted_table.Given as goal

abbrev pub invariant-loop-row : goal.invariant-loop-row
invariant-loop-row g l = l.shifted.items ≡ map (g.R.Shifted.moved l.o) (take l.row-index l.rows)
