use Rattle.normalize.proofs.Shift.{Mapped}
use Rattle.normalize.proofs.shift_rows.Given as goal

abbrev pub invariant-loop-row : goal.invariant-loop-row
invariant-loop-row g l = Mapped (g.R.Shifted.moved l.o) l.initial.rows l.rows l.row-index
