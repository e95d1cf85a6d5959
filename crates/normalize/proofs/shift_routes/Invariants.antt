use Rattle.normalize.proofs.Shift.{SlotsMoved}
use Rattle.normalize.proofs.shift_routes.Given as goal

abbrev pub invariant-loop-e : goal.invariant-loop-e
invariant-loop-e l = SlotsMoved l.o l.initial.points l.points l.counts l.e
