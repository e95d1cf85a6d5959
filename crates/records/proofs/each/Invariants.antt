use Rattle.records.specs.Steps.{Went}
use Rattle.records.proofs.each.Given as goal

abbrev pub invariant-loop-n : goal.invariant-loop-n
invariant-loop-n g l = goal.F-IsAlwaysCallable g l.step × Went (goal.F-step g) l.initial.step l.n l.step
