use Prim.Native.Nat.{◌+◌}
use Rattle.normalize.specs.PageTables.{Untouched, Placed}
use Rattle.normalize.proofs.Shift.{goal}
use Rattle.normalize.proofs.shift_points.Given as goal

abbrev pub invariant-loop-i : goal.invariant-loop-i
invariant-loop-i l = record {
  kept : Untouched l.initial.points l.points 0 l.i;
  placed : Placed l.points 0 l.i (λ k. goal l.o l.initial.points (0 + k));
}
