use Rattle.std.specs.Prelude.{◌≡◌, take}
use Rattle.search_calls.specs.Entry.{plus_zeros}
use Rattle.search_copies.proofs.copy_numbers.Given as goal

abbrev pub invariant-loop-i : goal.invariant-loop-i
invariant-loop-i l = take l.i l.copy ≡ plus_zeros (take l.i l.points)
