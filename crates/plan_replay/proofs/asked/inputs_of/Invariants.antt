use Rattle.std.proofs.Common.{◌≤◌, length}
use Rattle.plan.specs.Prepared.{Listing}
use Rattle.plan_replay.proofs.asked.inputs_of.Given as goal

abbrev pub invariant-loop-i : goal.invariant-loop-i
invariant-loop-i l = record {
  few : length l.inputs.items ≤ l.i;
  listed : Listing l.inputs.items (length l.reaches);
}
