use Prim.Native.Nat.{◌≤◌, ◌+◌, ◌*◌}
use Rattle.search_replay.proofs.members_at.Given as goal

abbrev pub invariant-loop-m : goal.invariant-loop-m
invariant-loop-m l = record {
  start_within : l.start ≤ 64 * l.m;
  from_within : l.from ≤ 102 + 1026 * l.m;
}
