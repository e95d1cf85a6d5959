use mathlib.Core.Path.{◌≡◌}
use Prim.Native.Nat.{ℕ, ◌≤◌, ◌<◌}
use lib.ListN.{get_or}
use Rattle.planner.specs.Members.{edge_row}
use Rattle.planner.proofs.member_windows.Given as goal

abbrev pub invariant-loop-i : goal.invariant-loop-i
invariant-loop-i l = record {
  start_is : (j : ℕ) → j < l.i → get_or l.starts j 0 ≡ (edge_row l.table l.members j).first;
  count_is : (j : ℕ) → j < l.i → get_or l.counts j 0 ≡ (edge_row l.table l.members j).count;
  no_start : (j : ℕ) → l.i ≤ j → get_or l.starts j 0 ≡ 0;
  no_count : (j : ℕ) → l.i ≤ j → get_or l.counts j 0 ≡ 0;
}
