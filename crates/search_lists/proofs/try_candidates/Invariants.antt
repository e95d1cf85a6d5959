use mathlib.Core.Path.{◌≡◌}
use Prim.Native.Nat.{◌+◌, ◌-◌, ◌*◌, ◌≤◌}
use lib.ListN.{length, take, drop}
use Rattle.search.specs.Stretches.{runs_in}
use Rattle.search.specs.Kept.{members_from}
use Rattle.search.specs.Search.{tried_on, tried_on_all, tried}
use Rattle.search_lists.proofs.Walk.{K, N}
use Rattle.search_lists.proofs.try_candidates.Given as goal

abbrev pub invariant-loop-j : goal.invariant-loop-j
invariant-loop-j l = record {
  same_start : l.at ≡ l.initial.at;
  looks : tried_on l.x (K l.kept l.initial.at (l.count - 1)) l.initial.left.0 ≡ tried_on l.x (K l.kept l.j (l.end - l.j)) l.left.0;
}

abbrev pub invariant-members : goal.invariant-members
invariant-members l = record {
  room : 2 * (l.at + runs_in (N l.kept l.counts l.at l.count-index)) ≤ length l.kept;
  looks : tried_on_all l.x (members_from l.kept 0 l.counts) l.initial.left.0 ≡ tried_on_all l.x (N l.kept l.counts l.at l.count-index) l.left.0;
}

abbrev pub invariant-candidates : goal.invariant-candidates
invariant-candidates l =
    let ms = members_from l.kept 0 l.counts in record {
      n_within : l.n ≤ l.i;
      i_within : l.i ≤ length l.initial.xs;
      passed : tried ms l.initial.xs (take l.initial.n l.initial.xs) l.initial.left.0 ≡ tried ms (drop l.i l.xs) (take l.n l.xs) l.left.0;
    }

abbrev pub decreases-candidates : goal.decreases-candidates
decreases-candidates l = length l.initial.xs - l.i
