use Rattle.std.proofs.Common.{ℕ, ◌≡◌, ◌-◌, ◌≤◌, length}
use Rattle.limits.specs.Limits.{max_bundles}
use Rattle.plan.specs.Plan.{push_all}
use Rattle.plan.specs.Stack.{room, row_from, walk_of}
use Rattle.plan_neighbours.proofs.push_near.Given as goal

abbrev pub invariant-loop-j : goal.invariant-loop-j
invariant-loop-j l = record {
  room_kept : (n : ℕ) → length l.row ≤ n → n ≤ max_bundles → room n l.s ≡ room n l.initial.s;
  pushed : (n : ℕ) → length l.row ≤ n → n ≤ max_bundles → push_all (row_from l.row l.j (n - l.j)) (walk_of n l.s) ≡ push_all (row_from l.row 0 n) (walk_of n l.initial.s);
}
