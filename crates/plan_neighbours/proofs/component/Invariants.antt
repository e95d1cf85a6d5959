use Rattle.std.proofs.Common.{◌≡◌, ◌+◌, ◌-◌, ◌≤◌, length, take}
use Rattle.plan.specs.Plan.{walk}
use Rattle.plan.specs.Stack.{backward, row_of, room}
use Rattle.plan_neighbours.proofs.Walks as laws
use Rattle.plan_neighbours.proofs.component.Given as goal

abbrev pub invariant-loop-i : goal.invariant-loop-i
invariant-loop-i l = record {
  few : length l.order.items + room l.n l.s ≤ l.n;
  below : laws.Below l.n (backward l.s.pending.items);
  walked : laws.joined l.order.items (walk (row_of l.adjacent.rows l.n) (l.n - length l.order.items) (take l.n l.s.seen) (backward l.s.pending.items))
      ≡ walk (row_of l.adjacent.rows l.n) l.n (take l.n l.initial.s.seen) (backward l.initial.s.pending.items);
}

abbrev pub decreases-loop-i : goal.decreases-loop-i
decreases-loop-i l = l.n - length l.order.items
