use mathlib.Core.Path.{◌≡◌}
use Prim.Native.Nat.{ℕ}
use lib.ListN.{length, get_or, take, drop}
use Rattle.board.specs.Board.{Board}
use Rattle.plan.specs.Depths.{first_of, corridor_from}
use Rattle.plan.specs.declared.Bound.TheVariants.{None}
use Rattle.plan.specs.MemberColumns.{edges_of, lanes_of}
use Rattle.plan.specs.Prepared.{Rowed, Ended}
use Rattle.plan_corridors.proofs.fallback_corridors_by_edge.Given as goal

abbrev pub invariant-loop-u : goal.invariant-loop-u
invariant-loop-u l =
    (b : Board) (e : ℕ) → Rowed b (edges_of l.members) (lanes_of l.members) → Ended b l.o l.bundles l.fn.ends.rows
    → first_of (get_or l.corridors e None) (corridor_from b l.role e (drop (length l.yielded) l.bundles) (drop (length l.yielded) (take (length l.bundles) l.fn.offsets.rows)))
    ≡ first_of (get_or l.initial.corridors e None) (corridor_from b l.role e l.bundles (take (length l.bundles) l.fn.offsets.rows))
