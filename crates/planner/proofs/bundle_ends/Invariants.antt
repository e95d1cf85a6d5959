use mathlib.Core.Path.{◌≡◌}
use Prim.Native.Nat.{ℕ, ◌<◌}
use lib.ListN.{length, get_or}
use lib.Ieee.{nan}
use Rattle.limits.specs.Limits.{max_bundles}
use Rattle.board.specs.Board.{Board}
use Rattle.plan.specs.Depths.{endpoint_of}
use Rattle.plan.specs.BoardTables.{no_bundle}
use Rattle.planner.proofs.bundle_ends.Given as goal

abbrev pub invariant-loop-i : goal.invariant-loop-i
invariant-loop-i l = record {
  rows_length : length l.rows ≡ max_bundles;
  end_is : (j : ℕ) → j < l.i → (b : Board) → b.nodes ≡ l.nodes → b.ports ≡ l.ports → get_or l.rows j nan ≡ (endpoint_of b (get_or l.bundles j no_bundle)).x;
}
