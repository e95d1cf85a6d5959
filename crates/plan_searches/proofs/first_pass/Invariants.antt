use mathlib.Core.Path.{◌≡◌}
use mathlib.Core.List.{List, map}
use Prim.Native.Nat.{ℕ, ◌<◌}
use lib.ListN.{length, get_or, take, drop}
use Rattle.limits.specs.Limits.{max_bundles}
use Rattle.geometry.specs.Points.{Route}
use Rattle.board.specs.Board.{Board}
use Rattle.search.specs.Search.{search_of}
use Rattle.plan.specs.Plan.{first_pass}
use Rattle.plan.specs.Prepared.{bundle_of, ranged_from, reached_at, no_range}
use Rattle.plan.specs.Lent.{LayoutTells}
use Rattle.plan_searches.proofs.Passes as laws
use Rattle.plan_searches.proofs.first_pass.Given as goal

abbrev pub invariant-loop-i : goal.invariant-loop-i
invariant-loop-i l = record {
  rows_length : length l.rows ≡ max_bundles;
  passed_is : (b : Board) (given : List Route) → LayoutTells b given l.layout
      → laws.behind (map ranged_from (take l.i l.rows)) (first_pass search_of b given (map bundle_of (drop l.i l.layout.reaches.now)) l.left.0) ≡ first_pass search_of b given (map bundle_of l.layout.reaches.now) l.initial.left.0;
  same : (j : ℕ) → j < l.i → (get_or l.rows j no_range).bundle ≡ (reached_at l.layout.reaches.now j).bundle;
}
