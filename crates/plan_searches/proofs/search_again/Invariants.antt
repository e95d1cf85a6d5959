use mathlib.Core.Path.{◌≡◌}
use mathlib.Core.List.{List}
use lib.ListN.{length, drop}
use Rattle.limits.specs.Limits.{max_bundles}
use Rattle.geometry.specs.Points.{Route}
use Rattle.board.specs.Board.{Board}
use Rattle.search.specs.Search.{search_of}
use Rattle.plan.specs.Plan.{Ranged, again}
use Rattle.plan.specs.Prepared.{SameBundles, plan_in, upper_at}
use Rattle.plan.specs.Lent.{LayoutTells}
use Rattle.plan_searches.proofs.search_again.Given as goal

abbrev pub invariant-loop-i : goal.invariant-loop-i
invariant-loop-i l = record {
  rows_length : length l.rows ≡ max_bundles;
  plan_is : (b : Board) (given : List Route) (ranges : List Ranged) → LayoutTells b given l.layout → SameBundles ranges l.layout.reaches.now
      → again search_of b given ranges (λ x. l.lower) (upper_at l.layout.setting.pitch l.upper) (drop l.i-index l.which) (plan_in (length l.layout.reaches.now) (record { rows = l.rows; left = l.left }))
      ≡ again search_of b given ranges (λ x. l.lower) (upper_at l.layout.setting.pitch l.upper) l.which (plan_in (length l.layout.reaches.now) (record { rows = l.initial.rows; left = l.initial.left }));
}
