use mathlib.Core.Path.{◌≡◌}
use mathlib.Core.List.{List}
use Prim.Native.Nat.{ℕ, ◌<◌}
use lib.ListN.{length, get_or}
use Rattle.limits.specs.Limits.{max_bundles}
use Rattle.geometry.specs.Points.{Route}
use Rattle.board.specs.Board.{Board, rail_depth, sheet_pitch}
use Rattle.plan.specs.BoardTables.{no_bundle}
use Rattle.plan.specs.MemberColumns.{edges_of}
use Rattle.plan.specs.Prepared.{Rowed, Ended, Tells, no_reached}
use Rattle.plan.specs.Lent.{RoutesTell, CorridorsTell}
use Rattle.planner.proofs.reaches.Given as goal

abbrev pub invariant-loop-i : goal.invariant-loop-i
invariant-loop-i l = record {
  rows_length : length l.rows.items ≡ l.i;
  bundle_is : (j : ℕ) → j < l.i → (get_or l.rows.items j no_reached).bundle ≡ get_or l.t.bundles.now j no_bundle;
  told : (j : ℕ) → j < l.i → (b : Board) (given : List Route) (lanes : List ℕ) → Ended b l.t.options l.t.bundles.now l.ends.rows → Rowed b (edges_of l.t.members.now) lanes → RoutesTell b given l.routes → CorridorsTell b l.corridors
      → Tells b given l.routes.points.now l.routes.starts.now l.routes.counts.now (rail_depth l.t.options) (sheet_pitch l.t.options) (get_or l.rows.items j no_reached);
}
