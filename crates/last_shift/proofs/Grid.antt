-- Where the last shift is exact: every coordinate is a multiple of 1 / 2 ^ k of magnitude at most 2 ^ m, and k + m + 2 is at most 53. Assumes nothing.
use Rattle.std.specs.Prelude.{ℕ, ◌+◌, ◌≤◌}
use Rattle.sorting.specs.Lists.{Every}
use Rattle.sorting.specs.Sorted.{every_map}
use Rattle.board.specs.declared.PlacedNode.{PlacedNode}
use Rattle.drawing.specs.Normal.{Sheet}
use Rattle.ranges.specs.Coordinates.{OfPoint, OfDrawn, OfPlaced}
use Rattle.last_shift.specs.Shift.{corner_of, ExactLess, ExactPoint, ShiftExact, NodesExact}
use Rattle.last_shift.proofs.GridSteps.{OnGrid, corner_on, point_exact, drawn_exact, nodes_exact}

-- ---- THE TWO CONDITIONS
module _ (k m : ℕ) (fit : k + m + 2 ≤ 53) where
  pub grid_shift : (s : Sheet) → OfPlaced (OnGrid k m) (OnGrid k m) s → ShiftExact s
  unfolding corner_on
  grid_shift s h moved =
      let o = corner_of s in
      let a = corner_on k m fit s h in
      record {
        on_routes = every_map (Every (OfPoint (OnGrid k m) (OnGrid k m))) (Every (ExactPoint o)) s.routes (λ r e. every_map (OfPoint (OnGrid k m) (OnGrid k m)) (ExactPoint o) r (λ p f. point_exact k m fit o p a f) e) h.routes;
        of_bundles = every_map (OfDrawn (OnGrid k m) (OnGrid k m)) (OfDrawn (ExactLess o.x) (ExactLess o.y)) s.drawn (λ d e. drawn_exact k m fit o d a e) h.drawn;
      }

  pub grid_nodes : (s : Sheet) → OfPlaced (OnGrid k m) (OnGrid k m) s → Every (λ (n : PlacedNode). OnGrid k m n.body.width × OnGrid k m n.body.height) s.nodes → NodesExact s
  grid_nodes s h w moved = nodes_exact k m fit s h s.nodes h.nodes w
