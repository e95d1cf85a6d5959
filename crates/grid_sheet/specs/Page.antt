-- The last shift in whole numbers over 128: the twin of drawing/specs/Normal, name for name. normalize_layout of boundary_bundles.rs. Definitions only.
-- Assumes nothing.
use Rattle.std.specs.Prelude.{List, [], ◌∷◌, ◌++◌, map, not, ◌||◌, cond, ℤ, pos, ◌+ℤ◌, ◌-ℤ◌}
use Rattle.grid_plan.specs.Board.{Point, Segment, PlacedNode, Route}
use Rattle.grid_sheet.specs.Draw.{pt, seg, TapOn, Drawn}
use Rattle.grid.specs.On.{same, smaller, larger}

pub record Sheet : Type 0 where
  pub nodes : List PlacedNode
  pub routes : List Route
  pub drawn : List Drawn

pub record Page : Type 0 where
  pub sheet : Sheet
  pub width : ℤ
  pub height : ℤ

unfoldable pub route_points : List Route → List Point
route_points [] = []
route_points (r ∷ rs) = r ++ route_points rs

unfoldable pub tap_points : List TapOn → List Point
tap_points [] = []
tap_points (t ∷ ts) = t.place ∷ tap_points ts

unfoldable pub drawn_points : List Drawn → List Point
drawn_points [] = []
drawn_points (d ∷ ds) = d.collector.start ∷ d.collector.end ∷ d.spine.start ∷ d.spine.end ∷ (tap_points d.taps ++ drawn_points ds)

unfoldable pub all_points : Sheet → List Point
all_points s = route_points s.routes ++ drawn_points s.drawn

unfoldable pub least_of : ℤ → List ℤ → ℤ
least_of m [] = m
least_of m (x ∷ xs) = least_of (smaller m x) xs

unfoldable pub greatest_of : ℤ → List ℤ → ℤ
greatest_of m [] = m
greatest_of m (x ∷ xs) = greatest_of (larger m x) xs

unfoldable pub min_x : Sheet → ℤ
min_x s = least_of (pos 0) (map (λ (n : PlacedNode). n.body.corner.x) s.nodes ++ map (λ (p : Point). p.x) (all_points s))

unfoldable pub min_y : Sheet → ℤ
min_y s = least_of (pos 0) (map (λ (n : PlacedNode). n.body.corner.y) s.nodes ++ map (λ (p : Point). p.y) (all_points s))

-- translate_point
unfoldable pub shifted : Point → Point → Point
shifted o p = pt (p.x -ℤ o.x) (p.y -ℤ o.y)

unfoldable pub shifted_node : Point → PlacedNode → PlacedNode
shifted_node o n = record { id = n.id; body = record { corner = shifted o n.body.corner; width = n.body.width; height = n.body.height } }

abbrev pub shifted_segment : Point → Segment → Segment
shifted_segment o s = seg (shifted o s.start) (shifted o s.end)

abbrev pub shifted_tap : Point → TapOn → TapOn
shifted_tap o t = record { edge = t.edge; place = shifted o t.place }

unfoldable pub shifted_drawn : Point → Drawn → Drawn
shifted_drawn o d =
    record {
      collector = shifted_segment o d.collector;
      spine = shifted_segment o d.spine;
      taps = map (shifted_tap o) d.taps;
      interior = d.interior;
    }

unfoldable pub shifted_sheet : Point → Sheet → Sheet
shifted_sheet o s =
    record {
      nodes = map (shifted_node o) s.nodes;
      routes = map (map (shifted o)) s.routes;
      drawn = map (shifted_drawn o) s.drawn;
    }

unfoldable pub moved : Sheet → Sheet
moved s = cond (not (same (min_x s) (pos 0)) || not (same (min_y s) (pos 0))) (shifted_sheet (pt (min_x s) (min_y s)) s) s

unfoldable pub width_of : Sheet → ℤ
width_of s = greatest_of (pos 0) (map (λ (n : PlacedNode). n.body.corner.x +ℤ n.body.width) s.nodes ++ map (λ (p : Point). p.x) (all_points s))

unfoldable pub height_of : Sheet → ℤ
height_of s = greatest_of (pos 0) (map (λ (n : PlacedNode). n.body.corner.y +ℤ n.body.height) s.nodes ++ map (λ (p : Point). p.y) (all_points s))

-- normalize_layout
unfoldable pub page_of : Sheet → Page
page_of s = record { sheet = moved s; width = width_of (moved s); height = height_of (moved s) }
