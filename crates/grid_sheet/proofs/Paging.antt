-- normalize_layout of binary64 on a sheet of the grid is the one in whole numbers.
-- Assumes nothing.
use Rattle.std.specs.Prelude.{◌≡◌, refl, ℕ, ◌^◌, ◌≤◌, Bool, true, false, not, ◌||◌, cond, ℤ, pos, nat_abs, ◌+ℤ◌, ◌-ℤ◌, Float}
use Rattle.std.proofs.Common.{sym, ◌∙◌, arith}
use Rattle.std.proofs.Math.Path.{ap}
use mathlib.Core.List.{List, [], ◌∷◌, ◌++◌, map}
use Rattle.std.specs.Float.{binary64}
use Rattle.std.specs.Float.Ieee.{ne, add, sub}
use Rattle.geometry.specs.declared.Point.{Point}
use Rattle.geometry.specs.declared.Segment.{Segment}
use Rattle.geometry.specs.Points.{Route}
use Rattle.board.specs.declared.PlacedNode.{PlacedNode}
use Rattle.drawing.specs.Build as D
use Rattle.drawing.specs.Normal as N
use Rattle.sorting.specs.Sorted.{every_map}
use Rattle.grid_plan.specs.Board as Z
use Rattle.grid_plan.proofs.Sized.{pick_smaller}
use Rattle.grid_plan.specs.Image.{point, segment, placed, route}
use Rattle.grid_sheet.specs.Draw as W
use Rattle.grid_sheet.specs.Page as X
use Rattle.grid_sheet.specs.Image.{tap_on, drawn, sheet, page}
use Rattle.binary64.specs.Accepted.{zero64}
use Rattle.sorting.specs.Lists.{Every}
use Rattle.grid.specs.On.{on, same, smaller, larger}
use Rattle.grid.proofs.OnLaws.{on_zero}
use Rattle.grid.proofs.Operations.{ne_on, least_on, greatest_on, add_on, sub_on, subtract_size}
use Rattle.grid_plan.proofs.PlanSteps.{map_append}
use Rattle.grid_sheet.proofs.SheetSteps.{tapped_kept}
use Rattle.grid_plan.specs.Sizes.{Job, Length}
use Rattle.grid_sheet.specs.Sizes.{Ready, Far, Kept, Tapped, KeptDrawn, KeptRoutes}

-- ---- all points
route_points_on : (rs : List Z.Route) → N.route_points (map route rs) ≡ map point (X.route_points rs)
unfolding N.route_points X.route_points
route_points_on [] = refl
route_points_on (r ∷ rs) = ap (λ (l : List Point). route r ++ l) (route_points_on rs) ∙ sym (map_append point r (X.route_points rs))

tap_points_on : (ts : List W.TapOn) → N.tap_points (map tap_on ts) ≡ map point (X.tap_points ts)
unfolding N.tap_points X.tap_points
tap_points_on [] = refl
tap_points_on (t ∷ ts) = ap (λ (l : List Point). point t.place ∷ l) (tap_points_on ts)

drawn_points_on : (ds : List W.Drawn) → N.drawn_points (map drawn ds) ≡ map point (X.drawn_points ds)
unfolding N.drawn_points X.drawn_points
drawn_points_on [] = refl
drawn_points_on (d ∷ ds) =
    ap (λ (l : List Point). point d.collector.start ∷ point d.collector.end ∷ point d.spine.start ∷ point d.spine.end ∷ l)
    (ap (λ (l : List Point). l ++ N.drawn_points (map drawn ds)) (tap_points_on d.taps) ∙ ap (λ (l : List Point). map point (X.tap_points d.taps) ++ l) (drawn_points_on ds) ∙ sym (map_append point (X.tap_points d.taps) (X.drawn_points ds)))

all_points_on : (s : X.Sheet) → N.all_points (sheet s) ≡ map point (X.all_points s)
unfolding N.all_points X.all_points
all_points_on s = ap (λ (l : List Point). l ++ N.drawn_points (map drawn s.drawn)) (route_points_on s.routes) ∙ ap (λ (l : List Point). map point (X.route_points s.routes) ++ l) (drawn_points_on s.drawn) ∙ sym (map_append point (X.route_points s.routes) (X.drawn_points s.drawn))

-- ---- the numbers of a sheet
pub record Laid (n : ℕ) (s : X.Sheet) : Type 0 where
  pub nodes : Every (λ (p : Z.PlacedNode). (nat_abs p.body.corner.x ≤ n) × (nat_abs p.body.corner.y ≤ n) × (nat_abs p.body.width ≤ 2 ^ 27) × (nat_abs p.body.height ≤ 2 ^ 27)) s.nodes
  pub points : Every (λ (p : Z.Point). (nat_abs p.x ≤ n) × (nat_abs p.y ≤ n)) (X.all_points s)

-- ---- extremes
least_of_on : (m : ℤ) (xs : List ℤ) → N.least_of (on m) (map on xs) ≡ on (X.least_of m xs)
unfolding N.least_of X.least_of
least_of_on m [] = refl
least_of_on m (x ∷ xs) = ap (λ (z : Float). N.least_of z (map on xs)) (least_on m x) ∙ least_of_on (smaller m x) xs

greatest_of_on : (m : ℤ) (xs : List ℤ) → N.greatest_of (on m) (map on xs) ≡ on (X.greatest_of m xs)
unfolding N.greatest_of X.greatest_of
greatest_of_on m [] = refl
greatest_of_on m (x ∷ xs) = ap (λ (z : Float). N.greatest_of z (map on xs)) (greatest_on m x) ∙ greatest_of_on (larger m x) xs

least_of_of : (n : ℕ) (m : ℤ) (xs : List ℤ) → nat_abs m ≤ n → Every (λ (z : ℤ). nat_abs z ≤ n) xs → nat_abs (X.least_of m xs) ≤ n
unfolding X.least_of
least_of_of n m [] h k = h
least_of_of n m (x ∷ xs) h k = least_of_of n (smaller m x) xs (pick_smaller (λ (z : ℤ). nat_abs z ≤ n) m x h k.0) k.1

-- what a function of points or nodes gives on an image
map_on : {A B : Type 0} (image : A → B) (f : B → Float) (g : A → ℤ) (l : List A) → Every (λ (a : A). f (image a) ≡ on (g a)) l → map f (map image l) ≡ map on (map g l)
map_on image f g [] h = refl
map_on image f g (a ∷ l) h = ap (λ (z : Float). z ∷ map f (map image l)) h.0 ∙ ap (λ (m : List Float). on (g a) ∷ m) (map_on image f g l h.1)

everywhere : {A : Type 0} (Q : A → Type 0) → ((a : A) → Q a) → (l : List A) → Every Q l
everywhere Q h [] = tt
everywhere Q h (a ∷ l) = (h a, everywhere Q h l)

every_image : {A : Type 0} (g : A → ℤ) (n : ℕ) (l : List A) → Every (λ (a : A). nat_abs (g a) ≤ n) l → Every (λ (z : ℤ). nat_abs z ≤ n) (map g l)
every_image g n [] h = tt
every_image g n (a ∷ l) h = (h.0, every_image g n l h.1)

both : (n : ℕ) (xs ys : List ℤ) → Every (λ (z : ℤ). nat_abs z ≤ n) xs → Every (λ (z : ℤ). nat_abs z ≤ n) ys → Every (λ (z : ℤ). nat_abs z ≤ n) (xs ++ ys)
both n [] ys h k = k
both n (x ∷ xs) ys h k = (h.0, both n xs ys h.1 k)

-- a list of nodes' numbers and of points' numbers
joined_on : (s : X.Sheet) (f : PlacedNode → Float) (g : Z.PlacedNode → ℤ) (p : Point → Float) (q : Z.Point → ℤ) → Every (λ (n : Z.PlacedNode). f (placed n) ≡ on (g n)) s.nodes → ((a : Z.Point) → p (point a) ≡ on (q a))
    → map f (map placed s.nodes) ++ map p (N.all_points (sheet s)) ≡ map on (map g s.nodes ++ map q (X.all_points s))
joined_on s f g p q h k =
    ap (λ (l : List Float). l ++ map p (N.all_points (sheet s))) (map_on placed f g s.nodes h)
    ∙ ap (λ (l : List Point). map on (map g s.nodes) ++ map p l) (all_points_on s)
    ∙ ap (λ (l : List Float). map on (map g s.nodes) ++ l) (map_on point p q (X.all_points s) (everywhere (λ (a : Z.Point). p (point a) ≡ on (q a)) k (X.all_points s)))
    ∙ sym (map_append on (map g s.nodes) (map q (X.all_points s)))

pub min_x_on : (s : X.Sheet) → N.min_x (sheet s) ≡ on (X.min_x s)
unfolding N.min_x X.min_x
min_x_on s =
    ap (N.least_of zero64) (joined_on s (λ n. n.body.corner.x) (λ n. n.body.corner.x) (λ p. p.x) (λ p. p.x) (everywhere (λ (n : Z.PlacedNode). on n.body.corner.x ≡ on n.body.corner.x) (λ n. refl) s.nodes) (λ a. refl))
    ∙ ap (λ (z : Float). N.least_of z (map on (map (λ (n : Z.PlacedNode). n.body.corner.x) s.nodes ++ map (λ (p : Z.Point). p.x) (X.all_points s)))) (sym on_zero)
    ∙ least_of_on (pos 0) (map (λ (n : Z.PlacedNode). n.body.corner.x) s.nodes ++ map (λ (p : Z.Point). p.x) (X.all_points s))

pub min_y_on : (s : X.Sheet) → N.min_y (sheet s) ≡ on (X.min_y s)
unfolding N.min_y X.min_y
min_y_on s =
    ap (N.least_of zero64) (joined_on s (λ n. n.body.corner.y) (λ n. n.body.corner.y) (λ p. p.y) (λ p. p.y) (everywhere (λ (n : Z.PlacedNode). on n.body.corner.y ≡ on n.body.corner.y) (λ n. refl) s.nodes) (λ a. refl))
    ∙ ap (λ (z : Float). N.least_of z (map on (map (λ (n : Z.PlacedNode). n.body.corner.y) s.nodes ++ map (λ (p : Z.Point). p.y) (X.all_points s)))) (sym on_zero)
    ∙ least_of_on (pos 0) (map (λ (n : Z.PlacedNode). n.body.corner.y) s.nodes ++ map (λ (p : Z.Point). p.y) (X.all_points s))

min_x_of : (n : ℕ) (s : X.Sheet) → Laid n s → nat_abs (X.min_x s) ≤ n
unfolding X.min_x
min_x_of n s h =
    least_of_of n (pos 0) (map (λ (p : Z.PlacedNode). p.body.corner.x) s.nodes ++ map (λ (p : Z.Point). p.x) (X.all_points s)) (omega arith)
    (both n (map (λ (p : Z.PlacedNode). p.body.corner.x) s.nodes) (map (λ (p : Z.Point). p.x) (X.all_points s))
    (every_image (λ (p : Z.PlacedNode). p.body.corner.x) n s.nodes (every_map _ (λ (p : Z.PlacedNode). nat_abs p.body.corner.x ≤ n) s.nodes (λ p k. k.0) h.nodes))
    (every_image (λ (p : Z.Point). p.x) n (X.all_points s) (every_map _ (λ (p : Z.Point). nat_abs p.x ≤ n) (X.all_points s) (λ p k. k.0) h.points)))

min_y_of : (n : ℕ) (s : X.Sheet) → Laid n s → nat_abs (X.min_y s) ≤ n
unfolding X.min_y
min_y_of n s h =
    least_of_of n (pos 0) (map (λ (p : Z.PlacedNode). p.body.corner.y) s.nodes ++ map (λ (p : Z.Point). p.y) (X.all_points s)) (omega arith)
    (both n (map (λ (p : Z.PlacedNode). p.body.corner.y) s.nodes) (map (λ (p : Z.Point). p.y) (X.all_points s))
    (every_image (λ (p : Z.PlacedNode). p.body.corner.y) n s.nodes (every_map _ (λ (p : Z.PlacedNode). nat_abs p.body.corner.y ≤ n) s.nodes (λ p k. k.1) h.nodes))
    (every_image (λ (p : Z.Point). p.y) n (X.all_points s) (every_map _ (λ (p : Z.Point). nat_abs p.y ≤ n) (X.all_points s) (λ p k. k.1) h.points)))

-- ---- the shift
pub shifted_on : (o p : Z.Point) → Kept o → Kept p → N.shifted (point o) (point p) ≡ point (X.shifted o p)
unfolding N.shifted X.shifted
shifted_on o p h k =
    ap (λ (z : Float). D.pt z (sub binary64 (on p.y) (on o.y))) (sub_on p.x o.x (let a = h.0 in let c = k.0 in omega arith))
    ∙ ap (λ (z : Float). D.pt (on (p.x -ℤ o.x)) z) (sub_on p.y o.y (let a = h.1 in let c = k.1 in omega arith))

shifted_of : (o p : Z.Point) → Kept o → Kept p → (nat_abs (X.shifted o p).x ≤ 2 ^ 47) × (nat_abs (X.shifted o p).y ≤ 2 ^ 47)
unfolding X.shifted
shifted_of o p h k = (let a = h.0 in let c = k.0 in let d = subtract_size p.x o.x in omega arith, let a = h.1 in let c = k.1 in let d = subtract_size p.y o.y in omega arith)

map_map : {A B A' B' : Type 0} (image : A → B) (f : B → B') (g : A → A') (image' : A' → B') (l : List A) → Every (λ (a : A). f (image a) ≡ image' (g a)) l → map f (map image l) ≡ map image' (map g l)
map_map image f g image' [] h = refl
map_map image f g image' (a ∷ l) h = ap (λ (z : _). z ∷ map f (map image l)) h.0 ∙ ap (λ (m : List _). image' (g a) ∷ m) (map_map image f g image' l h.1)

module _ (o : Z.Point) (ho : Kept o) where
  node_shift : (n : Z.PlacedNode) → Kept n.body.corner → N.shifted_node (point o) (placed n) ≡ placed (X.shifted_node o n)
  unfolding N.shifted_node X.shifted_node
  node_shift n h = ap (λ (c : Point). record { id = n.id; body = record { corner = c; width = on n.body.width; height = on n.body.height } }) (shifted_on o n.body.corner ho h)

  route_shift : (r : Z.Route) → Every Kept r → map (N.shifted (point o)) (route r) ≡ route (map (X.shifted o) r)
  route_shift r h = map_map point (N.shifted (point o)) (X.shifted o) point r (every_map Kept (λ (p : Z.Point). N.shifted (point o) (point p) ≡ point (X.shifted o p)) r (λ p k. shifted_on o p ho k) h)

  tap_shift : (t : W.TapOn) → Kept t.place → N.shifted_tap (point o) (tap_on t) ≡ tap_on (X.shifted_tap o t)
  tap_shift t h = ap (λ (p : Point). record { edge = t.edge; place = p }) (shifted_on o t.place ho h)

  segment_shift : (s : Z.Segment) → Kept s.start → Kept s.end → N.shifted_segment (point o) (segment s) ≡ segment (X.shifted_segment o s)
  segment_shift s h k = ap (λ (p : Point). D.seg p (N.shifted (point o) (point s.end))) (shifted_on o s.start ho h) ∙ ap (D.seg (point (X.shifted o s.start))) (shifted_on o s.end ho k)

  drawn_shift : (d : W.Drawn) → KeptDrawn d → N.shifted_drawn (point o) (drawn d) ≡ drawn (X.shifted_drawn o d)
  unfolding N.shifted_drawn X.shifted_drawn
  drawn_shift d h =
      ap (λ (c : Segment). record { collector = c; spine = N.shifted_segment (point o) (segment d.spine); taps = map (N.shifted_tap (point o)) (map tap_on d.taps); interior = d.interior }) (segment_shift d.collector h.0.0 h.0.1)
      ∙ ap (λ (c : Segment). record { collector = segment (X.shifted_segment o d.collector); spine = c; taps = map (N.shifted_tap (point o)) (map tap_on d.taps); interior = d.interior }) (segment_shift d.spine h.1.0 h.1.1)
      ∙ ap (λ (l : List D.TapOn). record { collector = segment (X.shifted_segment o d.collector); spine = segment (X.shifted_segment o d.spine); taps = l; interior = d.interior })
      (map_map tap_on (N.shifted_tap (point o)) (X.shifted_tap o) tap_on d.taps (every_map Tapped (λ (t : W.TapOn). N.shifted_tap (point o) (tap_on t) ≡ tap_on (X.shifted_tap o t)) d.taps (λ t k. tap_shift t (tapped_kept t k)) h.2))

append_points : (Q : Z.Point → Type 0) (r s : List Z.Point) → Every Q r → Every Q s → Every Q (r ++ s)
append_points Q [] s h k = k
append_points Q (a ∷ r) s h k = (h.0, append_points Q r s h.1 k)

route_points_of : (rs : List Z.Route) → KeptRoutes rs → Every Kept (X.route_points rs)
unfolding X.route_points
route_points_of [] h = tt
route_points_of (r ∷ rs) h = append_points Kept r (X.route_points rs) h.0 (route_points_of rs h.1)

tap_points_of : (ts : List W.TapOn) → Every Tapped ts → Every Kept (X.tap_points ts)
unfolding X.tap_points
tap_points_of [] h = tt
tap_points_of (t ∷ ts) h = (tapped_kept t h.0, tap_points_of ts h.1)

drawn_points_of : (ds : List W.Drawn) → Every KeptDrawn ds → Every Kept (X.drawn_points ds)
unfolding X.drawn_points
drawn_points_of [] h = tt
drawn_points_of (d ∷ ds) h = (h.0.0.0, (h.0.0.1, (h.0.1.0, (h.0.1.1, append_points Kept (X.tap_points d.taps) (X.drawn_points ds) (tap_points_of d.taps h.0.2) (drawn_points_of ds h.1)))))

ready_laid : (s : X.Sheet) → Ready s → Laid (2 ^ 46) s
unfolding X.all_points
ready_laid s h = record {
  nodes = every_map (λ (n : Z.PlacedNode). Job n.body.corner.x × Job n.body.corner.y × Length n.body.width × Length n.body.height) (λ (p : Z.PlacedNode). (nat_abs p.body.corner.x ≤ 2 ^ 46) × (nat_abs p.body.corner.y ≤ 2 ^ 46) × (nat_abs p.body.width ≤ 2 ^ 27) × (nat_abs p.body.height ≤ 2 ^ 27)) s.nodes
      (λ n k. (let a = k.0.size in omega arith, let a = k.1.size in omega arith, k.2.0.size, k.3.0.size)) h.nodes;
  points = append_points Kept (X.route_points s.routes) (X.drawn_points s.drawn) (route_points_of s.routes h.routes) (drawn_points_of s.drawn h.drawn);
}

sheet_shift : (o : Z.Point) (s : X.Sheet) → Kept o → Ready s → N.shifted_sheet (point o) (sheet s) ≡ sheet (X.shifted_sheet o s)
unfolding N.shifted_sheet X.shifted_sheet
sheet_shift o s ho h =
    ap (λ (l : List PlacedNode). record { nodes = l; routes = map (map (N.shifted (point o))) (map route s.routes); drawn = map (N.shifted_drawn (point o)) (map drawn s.drawn) })
    (map_map placed (N.shifted_node (point o)) (X.shifted_node o) placed s.nodes (every_map _ (λ (n : Z.PlacedNode). N.shifted_node (point o) (placed n) ≡ placed (X.shifted_node o n)) s.nodes (λ n k. node_shift o ho n (k.0, k.1)) (ready_laid s h).nodes))
    ∙ ap (λ (l : List Route). record { nodes = map placed (map (X.shifted_node o) s.nodes); routes = l; drawn = map (N.shifted_drawn (point o)) (map drawn s.drawn) })
    (map_map route (map (N.shifted (point o))) (map (X.shifted o)) route s.routes (every_map (Every Kept) (λ (r : Z.Route). map (N.shifted (point o)) (route r) ≡ route (map (X.shifted o) r)) s.routes (λ r k. route_shift o ho r k) h.routes))
    ∙ ap (λ (l : List D.Drawn). record { nodes = map placed (map (X.shifted_node o) s.nodes); routes = map route (map (map (X.shifted o)) s.routes); drawn = l })
    (map_map drawn (N.shifted_drawn (point o)) (X.shifted_drawn o) drawn s.drawn (every_map KeptDrawn (λ (d : W.Drawn). N.shifted_drawn (point o) (drawn d) ≡ drawn (X.shifted_drawn o d)) s.drawn (λ d k. drawn_shift o ho d k) h.drawn))

moved_on : (s : X.Sheet) → Ready s → N.moved (sheet s) ≡ sheet (X.moved s)
unfolding N.moved X.moved
moved_on s h =
    ap (λ (z : Float). cond (ne z zero64 || ne (N.min_y (sheet s)) zero64) (N.shifted_sheet (D.pt z (N.min_y (sheet s))) (sheet s)) (sheet s)) (min_x_on s)
    ∙ ap (λ (z : Float). cond (ne (on (X.min_x s)) zero64 || ne z zero64) (N.shifted_sheet (D.pt (on (X.min_x s)) z) (sheet s)) (sheet s)) (min_y_on s)
    ∙ ap (λ (z : Float). cond (ne (on (X.min_x s)) z || ne (on (X.min_y s)) z) (N.shifted_sheet (point o) (sheet s)) (sheet s)) (sym on_zero)
    ∙ ap (λ (t : Bool). cond (t || ne (on (X.min_y s)) (on (pos 0))) (N.shifted_sheet (point o) (sheet s)) (sheet s)) (ne_on (X.min_x s) (pos 0))
    ∙ ap (λ (t : Bool). cond (not (same (X.min_x s) (pos 0)) || t) (N.shifted_sheet (point o) (sheet s)) (sheet s)) (ne_on (X.min_y s) (pos 0))
    ∙ ap (λ (t : N.Sheet). cond (not (same (X.min_x s) (pos 0)) || not (same (X.min_y s) (pos 0))) t (sheet s)) (sheet_shift o s (min_x_of (2 ^ 46) s (ready_laid s h), min_y_of (2 ^ 46) s (ready_laid s h)) h)
    ∙ go (not (same (X.min_x s) (pos 0)) || not (same (X.min_y s) (pos 0)))
  where
    o : Z.Point
    o = W.pt (X.min_x s) (X.min_y s)

    go : (t : Bool) → cond t (sheet (X.shifted_sheet (W.pt (X.min_x s) (X.min_y s)) s)) (sheet s) ≡ sheet (cond t (X.shifted_sheet (W.pt (X.min_x s) (X.min_y s)) s) s)
    go true = refl
    go false = refl

-- ---- the size
node_far : (o : Z.Point) (n : Z.PlacedNode) → Kept o → (nat_abs n.body.corner.x ≤ 2 ^ 46) × (nat_abs n.body.corner.y ≤ 2 ^ 46) × (nat_abs n.body.width ≤ 2 ^ 27) × (nat_abs n.body.height ≤ 2 ^ 27) → Far (X.shifted_node o n)
unfolding X.shifted_node
node_far o n h k = let q = shifted_of o n.body.corner h (k.0, k.1) in (q.0, q.1, k.2, k.3)

nodes_far : (o : Z.Point) (ns : List Z.PlacedNode) → Kept o → Every (λ (p : Z.PlacedNode). (nat_abs p.body.corner.x ≤ 2 ^ 46) × (nat_abs p.body.corner.y ≤ 2 ^ 46) × (nat_abs p.body.width ≤ 2 ^ 27) × (nat_abs p.body.height ≤ 2 ^ 27)) ns → Every Far (map (X.shifted_node o) ns)
nodes_far o [] h k = tt
nodes_far o (n ∷ ns) h k = (node_far o n h k.0, nodes_far o ns h k.1)

moved_far : (s : X.Sheet) → Ready s → Every Far (X.moved s).nodes
unfolding X.moved X.shifted_sheet
moved_far s h = go (not (same (X.min_x s) (pos 0)) || not (same (X.min_y s) (pos 0)))
  where
    go : (t : Bool) → Every Far (cond t (X.shifted_sheet (W.pt (X.min_x s) (X.min_y s)) s) s).nodes
    go true = nodes_far (W.pt (X.min_x s) (X.min_y s)) s.nodes (min_x_of (2 ^ 46) s (ready_laid s h), min_y_of (2 ^ 46) s (ready_laid s h)) (ready_laid s h).nodes
    go false = every_map _ Far s.nodes (λ n k. (let a = k.0 in omega arith, let a = k.1 in omega arith, k.2, k.3)) (ready_laid s h).nodes

pub width_on : (s : X.Sheet) → Every Far s.nodes → N.width_of (sheet s) ≡ on (X.width_of s)
unfolding N.width_of X.width_of
width_on s h =
    ap (N.greatest_of zero64) (joined_on s (λ n. add binary64 n.body.corner.x n.body.width) (λ n. n.body.corner.x +ℤ n.body.width) (λ p. p.x) (λ p. p.x)
    (every_map Far (λ (n : Z.PlacedNode). add binary64 (on n.body.corner.x) (on n.body.width) ≡ on (n.body.corner.x +ℤ n.body.width)) s.nodes (λ n k. add_on n.body.corner.x n.body.width (let a = k.0 in let c = k.2 in omega arith)) h) (λ a. refl))
    ∙ ap (λ (z : Float). N.greatest_of z (map on (map (λ (n : Z.PlacedNode). n.body.corner.x +ℤ n.body.width) s.nodes ++ map (λ (p : Z.Point). p.x) (X.all_points s)))) (sym on_zero)
    ∙ greatest_of_on (pos 0) (map (λ (n : Z.PlacedNode). n.body.corner.x +ℤ n.body.width) s.nodes ++ map (λ (p : Z.Point). p.x) (X.all_points s))

pub height_on : (s : X.Sheet) → Every Far s.nodes → N.height_of (sheet s) ≡ on (X.height_of s)
unfolding N.height_of X.height_of
height_on s h =
    ap (N.greatest_of zero64) (joined_on s (λ n. add binary64 n.body.corner.y n.body.height) (λ n. n.body.corner.y +ℤ n.body.height) (λ p. p.y) (λ p. p.y)
    (every_map Far (λ (n : Z.PlacedNode). add binary64 (on n.body.corner.y) (on n.body.height) ≡ on (n.body.corner.y +ℤ n.body.height)) s.nodes (λ n k. add_on n.body.corner.y n.body.height (let a = k.1 in let c = k.3 in omega arith)) h) (λ a. refl))
    ∙ ap (λ (z : Float). N.greatest_of z (map on (map (λ (n : Z.PlacedNode). n.body.corner.y +ℤ n.body.height) s.nodes ++ map (λ (p : Z.Point). p.y) (X.all_points s)))) (sym on_zero)
    ∙ greatest_of_on (pos 0) (map (λ (n : Z.PlacedNode). n.body.corner.y +ℤ n.body.height) s.nodes ++ map (λ (p : Z.Point). p.y) (X.all_points s))

-- THE LAST SHIFT
pub page_on : (s : X.Sheet) → Ready s → N.page_of (sheet s) ≡ page (X.page_of s)
unfolding N.page_of X.page_of
page_on s h =
    ap (λ (t : N.Sheet). record { sheet = t; width = N.width_of t; height = N.height_of t }) (moved_on s h)
    ∙ ap (λ (z : Float). record { sheet = sheet (X.moved s); width = z; height = N.height_of (sheet (X.moved s)) }) (width_on (X.moved s) (moved_far s h))
    ∙ ap (λ (z : Float). record { sheet = sheet (X.moved s); width = on (X.width_of (X.moved s)); height = z }) (height_on (X.moved s) (moved_far s h))
