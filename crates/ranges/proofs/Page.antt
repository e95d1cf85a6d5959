-- The numbers of a sheet after the last shift, its width and its height: all are below 2 ^ 33, and none is minus zero where none was before.
-- Assumes nothing.
use Rattle.std.specs.Prelude.{ℕ, suc, ◌≡◌, refl, Bool, ◌||◌, cond, T}
use Rattle.std.proofs.Math.Bool.{true, false}
use mathlib.Core.List.{List, [], ◌∷◌, ◌++◌, map, Memᴰ}
use Rattle.std.proofs.Common.{arith}
use Rattle.std.specs.Float.Ieee.{Float, binary64, lt, ne, fits, add, sub}
use Rattle.binary64.specs.Bools.{either}
use Rattle.binary64.specs.Order.{least, greatest}
use Rattle.binary64.specs.Accepted.{zero64}
use Rattle.binary64.specs.Range.{Bounded, Within, bounded_mono, add_bounded, sub_bounded}
use Rattle.geometry.specs.declared.Point.{Point}
use Rattle.geometry.specs.Points.{Route}
use Rattle.board.specs.declared.PlacedNode.{PlacedNode}
use Rattle.sorting.specs.Lists.{Every}
use Rattle.sorting.specs.Sorted.{every_append, every_map}
use Rattle.board.specs.Board.{Board}
use Rattle.plan.proofs.SmallNumbers.{Small}
use Rattle.drawing.specs.Build.{TapOn, Drawn, pt}
use Rattle.drawing.specs.Sheet.{Turn, Progress, going, sheet_of, blank}
use Rattle.drawing.specs.Normal.{Sheet, Page, sheet_after, route_points, tap_points, drawn_points, all_points, least_of, greatest_of, min_x, min_y, shifted, shifted_node, shifted_tap, shifted_drawn, shifted_sheet, moved, width_of, height_of, page_of}
use Rattle.drawing.proofs.CleanChecks.{every_both}
use Rattle.binary64.proofs.Plain.{Plain, zero_plain, add_plain, sub_plain}
use Rattle.ranges.proofs.Corridors.{Below, held, zero_bounded}
use Rattle.ranges.specs.Coordinates.{OfPoint, OfRoutes, OfTap, OfDrawn, OfSheet, OfPlaced}
use Rattle.ranges.proofs.Drawn.{OfTurn}
use Rattle.ranges.proofs.Extent.{OkTurn, sheet_ok, sheet_plain, sheet_of_format}
use Rattle.ranges.specs.Extent.{Limits, OfFormat, InX, InY}
use Rattle.ranges.proofs.NoMinusZero.{PlainBoard}

-- ---- what is said of a page

-- the sizes of the nodes
abbrev pub OfSizes : (Float → Type 0) → List PlacedNode → Type 0
OfSizes W ns = Every (λ (n : PlacedNode). W n.body.width × W n.body.height) ns

-- one axis: what holds of its numbers before the shift, after it, of the page's size, and of a node's
pub record Axis : Type 1 where
  pub Old : Float → Type 0
  pub New : Float → Type 0
  pub Size : Float → Type 0
  pub Own : Float → Type 0
  pub zero_old : Old zero64
  pub zero_size : Size zero64
  pub kept : (x : Float) → Old x → New x
  pub less : (x o : Float) → Old x → Old o → New (sub binary64 x o)
  pub wide : (x : Float) → New x → Size x
  pub plus : (x w : Float) → New x → Own w → Size (add binary64 x w)

through : {A B : Type 0} (f : A → B) (P : A → Type 0) (Q : B → Type 0) (l : List A) → ((a : A) → P a → Q (f a)) → Every P l → Every Q (map f l)
through f P Q [] g e = tt
through f P Q (a ∷ l) g e = (g a e.0, through f P Q l g e.1)

least_fine : (P : Float → Type 0) (m : Float) (xs : List Float) → P m → Every P xs → P (least_of m xs)
unfolding least_of
least_fine P m [] s e = s
least_fine P m (x ∷ xs) s e = least_fine P (least m x) xs (either (lt x m) x m P e.0 s) e.1

greatest_fine : (P : Float → Type 0) (m : Float) (xs : List Float) → P m → Every P xs → P (greatest_of m xs)
unfolding greatest_of
greatest_fine P m [] s e = s
greatest_fine P m (x ∷ xs) s e = greatest_fine P (greatest m x) xs (either (lt m x) x m P e.0 s) e.1

-- ---- all points

module _ (X Y : Float → Type 0) where
  route_points_fine : (rs : List Route) → Every (Every (OfPoint X Y)) rs → Every (OfPoint X Y) (route_points rs)
  unfolding route_points
  route_points_fine [] e = tt
  route_points_fine (r ∷ rs) e = every_append (OfPoint X Y) r (route_points rs) e.0 (route_points_fine rs e.1)

  tap_points_fine : (ts : List TapOn) → Every (OfTap X Y) ts → Every (OfPoint X Y) (tap_points ts)
  unfolding tap_points
  tap_points_fine [] e = tt
  tap_points_fine (t ∷ ts) e = (e.0, tap_points_fine ts e.1)

  drawn_points_fine : (ds : List Drawn) → Every (OfDrawn X Y) ds → Every (OfPoint X Y) (drawn_points ds)
  unfolding drawn_points
  drawn_points_fine [] e = tt
  drawn_points_fine (d ∷ ds) e =
      let k = e.0 in
      (k.collector_start, (k.collector_end, (k.spine_start, (k.spine_end, every_append (OfPoint X Y) (tap_points d.taps) (drawn_points ds) (tap_points_fine d.taps k.taps) (drawn_points_fine ds e.1)))))

  points_fine : (s : Sheet) → OfPlaced X Y s → Every (OfPoint X Y) (all_points s)
  unfolding all_points
  points_fine s h = every_append (OfPoint X Y) (route_points s.routes) (drawn_points s.drawn) (route_points_fine s.routes h.routes) (drawn_points_fine s.drawn h.drawn)

  -- what holds of 0 and of every coordinate holds of the least ones
  pub corner_fine : X zero64 → Y zero64 → (s : Sheet) → OfPlaced X Y s → OfPoint X Y (pt (min_x s) (min_y s))
  unfolding min_x min_y
  corner_fine zx zy s h =
      let cx : PlacedNode → Float = λ n. n.body.corner.x in
      let cy : PlacedNode → Float = λ n. n.body.corner.y in
      let px : Point → Float = λ p. p.x in
      let py : Point → Float = λ p. p.y in
      let C : PlacedNode → Type 0 = λ n. OfPoint X Y n.body.corner in
      let e = points_fine s h in (
        least_fine X zero64 (map cx s.nodes ++ map px (all_points s)) zx (every_append X (map cx s.nodes) (map px (all_points s)) (through cx C X s.nodes (λ n e. e.0) h.nodes) (through px (OfPoint X Y) X (all_points s) (λ p e. e.0) e)),
        least_fine Y zero64 (map cy s.nodes ++ map py (all_points s)) zy (every_append Y (map cy s.nodes) (map py (all_points s)) (through cy C Y s.nodes (λ n e. e.1) h.nodes) (through py (OfPoint X Y) Y (all_points s) (λ p e. e.1) e)),
      )

-- ---- less is said

module _ (X Y L M : Float → Type 0) (f : (x : Float) → X x → L x) (g : (y : Float) → Y y → M y) where
  point_weaker : (p : Point) → OfPoint X Y p → OfPoint L M p
  point_weaker p e = (f p.x e.0, g p.y e.1)

  drawn_weaker : (d : Drawn) → OfDrawn X Y d → OfDrawn L M d
  drawn_weaker d k =
      record {
        collector_start = point_weaker d.collector.start k.collector_start;
        collector_end = point_weaker d.collector.end k.collector_end;
        spine_start = point_weaker d.spine.start k.spine_start;
        spine_end = point_weaker d.spine.end k.spine_end;
        taps = every_map (OfTap X Y) (OfTap L M) d.taps (λ t e. point_weaker t.place e) k.taps;
      }

  pub placed_weaker : (s : Sheet) → OfPlaced X Y s → OfPlaced L M s
  placed_weaker s k =
      record {
        nodes = every_map (λ (n : PlacedNode). OfPoint X Y n.body.corner) (λ (n : PlacedNode). OfPoint L M n.body.corner) s.nodes (λ n e. point_weaker n.body.corner e) k.nodes;
        routes = every_map (Every (OfPoint X Y)) (Every (OfPoint L M)) s.routes (λ r e. every_map (OfPoint X Y) (OfPoint L M) r point_weaker e) k.routes;
        drawn = every_map (OfDrawn X Y) (OfDrawn L M) s.drawn drawn_weaker k.drawn;
      }

-- ---- the shift and the size

module _ (h v : Axis) where
  abbrev Before : Sheet → Type 0
  Before = OfPlaced h.Old v.Old

  abbrev After : Sheet → Type 0
  After = OfPlaced h.New v.New

  abbrev At : Point → Type 0
  At = OfPoint h.Old v.Old

  abbrev To : Point → Type 0
  To = OfPoint h.New v.New

  -- ---- the shift

  shifted_fine : (o p : Point) → At o → At p → To (shifted o p)
  unfolding shifted
  shifted_fine o p a e = (h.less p.x o.x e.0 a.0, v.less p.y o.y e.1 a.1)

  shifted_drawn_fine : (o : Point) (d : Drawn) → At o → OfDrawn h.Old v.Old d → OfDrawn h.New v.New (shifted_drawn o d)
  unfolding shifted_drawn
  shifted_drawn_fine o d a k =
      record {
        collector_start = shifted_fine o d.collector.start a k.collector_start;
        collector_end = shifted_fine o d.collector.end a k.collector_end;
        spine_start = shifted_fine o d.spine.start a k.spine_start;
        spine_end = shifted_fine o d.spine.end a k.spine_end;
        taps = through (shifted_tap o) (OfTap h.Old v.Old) (OfTap h.New v.New) d.taps (λ t e. shifted_fine o t.place a e) k.taps;
      }

  shifted_sheet_fine : (o : Point) (s : Sheet) → At o → Before s → After (shifted_sheet o s)
  unfolding shifted_sheet shifted_node
  shifted_sheet_fine o s a k =
      record {
        nodes = through (shifted_node o) (λ (n : PlacedNode). At n.body.corner) (λ (n : PlacedNode). To n.body.corner) s.nodes (λ n e. shifted_fine o n.body.corner a e) k.nodes;
        routes = through (map (shifted o)) (Every At) (Every To) s.routes (λ r e. through (shifted o) At To r (λ p f. shifted_fine o p a f) e) k.routes;
        drawn = through (shifted_drawn o) (OfDrawn h.Old v.Old) (OfDrawn h.New v.New) s.drawn (λ d e. shifted_drawn_fine o d a e) k.drawn;
      }

  moved_fine : (s : Sheet) → Before s → After (moved s)
  unfolding moved
  moved_fine s k = go (ne (min_x s) zero64 || ne (min_y s) zero64)
    where
      go : (t : Bool) → After (cond t (shifted_sheet (pt (min_x s) (min_y s)) s) s)
      go true = shifted_sheet_fine (pt (min_x s) (min_y s)) s (corner_fine h.Old v.Old h.zero_old v.zero_old s k) k
      go false = placed_weaker h.Old v.Old h.New v.New h.kept v.kept s k

  -- ---- the size

  abbrev Sized : PlacedNode → Type 0
  Sized n = h.Own n.body.width × v.Own n.body.height

  moved_sizes : (s : Sheet) → Every Sized s.nodes → Every Sized (moved s).nodes
  unfolding moved shifted_sheet shifted_node
  moved_sizes s e = go (ne (min_x s) zero64 || ne (min_y s) zero64)
    where
      go : (t : Bool) → Every Sized (cond t (shifted_sheet (pt (min_x s) (min_y s)) s) s).nodes
      go true = through (shifted_node (pt (min_x s) (min_y s))) Sized Sized s.nodes (λ n f. f) e
      go false = e

  width_fine : (s : Sheet) → After s → Every Sized s.nodes → h.Size (width_of s)
  unfolding width_of
  width_fine s k e =
      let far : PlacedNode → Float = λ n. add binary64 n.body.corner.x n.body.width in
      let x : Point → Float = λ p. p.x in
      greatest_fine h.Size zero64 (map far s.nodes ++ map x (all_points s)) h.zero_size
      (every_append h.Size (map far s.nodes) (map x (all_points s))
      (through far (λ (n : PlacedNode). To n.body.corner × Sized n) h.Size s.nodes (λ n f. h.plus n.body.corner.x n.body.width f.0.0 f.1.0)
      (every_both (λ (n : PlacedNode). To n.body.corner) Sized (λ (n : PlacedNode). To n.body.corner × Sized n) (λ n f g. (f, g)) s.nodes k.nodes e))
      (through x To h.Size (all_points s) (λ p f. h.wide p.x f.0) (points_fine h.New v.New s k)))

  height_fine : (s : Sheet) → After s → Every Sized s.nodes → v.Size (height_of s)
  unfolding height_of
  height_fine s k e =
      let far : PlacedNode → Float = λ n. add binary64 n.body.corner.y n.body.height in
      let y : Point → Float = λ p. p.y in
      greatest_fine v.Size zero64 (map far s.nodes ++ map y (all_points s)) v.zero_size
      (every_append v.Size (map far s.nodes) (map y (all_points s))
      (through far (λ (n : PlacedNode). To n.body.corner × Sized n) v.Size s.nodes (λ n f. v.plus n.body.corner.y n.body.height f.0.1 f.1.1)
      (every_both (λ (n : PlacedNode). To n.body.corner) Sized (λ (n : PlacedNode). To n.body.corner × Sized n) (λ n f g. (f, g)) s.nodes k.nodes e))
      (through y To v.Size (all_points s) (λ p f. v.wide p.y f.1) (points_fine h.New v.New s k)))

-- ---- the page

pub record OfPage (X Y : Float → Type 0) (p : Page) : Type 0 where
  pub placed : OfPlaced X Y p.sheet
  pub width : X p.width
  pub height : Y p.height

-- of x, and of y: less another one, and a node's size more
across : Axis
across =
    record {
      Old = InX;
      New = Bounded 4299161600;
      Size = Bounded 5372903424;
      Own = Within 30;
      zero_old = zero_bounded 2149580800;
      zero_size = zero_bounded 5372903424;
      kept = λ x s. bounded_mono 2149580800 4299161600 x (omega arith) s;
      less = λ x o s t. sub_bounded 2149580800 2149580800 x o (held 4299161600 (omega arith)) s t;
      wide = λ x s. bounded_mono 4299161600 5372903424 x (omega arith) s;
      plus = λ x w s t. add_bounded 4299161600 1073741824 x w (held 5372903424 (omega arith)) s t;
    }

upright : Axis
upright =
    record {
      Old = InY;
      New = Bounded 4829741056;
      Size = Bounded 5903482880;
      Own = Within 30;
      zero_old = zero_bounded 2414870528;
      zero_size = zero_bounded 5903482880;
      kept = λ x s. bounded_mono 2414870528 4829741056 x (omega arith) s;
      less = λ x o s t. sub_bounded 2414870528 2414870528 x o (held 4829741056 (omega arith)) s t;
      wide = λ x s. bounded_mono 4829741056 5903482880 x (omega arith) s;
      plus = λ x w s t. add_bounded 4829741056 1073741824 x w (held 5903482880 (omega arith)) s t;
    }

-- THE RANGE of a sheet after the last shift, with its width and height
pub page_below : (s : Sheet) → OfPlaced InX InY s → OfSizes (Within 30) s.nodes → OfPage (Below 33) (Below 33) (page_of s)
unfolding page_of across upright
page_below s k e =
    let m = moved_fine across upright s k in
    let z = moved_sizes across upright s e in
    record {
      placed = placed_weaker (Bounded 4299161600) (Bounded 4829741056) (Below 33) (Below 33) (λ x b. bounded_mono 4299161600 8589934591 x (omega arith) b) (λ y b. bounded_mono 4829741056 8589934591 y (omega arith) b) (moved s) m;
      width = bounded_mono 5372903424 8589934591 (width_of (moved s)) (omega arith) (width_fine across upright (moved s) m z);
      height = bounded_mono 5903482880 8589934591 (height_of (moved s)) (omega arith) (height_fine across upright (moved s) m z);
    }

plainly : Axis
plainly =
    record {
      Old = Plain;
      New = Plain;
      Size = Plain;
      Own = λ w. T (fits binary64 w);
      zero_old = zero_plain;
      zero_size = zero_plain;
      kept = λ x s. s;
      less = λ x o s t. sub_plain x o s t.1;
      wide = λ x s. s;
      plus = λ x w s t. add_plain x w s t;
    }

-- NO MINUS ZERO in it, where none was before
pub page_plain : (s : Sheet) → OfPlaced Plain Plain s → OfSizes (λ w. T (fits binary64 w)) s.nodes → OfPage Plain Plain (page_of s)
unfolding page_of plainly
page_plain s k e =
    let m = moved_fine plainly plainly s k in
    let z = moved_sizes plainly plainly s e in
    record { placed = m; width = width_fine plainly plainly (moved s) m z; height = height_fine plainly plainly (moved s) m z }

-- ---- the sheet that the turns give

every_of : {A : Type 0} (P : A → Type 0) (l : List A) → ((a : A) → Memᴰ a l → P a) → Every P l
every_of P [] f = tt
every_of P (a ∷ l) f = (f a (Memᴰ.head refl), every_of P l (λ x m. f x (Memᴰ.tail m)))

routes_every : (X Y : Float → Type 0) (rs : List Route) → OfRoutes X Y rs → Every (Every (OfPoint X Y)) rs
routes_every X Y [] h = tt
routes_every X Y (r ∷ rs) h = (every_of (OfPoint X Y) r (h 0), routes_every X Y rs (λ i. h (suc i)))

placed_after : (X Y : Float → Type 0) (b : Board) (u : Progress) → Every (λ (n : PlacedNode). OfPoint X Y n.body.corner) b.nodes → OfSheet X Y u → OfPlaced X Y (sheet_after b u)
placed_after X Y b u e h = record { nodes = e; routes = routes_every X Y u.routes h.present; drawn = h.bundles }

module _ (b : Board) (routes : List Route) (limits : Limits b routes) (allow : Bool) (ts : List Turn) (grant : ℕ) (u : Progress) (went : sheet_of b allow ts (blank routes grant) ≡ going u) where
  -- every plan whose x are within 2 ^ 30
  pub before_shift : Every OkTurn ts → OfPlaced InX InY (sheet_after b u)
  before_shift k =
      placed_after InX InY b u
      (every_both (λ (n : PlacedNode). Small 30 n.body.corner.x × Small 30 n.body.width) (λ (n : PlacedNode). Small 30 n.body.corner.y × Small 30 n.body.height) (λ (n : PlacedNode). OfPoint InX InY n.body.corner)
      (λ n s t. (bounded_mono 1073741824 2149580800 n.body.corner.x (omega arith) s.0.0, bounded_mono 1073741824 2414870528 n.body.corner.y (omega arith) t.0.0))
      b.nodes limits.numbers.nodes limits.node_ys)
      (sheet_ok b routes limits allow ts grant u k went)

  pub after_shift : Every OkTurn ts → OfPage (Below 33) (Below 33) (page_of (sheet_after b u))
  after_shift k =
      page_below (sheet_after b u) (before_shift k)
      (every_both (λ (n : PlacedNode). Small 30 n.body.corner.x × Small 30 n.body.width) (λ (n : PlacedNode). Small 30 n.body.corner.y × Small 30 n.body.height) (λ (n : PlacedNode). Within 30 n.body.width × Within 30 n.body.height)
      (λ n s t. (s.1.0, t.1.0)) b.nodes limits.numbers.nodes limits.node_ys)

  -- and where no number of the board and of the plan is minus zero
  pub before_plain : PlainBoard b routes → Every (OfTurn Plain) ts → OfPlaced Plain Plain (sheet_after b u)
  before_plain p k =
      placed_after Plain Plain b u
      (every_map (λ (n : PlacedNode). Plain n.body.corner.x × Plain n.body.corner.y × Plain n.body.width × Plain n.body.height) (λ (n : PlacedNode). OfPoint Plain Plain n.body.corner) b.nodes (λ n e. (e.0, e.1)) p.nodes)
      (sheet_plain b routes limits p allow ts grant u k went)

  pub after_plain : PlainBoard b routes → Every (OfTurn Plain) ts → OfPage Plain Plain (page_of (sheet_after b u))
  after_plain p k =
      page_plain (sheet_after b u) (before_plain p k)
      (every_map (λ (n : PlacedNode). Plain n.body.corner.x × Plain n.body.corner.y × Plain n.body.width × Plain n.body.height) (λ (n : PlacedNode). T (fits binary64 n.body.width) × T (fits binary64 n.body.height)) b.nodes
      (λ n e. (e.2.1, e.3.1)) p.nodes)

  -- of the format, whatever is planned
  pub before_of_format : PlainBoard b routes → Every (OfTurn OfFormat) ts → OfPlaced OfFormat OfFormat (sheet_after b u)
  before_of_format p k =
      placed_after OfFormat OfFormat b u
      (every_map (λ (n : PlacedNode). Plain n.body.corner.x × Plain n.body.corner.y × Plain n.body.width × Plain n.body.height) (λ (n : PlacedNode). OfPoint OfFormat OfFormat n.body.corner) b.nodes (λ n e. (e.0.1, e.1.1)) p.nodes)
      (sheet_of_format b routes limits p allow ts grant u k went)
