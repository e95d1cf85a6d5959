-- Every number worked out for a job on the drafting grid: each sum, difference, product by a count and half of numbers of these sizes, then the definitions of plan, sheet, tests and last shift, binary64 on the left and the whole number over 128 on the right. Document 02's F-2. Definitions only.
-- Assumes nothing.
use Rattle.std.specs.Prelude.{◌≡◌, ℕ, ◌+◌, ◌*◌, ◌^◌, ◌≤◌, ◌<◌, Bool, true, List, map, ℤ, pos, nat_abs, ◌+ℤ◌, ◌-ℤ◌, ◌*ℤ◌, T, Option}
use Rattle.std.specs.Float.{binary64}
use Rattle.std.specs.Float.Ieee.{add, sub, mul, div}
use Rattle.std.specs.Float.Ieee.Scale.{finite}
use Rattle.binary64.specs.Order.{magnitude}
use Rattle.binary64.specs.Rational.{Sameℚ, value}
use Rattle.geometry.specs.declared.Role.{Role}
use Rattle.geometry.specs.Contact as T
use Rattle.geometry.specs.Kind as kinds
use Rattle.geometry.specs.Spacing as U
use Rattle.geometry.specs.Enters as E
use Rattle.geometry.specs.Stretch as G
use Rattle.route.specs.Rewrite as F
use Rattle.board.specs.declared.Bundle.{Bundle}
use Rattle.board.specs.declared.Member.{Member}
use Rattle.board.specs.Board.{rail_depth}
use Rattle.search.specs.Search.{search_of}
use Rattle.plan.specs.Depths as L
use Rattle.plan.specs.Depths.{number}
use Rattle.plan.specs.Bounds as M
use Rattle.plan.specs.Plan as K
use Rattle.drawing.specs.Build as B
use Rattle.drawing.specs.Rewrite as Q
use Rattle.drawing.specs.Sheet as S
use Rattle.drawing.specs.Normal as N
use Rattle.grid_plan.specs.Board as Z
use Rattle.grid_plan.specs.Depths as D
use Rattle.grid_plan.specs.Search as C
use Rattle.grid_plan.specs.Bounds as A
use Rattle.grid_plan.specs.Plan as P
use Rattle.grid_plan.specs.Image.{point, segment, node, board, route, bound, bounds, collector, stretch, first_pass, plan}
use Rattle.grid_sheet.specs.Touch as Y
use Rattle.grid_sheet.specs.Reroute as R
use Rattle.grid_sheet.specs.Draw as W
use Rattle.grid_sheet.specs.Page as X
use Rattle.grid_sheet.specs.Image as I
use Rattle.sorting.specs.Lists.{Every}
use Rattle.grid.specs.On.{on, over_128, half_of}
use Rattle.grid_plan.specs.Sizes.{Sized, OfOption, Fit, Near, Placed}
use Rattle.grid_sheet.specs.Sizes.{Tame, Lies, LiesOn, OfTap, Sides, Ready, Far, Kept, Timely, KeptRoutes, Standing}

pub record Numbers (b : Z.Board) (routes : List Z.Route) : Type 0 where
  -- ---- what a whole number stands for: a finite number that is the exact fraction over 128
  pub value_is : (z : ℤ) → T (finite (on z)) × Sameℚ (value (on z)) (over_128 z)
  -- ---- the operations themselves, of any numbers of these sizes
  pub sum : (x y : ℤ) → Fit x y → add binary64 (on x) (on y) ≡ on (x +ℤ y)
  pub less : (x y : ℤ) → Fit x y → sub binary64 (on x) (on y) ≡ on (x -ℤ y)
  pub times : (n p : ℕ) → n ≤ 2 ^ 10 → p ≤ 2 ^ 40 → mul binary64 (number n) (on (pos p)) ≡ on (pos (n * p))
  pub half : (z : ℤ) → nat_abs z < 2 ^ 52 → div binary64 (on (z +ℤ z)) (number 2) ≡ on z
  -- ---- the plan
  pub pitch : L.parting_pitch (board b) ≡ on (Z.parting_pitch b)
  pub rail : rail_depth (board b).options ≡ on (Z.rail_depth b.options)
  pub endpoint : (u : Bundle) → L.endpoint_of (board b) u ≡ point (Z.endpoint_of b u)
  pub lanes : (n : ℕ) → n ≤ 256 → mul binary64 (number n) (on (Z.parting_pitch b)) ≡ on (pos n *ℤ Z.parting_pitch b)
  pub boundary_depth : (u : Bundle) → L.boundary_depth (board b) u ≡ on (D.boundary_depth b u)
  pub offset : (u : Bundle) (used : Option ℤ) → OfOption (Sized (2 ^ 45)) used → L.offset_past (board b) u (bound used) ≡ on (D.offset_past b u used)
  pub last_depth : (u : Bundle) (offset : ℤ) → Sized (2 ^ 45) offset → L.last_depth (board b) u (on offset) ≡ on (D.last_depth b u offset)
  pub offsets : L.offsets_of (board b) ≡ map on (D.offsets_of b)
  pub offsets_small : Every (Sized (2 ^ 44)) (D.offsets_of b)
  pub corridor : (u : Bundle) (offset : ℤ) (m : Member) → Sized (2 ^ 44) offset → m.tap_lane ≤ 255 → L.corridor_x (board b) u (on offset) m ≡ on (D.corridor_x b u offset m)
  pub corridors : (role : Role) (edge : ℕ) → L.corridor_of (board b) role edge ≡ bound (D.corridor_of b role edge)
  pub reach : (role : Role) (m : Member) → M.reach (board b) (map route routes) role m ≡ bound (A.reach b routes role m)
  pub bounds_are : (u : Bundle) (lower upper : Option ℤ) → M.bounds_of (board b) (map route routes) u (bound lower) (bound upper) ≡ collector (A.bounds_of b routes u lower upper)
  pub stretches : (u : Bundle) → M.trunks (board b) (map route routes) u ≡ map (map stretch) (A.trunks b routes u)
  pub first : (v : ℕ) → K.first_pass search_of (board b) (map route routes) b.bundles v ≡ first_pass (P.first_pass b routes b.bundles v)
  -- of a component: low, limit, deepest, earliest and the pitch. The first two are extremes of these minima and maxima, the last two of these desired x
  pub first_small : (v i : ℕ) → let ranges = (P.first_pass b routes b.bundles v).ranges in
      (nat_abs (P.minimum_at ranges i) ≤ 2 ^ 46) × (nat_abs (P.maximum_at ranges i) ≤ 2 ^ 46) × Sized (2 ^ 27) (P.desired_at ranges i)
  pub plus_pitch : (z : ℤ) → nat_abs z ≤ 2 ^ 46 → add binary64 (on z) (L.parting_pitch (board b)) ≡ on (z +ℤ Z.parting_pitch b)
  pub less_pitch : (z : ℤ) → nat_abs z ≤ 2 ^ 46 → sub binary64 (on z) (L.parting_pitch (board b)) ≡ on (z -ℤ Z.parting_pitch b)
  pub middle : (deepest separate : ℤ) → Sized (2 ^ 27) deepest → Sized (2 ^ 28) separate → K.middle (on deepest) (on separate) ≡ on (P.middle deepest separate)
  pub split : (low limit deepest earliest : ℤ) → nat_abs limit ≤ 2 ^ 46 → Sized (2 ^ 27) deepest → Sized (2 ^ 27) earliest → K.input_split (L.parting_pitch (board b)) (on low) (on limit) (on deepest) (on earliest) ≡ on (P.input_split (Z.parting_pitch b) low limit deepest earliest)
  pub limit : (limit : ℤ) → nat_abs limit ≤ 2 ^ 46 → (x : Option ℤ) → K.input_limit (L.parting_pitch (board b)) (on limit) (bound x) ≡ bound (P.input_limit (Z.parting_pitch b) limit x)
  pub asked : (u : Bundle) (x : Option ℤ) → Placed x → K.asked (board b) (map route routes) u (bound x) ≡ bound (P.asked b routes u x)
  pub moved : (role : Role) (r : C.Bounds) (x : ℤ) (ys : List ℤ) → Near x → Every Near ys → K.moved (L.parting_pitch (board b)) role (bounds r) (on x) (map on ys) ≡ on (P.moved (Z.parting_pitch b) role r x ys)
  pub planned : (separate : Bool) (v : ℕ) → K.plan_of (board b) (map route routes) separate v ≡ K.going (plan (P.plan_of b routes separate v))
  pub planned_small : (separate : Bool) (v : ℕ) → Every Placed (P.plan_of b routes separate v).xs
  -- ---- the sheet
  pub rail_corner : (u : Bundle) → B.rail_corner (board b) u ≡ point (W.rail_corner b u)
  pub rail_lane : (y : ℤ) (lane last : ℕ) → nat_abs y ≤ 2 ^ 28 → lane ≤ 255 → last ≤ 256
      → add binary64 (on y) (mul binary64 (sub binary64 (number lane) (div binary64 (number last) (number 2))) (on (Z.parting_pitch b))) ≡ on (y +ℤ ((pos (lane + lane) -ℤ pos last) *ℤ half_of (Z.parting_pitch b)))
  pub built : (u : Bundle) (x : Option ℤ) (rs : List Z.Route) → Placed x → KeptRoutes rs → B.build (board b) u (I.number x) (map route rs) ≡ I.drawn (W.build b u x rs)
  pub corridor_depth : (offset : ℤ) (m : Member) → nat_abs offset ≤ 2 ^ 44 → m.tap_lane ≤ 255 → Q.corridor_depth (on offset) (on (Z.parting_pitch b)) m ≡ on (W.corridor_depth offset (Z.parting_pitch b) m)
  -- the given routes stand; after any number of turns, from any sheet that stands, a sheet stands
  pub given_small : (grant : ℕ) → Standing (W.blank routes grant)
  pub drawn_small : (allow : Bool) (ts : List W.Turn) (s u : W.Progress) → Every Timely ts → Standing s → W.sheet_of b allow ts s ≡ W.going u → Standing u
  pub drawn : (allow : Bool) (ts : List W.Turn) (s : W.Progress) → Every Timely ts → Standing s → S.sheet_of (board b) allow (map I.turn ts) (I.progress s) ≡ I.outcome (W.sheet_of b allow ts s)
  -- the upright line to a tap at the rail, in the rewritings
  pub route_corridor : (role : Role) (tap : Z.Point) (depth : ℤ) → nat_abs tap.x ≤ 2 ^ 46 → nat_abs depth ≤ 2 ^ 46 → F.corridor_x role (point tap) (on depth) ≡ on (R.corridor_x role tap depth)
  -- ---- the tests, each with the sums and differences that it takes
  pub difference : (x y : ℤ) → Fit x y → magnitude (sub binary64 (on x) (on y)) ≡ on (pos (nat_abs (x -ℤ y)))
  -- "The same_place test becomes plain equality there"
  pub same_place : (p q : Z.Point) → Lies p → Lies q → T.matches (point p) (point q) ≡ Y.matches p q
  pub only_equal : (p q : Z.Point) → Y.matches p q ≡ true → p ≡ q
  -- "lane separation a distance of at least the pitch"
  pub separation : (x : ℤ) (ys : List ℤ) → Near x → Every Near ys → K.clear (L.parting_pitch (board b)) (on x) (map on ys) ≡ P.clear (Z.parting_pitch b) x ys
  pub stretch_is : (role : Role) (pitch : ℤ) (a c : Z.Point) → Fit a.x pitch → Fit c.x pitch → G.stretch role (on pitch) (point a) (point c) ≡ stretch (C.stretch role pitch a c)
  pub kind : (bus : Z.Segment) (a c : Z.Point) (tap : Option Z.Point) → LiesOn bus → Lies a → Lies c → OfTap tap → kinds.kind (segment bus) (point a) (point c) (I.tap tap) ≡ Y.kind bus a c tap
  pub spacing : (l r : Z.Segment) (s : ℤ) → LiesOn l → LiesOn r → U.too_close (segment l) (segment r) (on s) ≡ Y.too_close l r s
  pub far_sides : (n : Z.Node) → Sides n → (E.far_x (node n) ≡ on (Y.far_x n)) × (E.far_y (node n) ≡ on (Y.far_y n))
  pub nodes_small : Every (λ (n : Z.PlacedNode). Sides n.body) b.nodes
  pub enters : (a c : Z.Point) (n : Z.Node) → Sides n → E.passes_inside (point a) (point c) (node n) ≡ Y.passes_inside a c n
  pub interior : (u : Bundle) (c s : Z.Segment) (ts : List W.TapOn) → Tame s.start.x → Tame s.end.x → B.counts_interior (board b) u (segment c) (segment s) (map I.tap_on ts) ≡ W.counts_interior b u c s ts
  -- ---- the last shift
  pub shifted : (o p : Z.Point) → Kept o → Kept p → N.shifted (point o) (point p) ≡ point (X.shifted o p)
  pub width : (s : X.Sheet) → Every Far s.nodes → N.width_of (I.sheet s) ≡ on (X.width_of s)
  pub height : (s : X.Sheet) → Every Far s.nodes → N.height_of (I.sheet s) ≡ on (X.height_of s)
  pub page : (s : X.Sheet) → Ready s → N.page_of (I.sheet s) ≡ I.page (X.page_of s)
