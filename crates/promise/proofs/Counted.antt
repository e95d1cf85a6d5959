-- How many points and taps the sheet of an accepted job has, before the last shift and after it. Assumes nothing.
use Rattle.std.specs.Prelude.{ℕ, zero, suc, ◌+◌, ◌*◌, ◌≤◌, ◌≡◌, refl, Bool, true, false, ◌||◌, cond, List, [], ◌∷◌, ◌++◌, map, length, set, take, drop, Float, Option, Some, None}
use Rattle.std.proofs.Common.{sym, ap, ◌∙◌, subst, arith, length-take}
use Rattle.std.proofs.lemmas.List.{length-map}
use Rattle.std.specs.Float.Ieee.{ne}
use Rattle.binary64.specs.Accepted.{zero64}
use Rattle.geometry.specs.declared.Point.{Point}
use Rattle.geometry.specs.declared.Role.{Role}
use Rattle.geometry.specs.Points.{Route}
use Rattle.board.specs.declared.Edge.{Edge}
use Rattle.board.specs.declared.Bundle.{Bundle}
use Rattle.board.specs.declared.Member.{Member}
use Rattle.board.specs.Board.{Board, routes_of}
use Rattle.job.proofs.GoodTables.{sum}
use Rattle.plan.specs.declared.Bound.{Bound}
use Rattle.plan.specs.Depths.{members_in, pitch_of, offsets_of}
use Rattle.drawing.specs.Build.{pt, TapOn, Drawn, route_at, trunk_met, tap_then, trunk_taps, center, rail_taps, drawn_as, drawn_inside, rail_corner, railed, inside_or, build}
use Rattle.drawing.specs.Rewrite.{rewrite_one, put_route, rewrite_all}
use Rattle.drawing.specs.Sheet.{Turn, Progress, going, drawn_at, turn, sheet_of, blank}
use Rattle.drawing.proofs.Assembly.{Turned, turned, turn_went}
use Rattle.drawing.proofs.CleanChecks.{then_some}
use Rattle.drawing.proofs.Grow.{Bounded, rewrite_length}
use Rattle.drawing.specs.Normal.{Sheet, min_x, min_y, shifted, shifted_node, shifted_tap, shifted_drawn, shifted_sheet, moved}
use Rattle.promise.specs.Order.{turns_from, turns_of, drawn_of}

-- points of all routes
abbrev pub points_in : List Route → ℕ
points_in rs = sum (map length rs)

-- taps of all bundles
abbrev pub taps_in : List Drawn → ℕ
taps_in ds = sum (map (λ (d : Drawn). length d.taps) ds)

-- members of the bundles of all turns
abbrev pub members_with : Board → List Turn → ℕ
members_with b ts = sum (map (λ (t : Turn). length (members_in b t.bundle)) ts)

-- ---- rewriting: two points more for each member

set_points : (rs : List Route) (j : ℕ) (r : Route) → length r ≤ length (route_at rs j) + 2 → points_in (set rs j r) ≤ points_in rs + 2
unfolding sum
set_points [] j r h = omega arith
set_points (q ∷ rs) zero r h = omega arith
set_points (q ∷ rs) (suc j) r h = let k = set_points rs j r h in omega arith

put_points : (o : Option Route) (j : ℕ) (rs qs : List Route) → Bounded o (length (route_at rs j) + 2) → put_route o j rs ≡ Some qs → points_in qs ≤ points_in rs + 2
unfolding put_route
put_points None j rs qs h e = let z : ◌≡◌ {A = ℕ} 0 1 = cc in absurd (omega arith)
put_points (Some r) j rs qs h e = let same : set rs j r ≡ qs = cc in subst (λ (z : List Route). points_in z ≤ points_in rs + 2) same (set_points rs j r (h r refl))

all_points : (inside : Bool) (role : Role) (pitch offset : Float) (ts : List TapOn) (ms : List Member) (rs qs : List Route) → rewrite_all inside role pitch offset ts ms rs ≡ Some qs → points_in qs ≤ points_in rs + 2 * length ms
unfolding rewrite_all
all_points inside role pitch offset [] ms rs qs e = let same : rs ≡ qs = cc in subst (λ (z : List Route). points_in z ≤ points_in rs + 2 * length ms) same (omega arith)
all_points inside role pitch offset (t ∷ ts) [] rs qs e = let same : rs ≡ qs = cc in subst (λ (z : List Route). points_in z ≤ points_in rs + 0) same (omega arith)
all_points inside role pitch offset (t ∷ ts) (m ∷ ms) rs qs e =
    let one = rewrite_one inside role pitch offset t.place m (route_at rs m.edge) in
    let s = then_some (put_route one m.edge rs) (λ ss. rewrite_all inside role pitch offset ts ms ss) qs e in
    let p = put_points one m.edge rs s.0 (rewrite_length inside role pitch offset t.place m (route_at rs m.edge)) s.1 in
    let q = all_points inside role pitch offset ts ms s.0 qs s.2 in
    omega arith

pub sheet_points : (b : Board) (allow : Bool) (ts : List Turn) (s u : Progress) → sheet_of b allow ts s ≡ going u → points_in u.routes ≤ points_in s.routes + 2 * members_with b ts
unfolding sheet_of sum
sheet_points b allow [] s u e = let same : s ≡ u = cc in subst (λ (z : Progress). points_in z.routes ≤ points_in s.routes + 0) same (omega arith)
sheet_points b allow (t ∷ ts) s u e =
    let r = turn_went (turn b allow t s) (λ x. sheet_of b allow ts x) u e in
    let w : Turned b allow t s r.0 = turned b allow t s r.0 r.1 in
    let d : Drawn = drawn_at b t s in
    let p = all_points d.interior t.bundle.role (pitch_of b t.bundle) t.offset d.taps (members_in b t.bundle) s.routes r.0.routes w.rewritten in
    let q = sheet_points b allow ts r.0 u r.2 in
    omega arith

-- ---- a tap for each member

then_count : (c : Option (ℕ × Point)) (i n : ℕ) (o : Option (List TapOn)) → ((us : List TapOn) → o ≡ Some us → length us ≡ n) → (ts : List TapOn) → tap_then c i o ≡ Some ts → length ts ≡ suc n
unfolding tap_then
then_count None i n o h ts e = let z : ◌≡◌ {A = ℕ} 0 1 = cc in absurd (omega arith)
then_count (Some (k, p)) i n None h ts e = let z : ◌≡◌ {A = ℕ} 0 1 = cc in absurd (omega arith)
then_count (Some (k, p)) i n (Some us) h ts e = let same : record { edge = i; place = p } ∷ us ≡ ts = cc in ap length (sym same) ∙ ap suc (h us refl)

trunk_count : (role : Role) (pitch x : Float) (ms : List Member) (rs : List Route) (ts : List TapOn) → trunk_taps role pitch x ms rs ≡ Some ts → length ts ≡ length ms
unfolding trunk_taps
trunk_count role pitch x [] rs ts e = let same : [] ≡ ts = cc in ap length (sym same)
trunk_count role pitch x (m ∷ ms) rs ts e =
    then_count (trunk_met role pitch x (route_at rs m.edge)) m.edge (length ms) (trunk_taps role pitch x ms rs) (trunk_count role pitch x ms rs) ts e

rail_count : (end : Point) (middle pitch : Float) (ms : List Member) → length (rail_taps end middle pitch ms) ≡ length ms
unfolding rail_taps
rail_count end middle pitch [] = refl
rail_count end middle pitch (m ∷ ms) = ap suc (rail_count end middle pitch ms)

railed_count : (b : Board) (u : Bundle) → length (railed b u).taps ≡ length (members_in b u)
unfolding railed drawn_as
railed_count b u = rail_count (rail_corner b u) (center (members_in b u)) (pitch_of b u) (members_in b u)

inside_count : (b : Board) (u : Bundle) (x : Float) (o : Option (List TapOn)) → ((ts : List TapOn) → o ≡ Some ts → length ts ≡ length (members_in b u)) → length (inside_or o b u x).taps ≡ length (members_in b u)
unfolding inside_or drawn_inside drawn_as
inside_count b u x None h = railed_count b u
inside_count b u x (Some ts) h = h ts refl

pub build_taps : (b : Board) (u : Bundle) (planned : Option Float) (rs : List Route) → length (build b u planned rs).taps ≡ length (members_in b u)
unfolding build
build_taps b u None rs = railed_count b u
build_taps b u (Some x) rs = inside_count b u x (trunk_taps u.role (pitch_of b u) x (members_in b u) rs) (trunk_count u.role (pitch_of b u) x (members_in b u) rs)

taps_last : (ds : List Drawn) (d : Drawn) → taps_in (ds ++ (d ∷ [])) ≡ taps_in ds + length d.taps
unfolding sum
taps_last [] d = omega arith
taps_last (x ∷ ds) d = let e = taps_last ds d in omega arith

pub sheet_taps : (b : Board) (allow : Bool) (ts : List Turn) (s u : Progress) → sheet_of b allow ts s ≡ going u → taps_in u.drawn ≡ taps_in s.drawn + members_with b ts
unfolding sheet_of sum
sheet_taps b allow [] s u e = let same : s ≡ u = cc in subst (λ (z : Progress). taps_in z.drawn ≡ taps_in s.drawn + 0) same (omega arith)
sheet_taps b allow (t ∷ ts) s u e =
    let r = turn_went (turn b allow t s) (λ x. sheet_of b allow ts x) u e in
    let w : Turned b allow t s r.0 = turned b allow t s r.0 r.1 in
    let d : Drawn = drawn_at b t s in
    let p : taps_in (s.drawn ++ (d ∷ [])) ≡ taps_in r.0.drawn = ap taps_in w.passing.drawn in
    let l = taps_last s.drawn d in
    let n = build_taps b t.bundle t.planned s.routes in
    let q = sheet_taps b allow ts r.0 u r.2 in
    omega arith

-- ---- windows are no longer than their counts

pub window_count : {A : Type 0} (first count : ℕ) (l : List A) → length (take count (drop first l)) ≤ count
window_count first count l = let e = length-take count (drop first l) in omega arith

turns_count : (b : Board) (us : List Bundle) (xs : List Bound) (ds : List Float) → members_with b (turns_from us xs ds) ≤ sum (map (λ (u : Bundle). u.count) us)
unfolding turns_from sum
turns_count b [] xs ds = omega arith
turns_count b (u ∷ us) [] ds = omega arith
turns_count b (u ∷ us) (x ∷ xs) [] = omega arith
turns_count b (u ∷ us) (x ∷ xs) (d ∷ ds) =
    let h = window_count u.first u.count b.members in
    let k = turns_count b us xs ds in
    omega arith

given_count : (points : List Point) (es : List Edge) → points_in (routes_of points es) ≤ sum (map (λ (e : Edge). e.count) es)
unfolding sum
given_count points [] = omega arith
given_count points (e ∷ es) =
    let h = window_count e.first e.count points in
    let k = given_count points es in
    omega arith

-- the sheet of an order
pub record Counts (b : Board) (points : List Point) (u : Progress) : Type 0 where
  pub points_of : points_in u.routes ≤ sum (map (λ (e : Edge). e.count) b.edges) + 2 * sum (map (λ (w : Bundle). w.count) b.bundles)
  pub taps_of : taps_in u.drawn ≤ sum (map (λ (w : Bundle). w.count) b.bundles)

pub counts : (b : Board) (allow : Bool) (points : List Point) (xs : List Bound) (grant : ℕ) (u : Progress) → drawn_of b allow (routes_of points b.edges) xs grant ≡ going u → Counts b points u
unfolding sum
counts b allow points xs grant u e =
    let ts = turns_of b xs in
    let p = sheet_points b allow ts (blank (routes_of points b.edges) grant) u e in
    let q = sheet_taps b allow ts (blank (routes_of points b.edges) grant) u e in
    let r = turns_count b b.bundles xs (offsets_of b) in
    let g = given_count points b.edges in
    record { points_of = omega (arith, p, r, g); taps_of = omega (arith, q, r) }

-- ---- the last shift keeps them

shifted_points : (o : Point) (rs : List Route) → points_in (map (map (shifted o)) rs) ≡ points_in rs
unfolding sum
shifted_points o [] = refl
shifted_points o (r ∷ rs) =
    let h = length-map r (shifted o) in
    let k = shifted_points o rs in
    omega arith

shifted_taps : (o : Point) (ds : List Drawn) → taps_in (map (shifted_drawn o) ds) ≡ taps_in ds
unfolding sum shifted_drawn
shifted_taps o [] = refl
shifted_taps o (d ∷ ds) =
    let h = length-map d.taps (shifted_tap o) in
    let k = shifted_taps o ds in
    omega arith

pub record SameCounts (s t : Sheet) : Type 0 where
  pub nodes : length t.nodes ≡ length s.nodes
  pub points : points_in t.routes ≡ points_in s.routes
  pub taps : taps_in t.drawn ≡ taps_in s.drawn

pub moved_counts : (s : Sheet) → SameCounts s (moved s)
unfolding moved shifted_sheet
moved_counts s = go (ne (min_x s) zero64 || ne (min_y s) zero64)
  where
    go : (t : Bool) → SameCounts s (cond t (shifted_sheet (pt (min_x s) (min_y s)) s) s)
    go true = record {
      nodes = length-map s.nodes (shifted_node (pt (min_x s) (min_y s)));
      points = shifted_points (pt (min_x s) (min_y s)) s.routes;
      taps = shifted_taps (pt (min_x s) (min_y s)) s.drawn;
    }
    go false = record { nodes = refl; points = refl; taps = refl }
