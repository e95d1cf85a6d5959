-- Taps and the tests of the two checks in whole numbers over 128, and that binary64's are the same.
-- Assumes nothing.
use Rattle.std.specs.Prelude.{◌≡◌, refl, ℕ, suc, ◌^◌, ◌≤◌, Bool, true, false, ◌&&◌, ◌||◌, cond, List, [], ◌∷◌, ◌++◌, map, ℤ, nat_abs, eqb, Float, Option, Some, None}
use Rattle.std.proofs.Common.{sym, ap, ◌∙◌, subst, arith}
use Rattle.std.proofs.Math.ListN.{get_or-map}
use Rattle.geometry.specs.declared.Point.{Point}
use Rattle.geometry.specs.declared.Segment.{Segment}
use Rattle.geometry.specs.declared.Role.{Role}
use Rattle.geometry.specs.declared.Role.TheVariants.{Input, Output}
use Rattle.geometry.specs.Kind.{disallowed}
use Rattle.geometry.specs.Spacing as G
use Rattle.geometry.specs.Points.{Route}
use Rattle.board.specs.declared.Edge.{Edge}
use Rattle.board.specs.declared.Member.{Member}
use Rattle.drawing.specs.Build as D
use Rattle.drawing.specs.Check as K
use Rattle.drawing.specs.Check.{Test, due, barred, own, every_route}
use Rattle.sorting.specs.Sorted.{every_map, every_get_d}
use Rattle.grid_plan.specs.Board as Z
use Rattle.grid_plan.proofs.Sized.{pick_smaller, pick_larger}
use Rattle.grid_plan.specs.Image.{segment, placed, options, route}
use Rattle.grid_plan.proofs.Searching.{runs_on}
use Rattle.grid_sheet.specs.Touch as Y
use Rattle.grid_sheet.specs.Draw as W
use Rattle.grid_sheet.specs.Image.{tap, tap_on, drawn}
use Rattle.grid_sheet.proofs.Touching.{slanted_on, kind_on, too_close_on, passes_on}
use Rattle.grid_sheet.proofs.Rerouting.{kept_lies, runs_every, OfCrossing, At, first_trunk_on, last_trunk_on, first_trunk_of, last_trunk_of, Pitch}
use Rattle.sorting.specs.Lists.{Every}
use Rattle.grid.specs.On.{on, same, smaller, larger}
use Rattle.grid.proofs.Operations.{eq_on, least_on, greatest_on}
use Rattle.grid_sheet.specs.Sizes.{KeptRoutes, KeptDrawn, Tapped, KeptSegment, LiesOn, OfTap, Sides, Within, Kept}
use Rattle.grid_plan.specs.Sizes.{Near}
use Rattle.grid_sheet.specs.InnerImage.{crossing, option_taps}

-- ---- taps
pub tapped_kept : (t : W.TapOn) → Tapped t → Kept t.place
tapped_kept t h = (let a = h.0 in omega arith, h.1)

tap_of_on : (ts : List W.TapOn) (i : ℕ) → D.tap_of (map tap_on ts) i ≡ tap (W.tap_of ts i)
unfolding D.tap_of W.tap_of
tap_of_on [] i = refl
tap_of_on (t ∷ ts) i = ap (cond (eqb t.edge i) (tap (Some t.place))) (tap_of_on ts i) ∙ go (eqb t.edge i) (W.tap_of ts i)
  where
    go : (b : Bool) (o : Option Z.Point) → cond b (tap (Some t.place)) (tap o) ≡ tap (cond b (Some t.place) o)
    go true o = refl
    go false o = refl

tap_of_of : (ts : List W.TapOn) (i : ℕ) → Every Tapped ts → OfTap (W.tap_of ts i)
unfolding W.tap_of
tap_of_of [] i h = tt
tap_of_of (t ∷ ts) i h = go (eqb t.edge i) (W.tap_of ts i) (tap_of_of ts i h.1)
  where
    go : (b : Bool) (o : Option Z.Point) → OfTap o → OfTap (cond b (Some t.place) o)
    go true o k = kept_lies t.place (tapped_kept t h.0)
    go false o k = k

pub lowest_on : (y : ℤ) (ts : List W.TapOn) → D.lowest (on y) (map tap_on ts) ≡ on (W.lowest y ts)
unfolding D.lowest W.lowest
lowest_on y [] = refl
lowest_on y (t ∷ ts) = ap (λ (z : Float). D.lowest z (map tap_on ts)) (least_on y t.place.y) ∙ lowest_on (smaller y t.place.y) ts

pub highest_on : (y : ℤ) (ts : List W.TapOn) → D.highest (on y) (map tap_on ts) ≡ on (W.highest y ts)
unfolding D.highest W.highest
highest_on y [] = refl
highest_on y (t ∷ ts) = ap (λ (z : Float). D.highest z (map tap_on ts)) (greatest_on y t.place.y) ∙ highest_on (larger y t.place.y) ts

pub lowest_of : (y : ℤ) (ts : List W.TapOn) → Within y → Every Tapped ts → Within (W.lowest y ts)
unfolding W.lowest
lowest_of y [] h k = h
lowest_of y (t ∷ ts) h k = lowest_of (smaller y t.place.y) ts (pick_smaller Within y t.place.y h k.0.1) k.1

pub highest_of : (y : ℤ) (ts : List W.TapOn) → Within y → Every Tapped ts → Within (W.highest y ts)
unfolding W.highest
highest_of y [] h k = h
highest_of y (t ∷ ts) h k = highest_of (larger y t.place.y) ts (pick_larger Within y t.place.y h k.0.1) k.1

pub rail_low_on : (ts : List W.TapOn) (y : ℤ) → D.rail_low (map tap_on ts) (on y) ≡ on (W.rail_low ts y)
unfolding D.rail_low W.rail_low
rail_low_on [] y = refl
rail_low_on (t ∷ ts) y = least_on t.place.y y

pub rail_high_on : (ts : List W.TapOn) (y : ℤ) → D.rail_high (map tap_on ts) (on y) ≡ on (W.rail_high ts y)
unfolding D.rail_high W.rail_high
rail_high_on [] y = refl
rail_high_on (t ∷ []) y = greatest_on t.place.y y
rail_high_on (t ∷ u ∷ ts) y = rail_high_on (u ∷ ts) y

pub rail_low_of : (ts : List W.TapOn) (y : ℤ) → Every Tapped ts → Within y → Within (W.rail_low ts y)
unfolding W.rail_low
rail_low_of [] y h k = k
rail_low_of (t ∷ ts) y h k = pick_smaller Within t.place.y y h.0.1 k

pub rail_high_of : (ts : List W.TapOn) (y : ℤ) → Every Tapped ts → Within y → Within (W.rail_high ts y)
unfolding W.rail_high
rail_high_of [] y h k = k
rail_high_of (t ∷ []) y h k = pick_larger Within t.place.y y h.0.1 k
rail_high_of (t ∷ u ∷ ts) y h k = rail_high_of (u ∷ ts) y h.1 k

pub all_at_on : (x : ℤ) (ts : List W.TapOn) → D.all_at (on x) (map tap_on ts) ≡ W.all_at x ts
unfolding D.all_at W.all_at
all_at_on x [] = refl
all_at_on x (t ∷ ts) = ap (λ (w : Bool). w && D.all_at (on x) (map tap_on ts)) (eq_on t.place.x x) ∙ ap (λ (w : Bool). same t.place.x x && w) (all_at_on x ts)

-- ---- the sheet as it stands
pub segment_lies : (s : Z.Segment) → KeptSegment s → LiesOn s
segment_lies s h = (kept_lies s.start h.0, kept_lies s.end h.1)

pub route_at_on : (rs : List Z.Route) (i : ℕ) → D.route_at (map route rs) i ≡ route (W.route_at rs i)
route_at_on rs i = get_or-map route rs i []

pub route_at_of : (rs : List Z.Route) (i : ℕ) → KeptRoutes rs → Every Kept (W.route_at rs i)
route_at_of rs i h = every_get_d (Every Kept) rs [] i h tt

-- ---- taps at the planned x
trunk_met_on : (role : Role) (p x : ℤ) (r : Z.Route) → Pitch p → Every Kept r → D.trunk_met role (on p) (on x) (route r) ≡ crossing (W.trunk_met role p x r)
unfolding D.trunk_met W.trunk_met
trunk_met_on Input p x r h k = first_trunk_on r x Input p h k
trunk_met_on Output p x r h k = last_trunk_on r x Output p h k

trunk_met_of : (role : Role) (p x : ℤ) (r : Z.Route) → Every Kept r → OfCrossing (At x) (W.trunk_met role p x r)
unfolding W.trunk_met
trunk_met_of Input p x r k = first_trunk_of r x Input p k
trunk_met_of Output p x r k = last_trunk_of r x Output p k

tap_then_on : (c : Option (ℕ × Z.Point)) (i : ℕ) (o : Option (List W.TapOn)) → D.tap_then (crossing c) i (option_taps o) ≡ option_taps (W.tap_then c i o)
unfolding D.tap_then W.tap_then
tap_then_on None i o = refl
tap_then_on (Some (k, p)) i None = refl
tap_then_on (Some (k, p)) i (Some ts) = refl

abbrev pub OfTaps : Option (List W.TapOn) → Type 0
OfTaps None = Unit {0}
OfTaps (Some ts) = Every Tapped ts

tap_then_of : (x : ℤ) (c : Option (ℕ × Z.Point)) (i : ℕ) (o : Option (List W.TapOn)) → Near x → OfCrossing (At x) c → OfTaps o → OfTaps (W.tap_then c i o)
unfolding W.tap_then
tap_then_of x None i o n h k = tt
tap_then_of x (Some (j, p)) i None n h k = tt
tap_then_of x (Some (j, p)) i (Some ts) n h k = ((subst (λ (z : ℤ). nat_abs z ≤ 2 ^ 30) (sym h.0) (omega arith), h.1), k)

pub trunk_taps_on : (role : Role) (p x : ℤ) (ms : List Member) (rs : List Z.Route) → Pitch p → KeptRoutes rs → D.trunk_taps role (on p) (on x) ms (map route rs) ≡ option_taps (W.trunk_taps role p x ms rs)
unfolding D.trunk_taps W.trunk_taps
trunk_taps_on role p x [] rs h k = refl
trunk_taps_on role p x (m ∷ ms) rs h k =
    ap (λ (r : Route). D.tap_then (D.trunk_met role (on p) (on x) r) m.edge (D.trunk_taps role (on p) (on x) ms (map route rs))) (route_at_on rs m.edge)
    ∙ ap (λ (c : Option (ℕ × Point)). D.tap_then c m.edge (D.trunk_taps role (on p) (on x) ms (map route rs))) (trunk_met_on role p x (W.route_at rs m.edge) h (route_at_of rs m.edge k))
    ∙ ap (D.tap_then (crossing (W.trunk_met role p x (W.route_at rs m.edge))) m.edge) (trunk_taps_on role p x ms rs h k)
    ∙ tap_then_on (W.trunk_met role p x (W.route_at rs m.edge)) m.edge (W.trunk_taps role p x ms rs)

pub trunk_taps_of : (role : Role) (p x : ℤ) (ms : List Member) (rs : List Z.Route) → Near x → KeptRoutes rs → OfTaps (W.trunk_taps role p x ms rs)
unfolding W.trunk_taps
trunk_taps_of role p x [] rs n k = tt
trunk_taps_of role p x (m ∷ ms) rs n k =
    tap_then_of x (W.trunk_met role p x (W.route_at rs m.edge)) m.edge (W.trunk_taps role p x ms rs) n (trunk_met_of role p x (W.route_at rs m.edge) (route_at_of rs m.edge k)) (trunk_taps_of role p x ms rs n k)

-- ---- the checks
clash_on : (o : Z.Options) (allow : Bool) (bus : Z.Segment) (t : Option Z.Point) (run : Z.Segment) → LiesOn bus → OfTap t → LiesOn run → K.clash (options o) allow (segment bus) (tap t) (segment run) ≡ W.clash o allow bus t run
unfolding K.clash W.clash
clash_on o allow bus t run h k l =
    ap (λ (w : Bool). w || G.too_close (segment bus) (segment run) (on o.spacing)) (ap (disallowed allow) (kind_on bus run.start run.end t h l.0 l.1 k))
    ∙ ap (λ (w : Bool). disallowed allow (Y.kind bus run.start run.end t) || w) (too_close_on bus run o.spacing h l)

run_tests_on : (o : Z.Options) (allow : Bool) (bus : Z.Segment) (t : Option Z.Point) (rs : List Z.Segment) → LiesOn bus → OfTap t → Every LiesOn rs → K.run_tests (options o) allow (segment bus) (tap t) (map segment rs) ≡ W.run_tests o allow bus t rs
unfolding K.run_tests W.run_tests
run_tests_on o allow bus t [] h k l = refl
run_tests_on o allow bus t (r ∷ rs) h k l =
    ap (λ (w : Bool). due w ∷ K.run_tests (options o) allow (segment bus) (tap t) (map segment rs)) (clash_on o allow bus t r h k l.0) ∙ ap (λ (m : List Test). due (W.clash o allow bus t r) ∷ m) (run_tests_on o allow bus t rs h k l.1)

route_runs : (r : Z.Route) → Every Kept r → Every LiesOn (Z.runs r)
route_runs r h = every_map (λ (s : Z.Segment). Kept s.start × Kept s.end) LiesOn (Z.runs r) segment_lies (runs_every Kept r h)

route_tests_on : (o : Z.Options) (allow : Bool) (bus : Z.Segment) (ts : List W.TapOn) (i : ℕ) (r : Z.Route) → LiesOn bus → Every Tapped ts → Every Kept r → K.route_tests (options o) allow (segment bus) (map tap_on ts) i (route r) ≡ W.route_tests o allow bus ts i r
route_tests_on o allow bus ts i r h k l =
    ap (λ (m : List Segment). K.run_tests (options o) allow (segment bus) (D.tap_of (map tap_on ts) i) m) (runs_on r)
    ∙ ap (λ (t : Option Point). K.run_tests (options o) allow (segment bus) t (map segment (Z.runs r))) (tap_of_on ts i)
    ∙ run_tests_on o allow bus (W.tap_of ts i) (Z.runs r) h (tap_of_of ts i k) (route_runs r l)

pub over_on : (f : ℕ → Route → List Test) (g : ℕ → Z.Route → List Test) → ((i : ℕ) (r : Z.Route) → Every Kept r → f i (route r) ≡ g i r) → (chosen : ℕ → Bool) (rs : List Z.Route) (i : ℕ) → KeptRoutes rs → K.over_routes f chosen (map route rs) i ≡ W.over_routes g chosen rs i
unfolding K.over_routes W.over_routes
over_on f g h chosen [] i k = refl
over_on f g h chosen (r ∷ rs) i k =
    ap (λ (l : List Test). cond (chosen i) l [] ++ K.over_routes f chosen (map route rs) (suc i)) (h i r k.0) ∙ ap (λ (l : List Test). cond (chosen i) (g i r) [] ++ l) (over_on f g h chosen rs (suc i) k.1)

drawn_tests_on : (o : Z.Options) (allow : Bool) (d : W.Drawn) (chosen : ℕ → Bool) (rs : List Z.Route) → KeptDrawn d → KeptRoutes rs → K.drawn_tests (options o) allow (drawn d) chosen (map route rs) ≡ W.drawn_tests o allow d chosen rs
unfolding K.drawn_tests W.drawn_tests
drawn_tests_on o allow d chosen rs h k =
    ap (λ (l : List Test). l ++ K.over_routes (K.route_tests (options o) allow (segment d.spine) (map tap_on d.taps)) chosen (map route rs) 0)
    (over_on (K.route_tests (options o) allow (segment d.collector) (map tap_on d.taps)) (W.route_tests o allow d.collector d.taps) (λ i r l. route_tests_on o allow d.collector d.taps i r (segment_lies d.collector h.0) h.2 l) chosen rs 0 k)
    ∙ ap (λ (l : List Test). W.over_routes (W.route_tests o allow d.collector d.taps) chosen rs 0 ++ l)
    (over_on (K.route_tests (options o) allow (segment d.spine) (map tap_on d.taps)) (W.route_tests o allow d.spine d.taps) (λ i r l. route_tests_on o allow d.spine d.taps i r (segment_lies d.spine h.1) h.2 l) chosen rs 0 k)

pair_tests_on : (o : Z.Options) (allow : Bool) (d e : W.Drawn) → KeptDrawn d → KeptDrawn e → K.pair_tests (options o) allow (drawn d) (drawn e) ≡ W.pair_tests o allow d e
unfolding K.pair_tests W.pair_tests
pair_tests_on o allow d e h k =
    rw (
      clash_on o allow d.collector None e.collector (segment_lies d.collector h.0) tt (segment_lies e.collector k.0),
      clash_on o allow d.collector None e.spine (segment_lies d.collector h.0) tt (segment_lies e.spine k.1),
      clash_on o allow d.spine None e.collector (segment_lies d.spine h.1) tt (segment_lies e.collector k.0),
      clash_on o allow d.spine None e.spine (segment_lies d.spine h.1) tt (segment_lies e.spine k.1),
    )

prior_tests_on : (o : Z.Options) (allow : Bool) (new : W.Drawn) (changed : ℕ → Bool) (ds : List W.Drawn) (rs : List Z.Route) → KeptDrawn new → Every KeptDrawn ds → KeptRoutes rs → K.prior_tests (options o) allow (drawn new) changed (map drawn ds) (map route rs) ≡ W.prior_tests o allow new changed ds rs
unfolding K.prior_tests W.prior_tests
prior_tests_on o allow new changed [] rs h k l = refl
prior_tests_on o allow new changed (d ∷ ds) rs h k l =
    ap (λ (m : List Test). (m ++ K.pair_tests (options o) allow (drawn new) (drawn d)) ++ K.prior_tests (options o) allow (drawn new) changed (map drawn ds) (map route rs)) (drawn_tests_on o allow d changed rs k.0 l)
    ∙ ap (λ (m : List Test). (W.drawn_tests o allow d changed rs ++ m) ++ K.prior_tests (options o) allow (drawn new) changed (map drawn ds) (map route rs)) (pair_tests_on o allow new d h k.0)
    ∙ ap (λ (m : List Test). (W.drawn_tests o allow d changed rs ++ W.pair_tests o allow new d) ++ m) (prior_tests_on o allow new changed ds rs h k.1 l)

pub contact_tests_on : (o : Z.Options) (allow : Bool) (new : W.Drawn) (changed : ℕ → Bool) (ds : List W.Drawn) (rs : List Z.Route) → KeptDrawn new → Every KeptDrawn ds → KeptRoutes rs → K.contact_tests (options o) allow (drawn new) changed (map drawn ds) (map route rs) ≡ W.contact_tests o allow new changed ds rs
unfolding K.contact_tests W.contact_tests
contact_tests_on o allow new changed ds rs h k l =
    ap (λ (m : List Test). m ++ K.prior_tests (options o) allow (drawn new) changed (map drawn ds) (map route rs)) (drawn_tests_on o allow new every_route rs h l)
    ∙ ap (λ (m : List Test). W.drawn_tests o allow new every_route rs ++ m) (prior_tests_on o allow new changed ds rs h k l)

node_tests_on : (e : Edge) (s : Z.Segment) (ns : List Z.PlacedNode) (j : ℕ) → Every (λ (n : Z.PlacedNode). Sides n.body) ns → K.node_tests e (segment s) (map placed ns) j ≡ W.node_tests e s ns j
unfolding K.node_tests W.node_tests
node_tests_on e s [] j h = refl
node_tests_on e s (n ∷ ns) j h =
    ap (λ (w : Bool). cond (own e j) [] (due w ∷ []) ++ K.node_tests e (segment s) (map placed ns) (suc j)) (passes_on s.start s.end n.body h.0)
    ∙ ap (λ (l : List Test). cond (own e j) [] (due (Y.passes_inside s.start s.end n.body) ∷ []) ++ l) (node_tests_on e s ns (suc j) h.1)

pub inside_tests_on : (ns : List Z.PlacedNode) (e : Edge) (ss : List Z.Segment) → Every (λ (n : Z.PlacedNode). Sides n.body) ns → K.inside_tests (map placed ns) e (map segment ss) ≡ W.inside_tests ns e ss
unfolding K.inside_tests W.inside_tests
inside_tests_on ns e [] h = refl
inside_tests_on ns e (s ∷ ss) h =
    ap (λ (w : Bool). cond w (barred ∷ []) (K.node_tests e (segment s) (map placed ns) 0) ++ K.inside_tests (map placed ns) e (map segment ss)) (slanted_on s.start s.end)
    ∙ ap (λ (l : List Test). cond (Y.slanted s.start s.end) (barred ∷ []) l ++ K.inside_tests (map placed ns) e (map segment ss)) (node_tests_on e s ns 0 h)
    ∙ ap (λ (l : List Test). cond (Y.slanted s.start s.end) (barred ∷ []) (W.node_tests e s ns 0) ++ l) (inside_tests_on ns e ss h)
