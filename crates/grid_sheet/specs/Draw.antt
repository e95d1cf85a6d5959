-- The sheet before the last shift in whole numbers over 128: the twin of drawing/specs/Build, Rewrite, Check and Sheet, name for name. build_geometry, rewrite_member_routes and the two verifiers of boundary_bundles.rs, bundle after bundle. Definitions only.
-- Assumes nothing.
use Rattle.std.specs.Prelude.{ℕ, suc, ◌+◌, ◌-◌, List, [], ◌∷◌, ◌++◌, Bool, true, false, ◌&&◌, ◌||◌, cond, eqb, ltb, length, get_or, set, ℤ, pos, nat_abs, ◌+ℤ◌, ◌-ℤ◌, ◌*ℤ◌, Option, Some, None}
use Rattle.geometry.specs.declared.Role.{Role}
use Rattle.geometry.specs.declared.Role.TheVariants.{Input, Output}
use Rattle.geometry.specs.Kind.{disallowed}
use Rattle.board.specs.declared.Edge.{Edge}
use Rattle.board.specs.declared.Bundle.{Bundle}
use Rattle.board.specs.declared.Member.{Member}
use Rattle.plan.specs.Depths.{lane_count}
use Rattle.drawing.specs.Verdict.{Verdict, Clean, Refused}
use Rattle.drawing.specs.Check.{Test, due, barred, walk, among, own, no_edge, every_route}
use Rattle.grid_plan.specs.Board.{Point, Segment, PlacedNode, Options, Board, Route, runs, rail_depth, endpoint_of, members_in, pitch_of, inward}
use Rattle.grid_sheet.specs.Touch.{slanted, kind, too_close, passes_inside}
use Rattle.grid_sheet.specs.Reroute.{first_shared_trunk_intersection, last_shared_trunk_intersection, rewrite_input_shared_trunk, rewrite_output_shared_trunk, rewrite_input_route, rewrite_output_route}
use Rattle.grid.specs.On.{at_most, same, smaller, larger, half_of}

abbrev pub pt : ℤ → ℤ → Point
pt a b = record { x = a; y = b }

abbrev pub seg : Point → Point → Segment
seg a b = record { start = a; end = b }

-- a bundle's tap on the route of an edge, the edge by its place
pub record TapOn : Type 0 where
  pub edge : ℕ
  pub place : Point

-- a bundle as it is drawn; interior is the test on these numbers, not a mark from the plan
pub record Drawn : Type 0 where
  pub collector : Segment
  pub spine : Segment
  pub taps : List TapOn
  pub interior : Bool

abbrev pub route_at : List Route → ℕ → Route
route_at rs i = get_or rs i []

-- permitted_taps.get: a route's tap among those of a bundle
unfoldable pub tap_of : List TapOn → ℕ → Option Point
tap_of [] i = None
tap_of (t ∷ ts) i = cond (eqb t.edge i) (Some t.place) (tap_of ts i)

-- ---- at the planned x
unfoldable pub trunk_met : Role → ℤ → ℤ → Route → Option (ℕ × Point)
trunk_met Input pitch x r = first_shared_trunk_intersection r x Input pitch
trunk_met Output pitch x r = last_shared_trunk_intersection r x Output pitch

unfoldable pub tap_then : Option (ℕ × Point) → ℕ → Option (List TapOn) → Option (List TapOn)
tap_then None i later = None
tap_then (Some (k, p)) i None = None
tap_then (Some (k, p)) i (Some ts) = Some (record { edge = i; place = p } ∷ ts)

-- each member's tap at x, if every member's route has one
unfoldable pub trunk_taps : Role → ℤ → ℤ → List Member → List Route → Option (List TapOn)
trunk_taps role pitch x [] rs = Some []
trunk_taps role pitch x (m ∷ ms) rs = tap_then (trunk_met role pitch x (route_at rs m.edge)) m.edge (trunk_taps role pitch x ms rs)

unfoldable pub lowest : ℤ → List TapOn → ℤ
lowest y [] = y
lowest y (t ∷ ts) = lowest (smaller y t.place.y) ts

unfoldable pub highest : ℤ → List TapOn → ℤ
highest y [] = y
highest y (t ∷ ts) = highest (larger y t.place.y) ts

-- ---- at the rail: the lanes stand around the spine's end. The pitch is even, so half of it is whole
unfoldable pub rail_tap : Point → ℕ → ℤ → Member → TapOn
rail_tap end last pitch m = record { edge = m.edge; place = pt end.x (end.y +ℤ ((pos (m.tap_lane + m.tap_lane) -ℤ pos last) *ℤ half_of pitch)) }

unfoldable pub rail_taps : Point → ℕ → ℤ → List Member → List TapOn
rail_taps end last pitch [] = []
rail_taps end last pitch (m ∷ ms) = rail_tap end last pitch m ∷ rail_taps end last pitch ms

-- the collector's low end: the first tap or the spine's end, whichever is lower
unfoldable pub rail_low : List TapOn → ℤ → ℤ
rail_low [] y = y
rail_low (t ∷ ts) y = smaller t.place.y y

-- the collector's high end: the last tap or the spine's end, whichever is higher
unfoldable pub rail_high : List TapOn → ℤ → ℤ
rail_high [] y = y
rail_high (t ∷ []) y = larger t.place.y y
rail_high (t ∷ u ∷ ts) y = rail_high (u ∷ ts) y

-- ---- whether it counts as interior
unfoldable pub all_at : ℤ → List TapOn → Bool
all_at x [] = true
all_at x (t ∷ ts) = same t.place.x x && all_at x ts

unfoldable pub counts_interior : Board → Bundle → Segment → Segment → List TapOn → Bool
counts_interior b u collector spine ts =
    same spine.end.x collector.start.x
    && (same spine.end.x collector.end.x
    && (all_at spine.end.x ts
    && at_most (rail_depth b.options +ℤ pitch_of b u) (pos (nat_abs (spine.end.x -ℤ spine.start.x)))))

unfoldable pub drawn_as : Board → Bundle → Segment → Segment → List TapOn → Drawn
drawn_as b u collector spine ts = record { collector = collector; spine = spine; taps = ts; interior = counts_interior b u collector spine ts }

-- with taps at the planned x
unfoldable pub drawn_inside : Board → Bundle → ℤ → List TapOn → Drawn
drawn_inside b u x ts =
    let end = endpoint_of b u in
    drawn_as b u (seg (pt x (lowest end.y ts)) (pt x (highest end.y ts))) (seg end (pt x end.y)) ts

-- where the rail's spine ends: the endpoint, the rail depth inward
unfoldable pub rail_corner : Board → Bundle → Point
rail_corner b u = pt (inward u.role (endpoint_of b u).x (rail_depth b.options)) (endpoint_of b u).y

-- Document 01's "at the rail": build_geometry with no planned x
unfoldable pub railed : Board → Bundle → Drawn
railed b u =
    let corner = rail_corner b u in
    let ts = rail_taps corner (lane_count (members_in b u) - 1) (pitch_of b u) (members_in b u) in
    drawn_as b u (seg (pt corner.x (rail_low ts corner.y)) (pt corner.x (rail_high ts corner.y))) (seg (endpoint_of b u) corner) ts

unfoldable pub inside_or : Option (List TapOn) → Board → Bundle → ℤ → Drawn
inside_or None b u x = railed b u
inside_or (Some ts) b u x = drawn_inside b u x ts

-- build_geometry
unfoldable pub build : Board → Bundle → Option ℤ → List Route → Drawn
build b u None rs = railed b u
build b u (Some x) rs = inside_or (trunk_taps u.role (pitch_of b u) x (members_in b u) rs) b u x

-- ---- rewrite_member_routes
unfoldable pub rewritten : Bool → Role → ℤ → ℤ → Point → Route → Option Route
rewritten true Input pitch depth tap r = rewrite_input_shared_trunk r tap pitch
rewritten true Output pitch depth tap r = rewrite_output_shared_trunk r tap pitch
rewritten false Input pitch depth tap r = rewrite_input_route r tap depth
rewritten false Output pitch depth tap r = rewrite_output_route r tap depth

-- a route of fewer than two points is refused, before and after
unfoldable pub two_points : Option Route → Option Route
two_points None = None
two_points (Some r) = cond (ltb (length r) 2) None (Some r)

-- `corridor_offset + (tap_lane + 1) as f64 * pitch`
unfoldable pub corridor_depth : ℤ → ℤ → Member → ℤ
corridor_depth offset pitch m = offset +ℤ (pos (suc m.tap_lane) *ℤ pitch)

unfoldable pub rewrite_one : Bool → Role → ℤ → ℤ → Point → Member → Route → Option Route
rewrite_one inside role pitch offset tap m r =
    cond (ltb (length r) 2) None (two_points (rewritten inside role pitch (corridor_depth offset pitch m) tap r))

unfoldable pub put_route : Option Route → ℕ → List Route → Option (List Route)
put_route None i rs = None
put_route (Some r) i rs = Some (set rs i r)

unfoldable pub then_routes : Option (List Route) → (List Route → Option (List Route)) → Option (List Route)
then_routes None k = None
then_routes (Some rs) k = k rs

-- rewrite_member_routes: member after member with its tap; none is refusal 10
unfoldable pub rewrite_all : Bool → Role → ℤ → ℤ → List TapOn → List Member → List Route → Option (List Route)
rewrite_all inside role pitch offset [] ms rs = Some rs
rewrite_all inside role pitch offset (t ∷ ts) [] rs = Some rs
rewrite_all inside role pitch offset (t ∷ ts) (m ∷ ms) rs =
    then_routes (put_route (rewrite_one inside role pitch offset t.place m (route_at rs m.edge)) m.edge rs)
    (λ ss. rewrite_all inside role pitch offset ts ms ss)

-- ---- the checks, as lists of looks
unfoldable pub over_routes : (ℕ → Route → List Test) → (ℕ → Bool) → List Route → ℕ → List Test
over_routes f chosen [] i = []
over_routes f chosen (r ∷ rs) i = cond (chosen i) (f i r) [] ++ over_routes f chosen rs (suc i)

-- what a bundle's segment must not have with a run; allow permits strict crossings
unfoldable pub clash : Options → Bool → Segment → Option Point → Segment → Bool
clash o allow bus tap run = disallowed allow (kind bus run.start run.end tap) || too_close bus run o.spacing

unfoldable pub run_tests : Options → Bool → Segment → Option Point → List Segment → List Test
run_tests o allow bus tap [] = []
run_tests o allow bus tap (r ∷ rs) = due (clash o allow bus tap r) ∷ run_tests o allow bus tap rs

abbrev pub route_tests : Options → Bool → Segment → List TapOn → ℕ → Route → List Test
route_tests o allow bus taps i r = run_tests o allow bus (tap_of taps i) (runs r)

-- a bundle's collector, then its spine, against the chosen routes
unfoldable pub drawn_tests : Options → Bool → Drawn → (ℕ → Bool) → List Route → List Test
drawn_tests o allow d chosen rs =
    over_routes (route_tests o allow d.collector d.taps) chosen rs 0 ++ over_routes (route_tests o allow d.spine d.taps) chosen rs 0

-- the new bundle's segments against an earlier one's
unfoldable pub pair_tests : Options → Bool → Drawn → Drawn → List Test
pair_tests o allow new prior =
    due (clash o allow new.collector None prior.collector)
    ∷ due (clash o allow new.collector None prior.spine)
    ∷ due (clash o allow new.spine None prior.collector)
    ∷ due (clash o allow new.spine None prior.spine)
    ∷ []

-- each earlier bundle against the changed routes, then against the new one
unfoldable pub prior_tests : Options → Bool → Drawn → (ℕ → Bool) → List Drawn → List Route → List Test
prior_tests o allow new changed [] rs = []
prior_tests o allow new changed (d ∷ ds) rs = (drawn_tests o allow d changed rs ++ pair_tests o allow new d) ++ prior_tests o allow new changed ds rs

-- the new bundle against every route, then the earlier ones
unfoldable pub contact_tests : Options → Bool → Drawn → (ℕ → Bool) → List Drawn → List Route → List Test
contact_tests o allow new changed priors rs = drawn_tests o allow new every_route rs ++ prior_tests o allow new changed priors rs

unfoldable pub node_tests : Edge → Segment → List PlacedNode → ℕ → List Test
node_tests e s [] j = []
node_tests e s (n ∷ ns) j = cond (own e j) [] (due (passes_inside s.start s.end n.body) ∷ []) ++ node_tests e s ns (suc j)

-- a slanted run fails before any visit
unfoldable pub inside_tests : List PlacedNode → Edge → List Segment → List Test
inside_tests ns e [] = []
inside_tests ns e (s ∷ ss) = cond (slanted s.start s.end) (barred ∷ []) (node_tests e s ns 0) ++ inside_tests ns e ss

abbrev pub member_tests : Board → ℕ → Route → List Test
member_tests b i r = inside_tests b.nodes (get_or b.edges i no_edge) (runs r)

-- verify_one_bundle_route_node_interiors: the routes of the members, in the order of the routes
unfoldable pub interior_tests : Board → List Member → List Route → List Test
interior_tests b ms rs = over_routes (member_tests b) (among ms) rs 0

-- ---- the turns
pub record Turn : Type 0 where
  pub bundle : Bundle
  pub planned : Option ℤ
  pub offset : ℤ

-- the turns of the bundles, in job order, each with its planned x and its corridor offset
unfoldable pub turns_from : List Bundle → List (Option ℤ) → List ℤ → List Turn
turns_from [] xs ds = []
turns_from (u ∷ us) [] ds = []
turns_from (u ∷ us) (x ∷ xs) [] = []
turns_from (u ∷ us) (x ∷ xs) (d ∷ ds) = record { bundle = u; planned = x; offset = d } ∷ turns_from us xs ds

-- the sheet as it stands: the present routes, the bundles drawn so far in their order, and the geometry visits left
pub record Progress : Type 0 where
  pub routes : List Route
  pub drawn : List Drawn
  pub left : ℕ

-- refused with a number and the geometry visits left then
pub data Outcome : Type 0 where
  refused : ℕ → ℕ → Outcome
  going : Progress → Outcome

unfoldable pub after_check : Verdict → (ℕ → Outcome) → Outcome
after_check (Clean p) k = k p.0
after_check (Refused e p) k = refused e p.0

unfoldable pub after_turn : Outcome → (Progress → Outcome) → Outcome
after_turn (refused e n) k = refused e n
after_turn (going s) k = k s

-- n visits are left
unfoldable pub after_rewrite : Option (List Route) → ℕ → (List Route → Outcome) → Outcome
after_rewrite None n k = refused 10 n
after_rewrite (Some rs) n k = k rs

abbrev pub drawn_at : Board → Turn → Progress → Drawn
drawn_at b t s = build b t.bundle t.planned s.routes

abbrev pub rewritten_by : Board → Turn → Drawn → List Route → Option (List Route)
rewritten_by b t d rs = rewrite_all d.interior t.bundle.role (pitch_of b t.bundle) t.offset d.taps (members_in b t.bundle) rs

-- verify_one_bundle_route_node_interiors on the routes rs
abbrev pub inside_check : Board → Turn → List Route → ℕ → Verdict
inside_check b t rs n = walk 12 (interior_tests b (members_in b t.bundle) rs) n

-- verify_new_bundle_route_contacts of a new bundle d on the routes rs, beside the bundles drawn before it
abbrev pub contact_check : Board → Bool → Turn → Drawn → List Drawn → List Route → ℕ → Verdict
contact_check b allow t d priors rs n = walk 11 (contact_tests b.options allow d (among (members_in b t.bundle)) priors rs) n

-- the two checks of a new bundle d on the routes rs, beside the bundles drawn before it
unfoldable pub checked : Board → Bool → Turn → Drawn → List Drawn → List Route → ℕ → Outcome
checked b allow t d priors rs n =
    after_check (inside_check b t rs n) (λ k. after_check (contact_check b allow t d priors rs k) (λ left.
    going (record { routes = rs; drawn = priors ++ (d ∷ []); left = left })))

-- one bundle: build_geometry, rewrite_member_routes, verify_one_bundle_route_node_interiors, verify_new_bundle_route_contacts
unfoldable pub turn : Board → Bool → Turn → Progress → Outcome
turn b allow t s =
    after_rewrite (rewritten_by b t (drawn_at b t s) s.routes) s.left (λ rs.
    checked b allow t (drawn_at b t s) s.drawn rs s.left)

-- every bundle in job order
unfoldable pub sheet_of : Board → Bool → List Turn → Progress → Outcome
sheet_of b allow [] s = going s
sheet_of b allow (t ∷ ts) s = after_turn (turn b allow t s) (λ u. sheet_of b allow ts u)

abbrev pub blank : List Route → ℕ → Progress
blank rs grant = record { routes = rs; drawn = []; left = grant }
