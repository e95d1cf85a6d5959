-- The sheet of binary64 before the last shift, on a board of the grid, is the one in whole numbers: every number, every visit and every refusal. Whatever the planned x are, as long as they are of the grid's size.
-- Assumes nothing.
use Rattle.std.specs.Prelude.{◌≡◌, Bool, ℤ, pos, ◌*ℤ◌, ltb, length, get_or, Float, Option, Some, None}
use Rattle.std.proofs.Math.Path.{refl, ap}
use Rattle.std.proofs.Common.{sym, ◌∙◌}
use Prim.Native.Nat.{ℕ, suc, ◌*◌, ◌^◌, ◌≤◌}
use Rattle.std.proofs.Math.Nat.{mul-le-mul}
use native.Mathlib.Omega.{arith}
use Rattle.std.proofs.Math.Bool.{true, false, cond}
use mathlib.Core.List.{List, [], ◌∷◌, ◌++◌, map}
use Rattle.std.proofs.Math.IntN.{nat_abs}
use Rattle.std.proofs.lemmas.List.{length-map}
use Rattle.std.specs.Float.Ieee.{binary64, add}
use Rattle.geometry.specs.declared.Role.{Role}
use Rattle.geometry.specs.declared.Role.TheVariants.{Input, Output}
use Rattle.geometry.specs.Points.{Route}
use Rattle.board.specs.declared.Member.{Member}
use Rattle.drawing.specs.Verdict.{Verdict, Clean, Refused}
use Rattle.drawing.specs.Build as D
use Rattle.drawing.specs.Rewrite as Q
use Rattle.drawing.specs.Check as K
use Rattle.drawing.specs.Check.{Test, walk, among, no_edge}
use Rattle.drawing.specs.Sheet as S
use Rattle.sorting.specs.Sorted.{every_map, every_last}
use Rattle.grid_plan.specs.Board as Z
use Rattle.grid_plan.proofs.Sized.{lanes_are}
use Rattle.grid_plan.specs.Image.{point, placed, board, route}
use Rattle.grid_plan.proofs.Searching.{runs_on}
use Rattle.grid_plan.proofs.Deep.{pitch_on, pitch_length, members_lanes}
use Rattle.grid_sheet.specs.Draw as W
use Rattle.grid_sheet.specs.Image.{tap_on, drawn, turn, progress, outcome}
use Rattle.grid_sheet.proofs.Rerouting.{OfRoute, input_trunk_on, output_trunk_on, input_route_on, output_route_on, input_trunk_of, output_trunk_of, input_route_of, output_route_of}
use Rattle.sorting.specs.Lists.{Every}
use Rattle.grid.specs.On.{on}
use Rattle.grid.proofs.Operations.{add_on, add_size, times_size}
use Rattle.grid_sheet.proofs.SheetSteps.{over_on}
use Rattle.grid_sheet.proofs.Building.{build_of, pitch, pitch_small}
use Rattle.grid_plan.proofs.PlanSteps.{set_map, every_set, map_append}
use Rattle.grid_sheet.proofs.SheetSteps.{contact_tests_on, inside_tests_on, route_at_of, route_at_on}
use Rattle.grid_sheet.proofs.Building.{build_on}
use Rattle.grid_plan.specs.Sizes.{Job, Length}
use Rattle.grid_plan.specs.OnGrid.{OnDraftingGrid}
use Rattle.grid_sheet.specs.Sizes.{Timely, Offset, Sides, Within, Kept, Standing, Tapped, KeptDrawn, KeptRoutes}
use Rattle.grid_sheet.specs.InnerImage.{option_route, option_routes}

abbrev pub OfOutcome : W.Outcome → Type 0
OfOutcome (W.refused e n) = Unit {0}
OfOutcome (W.going s) = Standing s

module _ (b : Z.Board) (routes : List Z.Route) (good : OnDraftingGrid b routes) where
  -- ---- rewriting
  pub depth_on : (d : ℤ) (m : Member) → Offset d → m.tap_lane ≤ 255 → Q.corridor_depth (on d) (on (pitch b routes good)) m ≡ on (W.corridor_depth d (pitch b routes good) m)
  unfolding Q.corridor_depth W.corridor_depth
  depth_on d m h k =
      ap (add binary64 (on d)) (lanes_are (suc m.tap_lane) (pitch b routes good) (pitch_length b routes good) (omega arith) (let p = (pitch_small b routes good) in omega arith))
      ∙ add_on d (pos (suc m.tap_lane) *ℤ (pitch b routes good)) (let p = lane_length (suc m.tap_lane) (omega arith) in omega arith)
    where
      lane_length : (n : ℕ) → n ≤ 256 → nat_abs (pos n *ℤ (pitch b routes good)) ≤ 2 ^ 35
      lane_length n h = let t = times_size (pos n) (pitch b routes good) in let s : n * nat_abs (pitch b routes good) ≤ 256 * 2 ^ 27 = mul-le-mul h (pitch_small b routes good) in omega arith

  depth_of : (d : ℤ) (m : Member) → Offset d → m.tap_lane ≤ 255 → nat_abs (W.corridor_depth d (pitch b routes good) m) ≤ 2 ^ 45
  unfolding W.corridor_depth
  depth_of d m h k =
      let n = suc m.tap_lane in
      let t = times_size (pos n) (pitch b routes good) in
      let c : n ≤ 256 = omega arith in
      let s : n * nat_abs (pitch b routes good) ≤ 256 * 2 ^ 27 = mul-le-mul c (pitch_small b routes good) in
      let a = add_size d (pos n *ℤ (pitch b routes good)) in
      omega arith

  abbrev KeptTap : Z.Point → Type 0
  KeptTap t = (nat_abs t.x ≤ 2 ^ 30) × Within t.y

  tap_kept : (t : Z.Point) → KeptTap t → Kept t
  tap_kept t h = (let a = h.0 in omega arith, h.1)

  rewritten_on : (inside : Bool) (role : Role) (d : ℤ) (t : Z.Point) (r : Z.Route) → nat_abs d ≤ 2 ^ 45 → KeptTap t → Every Kept r → Q.rewritten inside role (on (pitch b routes good)) (on d) (point t) (route r) ≡ option_route (W.rewritten inside role (pitch b routes good) d t r)
  unfolding Q.rewritten W.rewritten
  rewritten_on true Input d t r h k l = input_trunk_on r l t (tap_kept t k) (pitch b routes good) (pitch_small b routes good)
  rewritten_on true Output d t r h k l = output_trunk_on r l t (tap_kept t k) (pitch b routes good) (pitch_small b routes good)
  rewritten_on false Input d t r h k l = input_route_on r l t (tap_kept t k) d (let a = k.0 in omega arith)
  rewritten_on false Output d t r h k l = output_route_on r l t (tap_kept t k) d (let a = k.0 in omega arith)

  rewritten_of : (inside : Bool) (role : Role) (d : ℤ) (t : Z.Point) (r : Z.Route) → nat_abs d ≤ 2 ^ 45 → KeptTap t → Every Kept r → OfRoute (W.rewritten inside role (pitch b routes good) d t r)
  unfolding W.rewritten
  rewritten_of true Input d t r h k l = input_trunk_of r l t (tap_kept t k) (pitch b routes good)
  rewritten_of true Output d t r h k l = output_trunk_of r l t (tap_kept t k) (pitch b routes good)
  rewritten_of false Input d t r h k l = input_route_of r l t (tap_kept t k) d (let a = k.0 in omega arith)
  rewritten_of false Output d t r h k l = output_route_of r l t (tap_kept t k) d (let a = k.0 in omega arith)

  two_on : (o : Option Z.Route) → Q.two_points (option_route o) ≡ option_route (W.two_points o)
  unfolding Q.two_points W.two_points
  two_on None = refl
  two_on (Some r) = ap (λ (n : ℕ). cond (ltb n 2) None (Some (route r))) (length-map r point) ∙ go (ltb (length r) 2)
    where
      go : (t : Bool) → cond t None (Some (route r)) ≡ option_route (cond t None (Some r))
      go true = refl
      go false = refl

  two_of : (o : Option Z.Route) → OfRoute o → OfRoute (W.two_points o)
  unfolding W.two_points
  two_of None h = tt
  two_of (Some r) h = go (ltb (length r) 2)
    where
      go : (t : Bool) → OfRoute (cond t None (Some r))
      go true = tt
      go false = h

  rewrite_one_on : (inside : Bool) (role : Role) (d : ℤ) (t : Z.Point) (m : Member) (r : Z.Route) → Offset d → KeptTap t → m.tap_lane ≤ 255 → Every Kept r → Q.rewrite_one inside role (on (pitch b routes good)) (on d) (point t) m (route r) ≡ option_route (W.rewrite_one inside role (pitch b routes good) d t m r)
  unfolding Q.rewrite_one W.rewrite_one
  rewrite_one_on inside role d t m r h k n l =
      ap (λ (i : ℕ). cond (ltb i 2) None (Q.two_points (Q.rewritten inside role (on (pitch b routes good)) (Q.corridor_depth (on d) (on (pitch b routes good)) m) (point t) (route r)))) (length-map r point)
      ∙ ap (λ (z : Float). cond (ltb (length r) 2) None (Q.two_points (Q.rewritten inside role (on (pitch b routes good)) z (point t) (route r)))) (depth_on d m h n)
      ∙ ap (λ (o : Option Route). cond (ltb (length r) 2) None (Q.two_points o)) (rewritten_on inside role (W.corridor_depth d (pitch b routes good) m) t r (depth_of d m h n) k l)
      ∙ ap (λ (o : Option Route). cond (ltb (length r) 2) None o) (two_on (W.rewritten inside role (pitch b routes good) (W.corridor_depth d (pitch b routes good) m) t r))
      ∙ go (ltb (length r) 2) (W.two_points (W.rewritten inside role (pitch b routes good) (W.corridor_depth d (pitch b routes good) m) t r))
    where
      go : (s : Bool) (o : Option Z.Route) → cond s None (option_route o) ≡ option_route (cond s None o)
      go true o = refl
      go false o = refl

  rewrite_one_of : (inside : Bool) (role : Role) (d : ℤ) (t : Z.Point) (m : Member) (r : Z.Route) → Offset d → KeptTap t → m.tap_lane ≤ 255 → Every Kept r → OfRoute (W.rewrite_one inside role (pitch b routes good) d t m r)
  unfolding W.rewrite_one
  rewrite_one_of inside role d t m r h k n l = go (ltb (length r) 2)
    where
      go : (s : Bool) → OfRoute (cond s None (W.two_points (W.rewritten inside role (pitch b routes good) (W.corridor_depth d (pitch b routes good) m) t r)))
      go true = tt
      go false = two_of (W.rewritten inside role (pitch b routes good) (W.corridor_depth d (pitch b routes good) m) t r) (rewritten_of inside role (W.corridor_depth d (pitch b routes good) m) t r (depth_of d m h n) k l)

  put_on : (o : Option Z.Route) (i : ℕ) (rs : List Z.Route) → Q.put_route (option_route o) i (map route rs) ≡ option_routes (W.put_route o i rs)
  unfolding Q.put_route W.put_route
  put_on None i rs = refl
  put_on (Some r) i rs = ap Some (set_map route rs i r)

  abbrev OfRoutes : Option (List Z.Route) → Type 0
  OfRoutes None = Unit {0}
  OfRoutes (Some rs) = KeptRoutes rs

  put_of : (o : Option Z.Route) (i : ℕ) (rs : List Z.Route) → OfRoute o → KeptRoutes rs → OfRoutes (W.put_route o i rs)
  unfolding W.put_route
  put_of None i rs h k = tt
  put_of (Some r) i rs h k = every_set (Every Kept) rs i r h k

  rewrite_all_on : (inside : Bool) (role : Role) (d : ℤ) (ts : List W.TapOn) (ms : List Member) (rs : List Z.Route) → Offset d → Every Tapped ts → Every (λ (m : Member). m.tap_lane ≤ 255) ms → KeptRoutes rs
      → Q.rewrite_all inside role (on (pitch b routes good)) (on d) (map tap_on ts) ms (map route rs) ≡ option_routes (W.rewrite_all inside role (pitch b routes good) d ts ms rs)
  unfolding Q.rewrite_all W.rewrite_all
  rewrite_all_on inside role d [] ms rs h k n l = refl
  rewrite_all_on inside role d (t ∷ ts) [] rs h k n l = refl
  rewrite_all_on inside role d (t ∷ ts) (m ∷ ms) rs h k n l =
      let r = W.route_at rs m.edge in
      let lr = route_at_of rs m.edge l in
      let one = W.rewrite_one inside role (pitch b routes good) d t.place m r in
      ap (λ (z : Route). Q.then_routes (Q.put_route (Q.rewrite_one inside role (on (pitch b routes good)) (on d) (point t.place) m z) m.edge (map route rs)) (λ ss. Q.rewrite_all inside role (on (pitch b routes good)) (on d) (map tap_on ts) ms ss)) (route_at_on rs m.edge)
      ∙ ap (λ (o : Option Route). Q.then_routes (Q.put_route o m.edge (map route rs)) (λ ss. Q.rewrite_all inside role (on (pitch b routes good)) (on d) (map tap_on ts) ms ss)) (rewrite_one_on inside role d t.place m r h k.0 n.0 lr)
      ∙ ap (λ (o : Option (List Route)). Q.then_routes o (λ ss. Q.rewrite_all inside role (on (pitch b routes good)) (on d) (map tap_on ts) ms ss)) (put_on one m.edge rs)
      ∙ go (λ (ss : List Z.Route) (q : KeptRoutes ss). rewrite_all_on inside role d ts ms ss h k.1 n.1 q) (W.put_route one m.edge rs) (put_of one m.edge rs (rewrite_one_of inside role d t.place m r h k.0 n.0 lr) l)
    where
      go : ((ss : List Z.Route) → KeptRoutes ss → Q.rewrite_all inside role (on (pitch b routes good)) (on d) (map tap_on ts) ms (map route ss) ≡ option_routes (W.rewrite_all inside role (pitch b routes good) d ts ms ss))
          → (o : Option (List Z.Route)) → OfRoutes o → Q.then_routes (option_routes o) (λ ss. Q.rewrite_all inside role (on (pitch b routes good)) (on d) (map tap_on ts) ms ss) ≡ option_routes (W.then_routes o (λ ss. W.rewrite_all inside role (pitch b routes good) d ts ms ss))
      go f None q = unfold Q.then_routes W.then_routes in refl
      go f (Some ss) q = unfold Q.then_routes W.then_routes in f ss q

  rewrite_all_of : (inside : Bool) (role : Role) (d : ℤ) (ts : List W.TapOn) (ms : List Member) (rs : List Z.Route) → Offset d → Every Tapped ts → Every (λ (m : Member). m.tap_lane ≤ 255) ms → KeptRoutes rs → OfRoutes (W.rewrite_all inside role (pitch b routes good) d ts ms rs)
  unfolding W.rewrite_all
  rewrite_all_of inside role d [] ms rs h k n l = l
  rewrite_all_of inside role d (t ∷ ts) [] rs h k n l = l
  rewrite_all_of inside role d (t ∷ ts) (m ∷ ms) rs h k n l =
      let r = W.route_at rs m.edge in
      let one = W.rewrite_one inside role (pitch b routes good) d t.place m r in
      go (λ (ss : List Z.Route) (q : KeptRoutes ss). rewrite_all_of inside role d ts ms ss h k.1 n.1 q) (W.put_route one m.edge rs) (put_of one m.edge rs (rewrite_one_of inside role d t.place m r h k.0 n.0 (route_at_of rs m.edge l)) l)
    where
      go : ((ss : List Z.Route) → KeptRoutes ss → OfRoutes (W.rewrite_all inside role (pitch b routes good) d ts ms ss)) → (o : Option (List Z.Route)) → OfRoutes o → OfRoutes (W.then_routes o (λ ss. W.rewrite_all inside role (pitch b routes good) d ts ms ss))
      go f None q = unfold W.then_routes in tt
      go f (Some ss) q = unfold W.then_routes in f ss q

  -- ---- the checks
  pub node_sides : Every (λ (n : Z.PlacedNode). Sides n.body) b.nodes
  node_sides =
      every_map (λ (n : Z.PlacedNode). Job n.body.corner.x × Job n.body.corner.y × Length n.body.width × Length n.body.height) (λ (n : Z.PlacedNode). Sides n.body) b.nodes
      (λ n h. (let p = h.0.size in let q = h.2.0.size in omega arith, let p = h.1.size in let q = h.3.0.size in omega arith)) good.nodes

  interior_tests_on : (ms : List Member) (rs : List Z.Route) → KeptRoutes rs → K.interior_tests (board b) ms (map route rs) ≡ W.interior_tests b ms rs
  unfolding K.interior_tests W.interior_tests
  interior_tests_on ms rs h = over_on (K.member_tests (board b)) (W.member_tests b) (λ i r k. ap (K.inside_tests (map placed b.nodes) (get_or b.edges i no_edge)) (runs_on r) ∙ inside_tests_on b.nodes (get_or b.edges i no_edge) (Z.runs r) node_sides) (among ms) rs 0 h

  -- ---- one bundle
  after_check_on : (v : Verdict) (f : ℕ → S.Outcome) (g : ℕ → W.Outcome) → ((n : ℕ) → f n ≡ outcome (g n)) → S.after_check v f ≡ outcome (W.after_check v g)
  unfolding S.after_check W.after_check
  after_check_on (Clean p) f g h = h p.0
  after_check_on (Refused e p) f g h = refl

  checked_on : (allow : Bool) (t : W.Turn) (d : W.Drawn) (priors : List W.Drawn) (rs : List Z.Route) (n : ℕ) → KeptDrawn d → Every KeptDrawn priors → KeptRoutes rs → S.checked (board b) allow (turn t) (drawn d) (map drawn priors) (map route rs) n ≡ outcome (W.checked b allow t d priors rs n)
  unfolding S.checked W.checked
  checked_on allow t d priors rs n h k l =
      let ms = Z.members_in b t.bundle in
      ap (λ (ts : List Test). S.after_check (walk 12 ts n) (λ j. S.after_check (S.contact_check (board b) allow (turn t) (drawn d) (map drawn priors) (map route rs) j) (λ left. S.going (record { routes = map route rs; drawn = map drawn priors ++ (drawn d ∷ []); left = left })))) (interior_tests_on ms rs l)
      ∙ after_check_on (walk 12 (W.interior_tests b ms rs) n) (λ j. S.after_check (S.contact_check (board b) allow (turn t) (drawn d) (map drawn priors) (map route rs) j) (λ left. S.going (record { routes = map route rs; drawn = map drawn priors ++ (drawn d ∷ []); left = left })))
      (λ j. W.after_check (W.contact_check b allow t d priors rs j) (λ left. W.going (record { routes = rs; drawn = priors ++ (d ∷ []); left = left })))
      (λ j. ap (λ (ts : List Test). S.after_check (walk 11 ts j) (λ left. S.going (record { routes = map route rs; drawn = map drawn priors ++ (drawn d ∷ []); left = left }))) (contact_tests_on b.options allow d (among (Z.members_in b t.bundle)) priors rs h k l)
      ∙ after_check_on (walk 11 (W.contact_tests b.options allow d (among (Z.members_in b t.bundle)) priors rs) j) (λ left. S.going (record { routes = map route rs; drawn = map drawn priors ++ (drawn d ∷ []); left = left })) (λ left. W.going (record { routes = rs; drawn = priors ++ (d ∷ []); left = left }))
      (λ left. ap (λ (ds : List D.Drawn). S.going (record { routes = map route rs; drawn = ds; left = left })) (sym (map_append drawn priors (d ∷ [])))))

  after_check_of : (v : Verdict) (g : ℕ → W.Outcome) → ((n : ℕ) → OfOutcome (g n)) → OfOutcome (W.after_check v g)
  unfolding W.after_check
  after_check_of (Clean p) g h = h p.0
  after_check_of (Refused e p) g h = tt

  checked_of : (allow : Bool) (t : W.Turn) (d : W.Drawn) (priors : List W.Drawn) (rs : List Z.Route) (n : ℕ) → KeptDrawn d → Every KeptDrawn priors → KeptRoutes rs → OfOutcome (W.checked b allow t d priors rs n)
  unfolding W.checked
  checked_of allow t d priors rs n h k l =
      after_check_of (W.inside_check b t rs n) (λ j. W.after_check (W.contact_check b allow t d priors rs j) (λ left. W.going (record { routes = rs; drawn = priors ++ (d ∷ []); left = left })))
      (λ j. after_check_of (W.contact_check b allow t d priors rs j) (λ left. W.going (record { routes = rs; drawn = priors ++ (d ∷ []); left = left })) (λ left. record { routes = l; drawn = every_last KeptDrawn d priors k h }))

  turn_on : (allow : Bool) (t : W.Turn) (s : W.Progress) → Timely t → Standing s → S.turn (board b) allow (turn t) (progress s) ≡ outcome (W.turn b allow t s)
  unfolding S.turn W.turn
  turn_on allow t s h k =
      ap (λ (z : D.Drawn). S.after_rewrite (S.rewritten_by (board b) (turn t) z (map route s.routes)) s.left (λ rs. S.checked (board b) allow (turn t) z (map drawn s.drawn) rs s.left)) ((build_on b routes good) t.bundle t.planned s.routes h.0 k.routes)
      ∙ ap (λ (z : Float). S.after_rewrite (Q.rewrite_all d.interior t.bundle.role z (on t.offset) (map tap_on d.taps) ms (map route s.routes)) s.left (λ rs. S.checked (board b) allow (turn t) (drawn d) (map drawn s.drawn) rs s.left)) (pitch_on b routes good)
      ∙ ap (λ (o : Option (List Route)). S.after_rewrite o s.left (λ rs. S.checked (board b) allow (turn t) (drawn d) (map drawn s.drawn) rs s.left)) (rewrite_all_on d.interior t.bundle.role t.offset d.taps ms s.routes h.1 kd.2 (members_lanes b routes good t.bundle) k.routes)
      ∙ go (W.rewrite_all d.interior t.bundle.role (pitch b routes good) t.offset d.taps ms s.routes) (rewrite_all_of d.interior t.bundle.role t.offset d.taps ms s.routes h.1 kd.2 (members_lanes b routes good t.bundle) k.routes)
    where
      ms : List Member
      ms = Z.members_in b t.bundle

      d : W.Drawn
      d = W.build b t.bundle t.planned s.routes

      kd : KeptDrawn (W.build b t.bundle t.planned s.routes)
      kd = (build_of b routes good) t.bundle t.planned s.routes h.0 k.routes

      go : (o : Option (List Z.Route)) → OfRoutes o → S.after_rewrite (option_routes o) s.left (λ rs. S.checked (board b) allow (turn t) (drawn d) (map drawn s.drawn) rs s.left) ≡ outcome (W.after_rewrite o s.left (λ rs. W.checked b allow t d s.drawn rs s.left))
      go None q = unfold S.after_rewrite W.after_rewrite in refl
      go (Some rs) q = unfold S.after_rewrite W.after_rewrite in checked_on allow t d s.drawn rs s.left kd k.drawn q

  turn_of : (allow : Bool) (t : W.Turn) (s : W.Progress) → Timely t → Standing s → OfOutcome (W.turn b allow t s)
  unfolding W.turn
  turn_of allow t s h k = go (W.rewrite_all d.interior t.bundle.role (pitch b routes good) t.offset d.taps ms s.routes) (rewrite_all_of d.interior t.bundle.role t.offset d.taps ms s.routes h.1 kd.2 (members_lanes b routes good t.bundle) k.routes)
    where
      ms : List Member
      ms = Z.members_in b t.bundle

      d : W.Drawn
      d = W.build b t.bundle t.planned s.routes

      kd : KeptDrawn (W.build b t.bundle t.planned s.routes)
      kd = (build_of b routes good) t.bundle t.planned s.routes h.0 k.routes

      go : (o : Option (List Z.Route)) → OfRoutes o → OfOutcome (W.after_rewrite o s.left (λ rs. W.checked b allow t d s.drawn rs s.left))
      go None q = unfold W.after_rewrite in tt
      go (Some rs) q = unfold W.after_rewrite in checked_of allow t d s.drawn rs s.left kd k.drawn q

  -- THE SHEET before the last shift
  pub sheet_on : (allow : Bool) (ts : List W.Turn) (s : W.Progress) → Every Timely ts → Standing s → S.sheet_of (board b) allow (map turn ts) (progress s) ≡ outcome (W.sheet_of b allow ts s)
  unfolding S.sheet_of W.sheet_of
  sheet_on allow [] s h k = refl
  sheet_on allow (t ∷ ts) s h k =
      ap (λ (o : S.Outcome). S.after_turn o (λ u. S.sheet_of (board b) allow (map turn ts) u)) (turn_on allow t s h.0 k)
      ∙ go (λ (u : W.Progress) (q : Standing u). sheet_on allow ts u h.1 q) (W.turn b allow t s) (turn_of allow t s h.0 k)
    where
      go : ((u : W.Progress) → Standing u → S.sheet_of (board b) allow (map turn ts) (progress u) ≡ outcome (W.sheet_of b allow ts u))
          → (o : W.Outcome) → OfOutcome o → S.after_turn (outcome o) (λ u. S.sheet_of (board b) allow (map turn ts) u) ≡ outcome (W.after_turn o (λ u. W.sheet_of b allow ts u))
      go f (W.refused e n) q = unfold S.after_turn W.after_turn in refl
      go f (W.going u) q = unfold S.after_turn W.after_turn in f u q

  pub sheet_of_of : (allow : Bool) (ts : List W.Turn) (s : W.Progress) → Every Timely ts → Standing s → OfOutcome (W.sheet_of b allow ts s)
  unfolding W.sheet_of
  sheet_of_of allow [] s h k = k
  sheet_of_of allow (t ∷ ts) s h k = go (λ (u : W.Progress) (q : Standing u). sheet_of_of allow ts u h.1 q) (W.turn b allow t s) (turn_of allow t s h.0 k)
    where
      go : ((u : W.Progress) → Standing u → OfOutcome (W.sheet_of b allow ts u)) → (o : W.Outcome) → OfOutcome o → OfOutcome (W.after_turn o (λ u. W.sheet_of b allow ts u))
      go f (W.refused e n) q = unfold W.after_turn in tt
      go f (W.going u) q = unfold W.after_turn in f u q
