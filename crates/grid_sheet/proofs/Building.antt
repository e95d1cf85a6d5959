-- build_geometry on a board of the grid: the bundle drawn in whole numbers over 128 is binary64's.
-- Assumes nothing.
use Rattle.std.specs.Prelude.{◌≡◌, ℕ, ◌+◌, ◌-◌, ◌*◌, ◌^◌, ◌≤◌, Bool, ◌&&◌, ℤ, pos, negsuc, nat_abs, ◌+ℤ◌, ◌-ℤ◌, ◌*ℤ◌, Float, Option, Some, None}
use Rattle.std.proofs.Math.Path.{refl, ap}
use Rattle.std.proofs.Common.{sym, ◌∙◌, subst, mul-le-mul}
use native.Mathlib.Omega.{arith}
use mathlib.Core.List.{List, [], ◌∷◌, map}
use Rattle.std.specs.Float.Ieee.{binary64, le, eq, add, sub, mul, div}
use Rattle.binary64.specs.Order.{magnitude}
use Rattle.geometry.specs.declared.Point.{Point}
use Rattle.board.specs.declared.Bundle.{Bundle}
use Rattle.board.specs.declared.Member.{Member}
use Rattle.board.specs.Board.{rail_depth}
use Rattle.plan.specs.Depths as L
use Rattle.plan.specs.Depths.{lane_count, number}
use Rattle.drawing.specs.Build as D
use Rattle.grid_plan.specs.Board as Z
use Rattle.grid_plan.specs.Image.{point, segment, board, route}
use Rattle.grid_plan.proofs.Deep.{pitch_on, pitch_sized, rail_sized, endpoint_on, endpoint_sized, members_lanes, inward_on, inward_sized}
use Rattle.grid_plan.proofs.Deep as P
use Rattle.grid_sheet.specs.Draw as W
use Rattle.grid_sheet.specs.Image as M
use Rattle.grid_sheet.specs.Image.{tap_on, drawn}
use Rattle.plan.proofs.SmallNumbers.{lane_count_small}
use Rattle.sorting.specs.Lists.{Every}
use Rattle.grid.specs.On.{on, same, half_of}
use Rattle.grid.proofs.Operations.{le_on, eq_on, add_on, sub_on, magnitude_on, add_size, subtract_size, times_size}
use Rattle.grid.proofs.Lanes.{half_even, rail_on}
use Rattle.grid_sheet.proofs.SheetSteps.{OfTaps, all_at_on, highest_of, highest_on, lowest_of, lowest_on, rail_high_of, rail_high_on, rail_low_of, rail_low_on, trunk_taps_of, trunk_taps_on}
use Rattle.grid_plan.specs.OnGrid.{OnDraftingGrid}
use Rattle.grid_sheet.specs.Sizes.{Tame, Within, Kept, Tapped, KeptDrawn, KeptRoutes, KeptSegment}
use Rattle.grid_plan.specs.Sizes.{Near, Placed}
use Rattle.grid_sheet.specs.InnerImage.{option_taps}
use Rattle.grid_sheet.proofs.Rerouting.{Pitch}

-- ---- on a board of the grid
module _ (b : Z.Board) (routes : List Z.Route) (good : OnDraftingGrid b routes) where
  abbrev pub pitch : ℤ
  pitch = Z.parting_pitch b

  pub pitch_small : Pitch pitch
  pitch_small = (pitch_sized b routes good).size

  -- ---- at the rail
  half_small : (w : ℤ) → nat_abs (w +ℤ w) ≤ 2 ^ 27 → nat_abs w ≤ 2 ^ 30
  half_small (pos n) h = omega arith
  half_small (negsuc n) h = omega arith

  half_pitch : half_of pitch ≡ (pitch_sized b routes good).even.half
  half_pitch = let e = (pitch_sized b routes good).even in ap half_of e.is ∙ half_even e.half

  half_pitch_small : nat_abs (half_of pitch) ≤ 2 ^ 30
  half_pitch_small = let e = (pitch_sized b routes good).even in subst (λ (z : ℤ). nat_abs z ≤ 2 ^ 30) (sym half_pitch) (half_small e.half (subst (λ (z : ℤ). nat_abs z ≤ 2 ^ 27) e.is pitch_small))

  pub lane_y_on : (y : ℤ) (lane last : ℕ) → nat_abs y ≤ 2 ^ 28 → lane ≤ 255 → last ≤ 256
      → add binary64 (on y) (mul binary64 (sub binary64 (number lane) (div binary64 (number last) (number 2))) (on pitch)) ≡ on (y +ℤ ((pos (lane + lane) -ℤ pos last) *ℤ half_of pitch))
  lane_y_on y lane last h k l =
      let e = (pitch_sized b routes good).even in
      ap (λ (z : ℤ). add binary64 (on y) (mul binary64 (sub binary64 (number lane) (div binary64 (number last) (number 2))) (on z))) e.is
      ∙ rail_on y e.half lane last (omega arith) (half_small e.half (subst (λ (z : ℤ). nat_abs z ≤ 2 ^ 27) e.is pitch_small)) (omega arith) (omega arith)
      ∙ ap (λ (z : ℤ). on (y +ℤ ((pos (lane + lane) -ℤ pos last) *ℤ z))) (sym half_pitch)

  lane_y_of : (y : ℤ) (lane last : ℕ) → nat_abs y ≤ 2 ^ 28 → lane ≤ 255 → last ≤ 256 → Within (y +ℤ ((pos (lane + lane) -ℤ pos last) *ℤ half_of pitch))
  lane_y_of y lane last h k l =
      let t = pos (lane + lane) -ℤ pos last in
      let st : nat_abs t ≤ 2 ^ 10 = (let z = subtract_size (pos (lane + lane)) (pos last) in omega arith) in
      let sm : nat_abs t * nat_abs (half_of pitch) ≤ 2 ^ 10 * 2 ^ 30 = mul-le-mul st half_pitch_small in
      let ts = times_size t (half_of pitch) in
      let z = add_size y (t *ℤ half_of pitch) in
      omega arith

  abbrev Corner : Z.Point → Type 0
  Corner p = (nat_abs p.x ≤ 2 ^ 30) × (nat_abs p.y ≤ 2 ^ 28)

  rail_taps_on : (end : Z.Point) (all ms : List Member) → Corner end → lane_count all ≤ 256 → Every (λ (m : Member). m.tap_lane ≤ 255) ms → D.rail_taps (point end) (D.center all) (on pitch) ms ≡ map tap_on (W.rail_taps end (lane_count all - 1) pitch ms)
  unfolding D.rail_taps W.rail_taps D.rail_tap W.rail_tap D.center
  rail_taps_on end all [] h k l = refl
  rail_taps_on end all (m ∷ ms) h k l =
      ap (λ (z : Float). record { edge = m.edge; place = record { x = on end.x; y = z } } ∷ D.rail_taps (point end) (D.center all) (on pitch) ms) (lane_y_on end.y m.tap_lane (lane_count all - 1) h.1 l.0 (omega arith))
      ∙ ap (λ (t : List D.TapOn). tap_on (W.rail_tap end (lane_count all - 1) pitch m) ∷ t) (rail_taps_on end all ms h k l.1)

  rail_taps_of : (end : Z.Point) (last : ℕ) (ms : List Member) → Corner end → last ≤ 256 → Every (λ (m : Member). m.tap_lane ≤ 255) ms → Every Tapped (W.rail_taps end last pitch ms)
  unfolding W.rail_taps W.rail_tap
  rail_taps_of end last [] h k l = tt
  rail_taps_of end last (m ∷ ms) h k l = ((h.0, lane_y_of end.y m.tap_lane last h.1 l.0 k), rail_taps_of end last ms h k l.1)

  -- ---- whether it counts as interior
  pub interior_on : (u : Bundle) (c s : Z.Segment) (ts : List W.TapOn) → Tame s.start.x → Tame s.end.x → D.counts_interior (board b) u (segment c) (segment s) (map tap_on ts) ≡ W.counts_interior b u c s ts
  unfolding D.counts_interior W.counts_interior
  interior_on u c s ts h k =
      let e = s.end.x in
      ap (λ (w : Bool). w && (eq (on e) (on c.end.x) && (D.all_at (on e) (map tap_on ts) && le (add binary64 (rail_depth (board b).options) (L.parting_pitch (board b))) (magnitude (sub binary64 (on e) (on s.start.x)))))) (eq_on e c.start.x)
      ∙ ap (λ (w : Bool). same e c.start.x && (w && (D.all_at (on e) (map tap_on ts) && le (add binary64 (rail_depth (board b).options) (L.parting_pitch (board b))) (magnitude (sub binary64 (on e) (on s.start.x)))))) (eq_on e c.end.x)
      ∙ ap (λ (w : Bool). same e c.start.x && (same e c.end.x && (w && le (add binary64 (rail_depth (board b).options) (L.parting_pitch (board b))) (magnitude (sub binary64 (on e) (on s.start.x)))))) (all_at_on e ts)
      ∙ ap (λ (w : Bool). same e c.start.x && (same e c.end.x && (W.all_at e ts && w)))
      (ap (λ (z : Float). le (add binary64 z (L.parting_pitch (board b))) (magnitude (sub binary64 (on e) (on s.start.x)))) (P.rail_on b routes good)
      ∙ ap (λ (z : Float). le (add binary64 (on (Z.rail_depth b.options)) z) (magnitude (sub binary64 (on e) (on s.start.x)))) (pitch_on b routes good)
      ∙ ap (λ (z : Float). le z (magnitude (sub binary64 (on e) (on s.start.x)))) (add_on (Z.rail_depth b.options) pitch (let p = (rail_sized b routes good).size in let q = pitch_small in omega arith))
      ∙ ap (λ (z : Float). le (on (Z.rail_depth b.options +ℤ pitch)) (magnitude z)) (sub_on e s.start.x (omega arith))
      ∙ ap (le (on (Z.rail_depth b.options +ℤ pitch))) (magnitude_on (e -ℤ s.start.x)) ∙ le_on (Z.rail_depth b.options +ℤ pitch) (pos (nat_abs (e -ℤ s.start.x))))

  drawn_as_on : (u : Bundle) (c s : Z.Segment) (ts : List W.TapOn) → KeptSegment s → D.drawn_as (board b) u (segment c) (segment s) (map tap_on ts) ≡ drawn (W.drawn_as b u c s ts)
  unfolding D.drawn_as W.drawn_as
  drawn_as_on u c s ts h =
      ap (λ (w : Bool). record { collector = segment c; spine = segment s; taps = map tap_on ts; interior = w }) (interior_on u c s ts (let a = h.0.0 in omega arith) (let a = h.1.0 in omega arith))

  endpoint_corner : (u : Bundle) → Corner (Z.endpoint_of b u)
  endpoint_corner u = (let a = (endpoint_sized b routes good u).0.size in omega arith, (endpoint_sized b routes good u).1.size)

  corner_kept : (p : Z.Point) → Corner p → Kept p
  corner_kept p h = (let a = h.0 in omega arith, let a = h.1 in omega arith)

  -- ---- at the planned x
  inside_on : (u : Bundle) (x : ℤ) (ts : List W.TapOn) → Near x → Every Tapped ts → D.drawn_inside (board b) u (on x) (map tap_on ts) ≡ drawn (W.drawn_inside b u x ts)
  unfolding D.drawn_inside W.drawn_inside
  inside_on u x ts h k =
      let e = Z.endpoint_of b u in
      ap (λ (p : Point). D.drawn_as (board b) u (D.seg (D.pt (on x) (D.lowest p.y (map tap_on ts))) (D.pt (on x) (D.highest p.y (map tap_on ts)))) (D.seg p (D.pt (on x) p.y)) (map tap_on ts)) (endpoint_on b routes good u)
      ∙ ap (λ (z : Float). D.drawn_as (board b) u (D.seg (D.pt (on x) z) (D.pt (on x) (D.highest (on e.y) (map tap_on ts)))) (D.seg (point e) (D.pt (on x) (on e.y))) (map tap_on ts)) (lowest_on e.y ts)
      ∙ ap (λ (z : Float). D.drawn_as (board b) u (D.seg (D.pt (on x) (on (W.lowest e.y ts))) (D.pt (on x) z)) (D.seg (point e) (D.pt (on x) (on e.y))) (map tap_on ts)) (highest_on e.y ts)
      ∙ drawn_as_on u (W.seg (W.pt x (W.lowest e.y ts)) (W.pt x (W.highest e.y ts))) (W.seg e (W.pt x e.y)) ts (corner_kept e (endpoint_corner u), (omega arith, (corner_kept e (endpoint_corner u)).1))

  inside_of : (u : Bundle) (x : ℤ) (ts : List W.TapOn) → Near x → Every Tapped ts → KeptDrawn (W.drawn_inside b u x ts)
  unfolding W.drawn_inside W.drawn_as
  inside_of u x ts h k =
      let e = Z.endpoint_of b u in
      let c = corner_kept e (endpoint_corner u) in
      let n : Within x = omega arith in
      (((n, lowest_of e.y ts c.1 k), (n, highest_of e.y ts c.1 k)), (c, (n, c.1)), k)

  -- ---- at the rail
  pub rail_corner_on : (u : Bundle) → D.rail_corner (board b) u ≡ point (W.rail_corner b u)
  unfolding D.rail_corner W.rail_corner
  rail_corner_on u =
      ap (λ (p : Point). D.pt (L.inward u.role p.x (rail_depth (board b).options)) p.y) (endpoint_on b routes good u)
      ∙ ap (λ (z : Float). D.pt (L.inward u.role (on (Z.endpoint_of b u).x) z) (on (Z.endpoint_of b u).y)) (P.rail_on b routes good)
      ∙ ap (λ (z : Float). D.pt z (on (Z.endpoint_of b u).y)) (inward_on u.role (Z.endpoint_of b u).x (Z.rail_depth b.options) (omega arith) (endpoint_sized b routes good u).0 (rail_sized b routes good))

  rail_corner_of : (u : Bundle) → Corner (W.rail_corner b u)
  unfolding W.rail_corner
  rail_corner_of u = (let a = (inward_sized u.role (Z.endpoint_of b u).x (Z.rail_depth b.options) (endpoint_sized b routes good u).0 (rail_sized b routes good)).size in omega arith, (endpoint_sized b routes good u).1.size)

  count_small : (u : Bundle) → lane_count (Z.members_in b u) ≤ 256
  count_small u = lane_count_small (Z.members_in b u) (members_lanes b routes good u)

  railed_on : (u : Bundle) → D.railed (board b) u ≡ drawn (W.railed b u)
  unfolding D.railed W.railed
  railed_on u =
      ap (λ (p : Point). laid p (D.rail_taps p (D.center ms) (L.parting_pitch (board b)) ms) (L.endpoint_of (board b) u)) (rail_corner_on u)
      ∙ ap (λ (z : Float). laid (point corner) (D.rail_taps (point corner) (D.center ms) z ms) (L.endpoint_of (board b) u)) (pitch_on b routes good)
      ∙ ap (λ (l : List D.TapOn). laid (point corner) l (L.endpoint_of (board b) u)) (rail_taps_on corner ms ms (rail_corner_of u) (count_small u) (members_lanes b routes good u))
      ∙ ap (laid (point corner) (map tap_on ts)) (endpoint_on b routes good u)
      ∙ ap (λ (z : Float). D.drawn_as (board b) u (D.seg (D.pt (on corner.x) z) (D.pt (on corner.x) (D.rail_high (map tap_on ts) (on corner.y)))) (D.seg (point (Z.endpoint_of b u)) (point corner)) (map tap_on ts)) (rail_low_on ts corner.y)
      ∙ ap (λ (z : Float). D.drawn_as (board b) u (D.seg (D.pt (on corner.x) (on (W.rail_low ts corner.y))) (D.pt (on corner.x) z)) (D.seg (point (Z.endpoint_of b u)) (point corner)) (map tap_on ts)) (rail_high_on ts corner.y)
      ∙ drawn_as_on u (W.seg (W.pt corner.x (W.rail_low ts corner.y)) (W.pt corner.x (W.rail_high ts corner.y))) (W.seg (Z.endpoint_of b u) corner) ts (corner_kept (Z.endpoint_of b u) (endpoint_corner u), corner_kept corner (rail_corner_of u))
    where
      ms : List Member
      ms = Z.members_in b u

      corner : Z.Point
      corner = W.rail_corner b u

      ts : List W.TapOn
      ts = W.rail_taps (W.rail_corner b u) (lane_count (Z.members_in b u) - 1) (Z.parting_pitch b) (Z.members_in b u)

      laid : Point → List D.TapOn → Point → D.Drawn
      laid p l e = D.drawn_as (board b) u (D.seg (D.pt p.x (D.rail_low l p.y)) (D.pt p.x (D.rail_high l p.y))) (D.seg e p) l

  railed_of : (u : Bundle) → KeptDrawn (W.railed b u)
  unfolding W.railed W.drawn_as
  railed_of u =
      let corner = W.rail_corner b u in
      let ts = W.rail_taps corner (lane_count (Z.members_in b u) - 1) pitch (Z.members_in b u) in
      let t : Every Tapped ts = rail_taps_of corner (lane_count (Z.members_in b u) - 1) (Z.members_in b u) (rail_corner_of u) (let n = count_small u in omega arith) (members_lanes b routes good u) in
      let c = corner_kept corner (rail_corner_of u) in
      (((c.0, rail_low_of ts corner.y t c.1), (c.0, rail_high_of ts corner.y t c.1)), (corner_kept (Z.endpoint_of b u) (endpoint_corner u), c), t)

  -- BUILD_GEOMETRY
  pub build_on : (u : Bundle) (x : Option ℤ) (rs : List Z.Route) → Placed x → KeptRoutes rs → D.build (board b) u (M.number x) (map route rs) ≡ drawn (W.build b u x rs)
  unfolding D.build W.build
  build_on u None rs h k = railed_on u
  build_on u (Some x) rs h k =
      ap (λ (z : Float). D.inside_or (D.trunk_taps u.role z (on x) (Z.members_in b u) (map route rs)) (board b) u (on x)) (pitch_on b routes good)
      ∙ ap (λ (o : Option (List D.TapOn)). D.inside_or o (board b) u (on x)) (trunk_taps_on u.role pitch x (Z.members_in b u) rs pitch_small k)
      ∙ go (W.trunk_taps u.role pitch x (Z.members_in b u) rs) (trunk_taps_of u.role pitch x (Z.members_in b u) rs h k)
    where
      go : (o : Option (List W.TapOn)) → OfTaps o → D.inside_or (option_taps o) (board b) u (on x) ≡ drawn (W.inside_or o b u x)
      go None l = unfold D.inside_or W.inside_or in railed_on u
      go (Some ts) l = unfold D.inside_or W.inside_or in inside_on u x ts h l

  pub build_of : (u : Bundle) (x : Option ℤ) (rs : List Z.Route) → Placed x → KeptRoutes rs → KeptDrawn (W.build b u x rs)
  unfolding W.build
  build_of u None rs h k = railed_of u
  build_of u (Some x) rs h k = go (W.trunk_taps u.role pitch x (Z.members_in b u) rs) (trunk_taps_of u.role pitch x (Z.members_in b u) rs h k)
    where
      go : (o : Option (List W.TapOn)) → OfTaps o → KeptDrawn (W.inside_or o b u x)
      go None l = unfold W.inside_or in railed_of u
      go (Some ts) l = unfold W.inside_or in inside_of u x ts h l
