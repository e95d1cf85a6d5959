-- On a board whose numbers are within their limits every bound, corridor and stretch end of the plan is a finite number. The powers of two here are wide: they only keep the numbers finite.
-- Assumes nothing.
use Rattle.std.specs.Prelude.{◌≡◌, refl, Bool, not, cond, ℕ, suc, ◌+◌, ◌*◌, ◌≤◌, ◌<◌, length, drop, T, eqb, leb, Float, Option, Some, None}
use Rattle.std.proofs.Common.{sym, subst, arith}
use Rattle.std.proofs.Math.Bool.{true, false}
use mathlib.Core.List.{List, [], ◌∷◌, map}
use Rattle.std.specs.Float.Ieee as Ieee
use Rattle.std.specs.Float.{binary64}
use Rattle.std.specs.Float.Ieee.{le, lt, eq}
use Rattle.std.specs.Float.Ieee.Fits.{mul-fits}
use Rattle.limits.specs.Limits.{max_lane}
use Rattle.binary64.specs.Bools.{either}
use Rattle.binary64.specs.Order.{greatest}
use Rattle.binary64.specs.Value.{le_refl_finite, le_trans_finite, le_antisymm_finite, not_lt→le, least_le_left, least_le_right, le_greatest_left, le_greatest_right, le_least, greatest_le}
use Rattle.binary64.specs.Range.{mul_within}
use Rattle.binary64.specs.Accepted.{zero64}
use Rattle.geometry.specs.declared.Point.{Point}
use Rattle.geometry.specs.declared.Side.{Side}
use Rattle.geometry.specs.declared.Side.TheVariants.{North, East, South, West}
use Rattle.geometry.specs.declared.Role.{Role}
use Rattle.geometry.specs.declared.Role.TheVariants.{Input, Output}
use Rattle.board.specs.declared.PlacedNode.{PlacedNode}
use Rattle.board.specs.declared.Port.{Port}
use Rattle.board.specs.declared.Bundle.{Bundle}
use Rattle.board.specs.declared.Member.{Member}
use Rattle.geometry.specs.Port.{port_point}
use Rattle.geometry.specs.Points.{Route, runs}
use Rattle.geometry.specs.Stretch.{from_to, shortened, stretch}
use Rattle.board.specs.Board.{Board, rail_depth}
use Rattle.plan.specs.declared.Used.{Used}
use Rattle.plan.specs.declared.Bound.{Bound}
use Rattle.plan.specs.declared.Bound.TheVariants as bounded
use Rattle.search.specs.declared.Bounds.{Bounds}
use Rattle.search.specs.Stretches.{stretches, members}
use Rattle.sorting.specs.Lists.{Every}
use Rattle.sorting.specs.Sorted.{every_get_d}
use Rattle.search.specs.BestOrder.{UpTo, far, Fair}
use Rattle.search.specs.Good.{Real, RealStretch}
use Rattle.plan.specs.Depths.{◌⊕◌, ◌⊖◌, number, same_role, no_port, no_node, port_of, node_of, endpoint_of, members_in, parting_pitch, inward, lanes, boundary_depth, lane_count, offset_past, last_depth, further, used_by, used, offset_of, used_after, offsets_from, offsets_of, corridor_x, corridor_among, first_of, corridor_from, corridor_of}
use Rattle.plan.specs.Bounds.{if_at, clamped, raised, lowered, route_of, first_x, last_x, map_bound, reach, tighter, reach_all, unless_crossed, between, bounds_of, trunks}
use Rattle.plan.proofs.SmallNumbers.{Small, SmallBound, Numbers, small_real, wider, add_small, sub_small, least_small, greatest_small, zero_small, number_small, every_take, every_drop, lane_count_small, raised_small, lowered_small}

module _ (b : Board) (routes : List Route) (good : Numbers b routes) where
  pub members_good : (u : Bundle) → Every (λ (m : Member). m.tap_lane ≤ max_lane) (members_in b u)
  members_good u = every_take (λ (m : Member). m.tap_lane ≤ max_lane) u.count (drop u.first b.members) (every_drop (λ (m : Member). m.tap_lane ≤ max_lane) u.first b.members good.lanes)

  pub pitch_small : Small 20 (parting_pitch b)
  pitch_small = greatest_small 20 b.options.route_lane_gap b.options.minimum_parallel_wire_spacing good.gap good.spacing

  pub rail_small : Small 21 (rail_depth b.options)
  unfolding rail_depth
  rail_small =
      either (lt zero64 b.options.edge_node_clearance) b.options.edge_node_clearance (b.options.port_stub ⊕ b.options.route_lane_gap) (Small 21)
      (wider 20 21 b.options.edge_node_clearance (omega arith) good.clearance)
      (add_small 20 20 20 b.options.port_stub b.options.route_lane_gap (omega arith) (omega arith) (omega arith) good.stub good.gap)

  pub lanes_small : (u : Bundle) (n : ℕ) → n ≤ 256 → Small 28 (lanes b u n)
  lanes_small u n h = (mul_within 8 20 (number n) (parting_pitch b) (omega arith) (number_small n h) pitch_small.0, mul-fits binary64 (number n) (parting_pitch b))

  pub node_small : (u : Bundle) → Small 30 (node_of b u).body.corner.x × Small 30 (node_of b u).body.width
  node_small u = every_get_d (λ (n : PlacedNode). Small 30 n.body.corner.x × Small 30 n.body.width) b.nodes no_node (port_of b u).node good.nodes (zero_small 30, zero_small 30)

  pub port_small : (u : Bundle) → Small 30 (port_of b u).offset
  port_small u = every_get_d (λ (p : Port). Small 30 p.offset) b.ports no_port u.port good.ports (zero_small 30)

  depth_small : (u : Bundle) → Small 31 (boundary_depth b u)
  depth_small u = add_small 30 21 30 (node_of b u).body.width (rail_depth b.options) (omega arith) (omega arith) (omega arith) (node_small u).1 rail_small

  pub endpoint_small : (u : Bundle) → Small 31 (endpoint_of b u).x
  endpoint_small u = go (port_of b u).side
    where
      n : PlacedNode
      n = node_of b u

      p : Port
      p = port_of b u

      go : (s : Side) → Small 31 (port_point n.body s p.offset).x
      go North = add_small 30 30 30 n.body.corner.x p.offset (omega arith) (omega arith) (omega arith) (node_small u).0 (port_small u)
      go East = add_small 30 30 30 n.body.corner.x n.body.width (omega arith) (omega arith) (omega arith) (node_small u).0 (node_small u).1
      go South = add_small 30 30 30 n.body.corner.x p.offset (omega arith) (omega arith) (omega arith) (node_small u).0 (port_small u)
      go West = wider 30 31 n.body.corner.x (omega arith) (node_small u).0

  pub inward_small : (role : Role) (j k m : ℕ) (x y : Float) → m < 1023 → j ≤ m → k ≤ m → Small j x → Small k y → Small (suc m) (inward role x y)
  inward_small Input j k m x y h p q s t = add_small j k m x y h p q s t
  inward_small Output j k m x y h p q s t = sub_small j k m x y h p q s t

  -- ---- offsets and corridors
  offset_small : (u : Bundle) (e : ℕ) (o : Bound) → 31 ≤ e → e ≤ 1000 → SmallBound e o → Small (e + 2) (offset_past b u o)
  offset_small u e bounded.None h k s = zero_small (e + 2)
  offset_small u e (bounded.At w) h k s =
      let two : suc (suc e) ≤ e + 2 = omega arith in
      greatest_small (e + 2) ((w ⊕ parting_pitch b) ⊖ (boundary_depth b u ⊕ parting_pitch b)) zero64
      (wider (suc (suc e)) (e + 2) ((w ⊕ parting_pitch b) ⊖ (boundary_depth b u ⊕ parting_pitch b)) two
      (sub_small (suc e) 32 (suc e) (w ⊕ parting_pitch b) (boundary_depth b u ⊕ parting_pitch b) (omega arith) (omega arith) (omega arith)
      (add_small e 20 e w (parting_pitch b) (omega arith) (omega arith) (omega arith) s pitch_small)
      (add_small 31 20 31 (boundary_depth b u) (parting_pitch b) (omega arith) (omega arith) (omega arith) (depth_small u) pitch_small)))
      (zero_small (e + 2))

  last_small : (u : Bundle) (e : ℕ) (offset : Float) → 31 ≤ e → e ≤ 1000 → Small (e + 2) offset → Small (e + 4) (last_depth b u offset)
  last_small u e offset h k s =
      let four : suc (suc (e + 2)) ≤ e + 4 = omega arith in
      wider (suc (suc (e + 2))) (e + 4) (last_depth b u offset) four
      (add_small (suc (e + 2)) 28 (suc (e + 2)) (boundary_depth b u ⊕ offset) (lanes b u (lane_count (members_in b u))) (omega arith) (omega arith) (omega arith)
      (add_small 31 (e + 2) (e + 2) (boundary_depth b u) offset (omega arith) (omega arith) (omega arith) (depth_small u) s)
      (lanes_small u (lane_count (members_in b u)) (lane_count_small (members_in b u) (members_good u))))

  further_small : (j k : ℕ) (o : Bound) (d : Float) → j ≤ k → SmallBound j o → Small k d → SmallBound k (further o d)
  further_small j k bounded.None d h s t = t
  further_small j k (bounded.At w) d h s t = greatest_small k w d (wider j k w h s) t

  wider_bound : (j k : ℕ) (o : Bound) → j ≤ k → SmallBound j o → SmallBound k o
  wider_bound j k bounded.None h s = tt
  wider_bound j k (bounded.At x) h s = wider j k x h s

  abbrev SmallUsed : ℕ → Used → Type 0
  SmallUsed e w = SmallBound e w.input × SmallBound e w.output

  used_by_small : (role : Role) (e : ℕ) (w : Used) → SmallUsed e w → SmallBound e (used_by role w)
  used_by_small Input e w s = s.0
  used_by_small Output e w s = s.1

  used_small : (role : Role) (j k : ℕ) (o : Bound) (w : Used) → j ≤ k → SmallBound k o → SmallUsed j w → SmallUsed k (used role o w)
  used_small Input j k o w h s t = (s, wider_bound j k w.output h t.1)
  used_small Output j k o w h s t = (wider_bound j k w.input h t.0, s)

  pub offsets_small : (us : List Bundle) (e : ℕ) (w : Used) → 31 ≤ e → e + 4 * length us ≤ 1000 → SmallUsed e w → Every (Small 1000) (offsets_from b us w)
  unfolding offsets_from
  offsets_small [] e w h k s = tt
  offsets_small (u ∷ us) e w h k s =
      let o : Small (e + 2) (offset_of b u w) = offset_small u e (used_by u.role w) h (omega arith) (used_by_small u.role e w s) in (
        wider (e + 2) 1000 (offset_of b u w) (omega arith) o,
        offsets_small us (e + 4) (used_after b u w) (omega arith) (omega arith)
            (used_small u.role e (e + 4) (further (used_by u.role w) (last_depth b u (offset_of b u w))) w (omega arith)
            (further_small e (e + 4) (used_by u.role w) (last_depth b u (offset_of b u w)) (omega arith) (used_by_small u.role e w s) (last_small u e (offset_of b u w) h (omega arith) o)) s),
      )

  corridor_small : (u : Bundle) (offset : Float) (m : Member) → Small 1000 offset → m.tap_lane ≤ max_lane → Small 1002 (corridor_x b u offset m)
  corridor_small u offset m s h =
      inward_small u.role 32 1001 1001 (inward u.role (endpoint_of b u).x (rail_depth b.options)) (offset ⊕ lanes b u (m.tap_lane + 1)) (omega arith) (omega arith) (omega arith)
      (inward_small u.role 31 21 31 (endpoint_of b u).x (rail_depth b.options) (omega arith) (omega arith) (omega arith) (endpoint_small u) rail_small)
      (add_small 1000 28 1000 offset (lanes b u (m.tap_lane + 1)) (omega arith) (omega arith) (omega arith) s (lanes_small u (m.tap_lane + 1) (omega arith)))

  among_small : (u : Bundle) (offset : Float) (r : ℕ) (ms : List Member) → Small 1000 offset → Every (λ (m : Member). m.tap_lane ≤ max_lane) ms → SmallBound 1002 (corridor_among b u offset r ms)
  unfolding corridor_among
  among_small u offset r [] s e = tt
  among_small u offset r (m ∷ ms) s e = go (eqb m.edge r) (among_small u offset r ms s e.1)
    where
      go : (t : Bool) → SmallBound 1002 (corridor_among b u offset r ms) → SmallBound 1002 (cond t (bounded.At (corridor_x b u offset m)) (corridor_among b u offset r ms))
      go true h = corridor_small u offset m s e.0
      go false h = h

  corridor_from_small : (role : Role) (r : ℕ) (us : List Bundle) (ds : List Float) → Every (Small 1000) ds → SmallBound 1002 (corridor_from b role r us ds)
  unfolding corridor_from
  corridor_from_small role r [] ds e = tt
  corridor_from_small role r (u ∷ us) [] e = tt
  corridor_from_small role r (u ∷ us) (d ∷ ds) e =
      go (same_role u.role role) (corridor_among b u d r (members_in b u)) (corridor_from b role r us ds) (among_small u d r (members_in b u) e.0 (members_good u)) (corridor_from_small role r us ds e.1)
    where
      first : (o p : Bound) → SmallBound 1002 o → SmallBound 1002 p → SmallBound 1002 (first_of o p)
      first bounded.None p s t = t
      first (bounded.At x) p s t = s

      go : (t : Bool) (o p : Bound) → SmallBound 1002 o → SmallBound 1002 p → SmallBound 1002 (cond t (first_of o p) p)
      go true o p s t = first o p s t
      go false o p s t = t

  corridors_small : (role : Role) (r : ℕ) → SmallBound 1002 (corridor_of b role r)
  corridors_small role r =
      corridor_from_small role r b.bundles (offsets_of b) (offsets_small b.bundles 31 (record { input = bounded.None; output = bounded.None }) (omega arith) (omega (arith, good.few)) (tt, tt))

  -- ---- bounds
  pub route_small : (m : Member) → Every (λ (p : Point). Small 30 p.x) (route_of b routes m)
  route_small m = every_get_d (Every (λ (p : Point). Small 30 p.x)) routes [] m.edge good.points tt

  first_small : (ps : Route) → Every (λ (p : Point). Small 30 p.x) ps → SmallBound 30 (first_x ps)
  first_small [] e = tt
  first_small (p ∷ ps) e = e.0

  end_small : (ps : Route) → Every (λ (p : Point). Small 30 p.x) ps → SmallBound 30 (last_x ps)
  unfolding last_x
  end_small [] e = tt
  end_small (p ∷ []) e = e.0
  end_small (p ∷ q ∷ ps) e = end_small (q ∷ ps) e.1

  map_small : (j k : ℕ) (f : Float → Float) (o : Bound) → SmallBound j o → ((x : Float) → Small j x → Small k (f x)) → SmallBound k (map_bound f o)
  map_small j k f bounded.None s g = tt
  map_small j k f (bounded.At x) s g = g x s

  reach_small : (role : Role) (m : Member) → SmallBound 1002 (reach b routes role m)
  reach_small Input m =
      map_small 30 1002 (λ x. lowered (x ⊖ b.options.member_endpoint_reserve) (corridor_of b Output m.edge)) (last_x (route_of b routes m)) (end_small (route_of b routes m) (route_small m))
      (λ x s. lowered_small 1002 (x ⊖ b.options.member_endpoint_reserve) (corridor_of b Output m.edge)
      (wider 31 1002 (x ⊖ b.options.member_endpoint_reserve) (omega arith) (sub_small 30 20 30 x b.options.member_endpoint_reserve (omega arith) (omega arith) (omega arith) s good.reserve)) (corridors_small Output m.edge))
  reach_small Output m =
      map_small 30 1002 (λ x. raised (x ⊕ b.options.member_endpoint_reserve) (corridor_of b Input m.edge)) (first_x (route_of b routes m)) (first_small (route_of b routes m) (route_small m))
      (λ x s. raised_small 1002 (x ⊕ b.options.member_endpoint_reserve) (corridor_of b Input m.edge)
      (wider 31 1002 (x ⊕ b.options.member_endpoint_reserve) (omega arith) (add_small 30 20 30 x b.options.member_endpoint_reserve (omega arith) (omega arith) (omega arith) s good.reserve)) (corridors_small Input m.edge))

  tighter_small : (role : Role) (o : Bound) (x : Float) → SmallBound 1002 o → Small 1002 x → Small 1002 (tighter role o x)
  tighter_small Input bounded.None x s t = t
  tighter_small Output bounded.None x s t = t
  tighter_small Input (bounded.At d) x s t = least_small 1002 d x s t
  tighter_small Output (bounded.At d) x s t = greatest_small 1002 d x s t

  reach_all_small : (role : Role) (o : Bound) (ms : List Member) → SmallBound 1002 o → SmallBound 1002 (reach_all b routes role o ms)
  unfolding reach_all
  reach_all_small role o [] s = s
  reach_all_small role o (m ∷ ms) s = go (reach b routes role m) (reach_small role m) (λ x t. reach_all_small role (bounded.At (tighter role o x)) ms (tighter_small role o x s t))
    where
      go : (r : Bound) → SmallBound 1002 r → ((x : Float) → Small 1002 x → SmallBound 1002 (reach_all b routes role (bounded.At (tighter role o x)) ms))
          → SmallBound 1002 (if_at r bounded.None (λ x. reach_all b routes role (bounded.At (tighter role o x)) ms))
      go bounded.None s f = tt
      go (bounded.At x) s f = f x s

  abbrev pub FairRange : Role → Option Bounds → Type 0
  FairRange role None = Unit {0}
  FairRange role (Some r) = Fair role r

  clamped_real : (d low high : Float) → Real d → Real low → Real high → Real (clamped d low high)
  clamped_real d low high r s t = either (lt high (greatest d low)) high (greatest d low) Real t (either (lt d low) low d Real s r)

  -- d lies past the end that is the better one
  crossed_fair : (role : Role) (low d high : Float) → Real low → Real d → Real high → UpTo role (far role low high) d → FairRange role (unless_crossed low d high)
  crossed_fair role low d high s r t a = go (lt high low) refl
    where
      g : Real (greatest d low)
      g = either (lt d low) low d Real s r

      up : T (le low high) → T (le low (clamped d low high))
      up h = le_least low (greatest d low) high (le_greatest_right d low r.0 s.0) h

      aim : (k : Role) → UpTo k (far k low high) d → UpTo k (far k low high) (clamped d low high)
      aim Input a = le_least high (greatest d low) high (le_trans_finite high d (greatest d low) t.0 r.0 g.0 a (le_greatest_left d low r.0 s.0)) (le_refl_finite high t.0)
      aim Output a =
          le_trans_finite (clamped d low high) (greatest d low) low (clamped_real d low high r s t).0 g.0 s.0 (least_le_left (greatest d low) high g.0 t.0)
          (greatest_le low d low a (le_refl_finite low s.0))

      meets : (k : Role) → T (le low high) → UpTo k (far k low high) (clamped d low high) → T (eq (clamped d low high) (far k low high))
      meets Input h a = le_antisymm_finite (clamped d low high) high (clamped_real d low high r s t).0 t.0 (least_le_right (greatest d low) high g.0 t.0) a
      meets Output h a = le_antisymm_finite (clamped d low high) low (clamped_real d low high r s t).0 s.0 a (up h)

      go : (p : Bool) → lt high low ≡ p → FairRange role (cond p None (Some (record { minimum = low; desired = clamped d low high; maximum = high })))
      go true e = tt
      go false e =
          let h : T (le low high) = not_lt→le high low t.0 s.0 (subst (λ (z : Bool). T (not z)) (sym e) tt) in
          record {
            minimum_real = s;
            desired_real = clamped_real d low high r s t;
            maximum_real = t;
            ordered = h;
            aimed = meets role h (aim role a);
          }

  lowered_under : (d : Float) (o : Bound) → Small 1002 d → SmallBound 1002 o → T (le (lowered d o) d)
  lowered_under d bounded.None s t = le_refl_finite d s.0.is_finite
  lowered_under d (bounded.At y) s t = least_le_left d y s.0.is_finite t.0.is_finite

  raised_over : (d : Float) (o : Bound) → Small 1002 d → SmallBound 1002 o → T (le d (raised d o))
  raised_over d bounded.None s t = le_refl_finite d s.0.is_finite
  raised_over d (bounded.At y) s t = le_greatest_left d y s.0.is_finite t.0.is_finite

  between_fair : (u : Bundle) (lower upper : Bound) → SmallBound 1002 lower → SmallBound 1002 upper → (role : Role) (d : Float) → Small 1002 d → FairRange role (between b u lower upper role d)
  between_fair u lower upper sl su Input d s =
      let e = (endpoint_of b u).x ⊕ rail_depth b.options ⊕ parting_pitch b in
      let t : Small 33 e =
      add_small 32 20 32 ((endpoint_of b u).x ⊕ rail_depth b.options) (parting_pitch b) (omega arith) (omega arith) (omega arith)
      (add_small 31 21 31 (endpoint_of b u).x (rail_depth b.options) (omega arith) (omega arith) (omega arith) (endpoint_small u) rail_small) pitch_small in
      crossed_fair Input (raised e lower) d (lowered d upper) (small_real 1002 (raised e lower) (raised_small 1002 e lower (wider 33 1002 e (omega arith) t) sl)) (small_real 1002 d s)
      (small_real 1002 (lowered d upper) (lowered_small 1002 d upper s su)) (lowered_under d upper s su)
  between_fair u lower upper sl su Output d s =
      let e = (endpoint_of b u).x ⊖ rail_depth b.options ⊖ parting_pitch b in
      let t : Small 33 e =
      sub_small 32 20 32 ((endpoint_of b u).x ⊖ rail_depth b.options) (parting_pitch b) (omega arith) (omega arith) (omega arith)
      (sub_small 31 21 31 (endpoint_of b u).x (rail_depth b.options) (omega arith) (omega arith) (omega arith) (endpoint_small u) rail_small) pitch_small in
      crossed_fair Output (raised d lower) d (lowered e upper) (small_real 1002 (raised d lower) (raised_small 1002 d lower s sl)) (small_real 1002 d s)
      (small_real 1002 (lowered e upper) (lowered_small 1002 e upper (wider 33 1002 e (omega arith) t) su)) (raised_over d lower s sl)

  -- the bounds of a bundle are numbers, and the desired x is the better of them
  pub bounds_fair : (u : Bundle) (lower upper : Bound) → SmallBound 1002 lower → SmallBound 1002 upper → FairRange u.role (bounds_of b routes u lower upper)
  unfolding bounds_of
  bounds_fair u lower upper sl su = go (leb u.width 1) (leb u.count 1) (reach_all b routes u.role bounded.None (members_in b u)) (reach_all_small u.role bounded.None (members_in b u) tt)
    where
      go : (s t : Bool) (r : Bound) → SmallBound 1002 r → FairRange u.role (cond s None (cond t None (if_at r None (between b u lower upper u.role))))
      go true t r h = tt
      go false true r h = tt
      go false false bounded.None h = tt
      go false false (bounded.At d) h = between_fair u lower upper sl su u.role d h

  -- ---- stretches
  from_to_real : (low high : Float) → Real low → Real high → RealStretch (from_to low high)
  from_to_real low high r s = go (le low high)
    where
      go : (t : Bool) → RealStretch (cond t (Some (low, high)) None)
      go true = (r, s)
      go false = tt

  shortened_real : (role : Role) (x y : Float) → Small 30 x → Small 30 y → RealStretch (shortened role (parting_pitch b) x y)
  shortened_real Input x y s t = from_to_real x (y ⊖ parting_pitch b) (small_real 30 x s) (small_real 31 (y ⊖ parting_pitch b) (sub_small 30 20 30 y (parting_pitch b) (omega arith) (omega arith) (omega arith) t pitch_small))
  shortened_real Output x y s t = from_to_real (x ⊕ parting_pitch b) y (small_real 31 (x ⊕ parting_pitch b) (add_small 30 20 30 x (parting_pitch b) (omega arith) (omega arith) (omega arith) s pitch_small)) (small_real 30 y t)

  stretch_real : (role : Role) (p q : Point) → Small 30 p.x → Small 30 q.x → RealStretch (stretch role (parting_pitch b) p q)
  stretch_real role p q s t = go (Ieee.ne p.y q.y) (Ieee.le q.x p.x) (shortened role (parting_pitch b) p.x q.x) (shortened_real role p.x q.x s t)
    where
      go : (c d : Bool) (e : Option (Float × Float)) → RealStretch e → RealStretch (cond c None (cond d None e))
      go true d e h = tt
      go false true e h = tt
      go false false e h = h

  stretches_real : (role : Role) (ps : Route) → Every (λ (q : Point). Small 30 q.x) ps → Every RealStretch (stretches role (parting_pitch b) (runs ps))
  unfolding stretches runs
  stretches_real role [] e = tt
  stretches_real role (p ∷ []) e = tt
  stretches_real role (p ∷ q ∷ ps) e = (stretch_real role p q e.0 e.1.0, stretches_real role (q ∷ ps) e.1)

  all_real : (role : Role) (ms : List Member) → Every (Every RealStretch) (members role (parting_pitch b) (map (route_of b routes) ms))
  unfolding members
  all_real role [] = tt
  all_real role (m ∷ ms) = (stretches_real role (route_of b routes m) (route_small m), all_real role ms)

  pub trunks_real : (u : Bundle) → Every (Every RealStretch) (trunks b routes u)
  trunks_real u = all_real u.role (members_in b u)
