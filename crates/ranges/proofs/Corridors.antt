-- On a board within the limits of a job every offset and every corridor is below 2 ^ 34: the depth in use grows by at most 256 lanes of 2 ^ 20 and 2 a bundle. No whole number is crossed by rounding, so what is added to reach the pitch's next lane is taken off again up to 1.
-- Assumes nothing.
use Rattle.std.specs.Prelude.{◌≡◌, ℕ, suc, ◌+◌, ◌-◌, ◌*◌, ◌^◌, ◌≤◌, Bool, cond, T, eqb, length}
use Rattle.std.proofs.Math.Path.{refl}
use Rattle.std.proofs.Common.{le_trans, mul-one, zero-mul, le_of_mul-le-mul_right, arith}
use Rattle.std.proofs.Math.Bool.{true, false}
use mathlib.Core.List.{List, [], ◌∷◌}
use Rattle.std.specs.Float.Ieee.{Float, lt, le}
use Rattle.std.specs.Float.Ieee.Positive.{den, den_pos}
use Rattle.std.specs.Float.Ieee.Scale.{finite}
use Rattle.limits.specs.Limits.{max_lane}
use Rattle.binary64.specs.Order.{greatest}
use Rattle.binary64.proofs.Sign.{true→T, false→T}
use Rattle.binary64.specs.Accepted.{zero64}
use Rattle.binary64.specs.Value.{over, under, le→at_most, lt→le, le_trans_finite, le_greatest_left, not_lt→le}
use Rattle.binary64.specs.Range.{Bounded, Held, held_small, bounded_mono, add_bounded, sub_bounded, greatest_bounded}
use Rattle.geometry.specs.declared.Role.{Role}
use Rattle.geometry.specs.declared.Role.TheVariants.{Input, Output}
use Rattle.geometry.specs.Points.{Route}
use Rattle.board.specs.declared.PlacedNode.{PlacedNode}
use Rattle.board.specs.declared.Bundle.{Bundle}
use Rattle.board.specs.declared.Member.{Member}
use Rattle.board.specs.Board.{Board, rail_depth}
use Rattle.sorting.specs.Lists.{Every}
use Rattle.sorting.specs.Sorted.{every_get_d}
use Rattle.plan.specs.declared.Used.{Used}
use Rattle.plan.specs.declared.Bound.{Bound}
use Rattle.plan.specs.declared.Bound.TheVariants.{None, At}
use Rattle.plan.specs.Depths.{◌⊕◌, ◌⊖◌, same_role, no_node, port_of, node_of, endpoint_of, members_in, parting_pitch, inward, lanes, boundary_depth, lane_count, offset_past, last_depth, further, used_by, used, offset_of, used_after, offsets_from, offsets_of, corridor_x, corridor_among, first_of, corridor_from, corridor_of}
use Rattle.plan.proofs.SmallNumbers.{Numbers, lane_count_small}
use Rattle.plan.proofs.Numbers.{members_good, pitch_small, rail_small, lanes_small, node_small, endpoint_small}
use Rattle.plan.proofs.CarriedNumbers.{OfBound}
use Rattle.ranges.proofs.WholeBounds.{AtMostℕ, AtLeastℕ, bounded_at_most, bounded_between, add_at_most, add_at_least, sub_at_most, floor}

-- finite, with a magnitude below 2 ^ k
abbrev pub Below : ℕ → Float → Type 0
Below k x = Bounded (2 ^ k - 1) x

-- the sizes and options of a job are not below zero
pub record Signs (b : Board) : Type 0 where
  pub stub : T (le zero64 b.options.port_stub)
  pub gap : T (le zero64 b.options.route_lane_gap)
  pub widths : Every (λ (n : PlacedNode). T (le zero64 n.body.width)) b.nodes

pub from_zero : (x : Float) → T (finite x) → T (le zero64 x) → AtLeastℕ 0 x
from_zero x f h = let a = le→at_most zero64 x tt f h in omega (arith, zero-mul (den x), mul-one (over x), mul-one (under x))

pub zero_bounded : (n : ℕ) → Bounded n zero64
zero_bounded n = record { is_finite = tt; size = omega arith }

pub held : (n : ℕ) → n ≤ 68719476736 → Held n
held n h = held_small n (omega arith)

-- a whole number below x is below one above x
crossed : (n m : ℕ) (x : Float) → AtLeastℕ n x → AtMostℕ m x → n ≤ m
crossed n m x h k = let g : n * den x ≤ m * den x = omega arith in le_of_mul-le-mul_right g (den_pos x)

module _ (b : Board) (routes : List Route) (good : Numbers b routes) (signs : Signs b) where
  abbrev pitch : Float
  pitch = parting_pitch b

  pub pitch_not_below : T (le zero64 pitch)
  pitch_not_below =
      let o = b.options in
      let g = good.gap.0.is_finite in
      le_trans_finite zero64 o.route_lane_gap pitch tt g (pitch_small b routes good).0.is_finite signs.gap (le_greatest_left o.route_lane_gap o.minimum_parallel_wire_spacing g good.spacing.0.is_finite)

  pitch_from_zero : AtLeastℕ 0 pitch
  pitch_from_zero = from_zero pitch (pitch_small b routes good).0.is_finite pitch_not_below

  rail_from_zero : AtLeastℕ 0 (rail_depth b.options)
  unfolding rail_depth
  rail_from_zero = go (lt zero64 clearance) refl
    where
      clearance : Float
      clearance = b.options.edge_node_clearance

      stub : Float
      stub = b.options.port_stub

      gap : Float
      gap = b.options.route_lane_gap

      go : (t : Bool) → lt zero64 clearance ≡ t → AtLeastℕ 0 (cond t clearance (stub ⊕ gap))
      go true e = from_zero clearance good.clearance.0.is_finite (lt→le zero64 clearance (true→T (lt zero64 clearance) e))
      go false e =
          let s = good.stub.0 in
          let g = good.gap.0 in
          add_at_least 0 0 stub gap s.is_finite g.is_finite (add_bounded 1048576 1048576 stub gap (held 2097152 (omega arith)) s g).is_finite (omega arith) (from_zero stub s.is_finite signs.stub) (from_zero gap g.is_finite signs.gap)

  width_from_zero : (u : Bundle) → AtLeastℕ 0 (node_of b u).body.width
  width_from_zero u =
      from_zero (node_of b u).body.width (node_small b routes good u).1.0.is_finite
      (every_get_d (λ (n : PlacedNode). T (le zero64 n.body.width)) b.nodes no_node (port_of b u).node signs.widths (unfold le in tt))

  -- a node's width and the rail: at most 2 ^ 30 + 2 ^ 21
  depth_bounded : (u : Bundle) → Bounded 1075838976 (boundary_depth b u)
  depth_bounded u = add_bounded 1073741824 2097152 (node_of b u).body.width (rail_depth b.options) (held 1075838976 (omega arith)) (node_small b routes good u).1.0 (rail_small b routes good).0

  depth_from_zero : (u : Bundle) → AtLeastℕ 0 (boundary_depth b u)
  depth_from_zero u =
      add_at_least 0 0 (node_of b u).body.width (rail_depth b.options) (node_small b routes good u).1.0.is_finite (rail_small b routes good).0.is_finite (depth_bounded u).is_finite (omega arith) (width_from_zero u) rail_from_zero

  -- ---- one offset

  -- an offset past a depth in use of at most n: it reaches from the bundle's own depth to n, up to 2
  pub record Past (u : Bundle) (n : ℕ) (offset : Float) : Type 0 where
    pub size : Bounded (n + 1) offset
    pub reach : Bounded (n + 2) (boundary_depth b u ⊕ offset)

  past_none : (u : Bundle) (n : ℕ) → 1075838976 ≤ n → n ≤ 17179869184 → Past u n zero64
  past_none u n l h = record {
    size = zero_bounded (n + 1);
    reach = bounded_mono 1075838976 (n + 2) (boundary_depth b u ⊕ zero64) (omega arith) (add_bounded 1075838976 0 (boundary_depth b u) zero64 (held 1075838976 (omega arith)) (depth_bounded u) (zero_bounded 0));
  }

  past_at : (u : Bundle) (n : ℕ) (w : Float) → 1075838976 ≤ n → n ≤ 17179869184 → Bounded n w → Past u n (offset_past b u (At w))
  past_at u n w l h s =
      let depth = boundary_depth b u in
      let D = depth_bounded u in
      let q = (pitch_small b routes good).0 in
      let d = floor depth (depth_from_zero u) in
      let p = floor pitch pitch_from_zero in
      let k : d.n ≤ n = le_trans (crossed d.n 1075838976 depth d.from (bounded_at_most 1075838976 depth D)) l in
      let r : p.n ≤ 1048576 = crossed p.n 1048576 pitch p.from (bounded_at_most 1048576 pitch q) in
      let c = n + 1 - d.n in
      let x = w ⊕ pitch in
      let y = depth ⊕ pitch in
      let X : Bounded (n + 1048576) x = add_bounded n 1048576 w pitch (held (n + 1048576) (omega arith)) s q in
      let Y : Bounded 1076887552 y = add_bounded 1075838976 1048576 depth pitch (held 1076887552 (omega arith)) D q in
      let Z : Bounded (n + 1048576 + 1076887552) (x ⊖ y) = sub_bounded (n + 1048576) 1076887552 x y (held (n + 1048576 + 1076887552) (omega arith)) X Y in
      let most : AtMostℕ c (x ⊖ y) =
      sub_at_most (n + suc p.n) (d.n + p.n) c x y X.is_finite Y.is_finite Z.is_finite (omega arith) (omega arith)
      (add_at_most n (suc p.n) w pitch s.is_finite q.is_finite X.is_finite (omega arith) (bounded_at_most n w s) p.to)
      (add_at_least d.n p.n depth pitch D.is_finite q.is_finite Y.is_finite (omega arith) d.from p.from) in
      let o : Bounded c (greatest (x ⊖ y) zero64) = go c (x ⊖ y) Z.is_finite most (lt (x ⊖ y) zero64) refl in
      let e : Bounded (suc d.n) depth = bounded_between (suc d.n) depth D.is_finite (depth_from_zero u) d.to in
      record {
        size = bounded_mono c (n + 1) (greatest (x ⊖ y) zero64) (omega arith) o;
        reach = bounded_mono (suc d.n + c) (n + 2) (depth ⊕ greatest (x ⊖ y) zero64) (omega arith) (add_bounded (suc d.n) c depth (greatest (x ⊖ y) zero64) (held (suc d.n + c) (omega arith)) e o);
      }
    where
      go : (c : ℕ) (z : Float) → T (finite z) → AtMostℕ c z → (t : Bool) → lt z zero64 ≡ t → Bounded c (cond t zero64 z)
      go c z f m true e = zero_bounded c
      go c z f m false e = bounded_between c z f (from_zero z f (not_lt→le z zero64 f tt (false→T (lt z zero64) e))) m

  past : (u : Bundle) (n : ℕ) (o : Bound) → 1075838976 ≤ n → n ≤ 17179869184 → OfBound (Bounded n) o → Past u n (offset_past b u o)
  past u n None l h s = past_none u n l h
  past u n (At w) l h s = past_at u n w l h s

  -- ---- all offsets

  last_bounded : (u : Bundle) (n : ℕ) (offset : Float) → n ≤ 17179869184 → Past u n offset → Bounded (n + 268435458) (last_depth b u offset)
  last_bounded u n offset h s =
      let k = lane_count (members_in b u) in
      bounded_mono (n + 2 + 268435456) (n + 268435458) (last_depth b u offset) (omega arith)
      (add_bounded (n + 2) 268435456 (boundary_depth b u ⊕ offset) (lanes b u k) (held (n + 2 + 268435456) (omega arith)) s.reach
      (lanes_small b routes good u k (lane_count_small (members_in b u) (members_good b routes good u))).0)

  abbrev UsedUpTo : ℕ → Used → Type 0
  UsedUpTo n w = OfBound (Bounded n) w.input × OfBound (Bounded n) w.output

  wider : (m n : ℕ) (o : Bound) → m ≤ n → OfBound (Bounded m) o → OfBound (Bounded n) o
  wider m n None h s = tt
  wider m n (At x) h s = bounded_mono m n x h s

  used_by_bounded : (role : Role) (n : ℕ) (w : Used) → UsedUpTo n w → OfBound (Bounded n) (used_by role w)
  used_by_bounded Input n w s = s.0
  used_by_bounded Output n w s = s.1

  used_bounded : (role : Role) (m n : ℕ) (o : Bound) (w : Used) → m ≤ n → OfBound (Bounded n) o → UsedUpTo m w → UsedUpTo n (used role o w)
  used_bounded Input m n o w h s t = (s, wider m n w.output h t.1)
  used_bounded Output m n o w h s t = (wider m n w.input h t.0, s)

  further_bounded : (n : ℕ) (o : Bound) (d : Float) → OfBound (Bounded n) o → Bounded n d → OfBound (Bounded n) (further o d)
  further_bounded n None d s t = t
  further_bounded n (At w) d s t = greatest_bounded n w d s t

  offsets_within : (top : ℕ) (us : List Bundle) (n : ℕ) (w : Used) → 1075838976 ≤ n → n + 268435458 * length us ≤ top → top ≤ 17179869184 → UsedUpTo n w → Every (Bounded top) (offsets_from b us w)
  unfolding offsets_from
  offsets_within top [] n w l h t s = tt
  offsets_within top (u ∷ us) n w l h t s =
      let o = offset_of b u w in
      let p : Past u n o = past u n (used_by u.role w) l (omega arith) (used_by_bounded u.role n w s) in
      let m = n + 268435458 in (
        bounded_mono (n + 1) top o (omega arith) p.size,
        offsets_within top us m (used_after b u w) (omega arith) (omega arith) t
            (used_bounded u.role n m (further (used_by u.role w) (last_depth b u o)) w (omega arith)
            (further_bounded m (used_by u.role w) (last_depth b u o) (wider n m (used_by u.role w) (omega arith) (used_by_bounded u.role n w s)) (last_bounded u n o (omega arith) p)) s),
      )

  -- 2 ^ 30 + 2 ^ 21 + 32 * (2 ^ 28 + 2)
  pub offsets_bounded : Every (Bounded 9665773632) (offsets_of b)
  offsets_bounded = offsets_within 9665773632 b.bundles 1075838976 (record { input = None; output = None }) (omega arith) (omega (arith, good.few)) (omega arith) (tt, tt)

  -- ---- corridors

  inward_bounded : (role : Role) (m n : ℕ) (x d : Float) → Held (m + n) → Bounded m x → Bounded n d → Bounded (m + n) (inward role x d)
  inward_bounded Input m n x d h s t = add_bounded m n x d h s t
  inward_bounded Output m n x d h s t = sub_bounded m n x d h s t

  -- the endpoint at most 2 ^ 31 off, the rail 2 ^ 21, the lanes 2 ^ 28
  corridor_bounded : (u : Bundle) (offset : Float) (m : Member) → Bounded 9665773632 offset → m.tap_lane ≤ max_lane → Bounded 12083789888 (corridor_x b u offset m)
  corridor_bounded u offset m s h =
      let l = lanes b u (m.tap_lane + 1) in
      let x = inward u.role (endpoint_of b u).x (rail_depth b.options) in
      inward_bounded u.role 2149580800 9934209088 x (offset ⊕ l) (held 12083789888 (omega arith))
      (inward_bounded u.role 2147483648 2097152 (endpoint_of b u).x (rail_depth b.options) (held 2149580800 (omega arith)) (endpoint_small b routes good u).0 (rail_small b routes good).0)
      (add_bounded 9665773632 268435456 offset l (held 9934209088 (omega arith)) s (lanes_small b routes good u (m.tap_lane + 1) (omega arith)).0)

  among_bounded : (u : Bundle) (offset : Float) (e : ℕ) (ms : List Member) → Bounded 9665773632 offset → Every (λ (m : Member). m.tap_lane ≤ max_lane) ms → OfBound (Bounded 12083789888) (corridor_among b u offset e ms)
  unfolding corridor_among
  among_bounded u offset e [] s h = tt
  among_bounded u offset e (m ∷ ms) s h = go (eqb m.edge e) (among_bounded u offset e ms s h.1)
    where
      go : (t : Bool) → OfBound (Bounded 12083789888) (corridor_among b u offset e ms) → OfBound (Bounded 12083789888) (cond t (At (corridor_x b u offset m)) (corridor_among b u offset e ms))
      go true k = corridor_bounded u offset m s h.0
      go false k = k

  from_bounded : (role : Role) (e : ℕ) (us : List Bundle) (ds : List Float) → Every (Bounded 9665773632) ds → OfBound (Bounded 12083789888) (corridor_from b role e us ds)
  unfolding corridor_from
  from_bounded role e [] ds h = tt
  from_bounded role e (u ∷ us) [] h = tt
  from_bounded role e (u ∷ us) (d ∷ ds) h =
      go (same_role u.role role) (corridor_among b u d e (members_in b u)) (corridor_from b role e us ds) (among_bounded u d e (members_in b u) h.0 (members_good b routes good u)) (from_bounded role e us ds h.1)
    where
      first : (o p : Bound) → OfBound (Bounded 12083789888) o → OfBound (Bounded 12083789888) p → OfBound (Bounded 12083789888) (first_of o p)
      first None p s t = t
      first (At x) p s t = s

      go : (t : Bool) (o p : Bound) → OfBound (Bounded 12083789888) o → OfBound (Bounded 12083789888) p → OfBound (Bounded 12083789888) (cond t (first_of o p) p)
      go true o p s t = first o p s t
      go false o p s t = t

  every_wider : (m n : ℕ) (xs : List Float) → m ≤ n → Every (Bounded m) xs → Every (Bounded n) xs
  every_wider m n [] h e = tt
  every_wider m n (x ∷ xs) h e = (bounded_mono m n x h e.0, every_wider m n xs h e.1)

  -- THE RANGE of the offsets and of the corridors
  pub offsets_below : Every (Below 34) (offsets_of b)
  offsets_below = every_wider 9665773632 17179869183 (offsets_of b) (omega arith) offsets_bounded

  pub corridors_below : (role : Role) (e : ℕ) → OfBound (Below 34) (corridor_of b role e)
  corridors_below role e = wider 12083789888 17179869183 (corridor_of b role e) (omega arith) (from_bounded role e b.bundles (offsets_of b) offsets_bounded)
