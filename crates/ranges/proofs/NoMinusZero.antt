-- No offset, no corridor and no planned x is minus zero, where no number of the board is. Whatever was granted, and whether collectors of one role are separated or not.
-- Assumes nothing.
use Rattle.std.specs.Prelude.{◌≡◌, ℕ, ◌+◌, Bool, cond, T, eqb, Float, Option, Some, None}
use Rattle.std.proofs.Math.Bool.{true, false}
use mathlib.Core.List.{List, [], ◌∷◌, map}
use Rattle.std.specs.Float.Ieee.{binary64, lt, fits, ne, le, sub, add}
use Rattle.std.specs.Float.Ieee.Fits.{add-fits, mul-fits}
use Rattle.binary64.specs.Bools.{either}
use Rattle.binary64.specs.Accepted.{zero64}
use Rattle.geometry.specs.declared.Point.{Point}
use Rattle.geometry.specs.declared.Side.{Side}
use Rattle.geometry.specs.declared.Side.TheVariants.{North, East, South, West}
use Rattle.geometry.specs.declared.Role.{Role}
use Rattle.geometry.specs.declared.Role.TheVariants.{Input, Output}
use Rattle.geometry.specs.Points.{Route, runs}
use Rattle.geometry.specs.Port.{port_point}
use Rattle.geometry.specs.Stretch.{from_to, shortened, stretch}
use Rattle.board.specs.declared.PlacedNode.{PlacedNode}
use Rattle.board.specs.declared.Bundle.{Bundle}
use Rattle.board.specs.declared.Member.{Member}
use Rattle.board.specs.Board.{Board, rail_depth}
use Rattle.search.specs.Search.{search_of}
use Rattle.search.specs.Stretches.{stretches, members}
use Rattle.sorting.specs.Sorted.{every_map, every_get_d}
use Rattle.sorting.specs.Lists.{Every}
use Rattle.plan.specs.declared.Used.{Used}
use Rattle.plan.specs.declared.Bound.{Bound}
use Rattle.plan.specs.declared.Bound.TheVariants as bounded
use Rattle.plan.specs.Depths.{◌⊕◌, ◌⊖◌, number, same_role, no_node, port_of, node_of, endpoint_of, members_in, parting_pitch, inward, lanes, boundary_depth, lane_count, offset_past, last_depth, further, used_by, used, offset_of, used_after, offsets_from, offsets_of, corridor_x, corridor_among, first_of, corridor_from, corridor_of}
use Rattle.plan.specs.Bounds.{route_of, trunks}
use Rattle.plan.specs.Plan.{Plan, going, plan_of}
use Rattle.plan.proofs.SmallNumbers.{Numbers}
use Rattle.plan.proofs.Numbers.{pitch_small, rail_small, port_small}
use Rattle.plan.proofs.CarriedNumbers.{Windowed, OfBound, Traits}
use Rattle.plan.proofs.Carried.{carried}
use Rattle.binary64.proofs.Plain.{Plain, zero_plain, add_plain, sub_plain}
use Rattle.ranges.proofs.Made.{OfStretch, found_made}

-- no number of the board is minus zero
pub record PlainBoard (b : Board) (routes : List Route) : Type 0 where
  pub nodes : Every (λ (n : PlacedNode). Plain n.body.corner.x × Plain n.body.corner.y × Plain n.body.width × Plain n.body.height) b.nodes
  pub points : Every (Every (λ (p : Point). Plain p.x × Plain p.y)) routes

module _ (b : Board) (routes : List Route) (good : Numbers b routes) (plain : PlainBoard b routes) where
  node_plain : (u : Bundle) → Plain (node_of b u).body.corner.x × Plain (node_of b u).body.corner.y × Plain (node_of b u).body.width × Plain (node_of b u).body.height
  node_plain u =
      every_get_d (λ (n : PlacedNode). Plain n.body.corner.x × Plain n.body.corner.y × Plain n.body.width × Plain n.body.height) b.nodes no_node (port_of b u).node plain.nodes
      (zero_plain, zero_plain, zero_plain, zero_plain)

  pub endpoint_plain : (u : Bundle) → Plain (endpoint_of b u).x × Plain (endpoint_of b u).y
  endpoint_plain u = go (port_of b u).side
    where
      n : PlacedNode
      n = node_of b u

      o : Float
      o = (port_of b u).offset

      go : (s : Side) → Plain (port_point n.body s o).x × Plain (port_point n.body s o).y
      go North = (add_plain n.body.corner.x o (node_plain u).0 (port_small b routes good u).1, (node_plain u).1)
      go East = (add_plain n.body.corner.x n.body.width (node_plain u).0 (node_plain u).2.1, add_plain n.body.corner.y o (node_plain u).1 (port_small b routes good u).1)
      go South = (add_plain n.body.corner.x o (node_plain u).0 (port_small b routes good u).1, add_plain n.body.corner.y n.body.height (node_plain u).1 (node_plain u).3.1)
      go West = ((node_plain u).0, add_plain n.body.corner.y o (node_plain u).1 (port_small b routes good u).1)

  pub inward_plain : (role : Role) (x d : Float) → Plain x → T (fits binary64 d) → Plain (inward role x d)
  inward_plain Input x d p f = add_plain x d p f
  inward_plain Output x d p f = sub_plain x d p f

  -- ---- offsets and corridors
  depth_plain : (u : Bundle) → Plain (boundary_depth b u)
  depth_plain u = add_plain (node_of b u).body.width (rail_depth b.options) (node_plain u).2 (rail_small b routes good).1

  offset_plain : (u : Bundle) (o : Bound) → OfBound Plain o → Plain (offset_past b u o)
  offset_plain u bounded.None s = zero_plain
  offset_plain u (bounded.At w) s =
      let pitch = parting_pitch b in
      let d = (w ⊕ pitch) ⊖ (boundary_depth b u ⊕ pitch) in
      either (lt d zero64) zero64 d Plain zero_plain (sub_plain (w ⊕ pitch) (boundary_depth b u ⊕ pitch) (add_plain w pitch s (pitch_small b routes good).1) (add-fits binary64 (boundary_depth b u) pitch))

  last_plain : (u : Bundle) (offset : Float) → Plain offset → Plain (last_depth b u offset)
  last_plain u offset s =
      let k = lane_count (members_in b u) in
      add_plain (boundary_depth b u ⊕ offset) (lanes b u k) (add_plain (boundary_depth b u) offset (depth_plain u) s.1) (mul-fits binary64 (number k) (parting_pitch b))

  abbrev PlainUsed : Used → Type 0
  PlainUsed w = OfBound Plain w.input × OfBound Plain w.output

  used_by_plain : (role : Role) (w : Used) → PlainUsed w → OfBound Plain (used_by role w)
  used_by_plain Input w s = s.0
  used_by_plain Output w s = s.1

  used_plain : (role : Role) (o : Bound) (w : Used) → OfBound Plain o → PlainUsed w → PlainUsed (used role o w)
  used_plain Input o w s t = (s, t.1)
  used_plain Output o w s t = (t.0, s)

  further_plain : (o : Bound) (d : Float) → OfBound Plain o → Plain d → OfBound Plain (further o d)
  further_plain bounded.None d s t = t
  further_plain (bounded.At w) d s t = either (lt w d) d w Plain t s

  offsets_from_plain : (us : List Bundle) (w : Used) → PlainUsed w → Every Plain (offsets_from b us w)
  unfolding offsets_from
  offsets_from_plain [] w s = tt
  offsets_from_plain (u ∷ us) w s =
      let o = offset_of b u w in
      let q = used_by_plain u.role w s in
      let p : Plain o = offset_plain u (used_by u.role w) q in
      (p, offsets_from_plain us (used_after b u w) (used_plain u.role (further (used_by u.role w) (last_depth b u o)) w (further_plain (used_by u.role w) (last_depth b u o) q (last_plain u o p)) s))

  pub offsets_plain : Every Plain (offsets_of b)
  offsets_plain = offsets_from_plain b.bundles (record { input = bounded.None; output = bounded.None }) (tt, tt)

  among_plain : (u : Bundle) (offset : Float) (e : ℕ) (ms : List Member) → Plain offset → OfBound Plain (corridor_among b u offset e ms)
  unfolding corridor_among
  among_plain u offset e [] s = tt
  among_plain u offset e (m ∷ ms) s = go (eqb m.edge e) (among_plain u offset e ms s)
    where
      go : (t : Bool) → OfBound Plain (corridor_among b u offset e ms) → OfBound Plain (cond t (bounded.At (corridor_x b u offset m)) (corridor_among b u offset e ms))
      go true k =
          let l = lanes b u (m.tap_lane + 1) in
          inward_plain u.role (inward u.role (endpoint_of b u).x (rail_depth b.options)) (offset ⊕ l)
          (inward_plain u.role (endpoint_of b u).x (rail_depth b.options) (endpoint_plain u).0 (rail_small b routes good).1) (add-fits binary64 offset l)
      go false k = k

  from_plain : (role : Role) (e : ℕ) (us : List Bundle) (ds : List Float) → Every Plain ds → OfBound Plain (corridor_from b role e us ds)
  unfolding corridor_from
  from_plain role e [] ds h = tt
  from_plain role e (u ∷ us) [] h = tt
  from_plain role e (u ∷ us) (d ∷ ds) h =
      go (same_role u.role role) (corridor_among b u d e (members_in b u)) (corridor_from b role e us ds) (among_plain u d e (members_in b u) h.0) (from_plain role e us ds h.1)
    where
      first : (o p : Bound) → OfBound Plain o → OfBound Plain p → OfBound Plain (first_of o p)
      first bounded.None p s t = t
      first (bounded.At x) p s t = s

      go : (t : Bool) (o p : Bound) → OfBound Plain o → OfBound Plain p → OfBound Plain (cond t (first_of o p) p)
      go true o p s t = first o p s t
      go false o p s t = t

  pub corridors_plain : (role : Role) (e : ℕ) → OfBound Plain (corridor_of b role e)
  corridors_plain role e = from_plain role e b.bundles (offsets_of b) offsets_plain

  -- ---- stretches
  from_to_plain : (low high : Float) → Plain low → Plain high → OfStretch Plain (from_to low high)
  from_to_plain low high s t = go (le low high)
    where
      go : (k : Bool) → OfStretch Plain (cond k (Some (low, high)) None)
      go true = (s, t)
      go false = tt

  shortened_plain : (role : Role) (x y : Float) → Plain x → Plain y → OfStretch Plain (shortened role (parting_pitch b) x y)
  shortened_plain Input x y s t = from_to_plain x (sub binary64 y (parting_pitch b)) s (sub_plain y (parting_pitch b) t (pitch_small b routes good).1)
  shortened_plain Output x y s t = from_to_plain (add binary64 x (parting_pitch b)) y (add_plain x (parting_pitch b) s (pitch_small b routes good).1) t

  stretch_plain : (role : Role) (p q : Point) → Plain p.x → Plain q.x → OfStretch Plain (stretch role (parting_pitch b) p q)
  stretch_plain role p q s t = go (ne p.y q.y) (le q.x p.x) (shortened role (parting_pitch b) p.x q.x) (shortened_plain role p.x q.x s t)
    where
      go : (c d : Bool) (e : Option (Float × Float)) → OfStretch Plain e → OfStretch Plain (cond c None (cond d None e))
      go true d e h = tt
      go false true e h = tt
      go false false e h = h

  stretches_plain : (role : Role) (r : Route) → Every (λ (p : Point). Plain p.x × Plain p.y) r → Every (OfStretch Plain) (stretches role (parting_pitch b) (runs r))
  unfolding stretches runs
  stretches_plain role [] e = tt
  stretches_plain role (p ∷ []) e = tt
  stretches_plain role (p ∷ q ∷ r) e = (stretch_plain role p q e.0.0 e.1.0.0, stretches_plain role (q ∷ r) e.1)

  members_plain : (role : Role) (ms : List Member) → Every (Every (OfStretch Plain)) (members role (parting_pitch b) (map (route_of b routes) ms))
  unfolding members
  members_plain role [] = tt
  members_plain role (m ∷ ms) =
      (stretches_plain role (route_of b routes m) (every_get_d (Every (λ (p : Point). Plain p.x × Plain p.y)) routes [] m.edge plain.points tt), members_plain role ms)

  -- ---- the plan
  points_plain : Every (Every (λ (p : Point). Plain p.x)) routes
  points_plain =
      every_map (Every (λ (p : Point). Plain p.x × Plain p.y)) (Every (λ (p : Point). Plain p.x)) routes
      (λ r e. every_map (λ (p : Point). Plain p.x × Plain p.y) (λ (p : Point). Plain p.x) r (λ p h. h.0) e) plain.points

  abbrev traits : Traits search_of b routes
  traits =
      record {
        P = Plain;
        Q = Plain;
        weaker = λ x s. s;
        plus = λ x d f s. add_plain x d s f;
        minus = λ x d f s. sub_plain x d s f;
        none = zero_plain;
        end = λ u. (endpoint_plain u).0;
        points = points_plain;
        corridor = corridors_plain;
        pitch_fits = (pitch_small b routes good).1;
        rail_fits = (rail_small b routes good).1;
        reserve_fits = good.reserve.1;
        found = λ u r v w h s. found_made Plain u.role r (trunks b routes u) v s (members_plain u.role (members_in b u));
      }

  pub planned_plain : (separate : Bool) (v : ℕ) → Every (Windowed b) b.bundles → (p : Plan) → plan_of b routes separate v ≡ going p → Every (OfBound Plain) p.xs
  planned_plain separate v w p e = (carried search_of b routes traits separate v w p e).0
