-- Endpoints, rail depth, offsets and corridors of binary64 on a board of the grid are those in whole numbers, even and in range.
-- Assumes nothing.
use Rattle.std.specs.Prelude.{◌≡◌, ℕ, ◌+◌, ◌*◌, ◌^◌, ◌≤◌, ◌<◌, Bool, ℤ, pos, ◌+ℤ◌, ◌-ℤ◌, ◌*ℤ◌, eqb, length, get_or, drop, Float, Option, Some, None}
use Rattle.std.proofs.Math.Path.{refl, ap}
use Rattle.std.proofs.Common.{sym, ◌∙◌, mul-le-mul, le_refl, arith}
use Rattle.std.proofs.Math.Bool.{true, false, cond}
use mathlib.Core.List.{List, [], ◌∷◌, map}
use Rattle.std.proofs.Math.ListN.{get_or-map}
use Rattle.std.specs.Float.Ieee.{binary64, lt, add, sub, mul}
use Rattle.binary64.specs.Order.{greatest}
use Rattle.geometry.specs.declared.Point.{Point}
use Rattle.geometry.specs.declared.Side.{Side}
use Rattle.geometry.specs.declared.Side.TheVariants.{North, East, South, West}
use Rattle.geometry.specs.declared.Role.{Role}
use Rattle.geometry.specs.declared.Role.TheVariants.{Input, Output}
use Rattle.geometry.specs.Port.{port_point}
use Rattle.board.specs.declared.Bundle.{Bundle}
use Rattle.board.specs.declared.Member.{Member}
use Rattle.board.specs.declared.Port.{Port}
use Rattle.board.specs.declared.PlacedNode.{PlacedNode}
use Rattle.board.specs.Board.{rail_depth}
use Rattle.plan.specs.declared.Bound.{Bound}
use Rattle.plan.specs.declared.Bound.TheVariants.{At}
use Rattle.plan.specs.declared.Used.{Used}
use Rattle.plan.specs.Depths as L
use Rattle.plan.specs.Depths.{same_role, lane_count, number}
use Rattle.grid_plan.specs.Board as Z
use Rattle.grid_plan.specs.Depths as D
use Rattle.grid_plan.proofs.Sized.{zero_sized, wider, sized_add, sized_sub, pick, pick_larger, sized_lanes, lanes_are}
use Rattle.grid_plan.specs.Image.{point, node, placed, port, board, bound}
use Rattle.grid_plan.specs.InnerImage.{used}
use Rattle.binary64.specs.Accepted.{zero64}
use Rattle.binary64.specs.Rational.{less}
use Rattle.plan.proofs.SmallNumbers.{every_take, every_drop, lane_count_small}
use Rattle.sorting.specs.Sorted.{every_get_d}
use Rattle.sorting.specs.Lists.{Every}
use Rattle.grid.specs.On.{on, below}
use Rattle.grid.proofs.OnLaws.{on_zero}
use Rattle.grid.proofs.Operations.{lt_on, on_cond, greatest_on, add_on, sub_on}
use Rattle.grid_plan.specs.Sizes.{Sized, Job, Length, OfOption}
use Rattle.grid_plan.specs.OnGrid.{OnDraftingGrid}

add_sized : {m n : ℕ} (a b : ℤ) → m + n < 2 ^ 53 → Sized m a → Sized n b → add binary64 (on a) (on b) ≡ on (a +ℤ b)
add_sized a b h s t = add_on a b (let p = s.size in let q = t.size in omega arith)

sub_sized : {m n : ℕ} (a b : ℤ) → m + n < 2 ^ 53 → Sized m a → Sized n b → sub binary64 (on a) (on b) ≡ on (a -ℤ b)
sub_sized a b h s t = sub_on a b (let p = s.size in let q = t.size in omega arith)

no_port_on : port Z.no_port ≡ L.no_port
no_port_on = ap (λ (x : Float). record { node = 0; id = 0; side = North; offset = x }) on_zero

no_node_on : placed Z.no_node ≡ L.no_node
no_node_on = ap (λ (x : Float). record { id = 0; body = record { corner = record { x = x; y = x }; width = x; height = x } }) on_zero

pub inward_on : (role : Role) {m n : ℕ} (a b : ℤ) → m + n < 2 ^ 53 → Sized m a → Sized n b → L.inward role (on a) (on b) ≡ on (Z.inward role a b)
inward_on Input a b h s t = add_sized a b h s t
inward_on Output a b h s t = sub_sized a b h s t

pub inward_sized : (role : Role) {m n : ℕ} (a b : ℤ) → Sized m a → Sized n b → Sized (m + n) (Z.inward role a b)
inward_sized Input a b s t = sized_add a b s t
inward_sized Output a b s t = sized_sub a b s t

further_on : (o : Option ℤ) (d : ℤ) → L.further (bound o) (on d) ≡ bound (D.further o d)
further_on None d = refl
further_on (Some w) d = ap At (greatest_on w d)

pub further_of : (P : ℤ → Type 0) (o : Option ℤ) (d : ℤ) → OfOption P o → P d → OfOption P (D.further o d)
further_of P None d s t = t
further_of P (Some w) d s t = pick_larger P w d s t

used_by_on : (role : Role) (w : D.Used) → L.used_by role (used w) ≡ bound (D.used_by role w)
used_by_on Input w = refl
used_by_on Output w = refl

used_on : (role : Role) (o : Option ℤ) (w : D.Used) → L.used role (bound o) (used w) ≡ used (D.used role o w)
used_on Input o w = refl
used_on Output o w = refl

-- a bound on each of the depths in use
abbrev OfUsed : (ℤ → Type 0) → D.Used → Type 0
OfUsed P w = OfOption P w.input × OfOption P w.output

used_by_of : (P : ℤ → Type 0) (role : Role) (w : D.Used) → OfUsed P w → OfOption P (D.used_by role w)
used_by_of P Input w s = s.0
used_by_of P Output w s = s.1

used_of : (P : ℤ → Type 0) (role : Role) (o : Option ℤ) (w : D.Used) → OfOption P o → OfUsed P w → OfUsed P (D.used role o w)
used_of P Input o w s t = (s, t.1)
used_of P Output o w s t = (t.0, s)

wider_option : {m n : ℕ} (o : Option ℤ) → m ≤ n → OfOption (Sized m) o → OfOption (Sized n) o
wider_option None h s = tt
wider_option (Some z) h s = wider h s

wider_used : {m n : ℕ} (w : D.Used) → m ≤ n → OfUsed (Sized m) w → OfUsed (Sized n) w
wider_used w h s = (wider_option w.input h s.0, wider_option w.output h s.1)

module _ (b : Z.Board) (routes : List Z.Route) (good : OnDraftingGrid b routes) where
  -- ---- the options
  pub pitch_on : L.parting_pitch (board b) ≡ on (Z.parting_pitch b)
  pitch_on = greatest_on b.options.gap b.options.spacing

  pub pitch_sized : Sized (2 ^ 27) (Z.parting_pitch b)
  pitch_sized = pick_larger (Sized (2 ^ 27)) b.options.gap b.options.spacing good.gap.0 good.spacing.0

  pub pitch_length : less (Z.parting_pitch b) ≡ 0
  pitch_length = pick_larger (λ (z : ℤ). less z ≡ 0) b.options.gap b.options.spacing good.gap.1 good.spacing.1

  pub rail_on : rail_depth (board b).options ≡ on (Z.rail_depth b.options)
  unfolding rail_depth Z.rail_depth
  rail_on =
      ap (λ (x : Float). cond (lt x (on b.options.clearance)) (on b.options.clearance) (add binary64 (on b.options.stub) (on b.options.gap))) (sym on_zero)
      ∙ ap (λ (t : Bool). cond t (on b.options.clearance) (add binary64 (on b.options.stub) (on b.options.gap))) (lt_on (pos 0) b.options.clearance)
      ∙ ap (λ (x : Float). cond (below (pos 0) b.options.clearance) (on b.options.clearance) x) (add_sized b.options.stub b.options.gap (omega arith) good.stub.0 good.gap.0)
      ∙ on_cond (below (pos 0) b.options.clearance) b.options.clearance (b.options.stub +ℤ b.options.gap)

  pub rail_sized : Sized (2 ^ 28) (Z.rail_depth b.options)
  unfolding Z.rail_depth
  rail_sized =
      pick (Sized (2 ^ 28)) (below (pos 0) b.options.clearance) b.options.clearance (b.options.stub +ℤ b.options.gap)
      (wider (omega arith) good.clearance.0) (wider (omega arith) (sized_add b.options.stub b.options.gap good.stub.0 good.gap.0))

  -- ---- where a bundle's port stands
  port_on : (u : Bundle) → L.port_of (board b) u ≡ port (Z.port_of b u)
  port_on u = ap (get_or (map port b.ports) u.port) (sym no_port_on) ∙ get_or-map port b.ports u.port Z.no_port

  node_on : (u : Bundle) → L.node_of (board b) u ≡ placed (Z.node_of b u)
  node_on u =
      ap (λ (p : Port). get_or (map placed b.nodes) p.node L.no_node) (port_on u)
      ∙ ap (get_or (map placed b.nodes) (Z.port_of b u).node) (sym no_node_on) ∙ get_or-map placed b.nodes (Z.port_of b u).node Z.no_node

  abbrev Placing : Z.PlacedNode → Type 0
  Placing n = Job n.body.corner.x × Job n.body.corner.y × Length n.body.width × Length n.body.height

  node_sized : (u : Bundle) → Placing (Z.node_of b u)
  node_sized u = every_get_d Placing b.nodes Z.no_node (Z.port_of b u).node good.nodes (zero_sized (2 ^ 27), zero_sized (2 ^ 27), (zero_sized (2 ^ 27), refl), (zero_sized (2 ^ 27), refl))

  port_sized : (u : Bundle) → Job (Z.port_of b u).offset
  port_sized u = every_get_d (λ (p : Z.Port). Job p.offset) b.ports Z.no_port u.port good.ports (zero_sized (2 ^ 27))

  pub endpoint_on : (u : Bundle) → L.endpoint_of (board b) u ≡ point (Z.endpoint_of b u)
  endpoint_on u =
      ap (λ (n : PlacedNode). port_point n.body (L.port_of (board b) u).side (L.port_of (board b) u).offset) (node_on u)
      ∙ ap (λ (p : Port). port_point (node (Z.node_of b u).body) p.side p.offset) (port_on u)
      ∙ go (Z.port_of b u).side
    where
      n : Z.PlacedNode
      n = Z.node_of b u

      o : ℤ
      o = (Z.port_of b u).offset

      go : (s : Side) → port_point (node (Z.node_of b u).body) s (on (Z.port_of b u).offset) ≡ point (Z.port_point (Z.node_of b u).body s (Z.port_of b u).offset)
      go North = rw (add_sized (Z.node_of b u).body.corner.x (Z.port_of b u).offset (omega arith) (node_sized u).0 (port_sized u))
      go East = rw (add_sized (Z.node_of b u).body.corner.x (Z.node_of b u).body.width (omega arith) (node_sized u).0 (node_sized u).2.0, add_sized (Z.node_of b u).body.corner.y (Z.port_of b u).offset (omega arith) (node_sized u).1 (port_sized u))
      go South = rw (add_sized (Z.node_of b u).body.corner.x (Z.port_of b u).offset (omega arith) (node_sized u).0 (port_sized u), add_sized (Z.node_of b u).body.corner.y (Z.node_of b u).body.height (omega arith) (node_sized u).1 (node_sized u).3.0)
      go West = rw (add_sized (Z.node_of b u).body.corner.y (Z.port_of b u).offset (omega arith) (node_sized u).1 (port_sized u))

  pub endpoint_sized : (u : Bundle) → Sized (2 ^ 28) (Z.endpoint_of b u).x × Sized (2 ^ 28) (Z.endpoint_of b u).y
  endpoint_sized u = go (Z.port_of b u).side
    where
      go : (s : Side) → Sized (2 ^ 28) (Z.port_point (Z.node_of b u).body s (Z.port_of b u).offset).x × Sized (2 ^ 28) (Z.port_point (Z.node_of b u).body s (Z.port_of b u).offset).y
      go North = (wider (omega arith) (sized_add (Z.node_of b u).body.corner.x (Z.port_of b u).offset (node_sized u).0 (port_sized u)), wider (omega arith) (node_sized u).1)
      go East = (wider (omega arith) (sized_add (Z.node_of b u).body.corner.x (Z.node_of b u).body.width (node_sized u).0 (node_sized u).2.0), wider (omega arith) (sized_add (Z.node_of b u).body.corner.y (Z.port_of b u).offset (node_sized u).1 (port_sized u)))
      go South = (wider (omega arith) (sized_add (Z.node_of b u).body.corner.x (Z.port_of b u).offset (node_sized u).0 (port_sized u)), wider (omega arith) (sized_add (Z.node_of b u).body.corner.y (Z.node_of b u).body.height (node_sized u).1 (node_sized u).3.0))
      go West = (wider (omega arith) (node_sized u).0, wider (omega arith) (sized_add (Z.node_of b u).body.corner.y (Z.port_of b u).offset (node_sized u).1 (port_sized u)))

  -- ---- lanes
  pub members_lanes : (u : Bundle) → Every (λ (m : Member). m.tap_lane ≤ 255) (Z.members_in b u)
  members_lanes u = every_take (λ (m : Member). m.tap_lane ≤ 255) u.count (drop u.first b.members) (every_drop (λ (m : Member). m.tap_lane ≤ 255) u.first b.members good.lanes)

  pub lanes_on : (n : ℕ) → n ≤ 256 → mul binary64 (number n) (on (Z.parting_pitch b)) ≡ on (pos n *ℤ Z.parting_pitch b)
  lanes_on n h = lanes_are n (Z.parting_pitch b) pitch_length (omega arith) (let p = pitch_sized.size in omega arith)

  lanes_sized : (n : ℕ) → n ≤ 256 → Sized (2 ^ 35) (pos n *ℤ Z.parting_pitch b)
  lanes_sized n h = wider (let k : n * 2 ^ 27 ≤ 256 * 2 ^ 27 = mul-le-mul h (le_refl (2 ^ 27)) in omega arith) (sized_lanes n (Z.parting_pitch b) pitch_length pitch_sized)

  -- ---- offsets
  pub depth_on : (u : Bundle) → L.boundary_depth (board b) u ≡ on (D.boundary_depth b u)
  depth_on u =
      ap (λ (n : PlacedNode). add binary64 n.body.width (rail_depth (board b).options)) (node_on u)
      ∙ ap (add binary64 (on (Z.node_of b u).body.width)) rail_on ∙ add_sized (Z.node_of b u).body.width (Z.rail_depth b.options) (omega arith) (node_sized u).2.0 rail_sized

  depth_sized : (u : Bundle) → Sized (2 ^ 29) (D.boundary_depth b u)
  depth_sized u = wider (omega arith) (sized_add (Z.node_of b u).body.width (Z.rail_depth b.options) (node_sized u).2.0 rail_sized)

  past_on : (k : ℕ) (d : ℤ) (o : Option ℤ) → k ≤ 2 ^ 45 → Sized (2 ^ 29) d → OfOption (Sized k) o → L.past (on (Z.parting_pitch b)) (on d) (bound o) ≡ on (D.past (Z.parting_pitch b) d o)
  past_on k d None h s t = sym on_zero
  past_on k d (Some w) h s t =
      let pitch = Z.parting_pitch b in
      ap (λ (x : Float). greatest (sub binary64 x (add binary64 (on d) (on pitch))) zero64) (add_sized w pitch (omega arith) t pitch_sized)
      ∙ ap (λ (x : Float). greatest (sub binary64 (on (w +ℤ pitch)) x) zero64) (add_sized d pitch (omega arith) s pitch_sized)
      ∙ ap (λ (x : Float). greatest x zero64) (sub_sized (w +ℤ pitch) (d +ℤ pitch) (omega arith) (sized_add w pitch t pitch_sized) (sized_add d pitch s pitch_sized))
      ∙ ap (greatest (on ((w +ℤ pitch) -ℤ (d +ℤ pitch)))) (sym on_zero) ∙ greatest_on ((w +ℤ pitch) -ℤ (d +ℤ pitch)) (pos 0)

  past_sized : (k : ℕ) (d : ℤ) (o : Option ℤ) → Sized (2 ^ 29) d → OfOption (Sized k) o → Sized (k + 2 ^ 30) (D.past (Z.parting_pitch b) d o)
  past_sized k d None s t = zero_sized (k + 2 ^ 30)
  past_sized k d (Some w) s t =
      let pitch = Z.parting_pitch b in
      pick_larger (Sized (k + 2 ^ 30)) ((w +ℤ pitch) -ℤ (d +ℤ pitch)) (pos 0)
      (wider (omega arith) (sized_sub (w +ℤ pitch) (d +ℤ pitch) (sized_add w pitch t pitch_sized) (sized_add d pitch s pitch_sized))) (zero_sized (k + 2 ^ 30))

  pub offset_on : (k : ℕ) (u : Bundle) (o : Option ℤ) → k ≤ 2 ^ 45 → OfOption (Sized k) o → L.offset_past (board b) u (bound o) ≡ on (D.offset_past b u o)
  offset_on k u o h s =
      ap (λ (p : Float). L.past p (L.boundary_depth (board b) u) (bound o)) pitch_on
      ∙ ap (λ (p : Float). L.past (on (Z.parting_pitch b)) p (bound o)) (depth_on u) ∙ past_on k (D.boundary_depth b u) o h (depth_sized u) s

  count_small : (u : Bundle) → lane_count (Z.members_in b u) ≤ 256
  count_small u = lane_count_small (Z.members_in b u) (members_lanes u)

  pub last_on : (k : ℕ) (u : Bundle) (offset : ℤ) → k ≤ 2 ^ 45 → Sized k offset → L.last_depth (board b) u (on offset) ≡ on (D.last_depth b u offset)
  last_on k u offset h s =
      let n = lane_count (Z.members_in b u) in
      ap (λ (p : Float). L.lanes_past p (L.boundary_depth (board b) u) (on offset) n) pitch_on
      ∙ ap (λ (p : Float). L.lanes_past (on (Z.parting_pitch b)) p (on offset) n) (depth_on u)
      ∙ ap (λ (x : Float). add binary64 x (mul binary64 (number n) (on (Z.parting_pitch b)))) (add_sized (D.boundary_depth b u) offset (omega arith) (depth_sized u) s)
      ∙ ap (add binary64 (on (D.boundary_depth b u +ℤ offset))) (lanes_on n (count_small u))
      ∙ add_sized (D.boundary_depth b u +ℤ offset) (pos n *ℤ Z.parting_pitch b) (omega arith) (sized_add (D.boundary_depth b u) offset (depth_sized u) s) (lanes_sized n (count_small u))

  last_sized : (k : ℕ) (u : Bundle) (offset : ℤ) → Sized k offset → Sized (k + 2 ^ 36) (D.last_depth b u offset)
  last_sized k u offset s =
      wider (omega arith) (sized_add (D.boundary_depth b u +ℤ offset) (pos (lane_count (Z.members_in b u)) *ℤ Z.parting_pitch b) (sized_add (D.boundary_depth b u) offset (depth_sized u) s) (lanes_sized (lane_count (Z.members_in b u)) (count_small u)))

  -- one bundle uses at most 2 ^ 37 more
  after_on : (k : ℕ) (u : Bundle) (w : D.Used) → k ≤ 2 ^ 44 → OfUsed (Sized k) w → L.used_after (board b) u (used w) ≡ used (D.used_after b u w)
  after_on k u w h s =
      let o = D.used_by u.role w in
      let q : OfOption (Sized k) o = used_by_of (Sized k) u.role w s in
      let d = D.offset_past b u o in
      ap (λ (z : Bound). L.used u.role (L.further z (L.last_depth (board b) u (L.offset_past (board b) u z))) (used w)) (used_by_on u.role w)
      ∙ ap (λ (z : Float). L.used u.role (L.further (bound o) (L.last_depth (board b) u z)) (used w)) (offset_on k u o (omega arith) q)
      ∙ ap (λ (z : Float). L.used u.role (L.further (bound o) z) (used w)) (last_on (k + 2 ^ 30) u d (omega arith) (past_sized k (D.boundary_depth b u) o (depth_sized u) q))
      ∙ ap (λ (z : Bound). L.used u.role z (used w)) (further_on o (D.last_depth b u d)) ∙ used_on u.role (D.further o (D.last_depth b u d)) w

  after_sized : (k : ℕ) (u : Bundle) (w : D.Used) → OfUsed (Sized k) w → OfUsed (Sized (k + 2 ^ 37)) (D.used_after b u w)
  after_sized k u w s =
      let o = D.used_by u.role w in
      let q : OfOption (Sized k) o = used_by_of (Sized k) u.role w s in
      let d = D.offset_past b u o in
      used_of (Sized (k + 2 ^ 37)) u.role (D.further o (D.last_depth b u d)) w
      (further_of (Sized (k + 2 ^ 37)) o (D.last_depth b u d) (wider_option o (omega arith) q) (wider (omega arith) (last_sized (k + 2 ^ 30) u d (past_sized k (D.boundary_depth b u) o (depth_sized u) q))))
      (wider_used w (omega arith) s)

  offsets_from_on : (k : ℕ) (us : List Bundle) (w : D.Used) → k + length us * 2 ^ 37 ≤ 2 ^ 44 → OfUsed (Sized k) w → L.offsets_from (board b) us (used w) ≡ map on (D.offsets_from b us w)
  unfolding L.offsets_from D.offsets_from
  offsets_from_on k [] w h s = refl
  offsets_from_on k (u ∷ us) w h s =
      let o = D.used_by u.role w in
      ap (λ (z : Bound). L.offset_past (board b) u z ∷ L.offsets_from (board b) us (L.used_after (board b) u (used w))) (used_by_on u.role w)
      ∙ ap (λ (z : Float). z ∷ L.offsets_from (board b) us (L.used_after (board b) u (used w))) (offset_on k u o (omega arith) (used_by_of (Sized k) u.role w s))
      ∙ ap (λ (z : Used). on (D.offset_of b u w) ∷ L.offsets_from (board b) us z) (after_on k u w (omega arith) s)
      ∙ ap (λ (l : List Float). on (D.offset_of b u w) ∷ l) (offsets_from_on (k + 2 ^ 37) us (D.used_after b u w) (omega arith) (after_sized k u w s))

  offsets_from_sized : (k : ℕ) (us : List Bundle) (w : D.Used) → k + length us * 2 ^ 37 ≤ 2 ^ 43 → OfUsed (Sized k) w → Every (Sized (2 ^ 44)) (D.offsets_from b us w)
  unfolding D.offsets_from
  offsets_from_sized k [] w h s = tt
  offsets_from_sized k (u ∷ us) w h s =
      (wider (omega arith) (past_sized k (D.boundary_depth b u) (D.used_by u.role w) (depth_sized u) (used_by_of (Sized k) u.role w s)), offsets_from_sized (k + 2 ^ 37) us (D.used_after b u w) (omega arith) (after_sized k u w s))

  bundles_few : length b.bundles * 2 ^ 37 ≤ 2 ^ 42
  bundles_few = let h = good.few in let k : length b.bundles * 2 ^ 37 ≤ 32 * 2 ^ 37 = mul-le-mul h (le_refl (2 ^ 37)) in omega arith

  -- THE OFFSETS
  pub offsets_on : L.offsets_of (board b) ≡ map on (D.offsets_of b)
  offsets_on = offsets_from_on 0 b.bundles (record { input = None; output = None }) (let h = bundles_few in omega arith) (tt, tt)

  pub offsets_sized : Every (Sized (2 ^ 44)) (D.offsets_of b)
  offsets_sized = offsets_from_sized 0 b.bundles (record { input = None; output = None }) (let h = bundles_few in omega arith) (tt, tt)

  -- ---- corridors
  pub corridor_x_on : (u : Bundle) (d : ℤ) (m : Member) → Sized (2 ^ 44) d → m.tap_lane ≤ 255 → L.corridor_x (board b) u (on d) m ≡ on (D.corridor_x b u d m)
  corridor_x_on u d m s h =
      let n = m.tap_lane + 1 in
      let e = (Z.endpoint_of b u).x in
      let rail = Z.rail_depth b.options in
      ap (λ (p : Point). L.inward u.role (L.inward u.role p.x (rail_depth (board b).options)) (add binary64 (on d) (mul binary64 (number n) (L.parting_pitch (board b))))) (endpoint_on u)
      ∙ ap (λ (p : Float). L.inward u.role (L.inward u.role (on e) p) (add binary64 (on d) (mul binary64 (number n) (L.parting_pitch (board b))))) rail_on
      ∙ ap (λ (p : Float). L.inward u.role p (add binary64 (on d) (mul binary64 (number n) (L.parting_pitch (board b))))) (inward_on u.role e rail (omega arith) (endpoint_sized u).0 rail_sized)
      ∙ ap (λ (p : Float). L.inward u.role (on (Z.inward u.role e rail)) (add binary64 (on d) (mul binary64 (number n) p))) pitch_on
      ∙ ap (λ (p : Float). L.inward u.role (on (Z.inward u.role e rail)) (add binary64 (on d) p)) (lanes_on n (omega arith))
      ∙ ap (L.inward u.role (on (Z.inward u.role e rail))) (add_sized d (pos n *ℤ Z.parting_pitch b) (omega arith) s (lanes_sized n (omega arith)))
      ∙ inward_on u.role (Z.inward u.role e rail) (d +ℤ (pos n *ℤ Z.parting_pitch b)) (omega arith) (inward_sized u.role e rail (endpoint_sized u).0 rail_sized) (sized_add d (pos n *ℤ Z.parting_pitch b) s (lanes_sized n (omega arith)))

  corridor_x_sized : (u : Bundle) (d : ℤ) (m : Member) → Sized (2 ^ 44) d → m.tap_lane ≤ 255 → Sized (2 ^ 45) (D.corridor_x b u d m)
  corridor_x_sized u d m s h =
      let n = m.tap_lane + 1 in
      wider (omega arith) (inward_sized u.role (Z.inward u.role (Z.endpoint_of b u).x (Z.rail_depth b.options)) (d +ℤ (pos n *ℤ Z.parting_pitch b))
      (inward_sized u.role (Z.endpoint_of b u).x (Z.rail_depth b.options) (endpoint_sized u).0 rail_sized) (sized_add d (pos n *ℤ Z.parting_pitch b) s (lanes_sized n (omega arith))))

  among_on : (u : Bundle) (d : ℤ) (e : ℕ) (ms : List Member) → Sized (2 ^ 44) d → Every (λ (m : Member). m.tap_lane ≤ 255) ms → L.corridor_among (board b) u (on d) e ms ≡ bound (D.corridor_among b u d e ms)
  unfolding L.corridor_among D.corridor_among
  among_on u d e [] s h = refl
  among_on u d e (m ∷ ms) s h =
      ap (λ (x : Float). cond (eqb m.edge e) (At x) (L.corridor_among (board b) u (on d) e ms)) (corridor_x_on u d m s h.0)
      ∙ ap (λ (o : Bound). cond (eqb m.edge e) (At (on (D.corridor_x b u d m))) o) (among_on u d e ms s h.1)
      ∙ go (eqb m.edge e) (D.corridor_among b u d e ms)
    where
      go : (t : Bool) (o : Option ℤ) → cond t (At (on (D.corridor_x b u d m))) (bound o) ≡ bound (cond t (Some (D.corridor_x b u d m)) o)
      go true o = refl
      go false o = refl

  among_sized : (u : Bundle) (d : ℤ) (e : ℕ) (ms : List Member) → Sized (2 ^ 44) d → Every (λ (m : Member). m.tap_lane ≤ 255) ms → OfOption (Sized (2 ^ 45)) (D.corridor_among b u d e ms)
  unfolding D.corridor_among
  among_sized u d e [] s h = tt
  among_sized u d e (m ∷ ms) s h = go (eqb m.edge e) (D.corridor_among b u d e ms) (among_sized u d e ms s h.1)
    where
      go : (t : Bool) (o : Option ℤ) → OfOption (Sized (2 ^ 45)) o → OfOption (Sized (2 ^ 45)) (cond t (Some (D.corridor_x b u d m)) o)
      go true o k = corridor_x_sized u d m s h.0
      go false o k = k

  first_on : (o p : Option ℤ) → L.first_of (bound o) (bound p) ≡ bound (D.first_of o p)
  first_on None p = refl
  first_on (Some x) p = refl

  from_on : (role : Role) (e : ℕ) (us : List Bundle) (ds : List ℤ) → Every (Sized (2 ^ 44)) ds → L.corridor_from (board b) role e us (map on ds) ≡ bound (D.corridor_from b role e us ds)
  unfolding L.corridor_from D.corridor_from
  from_on role e [] ds s = refl
  from_on role e (u ∷ us) [] s = refl
  from_on role e (u ∷ us) (d ∷ ds) s =
      ap (λ (o : Bound). cond (same_role u.role role) (L.first_of o (L.corridor_from (board b) role e us (map on ds))) (L.corridor_from (board b) role e us (map on ds))) (among_on u d e (Z.members_in b u) s.0 (members_lanes u))
      ∙ ap (λ (o : Bound). cond (same_role u.role role) (L.first_of (bound (D.corridor_among b u d e (Z.members_in b u))) o) o) (from_on role e us ds s.1)
      ∙ go (same_role u.role role) (D.corridor_among b u d e (Z.members_in b u)) (D.corridor_from b role e us ds)
    where
      go : (t : Bool) (o p : Option ℤ) → cond t (L.first_of (bound o) (bound p)) (bound p) ≡ bound (cond t (D.first_of o p) p)
      go true o p = first_on o p
      go false o p = refl

  from_sized : (role : Role) (e : ℕ) (us : List Bundle) (ds : List ℤ) → Every (Sized (2 ^ 44)) ds → OfOption (Sized (2 ^ 45)) (D.corridor_from b role e us ds)
  unfolding D.corridor_from
  from_sized role e [] ds s = tt
  from_sized role e (u ∷ us) [] s = tt
  from_sized role e (u ∷ us) (d ∷ ds) s = go (same_role u.role role) (D.corridor_among b u d e (Z.members_in b u)) (D.corridor_from b role e us ds) (among_sized u d e (Z.members_in b u) s.0 (members_lanes u)) (from_sized role e us ds s.1)
    where
      first : (o p : Option ℤ) → OfOption (Sized (2 ^ 45)) o → OfOption (Sized (2 ^ 45)) p → OfOption (Sized (2 ^ 45)) (D.first_of o p)
      first None p h k = k
      first (Some x) p h k = h

      go : (t : Bool) (o p : Option ℤ) → OfOption (Sized (2 ^ 45)) o → OfOption (Sized (2 ^ 45)) p → OfOption (Sized (2 ^ 45)) (cond t (D.first_of o p) p)
      go true o p h k = first o p h k
      go false o p h k = k

  -- THE CORRIDORS
  pub corridor_on : (role : Role) (e : ℕ) → L.corridor_of (board b) role e ≡ bound (D.corridor_of b role e)
  corridor_on role e = ap (L.corridor_from (board b) role e b.bundles) offsets_on ∙ from_on role e b.bundles (D.offsets_of b) offsets_sized

  pub corridor_sized : (role : Role) (e : ℕ) → OfOption (Sized (2 ^ 45)) (D.corridor_of b role e)
  corridor_sized role e = from_sized role e b.bundles (D.offsets_of b) offsets_sized
