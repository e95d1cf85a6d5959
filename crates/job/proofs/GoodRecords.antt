-- What is known of a number and of a record that was read: its kind, its format, its bytes.
-- Assumes nothing.
use Rattle.std.specs.Prelude.{ℕ, ◌+◌, ◌≤◌, ◌<◌, ◌≡◌, refl, Bool, true, false, cond, List, T, leb, eqb, Float, length}
use Rattle.std.proofs.Common.{ap, subst, arith}
use Rattle.std.specs.Float.{binary64}
use Rattle.std.specs.Float.Ieee.{fits, of_bits}
use Rattle.std.specs.Float.Ieee.Bits.{of_bits-fits}
use Rattle.limits.specs.Limits.{max_route_points, max_points, max_bundle_members, max_members, max_lane}
use Rattle.wire.specs.Read.{Read, refused, got, after, field, limited, at_most}
use Rattle.binary64.specs.Accepted.{accepted, is_coordinate, is_size, is_option}
use Rattle.binary64.proofs.Kind.{plus_zero_fits}
use Rattle.grid.specs.DraftingGrid.{on_drafting_grid}
use Rattle.wire.specs.Accept.{number_in_bits, taken, number_in, gridded, coordinate, size}
use Rattle.geometry.specs.declared.Point.{Point}
use Rattle.geometry.specs.declared.Side.{Side}
use Rattle.geometry.specs.declared.Side.TheVariants.{North, East, South, West}
use Rattle.geometry.specs.declared.Role.{Role}
use Rattle.geometry.specs.declared.Role.TheVariants.{Input, Output}
use Rattle.board.specs.declared.Options.{Options}
use Rattle.board.specs.declared.PlacedNode.{PlacedNode}
use Rattle.board.specs.declared.Port.{Port}
use Rattle.board.specs.declared.Edge.{Edge}
use Rattle.board.specs.declared.Bundle.{Bundle}
use Rattle.board.specs.declared.Member.{Member}
use Rattle.job.specs.declared.RawPort.{RawPort}
use Rattle.job.specs.declared.RawEdge.{RawEdge}
use Rattle.job.specs.declared.RawBundle.{RawBundle}
use Rattle.job.specs.declared.RawMember.{RawMember}
use Rattle.job.specs.LoopSteps.{came, limited_fits, got_both}
use Rattle.job.proofs.Kept.{field_takes}
use Rattle.job.specs.Job.{side_of, role_of, node, port, point, member, edge_head, bundle_head, counted, within_total}

-- ---- the words
-- a number of a kind, and of the format
pub record GoodNumber (grid : Bool) (kind : Float → Bool) (x : Float) : Type 0 where
  pub in_range : kind x ≡ true
  pub of_format : T (fits binary64 x)
  -- with bit 2 of the flags set it is on the drafting grid
  pub gridded : grid ≡ true → on_drafting_grid x ≡ true

pub record GoodPoint (grid : Bool) (p : Point) : Type 0 where
  pub x : GoodNumber grid is_coordinate p.x
  pub y : GoodNumber grid is_coordinate p.y

pub record GoodOptions (grid : Bool) (o : Options) : Type 0 where
  pub stub : GoodNumber grid is_option o.port_stub
  pub gap : GoodNumber grid is_option o.route_lane_gap
  pub clearance : GoodNumber grid is_option o.edge_node_clearance
  pub spacing : GoodNumber grid is_option o.minimum_parallel_wire_spacing
  pub reserve : GoodNumber grid is_option o.member_endpoint_reserve

pub record GoodNode (grid : Bool) (n : PlacedNode) : Type 0 where
  pub corner : GoodPoint grid n.body.corner
  pub width : GoodNumber grid is_size n.body.width
  pub height : GoodNumber grid is_size n.body.height

-- of so many nodes
pub record GoodPort (grid : Bool) (nodes : ℕ) (p : Port) : Type 0 where
  pub node : p.node < nodes
  pub offset : GoodNumber grid is_coordinate p.offset

-- of so many nodes and points
pub record GoodEdge (nodes points : ℕ) (e : Edge) : Type 0 where
  pub source : e.source < nodes
  pub target : e.target < nodes
  pub count : e.count ≤ max_route_points
  pub window : e.first + e.count ≤ points

pub record GoodBundle (ports members : ℕ) (b : Bundle) : Type 0 where
  pub port : b.port < ports
  pub count : b.count ≤ max_bundle_members
  pub window : b.first + b.count ≤ members

pub record GoodMember (edges : ℕ) (m : Member) : Type 0 where
  pub edge : m.edge < edges
  pub lane : m.tap_lane ≤ max_lane

-- ---- numbers
pub picked : {A : Type 0} (b : Bool) (x y : A) (s t : List ℕ) (r : ℕ) → cond b (got x s) (refused r) ≡ got y t → (b ≡ true) × (x ≡ y) × (s ≡ t)
picked true x y s t r e = (refl, cc, cc)
picked false x y s t r e = let z : ◌≡◌ {A = ℕ} 0 1 = cc in absurd (omega arith)

number_good : (low high : Float) (s : List ℕ) (x : Float) (t : List ℕ) → number_in low high s ≡ got x t → ((accepted low high x ≡ true) × T (fits binary64 x)) × (length s ≡ 8 + length t)
unfolding taken
number_good low high s x t e =
    let a = came (field 8 s) (λ b. taken low high (number_in_bits b)) x t e in
    let f = field_takes 8 s a.value a.rest a.first in
    let c = picked (accepted low high (number_in_bits a.value)) (number_in_bits a.value) x a.rest t 7 a.second in
    let l = ap length c.2 in
    (subst (λ (z : Float). (accepted low high z ≡ true) × T (fits binary64 z)) c.1 (c.0, plus_zero_fits (of_bits binary64 a.value) (of_bits-fits binary64 a.value)), omega (arith, f.1, l))

-- a number field: with bit 2 set it is on the drafting grid
pub grid_number_good : (grid : Bool) (low high : Float) (s : List ℕ) (x : Float) (t : List ℕ) → after (number_in low high s) (gridded grid) ≡ got x t → GoodNumber grid (accepted low high) x × (length s ≡ 8 + length t)
unfolding gridded
grid_number_good grid low high s x t e =
    let a = came (number_in low high s) (gridded grid) x t e in
    let n = number_good low high s a.value a.rest a.first in
    go grid a.value a.rest a.second n
  where
    go : (grid : Bool) (y : Float) (r : List ℕ) → cond grid (cond (on_drafting_grid y) (got y r) (refused 15)) (got y r) ≡ got x t → ((accepted low high y ≡ true) × T (fits binary64 y)) × (length s ≡ 8 + length r) → GoodNumber grid (accepted low high) x × (length s ≡ 8 + length t)
    go true y r e n =
        let p = picked (on_drafting_grid y) y x r t 15 e in
        let l = ap length p.2 in
        (subst (GoodNumber true (accepted low high)) p.1 (record { in_range = n.0.0; of_format = n.0.1; gridded = λ q. p.0 }), omega (arith, n.1, l))
    go false y r e n =
        let p : (y ≡ x) × (r ≡ t) = got_both y x r t e in
        let l = ap length p.1 in
        (subst (GoodNumber false (accepted low high)) p.0 (record { in_range = n.0.0; of_format = n.0.1; gridded = λ q. let z : ◌≡◌ {A = ℕ} 0 1 = cc in absurd (omega arith) }), omega (arith, n.1, l))

pub point_good : (grid : Bool) (s : List ℕ) (p : Point) (t : List ℕ) → point grid s ≡ got p t → GoodPoint grid p × (length s ≡ 16 + length t)
point_good grid s p t e =
    let a = came (coordinate grid s) _ p t e in
    let b = came (coordinate grid a.rest) _ p t a.second in
    let q = got_both _ p b.rest t b.second in
    let x = grid_number_good grid _ _ s a.value a.rest a.first in
    let y = grid_number_good grid _ _ a.rest b.value b.rest b.first in
    let l = ap length q.1 in
    (subst (GoodPoint grid) q.0 (record { x = x.0; y = y.0 }), omega (arith, x.1, y.1, l))

pub node_good : (grid : Bool) (s : List ℕ) (n : PlacedNode) (t : List ℕ) → node grid s ≡ got n t → GoodNode grid n × (length s ≡ 36 + length t)
node_good grid s n t e =
    let a = came (field 4 s) _ n t e in
    let b = came (coordinate grid a.rest) _ n t a.second in
    let c = came (coordinate grid b.rest) _ n t b.second in
    let d = came (size grid c.rest) _ n t c.second in
    let f = came (size grid d.rest) _ n t d.second in
    let q = got_both _ n f.rest t f.second in
    let i = field_takes 4 s a.value a.rest a.first in
    let x = grid_number_good grid _ _ a.rest b.value b.rest b.first in
    let y = grid_number_good grid _ _ b.rest c.value c.rest c.first in
    let w = grid_number_good grid _ _ c.rest d.value d.rest d.first in
    let h = grid_number_good grid _ _ d.rest f.value f.rest f.first in
    let l = ap length q.1 in
    (subst (GoodNode grid) q.0 (record { corner = record { x = x.0; y = y.0 }; width = w.0; height = h.0 }), omega (arith, i.1, x.1, y.1, w.1, h.1, l))

-- a choice between listed values takes no bytes of its own
pub listed : {A : Type 0} (b : Bool) (x : A) (y : Read A) (s t : List ℕ) (d : A) → (y ≡ got d t → s ≡ t) → cond b (got x s) y ≡ got d t → s ≡ t
listed true x y s t d f e = cc
listed false x y s t d f e = f e

pub none_listed : {A : Type 0} (r : ℕ) (s t : List ℕ) (d : A) → refused r ≡ got d t → s ≡ t
none_listed r s t d e = let z : ◌≡◌ {A = ℕ} 0 1 = cc in absurd (omega arith)

pub side_takes : (n : ℕ) (s : List ℕ) (d : Side) (t : List ℕ) → side_of n s ≡ got d t → s ≡ t
unfolding side_of
side_takes n s d t e =
    let w : Read Side = cond (eqb n 3) (got West s) (refused 6) in
    let u : Read Side = cond (eqb n 2) (got South s) w in
    let v : Read Side = cond (eqb n 1) (got East s) u in
    listed (eqb n 0) North v s t d (listed (eqb n 1) East u s t d (listed (eqb n 2) South w s t d (listed (eqb n 3) West (refused 6) s t d (none_listed 6 s t d)))) e

pub role_takes : (n : ℕ) (s : List ℕ) (d : Role) (t : List ℕ) → role_of n s ≡ got d t → s ≡ t
unfolding role_of
role_takes n s d t e = listed (eqb n 0) Input (cond (eqb n 1) (got Output s) (refused 6)) s t d (listed (eqb n 1) Output (refused 6) s t d (none_listed 6 s t d)) e

abbrev pub RawGoodPort : Bool → RawPort → Type 0
RawGoodPort grid p = GoodNumber grid is_coordinate p.offset

pub port_good : (grid : Bool) (s : List ℕ) (p : RawPort) (t : List ℕ) → port grid s ≡ got p t → RawGoodPort grid p × (length s ≡ 17 + length t)
port_good grid s p t e =
    let a = came (field 4 s) _ p t e in
    let b = came (field 4 a.rest) _ p t a.second in
    let c = came (after (field 1 b.rest) side_of) _ p t b.second in
    let d = came (coordinate grid c.rest) _ p t c.second in
    let q = got_both _ p d.rest t d.second in
    let m = came (field 1 b.rest) side_of c.value c.rest c.first in
    let n = ap length (side_takes m.value m.rest c.value c.rest m.second) in
    let i = field_takes 4 s a.value a.rest a.first in
    let j = field_takes 4 a.rest b.value b.rest b.first in
    let k = field_takes 1 b.rest m.value m.rest m.first in
    let x = grid_number_good grid _ _ c.rest d.value d.rest d.first in
    let l = ap length q.1 in
    (subst (RawGoodPort grid) q.0 x.0, omega (arith, i.1, j.1, k.1, n, x.1, l))

pub limited_takes : (limit n m : ℕ) (s t : List ℕ) → limited limit n s ≡ got m t → s ≡ t
unfolding limited
limited_takes limit n m s t e = (picked (leb n limit) n m s t 5 e).2

pub at_most_good : (limit w : ℕ) (s : List ℕ) (n : ℕ) (t : List ℕ) → at_most limit w s ≡ got n t → (n ≤ limit) × (length s ≡ w + length t)
at_most_good limit w s n t e =
    let a = came (field w s) (limited limit) n t e in
    let f = field_takes w s a.value a.rest a.first in
    let l = ap length (limited_takes limit a.value n a.rest t a.second) in
    (limited_fits limit a.value n a.rest t a.second, omega (arith, f.1, l))

abbrev pub RawGoodMember : RawMember → Type 0
RawGoodMember m = m.tap_lane ≤ max_lane

pub member_good : (role : Role) (s : List ℕ) (m : RawMember) (t : List ℕ) → member role s ≡ got m t → RawGoodMember m × (length s ≡ 6 + length t)
member_good role s m t e =
    let a = came (field 4 s) _ m t e in
    let b = came (at_most max_lane 2 a.rest) _ m t a.second in
    let q = got_both _ m b.rest t b.second in
    let i = field_takes 4 s a.value a.rest a.first in
    let x = at_most_good max_lane 2 a.rest b.value b.rest b.first in
    let l = ap length q.1 in
    (subst RawGoodMember q.0 x.0, omega (arith, i.1, x.1, l))

pub counted_takes : (most all earlier : ℕ) (s : List ℕ) (n : ℕ) (t : List ℕ) → counted most all earlier s ≡ got n t → length s ≡ 2 + length t
unfolding within_total
counted_takes most all earlier s n t e =
    let a = came (at_most most 2 s) (within_total all earlier) n t e in
    let x = at_most_good most 2 s a.value a.rest a.first in
    let l = ap length (picked (leb (earlier + a.value) all) a.value n a.rest t 5 a.second).2 in
    omega (arith, x.1, l)

pub edge_takes : (total : ℕ) (s : List ℕ) (e : RawEdge) (t : List ℕ) → edge_head total s ≡ got e t → length s ≡ 22 + length t
edge_takes total s e t h =
    let a = came (field 4 s) _ e t h in
    let b = came (field 4 a.rest) _ e t a.second in
    let c = came (field 4 b.rest) _ e t b.second in
    let d = came (field 4 c.rest) _ e t c.second in
    let f = came (field 4 d.rest) _ e t d.second in
    let g = came (counted max_route_points max_points total f.rest) _ e t f.second in
    let q = got_both _ e g.rest t g.second in
    let l = ap length q.1 in
    omega (
      arith,
      (field_takes 4 s a.value a.rest a.first).1,
      (field_takes 4 a.rest b.value b.rest b.first).1,
      (field_takes 4 b.rest c.value c.rest c.first).1,
      (field_takes 4 c.rest d.value d.rest d.first).1,
      (field_takes 4 d.rest f.value f.rest f.first).1,
      counted_takes max_route_points max_points total f.rest g.value g.rest g.first,
      l,
    )

pub bundle_takes : (total : ℕ) (s : List ℕ) (e : RawBundle) (t : List ℕ) → bundle_head total s ≡ got e t → length s ≡ 19 + length t
bundle_takes total s e t h =
    let a = came (field 4 s) _ e t h in
    let b = came (field 4 a.rest) _ e t a.second in
    let c = came (field 4 b.rest) _ e t b.second in
    let d = came (after (field 1 c.rest) role_of) _ e t c.second in
    let f = came (field 4 d.rest) _ e t d.second in
    let g = came (counted max_bundle_members max_members total f.rest) _ e t f.second in
    let q = got_both _ e g.rest t g.second in
    let m = came (field 1 c.rest) role_of d.value d.rest d.first in
    let n = ap length (role_takes m.value m.rest d.value d.rest m.second) in
    let l = ap length q.1 in
    omega (
      arith,
      (field_takes 4 s a.value a.rest a.first).1,
      (field_takes 4 a.rest b.value b.rest b.first).1,
      (field_takes 4 b.rest c.value c.rest c.first).1,
      (field_takes 1 c.rest m.value m.rest m.first).1,
      n,
      (field_takes 4 d.rest f.value f.rest f.first).1,
      counted_takes max_bundle_members max_members total f.rest g.value g.rest g.first,
      l,
    )
