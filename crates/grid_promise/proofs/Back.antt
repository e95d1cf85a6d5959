-- The whole numbers over 128 of a job with bit 2 set are its numbers, and they are on the drafting grid.
-- Assumes nothing.
use Rattle.std.specs.Prelude.{◌≡◌, refl, ℕ, ◌+◌, ◌≤◌, Bool, true, false, List, [], ◌∷◌, map, T, pos, length, drop, Float}
use Rattle.std.proofs.Common.{ap, ◌∙◌}
use Rattle.std.specs.Float.{fin}
use Rattle.std.specs.Float.Ieee.{le}
use Rattle.binary64.proofs.Kind.{accepted_between}
use Rattle.geometry.specs.declared.Point.{Point}
use Rattle.geometry.specs.Points.{Route}
use Rattle.board.specs.declared.Options.{Options}
use Rattle.board.specs.declared.PlacedNode.{PlacedNode}
use Rattle.board.specs.declared.Port.{Port}
use Rattle.board.specs.declared.Edge.{Edge}
use Rattle.board.specs.declared.Bundle.{Bundle}
use Rattle.board.specs.declared.Member.{Member}
use Rattle.board.specs.Board.{routes_of}
use Rattle.wire.proofs.All.{All}
use Rattle.job.specs.Job.{Job, given_routes}
use Rattle.job.proofs.Sound.{Sound}
use Rattle.sorting.specs.Sorted.{every_map}
use Rattle.grid_plan.specs.Board as Z
use Rattle.grid_plan.specs.Sizes as sizes
use Rattle.grid_plan.specs.Image as I
use Rattle.grid_promise.specs.Wholes.{point, node, port, options, wholes, whole_routes}
use Rattle.binary64.specs.Accepted.{accepted, two_to, is_coordinate, zero64}
use Rattle.job.proofs.GoodRecords.{GoodNumber, GoodPoint, GoodNode, GoodPort, GoodBundle, GoodMember}
use Rattle.plan.proofs.SmallNumbers.{every_take, every_drop}
use Rattle.binary64.proofs.Plain.{Plain, accepted_plain}
use Rattle.sorting.specs.Lists.{Every}
use Rattle.grid.specs.On.{on}
use Rattle.grid.specs.DraftingGrid.{on_drafting_grid, units}
use Rattle.grid.proofs.DraftingLaws.{units_even, units_small, units_back, units_length}
use Rattle.grid_plan.specs.OnGrid.{OnDraftingGrid}

abbrev Gridded : Float → Type 0
Gridded x = on_drafting_grid x ≡ true

-- ---- one number
is_t : (b : Bool) → b ≡ true → T b
is_t true e = tt
is_t false e = let z : ◌≡◌ {A = ℕ} 0 1 = cc in absurd (omega native.Mathlib.Omega.arith)

coordinate_plain : {grid : Bool} (x : Float) → GoodNumber grid is_coordinate x → Plain x
coordinate_plain x g = accepted_plain (fin true 1 (pos 30)) (two_to 30) x g.in_range g.of_format

up_to_plain : {grid : Bool} (k : ℕ) (x : Float) → GoodNumber grid (accepted zero64 (two_to k)) x → Plain x
up_to_plain k x g = accepted_plain zero64 (two_to k) x g.in_range g.of_format

not_below : {grid : Bool} (k : ℕ) (x : Float) → GoodNumber grid (accepted zero64 (two_to k)) x → T (le zero64 x)
not_below k x g = (accepted_between zero64 (two_to k) x g.in_range).from

job_number : (x : Float) → Gridded x → sizes.Job (units x)
job_number x g = record { even = units_even x; size = units_small x (is_t (on_drafting_grid x) g) }

back : (x : Float) → Gridded x → Plain x → on (units x) ≡ x
back x g p = units_back x (is_t (on_drafting_grid x) g) p

length_number : {grid : Bool} (k : ℕ) (x : Float) → grid ≡ true → GoodNumber grid (accepted zero64 (two_to k)) x → sizes.Length (units x)
length_number k x q h = (job_number x (h.gridded q), units_length x (is_t (on_drafting_grid x) (h.gridded q)) (up_to_plain k x h) (not_below k x h))

-- ---- tables
one : {A : Type 0} (P R : A → Type 0) → ((a : A) → P a → R a) → (l : List A) → All P l → Every R l
unfolding All
one P R f [] p = tt
one P R f (a ∷ l) p = (f a p.0, one P R f l p.1)

map_id : {A B : Type 0} (image : B → A) (g : A → B) (l : List A) → Every (λ (a : A). image (g a) ≡ a) l → map image (map g l) ≡ l
map_id image g [] h = refl
map_id image g (a ∷ l) h = ap (λ (x : _). x ∷ map image (map g l)) h.0 ∙ ap (λ (m : List _). a ∷ m) (map_id image g l h.1)

every_image : {A B : Type 0} (Q : B → Type 0) (g : A → B) (l : List A) → Every (λ (a : A). Q (g a)) l → Every Q (map g l)
every_image Q g [] h = tt
every_image Q g (a ∷ l) h = (h.0, every_image Q g l h.1)

-- bit 2 is set
module _ (j : Job) (s : Sound j) (q : j.flags.on_grid ≡ true) where
  abbrev grid : Bool
  grid = j.flags.on_grid

  -- ---- points
  point_back : Every (λ (p : Point). I.point (point p) ≡ p) j.points
  point_back = one (GoodPoint grid) (λ (p : Point). I.point (point p) ≡ p) (λ p h. ap (λ (z : Float). record { x = z; y = on (units p.y) }) (back p.x (h.x.gridded q) (coordinate_plain p.x h.x)) ∙ ap (λ (z : Float). record { x = p.x; y = z }) (back p.y (h.y.gridded q) (coordinate_plain p.y h.y))) j.points s.points

  point_job : Every (λ (p : Point). sizes.Job (units p.x) × sizes.Job (units p.y)) j.points
  point_job = one (GoodPoint grid) (λ (p : Point). sizes.Job (units p.x) × sizes.Job (units p.y)) (λ p h. (job_number p.x (h.x.gridded q), job_number p.y (h.y.gridded q))) j.points s.points

  on_routes : (Q : Point → Type 0) → Every Q j.points → (es : List Edge) → Every (Every Q) (routes_of j.points es)
  on_routes Q h [] = tt
  on_routes Q h (e ∷ es) = (every_take Q e.count (drop e.first j.points) (every_drop Q e.first j.points h), on_routes Q h es)

  pub routes_back : map I.route (whole_routes (given_routes j)) ≡ given_routes j
  routes_back = map_id I.route (map point) (given_routes j) (every_map (Every (λ (p : Point). I.point (point p) ≡ p)) (λ (r : Route). I.route (map point r) ≡ r) (given_routes j) (λ r h. map_id I.point point r h) (on_routes (λ (p : Point). I.point (point p) ≡ p) point_back j.board.edges))

  -- ---- the board
  node_back : map I.placed (map node j.board.nodes) ≡ j.board.nodes
  node_back = map_id I.placed node j.board.nodes (one (GoodNode grid) (λ (n : PlacedNode). I.placed (node n) ≡ n) one_node j.board.nodes s.nodes)
    where
      one_node : (n : PlacedNode) → GoodNode grid n → I.placed (node n) ≡ n
      one_node n h =
          ap (λ (z : Float). record { id = n.id; body = record { corner = record { x = z; y = on (units n.body.corner.y) }; width = on (units n.body.width); height = on (units n.body.height) } }) (back n.body.corner.x (h.corner.x.gridded q) (coordinate_plain n.body.corner.x h.corner.x))
          ∙ ap (λ (z : Float). record { id = n.id; body = record { corner = record { x = n.body.corner.x; y = z }; width = on (units n.body.width); height = on (units n.body.height) } }) (back n.body.corner.y (h.corner.y.gridded q) (coordinate_plain n.body.corner.y h.corner.y))
          ∙ ap (λ (z : Float). record { id = n.id; body = record { corner = n.body.corner; width = z; height = on (units n.body.height) } }) (back n.body.width (h.width.gridded q) (up_to_plain 30 n.body.width h.width))
          ∙ ap (λ (z : Float). record { id = n.id; body = record { corner = n.body.corner; width = n.body.width; height = z } }) (back n.body.height (h.height.gridded q) (up_to_plain 30 n.body.height h.height))

  port_back : map I.port (map port j.board.ports) ≡ j.board.ports
  port_back = map_id I.port port j.board.ports (one (GoodPort grid (length j.board.nodes)) (λ (p : Port). I.port (port p) ≡ p) (λ p h. ap (λ (z : Float). record { node = p.node; id = p.id; side = p.side; offset = z }) (back p.offset (h.offset.gridded q) (coordinate_plain p.offset h.offset))) j.board.ports s.ports)

  options_back : I.options (options j.board.options) ≡ j.board.options
  options_back =
      let o = j.board.options in
      rw (
        back o.port_stub (s.options.stub.gridded q) (up_to_plain 20 o.port_stub s.options.stub),
        back o.route_lane_gap (s.options.gap.gridded q) (up_to_plain 20 o.route_lane_gap s.options.gap),
        back o.edge_node_clearance (s.options.clearance.gridded q) (up_to_plain 20 o.edge_node_clearance s.options.clearance),
        back o.minimum_parallel_wire_spacing (s.options.spacing.gridded q) (up_to_plain 20 o.minimum_parallel_wire_spacing s.options.spacing),
        back o.member_endpoint_reserve (s.options.reserve.gridded q) (up_to_plain 20 o.member_endpoint_reserve s.options.reserve),
      )

  pub board_back : I.board (wholes j.board) ≡ j.board
  board_back =
      let b = j.board in
      ap (λ (o : Options). record { options = o; nodes = map I.placed (map node b.nodes); ports = map I.port (map port b.ports); edges = b.edges; bundles = b.bundles; members = b.members }) options_back
      ∙ ap (λ (l : List PlacedNode). record { options = b.options; nodes = l; ports = map I.port (map port b.ports); edges = b.edges; bundles = b.bundles; members = b.members }) node_back
      ∙ ap (λ (l : List Port). record { options = b.options; nodes = b.nodes; ports = l; edges = b.edges; bundles = b.bundles; members = b.members }) port_back

  pub on_grid : OnDraftingGrid (wholes j.board) (whole_routes (given_routes j))
  on_grid = record {
    stub = length_number 20 _ q s.options.stub;
    gap = length_number 20 _ q s.options.gap;
    clearance = length_number 20 _ q s.options.clearance;
    spacing = length_number 20 _ q s.options.spacing;
    reserve = length_number 20 _ q s.options.reserve;
    nodes = every_image (λ (n : Z.PlacedNode). sizes.Job n.body.corner.x × sizes.Job n.body.corner.y × sizes.Length n.body.width × sizes.Length n.body.height) node j.board.nodes
        (one (GoodNode grid) (λ (n : PlacedNode). sizes.Job (units n.body.corner.x) × sizes.Job (units n.body.corner.y) × sizes.Length (units n.body.width) × sizes.Length (units n.body.height))
        (λ n h. (job_number n.body.corner.x (h.corner.x.gridded q), job_number n.body.corner.y (h.corner.y.gridded q), length_number 30 n.body.width q h.width, length_number 30 n.body.height q h.height)) j.board.nodes s.nodes);
    ports = every_image (λ (p : Z.Port). sizes.Job p.offset) port j.board.ports (one (GoodPort grid (length j.board.nodes)) (λ (p : Port). sizes.Job (units p.offset)) (λ p h. job_number p.offset (h.offset.gridded q)) j.board.ports s.ports);
    lanes = one (GoodMember (length j.board.edges)) (λ (m : Member). m.tap_lane ≤ 255) (λ m h. h.lane) j.board.members s.members;
    few = s.bundle_total;
    windows = one (GoodBundle (length j.board.ports) (length j.board.members)) (λ (u : Bundle). u.first + u.count ≤ length j.board.members) (λ u h. h.window) j.board.bundles s.bundles;
    points = every_image (Every (λ (p : Z.Point). sizes.Job p.x × sizes.Job p.y)) (map point) (given_routes j)
        (every_map (Every (λ (p : Point). sizes.Job (units p.x) × sizes.Job (units p.y))) (λ (r : Route). Every (λ (p : Z.Point). sizes.Job p.x × sizes.Job p.y) (map point r)) (given_routes j) (λ r h. every_image (λ (p : Z.Point). sizes.Job p.x × sizes.Job p.y) point r h)
        (on_routes (λ (p : Point). sizes.Job (units p.x) × sizes.Job (units p.y)) point_job j.board.edges));
  }
