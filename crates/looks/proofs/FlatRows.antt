-- The nodes and the edges of a board as columns of numbers, which the checks read before they were lent the rows: a slice with four numbers a node, and one with two an edge. The tests read no more of a node and of an edge than these keep. No function's proof cites them now.
-- Assumes nothing.
use Rattle.std.specs.Prelude.{◌≡◌, refl, ℕ, zero, suc, ◌+◌, ◌*◌, ◌/◌, ◌-◌, ◌≤◌, ◌<◌, List, [], ◌∷◌, ◌++◌, map, true, false, get_or, length, Float}
use Rattle.std.proofs.Common.{sym, ap, ◌∙◌, arith}
use Rattle.std.proofs.Math.Path.{fun_ext}
use Rattle.geometry.specs.declared.Node.{Node}
use Rattle.geometry.specs.declared.Point.{Point}
use Rattle.geometry.specs.declared.Segment.{Segment}
use Rattle.geometry.specs.Points.{Route, runs, point_at}
use Rattle.geometry.specs.Enters.{passes_inside}
use Rattle.board.specs.declared.PlacedNode.{PlacedNode}
use Rattle.board.specs.declared.Edge.{Edge}
use Rattle.board.specs.Board.{Board}
use Rattle.drawing.specs.Check.{Test, due, failed, walk, own, node_tests, inside_tests, member_tests, no_edge}
use Rattle.checks.specs.Purse.{charged}
use Rattle.checks.proofs.TestSteps.{due_spent, due_hit, due_clean}

-- Node i of a slice that has four numbers a node: corner x, corner y, width, height. So its corner is a point of the slice, and its width and height are the next.
unfoldable pub box_at : List Float → ℕ → PlacedNode
box_at boxes i = record { id = 0; body = record { corner = point_at boxes (2 * i); width = (point_at boxes (2 * i + 1)).x; height = (point_at boxes (2 * i + 1)).y } }

-- n nodes from node i on
unfoldable pub boxes_from : List Float → ℕ → ℕ → List PlacedNode
boxes_from boxes i zero = []
boxes_from boxes i (suc n) = box_at boxes i ∷ boxes_from boxes (suc i) n

abbrev pub nodes_in : List Float → List PlacedNode
nodes_in boxes = boxes_from boxes 0 (length boxes / 4)

-- edge i of a slice that has two numbers an edge: the places of its source and of its target
unfoldable pub edge_at : List ℕ → ℕ → Edge
edge_at ends i = record { id = 0; source = get_or ends (2 * i) 0; target = get_or ends (2 * i + 1) 0; first = 0; count = 0 }

-- what the slices keep of a node, and of an edge
abbrev pub bare_node : PlacedNode → PlacedNode
bare_node n = record { id = 0; body = n.body }

abbrev pub bare_edge : Edge → Edge
bare_edge e = record { id = 0; source = e.source; target = e.target; first = 0; count = 0 }

-- the slices hold the nodes of a board, and the ends of its edges
pub record Sliced (b : Board) (boxes : List Float) (ends : List ℕ) : Type 0 where
  pub nodes : map bare_node b.nodes ≡ nodes_in boxes
  pub edges : (i : ℕ) → bare_edge (get_or b.edges i no_edge) ≡ edge_at ends i

-- the tests of route i against the nodes
abbrev pub inside_route : List Float → List ℕ → ℕ → Route → List Test
inside_route boxes ends i r = inside_tests (nodes_in boxes) (edge_at ends i) (runs r)

-- ---- node after node, and then the tests that are left

boxes_next : (boxes : List Float) (n j : ℕ) → j < n → boxes_from boxes j (n - j) ≡ box_at boxes j ∷ boxes_from boxes (j + 1) (n - (j + 1))
unfolding boxes_from
boxes_next boxes n j h =
    let a : n - j ≡ suc (n - (j + 1)) = omega arith in
    let z : suc j ≡ j + 1 = omega arith in
    rw (a, z)

module _ (e : Edge) (s : Segment) (boxes : List Float) (n : ℕ) (rest : List Test) where
  abbrev pub nodes_at : ℕ → List Test
  nodes_at j = node_tests e s (boxes_from boxes j (n - j)) j ++ rest

  pub node_start : (k : ℕ) → walk 12 (nodes_at 0) k ≡ walk 12 (node_tests e s (boxes_from boxes 0 n) 0 ++ rest) k
  node_start k = let a : n - 0 ≡ n = omega arith in rw a

  abbrev look_at : ℕ → Test
  look_at j = due (passes_inside s.start s.end (box_at boxes j).body)

  own_next : (j : ℕ) → j < n → own e j ≡ true → nodes_at j ≡ nodes_at (j + 1)
  unfolding node_tests
  own_next j h o = let z : suc j ≡ j + 1 = omega arith in rw (boxes_next boxes n j h, z, o)

  due_next : (j : ℕ) → j < n → own e j ≡ false → nodes_at j ≡ look_at j ∷ nodes_at (j + 1)
  unfolding node_tests
  due_next j h o = let z : suc j ≡ j + 1 = omega arith in rw (boxes_next boxes n j h, z, o)

  pub node_own : (j k : ℕ) → j < n → own e j ≡ true → walk 12 (nodes_at (j + 1)) k ≡ walk 12 (nodes_at j) k
  node_own j k h o = sym (ap (λ (x : List Test). walk 12 x k) (own_next j h o))

  module _ (j k m : ℕ) (h : j < n) (o : own e j ≡ false) where
    abbrev now_due : walk 12 (look_at j ∷ nodes_at (j + 1)) k ≡ walk 12 (nodes_at j) k
    now_due = sym (ap (λ (x : List Test). walk 12 x k) (due_next j h o))

    pub node_spent : (false, m) ≡ charged k → failed 14 m ≡ walk 12 (nodes_at j) k
    node_spent p = due_spent k m 12 _ (nodes_at (j + 1)) p ∙ now_due

    module _ (d : Node) (b : d ≡ (box_at boxes j).body) (p : (true, m) ≡ charged k) where
      pub node_hit : passes_inside s.start s.end d ≡ true → failed 12 m ≡ walk 12 (nodes_at j) k
      node_hit x = due_hit k m 12 _ (nodes_at (j + 1)) p (ap (passes_inside s.start s.end) (sym b) ∙ x) ∙ now_due

      pub node_clean : passes_inside s.start s.end d ≡ false → walk 12 (nodes_at (j + 1)) m ≡ walk 12 (nodes_at j) k
      node_clean x = due_clean k m 12 _ (nodes_at (j + 1)) p (ap (passes_inside s.start s.end) (sym b) ∙ x) ∙ now_due

  pub node_end : (j k : ℕ) → n ≤ j → walk 12 (nodes_at j) k ≡ walk 12 rest k
  unfolding node_tests boxes_from
  node_end j k h = let a : n - j ≡ 0 = omega arith in rw a

pub edge_tests : (boxes : List Float) (ends : List ℕ) (k : ℕ) (d : Edge) (r : Route) (m : ℕ) → d ≡ edge_at ends k → walk 12 (inside_tests (nodes_in boxes) d (runs r)) m ≡ walk 12 (inside_route boxes ends k r) m
edge_tests boxes ends k d r m e = ap (λ (x : Edge). walk 12 (inside_tests (nodes_in boxes) x (runs r)) m) e

-- ---- the tests read no more of a node and of an edge than the slices keep

bare_nodes : (e : Edge) (s : Segment) (ns : List PlacedNode) (j : ℕ) → node_tests (bare_edge e) s (map bare_node ns) j ≡ node_tests e s ns j
unfolding node_tests own
bare_nodes e s [] j = refl
bare_nodes e s (n ∷ ns) j = rw (bare_nodes e s ns (suc j))

bare_tests : (ns : List PlacedNode) (e : Edge) (ss : List Segment) → inside_tests (map bare_node ns) (bare_edge e) ss ≡ inside_tests ns e ss
unfolding inside_tests
bare_tests ns e [] = refl
bare_tests ns e (s ∷ ss) = rw (bare_nodes e s ns 0, bare_tests ns e ss)

pub sliced_tests : (b : Board) (boxes : List Float) (ends : List ℕ) → Sliced b boxes ends → member_tests b ≡ inside_route boxes ends
sliced_tests b boxes ends h =
    fun_ext (λ i. fun_ext (λ r.
    sym (bare_tests b.nodes (get_or b.edges i no_edge) (runs r))
    ∙ ap (λ (ns : List PlacedNode). inside_tests ns (bare_edge (get_or b.edges i no_edge)) (runs r)) h.nodes
    ∙ ap (λ (e : Edge). inside_tests (nodes_in boxes) e (runs r)) (h.edges i)))

-- ---- a node and an edge whose numbers stand in the slices

pub box_same : (s t : List Float) (i : ℕ) → point_at s (2 * i) ≡ point_at t (2 * i) → point_at s (2 * i + 1) ≡ point_at t (2 * i + 1) → box_at s i ≡ box_at t i
unfolding box_at
box_same s t i p q = rw (p, q)

abbrev pub size_of : PlacedNode → Point
size_of n = record { x = n.body.width; y = n.body.height }

pub box_is : (s : List Float) (i : ℕ) (n : PlacedNode) → point_at s (2 * i) ≡ n.body.corner → point_at s (2 * i + 1) ≡ size_of n → box_at s i ≡ bare_node n
unfolding box_at
box_is s i n p q = rw (p, q)

pub end_is : (s : List ℕ) (i : ℕ) (e : Edge) → get_or s (2 * i) 0 ≡ e.source → get_or s (2 * i + 1) 0 ≡ e.target → edge_at s i ≡ bare_edge e
unfolding edge_at
end_is s i e p q = rw (p, q)

pub end_same : (s t : List ℕ) (i : ℕ) → get_or s (2 * i) 0 ≡ get_or t (2 * i) 0 → get_or s (2 * i + 1) 0 ≡ get_or t (2 * i + 1) 0 → edge_at s i ≡ edge_at t i
unfolding edge_at
end_same s t i p q = rw (p, q)
