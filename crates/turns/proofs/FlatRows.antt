-- The columns of numbers that the turns filled before they were lent the rows: of the nodes, of the ends of edges, of where each bundle's port stands, and of the members' edges and lanes. What is filled place after place holds them all, and the checks read the board in them. No function's proof cites these laws now.
-- Assumes nothing.
use Rattle.std.specs.Prelude.{◌≡◌, refl, ℕ, zero, suc, ◌+◌, ◌*◌, ◌/◌, ◌≤◌, ◌<◌, List, map, Bool, true, false, get_or, length, take, drop, set, Float}
use Rattle.std.proofs.Common.{sym, ap, ◌∙◌, subst, arith, drop-cons, length-set, get_or-set_same, get_or-set_other, get_or-take, length-take-le, take_all}
use borrow.Author.Tests.{ltb-true, ltb-false}
use lib.Dec.{ltb}
use lib.ListN.{get_or-eq_default}
use Rattle.std.specs.Float.{nan}
use Rattle.limits.specs.Limits.{max_ports, max_bundles, max_lane}
use Rattle.geometry.specs.declared.Point.{Point}
use Rattle.geometry.specs.Points.{point_at, put_point}
use Rattle.route.specs.Window.{point_same, length_put, put_other, put_here}
use Rattle.board.specs.declared.Options.{Options}
use Rattle.board.specs.declared.PlacedNode.{PlacedNode}
use Rattle.board.specs.declared.Port.{Port}
use Rattle.board.specs.declared.Edge.{Edge}
use Rattle.board.specs.declared.Member.{Member}
use Rattle.board.specs.declared.Bundle.{Bundle}
use Rattle.board.specs.Board.{Board, endpoint}
use Rattle.plan.specs.Depths.{no_port, no_node, endpoint_of}
use Rattle.plan.specs.BoardTables.{board_of, no_edge, no_bundle, no_member, Sound}
use Rattle.checks.specs.MemberSlices.{members_from}
use Rattle.looks.proofs.FlatRows.{box_at, boxes_from, nodes_in, edge_at, bare_node, bare_edge, Sliced, size_of, box_same, box_is, end_is, end_same}
use Rattle.turns.specs.TurnTables.{Lists, Follow, Once, members_all}
use Rattle.turns.proofs.Filling.{upto_next}

-- the first n nodes
abbrev pub Boxed : List Float → List PlacedNode → ℕ → Type 0
Boxed boxes rows n = (k : ℕ) → k < n → box_at boxes k ≡ bare_node (get_or rows k no_node)

-- the ends of the first n edges
abbrev pub Ended : List ℕ → List Edge → ℕ → Type 0
Ended ends rows n = (k : ℕ) → k < n → edge_at ends k ≡ bare_edge (get_or rows k no_edge)

-- where a port stands, its node being in the slice
abbrev pub spot_of : List Float → Port → Point
spot_of boxes p = endpoint (box_at boxes p.node) p

-- where the ports of the first n bundles stand
abbrev pub Spotted : List Float → List Float → List Port → List Bundle → ℕ → Type 0
Spotted spots boxes ports bundles n = (k : ℕ) → k < n → point_at spots k ≡ spot_of boxes (get_or ports (get_or bundles k no_bundle).port no_port)

-- what the tables name is in them, and in the slice of nodes
pub record Named (boxes : List Float) (ports : List Port) (bundles : List Bundle) : Type 0 where
  pub ports_few : length ports ≤ max_ports
  pub bundles_few : length bundles ≤ max_bundles
  pub ports_on : (i : ℕ) → i < length ports → 4 * (get_or ports i no_port).node + 3 < length boxes
  pub bundles_on : (i : ℕ) → i < length bundles → (get_or bundles i no_bundle).port < length ports

pub named : (nodes : List PlacedNode) (ports : List Port) (bundles : List Bundle) (members : List Member) (boxes : List Float) → Sound nodes ports bundles members → 4 * length nodes ≤ length boxes → Named boxes ports bundles
named nodes ports bundles members boxes s h =
    record {
      ports_few = s.ports_few;
      bundles_few = s.bundles_few;
      ports_on = λ i l. let k = s.ports_on i l in omega arith;
      bundles_on = λ i l. (s.bundles_on i l).port_in;
    }

-- ---- the slices filled

pub boxed_next : (s t u : List Float) (rows : List PlacedNode) (i : ℕ) (n : PlacedNode) → n ≡ get_or rows i no_node → 4 * i + 3 < length s → t ≡ put_point s (2 * i) n.body.corner → u ≡ put_point t (2 * i + 1) (size_of n) → Boxed s rows i → Boxed u rows (i + 1)
boxed_next s t u rows i n e h p q =
    let l = length_put s (2 * i) n.body.corner in
    let room : 2 * (2 * i + 1) + 1 < length t = let lt = ap length p in omega arith in
    let other : (j : ℕ) → (j ≡ 2 * i → ⊥) → (j ≡ 2 * i + 1 → ⊥) → point_at u j ≡ point_at s j =
    λ j a b. ap (λ (x : List Float). point_at x j) q ∙ put_other t (2 * i + 1) j (size_of n) b ∙ ap (λ (x : List Float). point_at x j) p ∙ put_other s (2 * i) j n.body.corner a in
    let corner : point_at u (2 * i) ≡ n.body.corner =
    ap (λ (x : List Float). point_at x (2 * i)) q ∙ put_other t (2 * i + 1) (2 * i) (size_of n) (λ y. omega arith) ∙ ap (λ (x : List Float). point_at x (2 * i)) p ∙ put_here s (2 * i) n.body.corner (omega arith) in
    let size : point_at u (2 * i + 1) ≡ size_of n = ap (λ (x : List Float). point_at x (2 * i + 1)) q ∙ put_here t (2 * i + 1) (size_of n) room in
    upto_next (λ k. box_at s k ≡ bare_node (get_or rows k no_node)) (λ k. box_at u k ≡ bare_node (get_or rows k no_node)) i
    (λ k b w. box_same u s k (other (2 * k) (λ y. omega arith) (λ y. omega arith)) (other (2 * k + 1) (λ y. omega arith) (λ y. omega arith)) ∙ w)
    (box_is u i n corner size ∙ ap bare_node e)

-- the nodes that are boxed
pub boxed_are : (boxes : List Float) (rows : List PlacedNode) (n s : ℕ) → s + n ≤ length rows → Boxed boxes rows (s + n) → map bare_node (take n (drop s rows)) ≡ boxes_from boxes s n
unfolding boxes_from
boxed_are boxes rows zero s h l = refl
boxed_are boxes rows (suc n) s h l =
    let a = l s (omega arith) in
    let d = drop-cons rows s no_node (omega arith) in
    let w = boxed_are boxes rows n (suc s) (omega arith) (λ k b. l k (omega arith)) in
    rw (d, a, ← w)

pub ended_next : (s u : List ℕ) (rows : List Edge) (i : ℕ) (e : Edge) → e ≡ get_or rows i no_edge → 2 * i + 1 < length s
    → u ≡ set (set s (2 * i) e.source) (2 * i + 1) e.target
    → Ended s rows i → Ended u rows (i + 1)
ended_next s u rows i e q h w =
    let t = set s (2 * i) e.source in
    let l : 2 * i + 1 < length t = rw length-set h in
    let read : (j : ℕ) → get_or u j 0 ≡ get_or (set t (2 * i + 1) e.target) j 0 = λ j. ap (λ (x : List ℕ). get_or x j 0) w in
    let other : (j : ℕ) → (j ≡ 2 * i → ⊥) → (j ≡ 2 * i + 1 → ⊥) → get_or u j 0 ≡ get_or s j 0 =
    λ j a b. read j ∙ get_or-set_other t (2 * i + 1) j e.target 0 b ∙ get_or-set_other s (2 * i) j e.source 0 a in
    upto_next (λ k. edge_at s k ≡ bare_edge (get_or rows k no_edge)) (λ k. edge_at u k ≡ bare_edge (get_or rows k no_edge)) i
    (λ k b p. end_same u s k (other (2 * k) (λ y. omega arith) (λ y. omega arith)) (other (2 * k + 1) (λ y. omega arith) (λ y. omega arith)) ∙ p)
    (end_is u i e (read (2 * i) ∙ get_or-set_other t (2 * i + 1) (2 * i) e.target 0 (λ y. omega arith) ∙ get_or-set_same s (2 * i) e.source 0 (omega arith)) (read (2 * i + 1) ∙ get_or-set_same t (2 * i + 1) e.target 0 l) ∙ ap bare_edge q)

-- ---- where ports stand

pub spotted_next : (s t boxes : List Float) (ports : List Port) (bundles : List Bundle) (i : ℕ) (p : Port) (end : Point) → p ≡ get_or ports (get_or bundles i no_bundle).port no_port → end ≡ spot_of boxes p → 2 * i + 1 < length s → t ≡ put_point s i end → Spotted s boxes ports bundles i → Spotted t boxes ports bundles (i + 1)
spotted_next s t boxes ports bundles i p end e d h q =
    upto_next (spotted_at s) (spotted_at t) i
    (λ k b w. ap (λ (x : List Float). point_at x k) q ∙ put_other s i k end (λ y. omega arith) ∙ w)
    (ap (λ (x : List Float). point_at x i) q ∙ put_here s i end h ∙ d ∙ ap (spot_of boxes) e)
  where
    spotted_at : List Float → ℕ → Type 0
    spotted_at x k = point_at x k ≡ spot_of boxes (get_or ports (get_or bundles k no_bundle).port no_port)

-- ---- the slices, each cut to as long as its table

point_part : (s : List Float) (m i : ℕ) → 2 * i + 1 < m → point_at (take m s) i ≡ point_at s i
point_part s m i h = point_same (take m s) s i i (get_or-take m s (2 * i) nan (omega arith)) (get_or-take m s (2 * i + 1) nan h)

nodes_sliced : (boxes : List Float) (nodes : List PlacedNode) → 4 * length nodes ≤ length boxes → Boxed boxes nodes (length nodes) → map bare_node nodes ≡ nodes_in (take (4 * length nodes) boxes)
nodes_sliced boxes nodes room b =
    let n = length nodes in
    let e : length (take (4 * n) boxes) / 4 ≡ n = let l = length-take-le (4 * n) boxes room in omega arith in
    sym (ap (map bare_node) (take_all n nodes (omega arith)))
    ∙ boxed_are (take (4 * n) boxes) nodes n 0 (omega arith) (λ k h. box_same (take (4 * n) boxes) boxes k (point_part boxes (4 * n) (2 * k) (omega arith)) (point_part boxes (4 * n) (2 * k + 1) (omega arith)) ∙ b k (omega arith))
    ∙ sym (ap (boxes_from (take (4 * n) boxes) 0) e)

ends_sliced : (ends : List ℕ) (edges : List Edge) → 2 * length edges ≤ length ends → Ended ends edges (length edges) → (i : ℕ) → bare_edge (get_or edges i no_edge) ≡ edge_at (take (2 * length edges) ends) i
ends_sliced ends edges room b i = go (ltb i (length edges)) refl
  where
    part : List ℕ
    part = take (2 * length edges) ends

    go : (x : Bool) → ltb i (length edges) ≡ x → bare_edge (get_or edges i no_edge) ≡ edge_at (take (2 * length edges) ends) i
    go true q =
        let h : i < length edges = omega (arith, ltb-true) in
        sym (end_same part ends i (get_or-take (2 * length edges) ends (2 * i) 0 (omega arith)) (get_or-take (2 * length edges) ends (2 * i + 1) 0 (omega arith)) ∙ b i h)
    go false q =
        let h : length edges ≤ i = omega (arith, ltb-false) in
        let l = length-take-le (2 * length edges) ends room in
        let x : length part ≤ 2 * i = omega arith in
        let y : length part ≤ 2 * i + 1 = omega arith in
        ap bare_edge (get_or-eq_default edges no_edge h)
        ∙ sym (end_is part i no_edge (get_or-eq_default part 0 x) (get_or-eq_default part 0 y))

module _ (o : Options) (nodes : List PlacedNode) (ports : List Port) (edges : List Edge) (bundles : List Bundle) (members : List Member) (sound : Sound nodes ports bundles members) (boxes spots : List Float) (ends : List ℕ) (boxed : Boxed boxes nodes (length nodes)) where
  abbrev that : Board
  that = board_of o nodes ports edges bundles members

  pub sliced : 4 * length nodes ≤ length boxes → 2 * length edges ≤ length ends → Ended ends edges (length edges) → Sliced that (take (4 * length nodes) boxes) (take (2 * length edges) ends)
  sliced room more ended = record { nodes = nodes_sliced boxes nodes room boxed; edges = ends_sliced ends edges more ended }

  pub stands : Spotted spots boxes ports bundles (length bundles) → (i : ℕ) → i < length bundles → endpoint_of that (get_or bundles i no_bundle) ≡ point_at spots i
  stands spotted i h =
      let p = get_or ports (get_or bundles i no_bundle).port no_port in
      let hn = sound.ports_on (get_or bundles i no_bundle).port (sound.bundles_on i h).port_in in
      sym (ap (λ (n : PlacedNode). endpoint n p) (boxed p.node hn)) ∙ sym (spotted i h)

-- ---- the members' edges and lanes

-- the edges and lanes of the first n members
abbrev pub Listed : List ℕ → List ℕ → List Member → ℕ → Type 0
Listed edges lanes rows n = (k : ℕ) → k < n → (get_or edges k 0 ≡ (get_or rows k no_member).edge) × (get_or lanes k 0 ≡ (get_or rows k no_member).tap_lane)

abbrev listed_at : List ℕ → List ℕ → List Member → ℕ → Type 0
listed_at edges lanes rows k = (get_or edges k 0 ≡ (get_or rows k no_member).edge) × (get_or lanes k 0 ≡ (get_or rows k no_member).tap_lane)

pub listed_next : (edges lanes : List ℕ) (rows : List Member) (i : ℕ) (m : Member) → m ≡ get_or rows i no_member → i < length edges → i < length lanes → Listed edges lanes rows i → Listed (set edges i m.edge) (set lanes i m.tap_lane) rows (i + 1)
listed_next edges lanes rows i m e h k =
    upto_next (listed_at edges lanes rows) (listed_at (set edges i m.edge) (set lanes i m.tap_lane) rows) i
    (λ j b w.
    let z : j ≡ i → ⊥ = λ y. omega arith in
    (get_or-set_other edges i j m.edge 0 z ∙ w.0, get_or-set_other lanes i j m.tap_lane 0 z ∙ w.1))
    (get_or-set_same edges i m.edge 0 h ∙ ap (λ (x : Member). x.edge) e, get_or-set_same lanes i m.tap_lane 0 k ∙ ap (λ (x : Member). x.tap_lane) e)

-- the members that are listed
pub listed_are : (edges lanes : List ℕ) (rows : List Member) (n s : ℕ) → s + n ≤ length rows → ((k : ℕ) → k < s + n → (get_or edges k 0 ≡ (get_or rows k no_member).edge) × (get_or lanes k 0 ≡ (get_or rows k no_member).tap_lane)) → members_from edges lanes s n ≡ take n (drop s rows)
unfolding members_from
listed_are edges lanes rows zero s h l = refl
listed_are edges lanes rows (suc n) s h l =
    let a = l s (omega arith) in
    let d = drop-cons rows s no_member (omega arith) in
    let w = listed_are edges lanes rows n (suc s) (omega arith) (λ k b. l k (omega arith)) in
    rw (d, a.0, a.1, w)

module _ (edges lanes : List ℕ) (members : List Member) (exact : length edges ≡ length members) (listed : Listed edges lanes members (length members)) where
  pub members_are : members ≡ members_all edges lanes
  members_are =
      sym (ap (members_from edges lanes 0) exact
      ∙ listed_are edges lanes members (length members) 0 (omega arith) (λ k h. listed k (omega arith))
      ∙ take_all (length members) members (omega arith))

  pub lists : (us : List Bundle) (m : ℕ) → length lanes ≡ length members → ((i : ℕ) → i < length members → (get_or members i no_member).edge < m) → ((i : ℕ) → i < length members → (get_or members i no_member).tap_lane ≤ max_lane) → Follow 0 (length members) us → Once members us → Lists us edges lanes m
  lists us m long known small follow once =
      record {
        follow = subst (λ (k : ℕ). Follow 0 k us) (sym exact) follow;
        once = subst (λ (ms : List Member). Once ms us) members_are once;
        known = λ k h. let e = (listed k (omega arith)).0 in let w = known k (omega arith) in omega arith;
        laned = omega arith;
        small = λ k. go k (ltb k (length members)) refl;
      }
    where
      go : (k : ℕ) (x : Bool) → ltb k (length members) ≡ x → get_or lanes k 0 ≤ max_lane
      go k true q =
          let h : k < length members = omega (arith, ltb-true) in
          let e = (listed k h).1 in
          let w = small k h in
          omega arith
      go k false q =
          let h : length lanes ≤ k = omega (arith, ltb-false) in
          let e = get_or-eq_default lanes 0 h in
          omega arith
