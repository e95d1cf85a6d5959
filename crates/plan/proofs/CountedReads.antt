-- Reads of a table of rows with a count: the laws of whole lists (TableReads), said of its first rows. No function's proof cites them.
-- Assumes nothing.
use Rattle.std.specs.Prelude.{◌≡◌, refl, List, ℕ, ◌+◌, ◌-◌, ◌≤◌, ◌<◌, ◌++◌, length, get_or, take, drop, set, Float}
use Rattle.std.proofs.Common.{sym, ◌∙◌, ap, subst, arith, length-drop, get_or-take, get_or-drop}
use Rattle.board.specs.declared.PlacedNode.{PlacedNode}
use Rattle.board.specs.declared.Port.{Port}
use Rattle.board.specs.declared.Bundle.{Bundle}
use Rattle.board.specs.declared.Member.{Member}
use Rattle.board.specs.Board.{Board}
use Rattle.plan.specs.declared.Used.{Used}
use Rattle.plan.specs.declared.Deeper.{Deeper}
use Rattle.plan.specs.Depths.{no_port, no_node, port_of, node_of, members_in, pitch_of, lane_count, boundary_depth, offsets_from}
use Rattle.plan.specs.BoardTables.{deeper, no_bundle, no_member}
use Rattle.plan.proofs.TableReads.{null_port, null_node, get_d_any, row, length_part, lane_last}
use Rattle.plan.proofs.TableReads as lists

-- ---- the last member's lane
pub lane_none : (l : List Member) (first : ℕ) → lane_count (take 0 (drop first l)) ≡ 0
unfolding lane_count
lane_none l first = refl

pub lane_at : (l : List Member) (n first count : ℕ) → n ≤ length l → first + count ≤ n → 0 < count
    → lane_count (take count (drop first (take n l))) ≡ (get_or l (first + count - 1) no_member).tap_lane + 1
lane_at l n first count h k z =
    let m = take n l in
    let a : length m ≡ n = length_part l n h in
    let part = drop first m in
    let b : count ≤ length part = omega (arith, length-drop first m) in
    let c : length (take count part) ≡ count = length_part part count b in
    let e : first + (count - 1) ≡ first + count - 1 = omega arith in
    let lt : count - 1 < count = omega arith in
    let lt2 : first + count - 1 < n = omega arith in
    lane_last (take count part) (omega arith)
    ∙ ap (λ (j : ℕ). (get_or (take count part) (j - 1) no_member).tap_lane + 1) c
    ∙ ap (λ (x : Member). x.tap_lane + 1) (get_or-take count part (count - 1) no_member lt ∙ get_or-drop first m (count - 1) no_member ∙ ap (λ (j : ℕ). get_or m j no_member) e ∙ get_or-take n l (first + count - 1) no_member lt2)

-- ---- a bundle's node
module _ (b : Board) (ports : List Port) (m : ℕ) (ep : b.ports ≡ take m ports) (kp : m ≤ length ports) (u : Bundle) (hp : u.port < m) where
  pub port_read : get_or ports u.port null_port ≡ port_of b u
  port_read = row ports m u.port null_port no_port hp kp ∙ sym (ap (λ (l : List Port). get_or l u.port no_port) ep)

  pub node_read : (nodes : List PlacedNode) (n : ℕ) → b.nodes ≡ take n nodes → n ≤ length nodes → (get_or ports u.port no_port).node < n
      → get_or nodes (get_or ports u.port null_port).node null_node ≡ node_of b u
  node_read nodes n en kn hn =
      let e = get_d_any ports u.port null_port no_port (omega arith) in
      let hn' : (get_or ports u.port null_port).node < n = subst (λ (p : Port). p.node < n) (sym e) hn in
      row nodes n (get_or ports u.port null_port).node null_node no_node hn' kn
      ∙ sym (ap (λ (l : List PlacedNode). get_or l (get_or ports u.port null_port).node no_node) en)
      ∙ ap (λ (p : Port). get_or b.nodes p.node no_node) port_read

-- ---- corridor_depth_offsets
pub offsets_turn : (b : Board) (l : List Bundle) (n i : ℕ) (rows : List Float) (w : Used) (p d : Float) (k : ℕ) (x : Deeper) → i < n → n ≤ length l → i < length rows
    → p ≡ pitch_of b (get_or l i no_bundle) → d ≡ boundary_depth b (get_or l i no_bundle) → k ≡ lane_count (members_in b (get_or l i no_bundle)) → x ≡ deeper p d k (get_or l i no_bundle).role w
    → take (i + 1) (set rows i x.offset) ++ offsets_from b (drop (i + 1) (take n l)) x.used ≡ take i rows ++ offsets_from b (drop i (take n l)) w
offsets_turn b l n i rows w p d k x h m r ep ed ek ex =
    let e : get_or l i no_bundle ≡ get_or (take n l) i no_bundle = sym (get_or-take n l i no_bundle h) in
    lists.offsets_turn b (take n l) i rows w p d k x (omega (arith, h, length_part l n m)) r
    (ep ∙ ap (pitch_of b) e) (ed ∙ ap (boundary_depth b) e) (ek ∙ ap (λ (u : Bundle). lane_count (members_in b u)) e) (ex ∙ ap (λ (u : Bundle). deeper p d k u.role w) e)

pub offsets_end : (b : Board) (l : List Bundle) (n i : ℕ) (rows : List Float) (w : Used) → n ≤ i → n ≤ length l → take i rows ≡ take i rows ++ offsets_from b (drop i (take n l)) w
offsets_end b l n i rows w h m = lists.offsets_end b (take n l) i rows w (omega (arith, h, length_part l n m))
