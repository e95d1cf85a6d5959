-- What the columns of the members' rows hold at a place. Assumes nothing.
use Rattle.std.specs.Prelude.{◌≡◌, List, [], ◌∷◌, map, ℕ, zero, suc, ◌+◌, ◌-◌, ◌≤◌, ◌<◌, length, get_or, take, drop, refl}
use Rattle.std.proofs.Common.{sym, ◌∙◌, ap, arith, length-drop, get_or-take, get_or-drop}
use Rattle.std.proofs.Math.Seq.{length-take-le}
use Rattle.std.proofs.lemmas.List.{length-map}
use Rattle.board.specs.declared.Member.{Member}
use Rattle.plan.specs.Over.{edge_of}
use Rattle.plan.specs.BoardTables.{no_member}
use Rattle.std.proofs.lemmas.List.{drop-map, take-map}
use Rattle.board.specs.Board.{window}
use Rattle.board.specs.declared.Bundle.{Bundle}
use Rattle.plan.specs.Prepared.{Below}
use Rattle.plan.specs.MemberColumns.{lane_of, edges_of, lanes_of}
use Rattle.plan.proofs.TableReads.{get_d_any}

-- a column of rows, with what a read past the end of each gives
pub got_mapped : {A B : Type 0} (f : A → B) (l : List A) (i : ℕ) (d : A) → get_or (map f l) i (f d) ≡ f (get_or l i d)
got_mapped f [] i d = refl
got_mapped f (x ∷ l) zero d = refl
got_mapped f (x ∷ l) (suc i) d = got_mapped f l i d

pub edge_got : (ms : List Member) (i : ℕ) → get_or (edges_of ms) i 0 ≡ (get_or ms i no_member).edge
edge_got ms i = got_mapped edge_of ms i no_member

pub lane_got : (ms : List Member) (i : ℕ) → get_or (lanes_of ms) i 0 ≡ (get_or ms i no_member).tap_lane
lane_got ms i = got_mapped lane_of ms i no_member

-- the same of a row that is there, whatever a read past the end would give
pub edge_there : (ms : List Member) (i : ℕ) (d : Member) → i < length ms → get_or (edges_of ms) i 0 ≡ (get_or ms i d).edge
edge_there ms i d h = edge_got ms i ∙ ap edge_of (get_d_any ms i no_member d h)

pub lane_there : (ms : List Member) (i : ℕ) (d : Member) → i < length ms → get_or (lanes_of ms) i 0 ≡ (get_or ms i d).tap_lane
lane_there ms i d h = lane_got ms i ∙ ap lane_of (get_d_any ms i no_member d h)

-- how long they are
pub edges_long : (ms : List Member) → length (edges_of ms) ≡ length ms
edges_long ms = length-map ms edge_of

pub lanes_long : (ms : List Member) → length (lanes_of ms) ≡ length ms
lanes_long ms = length-map ms lane_of

-- the edges of a window are the window of the edges
pub edges_window : (ms : List Member) (first n : ℕ) → window first n (edges_of ms) ≡ map edge_of (window first n ms)
edges_window ms first n = ap (take n) (drop-map edge_of first ms) ∙ take-map edge_of n (drop first ms)

-- ---- a bundle's members, as the slice of them that is lent
module _ (ms : List Member) (first n : ℕ) where
  pub part_long : first + n ≤ length ms → length (take (first + n - first) (drop first ms)) ≡ n
  part_long k =
      let w : first + n - first ≡ n = omega arith in
      length-take-le (first + n - first) (drop first ms) (omega (arith, length-drop first ms)) ∙ w

  pub part_read : (i : ℕ) (d : Member) → i < n → get_or (take (first + n - first) (drop first ms)) i d ≡ get_or ms (first + i) d
  part_read i d h =
      let w : i < first + n - first = omega arith in
      get_or-take (first + n - first) (drop first ms) i d w ∙ get_or-drop first ms i d

  pub part_edge : (i : ℕ) → i < n → (get_or (take (first + n - first) (drop first ms)) i no_member).edge ≡ get_or (edges_of ms) (first + i) 0
  part_edge i h = ap edge_of (part_read i no_member h) ∙ sym (edge_got ms (first + i))

  pub part_lane : (i : ℕ) → i < n → (get_or (take (first + n - first) (drop first ms)) i no_member).tap_lane ≡ get_or (lanes_of ms) (first + i) 0
  part_lane i h = ap lane_of (part_read i no_member h) ∙ sym (lane_got ms (first + i))

-- what is asked of a bundle's rows, said of a member of the slice
module _ (ms : List Member) (u : Bundle) (k : u.first + u.count ≤ length ms) (i : ℕ) (h : i < length (take (u.first + u.count - u.first) (drop u.first ms))) where
  pub place_in : i < u.count
  place_in = omega (arith, h, part_long ms u.first u.count k)

  pub edge_below : (top : ℕ) → Below top (edges_of ms) u → (get_or (take (u.first + u.count - u.first) (drop u.first ms)) i no_member).edge < top
  edge_below top b = omega (arith, b.low i place_in, part_edge ms u.first u.count i place_in)

  pub lane_below : (top : ℕ) → Below top (lanes_of ms) u → (get_or (take (u.first + u.count - u.first) (drop u.first ms)) i no_member).tap_lane < top
  lane_below top b = omega (arith, b.low i place_in, part_lane ms u.first u.count i place_in)
