-- A bundle's members and taps as the tables have them, and as slices of just these.
-- Assumes nothing.
use Rattle.std.specs.Prelude.{ℕ, ◌+◌, ◌-◌, ◌≤◌, ◌<◌, ◌≡◌, List, ◌++◌, length, get_or, take, drop}
use Rattle.std.proofs.Common.{arith, ap, sym, ◌∙◌, length-drop, length-append}
use Rattle.std.proofs.Math.Seq.{length-take-le}
use Rattle.std.proofs.lemmas.List.{get_or-append_right, get_or-take, get_or-drop}
use Rattle.std.proofs.lemmas.Slice.{between-put_mid}
use mathlib.Core.Logic.{inl, inr}
use lib.ListN.{get_or-append}
use borrow.Rule.Slice.PartMut.{post_of, put_mid}
use Rattle.geometry.specs.declared.Point.{Point}
use Rattle.board.specs.declared.Options.{Options}
use Rattle.board.specs.declared.Bundle.{Bundle}
use Rattle.board.specs.declared.Member.{Member}
use Rattle.board.specs.declared.DrawnBundle.{DrawnBundle}
use Rattle.board.specs.Board.{Board}
use Rattle.plan.specs.Over.{edge_of}
use Rattle.plan.specs.MemberColumns.{edges_of, lanes_of}
use Rattle.plan.proofs.MemberColumns.{edge_there, edges_long, part_long, part_read}
use Rattle.drawing.specs.Build.{TapOn}
use Rattle.checks.specs.CheckRows.{no_point, taps_from, drawn_of, Tabled}
use Rattle.checks.specs.MemberSlices.{members_from, Untouched, Known, Row, Seen}
use Rattle.checks.specs.LentRows.{taps_of, EdgesBelow}
use Rattle.checks.proofs.Windows.{window_members, window_taps}
use Rattle.bundle_geometry.proofs.Built.{with_taps}

-- what is asked of a bundle's members, said of the slice of them
pub edges_below : (ms : List Member) (first n top : ℕ) → first + n ≤ length ms → Known (edges_of ms) first n top → EdgesBelow top (take (first + n - first) (drop first ms))
edges_below ms first n top inside known i d h =
    let p : i < n = omega (arith, h, part_long ms first n inside) in
    omega (arith, known i p, edge_there ms (first + i) d (omega arith), ap edge_of (part_read ms first n i d p))

-- ---- a part of a slice, and the slice with another list in its place

pub part_size : {A : Type 0} (l : List A) (first n : ℕ) → first + n ≤ length l → length (take (first + n - first) (drop first l)) ≡ n
part_size l first n h = length-take-le (first + n - first) (drop first l) (omega (arith, length-drop first l)) ∙ omega arith

module _ {A : Type 0} (d : A) (s w : List A) (b k : ℕ) (inside : b + k ≤ length s) (size : length w ≡ k) where
  first_length : length (take b s) ≡ b
  first_length = length-take-le b s (omega arith)

  pub read_before : (i : ℕ) → i < b → get_or (put_mid b k s w) i d ≡ get_or s i d
  read_before i h = get_or-append (take b s) (w ++ post_of b k s) d i (omega (arith, first_length)) ∙ get_or-take b s i d h

  pub read_after : (i : ℕ) → b + k ≤ i → get_or (put_mid b k s w) i d ≡ get_or s i d
  read_after i h =
      let e : b + (k + (i - b - k)) ≡ i = omega arith in
      get_or-append_right (take b s) (w ++ post_of b k s) b i d first_length (omega arith)
      ∙ get_or-append_right w (post_of b k s) k (i - b) d size (omega arith)
      ∙ get_or-drop k (drop b s) (i - b - k) d
      ∙ get_or-drop b s (k + (i - b - k)) d
      ∙ ap (λ (j : ℕ). get_or s j d) e

-- ---- a bundle's taps written

module _ (ms : List Member) (t w : List Point) (u : Bundle) (k : ℕ) (wide : k ≡ u.first + u.count - u.first) (tabled : Tabled u.first u.count (edges_of ms) t) (size : length w ≡ u.count) where
  abbrev those : List Member
  those = take k (drop u.first ms)

  abbrev after : List Point
  after = put_mid u.first k t w

  members_in : u.first + u.count ≤ length ms
  members_in = omega (arith, tabled.members, edges_long ms)

  pub kept : Untouched t after u.first u.count
  kept j (inl h) = read_before no_point t w u.first k (omega (arith, tabled.places)) (omega arith) j h
  kept j (inr h) = read_after no_point t w u.first k (omega (arith, tabled.places)) (omega arith) j (omega arith)

  length_after : u.first + u.count ≤ length after
  length_after =
      omega (
        arith,
        size,
        tabled.places,
        length-append (take u.first t) (w ++ post_of u.first k t),
        length-append w (post_of u.first k t),
        length-take-le u.first t (omega (arith, tabled.places)),
      )

  written : take u.count (drop u.first after) ≡ w
  written =
      let e : u.first + u.count - u.first ≡ u.count = omega arith in
      rw e at (between-put_mid u.first k t w (u.first + u.count) (omega (arith, tabled.places)) (omega arith))

  pub drawn_is : (d : DrawnBundle) → Row u d → drawn_of (edges_of ms) after d ≡ with_taps those w d
  drawn_is d r =
      let e : k ≡ u.count = omega arith in
      let a : taps_from (edges_of ms) after d.first d.count ≡ taps_of those w =
      rw (r.first, r.count) (window_taps ms after u.count u.first members_in length_after ∙ ap (taps_of (take u.count (drop u.first ms))) written ∙ ap (λ (n : ℕ). taps_of (take n (drop u.first ms)) w) (sym e)) in
      ap (λ (ts : List TapOn). record { collector = d.collector; spine = d.spine; taps = ts; interior = d.interior }) a

  pub seen_in : (b : Board) (o : Options) (end : Point) → Seen b o u end (members_from (edges_of ms) (lanes_of ms) u.first u.count) → Seen b o u end those
  seen_in b o end s =
      let e : k ≡ u.count = omega arith in
      record { options = s.options; endpoint = s.endpoint; members = s.members ∙ window_members ms u.count u.first members_in ∙ ap (λ (n : ℕ). take n (drop u.first ms)) (sym e) }
