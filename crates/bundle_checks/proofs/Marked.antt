-- A cleared mask, marked member after member.
-- Assumes nothing.
use Prim.Native.Nat.{ℕ, zero, suc, ◌+◌, ◌-◌, ◌≤◌, ◌<◌}
use mathlib.Core.Path.{◌≡◌, refl, sym, ap, ◌∙◌}
use mathlib.Core.List.{List, []}
use mathlib.Core.Bool.{Bool, true, false, ◌||◌}
use native.Mathlib.Omega.{arith}
use native.Mathlib.Numerals.{add-one}
use lib.Dec.{eqb}
use Rattle.geometry.specs.declared.Point.{Point}
use lib.ListN.{length, get_or, set, take, drop, length-set}
use lib.Seq.{get_or-set_same, get_or-set_other}
use borrow.Author.Tests.{eqb-true, eqb-false}
use Rattle.board.specs.declared.Member.{Member}
use Rattle.plan.specs.BoardTables.{no_member}
use Rattle.plan.specs.MemberColumns.{edges_of}
use Rattle.plan.proofs.MemberColumns.{edge_got, edges_long, part_edge, part_long}
use Rattle.plan.proofs.TableReads.{rest_cons, rest_none}
use Rattle.drawing.specs.Check.{among}
use Rattle.checks.specs.CheckRows.{Tabled}
use Rattle.checks.specs.MemberSlices.{members_from, Blank, Known, Marks}

module _ (ms : List Member) where
  -- marked so far, or among the members that are left
  abbrev pub MarkedTo : List Bool → ℕ → Type 0
  MarkedTo mask i = (k : ℕ) → k < length mask → (get_or mask k false || among (drop i ms) k) ≡ among ms k

  pub marked_start : (mask : List Bool) → Blank mask → MarkedTo mask 0
  marked_start mask h k l = rw (h k l)

  abbrev edge_at : ℕ → ℕ
  edge_at i = (get_or ms i no_member).edge

  among_next : (i k : ℕ) → i < length ms → among (drop i ms) k ≡ (eqb (edge_at i) k || among (drop (i + 1) ms) k)
  unfolding among
  among_next i k h = rw (rest_cons ms i no_member h)

  or_true : (x : Bool) → (x || true) ≡ true
  or_true true = refl
  or_true false = refl

  pub marked_next : (mask : List Bool) (i : ℕ) → i < length ms → edge_at i < length mask → MarkedTo mask i → MarkedTo (set mask (edge_at i) true) (i + 1)
  marked_next mask i h l m k n = go (eqb (edge_at i) k) refl
    where
      was : (get_or mask k false || among (drop i ms) k) ≡ among ms k
      was = let z = length-set mask (edge_at i) true in m k (omega (arith, z, n))

      go : (b : Bool) → eqb (edge_at i) k ≡ b → (get_or (set mask (edge_at i) true) k false || among (drop (i + 1) ms) k) ≡ among ms k
      go true e =
          let z : edge_at i ≡ k = eqb-true (edge_at i) k e in
          let y : get_or (set mask (edge_at i) true) k false ≡ true = ap (λ (j : ℕ). get_or (set mask (edge_at i) true) j false) (sym z) ∙ get_or-set_same mask (edge_at i) true false l in
          ap (λ (b : Bool). b || among (drop (i + 1) ms) k) y ∙ sym (or_true (get_or mask k false)) ∙ sym (ap (λ (b : Bool). get_or mask k false || b) (among_next i k h ∙ ap (λ (b : Bool). b || among (drop (i + 1) ms) k) e)) ∙ was
      go false e =
          let z = eqb-false (edge_at i) k e in
          ap (λ (b : Bool). b || among (drop (i + 1) ms) k) (get_or-set_other mask (edge_at i) k true false (λ y. z (sym y)))
          ∙ sym (ap (λ (b : Bool). get_or mask k false || b) (among_next i k h ∙ ap (λ (b : Bool). b || among (drop (i + 1) ms) k) e))
          ∙ was

  or_false : (x : Bool) → (x || false) ≡ x
  or_false true = refl
  or_false false = refl

  pub marked_end : (mask : List Bool) (i : ℕ) → length ms ≤ i → MarkedTo mask i → Marks ms mask
  unfolding among
  marked_end mask i h m k l =
      let e : among (drop i ms) k ≡ false = rw (rest_none ms i h) in
      sym (or_false (get_or mask k false)) ∙ ap (λ (b : Bool). get_or mask k false || b) (sym e) ∙ m k l

-- ---- a bundle's members, lent as a slice of all

module _ (ms : List Member) where
  among_part : (n first k : ℕ) → first + n ≤ length ms → among (take n (drop first ms)) k ≡ among (members_from (edges_of ms) [] first n) k
  unfolding among members_from
  among_part zero first k h = refl
  among_part (suc n) first k h =
      let e = rest_cons ms first no_member (omega arith) in
      let a = add-one first in
      rw (e, edge_got ms first, a) (ap (λ (b : Bool). eqb (get_or ms first no_member).edge k || b) (among_part n (suc first) k (omega arith)))

module _ (ms : List Member) (first n : ℕ) (h : first + n ≤ length ms) where
  abbrev part : List Member
  part = take (first + n - first) (drop first ms)

  pub part_known : (most : ℕ) → Known (edges_of ms) first n most → (i : ℕ) → i < length part → (get_or part i no_member).edge < most
  part_known most k i l =
      let j : i < n = omega (arith, l, part_long ms first n h) in
      rw (part_edge ms first n i j) (k i j)

  pub part_marks : (mask : List Bool) → Marks part mask → Marks (members_from (edges_of ms) [] first n) mask
  part_marks mask m k l =
      let w : first + n - first ≡ n = omega arith in
      m k l ∙ ap (λ (c : ℕ). among (take c (drop first ms)) k) w ∙ among_part ms n first k h

pub rows_inside : (ms : List Member) (first n : ℕ) (taps : List Point) → Tabled first n (edges_of ms) taps → first + n ≤ length ms
rows_inside ms first n taps t = let m = t.members in omega (arith, m, edges_long ms)
