-- `search_lists::try_candidates` meets its contract. Each loop's invariant says that its definition from the loop's start is the one from here on. The common candidates stand at the front of the slice, before the one that is tried. Assumes nothing.
use Rattle.std.specs.Prelude.{Option, Float}
use mathlib.Core.Path.{◌≡◌, sym, ◌∙◌, ap}
use mathlib.Core.Bool.{Bool, true, false}
use mathlib.Core.List.{List, []}
use Prim.Native.Nat.{ℕ, ◌+◌, ◌-◌, ◌*◌, ◌≤◌, ◌<◌}
use native.Mathlib.Omega.{arith}
use borrow.Author.Rules.{rules}
use lib.ListN.{length, get_or, take, drop}
use lib.Seq.{drop-set-lt}
use lib.Ieee.{nan}
use Rattle.geometry.specs.Stretch.{holds}
use Rattle.geometry.specs.Points.{point_at}
use Rattle.search.specs.Kept.{spanned, members_from}
use Rattle.search.specs.Search.{Tried, lacked, unpaid, after, or_else, tried_on, tried_on_all, tried}
use Rattle.search_lists.proofs.Walk as walk
use Rattle.search_lists.proofs.Walk.{K, N}
use Rattle.search_lists.proofs.try_candidates.Goals as goal
use Rattle.search_lists.proofs.try_candidates.Goals.{At-loop-j, At-members, In-loop-j, In-members}

-- the whole pass, at the members' loop: what follows from the members that are left
whole : (c : At-members)
    → let a = c.args in
    let ms = members_from a.kept.now 0 a.counts.now in
    let x = get_or c.candidates.xs c.candidates.i nan in
    tried ms a.xs.now [] a.granted.0
    ≡ walk.next ms (take c.candidates.n c.candidates.xs) c.candidates.left.0 (drop (c.candidates.i + 1) c.candidates.xs) x
    (tried_on_all x (N a.kept.now a.counts.now c.members.at c.members.count-index) c.members.left.0)
whole c =
    let a = c.args in
    let ms = members_from a.kept.now 0 a.counts.now in
    let x = get_or c.candidates.xs c.candidates.i nan in
    let h : c.candidates.i < length c.candidates.xs = omega (arith, c.candidates.invariant.i_within, c.if-i-xs.false) in
    c.candidates.invariant.passed
    ∙ walk.candidate_next ms (take c.candidates.n c.candidates.xs) c.candidates.left.0 c.candidates.xs c.candidates.i h
    ∙ ap (walk.next ms (take c.candidates.n c.candidates.xs) c.candidates.left.0 (drop (c.candidates.i + 1) c.candidates.xs) x) c.members.invariant.looks

-- the members from m on: what follows from the runs of the first of them
member : (c : In-members)
    → let a = c.args in
    let x = get_or c.candidates.xs c.candidates.i nan in
    let from = N a.kept.now a.counts.now in
    let runs = get_or a.counts.now c.members.count-index 0 - 1 in
    tried_on_all x (from c.members.at c.members.count-index) c.members.left.0
    ≡ after (tried_on x (K a.kept.now c.members.at runs) c.members.left.0) (tried_on_all x (from (c.members.at + runs) (c.members.count-index + 1))) lacked unpaid
member c =
    let a = c.args in
    let x = get_or c.candidates.xs c.candidates.i nan in
    ap (λ (ms : List (List (Option (Float × Float)))). tried_on_all x ms c.members.left.0) (walk.kept_next a.kept.now a.counts.now c.members.at c.members.count-index c.members-test.true)
    ∙ walk.try_member x _ _ c.members.left.0

-- and from those of its runs that are left
runs-left : (c : At-loop-j)
    → let a = c.args in
    let x = get_or c.candidates.xs c.candidates.i nan in
    let from = N a.kept.now a.counts.now in
    let end = c.members.at + (get_or a.counts.now c.members.count-index 0 - 1) in
    tried_on_all x (from c.members.at c.members.count-index) c.members.left.0
    ≡ after (tried_on x (K a.kept.now c.loop-j.j (end - c.loop-j.j)) c.loop-j.left.0) (tried_on_all x (from end (c.members.count-index + 1))) lacked unpaid
runs-left c =
    let a = c.args in
    let x = get_or c.candidates.xs c.candidates.i nan in
    let end = c.members.at + (get_or a.counts.now c.members.count-index 0 - 1) in
    member (goal.at.At-loop-j c).In-members
    ∙ ap (λ (o : Tried). after o (tried_on_all x (N a.kept.now a.counts.now end (c.members.count-index + 1))) lacked unpaid) c.loop-j.invariant.looks

-- a look at the first of these, which w visits are left after
look : (c : In-loop-j) (h : Bool) (w : ℕ)
    → let a = c.args in
    let x = get_or c.candidates.xs c.candidates.i nan in
    let end = c.members.at + (get_or a.counts.now c.members.count-index 0 - 1) in
    let left = tried_on x (K a.kept.now (c.loop-j.j + 1) (end - (c.loop-j.j + 1))) w in
    c.loop-j.left.0 ≡ w + 1 → holds x (spanned (point_at a.kept.now c.loop-j.j)) ≡ h → tried_on x (K a.kept.now c.loop-j.j (end - c.loop-j.j)) c.loop-j.left.0 ≡ or_else h w left
look c h w p e =
    let a = c.args in
    let x = get_or c.candidates.xs c.candidates.i nan in
    let end = c.members.at + (get_or a.counts.now c.members.count-index 0 - 1) in
    ap (λ (ss : List (Option (Float × Float))). tried_on x ss c.loop-j.left.0) (walk.kept_more a.kept.now c.loop-j.j end c.loop-j-test.true)
    ∙ walk.try_look x _ _ c.loop-j.left.0 h w p e

-- the kept pairs of member m lie in the slice
room : (c : In-members)
    → let a = c.args in
    2 * (c.members.at + (get_or a.counts.now c.members.count-index 0 - 1)) ≤ length a.kept.now
room c =
    let a = c.args in
    let n = walk.runs_next_kept a.kept.now a.counts.now c.members.at c.members.count-index c.members-test.true in
    omega (arith, c.members.invariant.room)

pub candidates-preserved-then-count-eq0 : goal.candidates-preserved-then-count-eq0
candidates-preserved-then-count-eq0 c =
    let a = c.args in
    let x = get_or c.candidates.xs c.candidates.i nan in
    let e : get_or a.counts.now c.members.count-index 0 - 1 ≡ 0 = omega (arith, c.if-count-eq0.true) in record {
      n_within = omega arith;
      i_within = omega arith;
      passed = whole (goal.at.candidates-preserved-then-count-eq0 c).At-members ∙ rw (member (goal.at.candidates-preserved-then-count-eq0 c).In-members, walk.kept_none a.kept.now c.members.at (get_or a.counts.now c.members.count-index 0 - 1) e, walk.try_end x c.members.left.0);
    }

pub overflow_add-end : goal.overflow_add-end
overflow_add-end c = search (rules, room (goal.at.overflow_add-end c).In-members)

pub kept_holds-requires : goal.kept_holds-requires
kept_holds-requires c = let r = room (goal.at.kept_holds-requires c).In-members in omega arith

pub members-preserved : goal.members-preserved
members-preserved c =
    let a = c.args in
    let x = get_or c.candidates.xs c.candidates.i nan in
    let end = c.members.at + (get_or a.counts.now c.members.count-index 0 - 1) in
    let n = walk.runs_next_kept a.kept.now a.counts.now c.members.at c.members.count-index c.members-test.true in record {
      room = omega (arith, c.members.invariant.room);
      looks = c.members.invariant.looks ∙ runs-left (goal.at.members-preserved c).At-loop-j
          ∙ ap (λ (o : Tried). after o (tried_on_all x (N a.kept.now a.counts.now end (c.members.count-index + 1))) lacked unpaid) (look (goal.at.members-preserved c).In-loop-j true c.charge.new.left.0 c.in-Ok.ensures (sym c.kept_holds.ensures ∙ c.if-kept_holds.true));
    }

pub loop-j-preserved : goal.loop-j-preserved
loop-j-preserved c =
    record { same_start = c.loop-j.invariant.same_start; looks = c.loop-j.invariant.looks ∙ look (goal.at.loop-j-preserved c).In-loop-j false c.charge.new.left.0 c.in-Ok.ensures (sym c.kept_holds.ensures ∙ c.if-kept_holds.false) }

pub candidates-preserved-in-members : goal.candidates-preserved-in-members
candidates-preserved-in-members c =
    let a = c.args in
    let x = get_or c.candidates.xs c.candidates.i nan in
    let end = c.members.at + (get_or a.counts.now c.members.count-index 0 - 1) in
    let e : end - c.loop-j.j ≡ 0 = omega arith in record {
      n_within = omega arith;
      i_within = omega arith;
      passed = whole (goal.at.candidates-preserved-in-members c).At-members ∙ rw (runs-left (goal.at.candidates-preserved-in-members c).At-loop-j, walk.kept_none a.kept.now c.loop-j.j (end - c.loop-j.j) e, walk.try_end x c.loop-j.left.0);
    }

pub candidates-preserved : goal.candidates-preserved
candidates-preserved c =
    let a = c.args in
    let x = get_or c.candidates.xs c.candidates.i nan in
    let h : c.candidates.n < length c.candidates.xs = omega arith in
    let h' : c.candidates.n < c.candidates.i + 1 = omega arith in record {
      n_within = omega arith;
      i_within = omega arith;
      passed = whole (goal.at.candidates-preserved c).At-members
          ∙ rw (walk.kept_end a.kept.now a.counts.now c.members.at c.members.count-index c.members-test.false, walk.try_members_end x c.members.left.0, walk.stored c.candidates.xs c.candidates.n x h, drop-set-lt (c.candidates.i + 1) c.candidates.xs c.candidates.n x h');
    }

pub returns-then-i-xs : goal.returns-then-i-xs
returns-then-i-xs c =
    let a = c.args in
    let ms = members_from a.kept.now 0 a.counts.now in
    record {
      within = omega arith;
      are = sym (c.candidates.invariant.passed ∙ walk.candidates_end ms (take c.candidates.n c.candidates.xs) c.candidates.left.0 c.candidates.xs c.candidates.i (omega (arith, c.if-i-xs.true)));
    }

pub returns : goal.returns
returns c =
    let a = c.args in
    let x = get_or c.candidates.xs c.candidates.i nan in
    let end = c.members.at + (get_or a.counts.now c.members.count-index 0 - 1) in
    record {
      within = tt;
      are = sym (whole (goal.at.returns c).At-members ∙ rw (runs-left (goal.at.returns c).At-loop-j, walk.kept_more a.kept.now c.loop-j.j end c.loop-j-test.true, walk.try_unpaid x _ _ c.loop-j.left.0 c.in_default.ensures));
    }
