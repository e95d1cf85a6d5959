-- `search_lists::gather` meets its contract. Each loop's invariant says that the first pass from the loop's start is the one from here on, with the candidates found so far at the front of the slice. Assumes nothing.
-- the runs of the members from m on
use Rattle.std.specs.Prelude.{Option, Some, None}
use mathlib.Core.Path.{◌≡◌, refl, sym, ◌∙◌, ap}
use mathlib.Core.List.{List, [], ◌∷◌, ◌++◌, map}
use Prim.Native.Nat.{ℕ, ◌+◌, ◌-◌, ◌*◌, ◌≤◌, ◌<◌}
use native.Mathlib.Omega.{arith}
use lib.ListN.{length, get_or, take, length-set}
use lib.Ieee.{Float}
use Rattle.std.proofs.lemmas.Result.{err_from_is_err_and}
use Rattle.search.specs.Stretches.{all_runs}
use Rattle.search.specs.Lent.{members_lent}
use Rattle.geometry.specs.Points.{points_from}
use Rattle.search.specs.Kept.{kept}
use Rattle.search.specs.Search.{candidate, onto, gathered_onto}
use Rattle.search.proofs.KeptLaws as laws
use Rattle.search_lists.proofs.Walk as walk
use Rattle.search_lists.proofs.Walk.{R, run}
use Rattle.search_lists.proofs.gather.Invariants.{from_member}
use Rattle.search_lists.proofs.gather.Goals as goal
use Rattle.search_lists.proofs.gather.Goals.{After-candidate_of-c, At-loop-i, At-loop-m, In-loop-i, in-Some, in_default}

abbrev from : At-loop-m → ℕ → List (Option (Float × Float))
from s m =
    let a = s.args in
    from_member a.sought.routes.points.now a.sought.role a.sought.pitch a.sought.routes.starts.now a.sought.routes.counts.now m

-- the runs of all members
abbrev all : At-loop-m → List (Option (Float × Float))
all s =
    let a = s.args in
    all_runs (members_lent a.sought.role a.sought.pitch a.sought.routes)

-- those of member m from run i on, and of the members behind it
abbrev behind : At-loop-i → ℕ → List (Option (Float × Float))
behind r i =
    let a = r.args in
    R a.sought.routes.points.now a.sought.role a.sought.pitch (get_or a.sought.routes.starts.now r.loop-m.m 0 + i) (get_or a.sought.routes.counts.now r.loop-m.m 0 - i) ++ from (goal.at.At-loop-i r).At-loop-m (r.loop-m.m + 1)

-- the whole pass, at the members' loop
whole : (s : At-loop-m)
    → let a = s.args in
    gathered_onto a.sought.role a.sought.bounds (a.sought.bounds.desired ∷ []) (all s) a.granted.0 ≡ gathered_onto a.sought.role a.sought.bounds (take s.loop-m.n s.loop-m.xs) (from s s.loop-m.m) s.loop-m.left.0
whole s =
    let a = s.args in
    let h : 0 < length a.xs.now = omega arith in
    ap (λ (l : List Float). gathered_onto a.sought.role a.sought.bounds l (all s) a.granted.0) (walk.stored a.xs.now 0 a.sought.bounds.desired h) ∙ s.loop-m.invariant.passed

next-member : (s : At-loop-m)
    → let a = s.args in
    s.loop-m.m < length a.sought.routes.starts.now
    → from s s.loop-m.m ≡ R a.sought.routes.points.now a.sought.role a.sought.pitch (get_or a.sought.routes.starts.now s.loop-m.m 0) (get_or a.sought.routes.counts.now s.loop-m.m 0) ++ from s (s.loop-m.m + 1)
next-member s h =
    let a = s.args in
    ap all_runs (walk.members_next a.sought.routes.points.now a.sought.role a.sought.pitch a.sought.routes.starts.now a.sought.routes.counts.now a.sought.routes.windows.paired s.loop-m.m h) ∙ walk.runs_next _ _

-- what is left of the pass at the members' loop, at the runs' loop
part : (r : At-loop-i)
    → let a = r.args in
    gathered_onto a.sought.role a.sought.bounds (take r.loop-m.n r.loop-m.xs) (from (goal.at.At-loop-i r).At-loop-m r.loop-m.m) r.loop-m.left.0
    ≡ gathered_onto a.sought.role a.sought.bounds (take r.loop-i.n r.loop-i.xs) (behind r r.loop-i.i) r.loop-i.left.0
part r = rw (next-member (goal.at.At-loop-i r).At-loop-m r.loop-m-test.true) r.loop-i.invariant.passed

-- what is left to keep at the members' loop, at the runs' loop
kept-part : (r : At-loop-i)
    → points_from r.loop-m.kept 0 r.loop-m.k ++ map kept (from (goal.at.At-loop-i r).At-loop-m r.loop-m.m)
    ≡ points_from r.loop-i.kept 0 r.loop-i.k ++ map kept (behind r r.loop-i.i)
kept-part r = rw (next-member (goal.at.At-loop-i r).At-loop-m r.loop-m-test.true) r.loop-i.invariant.keeps

-- a run is left
next-run : (c : In-loop-i)
    → let a = c.args in
    let r = (goal.at.In-loop-i c).At-loop-i in
    behind r c.loop-i.i ≡ run a.sought.routes.points.now a.sought.role a.sought.pitch (get_or a.sought.routes.starts.now c.loop-m.m 0 + c.loop-i.i) ∷ behind r (c.loop-i.i + 1)
next-run c =
    let a = c.args in
    let i = c.loop-i.i in
    let start = get_or a.sought.routes.starts.now c.loop-m.m 0 in
    let count = get_or a.sought.routes.counts.now c.loop-m.m 0 in
    let e : start + (i + 1) ≡ start + i + 1 = omega arith in
    let f : count - (i + 1) ≡ count - i - 1 = omega arith in
    let h : 1 < count - i = omega arith in
    rw (e, f) (ap (λ (l : List (Option (Float × Float))). l ++ from (goal.at.In-loop-i c).At-loop-m (c.loop-m.m + 1)) (walk.more a.sought.routes.points.now a.sought.role a.sought.pitch (start + i) (count - i) h))

room : (c : In-loop-i) → c.loop-i.n + 1 + length (behind (goal.at.In-loop-i c).At-loop-i (c.loop-i.i + 1)) ≤ length c.loop-i.xs
room c = omega (arith, rw (next-run c) at c.loop-i.invariant.room)

pair-room : (c : In-loop-i) → 2 * (c.loop-i.k + 1 + length (behind (goal.at.In-loop-i c).At-loop-i (c.loop-i.i + 1))) ≤ length c.loop-i.kept
pair-room c = omega (arith, rw (next-run c) at c.loop-i.invariant.pair_room)

-- a run's stretch, by the member's start
stretch_is : (e : After-candidate_of-c)
    → let a = e.args in
    e.run_stretch-s.result ≡ run a.sought.routes.points.now a.sought.role a.sought.pitch (get_or a.sought.routes.starts.now e.loop-m.m 0 + e.loop-i.i)
stretch_is e = let v = e.member_route-route.ensures in rw (v.0, v.1) at e.run_stretch-s.ensures

-- a run's candidate is taken or missing
stepped : (e : After-candidate_of-c) (o : Option Float) → e.candidate_of-c.result ≡ o
    → let a = e.args in
    let r = (goal.at.After-candidate_of-c e).At-loop-i in
    gathered_onto a.sought.role a.sought.bounds (take e.loop-i.n e.loop-i.xs) (behind r e.loop-i.i) e.loop-i.left.0
    ≡ gathered_onto a.sought.role a.sought.bounds (onto (take e.loop-i.n e.loop-i.xs) o) (behind r (e.loop-i.i + 1)) e.charge.new.left.0
stepped e o g =
    let a = e.args in
    let s = run a.sought.routes.points.now a.sought.role a.sought.pitch (get_or a.sought.routes.starts.now e.loop-m.m 0 + e.loop-i.i) in
    let k : candidate a.sought.role a.sought.bounds s ≡ o = ap (candidate a.sought.role a.sought.bounds) (sym (stretch_is e)) ∙ sym e.candidate_of-c.ensures ∙ g in
    rw (next-run (goal.at.After-candidate_of-c e).In-loop-i) (walk.gather_step a.sought.role a.sought.bounds (take e.loop-i.n e.loop-i.xs) s (behind (goal.at.After-candidate_of-c e).At-loop-i (e.loop-i.i + 1)) e.loop-i.left.0 o e.charge.new.left.0 e.in_ok-charge.ensures k)

-- a run's pair is kept
kept_more : (e : After-candidate_of-c)
    → let r = (goal.at.After-candidate_of-c e).At-loop-i in
    points_from e.loop-i.kept 0 e.loop-i.k ++ map kept (behind r e.loop-i.i) ≡ points_from e.put_point.new.out 0 (e.loop-i.k + 1) ++ map kept (behind r (e.loop-i.i + 1))
kept_more e =
    let a = e.args in
    let s = run a.sought.routes.points.now a.sought.role a.sought.pitch (get_or a.sought.routes.starts.now e.loop-m.m 0 + e.loop-i.i) in
    let h : 2 * (e.loop-i.k + 1) ≤ length e.loop-i.kept = omega (arith, pair-room (goal.at.After-candidate_of-c e).In-loop-i) in
    rw (next-run (goal.at.After-candidate_of-c e).In-loop-i) (laws.kept_step e.loop-i.kept e.put_point.new.out e.loop-i.k e.kept_of.result s (behind (goal.at.After-candidate_of-c e).At-loop-i (e.loop-i.i + 1))
    h (e.kept_of.ensures ∙ ap kept (stretch_is e)) e.put_point.ensures)

pub loop-m-init : goal.loop-m-init
unfolding points_from
loop-m-init c =
    let a = c.args in record {
      room = omega (arith, length-set a.xs.now 0 a.sought.bounds.desired);
      passed = refl;
      pair_room = omega (arith, c.requires);
      keeps = refl;
    }

pub loop-i-init : goal.loop-i-init
loop-i-init c =
    let a = c.args in
    let next = next-member (goal.at.loop-i-init c).At-loop-m c.loop-m-test.true in
    let e : get_or a.sought.routes.starts.now c.loop-m.m 0 + 0 ≡ get_or a.sought.routes.starts.now c.loop-m.m 0 = omega arith in
    let f : get_or a.sought.routes.counts.now c.loop-m.m 0 - 0 ≡ get_or a.sought.routes.counts.now c.loop-m.m 0 = omega arith in record {
      room = rw (e, f) (rw next at c.loop-m.invariant.room);
      passed = rw (e, f);
      pair_room = rw (e, f) (rw next at c.loop-m.invariant.pair_room);
      keeps = rw (e, f);
    }

pub loop-m-preserved : goal.loop-m-preserved
loop-m-preserved c =
    let a = c.args in
    let r = (goal.at.loop-m-preserved c).At-loop-i in
    let last : get_or a.sought.routes.counts.now c.loop-m.m 0 - c.loop-i.i ≤ 1 = omega arith in
    let e : behind r c.loop-i.i ≡ from (goal.at.loop-m-preserved c).At-loop-m (c.loop-m.m + 1) =
    ap (λ (l : List (Option (Float × Float))). l ++ from (goal.at.loop-m-preserved c).At-loop-m (c.loop-m.m + 1)) (walk.none a.sought.routes.points.now a.sought.role a.sought.pitch _ _ last) in record {
      room = rw e at c.loop-i.invariant.room;
      passed = c.loop-m.invariant.passed ∙ part r ∙ rw e;
      pair_room = rw e at c.loop-i.invariant.pair_room;
      keeps = c.loop-m.invariant.keeps ∙ kept-part r ∙ rw e;
    }

pub returns-in_err-charge-clause-found : goal.returns-in_err-charge-clause-found
returns-in_err-charge-clause-found c =
    let a = c.args in
    let p = err_from_is_err_and c.from_residual.result c.from_residual.ensures.1 in
    rw p.1 (record {
      within = tt;
      are = sym (whole (goal.at.returns-in_err-charge-clause-found c).At-loop-m ∙ part (goal.at.returns-in_err-charge-clause-found c).At-loop-i
          ∙ rw (next-run (goal.at.returns-in_err-charge-clause-found c).In-loop-i) (walk.gather_spent a.sought.role a.sought.bounds _ _ _ c.loop-i.left.0 c.in_err-charge.ensures));
    })

pub returns-in_err-charge-clause-keeps : goal.returns-in_err-charge-clause-keeps
returns-in_err-charge-clause-keeps c =
    let p = err_from_is_err_and c.from_residual.result c.from_residual.ensures.1 in
    rw p.1 tt

pub put_point-requires : goal.put_point-requires
put_point-requires c = let h = pair-room (goal.at.put_point-requires c).In-loop-i in omega arith

pub bounds-xs-n : goal.bounds-xs-n
bounds-xs-n c = let h = room (goal.at.bounds-xs-n c).In-loop-i in omega arith

pub loop-i-preserved : goal.loop-i-preserved
loop-i-preserved c =
    let e = (goal.at.loop-i-preserved c).After-candidate_of-c in
    let room' = room (goal.at.loop-i-preserved c).In-loop-i in
    let pair-room' = pair-room (goal.at.loop-i-preserved c).In-loop-i in
    let keeps' = c.loop-i.invariant.keeps ∙ kept_more e in
    elim c.match-c.branch [
      | in-Some w ↦
          let h : c.loop-i.n < length c.loop-i.xs = omega arith in record {
            room = omega arith;
            passed = c.loop-i.invariant.passed ∙ stepped e (Some w.in-Some.x) w.in-Some.is ∙ rw (w.xs-is, w.n-is, walk.stored c.loop-i.xs c.loop-i.n w.in-Some.x h);
            pair_room = omega (arith, pair-room', c.put_point.auto.out);
            keeps = keeps';
          }
      | in_default w ↦ record {
        room = omega arith;
        passed = c.loop-i.invariant.passed ∙ stepped e None w.in_default.is ∙ rw (w.xs-is, w.n-is);
        pair_room = omega (arith, pair-room', c.put_point.auto.out);
        keeps = keeps';
      }
    ]

end : (s : At-loop-m) → length s.args.sought.routes.starts.now ≤ s.loop-m.m → from s s.loop-m.m ≡ []
end s h =
    let a = s.args in
    ap all_runs (walk.members_end a.sought.routes.points.now a.sought.role a.sought.pitch a.sought.routes.starts.now a.sought.routes.counts.now a.sought.routes.windows.paired s.loop-m.m h) ∙ walk.runs_end

pub returns-clause-found : goal.returns-clause-found
returns-clause-found c =
    let a = c.args in
    let s = (goal.at.returns-clause-found c).At-loop-m in record {
      within = omega (arith, length-set a.xs.now 0 a.sought.bounds.desired);
      are = sym (whole s ∙ rw (end s c.loop-m-test.false) (walk.gather_end a.sought.role a.sought.bounds _ _));
    }

pub returns-clause-keeps : goal.returns-clause-keeps
returns-clause-keeps c =
    let s = (goal.at.returns-clause-keeps c).At-loop-m in
    laws.kept_whole c.loop-m.kept c.loop-m.k (all s) (c.loop-m.invariant.keeps ∙ rw (end s c.loop-m-test.false))
