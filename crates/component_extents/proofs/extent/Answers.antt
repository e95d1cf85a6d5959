-- `component_extents::extent` meets its contract. Assumes nothing.
use mathlib.Core.Path.{◌≡◌, ◌∙◌, ap}
use Prim.Native.Nat.{ℕ}
use lib.ListN.{length, get_or}
use Rattle.binary64.specs.Accepted.{zero64}
use Rattle.plan.specs.Plan.{Ranged, if_between, desired_at}
use Rattle.plan.specs.Prepared.{range_at}
use Rattle.plan.proofs.TableReads as rows
use Rattle.components.specs.Settled.{ranges_in, bound_in, bound_at}
use Rattle.components.proofs.Turns as laws
use Rattle.component_extents.proofs.Rest.{after_first, after_first_are, after_first_listed}
use Rattle.component_extents.proofs.extent.Goals as goal
use Rattle.component_extents.proofs.extent.Goals.{Start}

bound-read : (s : Start) (i : ℕ) → bound_in s.args.role (range_at s.args.ranges.now i).bounds ≡ bound_at s.args.role (ranges_in s.args.ranges.now) i
bound-read s i = ap (λ (z : Ranged). bound_in s.args.role z.bounds) (laws.range_read s.args.ranges.now i)

desired-read : (s : Start) (i : ℕ) → if_between (range_at s.args.ranges.now i).bounds zero64 (λ r. r.desired) ≡ desired_at (ranges_in s.args.ranges.now) i
desired-read s i = ap (λ (z : Ranged). if_between z.bounds zero64 (λ r. r.desired)) (laws.range_read s.args.ranges.now i)

pub loop-i-init : goal.loop-i-init
loop-i-init c =
    let w = c.args.which.now in
    let s = (goal.at.loop-i-init c).Start in record {
      listed = after_first_listed w (length c.args.ranges.now) c.requires.1;
      inmost_is = rw (after_first_are w, c.bound_of-bound.ensures ∙ bound-read s (get_or w 0 0), c.desired_of-desired.ensures ∙ desired-read s (get_or w 0 0));
    }

pub loop-i-preserved : goal.loop-i-preserved
loop-i-preserved c =
    let a = c.args in
    let l = c.loop-i in
    let s = (goal.at.loop-i-preserved c).Start in
    let w = after_first a.which.now in
    let i : ℕ = get_or w l.i-index 0 in
    let p = rows.rest_cons w l.i-index 0 c.loop-i-test.true in record {
      listed = l.invariant.listed;
      inmost_is =
          laws.extent _ _ _ _
          (laws.inmost_turn a.role (bound_at a.role (ranges_in a.ranges.now)) l.bound _ _ i _ _ p (c.bound_of.ensures ∙ bound-read s i) c.inner-bound.ensures)
          (laws.inmost_turn a.role (desired_at (ranges_in a.ranges.now)) l.desired _ _ i _ _ p (c.desired_of.ensures ∙ desired-read s i) c.inner-desired.ensures)
          ∙ l.invariant.inmost_is;
    }

pub returns : goal.returns
returns c =
    let a = c.args in
    let l = c.loop-i in
    let p = rows.rest_none (after_first a.which.now) l.i-index c.loop-i-test.false in
    laws.extent _ _ _ _
    (laws.inmost_end a.role (bound_at a.role (ranges_in a.ranges.now)) l.bound _ p)
    (laws.inmost_end a.role (desired_at (ranges_in a.ranges.now)) l.desired _ p)
    ∙ l.invariant.inmost_is
