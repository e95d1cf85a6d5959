-- `search_entry::promotion_collector_candidates` meets its contract: what is said of the call with plus zeros is said of the call. Assumes nothing.
use Rattle.std.specs.Prelude.{Bool, true, false, cond, Some, None}
use Rattle.std.specs.Bool.{then_some}
use Rattle.std.proofs.Common.{◌≡◌, refl}
use Rattle.search.specs.declared.Bounds.{Bounds}
use Rattle.binary64.specs.Accepted.{plus_zero}
use Rattle.search_calls.specs.Entry.{plus_zeros, collector_bounds}
use Rattle.search_calls.proofs.Copies as laws
use Rattle.search_entry.proofs.promotion_collector_candidates.Goals as goal
use Rattle.search_entry.proofs.promotion_collector_candidates.Goals.{After-promotion_checked, After-promotion_checked-2}

-- what a bool lets pass, as the definition of the bounds has it
either : (p : Bool) (b : Bounds) → then_some p b ≡ cond p (Some b) None
either true b = refl
either false b = refl

given : (e : After-promotion_checked) → let a = e.args in
    e.then_some-given.result ≡ collector_bounds a.present (plus_zero a.minimum) (plus_zero a.desired) (plus_zero a.maximum)
given e = rw (e.then_some-given.ensures, e.plain_bounds.ensures) (either _ _)

given_then : (e : After-promotion_checked-2) → let a = e.args in
    e.then_some-given.result ≡ collector_bounds a.present (plus_zero a.minimum) (plus_zero a.desired) (plus_zero a.maximum)
given_then e = rw (e.then_some-given.ensures, e.plain_bounds.ensures) (either _ _)

unfit : (e : After-promotion_checked) → let a = e.args in
    laws.PromotionSaid a.xs.now a.candidates.now a.scratch.now e.promotion_checked.result e.promotion_checked.new.xs e.promotion_checked.new.candidates e.promotion_checked.new.scratch
    (plus_zeros a.points.now) a.starts.now a.counts.now a.role (plus_zero a.pitch) (collector_bounds a.present (plus_zero a.minimum) (plus_zero a.desired) (plus_zero a.maximum)) a.granted
unfit e =
    let call = e.plain_pitch-refused in
    let same = call.ensures.plain call.result.role call.result.pitch call.result.granted in
    laws.promotion_carried _ _ _ _ _ _ _ _ _ _ _ _ _ _ _ _ _ _ _ call.ensures.counted call.ensures.pitched call.ensures.kept.0 call.ensures.kept.1 same _ _ (given e) (e.promotion_checked.ensures.replied, e.promotion_checked.ensures.untouched)

both : (e : After-promotion_checked-2) → let a = e.args in
    laws.PromotionSaid a.xs.now a.candidates.now a.scratch.now e.promotion_checked-2.result e.promotion_checked-2.new.xs e.promotion_checked-2.new.candidates e.promotion_checked-2.new.scratch
    (plus_zeros a.points.now) a.starts.now a.counts.now a.role (plus_zero a.pitch) (collector_bounds a.present (plus_zero a.minimum) (plus_zero a.desired) (plus_zero a.maximum)) a.granted
both e =
    let call = e.plain_call-call in
    let same = call.ensures.plain call.result.role call.result.pitch call.result.granted in
    laws.promotion_carried _ _ _ _ _ _ _ _ _ _ _ _ _ _ _ _ _ _ _ call.ensures.counted call.ensures.pitched call.ensures.kept.0 call.ensures.kept.1 same _ _ (given_then e) (e.promotion_checked-2.ensures.replied, e.promotion_checked-2.ensures.untouched)

pub returns-then-not-windows_fit-clause-replied : goal.returns-then-not-windows_fit-clause-replied
returns-then-not-windows_fit-clause-replied c = (unfit (goal.at.returns-then-not-windows_fit-clause-replied c).After-promotion_checked).0

pub returns-then-not-windows_fit-clause-untouched : goal.returns-then-not-windows_fit-clause-untouched
returns-then-not-windows_fit-clause-untouched c = (unfit (goal.at.returns-then-not-windows_fit-clause-untouched c).After-promotion_checked).1

pub returns-clause-replied : goal.returns-clause-replied
returns-clause-replied c = (both (goal.at.returns-clause-replied c).After-promotion_checked-2).0

pub returns-clause-untouched : goal.returns-clause-untouched
returns-clause-untouched c = (both (goal.at.returns-clause-untouched c).After-promotion_checked-2).1
