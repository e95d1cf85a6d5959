-- `search_entry::search` meets its contract: what is said of the call with plus zeros is said of the call. Assumes nothing.
use Rattle.binary64.specs.Accepted.{plus_zero}
use Rattle.search_calls.specs.Entry.{plus_zeros, bounds}
use Rattle.search_calls.proofs.Copies as laws
use Rattle.search_entry.proofs.search.Goals as goal
use Rattle.search_entry.proofs.search.Goals.{After-search_checked, After-search_checked-2}

unfit : (e : After-search_checked) → let a = e.args in
    laws.SearchSaid a.xs.now a.candidates.now a.scratch.now e.search_checked.result e.search_checked.new.xs e.search_checked.new.candidates e.search_checked.new.scratch
    (plus_zeros a.points.now) a.starts.now a.counts.now a.role (plus_zero a.pitch) (bounds (plus_zero a.minimum) (plus_zero a.desired) (plus_zero a.maximum)) a.granted
unfit e =
    let call = e.plain_pitch-refused in
    let same = call.ensures.plain call.result.role call.result.pitch call.result.granted in
    laws.search_carried _ _ _ _ _ _ _ _ _ _ _ _ _ _ _ _ _ _ _ call.ensures.counted call.ensures.pitched call.ensures.kept.0 call.ensures.kept.1 same _ _ e.plain_bounds-between.ensures (e.search_checked.ensures.replied, e.search_checked.ensures.untouched)

both : (e : After-search_checked-2) → let a = e.args in
    laws.SearchSaid a.xs.now a.candidates.now a.scratch.now e.search_checked-2.result e.search_checked-2.new.xs e.search_checked-2.new.candidates e.search_checked-2.new.scratch
    (plus_zeros a.points.now) a.starts.now a.counts.now a.role (plus_zero a.pitch) (bounds (plus_zero a.minimum) (plus_zero a.desired) (plus_zero a.maximum)) a.granted
both e =
    let call = e.plain_call-call in
    let same = call.ensures.plain call.result.role call.result.pitch call.result.granted in
    laws.search_carried _ _ _ _ _ _ _ _ _ _ _ _ _ _ _ _ _ _ _ call.ensures.counted call.ensures.pitched call.ensures.kept.0 call.ensures.kept.1 same _ _ e.plain_bounds-between.ensures (e.search_checked-2.ensures.replied, e.search_checked-2.ensures.untouched)

pub returns-then-not-windows_fit-clause-replied : goal.returns-then-not-windows_fit-clause-replied
returns-then-not-windows_fit-clause-replied c = (unfit (goal.at.returns-then-not-windows_fit-clause-replied c).After-search_checked).0

pub returns-then-not-windows_fit-clause-untouched : goal.returns-then-not-windows_fit-clause-untouched
returns-then-not-windows_fit-clause-untouched c = (unfit (goal.at.returns-then-not-windows_fit-clause-untouched c).After-search_checked).1

pub returns-clause-replied : goal.returns-clause-replied
returns-clause-replied c = (both (goal.at.returns-clause-replied c).After-search_checked-2).0

pub returns-clause-untouched : goal.returns-clause-untouched
returns-clause-untouched c = (both (goal.at.returns-clause-untouched c).After-search_checked-2).1
