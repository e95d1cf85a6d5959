-- `checked_search::search_checked` meets its contract. Assumes nothing.
use mathlib.Core.Path.{◌≡◌, sym, ◌∙◌, subst}
use Prim.Native.Nat.{◌≤◌}
use native.Mathlib.Omega.{arith}
use lib.ListN.{length}
use lib.Seq.{length-take-le}
use Rattle.limits.specs.Limits.{largest_list, search_scratch}
use Rattle.search.specs.Lent.{members_lent}
use Rattle.search.specs.Search.{common_xs}
use Rattle.search.specs.Stretches.{members, routes, runs_in}
use Rattle.search_calls.specs.Entry.{search_room, role_of, Said, said, Replied}
use Rattle.search_calls.specs.Lent.{search_call}
use Rattle.search_calls.proofs.RefusalSteps as laws
use Rattle.checked_search.proofs.search_checked.Goals as goal
use Rattle.checked_search.proofs.search_checked.Goals.{In-Ok}

-- none of document 01's numbers is due, so that the routes are within the points and have few runs, and there is room
accepted : (e : In-Ok) → let a = e.args in
    laws.Accepted (search_room a.xs.now a.candidates.now a.scratch.now) a.call.routes.points.now a.call.routes.starts.now a.call.routes.counts.now
accepted e =
    let a = e.args in
    let l = a.call.routes in
    laws.accepted (search_room a.xs.now a.candidates.now a.scratch.now) l.points.now l.starts.now l.counts.now a.call.role a.call.pitch _ a.call.granted e.in-Ok.ensures.0

room : (e : In-Ok) → let a = e.args in
    (largest_list ≤ length a.xs.now) × (search_scratch ≤ length a.candidates.now) × (search_scratch ≤ length a.scratch.now)
room e = laws.rooms largest_list search_scratch search_scratch _ _ _ (accepted e).roomy

-- the part of the candidates that is lent
lent : (e : In-Ok) → largest_list ≤ length e.args.candidates.now
lent e = let h = (room e).1 in omega arith

few : (e : In-Ok) → runs_in (members_lent e.in-Ok.accepted.1 e.args.call.pitch e.in-Ok.accepted.0) ≤ 2016
few e =
    let p = e.in-Ok.ensures in
    rw (p.1, p.2, p.3) ((accepted e).few e.in-Ok.accepted.1 e.args.call.pitch)

pub slice_bounds-common_horizontal_collector_xs-end-2 : goal.slice_bounds-common_horizontal_collector_xs-end-2
slice_bounds-common_horizontal_collector_xs-end-2 c =
    sym (length-take-le largest_list c.args.candidates.now (lent (goal.at.slice_bounds-common_horizontal_collector_xs-end-2 c).In-Ok))

pub common_horizontal_collector_xs-g-requires-clause-room : goal.common_horizontal_collector_xs-g-requires-clause-room
common_horizontal_collector_xs-g-requires-clause-room c =
    let e = (goal.at.common_horizontal_collector_xs-g-requires-clause-room c).In-Ok in
    omega (arith, length-take-le largest_list c.args.candidates.now (lent e), few e)

pub common_horizontal_collector_xs-g-requires-clause-scratch_room : goal.common_horizontal_collector_xs-g-requires-clause-scratch_room
common_horizontal_collector_xs-g-requires-clause-scratch_room c =
    let e = (goal.at.common_horizontal_collector_xs-g-requires-clause-scratch_room c).In-Ok in
    omega (arith, length-take-le largest_list c.args.candidates.now (lent e), few e)

pub search_reply-requires : goal.search_reply-requires
search_reply-requires c =
    let a = c.args in
    let e = (goal.at.search_reply-requires c).In-Ok in
    let g = c.common_horizontal_collector_xs-g in
    let within = laws.list_within g.new.xs a.candidates.now largest_list (lent e) g.auto.xs g.result _ g.ensures in
    (within _ (laws.slice_length g.new.xs a.candidates.now largest_list (lent e) g.auto.xs), within _ (room e).0)

pub returns-clause-replied : goal.returns-clause-replied
returns-clause-replied c =
    let a = c.args in
    let e = (goal.at.returns-clause-replied c).In-Ok in
    let p = e.in-Ok.ensures in
    let g = c.common_horizontal_collector_xs-g in
    let l = a.call.routes in
    let says = said (common_xs (role_of a.call.role) a.bounds (members (role_of a.call.role) a.call.pitch (routes l.points.now l.starts.now l.counts.now)) a.call.granted) in
    let none : search_call a.xs.now a.candidates.now a.scratch.now a.call a.bounds ≡ 0 = rw c.is_bounds-fit.ensures at p.0 in
    let same : said (common_xs e.in-Ok.accepted.1 a.bounds (members_lent e.in-Ok.accepted.1 a.call.pitch e.in-Ok.accepted.0) a.call.granted) ≡ says = rw (p.1, p.2, p.3, p.4) in
    (laws.accepted_all _ says a.call.granted c.search_reply.result a.xs.now c.search_reply.new.xs a.candidates.now a.candidates.now a.scratch.now a.scratch.now none
    (subst (λ (s : Said). Replied 0 s c.search_reply.result a.xs.now c.search_reply.new.xs) (laws.list_said g.new.xs a.candidates.now largest_list (lent e) g.auto.xs g.result _ g.ensures ∙ same) c.search_reply.ensures)).0
