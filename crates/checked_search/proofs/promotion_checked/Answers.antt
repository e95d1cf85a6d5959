-- `checked_search::promotion_checked` meets its contract. Assumes nothing.
use mathlib.Core.Path.{◌≡◌, sym, ◌∙◌, subst}
use Prim.Native.Nat.{◌≤◌}
use native.Mathlib.Omega.{arith}
use lib.ListN.{length}
use lib.Seq.{length-take-le}
use Rattle.std.specs.Prelude.{Some}
use Rattle.limits.specs.Limits.{most_kept, promotion_scratch}
use Rattle.search.specs.Lent.{members_lent}
use Rattle.search.specs.Stretches.{members, routes, runs_in}
use Rattle.search_calls.specs.Entry.{promotion_room, role_of, Said, promoted, Replied}
use Rattle.search_calls.specs.Lent.{promotion_call}
use Rattle.search_calls.proofs.RefusalSteps as laws
use Rattle.checked_search.proofs.promotion_checked.Goals as goal
use Rattle.checked_search.proofs.promotion_checked.Goals.{In-Ok}

-- none of document 01's numbers is due, so that the routes are within the points and have few runs, and there is room
accepted : (e : In-Ok) → let a = e.args in
    laws.Accepted (promotion_room a.xs.now a.candidates.now a.scratch.now) a.call.routes.points.now a.call.routes.starts.now a.call.routes.counts.now
accepted e =
    let a = e.args in
    let l = a.call.routes in
    laws.accepted (promotion_room a.xs.now a.candidates.now a.scratch.now) l.points.now l.starts.now l.counts.now a.call.role a.call.pitch _ a.call.granted e.in-Ok.ensures.0

room : (e : In-Ok) → let a = e.args in
    (most_kept ≤ length a.xs.now) × (promotion_scratch ≤ length a.candidates.now) × (promotion_scratch ≤ length a.scratch.now)
room e = laws.rooms most_kept promotion_scratch promotion_scratch _ _ _ (accepted e).roomy

few : (e : In-Ok) → runs_in (members_lent e.in-Ok.accepted.1 e.args.call.pitch e.in-Ok.accepted.0) ≤ 2016
few e =
    let p = e.in-Ok.ensures in
    rw (p.1, p.2, p.3) ((accepted e).few e.in-Ok.accepted.1 e.args.call.pitch)

pub slice_bounds-promotion_candidates-end-2 : goal.slice_bounds-promotion_candidates-end-2
slice_bounds-promotion_candidates-end-2 c =
    sym (length-take-le promotion_scratch c.args.candidates.now (room (goal.at.slice_bounds-promotion_candidates-end-2 c).In-Ok).1)

pub promotion_candidates-p-requires-clause-room : goal.promotion_candidates-p-requires-clause-room
promotion_candidates-p-requires-clause-room c =
    let e = (goal.at.promotion_candidates-p-requires-clause-room c).In-Ok in
    omega (arith, length-take-le promotion_scratch c.args.candidates.now (room e).1, few e)

pub promotion_candidates-p-requires-clause-scratch_room : goal.promotion_candidates-p-requires-clause-scratch_room
promotion_candidates-p-requires-clause-scratch_room c =
    let e = (goal.at.promotion_candidates-p-requires-clause-scratch_room c).In-Ok in
    omega (arith, length-take-le promotion_scratch c.args.candidates.now (room e).1, few e)

pub returns-clause-replied : goal.returns-clause-replied
returns-clause-replied c =
    let a = c.args in
    let e = (goal.at.returns-clause-replied c).In-Ok in
    let p = e.in-Ok.ensures in
    let g = c.promotion_candidates-p in
    let l = a.call.routes in
    let says = promoted (role_of a.call.role) a.call.pitch a.bounds (members (role_of a.call.role) a.call.pitch (routes l.points.now l.starts.now l.counts.now)) a.call.granted in
    let none : promotion_call a.xs.now a.candidates.now a.scratch.now a.call a.bounds ≡ 0 = rw c.is_collector_bounds-fit.ensures at p.0 in
    let same : promoted e.in-Ok.accepted.1 a.call.pitch (Some c.in-Some.b) (members_lent e.in-Ok.accepted.1 a.call.pitch e.in-Ok.accepted.0) a.call.granted ≡ says = rw (p.1, p.2, p.3, p.4, c.in-Some.is) in
    (laws.accepted_all _ says a.call.granted c.promotion_reply.result a.xs.now c.promotion_reply.new.xs a.candidates.now a.candidates.now a.scratch.now a.scratch.now none
    (subst (λ (s : Said). Replied 0 s c.promotion_reply.result a.xs.now c.promotion_reply.new.xs) (laws.promotion_list_said g.new.xs a.candidates.now promotion_scratch (room e).1 g.auto.xs g.result _ g.ensures ∙ same) c.promotion_reply.ensures)).0
