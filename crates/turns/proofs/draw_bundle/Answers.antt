use Rattle.std.proofs.Common.{arith, length, ◌∙◌}
use Rattle.std.proofs.lemmas.Result.{err_from_is_err_and}
use Rattle.route.specs.Slots.{routes_of}
use Rattle.plan.specs.MemberColumns.{edges_of, lanes_of}
use Rattle.turns.proofs.Turning.{own_roomy, own_small, own_tapped, own_rewritten, earlier_tabled, known_row, turn_off, turn_on, ends_refused, longer_made, longer_refused}
use Rattle.turns.proofs.draw_bundle.Goals as goal

pub rewrite_member_routes-requires-clause-roomy : goal.rewrite_member_routes-requires-clause-roomy
rewrite_member_routes-requires-clause-roomy c =
    let a = c.args in
    let u = a.t.bundle in
    let r = c.requires.1 in
    own_roomy a.members.now a.taps.now u.first u.count r.tabled a.points.now a.counts.now r.roomy

pub rewrite_member_routes-requires-clause-small : goal.rewrite_member_routes-requires-clause-small
rewrite_member_routes-requires-clause-small c =
    let a = c.args in
    let u = a.t.bundle in
    let r = c.requires.1 in
    own_small a.members.now a.taps.now u.first u.count r.tabled r.laned

pub rewrite_member_routes-requires-clause-tapped : goal.rewrite_member_routes-requires-clause-tapped
rewrite_member_routes-requires-clause-tapped c =
    let a = c.args in
    let u = a.t.bundle in
    let r = c.requires.1 in
    let g = c.build_geometry-d in
    own_tapped a.members.now a.taps.now u.first u.count r.tabled g.new.taps g.auto.taps

pub returns-in_err-rewrite_member_routes-clause-told : goal.returns-in_err-rewrite_member_routes-clause-told
returns-in_err-rewrite_member_routes-clause-told c b s =
    let a = c.args in
    let f = c.in_err-rewrite_member_routes.ensures in
    let g = c.build_geometry-d in
    let u = a.t.bundle in
    let e = own_rewritten a.members.now a.taps.now u.first u.count c.requires.1.tabled _ g.new.taps g.result.interior u.role _ a.t.offset (routes_of a.points.now a.counts.now) g.auto.taps (rw c.pitch_of_bundle.ensures at (f.told g.result.interior a.t.offset c.way_of_bundle.ensures)) in
    let p = err_from_is_err_and c.from_residual.result c.from_residual.ensures.1 in
    rw (p.1, p.2, f.refusal)
    (turn_off b a.rules.permits_crossings a.rules.options a.board.nodes.now a.board.edges.now a.t.bundle a.t.end a.t.planned a.t.offset (edges_of a.members.now) (lanes_of a.members.now) g.result _ (routes_of a.points.now a.counts.now) s g.ensures.row (g.ensures.drawn b s.seen) _ _ _ _ a.visits.now e)

pub returns-in_err-rewrite_member_routes-clause-longer : goal.returns-in_err-rewrite_member_routes-clause-longer
returns-in_err-rewrite_member_routes-clause-longer c =
    let p = err_from_is_err_and c.from_residual.result c.from_residual.ensures.1 in
    rw (p.1, p.2) (longer_refused _ _ _ _ _)

pub verify_bundle-requires : goal.verify_bundle-requires
verify_bundle-requires c =
    let f = c.rewrite_member_routes in
    let g = c.build_geometry-d in
    let k = g.auto.taps in
    let kc = f.auto.counts in
    let r = c.requires.1 in
    let w = r.tabled.places in
    let m = r.tabled.members in
    let i = g.ensures.row.first in
    let j = g.ensures.row.count in
    let l = c.requires.0 in
    let h = r.masked in (
      omega (arith, kc, l),
      earlier_tabled (edges_of c.args.members.now) _ c.args.t.bundle.first c.args.priors.now (omega (arith, m)) (omega (arith, k, w)) r.earlier,
      record { members = omega (arith, m, i, j); places = omega (arith, k, w, i, j) },
      omega (arith, kc, h),
      (λ n o. known_row (edges_of c.args.members.now) c.args.t.bundle.first c.args.t.bundle.count _ _ (length c.args.counts.now) _ i j h (λ x y. r.roomy.known x (omega arith) y) n o),
    )

pub returns-in_err-verify_bundle-clause-told : goal.returns-in_err-verify_bundle-clause-told
returns-in_err-verify_bundle-clause-told c b s =
    let a = c.args in
    let f = c.in_ok-rewrite_member_routes.ensures in
    let g = c.build_geometry-d in
    let u = a.t.bundle in
    let e = own_rewritten a.members.now a.taps.now u.first u.count c.requires.1.tabled _ g.new.taps g.result.interior u.role _ a.t.offset (routes_of a.points.now a.counts.now) g.auto.taps (rw c.pitch_of_bundle.ensures at (f.told g.result.interior a.t.offset c.way_of_bundle.ensures)) in
    let p = err_from_is_err_and c.from_residual-in_err-verify_bundle.result c.from_residual-in_err-verify_bundle.ensures.1 in
    rw (p.1, p.2)
    (ends_refused _ _ _ _ _ _
    ∙ turn_on b a.rules.permits_crossings a.rules.options a.board.nodes.now a.board.edges.now a.t.bundle a.t.end a.t.planned a.t.offset (edges_of a.members.now) (lanes_of a.members.now) g.result _ (routes_of a.points.now a.counts.now) s g.ensures.row (g.ensures.drawn b s.seen) a.taps.now a.priors.now a.visits.now.0 _ _ g.ensures.kept c.requires.1.earlier _ e c.in_err-verify_bundle.ensures)

pub returns-in_err-verify_bundle-clause-longer : goal.returns-in_err-verify_bundle-clause-longer
returns-in_err-verify_bundle-clause-longer c =
    let p = err_from_is_err_and c.from_residual-in_err-verify_bundle.result c.from_residual-in_err-verify_bundle.ensures.1 in
    rw (p.1, p.2) (longer_refused _ _ _ _ _)

pub returns-clause-told : goal.returns-clause-told
returns-clause-told c b s =
    let a = c.args in
    let f = c.in_ok-rewrite_member_routes.ensures in
    let g = c.build_geometry-d in
    let u = a.t.bundle in
    let e = own_rewritten a.members.now a.taps.now u.first u.count c.requires.1.tabled _ g.new.taps g.result.interior u.role _ a.t.offset (routes_of a.points.now a.counts.now) g.auto.taps (rw c.pitch_of_bundle.ensures at (f.told g.result.interior a.t.offset c.way_of_bundle.ensures)) in
    turn_on b a.rules.permits_crossings a.rules.options a.board.nodes.now a.board.edges.now a.t.bundle a.t.end a.t.planned a.t.offset (edges_of a.members.now) (lanes_of a.members.now) g.result _ (routes_of a.points.now a.counts.now) s g.ensures.row (g.ensures.drawn b s.seen) a.taps.now a.priors.now a.visits.now.0 _ _ g.ensures.kept c.requires.1.earlier _ e c.in_ok-verify_bundle.ensures

pub returns-clause-longer : goal.returns-clause-longer
returns-clause-longer c =
    let a = c.args in
    let g = c.build_geometry-d in
    let f = c.in_ok-rewrite_member_routes.ensures in
    let u = a.t.bundle in
    let e = own_rewritten a.members.now a.taps.now u.first u.count c.requires.1.tabled _ g.new.taps g.result.interior u.role _ a.t.offset (routes_of a.points.now a.counts.now) g.auto.taps (rw c.pitch_of_bundle.ensures at (f.told g.result.interior a.t.offset c.way_of_bundle.ensures)) in
    longer_made _ _ _ _ _ _ _ _ _ _ _ e
