use Rattle.std.proofs.Common.{arith, ◌∙◌, map, []}
use Rattle.std.proofs.lemmas.Result.{err_from_is_err_and}
use Rattle.route.specs.Slots.{routes_length}
use Rattle.plan.specs.MemberColumns.{edges_of}
use Rattle.drawing.specs.Check.{among, contact_tests}
use Rattle.route.specs.Lent.{routes_lent}
use Rattle.checks.specs.Lent.{drawn_lent}
use Rattle.checks.specs.MemberSlices.{members_from}
use Rattle.bundle_checks.proofs.Marked.{part_known, part_marks, rows_inside}
use Rattle.bundle_checks.proofs.Masked.{contact_masked, inside_masked, both_off, both_on}
use Rattle.bundle_checks.proofs.verify_bundle.Goals as goal

pub mark_members-requires : goal.mark_members-requires
mark_members-requires c =
    let a = c.args in
    part_known a.table.members.now a.new.first a.new.count (rows_inside a.table.members.now a.new.first a.new.count _ c.requires.2) _ c.requires.4

pub returns-in_err-verify_one_bundle_route_node_interiors : goal.returns-in_err-verify_one_bundle_route_node_interiors
returns-in_err-verify_one_bundle_route_node_interiors c =
    let a = c.args in
    let f = c.mark_members in
    let k = f.auto.mask in
    let x = c.requires.3 in
    let y = routes_length a.present.points.now 0 a.present.counts.now in
    let ms = members_from (edges_of a.table.members.now) [] a.new.first a.new.count in
    let marks = part_marks a.table.members.now a.new.first a.new.count (rows_inside a.table.members.now a.new.first a.new.count _ c.requires.2) f.new.mask f.ensures in
    let p = err_from_is_err_and c.from_residual.result c.from_residual.ensures.1 in
    rw (p.1, p.2)
    (both_off _ _ (contact_tests a.rules.options a.rules.permits_crossings (drawn_lent a.table a.new) (among ms) (map (drawn_lent a.table) a.priors.now) (routes_lent a.present)) a.visits.now.0 _ _ c.in_err-verify_one_bundle_route_node_interiors.ensures (inside_masked ms f.new.mask (routes_lent a.present) marks (omega (arith, k, x, y)) a.board.nodes.now a.board.edges.now))

pub returns : goal.returns
returns c =
    let a = c.args in
    let f = c.mark_members in
    let k = f.auto.mask in
    let x = c.requires.3 in
    let y = routes_length a.present.points.now 0 a.present.counts.now in
    let ms = members_from (edges_of a.table.members.now) [] a.new.first a.new.count in
    let marks = part_marks a.table.members.now a.new.first a.new.count (rows_inside a.table.members.now a.new.first a.new.count _ c.requires.2) f.new.mask f.ensures in
    c.verify_new_bundle_route_contacts.ensures
    ∙ both_on _ _ _ _ a.visits.now.0 _ c.in_ok-verify_one_bundle_route_node_interiors.ensures (inside_masked ms f.new.mask (routes_lent a.present) marks (omega (arith, k, x, y)) a.board.nodes.now a.board.edges.now) (contact_masked ms f.new.mask (routes_lent a.present) marks (omega (arith, k, x, y)) a.rules.options a.rules.permits_crossings (drawn_lent a.table a.new) (map (drawn_lent a.table) a.priors.now))
