-- `planner::plan_reached` meets its contract. Assumes nothing.
use Rattle.std.proofs.Common.{◌≡◌, length, take, rules, arith}
use Rattle.limits.specs.Limits.{max_bundles}
use Rattle.plan.specs.MemberColumns.{edges_of}
use Rattle.plan.proofs.TableReads.{length_part, length_mapped}
use Rattle.planner.proofs.Plans as laws
use Rattle.planner.proofs.plan_reached.Goals as goal
use Rattle.planner.proofs.plan_reached.Goals.{After-first_pass-ranges}
use Rattle.std.proofs.lemmas.Result.{err_from_is_err_and}

-- as many rows as bundles
long : (c : After-first_pass-ranges) → length (take (length c.args.layout.reaches.now) c.first_pass-ranges.result.rows) ≡ length c.args.layout.reaches.now
long c =
    let e : length c.first_pass-ranges.result.rows ≡ max_bundles = search (rules, length_mapped) in
    length_part c.first_pass-ranges.result.rows (length c.args.layout.reaches.now) (omega (arith, e, c.args.layout.among.bundles_few))

pub settle_components-requires-clause-ranges_among : goal.settle_components-requires-clause-ranges_among
settle_components-requires-clause-ranges_among c =
    let a = c.args in
    laws.ranges_among (edges_of a.members.now) _ a.layout.reaches.now (long (goal.at.settle_components-requires-clause-ranges_among c).After-first_pass-ranges) c.first_pass-ranges.ensures.same c.requires.inside

pub separate-q-requires : goal.separate-q-requires
separate-q-requires c =
    let a = c.args in
    record { ranges_fit = laws.ranges_fit a.layout.setting.routes.starts.now _ a.layout.reaches.now (long (goal.at.separate-q-requires c).After-first_pass-ranges) c.first_pass-ranges.ensures.same a.layout.among }

pub returns-in_err-s : goal.returns-in_err-s
returns-in_err-s c =
    let a = c.args in
    let f = c.first_pass-ranges in
    let r = err_from_is_err_and c.from_residual.result c.from_residual.ensures.1 in
    rw (r.1, r.2) (laws.plan_refused a.layout _ f.result.left.0 (edges_of a.members.now) a.separate a.granted.0 (long (goal.at.returns-in_err-s c).After-first_pass-ranges) f.ensures.same f.ensures.told _ c.in_err-s.ensures)

pub returns : goal.returns
returns c =
    let a = c.args in
    let f = c.first_pass-ranges in
    laws.plan_separated a.layout _ f.result.left.0 (edges_of a.members.now) a.separate a.granted.0 (long (goal.at.returns c).After-first_pass-ranges) f.ensures.same f.ensures.told _ c.in_ok-s.ensures c.if-not-separate.false _ c.separate-q.ensures
