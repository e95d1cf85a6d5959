use Rattle.route.proofs.WindowSteps.{left_nowhere, put_together, pushed_one}
use Rattle.route.specs.Rewrite.{rewrite_output_shared_trunk, where_met}
use Rattle.geometry.specs.Contact.{matches}
use Rattle.route.specs.Window.{points_length}
use Rattle.geometry.specs.Lent.{route_lent}
use Rattle.std.proofs.Common.{arith, ◌∷◌, [], rules, ◌≡◌, None}
use Rattle.route_rewriting.proofs.rewrite_output_shared_trunk.Goals as goal

pub returns-in_err-i : goal.returns-in_err-i
unfolding rewrite_output_shared_trunk where_met
returns-in_err-i c =
    let e : c.from_residual.result ≡ None = search rules in
    rw (← c.in_err-i.ensures.met, e) (left_nowhere _ _)

pub returns-then-not-preserved_point_matches : goal.returns-then-not-preserved_point_matches
unfolding rewrite_output_shared_trunk where_met
returns-then-not-preserved_point_matches c =
    let m : c.preserved_point_matches.result ≡ matches c.in_ok-i.met c.args.tap = c.preserved_point_matches.ensures in
    rw (← c.in_ok-i.ensures.met, ← m, c.if-not-preserved_point_matches.true) (left_nowhere _ _)

pub returns : goal.returns
unfolding rewrite_output_shared_trunk where_met
returns c =
    let kept = c.up_to_run-kept in
    let l = points_length kept.result.points.now kept.result.start kept.result.count in
    let e = c.push_point.ensures in
    rw (← c.in_ok-i.ensures.met, ← c.preserved_point_matches.ensures, c.if-not-preserved_point_matches.false, ← kept.ensures.points)
    (put_together c.args.route.count (route_lent kept.result) (c.args.tap ∷ []) c.push_points-n.ensures (pushed_one c.args.tap e.points e.most) (omega (arith, c.in_ok-i.ensures.within, kept.ensures.count, l)))
