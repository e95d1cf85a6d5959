use Rattle.route.proofs.WindowSteps.{left_nowhere, put_together, pushed_one}
use Rattle.route.specs.Rewrite.{rewrite_input_shared_trunk, where_met}
use Rattle.geometry.specs.Contact.{matches}
use Rattle.route.specs.Window.{points_length}
use Rattle.geometry.specs.Lent.{route_lent}
use Rattle.std.proofs.Common.{arith, ◌∷◌, [], rules, ◌≡◌, None}
use Rattle.route_rewriting.proofs.rewrite_input_shared_trunk.Goals as goal

pub returns-in_err-i : goal.returns-in_err-i
unfolding rewrite_input_shared_trunk where_met
returns-in_err-i c =
    let e : c.from_residual.result ≡ None = search rules in
    rw (← c.in_err-i.ensures.met, e) (left_nowhere _ _)

pub returns-then-not-preserved_point_matches : goal.returns-then-not-preserved_point_matches
unfolding rewrite_input_shared_trunk where_met
returns-then-not-preserved_point_matches c =
    let m : c.preserved_point_matches.result ≡ matches c.in_ok-i.p c.args.tap = c.preserved_point_matches.ensures in
    rw (← c.in_ok-i.ensures.met, ← m, c.if-not-preserved_point_matches.true) (left_nowhere _ _)

pub returns : goal.returns
unfolding rewrite_input_shared_trunk where_met
returns c =
    let rest = c.after_run-rest in
    let l = points_length rest.result.points.now rest.result.start rest.result.count in
    let e = c.push_point-n.ensures in
    rw (← c.in_ok-i.ensures.met, ← c.preserved_point_matches.ensures, c.if-not-preserved_point_matches.false, ← rest.ensures.points)
    (put_together c.args.route.count (c.args.tap ∷ []) (route_lent rest.result) (pushed_one c.args.tap e.points e.most) c.push_points.ensures (omega (arith, c.in_ok-i.ensures.within, rest.ensures.count, l)))
