use Rattle.route.proofs.WindowSteps.{left_nowhere, put_together}
use Rattle.route.specs.Rewrite.{rewrite_output_route, where_met, corridor_x, corner}
use Rattle.route.specs.Intersection.{last_vertical_line_intersection}
use Rattle.geometry.specs.declared.Role.TheVariants.{Output}
use Rattle.route.specs.Window.{points_length}
use Rattle.geometry.specs.Lent.{route_lent}
use Rattle.std.proofs.Common.{arith, ◌∷◌, [], rules, ◌≡◌, None}
use Rattle.route_rewriting.proofs.rewrite_output_route.Goals as goal

pub returns-in_err-i : goal.returns-in_err-i
unfolding rewrite_output_route where_met corridor_x
returns-in_err-i c =
    let e : c.from_residual.result ≡ None = search rules in
    let m : None ≡ last_vertical_line_intersection (route_lent c.args.route) (corridor_x Output c.args.tap c.args.pitch) = c.in_err-i.ensures.met in
    rw (← m, e) (left_nowhere _ _)

pub returns : goal.returns
unfolding rewrite_output_route where_met corridor_x
returns c =
    let kept = c.up_to_run-kept in
    let l = points_length kept.result.points.now kept.result.start kept.result.count in
    rw (← c.in_ok-i.ensures.met, ← kept.ensures.points) (put_together c.args.route.count (route_lent kept.result) (c.in_ok-i.p ∷ corner _ c.args.tap ∷ c.args.tap ∷ []) c.push_points-n.ensures c.push_three.ensures (omega (arith, c.in_ok-i.ensures.within, kept.ensures.count, l)))
