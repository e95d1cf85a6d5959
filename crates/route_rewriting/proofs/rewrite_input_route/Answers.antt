use Rattle.route.proofs.WindowSteps.{left_nowhere, put_together}
use Rattle.route.specs.Rewrite.{rewrite_input_route, where_met, corridor_x, corner}
use Rattle.route.specs.Intersection.{first_vertical_line_intersection}
use Rattle.geometry.specs.declared.Role.TheVariants.{Input}
use Rattle.route.specs.Window.{points_length}
use Rattle.geometry.specs.Lent.{route_lent}
use Rattle.std.proofs.Common.{arith, ◌∷◌, [], rules, ◌≡◌, None}
use Rattle.route_rewriting.proofs.rewrite_input_route.Goals as goal

pub returns-in_err-i : goal.returns-in_err-i
unfolding rewrite_input_route where_met corridor_x
returns-in_err-i c =
    let e : c.from_residual.result ≡ None = search rules in
    let m : None ≡ first_vertical_line_intersection (route_lent c.args.route) (corridor_x Input c.args.tap c.args.pitch) = c.in_err-i.ensures.met in
    rw (← m, e) (left_nowhere _ _)

pub returns : goal.returns
unfolding rewrite_input_route where_met corridor_x
returns c =
    let rest = c.after_run-after in
    let l = points_length rest.result.points.now rest.result.start rest.result.count in
    rw (← c.in_ok-i.ensures.met, ← rest.ensures.points) (put_together c.args.route.count (c.args.tap ∷ corner _ c.args.tap ∷ c.in_ok-i.p ∷ []) (route_lent rest.result) c.push_three-n.ensures c.push_points.ensures (omega (arith, c.in_ok-i.ensures.within, rest.ensures.count, l)))
