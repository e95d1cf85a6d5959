use Rattle.std.proofs.Common.{rules, ◌≤◌}
use Rattle.limits.specs.Limits.{max_route_points}
use Rattle.route_replay.proofs.Rewritten.{few}
use Rattle.route_replay.proofs.rewrite_call.Goals as goal
use Rattle.route_replay.proofs.rewrite_call.Goals.{in-InputTrunk, in-OutputTrunk, in-InputRoute, in-OutputRoute}

pub put_rewritten-requires : goal.put_rewritten-requires
put_rewritten-requires c =
    let short : c.route_of-route.result.count ≤ max_route_points = search rules in
    elim c.match-rewriting.branch [
      | in-InputTrunk w ↦ rw w.r-is (few _ _ _ _ _ w.rewrite_input_shared_trunk-r.ensures short)
      | in-OutputTrunk w ↦ rw w.r-is (few _ _ _ _ _ w.rewrite_output_shared_trunk-r.ensures short)
      | in-InputRoute w ↦ rw w.r-is (few _ _ _ _ _ w.rewrite_input_route-r.ensures short)
      | in-OutputRoute w ↦ rw w.r-is (few _ _ _ _ _ w.rewrite_output_route-r.ensures short)
    ]
