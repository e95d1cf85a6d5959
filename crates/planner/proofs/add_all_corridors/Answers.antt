-- `planner::add_all_corridors` meets its contract. Assumes nothing.
use Rattle.planner.proofs.MemberTurns as laws
use Rattle.planner.proofs.add_all_corridors.Goals as goal

pub fallback_corridors_by_edge-requires-clause-all_below : goal.fallback_corridors_by_edge-requires-clause-all_below
fallback_corridors_by_edge-requires-clause-all_below c = laws.all_low c.args.t

pub fallback_corridors_by_edge-requires-2-clause-all_below : goal.fallback_corridors_by_edge-requires-2-clause-all_below
fallback_corridors_by_edge-requires-2-clause-all_below c = laws.all_low c.args.t

pub returns-clause-inputs : goal.returns-clause-inputs
returns-clause-inputs c = λ b e r n. c.fallback_corridors_by_edge.ensures b e r n

pub returns-clause-outputs : goal.returns-clause-outputs
returns-clause-outputs c = λ b e r n. c.fallback_corridors_by_edge-2.ensures b e r n
