-- `plan_neighbours::share_edge` meets its contract. Assumes nothing.
use Rattle.std.proofs.Common.{◌∙◌, rules, tests}
use Rattle.std.proofs.lemmas.Iterator.{YieldsList-from_slice}
use Rattle.std.proofs.lemmas.Iterator.Search.{any_from_yields_List}
use Rattle.board.specs.declared.Member.{Member}
use Rattle.plan.specs.Plan.{takes}
use Rattle.plan_neighbours.proofs.Neighbours as laws
use Rattle.plan_neighbours.proofs.share_edge.Goals as goal

pub returns : goal.returns
returns c =
    let one = c.args.one.now in
    let other = c.args.other.now in
    any_from_yields_List (λ (m : Member). takes m.edge other) _ _ _ c.any.ensures.ran (YieldsList-from_slice one cc) (λ x b q k. search (rules, tests))
    ∙ laws.any_share one other
