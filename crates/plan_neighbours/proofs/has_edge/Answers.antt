-- `plan_neighbours::has_edge` meets its contract. Assumes nothing.
use Rattle.std.proofs.Common.{◌==◌, ◌∙◌, rules, tests}
use Rattle.std.proofs.lemmas.Iterator.{YieldsList-from_slice}
use Rattle.std.proofs.lemmas.Iterator.Search.{any_from_yields_List}
use Rattle.board.specs.declared.Member.{Member}
use Rattle.plan_neighbours.proofs.Neighbours as laws
use Rattle.plan_neighbours.proofs.has_edge.Goals as goal

pub returns : goal.returns
returns c =
    let ms = c.args.members.now in
    let e = c.args.e in
    any_from_yields_List (λ (m : Member). m.edge == e) _ _ _ c.any.ensures.ran (YieldsList-from_slice ms cc) (λ x b q k. search (rules, tests))
    ∙ laws.any_takes e ms
