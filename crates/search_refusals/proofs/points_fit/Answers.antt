-- `search_refusals::points_fit` meets its contract. Assumes nothing.
use Rattle.std.proofs.Common.{◌∙◌, rules, tests}
use Rattle.std.proofs.lemmas.Iterator.{YieldsList-from_slice}
use Rattle.std.proofs.lemmas.Iterator.Search.{all_from_yields_List}
use Rattle.search_refusals.proofs.Pairs.{is_pair, pairs_fit}
use Rattle.search_refusals.proofs.points_fit.Goals as goal

pub returns : goal.returns
returns c =
    let r = c.args.route in
    let v = c.pairs.ensures in
    all_from_yields_List is_pair _ _ _ c.all.ensures.ran (YieldsList-from_slice _ cc) (λ x b q k. search (rules, tests)) ∙ pairs_fit _ r.points.now r.start r.count v.count v.points
