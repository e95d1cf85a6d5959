-- `search_refusals::routes_fit` meets its contract. Assumes nothing.
use Rattle.std.proofs.Common.{◌∙◌, rules, tests, arith, length}
use Rattle.std.proofs.lemmas.Iterator.{YieldsList-from_range}
use Rattle.std.proofs.lemmas.Iterator.Search.{all_from_yields_List}
use Rattle.search_refusals.proofs.Pairs.{route_fits, all_routes}
use Rattle.search_refusals.proofs.routes_fit.Goals as goal

pub returns : goal.returns
returns c =
    let r = c.args.routes in
    let points = r.points.now in
    let starts = r.starts.now in
    let counts = r.counts.now in
    let paired = r.windows.paired in
    let n = length starts in
    all_from_yields_List (route_fits points starts counts paired) c.all.new.self _ _ c.all.ensures.ran (YieldsList-from_range 0 n n (cc) (omega arith)) (λ x b q k. search (rules, tests)) ∙ all_routes points starts counts paired
