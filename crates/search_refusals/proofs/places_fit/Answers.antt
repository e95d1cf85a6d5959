-- `search_refusals::places_fit` meets its contract. Assumes nothing.
use Rattle.std.specs.Prelude.{ℕ, ◌+◌, ◌*◌, leb, length}
use Rattle.std.proofs.Common.{◌∙◌, rules, tests}
use Rattle.std.proofs.lemmas.Iterator.{YieldsList-from_slice, YieldsList-from_zip}
use Rattle.std.proofs.lemmas.Iterator.Search.{all_from_yields_List}
use Rattle.search_refusals.proofs.Pairs.{all_places}
use Rattle.search_refusals.proofs.places_fit.Goals as goal

pub returns-then-lent : goal.returns-then-lent
returns-then-lent c =
    let s = c.args.lent in
    let points = s.points.now in
    let starts = s.starts.now in
    let counts = s.counts.now in
    all_from_yields_List (λ (p : ℕ × ℕ). leb (2 * (p.0 + p.1)) (length points)) c.all.new.self _ _ c.all.ensures.ran (YieldsList-from_zip {s = c.zip-places.result} (YieldsList-from_slice starts cc) (YieldsList-from_slice counts cc)) (λ x b q k. search (rules, tests))
    ∙ all_places points starts counts c.if-lent.true
