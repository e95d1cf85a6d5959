-- `looks::tap_on_route` meets its contract. Assumes nothing.
use Rattle.std.proofs.Common.{◌==◌, ap, ◌∙◌, rules, tests}
use Rattle.std.specs.Option.{option_map}
use Rattle.std.proofs.lemmas.Iterator.{YieldsList-from_slice, YieldsList-from_zip}
use Rattle.std.proofs.lemmas.Iterator.Search.{find_from_yields_List}
use Rattle.geometry.specs.declared.Point.{Point}
use Rattle.board.specs.declared.Member.{Member}
use Rattle.looks.proofs.Found.{found_tap, read_of}
use Rattle.looks.proofs.tap_on_route.Goals as goal

pub returns : goal.returns
returns c =
    let ms = c.args.own.members.now in
    let ps = c.args.own.taps.now in
    let e = c.args.e in
    read_of _ (λ (p : Member × Point). p.1) _ _ _ (λ x z k. search (rules, tests)) c.map.ensures.cases
    ∙ ap (option_map (λ (p : Member × Point). p.1))
    (find_from_yields_List (λ (p : Member × Point). p.0.edge == e) c.find.new.self _ _ c.find.ensures.ran (YieldsList-from_zip {s = c.zip-tapped.result} (YieldsList-from_slice ms cc) (YieldsList-from_slice ps cc)) (λ x b q k. search (rules, tests)))
    ∙ found_tap ms ps e
