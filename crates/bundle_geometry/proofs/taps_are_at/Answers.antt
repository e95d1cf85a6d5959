-- `bundle_geometry::taps_are_at` meets its contract. Assumes nothing.
use Rattle.std.proofs.Common.{◌∙◌, rules, tests}
use Rattle.std.specs.Float.Ieee.{eq}
use Rattle.std.proofs.lemmas.Iterator.{YieldsList-from_slice}
use Rattle.std.proofs.lemmas.Iterator.Search.{all_from_yields_List}
use Rattle.geometry.specs.declared.Point.{Point}
use Rattle.bundle_geometry.proofs.Taps.{all_taps}
use Rattle.bundle_geometry.proofs.taps_are_at.Goals as goal

pub returns : goal.returns
returns c =
    let ps = c.args.taps.now in
    let x = c.args.x in
    all_from_yields_List (λ (p : Point). eq p.x x) _ _ _ c.all.ensures.ran (YieldsList-from_slice ps cc) (λ p b q k. search (rules, tests)) ∙ all_taps x ps
