use Rattle.std.proofs.Common.{arith, ap, ◌∙◌, List, length, map, take}
use Rattle.geometry.specs.Points.{Route}
use Rattle.plan.specs.Lent.{board_lent}
use Rattle.plan.specs.Prepared.{x_of}
use Rattle.drawing.specs.Sheet.{sheet_of, turns_from, blank}
use Rattle.turns.proofs.Entering.{lists}
use Rattle.turns.proofs.draw_sheet.Goals as goal

pub draw_bundles-requires-clause-lists : goal.draw_bundles-requires-clause-lists
draw_bundles-requires-clause-lists c =
    let a = c.args in
    let g = c.requires.tables in
    let o = c.requires.once in
    let k = c.requires.exact in
    let kc = c.store_edges.auto.counts in
    lists a.board.members.now a.board.bundles.now _ (λ i h. let z = g.members_on i h in omega (arith, z, kc, k)) a.board.sound.lanes_few o.0 o.1

pub returns-clause-told : goal.returns-clause-told
returns-clause-told c =
    let a = c.args in
    let t = a.board in
    c.draw_bundles.ensures.told
    ∙ ap (λ (rs : List Route). sheet_of (board_lent t) a.permits_crossings (turns_from t.bundles.now (map x_of (take (length t.bundles.now) a.plan)) (take (length t.bundles.now) a.offsets.rows)) (blank rs a.visits.now.0)) c.store_edges.ensures.routes
