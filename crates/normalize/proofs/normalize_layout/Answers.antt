-- `normalize::normalize_layout` meets its contract. Assumes nothing.
use mathlib.Core.Path.{refl, ◌∙◌}
use lib.Ieee.{of_bits}
use Rattle.normalize.specs.PageTables.{sheet_in}
use Rattle.normalize.proofs.Outer.{least_corner, size_of}
use Rattle.normalize.proofs.Paged.{laid_is, Turned, turned_by, turned_still, page_turned, taps_turned}
use Rattle.normalize.proofs.normalize_layout.Goals as goal
use Rattle.normalize.proofs.normalize_layout.Goals.{Joined-o, then-o, else-o}

turned : (c : Joined-o) → Turned c.outermost_of_sheet-o.result c.args.nodes.now c.if-o.n.items c.args.drawn.now c.if-o.d.items c.args.points.now c.if-o.points c.args.counts.now c.args.taps.now c.if-o.taps
unfolding of_bits
turned c =
    let a = c.args in
    let o = c.outermost_of_sheet-o.result in
    elim c.if-o.branch [
      | then-o w ↦ rw (w.points-is, w.taps-is, w.n-is, w.d-is)
          (turned_by o a.nodes.now _ a.drawn.now _ a.points.now _ a.counts.now a.taps.now _ w.if-o.true
          w.shifted_table-n.ensures w.shifted_table-d.ensures
          w.shift_routes.ensures w.shift_rows.ensures c.requires.taps)
      | else-o w ↦ rw (w.points-is, w.taps-is, w.n-is, w.d-is)
          (turned_still o a.nodes.now _ a.drawn.now _ a.points.now a.points.now a.counts.now a.taps.now a.taps.now w.if-o.false c.of-n.ensures c.of-d.ensures refl refl)
    ]

pub outermost_of_sheet-size-requires : goal.outermost_of_sheet-size-requires
outermost_of_sheet-size-requires c =
    let a = c.args in
    let o = c.outermost_of_sheet-o.result in
    let t = turned (goal.at.outermost_of_sheet-size-requires c).Joined-o in
    rw c.as_slice-ds.ensures.value (taps_turned o a.nodes.now _ a.drawn.now _ a.points.now _ a.counts.now a.taps.now _ t c.requires.taps)

pub returns-clause-page : goal.returns-clause-page
unfolding of_bits
returns-clause-page c edges =
    let a = c.args in
    let o = c.outermost_of_sheet-o in
    let z = c.outermost_of_sheet-size in
    let i = c.if-o in
    let t = turned (goal.at.returns-clause-page c).Joined-o in
    let inside = taps_turned o.result a.nodes.now _ a.drawn.now _ a.points.now _ a.counts.now a.taps.now _ t c.requires.taps in
    laid_is (sheet_in edges i.n.items i.d.items i.points a.counts.now i.taps) z.result (size_of edges i.n.items i.d.items i.points a.counts.now i.taps inside c.as_slice-ns.result.now c.as_slice-ds.result.now z.result c.as_slice-ns.ensures.value c.as_slice-ds.ensures.value z.ensures)
    ∙ page_turned o.result a.nodes.now _ a.drawn.now _ a.points.now _ a.counts.now a.taps.now _ t edges (o.ensures ∙ least_corner edges a.nodes.now a.drawn.now a.points.now a.counts.now a.taps.now c.requires.taps)

pub returns-clause-rows : goal.returns-clause-rows
returns-clause-rows c = (turned (goal.at.returns-clause-rows c).Joined-o).rows
