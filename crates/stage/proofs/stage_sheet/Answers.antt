-- `stage::stage_sheet` meets its contract. Assumes nothing.
use mathlib.Core.Path.{refl, sym, ◌∙◌}
use native.Mathlib.Omega.{arith}
use Rattle.outputs.proofs.Front.{rooms}
use Rattle.stage.proofs.Laws as laws
use borrow.Author.Rules.{rules}
use Rattle.stage.proofs.stage_sheet.Goals as goal

pub returns-then-is_too_short : goal.returns-then-is_too_short
returns-then-is_too_short c =
    let a = c.args in
    let parts = laws.when_short a.wants a.job.now a.plan.now a.answer.now a.page.now a.crossings.now _ _ _ _ (λ i h. omega (arith, c.type_inv.job i)) _ c.from-w.ensures (sym c.is_too_short.ensures ∙ c.if-is_too_short.true) refl refl refl refl in record { answer = parts.0; page = parts.1.0; crossings = parts.1.1.0; count = parts.1.1.1.0; untouched = parts.1.1.1.1.0; own_plan = parts.1.1.1.1.1.0; given_plan = parts.1.1.1.1.1.1.0; crossings_on_sheet = parts.1.1.1.1.1.1.1.0; reads_back = parts.1.1.1.1.1.1.1.1.0; listed = parts.1.1.1.1.1.1.1.1.1 }

pub read_and_draw-requires : goal.read_and_draw-requires
read_and_draw-requires c =
    let a = c.args in
    let w = c.from-w.result in
    let e = sym c.is_too_short.ensures ∙ c.if-is_too_short.false in
    let r = rooms w _ _ _ e in
    record { given_len = (search rules, r.for_answer, r.for_page, r.for_crossings); sorted_len = search rules; edges_len = search rules }

pub returns : goal.returns
returns c =
    let a = c.args in
    let parts = laws.when_long a.wants a.job.now a.plan.now a.answer.now a.page.now a.crossings.now _ _ _ _ (λ i h. omega (arith, c.type_inv.job i)) _ c.from-w.ensures (sym c.is_too_short.ensures ∙ c.if-is_too_short.false) c.read_and_draw.ensures in record { answer = parts.0; page = parts.1.0; crossings = parts.1.1.0; count = parts.1.1.1.0; untouched = parts.1.1.1.1.0; own_plan = parts.1.1.1.1.1.0; given_plan = parts.1.1.1.1.1.1.0; crossings_on_sheet = parts.1.1.1.1.1.1.1.0; reads_back = parts.1.1.1.1.1.1.1.1.0; listed = parts.1.1.1.1.1.1.1.1.1 }
