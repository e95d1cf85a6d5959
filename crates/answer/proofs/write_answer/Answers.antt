use Rattle.std.proofs.Common.{arith, ap, ◌∙◌, length, length-take-le}
use Rattle.std.proofs.lemmas.List.Edits.{sets}
use Rattle.answer.specs.Answer.{answer_bytes}
use Rattle.answer.proofs.WholeAnswer.{sheet_cut}
use Rattle.answer.proofs.write_answer.Goals as goal

pub write_sheet-requires : goal.write_sheet-requires
write_sheet-requires c =
    let a = c.args in
    let t = c.requires.tables in
    let k = length-take-le (length a.edges.now) a.counts.now t.counted in
    record {
      counted = omega arith;
      windows = t.windows;
      room_for_it = rw (sheet_cut a.f a.nodes.now a.edges.now a.slots.now a.counts.now a.bundles.now a.taps.now) t.room_for_it;
    }

pub returns-clause-bytes : goal.returns-clause-bytes
returns-clause-bytes c =
    let a = c.args in
    c.write_sheet.ensures.bytes ∙ ap (λ s. sets a.out.now 0 (answer_bytes s)) (sheet_cut a.f a.nodes.now a.edges.now a.slots.now a.counts.now a.bundles.now a.taps.now)

pub returns-clause-place : goal.returns-clause-place
returns-clause-place c =
    let a = c.args in
    c.write_sheet.ensures.place ∙ ap (λ s. length (answer_bytes s)) (sheet_cut a.f a.nodes.now a.edges.now a.slots.now a.counts.now a.bundles.now a.taps.now)
