-- F-4's promise of what stage_sheet leaves in the buffers: where the page is wanted and an answer is written, the page reads back.
-- Assumes nothing.
use Rattle.std.specs.Prelude.{ℕ, ◌≤◌, ◌<◌, ◌≡◌, refl, Bool, true, false, not, ◌&&◌, cond, List, [], length, get_or, take}
use Rattle.std.proofs.Common.{sym, ap, ◌∙◌, subst, arith}
use Rattle.std.proofs.lemmas.List.Edits.{sets}
use Rattle.limits.specs.Limits.{page_room, id_columns}
use Rattle.answer.specs.Answer.{answer_bytes}
use Rattle.answer.proofs.Stores.{notice_length}
use Rattle.promise.specs.Stage.{Finished, answer_of, Told, refused, drawn}
use Rattle.plan_stage.specs.Entries.{told_with}
use Rattle.plan_stage.proofs.EitherPlan.{ComesWith, CauseWith, a_refusal, a_sheet, cause_with, phase_shaped, phase_whole}
use Rattle.bundle_page.specs.AnswerPage.{answer_page}
use Rattle.page_promise.specs.PageReadsBack.{PageReadsBack}
use Rattle.page_promise.proofs.Theorem.{page_in}
use Rattle.outputs.specs.declared.Wants.{Wants}
use Rattle.outputs.specs.Outputs.{Outputs, nothing, wants_of, too_short, too_many, after_all, outputs_told, outputs_of}
use Rattle.outputs.proofs.Front.{on_the_grid, wanted_room, rooms, front_of, at_front}

-- an answer and its page
record Printed (given : Bool) (bytes plan : List ℕ) (page : ℕ) (o : Outputs) : Type 0 where
  made : Finished
  comes : ComesWith given bytes plan made
  on_grid : made.said.flags.on_grid ≡ true
  room : page_room ≤ page
  answer_is : o.answer ≡ answer_bytes (answer_of made)
  page_is : o.page ≡ answer_page id_columns (answer_of made)

told_printed : (w : Wants) (given : Bool) (bytes plan : List ℕ) (page : ℕ) → w.page ≡ true → page_room ≤ page → (t : Told) → CauseWith given bytes plan t → 6 < length (outputs_told w (after_all w t)).answer
    → Printed given bytes plan page (outputs_told w (after_all w t))
unfolding after_all outputs_told
told_printed w given bytes plan page wanted h t (a_refusal n) long = absurd (omega (arith, long, notice_length n))
told_printed w given bytes plan page wanted h t (a_sheet f c) long = go (too_many w f) long
  where
    last : (b : Bool) → (w.page && not f.said.flags.on_grid) ≡ b → 6 < length (outputs_told w (cond b (refused 16) (drawn f))).answer → Printed given bytes plan page (outputs_told w (cond b (refused 16) (drawn f)))
    last true g long = absurd (omega (arith, long, notice_length 16))
    last false g long = record {
      made = f;
      comes = c;
      on_grid = on_the_grid w.page f.said.flags.on_grid wanted g;
      room = h;
      answer_is = refl;
      page_is = ap (λ (b : Bool). cond b (answer_page id_columns (answer_of f)) []) wanted;
    }

    go : (b : Bool) → 6 < length (outputs_told w (cond b (refused 19) (cond (w.page && not f.said.flags.on_grid) (refused 16) (drawn f)))).answer
        → Printed given bytes plan page (outputs_told w (cond b (refused 19) (cond (w.page && not f.said.flags.on_grid) (refused 16) (drawn f))))
    go true long = absurd (omega (arith, long, notice_length 19))
    go false long = last (w.page && not f.said.flags.on_grid) refl long

printed : (mask : ℕ) (bytes plan : List ℕ) (answer page crossings : ℕ) → (wants_of mask).page ≡ true → 6 < length (outputs_of mask bytes plan answer page crossings).answer
    → Printed (wants_of mask).plan bytes plan page (outputs_of mask bytes plan answer page crossings)
unfolding outputs_of
printed mask bytes plan answer page crossings wanted long = go (too_short (wants_of mask) answer page crossings) refl long
  where
    go : (b : Bool) → too_short (wants_of mask) answer page crossings ≡ b → 6 < length (cond b nothing (outputs_told (wants_of mask) (after_all (wants_of mask) (told_with (wants_of mask).plan bytes plan)))).answer
        → Printed (wants_of mask).plan bytes plan page (cond b nothing (outputs_told (wants_of mask) (after_all (wants_of mask) (told_with (wants_of mask).plan bytes plan))))
    go true e long = absurd (omega arith)
    go false e long =
        told_printed (wants_of mask) (wants_of mask).plan bytes plan page wanted (wanted_room (wants_of mask).page page page_room wanted (rooms (wants_of mask) answer page crossings e).for_page)
        (told_with (wants_of mask).plan bytes plan) (cause_with (wants_of mask).plan bytes plan) long

-- THE THEOREM, of what stands in the buffers
pub page_promised : (mask : ℕ) (bytes plan answer page answer' page' : List ℕ) (crossings n : ℕ) → ((i : ℕ) → i < length bytes → get_or bytes i 0 < 256)
    → answer' ≡ sets answer 0 (outputs_of mask bytes plan (length answer) (length page) crossings).answer → n ≡ length (outputs_of mask bytes plan (length answer) (length page) crossings).answer
    → page' ≡ sets page 0 (outputs_of mask bytes plan (length answer) (length page) crossings).page → (wants_of mask).page ≡ true → PageReadsBack bytes (take n answer') page'
page_promised mask bytes plan answer page answer' page' crossings n all a c p wanted =
    let given = (wants_of mask).plan in
    let o = outputs_of mask bytes plan (length answer) (length page) crossings in
    let front : take n answer' ≡ o.answer = at_front given bytes plan answer o.answer answer' n (front_of mask bytes plan (length answer) (length page) crossings) a c in
    subst (λ (l : List ℕ). PageReadsBack bytes l page') (sym front)
    (λ long.
    let r = printed mask bytes plan (length answer) (length page) crossings wanted long in
    let f = r.made in
    let k = r.comes in
    page_in bytes f k.is_read k.is_drawn (phase_shaped given bytes plan f.said k.is_read f.plan_used k.is_taken) all r.on_grid
    (phase_whole given bytes plan f.said k.is_read r.on_grid f.plan_used k.is_taken) o.answer page page' r.answer_is r.room (p ∙ ap (sets page 0) r.page_is))
