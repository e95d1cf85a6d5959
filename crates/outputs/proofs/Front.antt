-- What stage_sheet writes at the front of the answer's buffer: nothing, what the job comes to with the plan that is given or with our own, or, where that is a sheet, the notice of 19 or 16. With it go the promises about the answer's bytes.
-- Assumes nothing.
use Rattle.std.specs.Prelude.{ℕ, ◌≤◌, ◌≡◌, Bool, true, false, not, ◌&&◌, ◌||◌, List, [], ltb, length, take}
use Rattle.std.proofs.Math.Path.{refl, ap}
use Rattle.std.proofs.Common.{sym, ◌∙◌, subst, true≢false, arith, ltb-false}
use Rattle.std.proofs.Math.Bool.{cond}
use Rattle.std.proofs.lemmas.List.Edits.{sets}
use Rattle.binary64.specs.Bools.{neither}
use Rattle.limits.specs.Limits.{answer_room, page_room, id_columns, crossings_room}
use Rattle.crossing_bytes.specs.Bytes.{list_bytes}
use Rattle.crossing_promise.specs.SheetList.{list_of}
use Rattle.answer.specs.Answer.{notice_bytes}
use Rattle.answer.proofs.Stores.{notice_length, answer_length}
use Rattle.job.specs.Job.{Job, read_job}
use Rattle.job.specs.Job as job
use Rattle.promise.specs.Stage.{Finished, answer_of, Told, refused, drawn, told, told_bytes, written}
use Rattle.promise.proofs.Size.{roomy, over}
use Rattle.promise.proofs.Flags.{on_grid_bit}
use Rattle.promise.specs.Demand3.{Demand3}
use Rattle.promise.proofs.Demand.{demand_3}
use Rattle.last_shift.proofs.Answered.{kept_in_answer}
use Rattle.grid_promise.specs.Grid.{grid_bit, OnGrid}
use Rattle.grid_promise.proofs.Theorem.{grid, kept_on_grid}
use Rattle.plan_stage.specs.Entries.{told_with, draw_written}
use Rattle.plan_stage.specs.PlanDemand3.{Demand3From, OnGridFrom}
use Rattle.plan_stage.proofs.InTurn.{own_told}
use Rattle.plan_stage.proofs.EitherPlan.{CauseWith, a_refusal, a_sheet, cause_with, told_size}
use Rattle.plan_stage.proofs.EveryPlan.{draw_roomy, kept_in_answer_from, kept_on_grid_from, promised_from}
use Rattle.bundle_page.specs.AnswerPage.{answer_page}
use Rattle.outputs.specs.declared.Wants.{Wants}
use Rattle.outputs.specs.Outputs.{Outputs, nothing, wants_of, lacks, too_short, too_many, after_all, outputs_told, outputs_of}
use Rattle.outputs.specs.Promises.{Promised, PromisedWith}

-- what the front of the answer's buffer is; 19 and 16 come after all other refusals
pub data Front (given : Bool) (bytes plan : List ℕ) (room : ℕ) (front : List ℕ) : Type 0 where
  untouched : front ≡ [] → Front given bytes plan room front
  as_told : answer_room ≤ room → front ≡ told_bytes (told_with given bytes plan) → Front given bytes plan room front
  many : answer_room ≤ room → front ≡ notice_bytes 19 → (f : Finished) → told_with given bytes plan ≡ drawn f → Front given bytes plan room front
  off_grid : answer_room ≤ room → front ≡ notice_bytes 16 → (f : Finished) → told_with given bytes plan ≡ drawn f → read_job bytes ≡ job.accepted f.said → f.said.flags.on_grid ≡ false → Front given bytes plan room front

not_off : (a b : Bool) → (a && not b) ≡ true → b ≡ false
not_off true true e = absurd (true≢false (sym e))
not_off true false e = refl
not_off false b e = absurd (true≢false (sym e))

-- past 16, a page that is wanted is one of a grid job
pub on_the_grid : (wanted on : Bool) → wanted ≡ true → (wanted && not on) ≡ false → on ≡ true
on_the_grid true true h e = refl
on_the_grid true false h e = absurd (true≢false e)
on_the_grid false on h e = absurd (true≢false (sym h))

-- an output that is wanted has its room
pub wanted_room : (wanted : Bool) (room least : ℕ) → wanted ≡ true → lacks wanted room least ≡ false → least ≤ room
unfolding lacks
wanted_room true room least h e = ltb-false room least e
wanted_room false room least h e = absurd (true≢false (sym h))

-- every room that is used is long enough
pub record Roomy (w : Wants) (answer page crossings : ℕ) : Type 0 where
  pub for_answer : answer_room ≤ answer
  pub for_page : lacks w.page page page_room ≡ false
  pub for_crossings : lacks w.crossings crossings crossings_room ≡ false

pub rooms : (w : Wants) (answer page crossings : ℕ) → too_short w answer page crossings ≡ false → Roomy w answer page crossings
unfolding too_short
rooms w answer page crossings e =
    let a = ltb answer answer_room in
    let p = lacks w.page page page_room in
    let x = neither (a || p) (lacks w.crossings crossings crossings_room) e in
    let y = neither a p x.0 in
    record { for_answer = ltb-false answer answer_room y.0; for_page = y.1; for_crossings = x.1 }

told_front : (w : Wants) (given : Bool) (bytes plan : List ℕ) (room : ℕ) → answer_room ≤ room → (t : Told) → CauseWith given bytes plan t → t ≡ told_with given bytes plan → Front given bytes plan room (outputs_told w (after_all w t)).answer
unfolding after_all outputs_told told_bytes
told_front w given bytes plan room h t (a_refusal n) e = as_told h (ap told_bytes e)
told_front w given bytes plan room h t (a_sheet f c) e = go (too_many w f)
  where
    last : (b : Bool) → (w.page && not f.said.flags.on_grid) ≡ b → Front given bytes plan room (outputs_told w (cond b (refused 16) (drawn f))).answer
    last true g = off_grid h refl f (sym e) c.is_read (not_off w.page f.said.flags.on_grid g)
    last false g = as_told h (ap told_bytes e)

    go : (b : Bool) → Front given bytes plan room (outputs_told w (cond b (refused 19) (cond (w.page && not f.said.flags.on_grid) (refused 16) (drawn f)))).answer
    go true = many h refl f (sym e)
    go false = last (w.page && not f.said.flags.on_grid) refl

pub front_of : (mask : ℕ) (bytes plan : List ℕ) (answer page crossings : ℕ) → Front (wants_of mask).plan bytes plan answer (outputs_of mask bytes plan answer page crossings).answer
unfolding outputs_of
front_of mask bytes plan answer page crossings = go (too_short (wants_of mask) answer page crossings) refl
  where
    go : (b : Bool) → too_short (wants_of mask) answer page crossings ≡ b → Front (wants_of mask).plan bytes plan answer (cond b nothing (outputs_told (wants_of mask) (after_all (wants_of mask) (told_with (wants_of mask).plan bytes plan)))).answer
    go true e = untouched refl
    go false e =
        told_front (wants_of mask) (wants_of mask).plan bytes plan answer (rooms (wants_of mask) answer page crossings e).for_answer (told_with (wants_of mask).plan bytes plan) (cause_with (wants_of mask).plan bytes plan) refl

-- ---- what is left untouched

-- a refusal writes no other output
pub refusal_untouched : (mask : ℕ) (bytes plan : List ℕ) (answer page crossings : ℕ) → length (outputs_of mask bytes plan answer page crossings).answer ≤ 6
    → ((outputs_of mask bytes plan answer page crossings).page ≡ []) × ((outputs_of mask bytes plan answer page crossings).crossings ≡ [])
unfolding outputs_of outputs_told
refusal_untouched mask bytes plan answer page crossings h = go (too_short (wants_of mask) answer page crossings) h
  where
    of_told : (t : Told) → length (outputs_told (wants_of mask) t).answer ≤ 6 → ((outputs_told (wants_of mask) t).page ≡ []) × ((outputs_told (wants_of mask) t).crossings ≡ [])
    of_told (refused n) h = (refl, refl)
    of_told (drawn f) h = absurd (omega (arith, h, answer_length (answer_of f)))

    go : (b : Bool) → length (cond b nothing (outputs_told (wants_of mask) (after_all (wants_of mask) (told_with (wants_of mask).plan bytes plan)))).answer ≤ 6
        → ((cond b nothing (outputs_told (wants_of mask) (after_all (wants_of mask) (told_with (wants_of mask).plan bytes plan)))).page ≡ [])
        × ((cond b nothing (outputs_told (wants_of mask) (after_all (wants_of mask) (told_with (wants_of mask).plan bytes plan)))).crossings ≡ [])
    go true h = (refl, refl)
    go false h = of_told (after_all (wants_of mask) (told_with (wants_of mask).plan bytes plan)) h

-- nor is one written that is not wanted
module _ (mask : ℕ) (bytes plan : List ℕ) (answer page crossings : ℕ) where
  of_all : (P : Outputs → Type 0) → P nothing → ((n : ℕ) → P (outputs_told (wants_of mask) (refused n))) → ((f : Finished) → P (outputs_told (wants_of mask) (drawn f))) → P (outputs_of mask bytes plan answer page crossings)
  unfolding outputs_of
  of_all P p q r = go (too_short (wants_of mask) answer page crossings)
    where
      of_told : (t : Told) → P (outputs_told (wants_of mask) t)
      of_told (refused n) = q n
      of_told (drawn f) = r f

      go : (b : Bool) → P (cond b nothing (outputs_told (wants_of mask) (after_all (wants_of mask) (told_with (wants_of mask).plan bytes plan))))
      go true = p
      go false = of_told (after_all (wants_of mask) (told_with (wants_of mask).plan bytes plan))

  pub no_page : (wants_of mask).page ≡ false → (outputs_of mask bytes plan answer page crossings).page ≡ []
  unfolding outputs_told
  no_page h = of_all (λ (o : Outputs). o.page ≡ []) refl (λ n. refl) (λ f. ap (λ (b : Bool). cond b (answer_page id_columns (answer_of f)) []) h)

  pub no_list : (wants_of mask).crossings ≡ false → (outputs_of mask bytes plan answer page crossings).crossings ≡ []
  unfolding outputs_told
  no_list h = of_all (λ (o : Outputs). o.crossings ≡ []) refl (λ n. refl) (λ f. ap (λ (b : Bool). cond b (list_bytes f.said.board (list_of f)) []) h)

-- ---- the promises about the answer's bytes

with_all : (bytes front : List ℕ) → Demand3 bytes front → ((front ≡ notice_bytes 19 → ⊥) → OnGrid bytes front) → Promised bytes front
with_all bytes front d g =
    let i = kept_in_answer bytes front d in
    record { demand = d; in_answer = i; on_grid = g; in_answer_on_grid = kept_on_grid bytes front i }

with_all_from : (bytes plan front : List ℕ) → Demand3From bytes plan front → ((front ≡ notice_bytes 19 → ⊥) → OnGridFrom bytes plan front) → PromisedWith bytes plan front
with_all_from bytes plan front d g =
    let i = kept_in_answer_from bytes plan front d in
    record { demand = d; in_answer = i; on_grid = g; in_answer_on_grid = kept_on_grid_from bytes plan front i }

same_job : (i j : Job) → ◌≡◌ {A = job.Outcome} (job.accepted i) (job.accepted j) → i ≡ j
same_job i j e = cc

-- bit 2 is clear
clear : (bytes : List ℕ) (j : Job) → read_job bytes ≡ job.accepted j → j.flags.on_grid ≡ false → (i : Job) → read_job bytes ≡ job.accepted i → grid_bit bytes ≡ 1 → ⊥
clear bytes j r f i q bit = true≢false (sym (on_grid_bit bytes i q bit) ∙ ap (λ (k : Job). k.flags.on_grid) (same_job i j (sym q ∙ r)) ∙ f)

pub promised : (bytes plan : List ℕ) (room : ℕ) (front : List ℕ) → Front false bytes plan room front → Promised bytes front
promised bytes plan room front (untouched e) = subst (Promised bytes) (sym e) (with_all bytes [] (λ h. absurd (omega arith)) (λ other h. absurd (omega arith)))
promised bytes plan room front (as_told h e) =
    subst (Promised bytes) (sym (e ∙ ap told_bytes (own_told bytes plan) ∙ sym (roomy bytes room h))) (with_all bytes (written bytes room) (demand_3 bytes room) (λ other. grid bytes room))
promised bytes plan room front (many h e f t) = subst (Promised bytes) (sym e) (with_all bytes (notice_bytes 19) (λ long. absurd (omega (arith, long, notice_length 19))) (λ other. absurd (other refl)))
promised bytes plan room front (off_grid h e f t r g) =
    subst (Promised bytes) (sym e)
    (with_all bytes (notice_bytes 16) (λ long. absurd (omega (arith, long, notice_length 16))) (λ other any i q bit. absurd (clear bytes f.said r g i q bit)))

pub promised_with : (bytes plan : List ℕ) (room : ℕ) (front : List ℕ) → Front true bytes plan room front → PromisedWith bytes plan front
promised_with bytes plan room front (untouched e) = subst (PromisedWith bytes plan) (sym e) (with_all_from bytes plan [] (λ h. absurd (omega arith)) (λ other h. absurd (omega arith)))
promised_with bytes plan room front (as_told h e) =
    let p = promised_from bytes plan room in
    subst (PromisedWith bytes plan) (sym (e ∙ sym (draw_roomy bytes plan room h))) (with_all_from bytes plan (draw_written bytes plan room) p.demand (λ other. p.on_grid))
promised_with bytes plan room front (many h e f t) =
    subst (PromisedWith bytes plan) (sym e) (with_all_from bytes plan (notice_bytes 19) (λ long. absurd (omega (arith, long, notice_length 19))) (λ other. absurd (other refl)))
promised_with bytes plan room front (off_grid h e f t r g) =
    subst (PromisedWith bytes plan) (sym e)
    (with_all_from bytes plan (notice_bytes 16) (λ long. absurd (omega (arith, long, notice_length 16))) (λ other any i q bit. absurd (clear bytes f.said r g i q bit)))

-- it fits into the buffer
pub fits : (given : Bool) (bytes plan : List ℕ) (room : ℕ) (front : List ℕ) → Front given bytes plan room front → length front ≤ room
fits given bytes plan room front (untouched e) = rw e (omega arith)
fits given bytes plan room front (as_told h e) = let s = told_size given bytes plan in rw e (omega arith)
fits given bytes plan room front (many h e f t) = rw e (omega (arith, notice_length 19))
fits given bytes plan room front (off_grid h e f t r g) = rw e (omega (arith, notice_length 16))

-- the bytes that are counted are those that were written
pub at_front : (given : Bool) (bytes plan buffer front after : List ℕ) (n : ℕ) → Front given bytes plan (length buffer) front → after ≡ sets buffer 0 front → n ≡ length front → take n after ≡ front
at_front given bytes plan buffer front after n f e h =
    ap (take n) e ∙ ap (λ (k : ℕ). take k (sets buffer 0 front)) h ∙ (over buffer front (fits given bytes plan (length buffer) front f)).at_front

-- of what stands in the buffer
pub promised_in : (mask : ℕ) (bytes plan buffer after : List ℕ) (page crossings n : ℕ) → after ≡ sets buffer 0 (outputs_of mask bytes plan (length buffer) page crossings).answer → n ≡ length (outputs_of mask bytes plan (length buffer) page crossings).answer
    → ((wants_of mask).plan ≡ false → Promised bytes (take n after)) × ((wants_of mask).plan ≡ true → PromisedWith bytes plan (take n after))
promised_in mask bytes plan buffer after page crossings n e h =
    let front = (outputs_of mask bytes plan (length buffer) page crossings).answer in
    let f = front_of mask bytes plan (length buffer) page crossings in
    let s = at_front (wants_of mask).plan bytes plan buffer front after n f e h in (
      (λ g. subst (Promised bytes) (sym s) (promised bytes plan (length buffer) front (subst (λ (b : Bool). Front b bytes plan (length buffer) front) g f))),
      (λ g. subst (PromisedWith bytes plan) (sym s) (promised_with bytes plan (length buffer) front (subst (λ (b : Bool). Front b bytes plan (length buffer) front) g f))),
    )

-- ---- `stage` is stage_sheet with 0, `stage_draw` with 1

nothing_else : (w : Wants) → w.page ≡ false → w.crossings ≡ false → (t : Told) → (outputs_told w (after_all w t)).answer ≡ told_bytes t
unfolding too_many after_all outputs_told told_bytes
nothing_else w p c (refused n) = refl
nothing_else w p c (drawn f) = rw (p, c)

pub nothing_wanted : (bytes plan : List ℕ) (answer page crossings : ℕ) → (outputs_of 0 bytes plan answer page crossings).answer ≡ written bytes answer
unfolding outputs_of wants_of too_short lacks written
nothing_wanted bytes plan answer page crossings = go (ltb answer answer_room)
  where
    go : (b : Bool) → (cond (b || false || false) nothing (outputs_told (wants_of 0) (after_all (wants_of 0) (told_with false bytes plan)))).answer ≡ cond b [] (told_bytes (told bytes))
    go true = refl
    go false = nothing_else (wants_of 0) refl refl (told_with false bytes plan) ∙ ap told_bytes (own_told bytes plan)

pub plan_given : (bytes plan : List ℕ) (answer page crossings : ℕ) → (outputs_of 1 bytes plan answer page crossings).answer ≡ draw_written bytes plan answer
unfolding outputs_of wants_of too_short lacks draw_written
plan_given bytes plan answer page crossings = go (ltb answer answer_room)
  where
    go : (b : Bool) → (cond (b || false || false) nothing (outputs_told (wants_of 1) (after_all (wants_of 1) (told_with true bytes plan)))).answer ≡ cond b [] (told_bytes (told_with true bytes plan))
    go true = refl
    go false = nothing_else (wants_of 1) refl refl (told_with true bytes plan)
