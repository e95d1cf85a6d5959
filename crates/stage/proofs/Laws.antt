-- From what the inner call leaves in the buffers to the entry's clauses. Assumes nothing.
use Prim.Native.Nat.{ℕ, ◌≤◌, ◌<◌}
use mathlib.Core.Path.{◌≡◌, refl, sym, ap, ◌∙◌, subst}
use mathlib.Core.Bool.{Bool, true, false, cond}
use mathlib.Core.List.{List}
use lib.ListN.{length, get_or, take}
use lib.Seq.{sets}
use Rattle.page_promise.specs.PageReadsBack.{PageReadsBack}
use Rattle.crossing_promise.specs.Demand7.{Demand7}
use Rattle.promise.specs.Stage.{Told, told}
use Rattle.plan_stage.specs.Entries.{told_with, draw_told}
use Rattle.plan_stage.proofs.InTurn.{own_told}
use Rattle.outputs.specs.declared.Wants.{Wants}
use Rattle.outputs.specs.Outputs.{Outputs, nothing, wants_of, too_short, after_all, outputs_told, outputs_of}
use Rattle.outputs.specs.Promises.{Promised, PromisedWith, CrossingsOnSheet}
use Rattle.outputs.proofs.Front.{refusal_untouched, promised_in}
use Rattle.outputs.proofs.PageFront.{page_promised}
use Rattle.outputs.proofs.ListThere.{crossings_in, demand_7}
use Rattle.draw_job.specs.JobTables.{Writes}

module _ (mask : ℕ) (bytes plan answer page crossings answer' page' crossings' : List ℕ) (n : ℕ) (all : (i : ℕ) → i < length bytes → get_or bytes i 0 < 256) where
  abbrev told_of : Outputs
  told_of = outputs_of mask bytes plan (length answer) (length page) (length crossings)

  abbrev Clauses : Type 0
  Clauses = (answer' ≡ sets answer 0 (outputs_of mask bytes plan (length answer) (length page) (length crossings)).answer) × ((page' ≡ sets page 0 (outputs_of mask bytes plan (length answer) (length page) (length crossings)).page) × ((crossings' ≡ sets crossings 0 (outputs_of mask bytes plan (length answer) (length page) (length crossings)).crossings) × ((n ≡ length (outputs_of mask bytes plan (length answer) (length page) (length crossings)).answer) × ((n ≤ 6 → (page' ≡ page) × (crossings' ≡ crossings))
      × (((wants_of mask).plan ≡ false → Promised bytes (take n answer')) × (((wants_of mask).plan ≡ true → PromisedWith bytes plan (take n answer')) × (CrossingsOnSheet bytes (told_with (wants_of mask).plan bytes plan) (take n answer') × (((wants_of mask).page ≡ true → PageReadsBack bytes (take n answer') page') × ((wants_of mask).crossings ≡ true → Demand7 bytes (told_with (wants_of mask).plan bytes plan) (take n answer') crossings')))))))))

  pub clauses : answer' ≡ sets answer 0 told_of.answer → page' ≡ sets page 0 told_of.page → crossings' ≡ sets crossings 0 told_of.crossings → n ≡ length told_of.answer → Clauses
  clauses a p l c =
      let f = promised_in mask bytes plan answer answer' (length page) (length crossings) n a c in
      let untouched : n ≤ 6 → (page' ≡ page) × (crossings' ≡ crossings) = λ h.
      let e = refusal_untouched mask bytes plan (length answer) (length page) (length crossings) (subst (λ (k : ℕ). k ≤ 6) c h) in
      (p ∙ ap (sets page 0) e.0, l ∙ ap (sets crossings 0) e.1) in
      (a, (p, (l, (c, (untouched, (f.0, (f.1, (crossings_in mask bytes plan answer answer' (length page) (length crossings) n a c, (page_promised mask bytes plan answer page answer' page' (length crossings) n all a c p, λ wanted. demand_7 mask bytes plan answer crossings answer' crossings' (length page) n wanted a c l)))))))))

  module _ (w : Wants) (is : w ≡ wants_of mask) where
    abbrev told_outputs : Wants → Outputs
    told_outputs v = outputs_told v (after_all v (told_with v.plan bytes plan))

    -- 2
    pub when_short : too_short w (length answer) (length page) (length crossings) ≡ true → answer' ≡ answer → page' ≡ page → crossings' ≡ crossings → n ≡ 0 → Clauses
    unfolding outputs_of
    when_short e a p l c =
        let t : too_short (wants_of mask) (length answer) (length page) (length crossings) ≡ true = ap (λ (v : Wants). too_short v (length answer) (length page) (length crossings)) (sym is) ∙ e in
        let o : told_of ≡ nothing = ap (λ (b : Bool). cond b nothing (told_outputs (wants_of mask))) t in
        clauses (a ∙ sym (ap (λ (z : Outputs). sets answer 0 z.answer) o)) (p ∙ sym (ap (λ (z : Outputs). sets page 0 z.page) o)) (l ∙ sym (ap (λ (z : Outputs). sets crossings 0 z.crossings) o)) (c ∙ sym (ap (λ (z : Outputs). length z.answer) o))

    pub when_long : too_short w (length answer) (length page) (length crossings) ≡ false → Writes (record { answer = answer; page = page; crossings = crossings }) (record { answer = answer'; page = page'; crossings = crossings' }) n (outputs_told w (after_all w (told_with w.plan bytes plan))) → Clauses
    unfolding outputs_of
    when_long e h =
        let t : too_short (wants_of mask) (length answer) (length page) (length crossings) ≡ false = ap (λ (v : Wants). too_short v (length answer) (length page) (length crossings)) (sym is) ∙ e in
        let o : told_of ≡ told_outputs w = ap (λ (b : Bool). cond b nothing (told_outputs (wants_of mask))) t ∙ ap told_outputs (sym is) in
        clauses (h.answer ∙ sym (ap (λ (z : Outputs). sets answer 0 z.answer) o)) (h.page ∙ sym (ap (λ (z : Outputs). sets page 0 z.page) o)) (h.crossings ∙ sym (ap (λ (z : Outputs). sets crossings 0 z.crossings) o)) (h.count ∙ sym (ap (λ (z : Outputs). length z.answer) o))

-- the mask of `stage`
pub no_plan : (wants_of 0).plan ≡ false
unfolding wants_of
no_plan = refl

pub own_crossings : (bytes plan answer : List ℕ) → CrossingsOnSheet bytes (told_with (wants_of 0).plan bytes plan) answer → CrossingsOnSheet bytes (told bytes) answer
own_crossings bytes plan answer h = subst (λ (t : Told). CrossingsOnSheet bytes t answer) (ap (λ (g : Bool). told_with g bytes plan) no_plan ∙ own_told bytes plan) h

-- that of `stage_draw`
one_plan : (wants_of 1).plan ≡ true
unfolding wants_of
one_plan = refl

pub plan_crossings : (bytes plan answer : List ℕ) → CrossingsOnSheet bytes (told_with (wants_of 1).plan bytes plan) answer → CrossingsOnSheet bytes (draw_told bytes plan) answer
plan_crossings bytes plan answer h = subst (λ (t : Told). CrossingsOnSheet bytes t answer) (ap (λ (g : Bool). told_with g bytes plan) one_plan) h
