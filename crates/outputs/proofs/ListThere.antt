-- F-7's promise of the list that stands in its buffer after a call of stage_sheet. Assumes nothing.
use Rattle.std.specs.Prelude.{ℕ, ◌≤◌, ◌<◌, ◌≡◌, Bool, not, ◌&&◌, cond, List, [], ltb, take}
use Rattle.std.proofs.Math.Path.{refl, ap}
use Rattle.std.proofs.Common.{sym, ◌∙◌, subst, true≢false, arith, ltb-false}
use Rattle.std.proofs.Math.Bool.{true, false}
use Rattle.std.proofs.Math.ListN.{length}
use Rattle.std.proofs.Math.Seq.{sets}
use Rattle.answer.proofs.Stores.{notice_length}
use Rattle.promise.specs.Stage.{Finished, Told, refused, drawn, told_bytes}
use Rattle.plan_stage.specs.Entries.{plan_phase, told_with}
use Rattle.plan_stage.proofs.EitherPlan.{ComesWith, CauseWith, a_refusal, a_sheet, cause_with, phase_own, taken_shaped}
use Rattle.plan_bytes.specs.PlanBack.{taken_fair}
use Rattle.limits.specs.Limits.{max_crossings, crossing_bytes, crossings_room}
use Rattle.crossing_bytes.specs.Bytes.{list_bytes}
use Rattle.crossing_promise.specs.Demand7.{list_in, ListPromised, Demand7}
use Rattle.crossing_promise.specs.SheetList.{list_of}
use Rattle.crossing_promise.proofs.Theorem.{Drawable, own_drawable, on_sheet, list_promised}
use Rattle.outputs.specs.declared.Wants.{Wants}
use Rattle.outputs.specs.Outputs.{nothing, wants_of, too_short, too_many, after_all, outputs_told, outputs_of}
use Rattle.outputs.specs.Promises.{SheetCrossings, CrossingsOnSheet}
use Rattle.outputs.proofs.Front.{Front, untouched, as_told, many, off_grid, wanted_room, front_of, at_front, rooms}

-- a plan that is given, or our own
with_drawable : (given : Bool) (bytes plan : List ℕ) (f : Finished) → ComesWith given bytes plan f → Drawable bytes f
unfolding plan_phase
with_drawable true bytes plan f c =
    let j = f.said in
    record {
      is_read = c.is_read;
      within = (taken_shaped j plan f.plan_used c.is_taken).within;
      of_format = (taken_fair j.flags.on_grid (length j.board.bundles) j.grants.tap_visits plan f.plan_used c.is_taken).real;
      is_drawn = c.is_drawn;
    }
with_drawable false bytes plan f c = own_drawable bytes f (record { is_read = c.is_read; is_planned = phase_own f.said plan f.plan_used c.is_taken; is_drawn = c.is_drawn })

-- THE SHEET, of whatever stands at the front of the answer's buffer
pub crossings_on_sheet : (given : Bool) (bytes plan : List ℕ) (room : ℕ) (front : List ℕ) → Front given bytes plan room front → CrossingsOnSheet bytes (told_with given bytes plan) front
unfolding told_bytes
crossings_on_sheet given bytes plan room front (untouched e) long = absurd (omega (arith, long, ap length e))
crossings_on_sheet given bytes plan room front (many h e f t) long = absurd (omega (arith, long, ap length e, notice_length 19))
crossings_on_sheet given bytes plan room front (off_grid h e f t r g) long = absurd (omega (arith, long, ap length e, notice_length 16))
crossings_on_sheet given bytes plan room front (as_told h e) long = go (told_with given bytes plan) (cause_with given bytes plan) refl
  where
    go : (t : Told) → CauseWith given bytes plan t → told_with given bytes plan ≡ t → SheetCrossings bytes (told_with given bytes plan) front
    go t (a_refusal n) q = absurd (omega (arith, long, ap length (e ∙ ap told_bytes q), notice_length n))
    go t (a_sheet f c) q = record { finished = f; is_told = q; is_written = e ∙ ap told_bytes q; on_sheet = on_sheet bytes f (with_drawable given bytes plan f c) }

-- of what stands in the buffer
pub crossings_in : (mask : ℕ) (bytes plan buffer after : List ℕ) (page crossings n : ℕ) → after ≡ sets buffer 0 (outputs_of mask bytes plan (length buffer) page crossings).answer → n ≡ length (outputs_of mask bytes plan (length buffer) page crossings).answer
    → CrossingsOnSheet bytes (told_with (wants_of mask).plan bytes plan) (take n after)
crossings_in mask bytes plan buffer after page crossings n e h =
    let front = (outputs_of mask bytes plan (length buffer) page crossings).answer in
    let f = front_of mask bytes plan (length buffer) page crossings in
    subst (CrossingsOnSheet bytes (told_with (wants_of mask).plan bytes plan)) (sym (at_front (wants_of mask).plan bytes plan buffer front after n f e h))
    (crossings_on_sheet (wants_of mask).plan bytes plan (length buffer) front f)

-- a list has a count and at most 1,024 entries of 24 bytes
pub list_sizes : (crossing_bytes ≡ 24) × (crossings_room ≡ 24578)
list_sizes = (refl, refl)

wanted_few : (wanted : Bool) (n least : ℕ) → wanted ≡ true → (wanted && ltb least n) ≡ false → n ≤ least
wanted_few true n least h e = ltb-false least n e
wanted_few false n least h e = absurd (true≢false (sym h))

module _ (w : Wants) (given : Bool) (bytes plan : List ℕ) (wanted : w.crossings ≡ true) (buffer after front : List ℕ) (room : crossings_room ≤ length buffer) where
  told_list : (t : Told) → CauseWith given bytes plan t → front ≡ (outputs_told w (after_all w t)).answer → after ≡ sets buffer 0 (outputs_told w (after_all w t)).crossings → 6 < length front → ListPromised bytes t front (list_in after)
  unfolding too_many after_all outputs_told
  told_list t (a_refusal n) e s long = absurd (omega (arith, long, ap length e, notice_length n))
  told_list t (a_sheet f c) e s long = go (too_many w f) refl e s
    where
      last : (b : Bool) → too_many w f ≡ false → front ≡ (outputs_told w (cond b (refused 16) (drawn f))).answer → after ≡ sets buffer 0 (outputs_told w (cond b (refused 16) (drawn f))).crossings → ListPromised bytes (drawn f) front (list_in after)
      last true m e s = absurd (omega (arith, long, ap length e, notice_length 16))
      last false m e s =
          list_promised bytes (drawn f) f front buffer after (with_drawable given bytes plan f c) refl e (wanted_few w.crossings (length (list_of f)) max_crossings wanted m) room
          (s ∙ ap (λ (b : Bool). sets buffer 0 (cond b (list_bytes f.said.board (list_of f)) [])) wanted)

      go : (b : Bool) → too_many w f ≡ b → front ≡ (outputs_told w (cond b (refused 19) (cond (w.page && not f.said.flags.on_grid) (refused 16) (drawn f)))).answer → after ≡ sets buffer 0 (outputs_told w (cond b (refused 19) (cond (w.page && not f.said.flags.on_grid) (refused 16) (drawn f)))).crossings → ListPromised bytes (drawn f) front (list_in after)
      go true m e s = absurd (omega (arith, long, ap length e, notice_length 19))
      go false m e s = last (w.page && not f.said.flags.on_grid) m e s

-- THE PROMISE, of the bytes in the answer's buffer and of the list's buffer
pub demand_7 : (mask : ℕ) (bytes plan answer crossings after list : List ℕ) (page n : ℕ) → (wants_of mask).crossings ≡ true
    → after ≡ sets answer 0 (outputs_of mask bytes plan (length answer) page (length crossings)).answer → n ≡ length (outputs_of mask bytes plan (length answer) page (length crossings)).answer
    → list ≡ sets crossings 0 (outputs_of mask bytes plan (length answer) page (length crossings)).crossings → Demand7 bytes (told_with (wants_of mask).plan bytes plan) (take n after) list
unfolding outputs_of
demand_7 mask bytes plan answer crossings after list page n wanted a h l long =
    let f = at_front (wants_of mask).plan bytes plan answer (outputs_of mask bytes plan (length answer) page (length crossings)).answer after n (front_of mask bytes plan (length answer) page (length crossings)) a h in
    go (too_short (wants_of mask) (length answer) page (length crossings)) refl f l
  where
    go : (b : Bool) → too_short (wants_of mask) (length answer) page (length crossings) ≡ b
        → take n after ≡ (cond b nothing (outputs_told (wants_of mask) (after_all (wants_of mask) (told_with (wants_of mask).plan bytes plan)))).answer
        → list ≡ sets crossings 0 (cond b nothing (outputs_told (wants_of mask) (after_all (wants_of mask) (told_with (wants_of mask).plan bytes plan)))).crossings → ListPromised bytes (told_with (wants_of mask).plan bytes plan) (take n after) (list_in list)
    go true e f l = absurd (omega (arith, long, ap length f))
    go false e f l =
        let r = rooms (wants_of mask) (length answer) page (length crossings) e in
        told_list (wants_of mask) (wants_of mask).plan bytes plan wanted crossings list (take n after) (wanted_room (wants_of mask).crossings (length crossings) crossings_room wanted r.for_crossings) (told_with (wants_of mask).plan bytes plan) (cause_with (wants_of mask).plan bytes plan) f l long
