-- The stage is the planner and the drawing in turn, byte for byte. Assumes nothing.
use Rattle.std.specs.Prelude.{ℕ, ◌≤◌, ◌<◌, ◌≡◌, Bool, true, false, cond, List, [], ltb, length}
use Rattle.std.proofs.Math.Path.{refl}
use Rattle.std.proofs.Common.{sym, ap, ◌∙◌, arith, le-leb, le-ltb, ltb-false}
use Rattle.std.proofs.lemmas.Bool.{lt-leb}
use Rattle.limits.specs.Limits.{answer_room, plan_room}
use Rattle.job.specs.Job.{Job, read_job}
use Rattle.job.specs.Job as job
use Rattle.plan.specs.Plan.{Plan, Step}
use Rattle.plan.specs.Plan as planning
use Rattle.answer.specs.Answer.{notice_bytes}
use Rattle.answer.proofs.Stores.{notice_length}
use Rattle.plan_bytes.specs.PlanBytes.{plan_bytes}
use Rattle.plan_bytes.specs.PlanBack.{plan_at_least}
use Rattle.promise.specs.Stage.{planned, after_plan, after_reading, told, told_bytes, written}
use Rattle.plan_stage.specs.Entries.{after_search, plan_after_reading, plan_told, plan_told_bytes, plan_written, plan_phase, after_taking, with_plan, told_with, draw_told, draw_written, then_drawn, in_turn}
use Rattle.plan_stage.proofs.OwnPlan.{own_back}

-- a plan that was made goes on to the drawing of its bytes
made_drawn : (bytes : List ℕ) (j : Job) → read_job bytes ≡ job.accepted j → (p : Plan) → planned j ≡ planning.going p → draw_told bytes (plan_bytes p) ≡ told bytes
unfolding with_plan plan_phase after_taking after_reading after_plan
made_drawn bytes j r p q = rw (r, own_back bytes j r p q, q)

notice_stays : (bytes : List ℕ) (n room : ℕ) → then_drawn bytes (notice_bytes n) room ≡ notice_bytes n
unfolding then_drawn
notice_stays bytes n room =
    let h : length (notice_bytes n) ≤ 6 = omega (arith, notice_length n) in
    ap (λ (b : Bool). cond b (notice_bytes n) (draw_written bytes (notice_bytes n) room)) (le-leb (length (notice_bytes n)) 6 h)

plan_goes_on : (bytes : List ℕ) (p : Plan) (room : ℕ) → answer_room ≤ room → then_drawn bytes (plan_bytes p) room ≡ told_bytes (draw_told bytes (plan_bytes p))
unfolding then_drawn draw_written
plan_goes_on bytes p room h =
    let k : 6 < length (plan_bytes p) = omega (arith, plan_at_least p) in
    rw (lt-leb (length (plan_bytes p)) 6 k, le-ltb room answer_room h)

planned_turns : (bytes : List ℕ) (room : ℕ) → answer_room ≤ room → (j : Job) → read_job bytes ≡ job.accepted j → (s : Step) → planned j ≡ s → told bytes ≡ after_plan j s
    → then_drawn bytes (plan_told_bytes (after_search s)) room ≡ told_bytes (told bytes)
unfolding plan_told_bytes after_search
planned_turns bytes room h j r (planning.refused v) e t = notice_stays bytes 13 room ∙ sym (ap told_bytes t ∙ thirteen)
  where
    thirteen : told_bytes (after_plan j (planning.refused v)) ≡ notice_bytes 13
    thirteen = unfold told_bytes after_plan in refl
planned_turns bytes room h j r (planning.going p) e t = plan_goes_on bytes p room h ∙ ap told_bytes (made_drawn bytes j r p e)

reading_turns : (bytes : List ℕ) (room : ℕ) → answer_room ≤ room → (o : job.Outcome) → read_job bytes ≡ o → told bytes ≡ after_reading o → then_drawn bytes (plan_told_bytes (plan_after_reading o)) room ≡ told_bytes (told bytes)
unfolding plan_told_bytes plan_after_reading
reading_turns bytes room h (job.refusal n) e t = notice_stays bytes n room ∙ sym (ap told_bytes t ∙ refusal)
  where
    refusal : told_bytes (after_reading (job.refusal n)) ≡ notice_bytes n
    refusal = unfold told_bytes after_reading in refl
reading_turns bytes room h (job.accepted j) e t = planned_turns bytes room h j e (planned j) refl (t ∙ go)
  where
    go : after_reading (job.accepted j) ≡ after_plan j (planned j)
    go = unfold after_reading in refl

roomy_plan : (bytes : List ℕ) → plan_written bytes plan_room ≡ plan_told_bytes (plan_told bytes)
unfolding plan_written
roomy_plan bytes = refl

-- THE STAGE IS THE TWO IN TURN: the bytes written, whatever the job's bytes are and however long the buffer
pub stage_in_turn : (bytes : List ℕ) (room : ℕ) → in_turn bytes room ≡ written bytes room
unfolding in_turn written
stage_in_turn bytes room = go (ltb room answer_room) refl
  where
    go : (t : Bool) → ltb room answer_room ≡ t → cond t [] (then_drawn bytes (plan_written bytes plan_room) room) ≡ cond t [] (told_bytes (told bytes))
    go true e = refl
    go false e = ap (λ (l : List ℕ). then_drawn bytes l room) (roomy_plan bytes) ∙ reading_turns bytes room (ltb-false room answer_room e) (read_job bytes) refl refl

-- the stage's own: no plan is given
pub own_told : (bytes plan : List ℕ) → told_with false bytes plan ≡ told bytes
own_told bytes plan = reading (read_job bytes)
  where
    searched : (j : Job) (s : Step) → after_taking j (after_search s) ≡ after_plan j s
    searched j (planning.refused v) = unfold after_taking after_search after_plan in refl
    searched j (planning.going p) = unfold after_taking after_search after_plan in refl

    reading : (o : job.Outcome) → with_plan false plan o ≡ after_reading o
    reading (job.refusal n) = unfold with_plan after_reading in refl
    reading (job.accepted j) = unfold with_plan plan_phase after_reading in searched j (planned j)
