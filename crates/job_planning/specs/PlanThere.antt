-- What stands in the plan's buffer after a call of stage_plan: never more than the largest plan, and where there is room for that, the plan or the notice at its front. Assumes nothing.
use Rattle.std.specs.Prelude.{ℕ, ◌≤◌, ◌≡◌, refl, Bool, true, false, cond, List, [], ltb, length, take}
use Rattle.std.proofs.Common.{sym, ap, ◌∙◌, arith, le-ltb, ltb-false}
use Rattle.limits.specs.Limits.{plan_room}
use Rattle.answer.proofs.Stores.{notice_length}
use Rattle.job.specs.Job.{Job, read_job}
use Rattle.job.specs.Job as job
use Rattle.plan.specs.Plan.{Step}
use Rattle.plan.specs.Plan as planning
use Rattle.plan_bytes.specs.PlanBack.{plan_at_most}
use Rattle.promise.specs.Stage.{planned}
use Rattle.promise.proofs.Size.{over}
use Rattle.plan_stage.specs.Entries.{after_search, plan_after_reading, plan_told, plan_told_bytes, plan_written, planner_of}
use Rattle.plan_stage.proofs.OwnPlan.{own_written}

told_fits : (bytes : List ℕ) → length (plan_told_bytes (plan_told bytes)) ≤ plan_room
unfolding after_search plan_after_reading plan_told_bytes
told_fits bytes = reading (read_job bytes) refl
  where
    searched : (j : Job) → read_job bytes ≡ job.accepted j → (s : Step) → planned j ≡ s → length (plan_told_bytes (after_search s)) ≤ plan_room
    searched j r (planning.refused v) e = omega (arith, notice_length 13)
    searched j r (planning.going p) e = plan_at_most p (own_written bytes j r p e).few

    reading : (o : job.Outcome) → read_job bytes ≡ o → length (plan_told_bytes (plan_after_reading o)) ≤ plan_room
    reading (job.refusal n) e = omega (arith, notice_length n)
    reading (job.accepted j) e = searched j e (planned j) refl

-- THE SIZE
pub plan_size : (bytes : List ℕ) (room : ℕ) → (length (plan_written bytes room) ≤ plan_room) × (length (plan_written bytes room) ≤ room)
unfolding plan_written
plan_size bytes room = go (ltb room plan_room) refl
  where
    go : (b : Bool) → ltb room plan_room ≡ b → (length (cond b [] (plan_told_bytes (plan_told bytes))) ≤ plan_room) × (length (cond b [] (plan_told_bytes (plan_told bytes))) ≤ room)
    go true e = (omega arith, omega arith)
    go false e = let h = told_fits bytes in (h, omega (arith, h, ltb-false room plan_room e))

same_room : (bytes : List ℕ) (room : ℕ) → plan_room ≤ room → plan_written bytes room ≡ plan_written bytes plan_room
unfolding plan_written
same_room bytes room h =
    ap (λ (b : Bool). cond b [] (plan_told_bytes (plan_told bytes))) (le-ltb room plan_room h)
    ∙ sym (ap (λ (b : Bool). cond b [] (plan_told_bytes (plan_told bytes))) (le-ltb plan_room plan_room (omega arith)))

-- of what stands in the buffer
pub plan_there : (bytes buffer after : List ℕ) (n : ℕ) → after ≡ planner_of bytes buffer → n ≡ length (plan_written bytes (length buffer))
    → (n ≤ plan_room) × (plan_room ≤ length buffer → take n after ≡ plan_written bytes plan_room)
plan_there bytes buffer after n e h =
    let s = plan_size bytes (length buffer) in (
      omega (arith, h, s.0),
      λ room.
          ap (take n) e ∙ ap (λ (k : ℕ). take k (planner_of bytes buffer)) h ∙ (over buffer (plan_written bytes (length buffer)) s.1).at_front ∙ same_room bytes (length buffer) room,
    )
