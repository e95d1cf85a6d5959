-- The planner's phases, from what its callees ensure to what is told and written. Assumes nothing.
use Prim.Native.Nat.{ℕ, ◌≤◌, ◌<◌}
use mathlib.Core.Path.{◌≡◌, sym, ap, ◌∙◌, subst}
use mathlib.Core.Bool.{Bool, cond}
use mathlib.Core.List.{List, []}
use borrow.Author.Tests.{lt-ltb, le-ltb}
use lib.ListN.{length}
use lib.Seq.{sets}
use lib.Ieee.{Float}
use Rattle.limits.specs.Limits.{plan_room}
use Rattle.geometry.specs.Points.{Route}
use Rattle.job.specs.declared.Job as code
use Rattle.std.specs.Prelude.{Ok, Err}
use Rattle.refusal.specs.declared.Refusal.{Refusal}
use Rattle.refusal.specs.Refusal.{refusal_number}
use Rattle.job.specs.Job.{read_job, given_routes}
use Rattle.job.specs.AllTables.{JobTold}
use Rattle.board.specs.Board.{Board}
use Rattle.plan.specs.BoardTables as tables
use Rattle.plan.specs.declared.tables.BoardTables.{BoardTables}
use Rattle.plan.specs.Lent.{board_lent}
use Rattle.plan.specs.Prepared.{plan_in}
use Rattle.plan.specs.Plan.{plan_of}
use Rattle.plan.specs.Plan as planning
use Rattle.std.specs.Prelude.{Result, Ok, Err}
use Rattle.plan.specs.Tables.{Planning}
use Rattle.components.specs.declared.NoRoom.{NoRoom}
use Rattle.components.specs.Settled.{step_in}
use Rattle.answer.specs.Answer.{notice_bytes}
use Rattle.answer.proofs.Stores.{notice_length}
use Rattle.plan_bytes.specs.PlanBytes.{plan_bytes, Taken, rejected, taken}
use Rattle.job_tables.proofs.Ready.{read_accepted, bundles_lent, given_lent}
use Rattle.job_tables.specs.Came.{job_in, Came}
use Rattle.promise.specs.Stage.{planned}
use Rattle.plan_stage.specs.Entries.{after_search, plan_after_reading, plan_told, plan_told_bytes, plan_written, planner_of}
use Rattle.job_planning.specs.PlanWrites.{PlanWrites, PlanEnded}

pub notice_writes : (before after : List ℕ) (r n : ℕ) (t : Taken) → t ≡ rejected n → after ≡ sets before 0 (notice_bytes n) → r ≡ 6 → PlanWrites before after r t
unfolding plan_told_bytes
notice_writes before after r n t e b c = record { bytes = rw e b; count = rw e (c ∙ sym (notice_length n)) }

-- of a Result: what was written, and the notice of a refusal, which nothing was written before
pub written : (before after : List ℕ) (d : Result ℕ Refusal) (n : ℕ) (t : Taken) → d ≡ Ok n → PlanEnded before after d t → PlanWrites before after n t
written before after d n t e w = subst (λ (x : Result ℕ Refusal). PlanEnded before after x t) e w

pub notice_after : (before left : List ℕ) (d : Result ℕ Refusal) (e : Refusal) (t : Taken) → d ≡ Err e → PlanEnded before left d t
    → (n : ℕ) (after : List ℕ) (r : ℕ) → after ≡ sets left 0 (notice_bytes n) → r ≡ 6 → n ≡ refusal_number e → PlanWrites before after r t
notice_after before left d e t is w n after r b c h =
    let p : (t ≡ rejected (refusal_number e)) × (left ≡ before) = subst (λ (x : Result ℕ Refusal). PlanEnded before left x t) is w in
    notice_writes before after r n t (p.0 ∙ ap rejected (sym h)) (b ∙ ap (λ (l : List ℕ). sets l 0 (notice_bytes n)) p.1) c

pub plan_writes : (before after : List ℕ) (r : ℕ) (p : planning.Plan) (t : Taken) → t ≡ taken p → after ≡ sets before 0 (plan_bytes p) → r ≡ length (plan_bytes p) → PlanWrites before after r t
unfolding plan_told_bytes
plan_writes before after r p t e b c = record { bytes = rw e b; count = rw e c }

module _ (j : code.Job) (buffer : List Float) (from : Came j buffer) (t : BoardTables) (lent : board_lent t ≡ (job_in j buffer).board) (s : Result Planning NoRoom)
    (is : step_in (length t.bundles.now) s ≡ plan_of (board_lent t) (tables.given_routes buffer t.edges.now) j.flags.separates_collectors j.grants.tap_visits) where
  planned_is : planned (job_in j buffer) ≡ step_in (length j.bundles.items) s
  planned_is =
      ap (λ (b : Board). plan_of b (given_routes (job_in j buffer)) j.flags.separates_collectors j.grants.tap_visits) (sym lent)
      ∙ ap (λ (g : List Route). plan_of (board_lent t) g j.flags.separates_collectors j.grants.tap_visits) (sym (given_lent j buffer from t lent))
      ∙ sym is
      ∙ ap (λ (n : ℕ). step_in n s) (bundles_lent j buffer from t lent)

  pub plan_refused : (e : NoRoom) → s ≡ Err e → after_search (planned (job_in j buffer)) ≡ rejected 13
  unfolding after_search
  plan_refused e h =
      let z : planned (job_in j buffer) ≡ planning.refused e.left.0 = planned_is ∙ ap (step_in (length j.bundles.items)) h in
      ap after_search z

  pub plan_taken : (p : Planning) → s ≡ Ok p → after_search (planned (job_in j buffer)) ≡ taken (plan_in (length j.bundles.items) p)
  unfolding after_search
  plan_taken p h =
      let z : planned (job_in j buffer) ≡ planning.going (plan_in (length j.bundles.items) p) = planned_is ∙ ap (step_in (length j.bundles.items)) h in
      ap after_search z

pub read_refused : (r : Refusal) (buffer : List Float) (bytes : List ℕ) → JobTold (Err r) buffer (read_job bytes) → plan_told bytes ≡ rejected (refusal_number r)
unfolding plan_after_reading
read_refused r buffer bytes t = ap plan_after_reading (sym t.is)

pub read_planned : (j : code.Job) (buffer : List Float) (bytes : List ℕ) → JobTold (Ok j) buffer (read_job bytes) → plan_told bytes ≡ after_search (planned (job_in j buffer))
unfolding plan_after_reading
read_planned j buffer bytes t = ap plan_after_reading (read_accepted j buffer bytes t)

pub writes_as : (before after : List ℕ) (r : ℕ) (s t : Taken) → s ≡ t → PlanWrites before after r s → PlanWrites before after r t
writes_as before after r s t e w = subst (PlanWrites before after r) e w

short : (bytes : List ℕ) (room : ℕ) → room < plan_room → plan_written bytes room ≡ []
unfolding plan_written
short bytes room h = ap (λ (t : Bool). cond t [] (plan_told_bytes (plan_told bytes))) (lt-ltb room plan_room h)

roomy : (bytes : List ℕ) (room : ℕ) → plan_room ≤ room → plan_written bytes room ≡ plan_told_bytes (plan_told bytes)
unfolding plan_written
roomy bytes room h = ap (λ (t : Bool). cond t [] (plan_told_bytes (plan_told bytes))) (le-ltb room plan_room h)

pub short_plan : (bytes buffer : List ℕ) → length buffer < plan_room → (buffer ≡ planner_of bytes buffer) × (0 ≡ length (plan_written bytes (length buffer)))
short_plan bytes buffer h = (sym (ap (sets buffer 0) (short bytes (length buffer) h)), sym (ap length (short bytes (length buffer) h)))

pub whole_plan : (bytes buffer after : List ℕ) (r : ℕ) → plan_room ≤ length buffer → PlanWrites buffer after r (plan_told bytes) → (after ≡ planner_of bytes buffer) × (r ≡ length (plan_written bytes (length buffer)))
whole_plan bytes buffer after r h w = (w.bytes ∙ sym (ap (sets buffer 0) (roomy bytes (length buffer) h)), w.count ∙ sym (ap length (roomy bytes (length buffer) h)))
