-- Document 02's F-5: the planner and the drawing as two operations. Which bytes the planner writes for a job's bytes, and which the drawing writes for those of a job and a plan. Definitions only.
-- Assumes nothing.
use Rattle.std.specs.Prelude.{ℕ, Bool, true, cond, List, [], ltb, leb, length}
use Rattle.std.proofs.lemmas.List.Edits.{sets}
use Rattle.limits.specs.Limits.{answer_room, plan_room}
use Rattle.job.specs.Job.{Job, read_job}
use Rattle.job.specs.Job as job
use Rattle.plan.specs.Plan.{Plan, Step}
use Rattle.plan.specs.Plan as plan
use Rattle.answer.specs.Answer.{notice_bytes}
use Rattle.plan_bytes.specs.PlanBytes.{plan_bytes, Taken, rejected, taken, read_plan}
use Rattle.promise.specs.Stage.{Told, refused, planned, sheet_drawn, after_sheet, told_bytes}

-- ---- the planner

-- "13 is looked for by the planner alone"
unfoldable pub after_search : Step → Taken
after_search (plan.refused v) = rejected 13
after_search (plan.going p) = taken p

-- 1, 3 to 9, and 15
unfoldable pub plan_after_reading : job.Outcome → Taken
plan_after_reading (job.refusal n) = rejected n
plan_after_reading (job.accepted j) = after_search (planned j)

abbrev pub plan_told : List ℕ → Taken
plan_told bytes = plan_after_reading (read_job bytes)

-- "The planner puts a refusal's notice at the front of the plan's buffer"
unfoldable pub plan_told_bytes : Taken → List ℕ
plan_told_bytes (rejected n) = notice_bytes n
plan_told_bytes (taken p) = plan_bytes p

-- 2: the plan's buffer has no room for the largest plan; nothing is written
unfoldable pub plan_written : List ℕ → ℕ → List ℕ
plan_written bytes room = cond (ltb room plan_room) [] (plan_told_bytes (plan_told bytes))

-- the plan's buffer after: what is written stands at its front, later bytes are untouched
abbrev pub planner_of : List ℕ → List ℕ → List ℕ
planner_of bytes buffer = sets buffer 0 (plan_written bytes (length buffer))

-- ---- the drawing

-- the plan that a plan's bytes are for a job
abbrev pub plan_for : Job → List ℕ → Taken
plan_for j bytes = read_plan j.flags.on_grid (length j.board.bundles) j.grants.tap_visits bytes

-- the plan that a job is drawn from: one that is given (17, 18), or our own (13)
unfoldable pub plan_phase : Bool → Job → List ℕ → Taken
plan_phase given j plan = cond given (plan_for j plan) (after_search (planned j))

-- 10, 11, 12 and 14; "the drawing hands the visits on to the answer"
unfoldable pub after_taking : Job → Taken → Told
after_taking j (rejected n) = refused n
after_taking j (taken p) = after_sheet j p (sheet_drawn j p)

-- 1, 3 to 9, and 15, then the plan
unfoldable pub with_plan : Bool → List ℕ → job.Outcome → Told
with_plan given plan (job.refusal n) = refused n
with_plan given plan (job.accepted j) = after_taking j (plan_phase given j plan)

abbrev pub told_with : Bool → List ℕ → List ℕ → Told
told_with given bytes plan = with_plan given plan (read_job bytes)

-- from a plan that is given
abbrev pub draw_told : List ℕ → List ℕ → Told
draw_told bytes plan = told_with true bytes plan

-- 2: the answer's buffer under 65,536 bytes
unfoldable pub draw_written : List ℕ → List ℕ → ℕ → List ℕ
draw_written bytes plan room = cond (ltb room answer_room) [] (told_bytes (draw_told bytes plan))

-- the answer's buffer after
abbrev pub draw_of : List ℕ → List ℕ → List ℕ → List ℕ
draw_of bytes plan buffer = sets buffer 0 (draw_written bytes plan (length buffer))

-- ---- the two in turn

-- what the planner wrote is a notice, of six bytes, or a plan, of nine at least: the drawing goes on with a plan
unfoldable pub then_drawn : List ℕ → List ℕ → ℕ → List ℕ
then_drawn bytes plan room = cond (leb (length plan) 6) plan (draw_written bytes plan room)

-- "The old entry becomes the two in turn": the planner in a buffer that has room for the largest plan, then the drawing of what it wrote; 2 is looked at first
unfoldable pub in_turn : List ℕ → ℕ → List ℕ
in_turn bytes room = cond (ltb room answer_room) [] (then_drawn bytes (plan_written bytes plan_room) room)
