-- Demand 3 of every plan's accepted sheet (F-5), as statements about the bytes of a job, those of a plan and those that stand in the answer's buffer for both. The words are those of crate promise's Demand3.antt, of last_shift's InAnswer.antt and of grid_promise's Grid.antt and GridAnswer.antt. Definitions only.
-- Assumes nothing.
use Rattle.std.specs.Prelude.{ℕ, ◌<◌, ◌≡◌, List, length}
use Rattle.limits.specs.Limits.{plan_room}
use Rattle.sorting.specs.Lists.{Every}
use Rattle.job.specs.Job.{Job, read_job}
use Rattle.job.specs.Job as job
use Rattle.plan.specs.Plan.{Plan}
use Rattle.drawing.specs.Normal as drawing
use Rattle.drawing.specs.Normal.{sheet_after}
use Rattle.drawing.specs.Sheet.{Progress}
use Rattle.drawing.specs.Sheet as sheets
use Rattle.answer.specs.Answer.{answer_bytes}
use Rattle.plan_bytes.specs.PlanBytes.{taken}
use Rattle.promise.specs.Stage.{Finished, answer_of, sheet_drawn}
use Rattle.promise.specs.Demand3.{crossing_bit, KeptOnSheet, BestPlaces}
use Rattle.last_shift.specs.InAnswer.{Carried}
use Rattle.grid_plan.specs.Image as I
use Rattle.grid_plan.specs.Plan as P
use Rattle.grid_plan.specs.Sizes.{Placed}
use Rattle.grid_promise.specs.Grid.{grid_bit, WholeJob, whole_sheet_from, whole_job_from, as_told_from, as_bytes}
use Rattle.grid_promise.specs.GridAnswer.{CarriedOnGrid}
use Rattle.plan_stage.specs.Entries.{plan_written, plan_for, draw_told}

-- how a job and a plan come to what is finished: both are read, the sheet is drawn bundle after bundle
pub record ComesFrom (bytes plan : List ℕ) (f : Finished) : Type 0 where
  pub is_read : read_job bytes ≡ job.accepted f.said
  pub is_taken : plan_for f.said plan ≡ taken f.plan_used
  pub is_drawn : sheet_drawn f.said f.plan_used ≡ sheets.going f.sheet_made

-- what is kept where an answer is written and crossings are forbidden
pub record KeptFrom (bytes plan answer : List ℕ) : Type 0 where
  pub finished : Finished
  pub is_written : answer ≡ answer_bytes (answer_of finished)
  pub comes : ComesFrom bytes plan finished
  -- the first three sentences: "of every plan's accepted sheet"
  pub on_sheet : KeptOnSheet finished.said finished.sheet_made
  -- "its last sentence only for a plan that our planner made from that same job": the plan's bytes are those that the planner writes for the job's
  pub places : plan ≡ plan_written bytes plan_room → BestPlaces bytes finished.said finished.plan_used finished.sheet_made

-- DEMAND 3 OF EVERY PLAN
abbrev pub Demand3From : List ℕ → List ℕ → List ℕ → Type 0
Demand3From bytes plan answer = 6 < length answer → crossing_bit bytes ≡ 0 → KeptFrom bytes plan answer

-- ---- of the sheet in the answer

-- the sheet before the last shift
abbrev pub before : Finished → drawing.Sheet
before f = sheet_after f.said.board f.sheet_made

pub record KeptInAnswerFrom (bytes plan answer : List ℕ) : Type 0 where
  pub kept : KeptFrom bytes plan answer
  pub carried : Carried kept.finished.said.board (before kept.finished) (answer_of kept.finished)

abbrev pub Demand3InAnswerFrom : List ℕ → List ℕ → List ℕ → Type 0
Demand3InAnswerFrom bytes plan answer = 6 < length answer → crossing_bit bytes ≡ 0 → KeptInAnswerFrom bytes plan answer

-- ---- with bit 2 set

-- F-2, of a job and a plan that is taken for it: the sheet and its answer are those in whole numbers over 128
pub record GridFrom (bytes plan answer : List ℕ) (j : Job) (p : Plan) : Type 0 where
  pub in_wholes : WholeJob j
  pub whole_plan : P.Plan
  -- every planned number is the whole number over 128, and at most 2 ^ 20
  pub plan_is : p ≡ I.plan whole_plan
  pub near : Every Placed whole_plan.xs
  pub told_is : draw_told bytes plan ≡ as_told_from j whole_plan (whole_sheet_from j whole_plan)
  pub answer_is : answer ≡ as_bytes j (whole_job_from j whole_plan)

abbrev pub OnGridFrom : List ℕ → List ℕ → List ℕ → Type 0
OnGridFrom bytes plan answer = 0 < length answer → (j : Job) → read_job bytes ≡ job.accepted j → grid_bit bytes ≡ 1 → (p : Plan) → plan_for j plan ≡ taken p → GridFrom bytes plan answer j p

-- demand 3 of the sheet in the answer, with no condition
pub record KeptOnGridFrom (bytes plan answer : List ℕ) : Type 0 where
  pub kept : KeptInAnswerFrom bytes plan answer
  pub on_grid : CarriedOnGrid kept.kept.finished.said.board (before kept.kept.finished) (answer_of kept.kept.finished)

abbrev pub Demand3OnGridFrom : List ℕ → List ℕ → List ℕ → Type 0
Demand3OnGridFrom bytes plan answer = 6 < length answer → crossing_bit bytes ≡ 0 → grid_bit bytes ≡ 1 → KeptOnGridFrom bytes plan answer

-- ALL OF IT, of the bytes that stand in the answer's buffer
pub record PromisedFrom (bytes plan answer : List ℕ) : Type 0 where
  pub demand : Demand3From bytes plan answer
  pub in_answer : Demand3InAnswerFrom bytes plan answer
  pub on_grid : OnGridFrom bytes plan answer
  pub in_answer_on_grid : Demand3OnGridFrom bytes plan answer
