-- What is promised of the bytes that stand in the answer's buffer: demand 3, F-2's words, and F-7's about the sheet. The notice of 19 tells of the list, not of the sheet, so F-2's words about the answer leave it out. Definitions only.
-- Assumes nothing.
use Rattle.std.specs.Prelude.{ℕ, ◌<◌, ◌≡◌, List, length}
use Rattle.answer.specs.Answer.{answer_bytes, notice_bytes}
use Rattle.promise.specs.Stage.{Finished, answer_of, Told, drawn}
use Rattle.promise.specs.Demand3.{Demand3}
use Rattle.last_shift.specs.InAnswer.{Demand3InAnswer}
use Rattle.grid_promise.specs.Grid.{OnGrid}
use Rattle.grid_promise.specs.GridAnswer.{Demand3OnGrid}
use Rattle.crossing_promise.specs.Demand7.{ListOnSheet}
use Rattle.crossing_promise.specs.SheetList.{list_of}
use Rattle.plan_stage.specs.PlanDemand3.{Demand3From, Demand3InAnswerFrom, OnGridFrom, Demand3OnGridFrom}

-- where the plan is our own
pub record Promised (bytes answer : List ℕ) : Type 0 where
  pub demand : Demand3 bytes answer
  pub in_answer : Demand3InAnswer bytes answer
  pub on_grid : (answer ≡ notice_bytes 19 → ⊥) → OnGrid bytes answer
  pub in_answer_on_grid : Demand3OnGrid bytes answer

-- where a plan is given
pub record PromisedWith (bytes plan answer : List ℕ) : Type 0 where
  pub demand : Demand3From bytes plan answer
  pub in_answer : Demand3InAnswerFrom bytes plan answer
  pub on_grid : (answer ≡ notice_bytes 19 → ⊥) → OnGridFrom bytes plan answer
  pub in_answer_on_grid : Demand3OnGridFrom bytes plan answer

-- F-7's words about a sheet that is drawn, whether its list is wanted or not; t is what the job comes to
pub record SheetCrossings (bytes : List ℕ) (t : Told) (answer : List ℕ) : Type 0 where
  pub finished : Finished
  pub is_told : t ≡ drawn finished
  pub is_written : answer ≡ answer_bytes (answer_of finished)
  pub on_sheet : ListOnSheet bytes finished.sheet_made (list_of finished)

-- an answer with number 0 is written: more than the six bytes of a notice
abbrev pub CrossingsOnSheet : List ℕ → Told → List ℕ → Type 0
CrossingsOnSheet bytes t answer = 6 < length answer → SheetCrossings bytes t answer
