-- F-2 of document 02, of a job's bytes and the bytes that stand in the answer's buffer for them: with bit 2 set every number worked out is the exact fraction over 128, the definition being in whole numbers. Definitions only.
-- Assumes nothing.
use Rattle.std.specs.Prelude.{ℕ, ◌/◌, ◌%◌, ◌<◌, ◌≡◌, List, map, length, get_or}
use Rattle.answer.specs.Answer.{answer_bytes, notice_bytes}
use Rattle.job.specs.Job.{Job, given_routes, read_job}
use Rattle.job.specs.Job as job
use Rattle.plan.specs.Plan as plan
use Rattle.promise.specs.Stage as stage
use Rattle.promise.specs.Stage.{page_told, planned}
use Rattle.grid_plan.specs.Board as Z
use Rattle.grid_plan.specs.Image as I
use Rattle.grid_plan.specs.OnGrid.{OnDraftingGrid}
use Rattle.grid_plan.specs.Plan as P
use Rattle.grid_sheet.specs.Draw as W
use Rattle.grid_sheet.specs.Image.{page, progress}
use Rattle.grid_sheet.specs.Numbers.{Numbers}
use Rattle.grid_sheet.specs.Whole.{Told, refused, drawn, after_sheet, sheet_drawn}
use Rattle.grid_promise.specs.Wholes.{wholes, whole_routes}

-- bit 2 of byte 5 declares the drafting grid
abbrev pub grid_bit : List ℕ → ℕ
grid_bit bytes = get_or bytes 5 0 / 4 % 2

-- ---- what a job comes to in whole numbers
abbrev pub whole_board : Job → Z.Board
whole_board j = wholes j.board

abbrev pub given : Job → List Z.Route
given j = whole_routes (given_routes j)

abbrev pub whole_plan : Job → P.Plan
whole_plan j = P.plan_of (whole_board j) (given j) j.flags.separates_collectors j.grants.tap_visits

-- drawn from a plan in whole numbers, then normalized
abbrev pub whole_sheet_from : Job → P.Plan → W.Outcome
whole_sheet_from j q = sheet_drawn (whole_board j) (given j) j.flags.permits_crossings q.xs j.grants.geometry_visits

abbrev pub whole_job_from : Job → P.Plan → Told
whole_job_from j q = after_sheet (whole_board j) q.left (whole_sheet_from j q)

-- planned once on the given routes, then drawn, then normalized
abbrev pub whole_sheet : Job → W.Outcome
whole_sheet j = whole_sheet_from j (whole_plan j)

abbrev pub whole_job : Job → Told
whole_job j = whole_job_from j (whole_plan j)

-- ---- the same with each whole number over 128 as binary64

-- the sheet before the last shift
abbrev pub as_told_from : Job → P.Plan → W.Outcome → stage.Told
as_told_from j q (W.refused e n) = stage.refused e
as_told_from j q (W.going u) = stage.drawn (record { said = j; plan_used = I.plan q; sheet_made = progress u })

abbrev pub as_told : Job → W.Outcome → stage.Told
as_told j o = as_told_from j (whole_plan j) o

-- the answer's bytes
abbrev pub as_bytes : Job → Told → List ℕ
as_bytes j (refused e) = notice_bytes e
as_bytes j (drawn taps geometry p) = answer_bytes (page_told j.board taps geometry (page p))

-- ---- the statement

-- a job in whole numbers
pub record WholeJob (j : Job) : Type 0 where
  -- the board and the given routes in whole numbers over 128 are the job's
  pub board_is : I.board (whole_board j) ≡ j.board
  pub routes_are : map I.route (given j) ≡ given_routes j
  -- its numbers have the sizes and its counts the limits that the next field's equations ask for
  pub on_grid : OnDraftingGrid (whole_board j) (given j)
  -- every number worked out, definition by definition; same place is equality, separation a distance of at least the pitch
  pub numbers_are : Numbers (whole_board j) (given j)

pub record Grid (bytes answer : List ℕ) (j : Job) : Type 0 where
  pub in_wholes : WholeJob j
  -- the plan is that in whole numbers, which has no refusal
  pub plan_is : planned j ≡ plan.going (I.plan (whole_plan j))
  -- the sheet before the last shift with the visits left, or the number of a refusal
  pub told_is : stage.told bytes ≡ as_told j (whole_sheet j)
  -- and, the sheet shifted, the bytes of the answer
  pub answer_is : answer ≡ as_bytes j (whole_job j)
  -- "13 cannot happen"
  pub never_13 : answer ≡ notice_bytes 13 → ⊥

-- F-2, of a job's bytes and the bytes that stand in the answer's buffer for them, where any are written: the job is read, and bit 2 is set
abbrev pub OnGrid : List ℕ → List ℕ → Type 0
OnGrid bytes answer = 0 < length answer → (j : Job) → read_job bytes ≡ job.accepted j → grid_bit bytes ≡ 1 → Grid bytes answer j
