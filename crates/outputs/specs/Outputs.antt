-- What a call of stage_sheet writes into its buffers, from document 02's requests: what is given and wanted, which refusals come last, and the bytes of each output. Definitions only.
-- Assumes nothing.
use Rattle.std.specs.Prelude.{ℕ, ◌/◌, ◌%◌, Bool, not, ◌&&◌, ◌||◌, cond, List, [], eqb, ltb, length}
use Rattle.limits.specs.Limits.{answer_room, page_room, id_columns, max_crossings, crossings_room}
use Rattle.answer.specs.Answer.{answer_bytes, notice_bytes}
use Rattle.promise.specs.Stage.{Finished, answer_of, Told, refused, drawn}
use Rattle.plan_stage.specs.Entries.{told_with}
use Rattle.bundle_page.specs.AnswerPage.{answer_page}
use Rattle.crossing_bytes.specs.Bytes.{list_bytes}
use Rattle.crossing_promise.specs.SheetList.{list_of}
use Rattle.outputs.specs.declared.Wants.{Wants}

-- ---- what is given and wanted

-- bit 0 of the mask: a plan is given; bit 1: the page is wanted; bit 2: the list of crossings is; a bit that is not listed says nothing
unfoldable pub wants_of : ℕ → Wants
wants_of mask = record { plan = eqb (mask % 2) 1; page = eqb (mask / 2 % 2) 1; crossings = eqb (mask / 4 % 2) 1 }

-- ---- the outputs

-- what is written at the front of each buffer; an empty list leaves its buffer untouched
pub record Outputs : Type 0 where
  pub answer : List ℕ
  pub page : List ℕ
  pub crossings : List ℕ

-- 2: "nothing is written"
abbrev pub nothing : Outputs
nothing = record { answer = []; page = []; crossings = [] }

-- a refusal: its notice in the answer's buffer, every other output untouched
abbrev pub notice : ℕ → Outputs
notice n = record { answer = notice_bytes n; page = []; crossings = [] }

-- ---- the phases

-- an output that is wanted, with a buffer under its largest size
unfoldable pub lacks : Bool → ℕ → ℕ → Bool
lacks wanted room least = wanted && ltb room least

-- 2: the answer's buffer is under 65,536 bytes, or that of an output that is wanted is under its largest size
unfoldable pub too_short : Wants → ℕ → ℕ → ℕ → Bool
too_short w answer page crossings = ltb answer answer_room || lacks w.page page page_room || lacks w.crossings crossings crossings_room

-- 19: "when the list is wanted and there are more than 1,024 crossings"
unfoldable pub too_many : Wants → Finished → Bool
too_many w f = w.crossings && ltb max_crossings (length (list_of f))

-- "after the sheet is accepted and before 16"; 16: "the page is wanted and bit 2 is clear", after all other refusals
unfoldable pub after_all : Wants → Told → Told
after_all w (refused n) = refused n
after_all w (drawn f) = cond (too_many w f) (refused 19) (cond (w.page && not f.said.flags.on_grid) (refused 16) (drawn f))

-- F-4: the page is of the numbers in the answer. F-7: the list is of the sheet before the shift
unfoldable pub outputs_told : Wants → Told → Outputs
outputs_told w (refused n) = notice n
outputs_told w (drawn f) = record { answer = answer_bytes (answer_of f); page = cond w.page (answer_page id_columns (answer_of f)) []; crossings = cond w.crossings (list_bytes f.said.board (list_of f)) [] }

-- THE WHOLE: a mask, the bytes of a job and of a plan, and how many bytes the answer's, the page's and the list's buffers have
unfoldable pub outputs_of : ℕ → List ℕ → List ℕ → ℕ → ℕ → ℕ → Outputs
outputs_of mask bytes plan answer page crossings = cond (too_short (wants_of mask) answer page crossings) nothing (outputs_told (wants_of mask) (after_all (wants_of mask) (told_with (wants_of mask).plan bytes plan)))
