-- Demand 3 of the sheet in the answer of a job with bit 2 set: on the drafting grid the last shift rounds nothing, so it holds with no condition. Definitions only.
-- Assumes nothing.
use Rattle.std.specs.Prelude.{ℕ, ◌<◌, ◌≡◌, List, length, get_or}
use Rattle.binary64.specs.Rational.{Fraction}
use Rattle.exact.specs.Exact.{minusℚ}
use Rattle.board.specs.Board.{Board}
use Rattle.answer.specs.Answer.{Sheet}
use Rattle.drawing.specs.Build.{no_drawn}
use Rattle.drawing.specs.Normal as drawing
use Rattle.drawing.specs.Normal.{sheet_after, moved}
use Rattle.promise.specs.Demand3.{StandsAt, NoFalseJoint, crossing_bit}
use Rattle.last_shift.specs.Shift.{least_x, with_nodes}
use Rattle.last_shift.specs.InAnswer.{NoFalseJointIn, KeptInAnswer}
use Rattle.grid_promise.specs.Grid.{grid_bit}

-- the sheet before the last shift
abbrev pub before : (bytes answer : List ℕ) → KeptInAnswer bytes answer → drawing.Sheet
before bytes answer k = sheet_after k.kept.comes.said.board k.kept.comes.sheet_made

-- b is the job's board, s the sheet before the last shift, a the sheet in the answer
pub record CarriedOnGrid (b : Board) (s : drawing.Sheet) (a : Sheet) : Type 0 where
  -- the first two sentences of demand 3, of the sheet in the answer
  pub joints : NoFalseJointIn a
  -- the third, of the nodes, routes and bundles as they are written
  pub members_out : NoFalseJoint (with_nodes b (moved s).nodes) (moved s).routes (moved s).drawn
  -- the fourth: a collector that stands at q before the last shift stands at q less the least x
  pub stands : (k : ℕ) → k < length s.drawn → (q : Fraction) → StandsAt (get_or s.drawn k no_drawn) q → StandsAt (get_or (moved s).drawn k no_drawn) (minusℚ q (least_x s))

pub record KeptOnGrid (bytes answer : List ℕ) : Type 0 where
  pub kept : KeptInAnswer bytes answer
  pub on_grid : CarriedOnGrid kept.kept.comes.said.board (before bytes answer kept) kept.kept.sheet

-- where demand 3 speaks and bit 2 is set
abbrev pub Demand3OnGrid : List ℕ → List ℕ → Type 0
Demand3OnGrid bytes answer = 6 < length answer → crossing_bit bytes ≡ 0 → grid_bit bytes ≡ 1 → KeptOnGrid bytes answer
