-- A job on the drafting grid from its board to its page in whole numbers: document 01's order, as crate promise's Stage has it in binary64. Definitions only.
-- Assumes nothing.
use Rattle.std.specs.Prelude.{ℕ, Bool, List, ℤ, Option}
use Rattle.grid_plan.specs.Board as Z
use Rattle.grid_plan.specs.Depths as D
use Rattle.grid_sheet.specs.Draw as W
use Rattle.grid_sheet.specs.Page as X

-- what a job comes to: a number, or a page with the tap visits and the geometry visits left
pub data Told : Type 0 where
  refused : ℕ → Told
  drawn : ℕ → ℕ → X.Page → Told

-- the sheet that document 01's order gives to normalize_layout, from planned x
abbrev pub sheet_drawn : Z.Board → List Z.Route → Bool → List (Option ℤ) → ℕ → W.Outcome
sheet_drawn b routes allow xs geometry = W.sheet_of b allow (W.turns_from b.bundles xs (D.offsets_of b)) (W.blank routes geometry)

abbrev pub normalized : Z.Board → W.Progress → X.Page
normalized b u = X.page_of (record { nodes = b.nodes; routes = u.routes; drawn = u.drawn })

abbrev pub after_sheet : Z.Board → ℕ → W.Outcome → Told
after_sheet b taps (W.refused e n) = refused e
after_sheet b taps (W.going u) = drawn taps u.left (normalized b u)
