-- How a check of document 01's section "The sheet" ends. Definitions only.
-- Assumes nothing.
use Rattle.std.specs.Prelude.{ℕ}
use Rattle.drawing.specs.declared.GeometryVisits.{GeometryVisits}

-- with the visits left, or with the number of a refusal and the visits left then
pub data Verdict : Type 0 where
  Clean : GeometryVisits → Verdict
  Refused : ℕ → GeometryVisits → Verdict
