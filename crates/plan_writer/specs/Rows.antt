-- The entry of a bundle's row. Definitions of inner contracts.
-- Assumes nothing.
use Rattle.std.specs.Prelude.{ℕ, List}
use Rattle.plan.specs.declared.Planned.{Planned}
use Rattle.plan_bytes.specs.PlanBytes.{entry_bytes}

abbrev pub row_bytes : Planned → List ℕ
row_bytes p = entry_bytes p.x
