-- The two grids as the code tells them apart, and what raises a number to each. Definitions of inner contracts.
-- Assumes nothing.
use Rattle.std.specs.Prelude.{ℕ, ◌-◌, false, pos, Bool, Float}
use Rattle.std.specs.Float.{fin}
use Rattle.grid.specs.declared.Grid.{Grid}
use Rattle.grid.specs.declared.Grid.TheVariants.{Drafting, Plan}
use Rattle.grid.specs.DraftingGrid.{multiple_within}

-- its numbers are the multiples of 1 / 2 ^ parts
abbrev pub parts : Grid → ℕ
parts Drafting = 6
parts Plan = 7

abbrev pub on_the : Grid → Float → Bool
on_the g = multiple_within (parts g)

-- 1.5 * 2 ^ (52 - g)
abbrev pub raise : ℕ → Float
raise g = fin false 3 (pos (51 - g))
