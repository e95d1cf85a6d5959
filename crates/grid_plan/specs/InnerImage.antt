-- What the inner results of a search and a plan in whole numbers are in binary64, n being n / 128. Definitions of theorems.
-- Assumes nothing.
use Rattle.std.specs.Prelude.{map}
use Rattle.search.specs.declared.Outcome.{Outcome}
use Rattle.search.specs.declared.Outcome.TheVariants as O
use Rattle.search.specs.declared.Searched.{Searched}
use Rattle.plan.specs.declared.Used.{Used}
use Rattle.plan.specs.Plan.{Lanes}
use Rattle.grid_plan.specs.Depths as D
use Rattle.grid_plan.specs.Search as S
use Rattle.grid_plan.specs.Plan as P
use Rattle.grid.specs.On.{on}
use Rattle.grid_plan.specs.Image.{bound}

abbrev pub used : D.Used → Used
used w = record { input = bound w.input; output = bound w.output }

abbrev pub outcome : S.Outcome → Outcome
outcome (S.Found z) = O.Found (on z)
outcome S.Nothing = O.Nothing
outcome S.Spent = O.Spent

abbrev pub searched : S.Searched → Searched
searched s = record { outcome = outcome s.outcome; left = record { 0 = s.left } }

abbrev pub lanes : P.Lanes → Lanes
lanes l = record { input = map on l.input; output = map on l.output }
