-- What the inner results of tests and rewritings in whole numbers are in binary64, n being n / 128. Definitions of theorems.
-- Assumes nothing.
use Rattle.std.specs.Prelude.{List, map, Option, option_map, ℕ}
use Rattle.geometry.specs.declared.Point.{Point}
use Rattle.geometry.specs.declared.Span.{Span}
use Rattle.geometry.specs.declared.Meet.{Meet}
use Rattle.geometry.specs.declared.Meet.TheVariants as M
use Rattle.geometry.specs.Points.{Route}
use Rattle.drawing.specs.Build as D
use Rattle.grid_plan.specs.Board as Z
use Rattle.grid_plan.specs.Image.{point, route}
use Rattle.grid_sheet.specs.Touch as Y
use Rattle.grid_sheet.specs.Draw as W
use Rattle.grid.specs.On.{on}
use Rattle.grid_sheet.specs.Image.{tap_on}

abbrev pub span : Y.Span → Span
span s = record { fixed = on s.fixed; low = on s.low; high = on s.high }

abbrev pub meeting : Y.Meet → Meet
meeting Y.Apart = M.Apart
meeting Y.Overlap = M.Overlap
meeting (Y.One p) = M.One (point p)

abbrev pub crossing : Option (ℕ × Z.Point) → Option (ℕ × Point)
crossing c = option_map (λ m. (m.0, point m.1)) c

abbrev pub option_route : Option Z.Route → Option Route
option_route o = option_map route o

abbrev pub option_routes : Option (List Z.Route) → Option (List Route)
option_routes o = option_map (map route) o

abbrev pub option_taps : Option (List W.TapOn) → Option (List D.TapOn)
option_taps o = option_map (map tap_on) o
