-- What a sheet in whole numbers is in binary64, n being n / 128. Definitions only.
-- Assumes nothing.
use Rattle.std.specs.Prelude.{map, ℤ, Float, Option, option_map}
use Rattle.geometry.specs.declared.Point.{Point}
use Rattle.drawing.specs.Build as D
use Rattle.drawing.specs.Sheet as S
use Rattle.drawing.specs.Normal as N
use Rattle.grid_plan.specs.Board as Z
use Rattle.grid_plan.specs.Image.{point, segment, placed, route}
use Rattle.grid_sheet.specs.Draw as W
use Rattle.grid_sheet.specs.Page as X
use Rattle.grid.specs.On.{on}

abbrev pub tap : Option Z.Point → Option Point
tap o = option_map point o

abbrev pub tap_on : W.TapOn → D.TapOn
tap_on t = record { edge = t.edge; place = point t.place }

abbrev pub drawn : W.Drawn → D.Drawn
drawn d = record { collector = segment d.collector; spine = segment d.spine; taps = map tap_on d.taps; interior = d.interior }

abbrev pub number : Option ℤ → Option Float
number o = option_map on o

abbrev pub turn : W.Turn → S.Turn
turn t = record { bundle = t.bundle; planned = number t.planned; offset = on t.offset }

abbrev pub progress : W.Progress → S.Progress
progress s = record { routes = map route s.routes; drawn = map drawn s.drawn; left = s.left }

abbrev pub outcome : W.Outcome → S.Outcome
outcome (W.refused e n) = S.refused e n
outcome (W.going s) = S.going (progress s)

abbrev pub sheet : X.Sheet → N.Sheet
sheet s = record { nodes = map placed s.nodes; routes = map route s.routes; drawn = map drawn s.drawn }

abbrev pub page : X.Page → N.Page
page p = record { sheet = sheet p.sheet; width = on p.width; height = on p.height }
