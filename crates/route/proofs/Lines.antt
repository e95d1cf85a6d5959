-- The lines that a run is looked at for, for what holds of all of them.
-- Assumes nothing.
use Rattle.std.specs.Prelude.{Bool, Float, Option}
use Rattle.geometry.specs.declared.Point.{Point}
use Rattle.geometry.specs.declared.Segment.{Segment}
use Rattle.geometry.specs.declared.Role.{Role}
use Rattle.geometry.specs.Stretch.{on_trunk}
use Rattle.geometry.specs.Line.{on_line}

-- the vertical line on the stretch that a role leaves at a minimum length, or anywhere, an upright run being met at its end or at its start
pub data Line : Type 0 where
  Trunk : Role → Float → Line
  Anywhere : Bool → Line

unfoldable pub meets : Line → Float → Segment → Option Point
meets (Trunk role minimum_length) x s = on_trunk role minimum_length x s.start s.end
meets (Anywhere prefer_end) x s = on_line prefer_end x s.start s.end
