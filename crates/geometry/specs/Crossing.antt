-- Strict crossings among the kinds of request F-6, and where they are. Definitions only.
-- Assumes nothing.
use Rattle.std.specs.Prelude.{Bool, cond, eqb}
use Rattle.geometry.specs.declared.Point.{Point}
use Rattle.geometry.specs.declared.Segment.{Segment}
use Rattle.geometry.specs.declared.Contact.{Contact}
use Rattle.geometry.specs.declared.Contact.TheVariants.{StrictCrossing}
use Rattle.geometry.specs.Contact.{level}
use Rattle.geometry.specs.Kind.{number}

abbrev pub is_strict : Contact → Bool
is_strict k = eqb (number k) (number StrictCrossing)

-- where a bus and a run from a cross strictly: the x of the upright one and the y of the level one, no number being worked out
abbrev pub crossing_place : Segment → Point → Point
crossing_place bus a = cond (level bus.start bus.end) (record { x = a.x; y = bus.start.y }) (record { x = bus.start.x; y = a.y })
