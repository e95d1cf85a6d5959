-- Which kind of contact a run from a to b has with a bus: request F-6. Definitions only.
-- `kind` is by the comparisons of segments_have_disallowed_contact of boundary_bundles.rs; that it is the request's words, in exact points, is in crate kind_words.
-- Assumes nothing.
use Rattle.std.specs.Prelude.{ℕ, Bool, true, false, not, ◌&&◌, ◌||◌, cond, Option}
use Rattle.geometry.specs.declared.Point.{Point}
use Rattle.geometry.specs.declared.Segment.{Segment}
use Rattle.geometry.specs.declared.Meet.{Meet}
use Rattle.geometry.specs.declared.Meet.TheVariants as meeting
use Rattle.geometry.specs.declared.Contact.{Contact}
use Rattle.geometry.specs.declared.Contact.TheVariants.{Apart, TouchAtTap, StrictCrossing, TouchElsewhere, Overlap, Slanted}
use Rattle.geometry.specs.Contact.{matches, coincide, slanted, meet, at_tap, perpendicular, strict}

-- the two meet at p alone
abbrev pub kind_at : Segment → Point → Point → Option Point → Point → Contact
kind_at bus a b tap p =
    cond (perpendicular bus a b && strict bus a b p) StrictCrossing
    (cond (at_tap tap p && (matches a p || matches b p)) TouchAtTap TouchElsewhere)

-- by where they meet, neither being slanted
abbrev pub kind_of : Segment → Point → Point → Option Point → Meet → Contact
kind_of bus a b tap meeting.Apart = Apart
kind_of bus a b tap meeting.Overlap = Overlap
kind_of bus a b tap (meeting.One p) = kind_at bus a b tap p

-- "the test of a bus against a run"; "a run of no length is answered apart"
unfoldable pub kind : Segment → Point → Point → Option Point → Contact
unfolding meet
kind bus a b tap =
    cond (coincide a b) Apart
    (cond (slanted bus.start bus.end || slanted a b) Slanted
    (kind_of bus a b tap (meet bus a b)))

-- "which ones are disallowed is then worked out by its caller from flag bit 1": permitted is that bit
abbrev pub disallowed : Bool → Contact → Bool
disallowed permitted Apart = false
disallowed permitted TouchAtTap = false
disallowed permitted StrictCrossing = not permitted
disallowed permitted TouchElsewhere = true
disallowed permitted Overlap = true
disallowed permitted Slanted = true

-- the number of each kind, for those who colour by it
abbrev pub number : Contact → ℕ
number Apart = 0
number TouchAtTap = 1
number StrictCrossing = 2
number TouchElsewhere = 3
number Overlap = 4
number Slanted = 5
