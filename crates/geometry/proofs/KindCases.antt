-- The cases that decide request F-6's doubts (docs/DECISIONS.md): each is a row of one table, worked out by the definition, and one lemma says that every row holds.
-- Assumes nothing.
use Rattle.std.specs.Prelude.{◌≡◌, refl, Bool, true, List, [], ◌∷◌, eqb, Float, Option, Some, None}
use Rattle.std.specs.Float.{binary64}
use Rattle.std.specs.Float.Ieee.{of_int, of_bits, lt, le, eq, neg, add, sub}
use Rattle.binary64.specs.Order.{near, magnitude}
use Rattle.geometry.specs.declared.Point.{Point}
use Rattle.geometry.specs.declared.Segment.{Segment}
use Rattle.geometry.specs.declared.Contact.{Contact}
use Rattle.geometry.specs.declared.Contact.TheVariants.{Apart, TouchAtTap, StrictCrossing, TouchElsewhere, Overlap, Slanted}
use Rattle.geometry.specs.Contact.{meet}
use Rattle.geometry.specs.Kind.{kind, number}
use Rattle.geometry.specs.Closed.{num, minus, at, from_to, every}

-- 1e-7 and 2e-7, the number below 10, and minus zero
abbrev near_by : Float
near_by = of_bits binary64 0x3e7a_d7f2_9abc_af48

abbrev farther : Float
farther = of_bits binary64 0x3e8a_d7f2_9abc_af48

abbrev below_ten : Float
below_ten = of_bits binary64 0x4023_ffff_ffff_ffff

abbrev minus_zero : Float
minus_zero = of_bits binary64 0x8000_0000_0000_0000

-- the bus (0,0)-(10,0)
abbrev bus : Segment
bus = from_to (at (num 0) (num 0)) (at (num 10) (num 0))

-- the kind, by its number
unfoldable pub is : Segment → Point → Point → Option Point → Contact → Bool
is s a b tap k = eqb (number (kind s a b tap)) (number k)

unfoldable pub cases : List Bool
cases =
    -- a run of no length, at its tap or on a slanted bus
    is bus (at (num 5) (num 0)) (at (num 5) (num 0)) (Some (at (num 5) (num 0))) Apart
    ∷ is (from_to (at (num 0) (num 0)) (at (num 10) (num 10))) (at (num 5) (num 5)) (at (num 5) (num 5)) None Apart
    -- a slanted run that shares nothing
    ∷ is bus (at (num 20) (num 1)) (at (num 30) (num 2)) None Slanted
    -- a bus of no length inside an upright run, and inside a level one
    ∷ is (from_to (at (num 5) (num 5)) (at (num 5) (num 5))) (at (num 5) (num 0)) (at (num 5) (num 10)) None TouchElsewhere
    ∷ is (from_to (at (num 5) (num 0)) (at (num 5) (num 0))) (at (num 0) (num 0)) (at (num 10) (num 0)) None TouchElsewhere
    -- a run that goes 1e-7 beyond the bus, or 2e-7; and with its tap there
    ∷ is bus (at (num 5) (num 5)) (at (num 5) (neg near_by)) None TouchElsewhere
    ∷ is bus (at (num 5) (num 5)) (at (num 5) (neg farther)) None StrictCrossing
    ∷ is bus (at (num 5) (num 5)) (at (num 5) (neg near_by)) (Some (at (num 5) (num 0))) TouchAtTap
    -- 1e-7 from the end of the bus
    ∷ is bus (at near_by (num 5)) (at near_by (minus 5)) None TouchElsewhere
    -- right through the tap
    ∷ is bus (at (num 5) (num 5)) (at (num 5) (minus 5)) (Some (at (num 5) (num 0))) StrictCrossing
    -- a run that ends on the bus: at its tap, at a tap 1e-7 off, with no tap
    ∷ is bus (at (num 5) (num 0)) (at (num 5) (num 5)) (Some (at (num 5) (num 0))) TouchAtTap
    ∷ is bus (at (num 5) (num 0)) (at (num 5) (num 5)) (Some (at (num 5) near_by)) TouchAtTap
    ∷ is bus (at (num 5) (num 0)) (at (num 5) (num 5)) None TouchElsewhere
    -- in one line: end to end with a tap there, with none, and over by the last place
    ∷ is bus (at (num 10) (num 0)) (at (num 20) (num 0)) (Some (at (num 10) (num 0))) TouchAtTap
    ∷ is bus (at (num 10) (num 0)) (at (num 20) (num 0)) None TouchElsewhere
    ∷ is bus (at below_ten (num 0)) (at (num 20) (num 0)) (Some (at (num 10) (num 0))) Overlap
    -- beside it
    ∷ is bus (at (num 0) (num 3)) (at (num 10) (num 3)) None Apart
    -- a bus from x = -0 to x = 0 is upright
    ∷ is (from_to (at minus_zero (minus 5)) (at (num 0) (num 5))) (at (minus 5) (num 0)) (at (num 5) (num 0)) None StrictCrossing
    ∷ []

-- every case holds
pub decided : every cases ≡ true
unfolding cases every is num minus kind meet near magnitude of_int of_bits lt le eq neg add sub
decided = refl
