-- The yes or no of segments_have_disallowed_contact (`contact`) is worked out from the kind alone (`kind_contact`).
-- Assumes nothing.
use Rattle.std.specs.Prelude.{◌≡◌, refl, Bool, true, false, not, ◌&&◌, ◌||◌, cond, Option}
use Rattle.geometry.specs.declared.Point.{Point}
use Rattle.geometry.specs.declared.Segment.{Segment}
use Rattle.geometry.specs.declared.Meet.{Meet}
use Rattle.geometry.specs.declared.Meet.TheVariants as meeting
use Rattle.geometry.specs.Contact.{matches, coincide, slanted, meet, at_tap, perpendicular, meeting_disallowed, contact}
use Rattle.geometry.specs.declared.Contact.{Contact}
use Rattle.geometry.specs.declared.Contact.TheVariants.{Apart, TouchAtTap, StrictCrossing, TouchElsewhere, Slanted}
use Rattle.geometry.specs.Kind.{kind_of, kind, disallowed}

-- at the tap t and at an end (m, n) of the run, or not
touch : (p t m n : Bool) → disallowed p (cond (t && (m || n)) TouchAtTap TouchElsewhere) ≡ (not t || not m && not n)
touch p false m n = refl
touch p true true n = refl
touch p true false true = refl
touch p true false false = refl

-- q: they are perpendicular; w: the point is at no end of the bus
at_point : (p q w m n t : Bool) → disallowed p (cond (q && (w && not m && not n)) StrictCrossing (cond (t && (m || n)) TouchAtTap TouchElsewhere)) ≡ cond (p && q && (w && not m && not n)) false (not t || not m && not n)
at_point false false w m n t = touch false t m n
at_point false true false m n t = touch false t m n
at_point false true true true n t = touch false t true n
at_point false true true false true t = touch false t false true
at_point false true true false false true = refl
at_point false true true false false false = refl
at_point true false w m n t = touch true t m n
at_point true true false m n t = touch true t m n
at_point true true true true n t = touch true t true n
at_point true true true false true t = touch true t false true
at_point true true true false false t = refl

by_meeting : (bus : Segment) (a b : Point) (tap : Option Point) (p : Bool) (m : Meet) → disallowed p (kind_of bus a b tap m) ≡ meeting_disallowed bus a b tap p m
by_meeting bus a b tap p meeting.Apart = refl
by_meeting bus a b tap p meeting.Overlap = refl
by_meeting bus a b tap p (meeting.One q) = at_point p (perpendicular bus a b) (not (matches bus.start q) && not (matches bus.end q)) (matches a q) (matches b q) (at_tap tap q)

by_direction : (p c d : Bool) (k : Contact) (r : Bool) → disallowed p k ≡ r → disallowed p (cond c Apart (cond d Slanted k)) ≡ cond c false (cond d true r)
by_direction p true d k r e = refl
by_direction p false true k r e = refl
by_direction p false false k r e = e

-- "its yes or no is compared with the Rust as it was"
pub kind_contact : (bus : Segment) (a b : Point) (tap : Option Point) (permitted : Bool) → disallowed permitted (kind bus a b tap) ≡ contact bus a b tap permitted
unfolding kind contact
kind_contact bus a b tap permitted =
    by_direction permitted (coincide a b) (slanted bus.start bus.end || slanted a b) (kind_of bus a b tap (meet bus a b)) (meeting_disallowed bus a b tap permitted (meet bus a b))
    (by_meeting bus a b tap permitted (meet bus a b))
