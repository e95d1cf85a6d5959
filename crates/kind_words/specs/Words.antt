-- Request F-6's words for the six kinds: by the Rust's answer with crossings forbidden and with crossings permitted, and by the exact points that a bus and a run share; no definition of a kind is cited. Definitions of theorems.
-- Assumes nothing.
use Rattle.std.specs.Prelude.{◌≡◌, ◌⊎◌, true, false, Option}
use Rattle.binary64.specs.Rational.{Sameℚ, value}
use Rattle.geometry.specs.declared.Point.{Point}
use Rattle.geometry.specs.declared.Segment.{Segment}
use Rattle.geometry.specs.Contact.{contact}
use Rattle.exact.specs.Exact.{Exact, Same, exact, HasLength}
use Rattle.exact.specs.Promise.{Shared, Crosses}
use Rattle.geometry.specs.declared.Contact.{Contact}
use Rattle.geometry.specs.declared.Contact.TheVariants.{Apart, TouchAtTap, StrictCrossing, TouchElsewhere, Overlap, Slanted}

-- "a segment is neither level nor upright"
pub record Slants (a b : Point) : Type 0 where
  pub not_level : ¬ Sameℚ (value a.y) (value b.y)
  pub not_upright : ¬ Sameℚ (value a.x) (value b.x)

module _ (bus : Segment) (a b : Point) where
  abbrev pub OneSlants : Type 0
  OneSlants = Slants bus.start bus.end ⊎ Slants a b

  -- "no point is shared"
  abbrev pub NoneShared : Type 0
  NoneShared = (p : Exact) → ¬ Shared bus a b p

  pub record SomeShared : Type 0 where
    pub point : Exact
    pub shared : Shared bus a b point

  -- "more than one point is shared"
  pub record MoreShared : Type 0 where
    pub one : Exact
    pub other : Exact
    pub one_shared : Shared bus a b one
    pub other_shared : Shared bus a b other
    pub differ : ¬ Same one other

module _ (bus : Segment) (a b : Point) (tap : Option Point) where
  -- "no contact there even with crossings forbidden"
  abbrev pub NoContact : Type 0
  NoContact = contact bus a b tap false ≡ false

  -- "contact only when they are forbidden"
  abbrev pub OnlyForbidden : Type 0
  OnlyForbidden = (contact bus a b tap false ≡ true) × (contact bus a b tap true ≡ false)

  -- "any other contact"
  abbrev pub OtherContact : Type 0
  OtherContact = (contact bus a b tap false ≡ true) × (contact bus a b tap true ≡ true)

  -- each kind in the request's words; "a run of no length is answered apart"
  abbrev pub Words : Contact → Type 0
  Words Apart = ¬ HasLength a b ⊎ (NoContact × NoneShared bus a b)
  Words TouchAtTap = HasLength a b × NoContact × SomeShared bus a b
  Words StrictCrossing = HasLength a b × OnlyForbidden
  Words Slanted = HasLength a b × OtherContact × OneSlants bus a b
  Words Overlap = HasLength a b × OtherContact × ¬ OneSlants bus a b × MoreShared bus a b
  Words TouchElsewhere = HasLength a b × OtherContact × ¬ OneSlants bus a b × ¬ MoreShared bus a b

-- ---- what is shown of a touch at the tap and of a strict crossing

-- the two share one point, and it is Q
pub record SharesOne (bus : Segment) (a b : Point) (Q : Exact → Type 0) : Type 0 where
  pub point : Exact
  pub shared : Shared bus a b point
  pub only : (q : Exact) → Shared bus a b q → Same q point
  pub is : Q point

-- "one that is an end of neither"; the two cross at a right angle, and the point is the place that is told
pub record EndOfNeither (bus : Segment) (a b : Point) (told : Point) (p : Exact) : Type 0 where
  pub at : Same p (exact told)
  pub crosses : Crosses bus a b p
  pub not_start : ¬ Same p (exact bus.start)
  pub not_end : ¬ Same p (exact bus.end)
  pub not_first : ¬ Same p (exact a)
  pub not_last : ¬ Same p (exact b)
