-- Kinds have numbers of their own (`same_kind`), and whether a bus and a run cross strictly does not hang on the tap (`any_tap`).
-- Assumes nothing.
use Rattle.std.specs.Prelude.{ℕ, ◌≡◌, refl, Bool, true, false, ◌&&◌, ◌||◌, cond, eqb, Option}
use Rattle.std.proofs.Common.{sym, ap, ◌∙◌, eqb-true}
use Rattle.geometry.specs.declared.Point.{Point}
use Rattle.geometry.specs.declared.Segment.{Segment}
use Rattle.geometry.specs.declared.Meet.{Meet}
use Rattle.geometry.specs.declared.Meet.TheVariants as meeting
use Rattle.geometry.specs.Contact.{matches, coincide, slanted, meet, at_tap, perpendicular, strict}
use Rattle.geometry.specs.declared.Contact.{Contact}
use Rattle.geometry.specs.declared.Contact.TheVariants.{Apart, TouchAtTap, StrictCrossing, TouchElsewhere, Overlap, Slanted}
use Rattle.geometry.specs.Kind.{kind_of, kind, number}
use Rattle.geometry.specs.Crossing.{is_strict}

-- ---- numbers

-- the kind that has a number
abbrev coded : ℕ → Contact
coded n = cond (eqb n 0) Apart (cond (eqb n 1) TouchAtTap (cond (eqb n 2) StrictCrossing (cond (eqb n 3) TouchElsewhere (cond (eqb n 4) Overlap Slanted))))

coded_back : (k : Contact) → coded (number k) ≡ k
coded_back Apart = refl
coded_back TouchAtTap = refl
coded_back StrictCrossing = refl
coded_back TouchElsewhere = refl
coded_back Overlap = refl
coded_back Slanted = refl

pub same_kind : (k l : Contact) → number k ≡ number l → k ≡ l
same_kind k l e = sym (coded_back k) ∙ ap coded e ∙ coded_back l

-- ---- strict crossings

is_strict_at : (s t : Bool) → is_strict (cond s StrictCrossing (cond t TouchAtTap TouchElsewhere)) ≡ s
is_strict_at true t = refl
is_strict_at false true = refl
is_strict_at false false = refl

strict_of : (bus : Segment) (a b : Point) (t u : Option Point) (w : Meet) → is_strict (kind_of bus a b t w) ≡ is_strict (kind_of bus a b u w)
strict_of bus a b t u meeting.Apart = refl
strict_of bus a b t u meeting.Overlap = refl
strict_of bus a b t u (meeting.One q) =
    is_strict_at (perpendicular bus a b && strict bus a b q) (at_tap t q && (matches a q || matches b q)) ∙ sym (is_strict_at (perpendicular bus a b && strict bus a b q) (at_tap u q && (matches a q || matches b q)))

strict_by : (c d : Bool) (k l : Contact) → is_strict k ≡ is_strict l → is_strict (cond c Apart (cond d Slanted k)) ≡ is_strict (cond c Apart (cond d Slanted l))
strict_by true d k l e = refl
strict_by false true k l e = refl
strict_by false false k l e = e

pub any_tap : (bus : Segment) (a b : Point) (t u : Option Point) → is_strict (kind bus a b t) ≡ is_strict (kind bus a b u)
unfolding kind
any_tap bus a b t u = strict_by (coincide a b) (slanted bus.start bus.end || slanted a b) (kind_of bus a b t (meet bus a b)) (kind_of bus a b u (meet bus a b)) (strict_of bus a b t u (meet bus a b))

pub is_strict→ : (k : Contact) → is_strict k ≡ true → k ≡ StrictCrossing
is_strict→ k e = same_kind k StrictCrossing (eqb-true (number k) (number StrictCrossing) e)
