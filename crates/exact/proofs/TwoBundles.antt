-- Two bundles have no tap: where `contact` finds nothing, they share nothing, or, where that is permitted, only strict crossings.
-- Assumes nothing.
use Rattle.std.specs.Prelude.{◌≡◌, true, false, None}
use Rattle.std.proofs.Math.Logic.{inl, inr}
use Rattle.geometry.specs.declared.Point.{Point}
use Rattle.geometry.specs.declared.Segment.{Segment}
use Rattle.exact.specs.Exact.{Exact, HasLength}
use Rattle.geometry.specs.Contact.{contact}
use Rattle.exact.specs.Promise.{Numbers, Shared, Crosses}
use Rattle.exact.proofs.Theorem.{no_contact, no_contact_but_crossing}

-- ---- two bundles: no tap, so nothing is shared
pub nothing_shared : (bus : Segment) (a b : Point) → Numbers bus a b None → HasLength a b → contact bus a b None false ≡ false → (p : Exact) → ¬ Shared bus a b p
nothing_shared bus a b F d e p h = ((no_contact bus a b None F d e).at_the_tap p h).at_tap

-- with crossings permitted, only a strict crossing is
pub only_crossing : (bus : Segment) (a b : Point) → Numbers bus a b None → HasLength a b → contact bus a b None true ≡ false → (p : Exact) → Shared bus a b p → Crosses bus a b p
only_crossing bus a b F d e p h = elim ((no_contact_but_crossing bus a b None F d e).at_the_tap_or_crossing p h) [ inl t ↦ absurd t.at_tap | inr c ↦ c ]
