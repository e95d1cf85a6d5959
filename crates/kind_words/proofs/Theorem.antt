-- `kind` is the request's words, and no other kind is; a touch at the tap shares one point, as in demand 3, and a strict crossing one that is an end of neither.
-- Assumes nothing.
use Rattle.std.specs.Prelude.{◌≡◌, ℕ, ◌+◌, ◌*◌, ◌<◌, Bool, not, ◌&&◌, ◌||◌, cond, Float, Option}
use Rattle.std.proofs.Math.Path.{refl}
use Rattle.std.proofs.Common.{sym, ap, ◌∙◌, subst, inl, inr, arith, true≢false, T_not, zero-lt-suc, mul-pos}
use Rattle.std.proofs.Math.Bool.{true, false}
use Rattle.std.proofs.Math.Dec.{T}
use Rattle.std.specs.Float.{binary64}
use Rattle.std.specs.Float.Ieee.{round, le, eq, sub, of_bits}
use Rattle.std.specs.Float.Ieee.Bits.{is_true}
use Rattle.std.specs.Float.Ieee.Fits.{and_l, and_r, and_i}
use Rattle.std.specs.Float.Ieee.Scale.{finite, round_same}
use Rattle.binary64.specs.Bools.{or_split}
use Rattle.binary64.specs.Order.{near, magnitude, tolerance}
use Rattle.binary64.specs.Monotone.{plus_of, less_of}
use Rattle.binary64.specs.Rational.{value}
use Rattle.binary64.proofs.Fraction.{eq→Sameℚ, Sameℚ→eq}
use Rattle.geometry.specs.declared.Point.{Point}
use Rattle.geometry.specs.declared.Segment.{Segment}
use Rattle.geometry.specs.declared.Meet.{Meet}
use Rattle.geometry.specs.declared.Meet.TheVariants as meeting
use Rattle.geometry.specs.Contact.{matches, coincide, level, slanted, meet, at_tap, perpendicular, strict, contact}
use Rattle.exact.specs.Exact.{Exact, Same, exact, SamePlace, same_place, Finite, HasLength}
use Rattle.exact.specs.Promise.{Numbers, Shared, Touches, Crosses}
use Rattle.exact.proofs.Near.{sub_rounded, place_same}
use Rattle.exact.proofs.Meeting.{not_or, not_both, split, Is, Holds, meet_holds}
use Rattle.exact.proofs.Theorem.{same_both, crosses, no_contact}
use Rattle.geometry.specs.declared.Contact.{Contact}
use Rattle.geometry.specs.declared.Contact.TheVariants.{Apart, TouchAtTap, StrictCrossing, TouchElsewhere, Overlap, Slanted}
use Rattle.geometry.specs.Kind.{kind_at, kind_of, kind, disallowed, number}
use Rattle.geometry.specs.Crossing.{is_strict, crossing_place}
use Rattle.geometry.proofs.KindContact.{kind_contact}
use Rattle.geometry.proofs.AnyTap.{same_kind}
use Rattle.kind_words.specs.Words.{Slants, OneSlants, SomeShared, MoreShared, NoContact, Words, SharesOne, EndOfNeither}
use Rattle.kind_words.proofs.Found.{Found, meet_found, meet_place}

-- ---- tests and exact points
no_length : (a b : Point) → Finite a → Finite b → T (coincide a b) → ¬ HasLength a b
no_length a b A B t d = d (record { x = eq→Sameℚ a.x b.x A.x B.x (and_l (eq a.x b.x) (level a b) t); y = eq→Sameℚ a.y b.y A.y B.y (and_r (eq a.x b.x) (level a b) t) })

has_length : (a b : Point) → Finite a → Finite b → T (not (coincide a b)) → HasLength a b
has_length a b A B t s = T_not (coincide a b) t (and_i (eq a.x b.x) (level a b) (Sameℚ→eq a.x b.x A.x B.x s.x) (Sameℚ→eq a.y b.y A.y B.y s.y))

slants : (a b : Point) → Finite a → Finite b → T (slanted a b) → Slants a b
slants a b A B t = record {
  not_level = λ s. T_not (level a b) (and_l (not (level a b)) (not (eq a.x b.x)) t) (Sameℚ→eq a.y b.y A.y B.y s);
  not_upright = λ s. T_not (eq a.x b.x) (and_r (not (level a b)) (not (eq a.x b.x)) t) (Sameℚ→eq a.x b.x A.x B.x s);
}

not_slants : (a b : Point) → Finite a → Finite b → T (not (slanted a b)) → ¬ Slants a b
not_slants a b A B t s = elim (split (level a b)) [
  | inl u ↦ s.not_level (eq→Sameℚ a.y b.y A.y B.y u)
  | inr u ↦ s.not_upright (eq→Sameℚ a.x b.x A.x B.x (not_both (level a b) (eq a.x b.x) t u))
]

-- ---- a place is the same as itself
nothing_near : (s : Bool) → le (magnitude (round binary64 s 0 1)) tolerance ≡ true
unfolding le magnitude round of_bits
nothing_near true = refl
nothing_near false = refl

near_self : (x : Float) → T (finite x) → near x x ≡ true
unfolding near
near_self x f =
    let r = sub_rounded x x f f in
    let d = (value x).denominator * (value x).denominator in
    go r.sign r.size d (mul-pos (value x).above_zero (value x).above_zero) r.is (none r.sign r.size _ _ r.parts)
  where
    none : (s : Bool) (n p q : ℕ) → plus_of s n + (q + p) ≡ p + q + less_of s n → n ≡ 0
    none true n p q e = omega arith
    none false n p q e = omega arith

    go : (s : Bool) (n d : ℕ) → 0 < d → sub binary64 x x ≡ round binary64 s n d → n ≡ 0 → le (magnitude (sub binary64 x x)) tolerance ≡ true
    go s n d D e z =
        ap (λ (w : Float). le (magnitude w) tolerance) (e ∙ ap (λ (k : ℕ). round binary64 s k d) z ∙ round_same binary64 s 0 d 0 1 D (zero-lt-suc 0) (omega arith)) ∙ nothing_near s

same_place_self : (c : Point) (p : Exact) → Finite c → Same p (exact c) → SamePlace c p
same_place_self c p C s =
    let m : matches c c ≡ true = rw (near_self c.x C.x, near_self c.y C.y) refl in
    let e : same_place c p ≡ true = place_same c c p C C s ∙ m in
    subst T (sym e) tt

-- ---- the kind by its tests

module _ (bus : Segment) (a b : Point) (tap : Option Point) where
  -- what the Rust says of a pair of this kind
  rust : (k : Contact) → kind bus a b tap ≡ k → (permitted : Bool) → contact bus a b tap permitted ≡ disallowed permitted k
  rust k e permitted = sym (kind_contact bus a b tap permitted) ∙ ap (disallowed permitted) e

  data Case : Type 0 where
    still : T (coincide a b) → kind bus a b tap ≡ Apart → Case
    slanting : T (not (coincide a b)) → T (slanted bus.start bus.end || slanted a b) → kind bus a b tap ≡ Slanted → Case
    straight : T (not (coincide a b)) → T (not (slanted bus.start bus.end)) → T (not (slanted a b)) → kind bus a b tap ≡ kind_of bus a b tap (meet bus a b) → Case

  case : Case
  unfolding kind
  case = go (coincide a b) (slanted bus.start bus.end || slanted a b) refl refl
    where
      go : (c d : Bool) → coincide a b ≡ c → (slanted bus.start bus.end || slanted a b) ≡ d → Case
      go true d e f = still (subst T (sym e) tt) (rw e)
      go false true e f = slanting (subst (λ (x : Bool). T (not x)) (sym e) tt) (subst T (sym f) tt) (rw (e, f))
      go false false e f =
          let n = not_or (slanted bus.start bus.end) (slanted a b) (subst (λ (x : Bool). T (not x)) (sym f) tt) in
          straight (subst (λ (x : Bool). T (not x)) (sym e) tt) n.0 n.1 (rw (e, f))

  -- ---- no pair is of two kinds
  exclusive : (k l : Contact) → Words bus a b tap k → Words bus a b tap l → k ≡ l
  exclusive Apart Apart h j = refl
  exclusive Apart TouchAtTap (inl h) j = absurd (h j.0)
  exclusive Apart TouchAtTap (inr h) j = absurd (h.1 j.2.point j.2.shared)
  exclusive Apart StrictCrossing (inl h) j = absurd (h j.0)
  exclusive Apart StrictCrossing (inr h) j = absurd (true≢false (sym j.1.0 ∙ h.0))
  exclusive Apart TouchElsewhere (inl h) j = absurd (h j.0)
  exclusive Apart TouchElsewhere (inr h) j = absurd (true≢false (sym j.1.0 ∙ h.0))
  exclusive Apart Overlap (inl h) j = absurd (h j.0)
  exclusive Apart Overlap (inr h) j = absurd (true≢false (sym j.1.0 ∙ h.0))
  exclusive Apart Slanted (inl h) j = absurd (h j.0)
  exclusive Apart Slanted (inr h) j = absurd (true≢false (sym j.1.0 ∙ h.0))
  exclusive TouchAtTap Apart h (inl j) = absurd (j h.0)
  exclusive TouchAtTap Apart h (inr j) = absurd (j.1 h.2.point h.2.shared)
  exclusive TouchAtTap TouchAtTap h j = refl
  exclusive TouchAtTap StrictCrossing h j = absurd (true≢false (sym j.1.0 ∙ h.1))
  exclusive TouchAtTap TouchElsewhere h j = absurd (true≢false (sym j.1.0 ∙ h.1))
  exclusive TouchAtTap Overlap h j = absurd (true≢false (sym j.1.0 ∙ h.1))
  exclusive TouchAtTap Slanted h j = absurd (true≢false (sym j.1.0 ∙ h.1))
  exclusive StrictCrossing Apart h (inl j) = absurd (j h.0)
  exclusive StrictCrossing Apart h (inr j) = absurd (true≢false (sym h.1.0 ∙ j.0))
  exclusive StrictCrossing TouchAtTap h j = absurd (true≢false (sym h.1.0 ∙ j.1))
  exclusive StrictCrossing StrictCrossing h j = refl
  exclusive StrictCrossing TouchElsewhere h j = absurd (true≢false (sym j.1.1 ∙ h.1.1))
  exclusive StrictCrossing Overlap h j = absurd (true≢false (sym j.1.1 ∙ h.1.1))
  exclusive StrictCrossing Slanted h j = absurd (true≢false (sym j.1.1 ∙ h.1.1))
  exclusive TouchElsewhere Apart h (inl j) = absurd (j h.0)
  exclusive TouchElsewhere Apart h (inr j) = absurd (true≢false (sym h.1.0 ∙ j.0))
  exclusive TouchElsewhere TouchAtTap h j = absurd (true≢false (sym h.1.0 ∙ j.1))
  exclusive TouchElsewhere StrictCrossing h j = absurd (true≢false (sym h.1.1 ∙ j.1.1))
  exclusive TouchElsewhere TouchElsewhere h j = refl
  exclusive TouchElsewhere Overlap h j = absurd (h.3 j.3)
  exclusive TouchElsewhere Slanted h j = absurd (h.2 j.2)
  exclusive Overlap Apart h (inl j) = absurd (j h.0)
  exclusive Overlap Apart h (inr j) = absurd (true≢false (sym h.1.0 ∙ j.0))
  exclusive Overlap TouchAtTap h j = absurd (true≢false (sym h.1.0 ∙ j.1))
  exclusive Overlap StrictCrossing h j = absurd (true≢false (sym h.1.1 ∙ j.1.1))
  exclusive Overlap TouchElsewhere h j = absurd (j.3 h.3)
  exclusive Overlap Overlap h j = refl
  exclusive Overlap Slanted h j = absurd (h.2 j.2)
  exclusive Slanted Apart h (inl j) = absurd (j h.0)
  exclusive Slanted Apart h (inr j) = absurd (true≢false (sym h.1.0 ∙ j.0))
  exclusive Slanted TouchAtTap h j = absurd (true≢false (sym h.1.0 ∙ j.1))
  exclusive Slanted StrictCrossing h j = absurd (true≢false (sym h.1.1 ∙ j.1.1))
  exclusive Slanted TouchElsewhere h j = absurd (j.2 h.2)
  exclusive Slanted Overlap h j = absurd (j.2 h.2)
  exclusive Slanted Slanted h j = refl

module _ (bus : Segment) (a b : Point) (tap : Option Point) (F : Numbers bus a b tap) where
  none_slants : T (not (slanted bus.start bus.end)) → T (not (slanted a b)) → ¬ OneSlants bus a b
  none_slants n m (inl s) = not_slants bus.start bus.end F.bus_start F.bus_end n s
  none_slants n m (inr s) = not_slants a b F.first F.last m s

  -- ---- one point
  at_one : (q : Point) → T (not (coincide a b)) → T (not (slanted bus.start bus.end)) → T (not (slanted a b)) → meet bus a b ≡ meeting.One q → kind bus a b tap ≡ kind_at bus a b tap q → Words bus a b tap (kind_at bus a b tap q)
  at_one q c n m e k = go (perpendicular bus a b && strict bus a b q) (at_tap tap q && (matches a q || matches b q)) k
    where
      length_is : HasLength a b
      length_is = has_length a b F.first F.last c

      found : Finite q × Shared bus a b (exact q)
      found = subst (Found bus a b) e (meet_found bus a b F.bus_start F.bus_end F.first F.last n m)

      one : (p r : Exact) → Shared bus a b p → Shared bus a b r → Same p r
      one p r h j = same_both
          (subst (Holds p) e (meet_holds bus a b p F.bus_start F.bus_end F.first F.last n m h.on_bus h.on_route))
          (subst (Holds r) e (meet_holds bus a b r F.bus_start F.bus_end F.first F.last n m j.on_bus j.on_route))

      go : (s t : Bool) → kind bus a b tap ≡ cond s StrictCrossing (cond t TouchAtTap TouchElsewhere) → Words bus a b tap (cond s StrictCrossing (cond t TouchAtTap TouchElsewhere))
      go true t h = (length_is, (rust bus a b tap StrictCrossing h false, rust bus a b tap StrictCrossing h true))
      go false true h = (length_is, rust bus a b tap TouchAtTap h false, record { point = exact q; shared = found.1 })
      go false false h =
          (length_is, (rust bus a b tap TouchElsewhere h false, rust bus a b tap TouchElsewhere h true), none_slants n m, λ (w : MoreShared bus a b). w.differ (one w.one w.other w.one_shared w.other_shared))

  by_meeting : (w : Meet) → T (not (coincide a b)) → T (not (slanted bus.start bus.end)) → T (not (slanted a b)) → meet bus a b ≡ w → kind bus a b tap ≡ kind_of bus a b tap w → Words bus a b tap (kind_of bus a b tap w)
  by_meeting meeting.Apart c n m e k =
      inr (rust bus a b tap Apart k false, λ p h. subst (Holds p) e (meet_holds bus a b p F.bus_start F.bus_end F.first F.last n m h.on_bus h.on_route))
  by_meeting meeting.Overlap c n m e k = (
    has_length a b F.first F.last c,
    (rust bus a b tap Overlap k false, rust bus a b tap Overlap k true),
    none_slants n m,
    subst (Found bus a b) e (meet_found bus a b F.bus_start F.bus_end F.first F.last n m),
  )
  by_meeting (meeting.One q) c n m e k = at_one q c n m e k

  by_case : Case bus a b tap → Words bus a b tap (kind bus a b tap)
  by_case (still t e) = subst (Words bus a b tap) (sym e) (inl (no_length a b F.first F.last t))
  by_case (slanting c t e) = subst (Words bus a b tap) (sym e) (has_length a b F.first F.last c, (rust bus a b tap Slanted e false, rust bus a b tap Slanted e true), elim (or_split (slanted bus.start bus.end) (slanted a b) t) [ inl u ↦ inl (slants bus.start bus.end F.bus_start F.bus_end u) | inr u ↦ inr (slants a b F.first F.last u) ])
  by_case (straight c n m e) = subst (Words bus a b tap) (sym e) (by_meeting (meet bus a b) c n m refl e)

  -- ---- THE THEOREM: the kind is the request's words, and it alone is
  pub kind_words : Words bus a b tap (kind bus a b tap)
  kind_words = by_case (case bus a b tap)

  pub kind_only : (k : Contact) → Words bus a b tap k → kind bus a b tap ≡ k
  kind_only k h = exclusive bus a b tap (kind bus a b tap) k kind_words h

  -- for those who colour by it: the number stands for the words of that kind
  pub number_words : (k : Contact) → number (kind bus a b tap) ≡ number k → Words bus a b tap k
  number_words k e = subst (Words bus a b tap) (same_kind (kind bus a b tap) k e) kind_words

-- ---- a strict crossing by its tests
pub record Strictly (bus : Segment) (a b : Point) : Type 0 where
  pub place : Point
  pub met : meet bus a b ≡ meeting.One place
  pub inner : T (perpendicular bus a b && strict bus a b place)
  pub bus_straight : T (not (slanted bus.start bus.end))
  pub run_straight : T (not (slanted a b))
  pub moves : T (not (coincide a b))

only_strict : (s t : Bool) → cond s StrictCrossing (cond t TouchAtTap TouchElsewhere) ≡ StrictCrossing → T s
only_strict true t e = tt
only_strict false true e = absurd (true≢false (sym (ap is_strict e)))
only_strict false false e = absurd (true≢false (sym (ap is_strict e)))

pub strictly : (bus : Segment) (a b : Point) (tap : Option Point) → kind bus a b tap ≡ StrictCrossing → Strictly bus a b
strictly bus a b tap e = go (case bus a b tap)
  where
    by : (w : Meet) → meet bus a b ≡ w → T (not (slanted bus.start bus.end)) → T (not (slanted a b)) → T (not (coincide a b)) → kind_of bus a b tap w ≡ StrictCrossing → Strictly bus a b
    by meeting.Apart h n m c k = absurd (true≢false (sym (ap is_strict k)))
    by meeting.Overlap h n m c k = absurd (true≢false (sym (ap is_strict k)))
    by (meeting.One q) h n m c k = record { place = q; met = h; inner = only_strict (perpendicular bus a b && strict bus a b q) (at_tap tap q && (matches a q || matches b q)) k; bus_straight = n; run_straight = m; moves = c }

    go : Case bus a b tap → Strictly bus a b
    go (still t k) = absurd (true≢false (sym (ap is_strict (sym k ∙ e))))
    go (slanting c t k) = absurd (true≢false (sym (ap is_strict (sym k ∙ e))))
    go (straight c n m k) = by (meet bus a b) refl n m c (sym k ∙ e)

module _ (bus : Segment) (a b : Point) (tap : Option Point) (F : Numbers bus a b tap) where
  -- ---- "touch at the tap shares one point, as in demand 3"
  pub tap_shares : kind bus a b tap ≡ TouchAtTap → SharesOne bus a b (Touches a b tap)
  tap_shares e =
      let w : HasLength a b × NoContact bus a b tap × SomeShared bus a b = subst (Words bus a b tap) e (kind_words bus a b tap F) in
      let c = no_contact bus a b tap F w.0 w.1 in
      record {
        point = w.2.point;
        shared = w.2.shared;
        only = λ q h. c.at_most_one q w.2.point h w.2.shared;
        is = c.at_the_tap w.2.point w.2.shared;
      }

  -- ---- "a strict crossing one that is an end of neither"
  pub strict_shares : kind bus a b tap ≡ StrictCrossing → SharesOne bus a b (EndOfNeither bus a b (crossing_place bus a))
  strict_shares e =
      let s = strictly bus a b tap e in
      let q : Point = s.place in
      let found : Finite q × Shared bus a b (exact q) = subst (Found bus a b) s.met (meet_found bus a b F.bus_start F.bus_end F.first F.last s.bus_straight s.run_straight) in
      let is_here : Is (exact q) q = record { is_finite = found.0; same = record { x = refl; y = refl } } in
      let c : Crosses bus a b (exact q) = crosses bus a b tap F is_here s.bus_straight s.run_straight s.inner in
      let right : perpendicular bus a b ≡ true = is_true (perpendicular bus a b) (and_l (perpendicular bus a b) (strict bus a b q) s.inner) in
      let there : q ≡ crossing_place bus a = meet_place bus a b q right s.met in
      record {
        point = exact q;
        shared = found.1;
        only = λ p h. same_both {r = q} (subst (Holds p) s.met (meet_holds bus a b p F.bus_start F.bus_end F.first F.last s.bus_straight s.run_straight h.on_bus h.on_route)) is_here;
        is = record {
          at = subst (λ (z : Point). Same (exact q) (exact z)) there (record { x = refl; y = refl });
          crosses = c;
          not_start = λ h. c.not_start (same_place_self bus.start (exact q) F.bus_start h);
          not_end = λ h. c.not_end (same_place_self bus.end (exact q) F.bus_end h);
          not_first = λ h. c.not_first (same_place_self a (exact q) F.first h);
          not_last = λ h. c.not_last (same_place_self b (exact q) F.last h);
        };
      }
