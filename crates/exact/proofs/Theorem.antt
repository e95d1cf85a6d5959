-- Where `contact` finds nothing, a bus and a run that has length share at most one exact point: the tap, at an end of the run, or, where that is permitted, a strict crossing.
-- Assumes nothing.
use Rattle.std.specs.Prelude.{◌≡◌, ◌⊎◌, Bool, not, ◌&&◌, ◌||◌, cond, T, Option, Some, None}
use Rattle.std.proofs.Common.{sym, subst, true≢false, T_not}
use Rattle.std.proofs.Math.Logic.{inl, inr}
use Rattle.std.proofs.Math.Bool.{true, false}
use Rattle.std.specs.Bool.{beq}
use Rattle.std.specs.Float.Ieee.{eq}
use Rattle.std.specs.Float.Ieee.Fits.{and_l, and_r}
use Rattle.binary64.proofs.Fraction.{eq→Sameℚ}
use Rattle.binary64.specs.Rational.{value}
use Rattle.geometry.specs.declared.Point.{Point}
use Rattle.geometry.specs.declared.Segment.{Segment}
use Rattle.exact.specs.Exact.{Exact, Same, SamePlace, Finite, HasLength}
use Rattle.geometry.specs.declared.Meet.{Meet}
use Rattle.geometry.specs.declared.Meet.TheVariants.{Apart, Overlap, One}
use Rattle.geometry.specs.Contact.{matches, coincide, level, slanted, meet, at_tap, perpendicular, strict, meeting_disallowed, contact}
use Rattle.exact.specs.Promise.{FiniteTap, Numbers, Shared, Tapped, Touches, Square, bus_level, bus_upright, Crosses, Clean, CleanOrCrossing}
use Rattle.exact.proofs.Between.{same_trans}
use Rattle.exact.proofs.Near.{place_same}
use Rattle.exact.proofs.Meeting.{not_or, not_both, Is, Holds, meet_holds}

-- ---- tests
cond_false : (b x y : Bool) → cond b x y ≡ false → (T b × (x ≡ false)) ⊎ (T (not b) × (y ≡ false))
cond_false true x y e = inl (tt, e)
cond_false false x y e = inr (tt, e)

verdict : (x t m n : Bool) → cond x false (not t || not m && not n) ≡ false → (T t × (T m ⊎ T n)) ⊎ T x
verdict true t m n e = inr tt
verdict false true true n e = inl (tt, inl tt)
verdict false true false true e = inl (tt, inr tt)
verdict false true false false e = absurd (true≢false e)
verdict false false m n e = absurd (true≢false e)

differ : (x y : Bool) → T (not (beq x y)) → (T x × T (not y)) ⊎ (T (not x) × T y)
differ true true t = absurd t
differ true false t = inl (tt, tt)
differ false true t = inr (tt, tt)
differ false false t = absurd t

-- ---- what a permitted meeting is
pub same_both : {p q : Exact} {r : Point} → Is p r → Is q r → Same p q
same_both {p} {q} {r} h k = record { x = same_trans p.x (value r.x) q.x h.same.x (sym k.same.x); y = same_trans p.y (value r.y) q.y h.same.y (sym k.same.y) }

module _ (bus : Segment) (a b : Point) (tap : Option Point) (F : Numbers bus a b tap) where
  to_place : {p : Exact} {q : Point} → Is p q → (c : Point) → Finite c → T (matches c q) → SamePlace c p
  to_place {p} {q} h c C t = subst T (sym (place_same c q p C h.is_finite h.same)) t

  from_place : {p : Exact} {q : Point} → Is p q → (c : Point) → Finite c → T (not (matches c q)) → ¬ SamePlace c p
  from_place {p} {q} h c C t s = T_not (matches c q) t (subst T (place_same c q p C h.is_finite h.same) s)

  tapped : {p : Exact} {q : Point} → Is p q → (r : Option Point) → FiniteTap r → T (at_tap r q) → Tapped r p
  tapped h None R t = t
  tapped h (Some r) R t = to_place h r R t

  square_exact : T (not (slanted bus.start bus.end)) → T (not (slanted a b)) → T (perpendicular bus a b) → Square bus a b
  square_exact n m t = elim (differ (level bus.start bus.end) (level a b) t) [
    | inl u ↦ bus_level (eq→Sameℚ bus.start.y bus.end.y F.bus_start.y F.bus_end.y u.0) (eq→Sameℚ a.x b.x F.first.x F.last.x (not_both (level a b) (eq a.x b.x) m u.1))
    | inr u ↦ bus_upright (eq→Sameℚ bus.start.x bus.end.x F.bus_start.x F.bus_end.x (not_both (level bus.start bus.end) (eq bus.start.x bus.end.x) n u.0)) (eq→Sameℚ a.y b.y F.first.y F.last.y u.1)
  ]

  pub crosses : {p : Exact} {q : Point} → Is p q → T (not (slanted bus.start bus.end)) → T (not (slanted a b)) → T (perpendicular bus a b && strict bus a b q) → Crosses bus a b p
  crosses {p} {q} h n m t =
      let s = not (matches bus.start q) in
      let e = not (matches bus.end q) in
      let i = not (matches a q) in
      let j = not (matches b q) in
      let u = and_r (perpendicular bus a b) (strict bus a b q) t in
      let v = and_l (s && e && i) j u in
      let w = and_l (s && e) i v in
      record {
        square = square_exact n m (and_l (perpendicular bus a b) (strict bus a b q) t);
        not_start = from_place h bus.start F.bus_start (and_l s e w);
        not_end = from_place h bus.end F.bus_end (and_r s e w);
        not_first = from_place h a F.first (and_r (s && e) i v);
        not_last = from_place h b F.last (and_r (s && e && i) j u);
      }

  pub touches : {p : Exact} {q : Point} → Is p q → T (at_tap tap q) × (T (matches a q) ⊎ T (matches b q)) → Touches a b tap p
  touches {p} {q} h t = record {
    at_tap = tapped h tap F.its_tap t.0;
    at_end = elim t.1 [ inl u ↦ inl (to_place h a F.first u) | inr u ↦ inr (to_place h b F.last u) ];
  }

  -- ---- by what `meet` found
  at_one : (allow : Bool) (m : Meet) → meeting_disallowed bus a b tap allow m ≡ false → (p q : Exact) → Holds p m → Holds q m → Same p q
  at_one allow Apart e p q h k = absurd h
  at_one allow Overlap e p q h k = absurd (true≢false e)
  at_one allow (One r) e p q h k = same_both h k

  forbidden : (m : Meet) → meeting_disallowed bus a b tap false m ≡ false → (p : Exact) → Holds p m → Touches a b tap p
  forbidden Apart e p h = absurd h
  forbidden Overlap e p h = absurd (true≢false e)
  forbidden (One q) e p h = elim (verdict false (at_tap tap q) (matches a q) (matches b q) e) [ inl t ↦ touches h t | inr t ↦ absurd t ]

  permitted : T (not (slanted bus.start bus.end)) → T (not (slanted a b)) → (m : Meet) → meeting_disallowed bus a b tap true m ≡ false → (p : Exact) → Holds p m → Touches a b tap p ⊎ Crosses bus a b p
  permitted n o Apart e p h = absurd h
  permitted n o Overlap e p h = absurd (true≢false e)
  permitted n o (One q) e p h = elim (verdict (perpendicular bus a b && strict bus a b q) (at_tap tap q) (matches a q) (matches b q) e) [ inl t ↦ inl (touches h t) | inr t ↦ inr (crosses h n o t) ]

  -- ---- what a contact that is not found says
  record Straight (allow : Bool) : Type 0 where
    bus_straight : T (not (slanted bus.start bus.end))
    route_straight : T (not (slanted a b))
    allowed : meeting_disallowed bus a b tap allow (meet bus a b) ≡ false

  straight : (allow : Bool) → contact bus a b tap allow ≡ false → HasLength a b → Straight allow
  unfolding contact
  straight allow e d =
      let s = slanted bus.start bus.end in
      let r = slanted a b in
      let v = meeting_disallowed bus a b tap allow (meet bus a b) in
      elim (cond_false (coincide a b) false (cond (s || r) true v) e) [
        | inl t ↦ absurd (d (record { x = eq→Sameℚ a.x b.x F.first.x F.last.x (and_l (eq a.x b.x) (level a b) t.0); y = eq→Sameℚ a.y b.y F.first.y F.last.y (and_r (eq a.x b.x) (level a b) t.0) }))
        | inr t ↦ elim (cond_false (s || r) true v t.1) [
          | inl u ↦ absurd (true≢false u.1)
          | inr u ↦ record { bus_straight = (not_or s r u.0).0; route_straight = (not_or s r u.0).1; allowed = u.1 }
        ]
      ]

  holds : {allow : Bool} → Straight allow → (p : Exact) → Shared bus a b p → Holds p (meet bus a b)
  holds s p h = meet_holds bus a b p F.bus_start F.bus_end F.first F.last s.bus_straight s.route_straight h.on_bus h.on_route

  -- ---- THE THEOREM, with crossings forbidden and with crossings permitted
  pub no_contact : HasLength a b → contact bus a b tap false ≡ false → Clean bus a b tap
  no_contact d e =
      let s = straight false e d in
      record {
        at_most_one = λ p q h k. at_one false (meet bus a b) s.allowed p q (holds s p h) (holds s q k);
        at_the_tap = λ p h. forbidden (meet bus a b) s.allowed p (holds s p h);
      }

  pub no_contact_but_crossing : HasLength a b → contact bus a b tap true ≡ false → CleanOrCrossing bus a b tap
  no_contact_but_crossing d e =
      let s = straight true e d in
      record {
        at_most_one = λ p q h k. at_one true (meet bus a b) s.allowed p q (holds s p h) (holds s q k);
        at_the_tap_or_crossing = λ p h. permitted s.bus_straight s.route_straight (meet bus a b) s.allowed p (holds s p h);
      }
