-- What `meet` finds is there: the one point is on the bus and on the run, and where the two overlap they share more than one.
-- Assumes nothing.
use Rattle.std.specs.Prelude.{◌≡◌, Bool, true, false, not, ◌&&◌, ◌||◌, cond, T, Float}
use Rattle.std.proofs.Common.{sym, true≢false}
use Rattle.std.specs.Bool.{beq}
use Rattle.std.proofs.Math.Facts.{T_not-not}
use Rattle.std.specs.Float.Ieee.{lt, le, eq}
use Rattle.std.specs.Float.Ieee.Fits.{and_l, and_r}
use Rattle.std.specs.Float.Ieee.Scale.{finite}
use Rattle.binary64.specs.Order.{least, greatest}
use Rattle.binary64.specs.Value.{least_finite, greatest_finite, least_le_left, least_le_right, le_greatest_left, le_greatest_right, greatest_le, le_least, le_refl_finite, le_trans_finite, le_antisymm_finite, not_lt→le}
use Rattle.binary64.specs.Rational.{Sameℚ, value}
use Rattle.binary64.proofs.Fraction.{lt→Belowℚ, le→AtMostℚ, eq→Sameℚ}
use Rattle.geometry.specs.declared.Point.{Point}
use Rattle.geometry.specs.declared.Segment.{Segment}
use Rattle.geometry.specs.declared.Span.{Span}
use Rattle.geometry.specs.declared.Meet.{Meet}
use Rattle.geometry.specs.declared.Meet.TheVariants.{Apart, Overlap, One}
use Rattle.geometry.specs.Contact.{level, slanted, across, upright, place, in_line, crossing, meet, perpendicular}
use Rattle.exact.specs.Exact.{Same, exact, Finite}
use Rattle.exact.specs.Promise.{Shared}
use Rattle.exact.proofs.Between.{same→at_least, below_not}
use Rattle.exact.proofs.Meeting.{Lies, cond_ind, not_or, not_both}
use Rattle.geometry.specs.Crossing.{crossing_place}
use Rattle.kind_words.specs.Words.{MoreShared}
use Rattle.kind_words.proofs.On.{from_across, from_upright}

-- what a meeting says is there
abbrev pub Found : Segment → Point → Point → Meet → Type 0
Found bus a b Apart = Unit {0}
Found bus a b Overlap = MoreShared bus a b
Found bus a b (One q) = Finite q × Shared bus a b (exact q)

-- a span of finite numbers, low end first
record Real (s : Span) : Type 0 where
  fixed : T (finite s.fixed)
  low : T (finite s.low)
  high : T (finite s.high)
  order : T (le s.low s.high)

real_across : (a b : Point) → Finite a → Finite b → Real (across a b)
real_across a b A B = record {
  fixed = A.y;
  low = least_finite a.x b.x A.x B.x;
  high = greatest_finite a.x b.x A.x B.x;
  order = le_trans_finite (least a.x b.x) a.x (greatest a.x b.x) (least_finite a.x b.x A.x B.x) A.x (greatest_finite a.x b.x A.x B.x) (least_le_left a.x b.x A.x B.x) (le_greatest_left a.x b.x A.x B.x);
}

real_upright : (a b : Point) → Finite a → Finite b → Real (upright a b)
real_upright a b A B = record {
  fixed = A.x;
  low = least_finite a.y b.y A.y B.y;
  high = greatest_finite a.y b.y A.y B.y;
  order = le_trans_finite (least a.y b.y) a.y (greatest a.y b.y) (least_finite a.y b.y A.y B.y) A.y (greatest_finite a.y b.y A.y B.y) (least_le_left a.y b.y A.y B.y) (le_greatest_left a.y b.y A.y B.y);
}

-- a number m on a span, at the height f
lies_on : (s : Span) (R : Real s) (f m : Float) → T (finite f) → T (finite m) → T (eq f s.fixed) → T (le s.low m) → T (le m s.high) → Lies s (value f) (value m)
lies_on s R f m F M e h k = record {
  fixed_finite = R.fixed;
  low_finite = R.low;
  high_finite = R.high;
  on = eq→Sameℚ f s.fixed F R.fixed e;
  from = le→AtMostℚ s.low m R.low M h;
  to = le→AtMostℚ m s.high M R.high k;
}

-- equal to itself
self : (x : Float) → T (finite x) → T (eq x x)
self x X = le_antisymm_finite x x X X (le_refl_finite x X) (le_refl_finite x X)

module _ (bus : Segment) (a b : Point) where
  -- two spans in one direction; with what a number between both low ends and both high ends is
  in_line_found : (l : Bool) (s r : Span) → Real s → Real r
      → (T (eq s.fixed r.fixed) → (m : Float) → T (finite m) → T (le s.low m) → T (le m s.high) → T (le r.low m) → T (le m r.high) → Finite (place l s.fixed m) × Shared bus a b (exact (place l s.fixed m)))
      → ((m n : Float) → T (finite m) → T (finite n) → Same (exact (place l s.fixed m)) (exact (place l s.fixed n)) → Sameℚ (value m) (value n))
      → Found bus a b (in_line l s r)
  in_line_found l s r S R makes tells =
      let x = not (eq s.fixed r.fixed) in
      let y = lt r.high s.low in
      let z = lt s.high r.low in
      let lo = greatest s.low r.low in
      let hi = least s.high r.high in
      let LO : T (finite lo) = greatest_finite s.low r.low S.low R.low in
      let HI : T (finite hi) = least_finite s.high r.high S.high R.high in
      cond_ind (x || y || z) Apart (cond (lt lo hi) Overlap (One (place l s.fixed lo))) (Found bus a b) (λ t. tt)
      (λ t.
      let u : T (not (x || y)) × T (not z) = not_or (x || y) z t in
      let v : T (not x) × T (not y) = not_or x y u.0 in
      let e : T (eq s.fixed r.fixed) = T_not-not (eq s.fixed r.fixed) v.0 in
      let sr : T (le s.low r.high) = not_lt→le r.high s.low R.high S.low v.1 in
      let rs : T (le r.low s.high) = not_lt→le s.high r.low S.high R.low u.1 in
      let low_one = makes e lo LO (le_greatest_left s.low r.low S.low R.low) (greatest_le s.high s.low r.low S.order rs) (le_greatest_right s.low r.low S.low R.low) (greatest_le r.high s.low r.low sr R.order) in
      let high_one = makes e hi HI (le_least s.low s.high r.high S.order sr) (least_le_left s.high r.high S.high R.high) (le_least r.low s.high r.high rs R.order) (least_le_right s.high r.high S.high R.high) in
      cond_ind (lt lo hi) Overlap (One (place l s.fixed lo)) (Found bus a b)
      (λ w. record {
        one = exact (place l s.fixed lo);
        other = exact (place l s.fixed hi);
        one_shared = low_one.1;
        other_shared = high_one.1;
        differ = λ same. below_not (value lo) (value hi) (lt→Belowℚ lo hi LO HI w) (same→at_least (value lo) (value hi) (tells lo hi LO HI same));
      })
      (λ w. low_one))

  -- a level span and an upright one
  crossing_found : (h v : Span) → Real h → Real v
      → (let q : Point = record { x = v.fixed; y = h.fixed } in T (le h.low v.fixed) → T (le v.fixed h.high) → T (le v.low h.fixed) → T (le h.fixed v.high) → Shared bus a b (exact q))
      → Found bus a b (crossing h v)
  crossing_found h v H W makes =
      let i = le h.low v.fixed in
      let j = le v.fixed h.high in
      let k = le v.low h.fixed in
      let l = le h.fixed v.high in
      cond_ind (i && j && k && l) (One (record { x = v.fixed; y = h.fixed })) Apart (Found bus a b)
      (λ t.
      let u = and_l (i && j && k) l t in
      let w = and_l (i && j) k u in
      (record { x = W.fixed; y = H.fixed }, makes (and_l i j w) (and_r i j w) (and_r (i && j) k u) (and_r (i && j && k) l t)))
      (λ t. tt)

-- what `meet` finds of a bus and a run of which neither is slanted
pub meet_found : (bus : Segment) (a b : Point) → Finite bus.start → Finite bus.end → Finite a → Finite b → T (not (slanted bus.start bus.end)) → T (not (slanted a b)) → Found bus a b (meet bus a b)
unfolding meet
meet_found bus a b S E A B n m =
    let s = bus.start in
    let e = bus.end in
    let h = across s e in
    let v = upright s e in
    let r = across a b in
    let u = upright a b in
    let H = real_across s e S E in
    let W = real_upright s e S E in
    let R = real_across a b A B in
    let U = real_upright a b A B in
    cond_ind (level s e)
    (cond (level a b) (in_line true h r) (crossing h u))
    (cond (level a b) (crossing r v) (in_line false v u)) (Found bus a b)
    (λ t. cond_ind (level a b) (in_line true h r) (crossing h u) (Found bus a b)
    (λ w. in_line_found bus a b true h r H R
    (λ o k K i j f g. let q : Point = record { x = k; y = s.y } in (
      record { x = K; y = S.y },
      record {
        on_bus = from_across (exact q) s e S E t (lies_on h H s.y k S.y K (self s.y S.y) i j);
        on_route = from_across (exact q) a b A B w (lies_on r R s.y k S.y K o f g);
      },
    ))
    (λ i j I J same. same.x))
    (λ w. let up : T (eq a.x b.x) = not_both (level a b) (eq a.x b.x) m w in crossing_found bus a b h u H U
    (λ i j k l. let q : Point = record { x = a.x; y = s.y } in record {
      on_bus = from_across (exact q) s e S E t (lies_on h H s.y a.x S.y A.x (self s.y S.y) i j);
      on_route = from_upright (exact q) a b A B up (lies_on u U a.x s.y A.x S.y (self a.x A.x) k l);
    })))
    (λ t. let up : T (eq s.x e.x) = not_both (level s e) (eq s.x e.x) n t in cond_ind (level a b) (crossing r v) (in_line false v u) (Found bus a b)
    (λ w. crossing_found bus a b r v R W
    (λ i j k l. let q : Point = record { x = s.x; y = a.y } in record {
      on_bus = from_upright (exact q) s e S E up (lies_on v W s.x a.y S.x A.y (self s.x S.x) k l);
      on_route = from_across (exact q) a b A B w (lies_on r R a.y s.x A.y S.x (self a.y A.y) i j);
    }))
    (λ w. let right : T (eq a.x b.x) = not_both (level a b) (eq a.x b.x) m w in in_line_found bus a b false v u W U
    (λ o k K i j f g. let q : Point = record { x = s.x; y = k } in (
      record { x = S.x; y = K },
      record {
        on_bus = from_upright (exact q) s e S E up (lies_on v W s.x k S.x K (self s.x S.x) i j);
        on_route = from_upright (exact q) a b A B right (lies_on u U s.x k S.x K o f g);
      },
    ))
    (λ i j I J same. same.y)))

-- where they are perpendicular, the place found is the crossing's
place_found : (p q : Point) (g : Bool) → ◌≡◌ {A = Meet} (cond g (One p) Apart) (One q) → q ≡ p
place_found p q true e = cc
place_found p q false e = cc

pub meet_place : (bus : Segment) (a b : Point) (q : Point) → perpendicular bus a b ≡ true → meet bus a b ≡ One q → q ≡ crossing_place bus a
unfolding meet
meet_place bus a b q p e = go (level bus.start bus.end) (level a b) p e
  where
    h : Span
    h = across bus.start bus.end

    v : Span
    v = upright bus.start bus.end

    go : (x y : Bool) → not (beq x y) ≡ true
        → cond x (cond y (in_line true h (across a b)) (crossing h (upright a b))) (cond y (crossing (across a b) v) (in_line false v (upright a b))) ≡ One q
        → q ≡ cond x (record { x = a.x; y = bus.start.y }) (record { x = bus.start.x; y = a.y })
    go true true p e = absurd (true≢false (sym p))
    go true false p e = place_found (record { x = a.x; y = bus.start.y }) q (le h.low a.x && le a.x h.high && le (upright a b).low bus.start.y && le bus.start.y (upright a b).high) e
    go false true p e = place_found (record { x = bus.start.x; y = a.y }) q (le (across a b).low bus.start.x && le bus.start.x (across a b).high && le v.low a.y && le a.y v.high) e
    go false false p e = absurd (true≢false (sym p))
