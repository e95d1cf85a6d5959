-- A point that a bus and a run share is the one that `meet` finds, where they do not overlap. Assumes nothing.
use Rattle.std.specs.Prelude.{◌⊎◌, Bool, true, false, not, ◌&&◌, ◌||◌, cond, T, Float}
use Rattle.std.proofs.Common.{sym, inl, inr, T_not}
use Rattle.std.specs.Float.Ieee.{lt, le, eq}
use Rattle.std.specs.Float.Ieee.Fits.{and_i}
use Rattle.std.specs.Float.Ieee.Scale.{finite}
use Rattle.binary64.specs.Bools.{or_split}
use Rattle.binary64.specs.Order.{least, greatest}
use Rattle.binary64.specs.Value.{least_finite, greatest_finite, least_le_left, least_le_right, le_greatest_left, le_greatest_right, not_lt→le}
use Rattle.binary64.proofs.Fraction.{at_most_trans, at_most_antisymm, lt→Belowℚ, le→AtMostℚ, AtMostℚ→le, eq→Sameℚ, Sameℚ→eq}
use Rattle.binary64.specs.Rational.{Fraction, AtMostℚ, Sameℚ, value}
use Rattle.geometry.specs.declared.Point.{Point}
use Rattle.geometry.specs.declared.Segment.{Segment}
use Rattle.exact.specs.Exact.{Exact, Same, exact, OnSegment, Finite}
use Rattle.geometry.specs.declared.Span.{Span}
use Rattle.geometry.specs.declared.Meet.{Meet}
use Rattle.geometry.specs.declared.Meet.TheVariants.{Apart, Overlap, One}
use Rattle.geometry.specs.Contact.{level, slanted, across, upright, place, in_line, crossing, meet}
use Rattle.exact.proofs.Between.{Between, rising, falling, same→at_most, same→at_least, same_trans, below_not, across_between, upright_between}

-- ---- tests
pub not_or : (a b : Bool) → T (not (a || b)) → T (not a) × T (not b)
not_or true b t = absurd t
not_or false b t = (tt, t)

pub not_both : (a b : Bool) → T (not (not a && not b)) → T (not a) → T b
not_both true b t n = absurd n
not_both false true t n = tt
not_both false false t n = absurd t

pub split : (b : Bool) → T b ⊎ T (not b)
split true = inl tt
split false = inr tt

abbrev pub Motive : Type 0 → Type 1
Motive A = A → Type 0

pub cond_ind : {A : Type 0} (b : Bool) (x y : A) (Q : Motive A) → (T b → Q x) → (T (not b) → Q y) → Q (cond b x y)
cond_ind true x y Q f g = f tt
cond_ind false x y Q f g = g tt

-- ---- one coordinate
pub at_most_least : (p : Fraction) (a b : Float) → AtMostℚ p (value a) → AtMostℚ p (value b) → AtMostℚ p (value (least a b))
at_most_least p a b h k = cond_ind (lt b a) b a (λ (z : Float). AtMostℚ p (value z)) (λ t. k) (λ t. h)

pub greatest_at_most : (p : Fraction) (a b : Float) → AtMostℚ (value a) p → AtMostℚ (value b) p → AtMostℚ (value (greatest a b)) p
greatest_at_most p a b h k = cond_ind (lt a b) b a (λ (z : Float). AtMostℚ (value z) p) (λ t. k) (λ t. h)

module _ (a b : Float) (p : Fraction) (A : T (finite a)) (B : T (finite b)) where
  low : Between (value a) p (value b) → AtMostℚ (value (least a b)) p
  low (rising h k) = at_most_trans (value (least a b)) (value a) p (le→AtMostℚ (least a b) a (least_finite a b A B) A (least_le_left a b A B)) h
  low (falling h k) = at_most_trans (value (least a b)) (value b) p (le→AtMostℚ (least a b) b (least_finite a b A B) B (least_le_right a b A B)) h

  high : Between (value a) p (value b) → AtMostℚ p (value (greatest a b))
  high (rising h k) = at_most_trans p (value b) (value (greatest a b)) k (le→AtMostℚ b (greatest a b) B (greatest_finite a b A B) (le_greatest_right a b A B))
  high (falling h k) = at_most_trans p (value a) (value (greatest a b)) k (le→AtMostℚ a (greatest a b) A (greatest_finite a b A B) (le_greatest_left a b A B))

  pinned : T (eq a b) → Between (value a) p (value b) → Sameℚ p (value a)
  pinned t w = go w (eq→Sameℚ a b A B t)
    where
      go : Between (value a) p (value b) → Sameℚ (value a) (value b) → Sameℚ p (value a)
      go (rising h k) e = at_most_antisymm p (value a) (at_most_trans p (value b) (value a) k (same→at_least (value a) (value b) e)) h
      go (falling h k) e = at_most_antisymm p (value a) k (at_most_trans (value a) (value b) p (same→at_most (value a) (value b) e) h)

-- ---- a span with a point on it
pub record Lies (s : Span) (f m : Fraction) : Type 0 where
  pub fixed_finite : T (finite s.fixed)
  pub low_finite : T (finite s.low)
  pub high_finite : T (finite s.high)
  pub on : Sameℚ f (value s.fixed)
  pub from : AtMostℚ (value s.low) m
  pub to : AtMostℚ m (value s.high)

pub lies_across : (p : Exact) (a b : Point) → Finite a → Finite b → T (level a b) → OnSegment p (exact a) (exact b) → Lies (across a b) p.y p.x
lies_across p a b A B t h = record {
  fixed_finite = A.y;
  low_finite = least_finite a.x b.x A.x B.x;
  high_finite = greatest_finite a.x b.x A.x B.x;
  on = pinned a.y b.y p.y A.y B.y t (upright_between h);
  from = low a.x b.x p.x A.x B.x (across_between h);
  to = high a.x b.x p.x A.x B.x (across_between h);
}

pub lies_upright : (p : Exact) (a b : Point) → Finite a → Finite b → T (eq a.x b.x) → OnSegment p (exact a) (exact b) → Lies (upright a b) p.x p.y
lies_upright p a b A B t h = record {
  fixed_finite = A.x;
  low_finite = least_finite a.y b.y A.y B.y;
  high_finite = greatest_finite a.y b.y A.y B.y;
  on = pinned a.x b.x p.x A.x B.x t (across_between h);
  from = low a.y b.y p.y A.y B.y (upright_between h);
  to = high a.y b.y p.y A.y B.y (upright_between h);
}

-- ---- what a meeting says of a shared point: it is the place found
pub record Is (p : Exact) (q : Point) : Type 0 where
  pub is_finite : Finite q
  pub same : Same p (exact q)

abbrev pub Holds : Exact → Meet → Type 0
Holds p Apart = ⊥
Holds p Overlap = Unit {0}
Holds p (One q) = Is p q

-- the low end of one is not above the high end of the other
clear : (x y : Float) (m : Fraction) → T (finite x) → T (finite y) → AtMostℚ m (value x) → AtMostℚ (value y) m → T (lt x y) → ⊥
clear x y m X Y h k t = below_not (value x) (value y) (lt→Belowℚ x y X Y t) (at_most_trans (value y) m (value x) k h)

module _ (p : Exact) (f m : Fraction) where
  in_line_holds : (l : Bool) (s r : Span)
      → ((u v : Float) → T (finite u) → T (finite v) → Sameℚ f (value u) → Sameℚ m (value v) → Is p (place l u v))
      → Lies s f m → Lies r f m → Holds p (in_line l s r)
  in_line_holds l s r makes S R =
      let x = not (eq s.fixed r.fixed) in
      let y = lt r.high s.low in
      let z = lt s.high r.low in
      let lo = greatest s.low r.low in
      let hi = least s.high r.high in
      let LO = greatest_finite s.low r.low S.low_finite R.low_finite in
      let HI = least_finite s.high r.high S.high_finite R.high_finite in
      let from = greatest_at_most m s.low r.low S.from R.from in
      let to = at_most_least m s.high r.high S.to R.to in
      cond_ind (x || y || z) Apart (cond (lt lo hi) Overlap (One (place l s.fixed lo))) (Holds p)
      (λ t. elim (or_split (x || y) z t) [
        | inl u ↦ elim (or_split x y u) [
          | inl v ↦ T_not (eq s.fixed r.fixed) v (Sameℚ→eq s.fixed r.fixed S.fixed_finite R.fixed_finite (same_trans (value s.fixed) f (value r.fixed) (sym S.on) R.on))
          | inr v ↦ clear r.high s.low m R.high_finite S.low_finite R.to S.from v
        ]
        | inr u ↦ clear s.high r.low m S.high_finite R.low_finite S.to R.from u
      ])
      (λ t. cond_ind (lt lo hi) Overlap (One (place l s.fixed lo)) (Holds p) (λ u. tt)
      (λ u. makes s.fixed lo S.fixed_finite LO S.on (at_most_antisymm m (value lo) (at_most_trans m (value hi) (value lo) to (le→AtMostℚ hi lo HI LO (not_lt→le lo hi LO HI u))) from)))

crossing_holds : (p : Exact) (h v : Span) → Lies h p.y p.x → Lies v p.x p.y → Holds p (crossing h v)
crossing_holds p h v H W =
    let q : Point = record { x = v.fixed; y = h.fixed } in
    let a = le h.low v.fixed in
    let b = le v.fixed h.high in
    let c = le v.low h.fixed in
    let d = le h.fixed v.high in
    let A : T a = AtMostℚ→le h.low v.fixed H.low_finite W.fixed_finite (at_most_trans (value h.low) p.x (value v.fixed) H.from (same→at_most p.x (value v.fixed) W.on)) in
    let B : T b = AtMostℚ→le v.fixed h.high W.fixed_finite H.high_finite (at_most_trans (value v.fixed) p.x (value h.high) (same→at_least p.x (value v.fixed) W.on) H.to) in
    let C : T c = AtMostℚ→le v.low h.fixed W.low_finite H.fixed_finite (at_most_trans (value v.low) p.y (value h.fixed) W.from (same→at_most p.y (value h.fixed) H.on)) in
    let D : T d = AtMostℚ→le h.fixed v.high H.fixed_finite W.high_finite (at_most_trans (value h.fixed) p.y (value v.high) (same→at_least p.y (value h.fixed) H.on) W.to) in
    cond_ind (a && b && c && d) (One q) Apart (Holds p)
    (λ t. record { is_finite = record { x = W.fixed_finite; y = H.fixed_finite }; same = record { x = W.on; y = H.on } })
    (λ t. T_not (a && b && c && d) t (and_i (a && b && c) d (and_i (a && b) c (and_i a b A B) C) D))

-- ---- a shared point of two segments of which neither is slanted
pub meet_holds : (bus : Segment) (a b : Point) (p : Exact) → Finite bus.start → Finite bus.end → Finite a → Finite b → T (not (slanted bus.start bus.end)) → T (not (slanted a b))
    → OnSegment p (exact bus.start) (exact bus.end) → OnSegment p (exact a) (exact b) → Holds p (meet bus a b)
unfolding meet
meet_holds bus a b p S E A B n m h k =
    let s = bus.start in
    let e = bus.end in
    cond_ind (level s e)
    (cond (level a b) (in_line true (across s e) (across a b)) (crossing (across s e) (upright a b)))
    (cond (level a b) (crossing (across a b) (upright s e)) (in_line false (upright s e) (upright a b))) (Holds p)
    (λ t. cond_ind (level a b) (in_line true (across s e) (across a b)) (crossing (across s e) (upright a b)) (Holds p)
    (λ u. in_line_holds p p.y p.x true (across s e) (across a b) (λ u v F G i j. record { is_finite = record { x = G; y = F }; same = record { x = j; y = i } })
    (lies_across p s e S E t h) (lies_across p a b A B u k))
    (λ u. crossing_holds p (across s e) (upright a b) (lies_across p s e S E t h) (lies_upright p a b A B (not_both (level a b) (eq a.x b.x) m u) k)))
    (λ t. cond_ind (level a b) (crossing (across a b) (upright s e)) (in_line false (upright s e) (upright a b)) (Holds p)
    (λ u. crossing_holds p (across a b) (upright s e) (lies_across p a b A B u k) (lies_upright p s e S E (not_both (level s e) (eq s.x e.x) n t) h))
    (λ u. in_line_holds p p.x p.y false (upright s e) (upright a b) (λ u v F G i j. record { is_finite = record { x = F; y = G }; same = record { x = i; y = j } })
    (lies_upright p s e S E (not_both (level s e) (eq s.x e.x) n t) h) (lies_upright p a b A B (not_both (level a b) (eq a.x b.x) m u) k)))
