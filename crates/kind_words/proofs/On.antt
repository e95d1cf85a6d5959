-- The converse of crate exact's Between: a point between the ends of a level or an upright segment is on it.
-- Assumes nothing.
use Rattle.std.specs.Prelude.{◌≡◌, refl, ℕ, zero, suc, ◌+◌, ◌*◌, ◌≤◌, ◌<◌, Bool, true, false, not, cond, pos, T, Float}
use Rattle.std.proofs.Common.{sym, ap, subst, inl, inr, mul_comm, mul_assoc, mul_left_comm, add-mul, mul-pos, mul-le-mul_right, zero-lt-suc, arith}
use Rattle.std.specs.Float.Ieee.{lt, le, eq}
use Rattle.std.specs.Float.Ieee.Scale.{finite}
use Rattle.binary64.specs.Rational.{plus, less, Fraction, AtMostℚ, Sameℚ, value}
use Rattle.binary64.specs.Order.{least, greatest}
use Rattle.binary64.specs.Value.{lt→le, not_lt→le}
use Rattle.binary64.proofs.Fraction.{cross_plus, cross_less, at_most_trans, at_most_antisymm, le→AtMostℚ, eq→Sameℚ}
use Rattle.geometry.specs.declared.Point.{Point}
use Rattle.geometry.specs.Contact.{level, across, upright}
use Rattle.exact.specs.Exact.{nought, unit, Exact, exact, on_the_way, OnSegment, Finite}
use Rattle.exact.proofs.Between.{Between, rising, falling, ratio, gap, gap_parts, way_parts, one_part, on_between, same→at_most, same→at_least, same_trans}
use Rattle.exact.proofs.Meeting.{Lies}

-- ---- the share t of the way from a to b at which q is: a is (pa - la) / α, b is (pb - lb) / β, q is (pq - lq) / δ; b - a is (d - e) / .., q - a is (f - g) / ..
module _ (pa la α pb lb β pq lq δ d e f g : ℕ) (D : d + (lb * α + pa * β) ≡ pb * α + la * β + e) (G : f + (lq * α + pa * δ) ≡ pq * α + la * δ + g) where
  share_rising : e ≡ 0 → g ≡ 0 → pq * β + lb * δ ≤ pb * δ + lq * β → f * β ≤ d * δ
  share_rising z w h =
      let D' = simp (add-mul, mul_assoc, mul_comm) at (ap (λ (n : ℕ). n * δ) (rw z at D)) in
      let G' = simp (add-mul, mul_assoc, mul_comm) at (ap (λ (n : ℕ). n * β) (rw w at G)) in
      let H' = simp (add-mul, mul_assoc, mul_comm) at (mul-le-mul_right α h) in
      simp (mul_comm) (omega arith)

  share_falling : d ≡ 0 → f ≡ 0 → pb * δ + lq * β ≤ pq * β + lb * δ → g * β ≤ e * δ
  share_falling z w h =
      let D' = simp (add-mul, mul_assoc, mul_comm) at (ap (λ (n : ℕ). n * δ) (rw z at D)) in
      let G' = simp (add-mul, mul_assoc, mul_comm) at (ap (λ (n : ℕ). n * β) (rw w at G)) in
      let H' = simp (add-mul, mul_assoc, mul_comm) at (mul-le-mul_right α h) in
      simp (mul_comm) (omega arith)

-- (pn - ln) is the numerator of a + t * (b - a)
module _ (pa la α β pq lq δ d e f g pn ln : ℕ) (G : f + (lq * α + pa * δ) ≡ pq * α + la * δ + g) where
  there_rising : e ≡ 0 → g ≡ 0 → pn + (la * (d * δ * (β * α)) + f * β * e * α) ≡ pa * (d * δ * (β * α)) + f * β * d * α + ln
      → pq * (α * (d * δ * (β * α))) + ln * δ ≡ pn * δ + lq * (α * (d * δ * (β * α)))
  there_rising z w N =
      let N' = simp (add-mul, mul_assoc, mul_comm, mul_left_comm) at (ap (λ (n : ℕ). n * δ) (rw z at N)) in
      let G' = simp (add-mul, mul_assoc, mul_comm, mul_left_comm) at (ap (λ (n : ℕ). n * (d * (δ * (β * α)))) (rw w at G)) in
      simp (mul_assoc, mul_comm, mul_left_comm) (omega arith)

  there_falling : d ≡ 0 → f ≡ 0 → pn + (la * (e * δ * (β * α)) + g * β * e * α) ≡ pa * (e * δ * (β * α)) + g * β * d * α + ln
      → pq * (α * (e * δ * (β * α))) + ln * δ ≡ pn * δ + lq * (α * (e * δ * (β * α)))
  there_falling z w N =
      let N' = simp (add-mul, mul_assoc, mul_comm, mul_left_comm) at (ap (λ (n : ℕ). n * δ) (rw z at N)) in
      let G' = simp (add-mul, mul_assoc, mul_comm, mul_left_comm) at (ap (λ (n : ℕ). n * (e * (δ * (β * α)))) (rw w at G)) in
      simp (mul_assoc, mul_comm, mul_left_comm) (omega arith)

-- q is at a
there_standing : (pa la α β pq lq δ d e pn ln : ℕ) → pq * α + la * δ ≡ pa * δ + lq * α → pn + (la * (1 * (β * α)) + 0 * e * α) ≡ pa * (1 * (β * α)) + 0 * d * α + ln
    → pq * (α * (1 * (β * α))) + ln * δ ≡ pn * δ + lq * (α * (1 * (β * α)))
there_standing pa la α β pq lq δ d e pn ln Q N =
    let N' = simp (add-mul, mul_assoc, mul_comm, mul_left_comm) at (ap (λ (n : ℕ). n * δ) N) in
    let Q' = simp (add-mul, mul_assoc, mul_comm, mul_left_comm) at (ap (λ (n : ℕ). n * (β * α)) Q) in
    simp (mul_comm, mul_left_comm) (omega arith)

-- ---- q is a + t * (b - a) for a t from 0 to 1
pub record Way (a q b : Fraction) : Type 0 where
  pub t : Fraction
  pub from_0 : AtMostℚ nought t
  pub to_1 : AtMostℚ t unit
  pub there : Sameℚ q (on_the_way t a b)

-- a share n / τ that is not above 1
module _ (a q b : Fraction) (n τ : ℕ) (z : 0 < τ) where
  abbrev share : Fraction
  share = ratio (pos n) τ z

  by_share : n ≤ τ
      → plus q.numerator * (a.denominator * (τ * (b.denominator * a.denominator))) + less (on_the_way share a b).numerator * q.denominator
      ≡ plus (on_the_way share a b).numerator * q.denominator + less q.numerator * (a.denominator * (τ * (b.denominator * a.denominator)))
      → Way a q b
  by_share h e =
      let w = on_the_way share a b in
      record {
        t = share;
        from_0 = omega (arith, cross_less share nought, cross_plus share nought, cross_plus nought share, cross_less nought share);
        to_1 = omega (arith, cross_plus share unit, cross_plus unit share, cross_less share unit, cross_less unit share);
        there = at_most_antisymm q w (omega (arith, cross_plus q w, cross_less q w, cross_plus w q, cross_less w q)) (omega (arith, cross_plus q w, cross_less q w, cross_plus w q, cross_less w q));
      }

module _ (a q b : Fraction) where
  abbrev α : ℕ
  α = a.denominator

  abbrev β : ℕ
  β = b.denominator

  abbrev δ : ℕ
  δ = q.denominator

  -- a, q and b are one
  stands : plus q.numerator * α + less a.numerator * δ ≡ plus a.numerator * δ + less q.numerator * α → Way a q b
  stands e =
      let w = on_the_way (ratio (pos 0) 1 (zero-lt-suc 0)) a b in
      by_share a q b 0 1 (zero-lt-suc 0) (omega arith)
      (there_standing (plus a.numerator) (less a.numerator) α β (plus q.numerator) (less q.numerator) δ (plus (gap a b)) (less (gap a b)) (plus w.numerator) (less w.numerator) e (way_parts 0 1 (zero-lt-suc 0) a b))

  rises : (d : ℕ) → plus (gap a b) ≡ d → less (gap a b) ≡ 0 → less (gap a q) ≡ 0 → AtMostℚ a q → AtMostℚ q b → Way a q b
  rises zero D e g h k =
      stands (omega (arith, gap_parts a b, gap_parts a q, at_a, cross_plus a q, cross_less a q, cross_plus q a, cross_less q a))
    where
      at_a : AtMostℚ q a
      at_a = at_most_trans q b a k (omega (arith, D, e, gap_parts a b, cross_plus a b, cross_less a b, cross_plus b a, cross_less b a))
  rises (suc d) D e g h k =
      let f = plus (gap a q) in
      let τ = plus (gap a b) * δ in
      let z : 0 < τ = mul-pos (subst (λ (n : ℕ). 0 < n) (sym D) (zero-lt-suc d)) q.above_zero in
      let w = on_the_way (ratio (pos (f * β)) τ z) a b in
      by_share a q b (f * β) τ z
      (share_rising (plus a.numerator) (less a.numerator) α (plus b.numerator) (less b.numerator) β (plus q.numerator) (less q.numerator) δ (plus (gap a b)) (less (gap a b)) f (less (gap a q)) (gap_parts a b) (gap_parts a q) e g
      (omega (arith, k, cross_plus q b, cross_less q b, cross_plus b q, cross_less b q)))
      (there_rising (plus a.numerator) (less a.numerator) α β (plus q.numerator) (less q.numerator) δ (plus (gap a b)) (less (gap a b)) f (less (gap a q)) (plus w.numerator) (less w.numerator) (gap_parts a q) e g (way_parts (f * β) τ z a b))

  falls : (e : ℕ) → less (gap a b) ≡ e → plus (gap a b) ≡ 0 → plus (gap a q) ≡ 0 → AtMostℚ q a → AtMostℚ b q → Way a q b
  falls zero E d f h k =
      stands (omega (arith, gap_parts a b, gap_parts a q, at_a, cross_plus a q, cross_less a q, cross_plus q a, cross_less q a))
    where
      at_a : AtMostℚ a q
      at_a = at_most_trans a b q (omega (arith, E, d, gap_parts a b, cross_plus a b, cross_less a b, cross_plus b a, cross_less b a)) k
  falls (suc e) E d f h k =
      let g = less (gap a q) in
      let τ = less (gap a b) * δ in
      let z : 0 < τ = mul-pos (subst (λ (n : ℕ). 0 < n) (sym E) (zero-lt-suc e)) q.above_zero in
      let w = on_the_way (ratio (pos (g * β)) τ z) a b in
      by_share a q b (g * β) τ z
      (share_falling (plus a.numerator) (less a.numerator) α (plus b.numerator) (less b.numerator) β (plus q.numerator) (less q.numerator) δ (plus (gap a b)) (less (gap a b)) (plus (gap a q)) g (gap_parts a b) (gap_parts a q) d f
      (omega (arith, k, cross_plus q b, cross_less q b, cross_plus b q, cross_less b q)))
      (there_falling (plus a.numerator) (less a.numerator) α β (plus q.numerator) (less q.numerator) δ (plus (gap a b)) (less (gap a b)) (plus (gap a q)) g (plus w.numerator) (less w.numerator) (gap_parts a q) d f (way_parts (g * β) τ z a b))

-- of two in order, the difference has no negative part, or no positive one
up_only : (a b : Fraction) → AtMostℚ a b → less (gap a b) ≡ 0
up_only a b h = elim (one_part (gap a b)) [ inl z ↦ z | inr z ↦ omega (arith, z, gap_parts a b, cross_plus a b, cross_less a b, cross_plus b a, cross_less b a) ]

down_only : (a b : Fraction) → AtMostℚ b a → plus (gap a b) ≡ 0
down_only a b h = elim (one_part (gap a b)) [ inl z ↦ omega (arith, z, gap_parts a b, cross_plus a b, cross_less a b, cross_plus b a, cross_less b a) | inr z ↦ z ]

pub way : (a q b : Fraction) → Between a q b → Way a q b
way a q b (rising h k) = rises a q b (plus (gap a b)) refl (up_only a b (at_most_trans a q b h k)) (up_only a q h) h k
way a q b (falling h k) = falls a q b (less (gap a b)) refl (down_only a b (at_most_trans b q a h k)) (down_only a q k) k h

-- every part of the way between equals is the same
flat : (t a b : Fraction) → AtMostℚ nought t → AtMostℚ t unit → Sameℚ a b → Sameℚ a (on_the_way t a b)
flat t a b h k e = go (on_between t a b h k)
  where
    w : Fraction
    w = on_the_way t a b

    go : Between a w b → Sameℚ a w
    go (rising i j) = at_most_antisymm a w i (at_most_trans w b a j (same→at_least a b e))
    go (falling i j) = at_most_antisymm a w (at_most_trans a b w (same→at_most a b e) i) j

-- ---- a point between the ends of a level segment, and of an upright one
on_across : (p a b : Exact) → Sameℚ a.y b.y → Sameℚ p.y a.y → Between a.x p.x b.x → OnSegment p a b
on_across p a b e f h =
    let w = way a.x p.x b.x h in
    record {
      t = w.t;
      from_0 = w.from_0;
      to_1 = w.to_1;
      x = w.there;
      y = same_trans p.y a.y (on_the_way w.t a.y b.y) f (flat w.t a.y b.y w.from_0 w.to_1 e);
    }

on_upright : (p a b : Exact) → Sameℚ a.x b.x → Sameℚ p.x a.x → Between a.y p.y b.y → OnSegment p a b
on_upright p a b e f h =
    let w = way a.y p.y b.y h in
    record {
      t = w.t;
      from_0 = w.from_0;
      to_1 = w.to_1;
      x = same_trans p.x a.x (on_the_way w.t a.x b.x) f (flat w.t a.x b.x w.from_0 w.to_1 e);
      y = w.there;
    }

-- between the least and the greatest of two numbers
pub span_between : (a b : Float) (m : Fraction) → T (finite a) → T (finite b) → AtMostℚ (value (least a b)) m → AtMostℚ m (value (greatest a b)) → Between (value a) m (value b)
span_between a b m A B h k = go (lt b a) (lt a b) (lt→le b a) (not_lt→le b a B A) h k
  where
    go : (s t : Bool) → (T s → T (le b a)) → (T (not s) → T (le a b)) → AtMostℚ (value (cond s b a)) m → AtMostℚ m (value (cond t b a)) → Between (value a) m (value b)
    go true true f g h k = falling h (at_most_trans m (value b) (value a) k (le→AtMostℚ b a B A (f tt)))
    go true false f g h k = falling h k
    go false true f g h k = rising h k
    go false false f g h k = rising h (at_most_trans m (value a) (value b) k (le→AtMostℚ a b A B (g tt)))

-- the converses of lies-across and lies-upright
pub from_across : (p : Exact) (a b : Point) → Finite a → Finite b → T (level a b) → Lies (across a b) p.y p.x → OnSegment p (exact a) (exact b)
from_across p a b A B t h =
    on_across p (exact a) (exact b) (eq→Sameℚ a.y b.y A.y B.y t) h.on (span_between a.x b.x p.x A.x B.x h.from h.to)

pub from_upright : (p : Exact) (a b : Point) → Finite a → Finite b → T (eq a.x b.x) → Lies (upright a b) p.x p.y → OnSegment p (exact a) (exact b)
from_upright p a b A B t h =
    on_upright p (exact a) (exact b) (eq→Sameℚ a.x b.x A.x B.x t) h.on (span_between a.y b.y p.y A.y B.y h.from h.to)
