-- A point of a segment lies between its ends in each coordinate. Assumes nothing.
use Rattle.std.specs.Prelude.{◌≡◌, refl, ◌⊎◌, ℕ, suc, ◌+◌, ◌*◌, ◌≤◌, ◌<◌, Bool, true, false, not, ℤ, pos, negsuc, ◌-ℤ◌, ◌*ℤ◌, T, leb}
use Rattle.std.proofs.Common.{sym, ap, ◌∙◌, inl, inr, mul_comm, mul_assoc, mul_left_comm, add-mul, mul-zero, mul-le-mul_right, arith, leb→le}
use Rattle.std.proofs.Math.Dec.{nleb→lt}
use Rattle.binary64.specs.Integers.{add_parts, sub_parts_ℤ, neg_plus, neg_less, mul_pos_plus, mul_pos_less}
use Rattle.binary64.specs.Rational.{plus, less, Fraction, cross, AtMostℚ, Belowℚ, Sameℚ}
use Rattle.binary64.proofs.Fraction.{cross_plus, cross_less, at_most_trans, at_most_antisymm}
use Rattle.exact.specs.Exact.{nought, unit, Exact, on_the_way, OnSegment}

-- ---- the order of fractions
pub at_most_refl : (p : Fraction) → AtMostℚ p p
at_most_refl p = omega arith

pub at_most_or_below : (p q : Fraction) → AtMostℚ p q ⊎ Belowℚ q p
at_most_or_below p q = go (leb l r) (leb→le l r) (nleb→lt l r)
  where
    l : ℕ
    l = plus (cross p q) + less (cross q p)

    r : ℕ
    r = plus (cross q p) + less (cross p q)

    go : (t : Bool) → (T t → l ≤ r) → (T (not t) → r < l) → AtMostℚ p q ⊎ Belowℚ q p
    go true h k = inl (h tt)
    go false h k = inr (k tt)

pub below→at_most : (p q : Fraction) → Belowℚ p q → AtMostℚ p q
below→at_most p q h = omega arith

pub at_most_total : (p q : Fraction) → AtMostℚ p q ⊎ AtMostℚ q p
at_most_total p q = elim (at_most_or_below p q) [ inl u ↦ inl u | inr u ↦ inr (below→at_most q p u) ]

pub same→at_most : (p q : Fraction) → Sameℚ p q → AtMostℚ p q
same→at_most p q e = omega (arith, ap plus e, ap less e)

pub same→at_least : (p q : Fraction) → Sameℚ p q → AtMostℚ q p
same→at_least p q e = omega (arith, ap plus e, ap less e)

pub same_refl : (p : Fraction) → Sameℚ p p
same_refl p = refl

pub same_sym : (p q : Fraction) → Sameℚ p q → Sameℚ q p
same_sym p q e = sym e

pub same_trans : (p q r : Fraction) → Sameℚ p q → Sameℚ q r → Sameℚ p r
same_trans p q r e f =
    at_most_antisymm p r (at_most_trans p q r (same→at_most p q e) (same→at_most q r f)) (at_most_trans r q p (same→at_least q r f) (same→at_least p q e))

pub below_not : (p q : Fraction) → Belowℚ p q → AtMostℚ q p → ⊥
below_not p q h k = omega arith

pub below_at_most : (p q r : Fraction) → Belowℚ p q → AtMostℚ q r → Belowℚ p r
below_at_most p q r h k = elim (at_most_or_below r p) [ inl u ↦ absurd (below_not p q h (at_most_trans q r p k u)) | inr u ↦ u ]

pub at_most_below : (p q r : Fraction) → AtMostℚ p q → Belowℚ q r → Belowℚ p r
at_most_below p q r h k = elim (at_most_or_below r p) [ inl u ↦ absurd (below_not q r k (at_most_trans r p q u h)) | inr u ↦ u ]

-- ---- between two fractions, whichever is the lower
pub data Between (a p b : Fraction) : Type 0 where
  rising : AtMostℚ a p → AtMostℚ p b → Between a p b
  falling : AtMostℚ b p → AtMostℚ p a → Between a p b

pub between_same : (a p q b : Fraction) → Sameℚ p q → Between a q b → Between a p b
between_same a p q b e (rising h k) = rising (at_most_trans a q p h (same→at_least p q e)) (at_most_trans p q b (same→at_most p q e) k)
between_same a p q b e (falling h k) = falling (at_most_trans b q p h (same→at_least p q e)) (at_most_trans p q a (same→at_most p q e) k)

-- the parts of N, the numerator of a + t * (b - a): a is (pa - la) / α, b is (pb - lb) / β, t is n / τ, and b - a is (d - e) / (β * α)
module _ (pa la α pb lb β n τ d e pn ln : ℕ) (N : pn + (la * (τ * (β * α)) + n * e * α) ≡ pa * (τ * (β * α)) + n * d * α + ln) (D : d + (lb * α + pa * β) ≡ pb * α + la * β + e) where
  above_first : e ≡ 0 → pa * (α * (τ * (β * α))) + ln * α ≤ pn * α + la * (α * (τ * (β * α)))
  above_first z =
      let N' = simp (add-mul, mul_assoc, mul_comm, mul_left_comm) at (ap (λ (w : ℕ). w * α) (rw z at N)) in
      simp (mul_comm, mul_left_comm) (omega arith)

  below_second : e ≡ 0 → n ≤ τ → pn * β + lb * (α * (τ * (β * α))) ≤ pb * (α * (τ * (β * α))) + ln * β
  below_second z T =
      let N' = simp (add-mul, mul_assoc, mul_comm, mul_left_comm) at (ap (λ (w : ℕ). w * β) (rw z at N)) in
      let D' = simp (add-mul, mul_assoc, mul_comm, mul_left_comm) at (ap (λ (w : ℕ). w * (τ * (β * α))) (rw z at D)) in
      let T' = simp (mul_comm, mul_left_comm) at (mul-le-mul_right (d * (α * β)) T) in
      simp (mul_comm, mul_left_comm) (omega arith)

  below_first : d ≡ 0 → pn * α + la * (α * (τ * (β * α))) ≤ pa * (α * (τ * (β * α))) + ln * α
  below_first z =
      let N' = simp (add-mul, mul_assoc, mul_comm, mul_left_comm) at (ap (λ (w : ℕ). w * α) (rw z at N)) in
      simp (mul_comm, mul_left_comm) (omega arith)

  above_second : d ≡ 0 → n ≤ τ → pb * (α * (τ * (β * α))) + ln * β ≤ pn * β + lb * (α * (τ * (β * α)))
  above_second z T =
      let N' = simp (add-mul, mul_assoc, mul_comm, mul_left_comm) at (ap (λ (w : ℕ). w * β) (rw z at N)) in
      let D' = simp (add-mul, mul_assoc, mul_comm, mul_left_comm) at (ap (λ (w : ℕ). w * (τ * (β * α))) (rw z at D)) in
      let T' = simp (mul_comm, mul_left_comm) at (mul-le-mul_right (e * (α * β)) T) in
      simp (mul_comm, mul_left_comm) (omega arith)

-- ---- the parts of a product with a number that is not negative
pub times_plus : (n : ℕ) (w : ℤ) → plus (pos n *ℤ w) ≡ n * plus w
times_plus n (pos d) = refl
times_plus n (negsuc d) = neg_plus (pos (n * suc d)) ∙ sym (mul-zero n)

pub times_less : (n : ℕ) (w : ℤ) → less (pos n *ℤ w) ≡ n * less w
times_less n (pos d) = sym (mul-zero n)
times_less n (negsuc d) = neg_less (pos (n * suc d))

pub one_part : (w : ℤ) → (less w ≡ 0) ⊎ (plus w ≡ 0)
one_part (pos n) = inl refl
one_part (negsuc n) = inr refl

-- ---- the parts of a + t * (b - a), for a t that is not negative
abbrev pub ratio : (T : ℤ) (τ : ℕ) → 0 < τ → Fraction
ratio T τ z = record { numerator = T; denominator = τ; above_zero = z }

-- the numerator of b - a
abbrev pub gap : Fraction → Fraction → ℤ
gap a b = b.numerator *ℤ pos a.denominator -ℤ a.numerator *ℤ pos b.denominator

pub gap_parts : (a b : Fraction) → plus (gap a b) + (less b.numerator * a.denominator + plus a.numerator * b.denominator) ≡ plus b.numerator * a.denominator + less a.numerator * b.denominator + less (gap a b)
gap_parts a b = omega (arith, sub_parts_ℤ (cross b a) (cross a b), cross_plus a b, cross_less a b, cross_plus b a, cross_less b a)

pub way_parts : (n τ : ℕ) (z : 0 < τ) (a b : Fraction)
    → plus (on_the_way (ratio (pos n) τ z) a b).numerator + (less a.numerator * (τ * (b.denominator * a.denominator)) + n * less (gap a b) * a.denominator)
    ≡ plus a.numerator * (τ * (b.denominator * a.denominator)) + n * plus (gap a b) * a.denominator + less (on_the_way (ratio (pos n) τ z) a b).numerator
way_parts n τ z a b =
    let α = a.denominator in
    let k = τ * (b.denominator * α) in
    let w = gap a b in
    let M = pos n *ℤ w in
    let mp : plus (M *ℤ pos α) ≡ n * plus w * α = mul_pos_plus M α ∙ ap (λ (v : ℕ). v * α) (times_plus n w) in
    let ml : less (M *ℤ pos α) ≡ n * less w * α = mul_pos_less M α ∙ ap (λ (v : ℕ). v * α) (times_less n w) in
    omega (arith, add_parts (a.numerator *ℤ pos k) (M *ℤ pos α), mul_pos_plus a.numerator k, mul_pos_less a.numerator k)

-- ---- a + t * (b - a) is between a and b
pub on_between : (t a b : Fraction) → AtMostℚ nought t → AtMostℚ t unit → Between a (on_the_way t a b) b
on_between t a b h k = go t.numerator t.denominator t.above_zero h k
  where
    go : (T : ℤ) (τ : ℕ) (z : 0 < τ) → AtMostℚ nought (ratio T τ z) → AtMostℚ (ratio T τ z) unit → Between a (on_the_way (ratio T τ z) a b) b
    go (negsuc n) τ z h k =
        let t = ratio (negsuc n) τ z in
        absurd (omega (arith, cross_less t nought, cross_plus t nought, cross_plus nought t, cross_less nought t))
    go (pos n) τ z h k =
        let t = ratio (pos n) τ z in
        let q = on_the_way t a b in
        let α = a.denominator in
        let β = b.denominator in
        let pa = plus a.numerator in
        let la = less a.numerator in
        let pb = plus b.numerator in
        let lb = less b.numerator in
        let d = plus (gap a b) in
        let e = less (gap a b) in
        let pn = plus q.numerator in
        let ln = less q.numerator in
        let T : n ≤ τ = omega (arith, cross_plus t unit, cross_plus unit t, cross_less t unit, cross_less unit t) in
        let D = gap_parts a b in
        let N = way_parts n τ z a b in
        elim (one_part (gap a b)) [
          | inl z ↦ rising
              (omega (arith, above_first pa la α pb lb β n τ d e pn ln N D z, cross_plus a q, cross_less a q, cross_plus q a, cross_less q a))
              (omega (arith, below_second pa la α pb lb β n τ d e pn ln N D z T, cross_plus b q, cross_less b q, cross_plus q b, cross_less q b))
          | inr z ↦ falling
              (omega (arith, above_second pa la α pb lb β n τ d e pn ln N D z T, cross_plus b q, cross_less b q, cross_plus q b, cross_less q b))
              (omega (arith, below_first pa la α pb lb β n τ d e pn ln N D z, cross_plus a q, cross_less a q, cross_plus q a, cross_less q a))
        ]

-- ---- so a point of a segment is, in each coordinate
pub across_between : {p a b : Exact} → OnSegment p a b → Between a.x p.x b.x
across_between {p} {a} {b} h = between_same a.x p.x (on_the_way h.t a.x b.x) b.x h.x (on_between h.t a.x b.x h.from_0 h.to_1)

pub upright_between : {p a b : Exact} → OnSegment p a b → Between a.y p.y b.y
upright_between {p} {a} {b} h = between_same a.y p.y (on_the_way h.t a.y b.y) b.y h.y (on_between h.t a.y b.y h.from_0 h.to_1)
