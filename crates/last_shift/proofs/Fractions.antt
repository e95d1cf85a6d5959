-- Sums and differences of exact fractions: what a shift keeps. Assumes nothing.
use Rattle.std.specs.Prelude.{◌≡◌, ℕ, suc, ◌+◌, ◌*◌, ◌≤◌, ℤ, pos, negsuc, ◌*ℤ◌}
use Rattle.std.proofs.Common.{sym, ap, ◌∙◌, inl, inr, mul_comm, mul_assoc, mul_left_comm, mul_right_comm, add-mul, mul-le-mul_right, arith}
use Rattle.binary64.specs.Rational.{plus, less, Fraction, cross, AtMostℚ, Belowℚ, Sameℚ}
use Rattle.binary64.specs.Integers.{by_parts, add_parts, sub_parts_ℤ, neg_plus, neg_less}
use Rattle.binary64.proofs.Fraction.{cross_plus, cross_less, at_most_trans}
use Rattle.exact.specs.Exact.{plusℚ, minusℚ, timesℚ, on_the_way}
use Rattle.exact.proofs.Between.{same_trans, same→at_most, same→at_least, at_most_or_below, below_not}

-- ---- a fraction is (plus - less) / denominator
abbrev pub P : Fraction → ℕ
P p = plus p.numerator

abbrev pub L : Fraction → ℕ
L p = less p.numerator

abbrev pub D : Fraction → ℕ
D p = p.denominator

pub same_out : (p q : Fraction) → Sameℚ p q → P p * D q + L q * D p ≡ P q * D p + L p * D q
same_out p q e = omega (arith, ap plus e, ap less e, cross_plus p q, cross_less p q, cross_plus q p, cross_less q p)

pub same_in : (p q : Fraction) → P p * D q + L q * D p ≡ P q * D p + L p * D q → Sameℚ p q
same_in p q h = by_parts (cross p q) (cross q p) (omega (arith, cross_plus p q, cross_less p q, cross_plus q p, cross_less q p))

pub sum_parts : (p q : Fraction) → P (plusℚ p q) + (L p * D q + L q * D p) ≡ P p * D q + P q * D p + L (plusℚ p q)
sum_parts p q = omega (arith, add_parts (cross p q) (cross q p), cross_plus p q, cross_less p q, cross_plus q p, cross_less q p)

pub difference_parts : (p q : Fraction) → P (minusℚ p q) + (L p * D q + P q * D p) ≡ P p * D q + L q * D p + L (minusℚ p q)
difference_parts p q = omega (arith, sub_parts_ℤ (cross p q) (cross q p), cross_plus p q, cross_less p q, cross_plus q p, cross_less q p)

times_parts : (a b : ℤ) → plus (a *ℤ b) + (plus a * less b + less a * plus b) ≡ plus a * plus b + less a * less b + less (a *ℤ b)
times_parts (pos a) (pos b) = omega arith
times_parts (pos a) (negsuc b) = omega (arith, neg_plus (pos (a * suc b)), neg_less (pos (a * suc b)))
times_parts (negsuc a) (pos b) = omega (arith, neg_plus (pos (suc a * b)), neg_less (pos (suc a * b)))
times_parts (negsuc a) (negsuc b) = omega arith

-- ---- equal for equal
sums : (pp lp dp pp' lp' dp' pq lq dq ps ls ps' ls' : ℕ)
    → ps + (lp * dq + lq * dp) ≡ pp * dq + pq * dp + ls → ps' + (lp' * dq + lq * dp') ≡ pp' * dq + pq * dp' + ls' → pp * dp' + lp' * dp ≡ pp' * dp + lp * dp'
    → ps * (dp' * dq) + ls' * (dp * dq) ≡ ps' * (dp * dq) + ls * (dp' * dq)
sums pp lp dp pp' lp' dp' pq lq dq ps ls ps' ls' s s' e =
    let a = simp (add-mul, mul_assoc, mul_comm, mul_left_comm) at (ap (λ (w : ℕ). w * (dp' * dq)) s) in
    let b = simp (add-mul, mul_assoc, mul_comm, mul_left_comm) at (ap (λ (w : ℕ). w * (dp * dq)) s') in
    let c = simp (add-mul, mul_assoc, mul_comm, mul_left_comm) at (ap (λ (w : ℕ). w * (dq * dq)) e) in
    simp (mul_comm, mul_left_comm) (omega arith)

pub plus_left : (p p' q : Fraction) → Sameℚ p p' → Sameℚ (plusℚ p q) (plusℚ p' q)
plus_left p p' q e =
    same_in (plusℚ p q) (plusℚ p' q)
    (sums (P p) (L p) (D p) (P p') (L p') (D p') (P q) (L q) (D q) (P (plusℚ p q)) (L (plusℚ p q)) (P (plusℚ p' q)) (L (plusℚ p' q)) (sum_parts p q) (sum_parts p' q) (same_out p p' e))

pub minus_left : (p p' q : Fraction) → Sameℚ p p' → Sameℚ (minusℚ p q) (minusℚ p' q)
minus_left p p' q e =
    same_in (minusℚ p q) (minusℚ p' q)
    (sums (P p) (L p) (D p) (P p') (L p') (D p') (L q) (P q) (D q) (P (minusℚ p q)) (L (minusℚ p q)) (P (minusℚ p' q)) (L (minusℚ p' q)) (difference_parts p q) (difference_parts p' q) (same_out p p' e))

pub plus_swap : (p q : Fraction) → Sameℚ (plusℚ p q) (plusℚ q p)
plus_swap p q =
    same_in (plusℚ p q) (plusℚ q p) (go (P p) (L p) (D p) (P q) (L q) (D q) (P (plusℚ p q)) (L (plusℚ p q)) (P (plusℚ q p)) (L (plusℚ q p)) (sum_parts p q) (sum_parts q p))
  where
    go : (pp lp dp pq lq dq ps ls ps' ls' : ℕ) → ps + (lp * dq + lq * dp) ≡ pp * dq + pq * dp + ls → ps' + (lq * dp + lp * dq) ≡ pq * dp + pp * dq + ls'
        → ps * (dq * dp) + ls' * (dp * dq) ≡ ps' * (dp * dq) + ls * (dq * dp)
    go pp lp dp pq lq dq ps ls ps' ls' s s' =
        let a = simp (add-mul, mul_assoc, mul_comm, mul_left_comm) at (ap (λ (w : ℕ). w * (dp * dq)) s) in
        let b = simp (add-mul, mul_assoc, mul_comm, mul_left_comm) at (ap (λ (w : ℕ). w * (dp * dq)) s') in
        simp (mul_comm, mul_left_comm) (omega arith)

pub plus_right : (p q q' : Fraction) → Sameℚ q q' → Sameℚ (plusℚ p q) (plusℚ p q')
plus_right p q q' e = same_trans (plusℚ p q) (plusℚ q p) (plusℚ p q') (plus_swap p q) (same_trans (plusℚ q p) (plusℚ q' p) (plusℚ p q') (plus_left q q' p e) (plus_swap q' p))

-- p - q and q - p
turned : (p q r s : Fraction) → Sameℚ (minusℚ p q) (minusℚ r s) → Sameℚ (minusℚ q p) (minusℚ s r)
turned p q r s e =
    same_in (minusℚ q p) (minusℚ s r)
    (go (P p) (L p) (D p) (P q) (L q) (D q) (P r) (L r) (D r) (P s) (L s) (D s) (P (minusℚ p q)) (L (minusℚ p q)) (P (minusℚ q p)) (L (minusℚ q p)) (P (minusℚ r s)) (L (minusℚ r s)) (P (minusℚ s r)) (L (minusℚ s r))
    (difference_parts p q) (difference_parts q p) (difference_parts r s) (difference_parts s r) (same_out (minusℚ p q) (minusℚ r s) e))
  where
    flip : (x x' l l' a b : ℕ) → x + a ≡ b + l → x' + b ≡ a + l' → x + x' ≡ l + l'
    flip x x' l l' a b h k = omega arith

    go : (pp lp dp pq lq dq pr lr dr ps ls ds x l x' l' y m y' m' : ℕ) → x + (lp * dq + pq * dp) ≡ pp * dq + lq * dp + l → x' + (lq * dp + pp * dq) ≡ pq * dp + lp * dq + l'
        → y + (lr * ds + ps * dr) ≡ pr * ds + ls * dr + m → y' + (ls * dr + pr * ds) ≡ ps * dr + lr * ds + m'
        → x * (dr * ds) + m * (dp * dq) ≡ y * (dp * dq) + l * (dr * ds) → x' * (ds * dr) + m' * (dq * dp) ≡ y' * (dq * dp) + l' * (ds * dr)
    go pp lp dp pq lq dq pr lr dr ps ls ds x l x' l' y m y' m' s s' t t' e =
        let f = simp (add-mul, mul_comm, mul_left_comm) at (ap (λ (w : ℕ). w * (dr * ds)) (flip x x' l l' (lp * dq + pq * dp) (pp * dq + lq * dp) s (omega arith))) in
        let g = simp (add-mul, mul_comm, mul_left_comm) at (ap (λ (w : ℕ). w * (dp * dq)) (flip y y' m m' (lr * ds + ps * dr) (pr * ds + ls * dr) t (omega arith))) in
        let h = simp (mul_comm, mul_left_comm) at e in
        simp (mul_comm, mul_left_comm) (omega arith)

pub minus_right : (p q q' : Fraction) → Sameℚ q q' → Sameℚ (minusℚ p q) (minusℚ p q')
minus_right p q q' e = turned q p q' p (minus_left q q' p e)

products : (pt lt dt pp lp dp pq lq dq x l y m : ℕ) → x + (pt * lp + lt * pp) ≡ pt * pp + lt * lp + l → y + (pt * lq + lt * pq) ≡ pt * pq + lt * lq + m → pp * dq + lq * dp ≡ pq * dp + lp * dq
    → x * (dt * dq) + m * (dt * dp) ≡ y * (dt * dp) + l * (dt * dq)
products pt lt dt pp lp dp pq lq dq x l y m s s' e =
    let a = simp (add-mul, mul_assoc, mul_comm, mul_left_comm) at (ap (λ (w : ℕ). w * (dt * dq)) s) in
    let b = simp (add-mul, mul_assoc, mul_comm, mul_left_comm) at (ap (λ (w : ℕ). w * (dt * dp)) s') in
    let c = simp (add-mul, mul_assoc, mul_comm, mul_left_comm) at (ap (λ (w : ℕ). w * (pt * dt)) e) in
    let d = simp (add-mul, mul_assoc, mul_comm, mul_left_comm) at (ap (λ (w : ℕ). w * (lt * dt)) e) in
    simp (mul_comm, mul_left_comm) (omega arith)

pub times_right : (t p q : Fraction) → Sameℚ p q → Sameℚ (timesℚ t p) (timesℚ t q)
times_right t p q e =
    same_in (timesℚ t p) (timesℚ t q)
    (products (P t) (L t) (D t) (P p) (L p) (D p) (P q) (L q) (D q) (P (timesℚ t p)) (L (timesℚ t p)) (P (timesℚ t q)) (L (timesℚ t q)) (times_parts t.numerator p.numerator) (times_parts t.numerator q.numerator) (same_out p q e))

-- ---- a shift there and back
-- (a - o) + o is a
pub back : (a o : Fraction) → Sameℚ (plusℚ (minusℚ a o) o) a
back a o =
    same_in (plusℚ (minusℚ a o) o) a
    (go (P a) (L a) (D a) (P o) (L o) (D o) (P (minusℚ a o)) (L (minusℚ a o)) (P (plusℚ (minusℚ a o) o)) (L (plusℚ (minusℚ a o) o)) (difference_parts a o) (sum_parts (minusℚ a o) o))
  where
    go : (pa la da po lo od x l y m : ℕ) → x + (la * od + po * da) ≡ pa * od + lo * da + l → y + (l * od + lo * (da * od)) ≡ x * od + po * (da * od) + m → y * da + la * (da * od * od) ≡ pa * (da * od * od) + m * da
    go pa la da po lo od x l y m s t =
        let a = simp (add-mul, mul_assoc, mul_comm, mul_left_comm) at (ap (λ (w : ℕ). w * (da * od)) s) in
        let b = simp (add-mul, mul_assoc, mul_comm, mul_left_comm) at (ap (λ (w : ℕ). w * da) t) in
        simp (mul_assoc, mul_comm, mul_left_comm) (omega arith)

-- (p + o) - o is p
pub forth : (p o : Fraction) → Sameℚ (minusℚ (plusℚ p o) o) p
forth p o =
    same_in (minusℚ (plusℚ p o) o) p
    (go (P p) (L p) (D p) (P o) (L o) (D o) (P (plusℚ p o)) (L (plusℚ p o)) (P (minusℚ (plusℚ p o) o)) (L (minusℚ (plusℚ p o) o)) (sum_parts p o) (difference_parts (plusℚ p o) o))
  where
    go : (pa la da po lo od x l y m : ℕ) → x + (la * od + lo * da) ≡ pa * od + po * da + l → y + (l * od + po * (da * od)) ≡ x * od + lo * (da * od) + m → y * da + la * (da * od * od) ≡ pa * (da * od * od) + m * da
    go pa la da po lo od x l y m s t =
        let a = simp (add-mul, mul_assoc, mul_comm, mul_left_comm) at (ap (λ (w : ℕ). w * (da * od)) s) in
        let b = simp (add-mul, mul_assoc, mul_comm, mul_left_comm) at (ap (λ (w : ℕ). w * da) t) in
        simp (mul_assoc, mul_comm, mul_left_comm) (omega arith)

-- a common denominator in two forms
scaled : (y m y' m' j k : ℕ) → j ≡ k → y + m' ≡ y' + m → y * k + m' * j ≡ y' * j + m * k
scaled y m y' m' j k e h = rw e (sym (add-mul y m' k) ∙ ap (λ (w : ℕ). w * k) h ∙ add-mul y' m k)

-- ((a + w) + o) is ((a + o) + w)
pub plus_exchange : (a w o : Fraction) → Sameℚ (plusℚ (plusℚ a w) o) (plusℚ (plusℚ a o) w)
plus_exchange a w o =
    same_in (plusℚ (plusℚ a w) o) (plusℚ (plusℚ a o) w)
    (go (P a) (L a) (D a) (P w) (L w) (D w) (P o) (L o) (D o) (P (plusℚ a w)) (L (plusℚ a w)) (P (plusℚ a o)) (L (plusℚ a o)) (P (plusℚ (plusℚ a w) o)) (L (plusℚ (plusℚ a w) o)) (P (plusℚ (plusℚ a o) w)) (L (plusℚ (plusℚ a o) w))
    (sum_parts a w) (sum_parts a o) (sum_parts (plusℚ a w) o) (sum_parts (plusℚ a o) w))
  where
    go : (pa la da pw lw dw po lo od x l x' l' y m y' m' : ℕ)
        → x + (la * dw + lw * da) ≡ pa * dw + pw * da + l → x' + (la * od + lo * da) ≡ pa * od + po * da + l'
        → y + (l * od + lo * (da * dw)) ≡ x * od + po * (da * dw) + m → y' + (l' * dw + lw * (da * od)) ≡ x' * dw + pw * (da * od) + m'
        → y * (da * od * dw) + m' * (da * dw * od) ≡ y' * (da * dw * od) + m * (da * od * dw)
    go pa la da pw lw dw po lo od x l x' l' y m y' m' s s' t t' =
        let a = simp (add-mul, mul_assoc, mul_comm, mul_left_comm) at (ap (λ (w : ℕ). w * od) s) in
        let b = simp (add-mul, mul_assoc, mul_comm, mul_left_comm) at (ap (λ (w : ℕ). w * dw) s') in
        let c = simp (mul_assoc, mul_comm, mul_left_comm) at t in
        let d = simp (mul_assoc, mul_comm, mul_left_comm) at t' in
        scaled y m y' m' (da * dw * od) (da * od * dw) (mul_right_comm da dw od) (omega arith)

-- x - (p + o) is (x - o) - p
pub minus_sum : (x p o : Fraction) → Sameℚ (minusℚ (minusℚ x o) p) (minusℚ x (plusℚ p o))
minus_sum x p o =
    same_in (minusℚ (minusℚ x o) p) (minusℚ x (plusℚ p o))
    (go (P x) (L x) (D x) (P p) (L p) (D p) (P o) (L o) (D o) (P (minusℚ x o)) (L (minusℚ x o)) (P (plusℚ p o)) (L (plusℚ p o)) (P (minusℚ (minusℚ x o) p)) (L (minusℚ (minusℚ x o) p)) (P (minusℚ x (plusℚ p o))) (L (minusℚ x (plusℚ p o)))
    (difference_parts x o) (sum_parts p o) (difference_parts (minusℚ x o) p) (difference_parts x (plusℚ p o)))
  where
    go : (px lx dx pp lp dp po lo od a b a' b' y m y' m' : ℕ)
        → a + (lx * od + po * dx) ≡ px * od + lo * dx + b → a' + (lp * od + lo * dp) ≡ pp * od + po * dp + b'
        → y + (b * dp + pp * (dx * od)) ≡ a * dp + lp * (dx * od) + m → y' + (lx * (dp * od) + a' * dx) ≡ px * (dp * od) + b' * dx + m'
        → y * (dx * (dp * od)) + m' * (dx * od * dp) ≡ y' * (dx * od * dp) + m * (dx * (dp * od))
    go px lx dx pp lp dp po lo od a b a' b' y m y' m' s s' t t' =
        let e = simp (add-mul, mul_assoc, mul_comm, mul_left_comm) at (ap (λ (w : ℕ). w * dp) s) in
        let f = simp (add-mul, mul_assoc, mul_comm, mul_left_comm) at (ap (λ (w : ℕ). w * dx) s') in
        let g = simp (mul_assoc, mul_comm, mul_left_comm) at t in
        let h = simp (mul_assoc, mul_comm, mul_left_comm) at t' in
        scaled y m y' m' (dx * od * dp) (dx * (dp * od)) (mul_right_comm dx od dp ∙ mul_assoc dx dp od) (omega arith)

-- ---- numbers that are shifted by o: a' is a - o
abbrev pub By : Fraction → Fraction → Fraction → Type 0
By o a a' = Sameℚ a' (minusℚ a o)

pub by_same : (o a a' b b' : Fraction) → By o a a' → By o b b' → Sameℚ a b → Sameℚ a' b'
by_same o a a' b b' x y e = same_trans a' (minusℚ a o) b' x (same_trans (minusℚ a o) (minusℚ b o) b' (minus_left a b o e) (sym y))

pub by_back : (o a a' : Fraction) → By o a a' → Sameℚ (plusℚ a' o) a
by_back o a a' x = same_trans (plusℚ a' o) (plusℚ (minusℚ a o) o) a (plus_left a' (minusℚ a o) o x) (back a o)

pub same_by : (o a a' b b' : Fraction) → By o a a' → By o b b' → Sameℚ a' b' → Sameℚ a b
same_by o a a' b b' x y e = same_trans a (plusℚ a' o) b (sym (by_back o a a' x)) (same_trans (plusℚ a' o) (plusℚ b' o) b (plus_left a' b' o e) (by_back o b b' y))

pub plus_cancel : (p q o : Fraction) → Sameℚ (plusℚ p o) (plusℚ q o) → Sameℚ p q
plus_cancel p q o e = same_trans p (minusℚ (plusℚ p o) o) q (sym (forth p o)) (same_trans (minusℚ (plusℚ p o) o) (minusℚ (plusℚ q o) o) q (minus_left (plusℚ p o) (plusℚ q o) o e) (forth q o))

-- b' - a' is b - a
pub by_difference : (o a a' b b' : Fraction) → By o a a' → By o b b' → Sameℚ (minusℚ b' a') (minusℚ b a)
by_difference o a a' b b' x y =
    same_trans (minusℚ b' a') (minusℚ (minusℚ b o) a') (minusℚ b a) (minus_left b' (minusℚ b o) a' y)
    (same_trans (minusℚ (minusℚ b o) a') (minusℚ b (plusℚ a' o)) (minusℚ b a) (minus_sum b a' o) (minus_right b (plusℚ a' o) a (by_back o a a' x)))

-- a point of the shifted segment, shifted back
pub by_way : (o t a a' b b' p : Fraction) → By o a a' → By o b b' → Sameℚ p (on_the_way t a' b') → Sameℚ (plusℚ p o) (on_the_way t a b)
by_way o t a a' b b' p x y e =
    let w' = timesℚ t (minusℚ b' a') in
    let w = timesℚ t (minusℚ b a) in
    same_trans (plusℚ p o) (plusℚ (plusℚ a' w') o) (plusℚ a w) (plus_left p (plusℚ a' w') o e)
    (same_trans (plusℚ (plusℚ a' w') o) (plusℚ (plusℚ a' o) w') (plusℚ a w) (plus_exchange a' w' o)
    (same_trans (plusℚ (plusℚ a' o) w') (plusℚ a w') (plusℚ a w) (plus_left (plusℚ a' o) a w' (by_back o a a' x))
    (plus_right a w' w (times_right t (minusℚ b' a') (minusℚ b a) (by_difference o a a' b b' x y)))))

-- ---- the order
orders : (pp lp dp pq lq dq po lo od x l y m : ℕ) → x + (lp * od + po * dp) ≡ pp * od + lo * dp + l → y + (lq * od + po * dq) ≡ pq * od + lo * dq + m → pp * dq + lq * dp ≤ pq * dp + lp * dq
    → x * (dq * od) + m * (dp * od) ≤ y * (dp * od) + l * (dq * od)
orders pp lp dp pq lq dq po lo od x l y m s s' e =
    let a = simp (add-mul, mul_assoc, mul_comm, mul_left_comm) at (ap (λ (w : ℕ). w * (dq * od)) s) in
    let b = simp (add-mul, mul_assoc, mul_comm, mul_left_comm) at (ap (λ (w : ℕ). w * (dp * od)) s') in
    let c = simp (add-mul, mul_assoc, mul_comm, mul_left_comm) at (mul-le-mul_right (od * od) e) in
    simp (mul_comm, mul_left_comm) (omega arith)

most_out : (p q : Fraction) → AtMostℚ p q → P p * D q + L q * D p ≤ P q * D p + L p * D q
most_out p q h = omega (arith, cross_plus p q, cross_less p q, cross_plus q p, cross_less q p)

pub most_in : (p q : Fraction) → P p * D q + L q * D p ≤ P q * D p + L p * D q → AtMostℚ p q
most_in p q h = omega (arith, cross_plus p q, cross_less p q, cross_plus q p, cross_less q p)

minus_mono : (p q o : Fraction) → AtMostℚ p q → AtMostℚ (minusℚ p o) (minusℚ q o)
minus_mono p q o h =
    most_in (minusℚ p o) (minusℚ q o)
    (orders (P p) (L p) (D p) (P q) (L q) (D q) (P o) (L o) (D o) (P (minusℚ p o)) (L (minusℚ p o)) (P (minusℚ q o)) (L (minusℚ q o)) (difference_parts p o) (difference_parts q o) (most_out p q h))

pub plus_mono : (p q o : Fraction) → AtMostℚ p q → AtMostℚ (plusℚ p o) (plusℚ q o)
plus_mono p q o h =
    most_in (plusℚ p o) (plusℚ q o)
    (orders (P p) (L p) (D p) (P q) (L q) (D q) (L o) (P o) (D o) (P (plusℚ p o)) (L (plusℚ p o)) (P (plusℚ q o)) (L (plusℚ q o)) (sum_parts p o) (sum_parts q o) (most_out p q h))

pub by_most : (o a a' b b' : Fraction) → By o a a' → By o b b' → AtMostℚ a b → AtMostℚ a' b'
by_most o a a' b b' x y h =
    at_most_trans a' (minusℚ a o) b' (same→at_most a' (minusℚ a o) x) (at_most_trans (minusℚ a o) (minusℚ b o) b' (minus_mono a b o h) (same→at_least b' (minusℚ b o) y))

pub most_by : (o a a' b b' : Fraction) → By o a a' → By o b b' → AtMostℚ a' b' → AtMostℚ a b
most_by o a a' b b' x y h =
    at_most_trans a (plusℚ a' o) b (same→at_least (plusℚ a' o) a (by_back o a a' x)) (at_most_trans (plusℚ a' o) (plusℚ b' o) b (plus_mono a' b' o h) (same→at_most (plusℚ b' o) b (by_back o b b' y)))

pub by_below : (o a a' b b' : Fraction) → By o a a' → By o b b' → Belowℚ a b → Belowℚ a' b'
by_below o a a' b b' x y h = elim (at_most_or_below b' a') [ inl u ↦ absurd (below_not a b h (most_by o b b' a a' y x u)) | inr u ↦ u ]

pub below_by : (o a a' b b' : Fraction) → By o a a' → By o b b' → Belowℚ a' b' → Belowℚ a b
below_by o a a' b b' x y h = elim (at_most_or_below b a) [ inl u ↦ absurd (below_not a' b' h (by_most o b b' a a' y x u)) | inr u ↦ u ]
