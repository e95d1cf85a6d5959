-- The operations and comparisons of binary64 on numbers of the grid: exact where the sizes stay below 2 ^ 53.
-- Assumes nothing.
use Rattle.std.specs.Prelude.{◌≡◌, refl, ℕ, zero, suc, ◌+◌, ◌-◌, ◌*◌, ◌^◌, ◌≤◌, ◌<◌, Bool, true, false, not, ◌&&◌, cond, ℤ, pos, negsuc, nat_abs, neg_ℤ, ◌+ℤ◌, ◌-ℤ◌, ◌*ℤ◌, T, ltb, leb, eqb, Float}
use Rattle.std.proofs.Common.{sym, ap, ◌∙◌, inl, inr, le_of_eq, lt_of_lt_of_le, lt_irrefl, mul-pos, zero-lt-suc, arith, true≢false, ltb→lt, lt→ltb, leb→le, eqb→eq, lit≤}
use Rattle.std.proofs.Math.Nat.{eq_of_mul-eq-mul_right}
use Rattle.std.proofs.Math.IntN.{sub_ℕ}
use Rattle.std.proofs.Math.Dec.{nleb→lt}
use Rattle.std.specs.Float.{nan, inf, fin, binary64}
use Rattle.std.specs.Float.Ieee.{up, down, odd, add, sub, lt, le, eq, ne}
use Rattle.std.specs.Float.Ieee.Fits.{and_r, eq→eqb, up_pos, down_pos}
use Rattle.std.specs.Float.Ieee.Positive.{den, den_pos}
use Rattle.std.specs.Float.Ieee.Scale.{finite}
use Rattle.binary64.specs.Order.{least, greatest, magnitude, total_key}
use Rattle.binary64.specs.Value.{side, same→eq, lt_not_le, le_total_finite, le_antisymm_finite, eq→same}
use Rattle.binary64.proofs.Total.{total_key_injective, negative, before, key→before}
use Rattle.binary64.proofs.Plain.{Plain, add_plain, sub_plain}
use Rattle.binary64.specs.ExactOnGrid.{At}
use Rattle.binary64.specs.Accepted.{minus_zero}
use Rattle.binary64.specs.Rational.{plus, less}
use Rattle.grid.proofs.GridArithmetic.{balance, lt→Belowℤ, Belowℤ→lt}
use Rattle.binary64.specs.Bools.{or_split, as_one}
use Rattle.binary64.specs.ExactOnGrid.{neg_size, add_exact, sub_exact}
use Rattle.grid.specs.On.{on, below, at_most, same, smaller, larger}
use Rattle.grid.proofs.OnLaws.{on_at, on_finite, on_fits, on_plain}

-- ---- comparisons
pub lt_on : (a b : ℤ) → lt (on a) (on b) ≡ below a b
lt_on a b =
    as_one (lt (on a) (on b)) (below a b)
    (λ t. lt→ltb (plus a + less b) (plus b + less a) (lt→Belowℤ 7 (on a) (on b) a b (on_at a) (on_at b) t))
    (λ t. Belowℤ→lt 7 (on a) (on b) a b (on_at a) (on_at b) (ltb→lt (plus a + less b) (plus b + less a) t))

not_both : (p q : ℕ) → p ≤ q → q < p → ⊥
not_both p q h k = omega arith

pub le_on : (a b : ℤ) → le (on a) (on b) ≡ at_most a b
le_on a b = as_one (le (on a) (on b)) (at_most a b) forth back
  where
    decide : (t : Bool) → (T t → plus a + less b ≤ plus b + less a) → (T (not t) → plus b + less a < plus a + less b) → T (le (on a) (on b)) → T t
    decide true f g h = tt
    decide false f g h = absurd (lt_not_le (on b) (on a) (on_finite b) (on_finite a) (Belowℤ→lt 7 (on b) (on a) b a (on_at b) (on_at a) (g tt)) h)

    forth : T (le (on a) (on b)) → T (at_most a b)
    forth h = decide (at_most a b) (leb→le (plus a + less b) (plus b + less a)) (nleb→lt (plus a + less b) (plus b + less a)) h

    back : T (at_most a b) → T (le (on a) (on b))
    back h = elim (le_total_finite (on a) (on b) (on_finite a) (on_finite b)) [
      | inl u ↦ u
      | inr u ↦ absurd (not_both (plus a + less b) (plus b + less a) (leb→le (plus a + less b) (plus b + less a) h) (lt→Belowℤ 7 (on b) (on a) b a (on_at b) (on_at a) u))
    ]

-- two numbers of the format, neither minus zero, that are equal in value are one
negative_zero : (x y : Float) → Plain x → negative x ≡ true → negative y ≡ false → T (eq x y) → ⊥
unfolding negative eq minus_zero
negative_zero nan y p n k h = true≢false (sym n)
negative_zero (inf s) nan p n k h = h
negative_zero (inf true) (inf true) p n k h = true≢false k
negative_zero (inf true) (inf false) p n k h = h
negative_zero (inf false) (inf t) p n k h = true≢false (sym n)
negative_zero (inf s) (fin t m d) p n k h = h
negative_zero (fin s m e) nan p n k h = h
negative_zero (fin s m e) (inf t) p n k h = h
negative_zero (fin false m e) (fin t i d) p n k h = true≢false (sym n)
negative_zero (fin true m e) (fin true i d) p n k h = true≢false k
negative_zero (fin true zero e) (fin false i d) p n k h = true≢false p.0
negative_zero (fin true (suc m) e) (fin false i d) p n k h =
    let a = suc m * up e * down d in
    let b = i * up d * down e in
    lt_irrefl 0 (lt_of_lt_of_le (mul-pos (mul-pos (zero-lt-suc m) (up_pos e)) (down_pos d)) (le_of_eq (eqb→eq a 0 (and_r (eqb a b) (eqb a 0) h))))

not_before : (x y : Float) → T (finite x) → T (finite y) → Plain x → T (le y x) → T (eq x y) → T (before x y) → ⊥
unfolding before
not_before x y f g p k e b = elim (or_split (lt x y) (eq x y && (negative x && not (negative y))) b) [
  | inl u ↦ lt_not_le x y f g u k
  | inr u ↦ signs (negative x) (negative y) refl refl (and_r (eq x y) (negative x && not (negative y)) u)
]
  where
    signs : (s t : Bool) → negative x ≡ s → negative y ≡ t → T (s && not t) → ⊥
    signs true false m n w = negative_zero x y p m n e
    signs true true m n w = w
    signs false t m n w = w

pub one_number : (x y : Float) → T (finite x) → T (finite y) → Plain x → Plain y → T (le x y) → T (le y x) → x ≡ y
one_number x y f g p q h k = total_key_injective x y p.1 q.1 (go (leb (total_key x) (total_key y)) (leb→le (total_key x) (total_key y)) (nleb→lt (total_key x) (total_key y)) (leb (total_key y) (total_key x)) (leb→le (total_key y) (total_key x)) (nleb→lt (total_key y) (total_key x)))
  where
    go : (s : Bool) → (T s → total_key x ≤ total_key y) → (T (not s) → total_key y < total_key x) → (t : Bool) → (T t → total_key y ≤ total_key x) → (T (not t) → total_key x < total_key y) → total_key x ≡ total_key y
    go true a b true c d = let u = a tt in let w = c tt in omega arith
    go true a b false c d = absurd (not_before x y f g p k (le_antisymm_finite x y f g h k) (key→before x y f g p.1 q.1 (d tt)))
    go false a b t c d = absurd (not_before y x g f q h (le_antisymm_finite y x g f k h) (key→before y x g f q.1 p.1 (b tt)))

-- a number of the format with the value z / 128 that is not minus zero is `on z`
pub is_on : (x : Float) (z : ℤ) → nat_abs z ≤ 2 ^ 53 → Plain x → At 7 x z → x ≡ on z
is_on x z s p a = one_number x (on z) a.is_finite (on_finite z) p (on_plain z s) (under x (on z) a (on_at z)) (under (on z) x (on_at z) a)
  where
    under : (x y : Float) → At 7 x z → At 7 y z → T (le x y)
    under x y h k = elim (le_total_finite x y h.is_finite k.is_finite) [
      | inl u ↦ u
      | inr u ↦ absurd (lt_irrefl (plus z + less z) (lt→Belowℤ 7 y x z z k h u))
    ]

pub eq_on : (a b : ℤ) → eq (on a) (on b) ≡ same a b
eq_on a b = as_one (eq (on a) (on b)) (same a b) forth back
  where
    forth : T (eq (on a) (on b)) → T (same a b)
    forth h =
        let e = eq→same (on a) (on b) (on_finite a) (on_finite b) h in
        let k = balance 7 (on a) (on b) a b (on_at a) (on_at b) in
        let m : (plus a + less b) * (den (on a) * den (on b)) ≡ (plus b + less a) * (den (on a) * den (on b)) = same_right (side (on a) (on b)) (side (on b) (on a)) ((plus b + less a) * (den (on a) * den (on b))) ((plus a + less b) * (den (on a) * den (on b))) e k in
        eq→eqb (eq_of_mul-eq-mul_right (den (on a) * den (on b)) (mul-pos (den_pos (on a)) (den_pos (on b))) (plus a + less b) (plus b + less a) m)
      where
        same_right : (l r p q : ℕ) → l ≡ r → l * 2 ^ 7 + p ≡ r * 2 ^ 7 + q → q ≡ p
        same_right l r p q e h = omega arith

    back : T (same a b) → T (eq (on a) (on b))
    back h =
        let e : plus a + less b ≡ plus b + less a = eqb→eq (plus a + less b) (plus b + less a) h in
        let k = balance 7 (on a) (on b) a b (on_at a) (on_at b) in
        let f : (plus a + less b) * (den (on a) * den (on b)) ≡ (plus b + less a) * (den (on a) * den (on b)) = ap (λ (z : ℕ). z * (den (on a) * den (on b))) e in
        same→eq (on a) (on b) (on_finite a) (on_finite b) (same_left (side (on a) (on b)) (side (on b) (on a)) ((plus b + less a) * (den (on a) * den (on b))) ((plus a + less b) * (den (on a) * den (on b))) (sym f) k)
      where
        same_left : (l r p q : ℕ) → p ≡ q → l * 2 ^ 7 + p ≡ r * 2 ^ 7 + q → l ≡ r
        same_left l r p q e h = omega arith

pub ne_on : (a b : ℤ) → ne (on a) (on b) ≡ not (same a b)
unfolding ne
ne_on a b = ap not (eq_on a b)

-- what a test chooses
pub on_cond : (t : Bool) (a b : ℤ) → cond t (on a) (on b) ≡ on (cond t a b)
on_cond true a b = refl
on_cond false a b = refl

pub least_on : (a b : ℤ) → least (on a) (on b) ≡ on (smaller a b)
least_on a b = ap (λ (t : Bool). cond t (on b) (on a)) (lt_on b a) ∙ on_cond (below b a) b a

pub greatest_on : (a b : ℤ) → greatest (on a) (on b) ≡ on (larger a b)
greatest_on a b = ap (λ (t : Bool). cond t (on b) (on a)) (lt_on a b) ∙ on_cond (below a b) b a

-- ---- sizes
sub_size : (a b : ℕ) → nat_abs (sub_ℕ a b) ≤ a + b
sub_size a b = go (ltb a b) (ltb→lt a b)
  where
    go : (t : Bool) → (T t → a < b) → nat_abs (cond t (negsuc (b - suc a)) (pos (a - b))) ≤ a + b
    go true f = let h = f tt in omega arith
    go false f = omega arith

pub add_size : (a b : ℤ) → nat_abs (a +ℤ b) ≤ nat_abs a + nat_abs b
add_size (pos a) (pos b) = omega arith
add_size (pos a) (negsuc b) = sub_size a (suc b)
add_size (negsuc a) (pos b) = let h = sub_size b (suc a) in omega arith
add_size (negsuc a) (negsuc b) = omega arith

pub subtract_size : (a b : ℤ) → nat_abs (a -ℤ b) ≤ nat_abs a + nat_abs b
subtract_size a b = let h = add_size a (neg_ℤ b) in omega (arith, neg_size b)

pub times_size : (a b : ℤ) → nat_abs (a *ℤ b) ≡ nat_abs a * nat_abs b
times_size (pos a) (pos b) = refl
times_size (pos a) (negsuc b) = neg_size (pos (a * suc b))
times_size (negsuc a) (pos b) = neg_size (pos (suc a * b))
times_size (negsuc a) (negsuc b) = refl

-- ---- sums and differences
pub add_on : (a b : ℤ) → nat_abs a + nat_abs b < 2 ^ 53 → add binary64 (on a) (on b) ≡ on (a +ℤ b)
add_on a b h =
    is_on (add binary64 (on a) (on b)) (a +ℤ b) (let k = add_size a b in omega arith)
    (add_plain (on a) (on b) (on_plain a (omega arith)) (on_fits b (omega arith)))
    (add_exact 7 (on a) (on b) a b (lit≤ tt) h (on_at a) (on_at b))

pub sub_on : (a b : ℤ) → nat_abs a + nat_abs b < 2 ^ 53 → sub binary64 (on a) (on b) ≡ on (a -ℤ b)
sub_on a b h =
    is_on (sub binary64 (on a) (on b)) (a -ℤ b) (let k = subtract_size a b in omega arith)
    (sub_plain (on a) (on b) (on_plain a (omega arith)) (on_fits b (omega arith)))
    (sub_exact 7 (on a) (on b) a b (lit≤ tt) h (on_at a) (on_at b))

-- ---- the magnitude
odd_magnitude : (d : ℕ) (s : Bool) (q k l : ℕ) → magnitude (odd d s q k l) ≡ odd d false q k l
unfolding magnitude odd
odd_magnitude d s zero k l = refl
odd_magnitude d s (suc q) k l = refl

pub magnitude_on : (a : ℤ) → magnitude (on a) ≡ on (pos (nat_abs a))
unfolding on
magnitude_on (pos n) = odd_magnitude 54 false n 1067 1074
magnitude_on (negsuc n) = odd_magnitude 54 true (suc n) 1067 1074
