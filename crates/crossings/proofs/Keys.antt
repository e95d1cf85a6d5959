-- The keys of places are in the order of y, then x. Assumes nothing.
use Rattle.std.specs.Prelude.{◌≡◌, ◌⊎◌, ℕ, zero, suc, ◌+◌, ◌*◌, ◌^◌, ◌≤◌, ◌<◌, Bool, ◌&&◌, ◌||◌, cond, ltb, Float}
use Rattle.std.proofs.Math.Path.{refl, subst}
use Rattle.std.proofs.Common.{sym, ◌∙◌, inl, inr, mul-pos, zero-lt-suc, arith, true≢false, ltb→lt, nltb→le}
use Rattle.std.proofs.Math.Bool.{true, false, not}
use Rattle.std.proofs.Math.Dec.{T}
use Rattle.std.specs.Float.{nan, inf, fin}
use Rattle.std.specs.Float.Ieee.{up, lt, eq, fits}
use Rattle.std.specs.Float.Ieee.Positive.{den, den_pos}
use Rattle.std.specs.Float.Ieee.Scale.{finite}
use Rattle.binary64.specs.Accepted.{zero64, plus_zero}
use Rattle.binary64.specs.Order.{total_key}
use Rattle.binary64.specs.Value.{le_refl_finite, le_antisymm_finite, eq→same, same→eq}
use Rattle.binary64.proofs.Total.{negative, before, key→before, total_key_injective}
use Rattle.binary64.specs.Rational.{value}
use Rattle.binary64.proofs.Fraction.{eq→Sameℚ, Sameℚ→eq, lt→Belowℚ, Belowℚ→lt}
use Rattle.exact.proofs.Between.{same_trans, same→at_most, same→at_least, below_at_most, at_most_below}
use Rattle.sorting.proofs.Keys.{total_key_below}
use Rattle.geometry.specs.declared.Point.{Point}
use Rattle.search.specs.Good.{Real}
use Rattle.place_order.specs.Order.{place_key}
use Rattle.crossings.specs.Words.{Above, by_y, by_x, Level}

pub record RealPoint (p : Point) : Type 0 where
  pub x : Real p.x
  pub y : Real p.y

-- ---- one number
zero_real : Real zero64
unfolding fits
zero_real = (tt, tt)

plus_zero_real : (x : Float) → Real x → Real (plus_zero x)
unfolding plus_zero
plus_zero_real x r = go (eq x zero64)
  where
    go : (t : Bool) → Real (cond t zero64 x)
    go true = zero_real
    go false = r

same_eq : (x : Float) → T (finite x) → T (eq x x)
same_eq x f = le_antisymm_finite x x f f (le_refl_finite x f) (le_refl_finite x f)

eq_sym : (x y : Float) → T (finite x) → T (finite y) → T (eq x y) → T (eq y x)
eq_sym x y f g e = Sameℚ→eq y x g f (sym (eq→Sameℚ x y f g e))

eq_trans : (x y z : Float) → T (finite x) → T (finite y) → T (finite z) → T (eq x y) → T (eq y z) → T (eq x z)
eq_trans x y z f g h d e = Sameℚ→eq x z f h (same_trans (value x) (value y) (value z) (eq→Sameℚ x y f g d) (eq→Sameℚ y z g h e))

plus_zero_eq : (x : Float) → T (finite x) → T (eq (plus_zero x) x)
unfolding plus_zero
plus_zero_eq x f = go (eq x zero64) refl
  where
    go : (t : Bool) → eq x zero64 ≡ t → T (eq (cond t zero64 x) x)
    go true e = eq_sym x zero64 f tt (subst T (sym e) tt)
    go false e = same_eq x f

-- equal, and only the first negative: both are 0
no_part : (n d : ℕ) → 0 < d → n * d ≡ 0 → n ≡ 0
no_part zero d h e = refl
no_part (suc n) d h e = let k = mul-pos (zero-lt-suc n) h in absurd (omega arith)

both_zero : (x y : Float) → T (finite x) → T (finite y) → negative x ≡ true → negative y ≡ false → T (eq x y) → T (eq x zero64)
both_zero nan y f g n m e = absurd f
both_zero (inf s) y f g n m e = absurd f
both_zero (fin false i a) nan f g n m e = absurd g
both_zero (fin false i a) (inf t) f g n m e = absurd g
both_zero (fin true i a) nan f g n m e = absurd g
both_zero (fin true i a) (inf t) f g n m e = absurd g
both_zero (fin true i a) (fin false j b) f g n m e =
    let h = eq→same (fin true i a) (fin false j b) tt tt e in
    let z : i * up a ≡ 0 = no_part (i * up a) (den (fin false j b)) (den_pos (fin false j b)) (omega arith) in
    same→eq (fin true i a) zero64 tt tt (omega (arith, z))
both_zero (fin true i a) (fin true j b) f g n m e = absurd (true≢false (unfold negative in m))
both_zero (fin false i a) (fin t j b) f g n m e = absurd (true≢false (sym (unfold negative in n)))

-- a plus-zero number that is negative is not 0
plus_zero_negative : (x : Float) → negative (plus_zero x) ≡ true → (eq x zero64 ≡ false) × (plus_zero x ≡ x)
unfolding plus_zero
plus_zero_negative x n = go (eq x zero64) refl n
  where
    go : (t : Bool) → eq x zero64 ≡ t → negative (cond t zero64 x) ≡ true → (eq x zero64 ≡ false) × (cond t zero64 x ≡ x)
    go true e n = absurd (true≢false (sym (unfold negative in n)))
    go false e n = (e, refl)

-- ---- keys in order are numbers in order
pub key_lower : (x y : Float) → Real x → Real y → total_key (plus_zero x) < total_key (plus_zero y) → T (lt x y)
key_lower x y r s h =
    let p = plus_zero x in
    let q = plus_zero y in
    let R = plus_zero_real x r in
    let S = plus_zero_real y s in
    let b : T (before p q) = key→before p q R.0 S.0 R.1 S.1 h in
    Belowℚ→lt x y r.0 s.0
    (below_at_most (value x) (value q) (value y)
    (at_most_below (value x) (value p) (value q) (same→at_least (value p) (value x) (eq→Sameℚ p x R.0 r.0 (plus_zero_eq x r.0))) (lt→Belowℚ p q R.0 S.0 (go (lt p q) (eq p q) (negative p) (negative q) refl refl refl refl (unfold before in b))))
    (same→at_most (value q) (value y) (eq→Sameℚ q y S.0 s.0 (plus_zero_eq y s.0))))
  where
    go : (l e n m : Bool) → lt (plus_zero x) (plus_zero y) ≡ l → eq (plus_zero x) (plus_zero y) ≡ e → negative (plus_zero x) ≡ n → negative (plus_zero y) ≡ m → T (l || (e && (n && not m))) → T (lt (plus_zero x) (plus_zero y))
    go true e n m i j k o t = subst T (sym i) tt
    go false true true false i j k o t =
        let z = plus_zero_negative x k in
        let c : T (eq (plus_zero x) zero64) = both_zero (plus_zero x) (plus_zero y) (plus_zero_real x r).0 (plus_zero_real y s).0 k o (subst T (sym j) tt) in
        absurd (true≢false (sym (T_is (eq x zero64) (subst (λ (w : Float). T (eq w zero64)) z.1 c)) ∙ z.0))
      where
        T_is : (b : Bool) → T b → b ≡ true
        T_is true t = refl
        T_is false t = absurd t
    go false true true true i j k o t = absurd t
    go false true false m i j k o t = absurd t
    go false false n m i j k o t = absurd t

pub key_equal : (x y : Float) → Real x → Real y → total_key (plus_zero x) ≡ total_key (plus_zero y) → T (eq x y)
key_equal x y r s h =
    let p = plus_zero x in
    let q = plus_zero y in
    let R = plus_zero_real x r in
    let S = plus_zero_real y s in
    let e : p ≡ q = total_key_injective p q R.1 S.1 h in
    eq_trans x p y r.0 R.0 s.0 (eq_sym p x R.0 r.0 (plus_zero_eq x r.0)) (subst (λ (w : Float). T (eq w y)) (sym e) (plus_zero_eq y s.0))

pub key_small : (x : Float) → Real x → total_key (plus_zero x) < 2 ^ 64
key_small x r = total_key_below (plus_zero x) (plus_zero_real x r).1

-- ---- two numbers, the first one first
first_differs : (a b c d : ℕ) → b < 2 ^ 64 → d < 2 ^ 64 → 2 ^ 64 * a + b < 2 ^ 64 * c + d → (a < c) ⊎ ((a ≡ c) × (b < d))
first_differs a b c d h k l = go (ltb a c) (ltb→lt a c) (nltb→le a c)
  where
    go : (t : Bool) → (T t → a < c) → (T (not t) → c ≤ a) → (a < c) ⊎ ((a ≡ c) × (b < d))
    go true f g = inl (f tt)
    go false f g = let i = g tt in inr (omega arith, omega arith)

both_same : (a b c d : ℕ) → b < 2 ^ 64 → d < 2 ^ 64 → 2 ^ 64 * a + b ≡ 2 ^ 64 * c + d → (a ≡ c) × (b ≡ d)
both_same a b c d h k e = let i : a ≡ c = omega arith in (i, omega arith)

pub place_below : (p q : Point) → RealPoint p → RealPoint q → place_key p < place_key q → Above p q
place_below p q P Q h = go (first_differs (total_key (plus_zero p.y)) (total_key (plus_zero p.x)) (total_key (plus_zero q.y)) (total_key (plus_zero q.x)) (key_small p.x P.x) (key_small q.x Q.x) h)
  where
    go : (total_key (plus_zero p.y) < total_key (plus_zero q.y)) ⊎ ((total_key (plus_zero p.y) ≡ total_key (plus_zero q.y)) × (total_key (plus_zero p.x) < total_key (plus_zero q.x))) → Above p q
    go (inl l) = by_y (key_lower p.y q.y P.y Q.y l)
    go (inr (e, l)) = by_x (key_equal p.y q.y P.y Q.y e) (key_lower p.x q.x P.x Q.x l)

pub place_level : (p q : Point) → RealPoint p → RealPoint q → place_key p ≡ place_key q → Level p q
place_level p q P Q h =
    let e = both_same (total_key (plus_zero p.y)) (total_key (plus_zero p.x)) (total_key (plus_zero q.y)) (total_key (plus_zero q.x)) (key_small p.x P.x) (key_small q.x Q.x) h in
    record { y = key_equal p.y q.y P.y Q.y e.0; x = key_equal p.x q.x P.x Q.x e.1 }
