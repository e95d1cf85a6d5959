-- What is known of a number that is accepted, and how it is tested.
-- Assumes nothing.
use Rattle.std.specs.Prelude.{◌≡◌, ℕ, zero, suc, ◌*◌, ◌^◌, ◌<◌, Bool, true, not, ◌&&◌, cond, ℤ, pos, T, eqb, Float}
use Rattle.std.proofs.Math.Path.{refl}
use Rattle.std.proofs.Common.{sym, mul-one, one-mul, zero-mul, arith, true≢false}
use Rattle.std.proofs.Math.Bool.{false}
use Rattle.std.proofs.Math.Dec.{eqb-suc-zero}
use Rattle.std.specs.Float.{nan, inf, fin, binary64}
use Rattle.std.specs.Float.Ieee.{up, down, lt, le, eq, fits, is_nan, to_bits}
use Rattle.std.specs.Float.Ieee.Scale.{finite}
use Rattle.binary64.specs.Bools.{all_but}
use Rattle.binary64.specs.Order.{magnitude}
use Rattle.binary64.proofs.Sign.{magnitude_zero, no_exponent}
use Rattle.binary64.specs.Accepted.{zero64, accepted, is_coordinate, minus_zero, plus_zero, two_to}
use Rattle.binary64.specs.Value.{le→at_most}
use Rattle.binary64.specs.Range.{Within}

-- between two finite numbers there are only finite ones
pub finite_between : (low high x : Float) → T (finite low) → T (finite high) → le low x ≡ true → le x high ≡ true → finite x ≡ true
unfolding le lt eq
finite_between nan high x l h a b = absurd l
finite_between (inf s) high x l h a b = absurd l
finite_between (fin s m e) nan x l h a b = absurd h
finite_between (fin s m e) (inf r) x l h a b = absurd h
finite_between (fin s m e) (fin r k d) nan l h a b = a
finite_between (fin s m e) (fin r k d) (inf true) l h a b = a
finite_between (fin s m e) (fin r k d) (inf false) l h a b = b
finite_between (fin s m e) (fin r k d) (fin q j c) l h a b = refl

-- ---- a number that is accepted is within its range
all_four : (a b c d : Bool) → (a && (b && (c && d))) ≡ true → T a × T c × T d
all_four true true true true e = (tt, tt, tt)
all_four true true true false e = absurd (true≢false (sym e))
all_four true true false d e = absurd (true≢false (sym e))
all_four true false c d e = absurd (true≢false (sym e))
all_four false b c d e = absurd (true≢false (sym e))

pub record Between (low high x : Float) : Type 0 where
  pub is_finite : T (finite x)
  pub from : T (le low x)
  pub to : T (le x high)

pub accepted_between : (low high x : Float) → accepted low high x ≡ true → Between low high x
unfolding accepted
accepted_between low high x e =
    let t = all_four (finite x) (not (minus_zero x)) (le low x) (le x high) e in
    record { is_finite = t.0; from = t.1; to = t.2 }

below : (s : Bool) (m : ℕ) (e : ℤ) (k : ℕ) → T (le (fin false m e) (two_to k)) → Within k (fin s m e)
below s m e k h = record {
  is_finite = tt;
  size = let a = le→at_most (fin false m e) (two_to k) tt tt h in omega (arith, mul-one (m * up e), one-mul (2 ^ k));
}

-- between - 2 ^ k and 2 ^ k
pub within : (k : ℕ) (x : Float) → Between (fin true 1 (pos k)) (two_to k) x → Within k x
within k nan b = absurd b.is_finite
within k (inf s) b = absurd b.is_finite
within k (fin false m e) b = below false m e k b.to
within k (fin true m e) b = record {
  is_finite = tt;
  size = let a = le→at_most (fin true 1 (pos k)) (fin true m e) tt tt b.from in omega (arith, mul-one (m * up e), one-mul (2 ^ k));
}

pub coordinate_within : (x : Float) → is_coordinate x ≡ true → Within 30 x
coordinate_within x e = within 30 x (accepted_between (fin true 1 (pos 30)) (two_to 30) x e)

pub up_to_within : (k : ℕ) (x : Float) → accepted zero64 (two_to k) x ≡ true → Within k x
up_to_within k x e = go x (accepted_between zero64 (two_to k) x e)
  where
    go : (x : Float) → Between zero64 (two_to k) x → Within k x
    go nan b = absurd b.is_finite
    go (inf s) b = absurd b.is_finite
    go (fin false m e) b = below false m e k b.to
    go (fin true m e) b = record {
      is_finite = tt;
      size = let a = le→at_most zero64 (fin true m e) tt tt b.from in omega (arith, mul-one (m * up e), zero-mul (down e));
    }

-- ---- how it is tested
pub by_tests : (low high x : Float) → T (finite low) → T (finite high) → accepted low high x ≡ ((le low x && le x high) && not (minus_zero x))
unfolding accepted
by_tests low high x l h = go (le low x) refl (le x high) refl
  where
    go : (p : Bool) → le low x ≡ p → (q : Bool) → le x high ≡ q → (finite x && (not (minus_zero x) && (p && q))) ≡ ((p && q) && not (minus_zero x))
    go true e true f = rw (finite_between low high x l h e f) (swap (not (minus_zero x)))
      where
        swap : (t : Bool) → (t && true) ≡ t
        swap true = refl
        swap false = refl
    go true e false f = (all_but (finite x) (not (minus_zero x)) true).1
    go false e q f = (all_but (finite x) (not (minus_zero x)) q).0

-- ---- minus zero by its pattern
digits : (n : ℕ) (e : ℤ) → 0 < n → fin false 0 (pos 0) ≡ fin false n e → ⊥
digits n e p q = let z : 0 ≡ n = cc in omega arith

pub minus_zero_bits : (x : Float) → T (fits binary64 x) → eq x zero64 ≡ true → not (eqb (to_bits binary64 x) 0) ≡ minus_zero x
unfolding eq fits minus_zero to_bits
minus_zero_bits nan f e = absurd (true≢false (sym e))
minus_zero_bits (inf s) f e = absurd (true≢false (sym e))
minus_zero_bits (fin true zero e) f h = rw (no_exponent e f)
minus_zero_bits (fin false zero e) f h = rw (no_exponent e f)
minus_zero_bits (fin s (suc m) e) f h = absurd (digits (suc m) e (omega arith) (unfold magnitude in magnitude_zero (fin s (suc m) e) f h))

pub minus_zero_other : (x : Float) → eq x zero64 ≡ false → minus_zero x ≡ false
unfolding eq minus_zero
minus_zero_other nan e = refl
minus_zero_other (inf s) e = refl
minus_zero_other (fin false m e) h = refl
minus_zero_other (fin true zero e) h = absurd (true≢false (rw (zero-mul (up e), zero-mul (down e)) at h))
minus_zero_other (fin true (suc m) e) h = eqb-suc-zero m

pub zero_number : (x : Float) → eq x zero64 ≡ true → T (not (is_nan x))
unfolding eq is_nan
zero_number nan e = absurd (true≢false (sym e))
zero_number (inf s) e = tt
zero_number (fin s m d) e = tt

-- ---- minus zero taken as plus zero
pub plus_zero_plain : (x : Float) → minus_zero (plus_zero x) ≡ false
unfolding plus_zero minus_zero
plus_zero_plain x = go (eq x zero64) refl
  where
    go : (b : Bool) → eq x zero64 ≡ b → minus_zero (cond b zero64 x) ≡ false
    go true e = refl
    go false e = minus_zero_other x e

pub plus_zero_fits : (x : Float) → T (fits binary64 x) → T (fits binary64 (plus_zero x))
unfolding plus_zero fits
plus_zero_fits x f = go (eq x zero64)
  where
    go : (b : Bool) → T (fits binary64 (cond b zero64 x))
    go true = tt
    go false = f

pub plus_zero_again : (x : Float) → plus_zero (plus_zero x) ≡ plus_zero x
unfolding plus_zero eq
plus_zero_again x = go (eq x zero64) refl
  where
    go : (b : Bool) → eq x zero64 ≡ b → cond (eq (cond b zero64 x) zero64) zero64 (cond b zero64 x) ≡ cond b zero64 x
    go true e = refl
    go false e = rw e

-- every other number stays
pub plus_zero_other : (x : Float) → T (fits binary64 x) → minus_zero x ≡ false → plus_zero x ≡ x
unfolding plus_zero eq fits minus_zero
plus_zero_other nan f p = refl
plus_zero_other (inf s) f p = refl
plus_zero_other (fin false zero e) f p = rw (no_exponent e f)
plus_zero_other (fin true zero e) f p = absurd (true≢false p)
plus_zero_other (fin s (suc m) e) f p = go (eq (fin s (suc m) e) zero64) refl
  where
    go : (b : Bool) → eq (fin s (suc m) e) zero64 ≡ b → cond b zero64 (fin s (suc m) e) ≡ fin s (suc m) e
    go true h = absurd (digits (suc m) e (omega arith) (unfold magnitude in magnitude_zero (fin s (suc m) e) f h))
    go false h = refl
