-- A whole number z as the number z / 128 of binary64, and what the operations of binary64 give for such numbers: where the sizes stay below 2 ^ 53 nothing is rounded, and comparisons are those of the whole numbers whatever the sizes.
-- Assumes nothing.
use Rattle.std.specs.Prelude.{◌≡◌, refl, ℕ, zero, suc, ◌*◌, ◌^◌, ◌≤◌, ◌<◌, Bool, true, false, ◌&&◌, ℤ, pos, negsuc, nat_abs, T, eqb, Float}
use Rattle.std.proofs.Common.{sym, ap, ◌∙◌, le_of_eq, lt_of_le_of_lt, lt_of_lt_of_le, lt_irrefl, mul_assoc, mul_right_comm, mul-le-mul_right, mul-pos, zero-mul, zero-lt-suc, arith, true≢false, eqb→eq, lit<, pow-add, pow_pos}
use Rattle.std.proofs.Math.Nat.{eq_of_mul-eq-mul_right}
use Rattle.std.specs.Float.{nan, inf, fin, binary64}
use Rattle.std.specs.Float.Ieee.{up, down, odd, fits}
use Rattle.std.specs.Float.Ieee.Exact.{HasValue, odd_sign}
use Rattle.std.specs.Float.Ieee.Fits.{odd-fits, and_r, down_pos}
use Rattle.std.specs.Float.Ieee.Scale.{finite}
use Rattle.binary64.specs.Bools.{is_false}
use Rattle.binary64.proofs.Plain.{Plain}
use Rattle.binary64.specs.ExactOnGrid.{At}
use Rattle.binary64.specs.Accepted.{minus_zero, zero64}
use Rattle.grid.specs.On.{on}

-- ---- its value
fraction : (x : Float) (s : Bool) (q : ℕ) → HasValue x s (q * 2 ^ 1067) (2 ^ 1074) → HasValue x s q 128
fraction nan s q v = v
fraction (inf t) s q v = v
fraction (fin t m e) s q v =
    let p : 2 ^ 1074 ≡ 128 * 2 ^ 1067 = pow-add 2 7 1067 in (
      v.0,
      eq_of_mul-eq-mul_right (2 ^ 1067) (pow_pos 1067) (m * up e * 128) (q * down e)
          (mul_assoc (m * up e) 128 (2 ^ 1067) ∙ ap (λ (k : ℕ). m * up e * k) (sym p) ∙ v.1 ∙ mul_right_comm q (2 ^ 1067) (down e)),
    )

at_positive : (x : Float) (n : ℕ) → HasValue x false n 128 → At 7 x (pos n)
at_positive nan n v = absurd v
at_positive (inf t) n v = absurd v
at_positive (fin true m e) n v = absurd (true≢false v.0)
at_positive (fin false m e) n v = record { is_finite = tt; is = omega (arith, v.1) }

at_negative : (x : Float) (n : ℕ) → HasValue x true (suc n) 128 → At 7 x (negsuc n)
at_negative nan n v = absurd v
at_negative (inf t) n v = absurd v
at_negative (fin false m e) n v = absurd (true≢false (sym v.0))
at_negative (fin true m e) n v = record { is_finite = tt; is = omega (arith, v.1) }

-- exactly z / 128, for every z
pub on_at : (z : ℤ) → At 7 (on z) z
unfolding on
on_at (pos n) = at_positive (odd 54 false n 1067 1074) n (fraction (odd 54 false n 1067 1074) false n (odd_sign 54 false n 1067 1074))
on_at (negsuc n) = at_negative (odd 54 true (suc n) 1067 1074) n (fraction (odd 54 true (suc n) 1067 1074) true (suc n) (odd_sign 54 true (suc n) 1067 1074))

pub on_finite : (z : ℤ) → T (finite (on z))
on_finite z = (on_at z).is_finite

small_units : (q : ℕ) → q ≤ 2 ^ 53 → q * 2 ^ 1067 < 2 ^ 2098
small_units q h = lt_of_le_of_lt (mul-le-mul_right (2 ^ 1067) h) (lit< tt)

-- up to 2 ^ 53 it is a number of binary64
pub on_fits : (z : ℤ) → nat_abs z ≤ 2 ^ 53 → T (fits binary64 (on z))
unfolding on
on_fits (pos n) h = odd-fits binary64 54 false n 1067 (lt_of_le_of_lt h (lit< tt)) h (small_units n h)
on_fits (negsuc n) h = odd-fits binary64 54 true (suc n) 1067 (lt_of_le_of_lt h (lit< tt)) h (small_units (suc n) h)

odd_not_minus : (d : ℕ) (s : Bool) (q k l : ℕ) → 0 < q → minus_zero (odd d s q k l) ≡ false
unfolding odd minus_zero
odd_not_minus d s zero k l h = absurd (lt_irrefl 0 h)
odd_not_minus d s (suc q) k l h = go (odd d s (suc q) k l) (odd_sign d s (suc q) k l)
  where
    nothing : (a b c : ℕ) → 0 < a → a ≡ 0 * b * c → ⊥
    nothing a b c h e = omega (arith, zero-mul b, zero-mul c)

    go : (x : Float) → HasValue x s (suc q * 2 ^ k) (2 ^ l) → minus_zero x ≡ false
    go nan v = absurd v
    go (inf t) v = absurd v
    go (fin t (suc m) e) v = is_false (t && eqb (suc m) 0) (λ (w : T (t && eqb (suc m) 0)). let z = eqb→eq (suc m) 0 (and_r t (eqb (suc m) 0) w) in absurd (omega arith))
    go (fin t zero e) v = absurd (lt_irrefl 0 (lt_of_lt_of_le (mul-pos (mul-pos (zero-lt-suc q) (pow_pos k)) (down_pos e)) (le_of_eq (sym v.1 ∙ ap (λ (i : ℕ). i * 2 ^ l) (zero-mul (up e)) ∙ zero-mul (2 ^ l)))))

on_not_minus : (z : ℤ) → minus_zero (on z) ≡ false
unfolding on minus_zero odd
on_not_minus (pos zero) = refl
on_not_minus (pos (suc n)) = odd_not_minus 54 false (suc n) 1067 1074 (zero-lt-suc n)
on_not_minus (negsuc n) = odd_not_minus 54 true (suc n) 1067 1074 (zero-lt-suc n)

pub on_plain : (z : ℤ) → nat_abs z ≤ 2 ^ 53 → Plain (on z)
on_plain z h = (on_not_minus z, on_fits z h)

pub on_zero : on (pos 0) ≡ zero64
unfolding on odd
on_zero = refl
