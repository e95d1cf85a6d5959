-- Exact fractions, their order, and the value of a finite number as one: document 01's "a fraction is two whole numbers, the lower one above zero". Definitions only.
-- Assumes nothing.
use Rattle.std.specs.Prelude.{ℕ, suc, ◌+◌, ◌≤◌, ◌<◌, ◌*◌, ℤ, pos, negsuc, neg_ℤ, ◌*ℤ◌, ◌≡◌, cond, Float}
use Rattle.std.proofs.Common.{pow_pos}
use Rattle.std.specs.Float.{nan, inf, fin}
use Rattle.std.specs.Float.Ieee.{up, down}
use Rattle.std.specs.Float.Ieee.Positive.{den_pos}

abbrev pub plus : ℤ → ℕ
plus (pos n) = n
plus (negsuc n) = 0

abbrev pub less : ℤ → ℕ
less (pos n) = 0
less (negsuc n) = suc n

-- the order, with each negative part on the other side
abbrev pub AtMostℤ : ℤ → ℤ → Type 0
AtMostℤ a b = plus a + less b ≤ plus b + less a

abbrev pub Belowℤ : ℤ → ℤ → Type 0
Belowℤ a b = plus a + less b < plus b + less a

pub record Fraction : Type 0 where
  pub numerator : ℤ
  pub denominator : ℕ
  pub above_zero : 0 < denominator

-- p's numerator over the product of p's and q's denominators
abbrev pub cross : Fraction → Fraction → ℤ
cross p q = p.numerator *ℤ pos q.denominator

abbrev pub AtMostℚ : Fraction → Fraction → Type 0
AtMostℚ p q = AtMostℤ (cross p q) (cross q p)

abbrev pub Belowℚ : Fraction → Fraction → Type 0
Belowℚ p q = Belowℤ (cross p q) (cross q p)

abbrev pub Sameℚ : Fraction → Fraction → Type 0
Sameℚ p q = cross p q ≡ cross q p

abbrev pub value : Float → Fraction
value nan = record { numerator = pos 0; denominator = 1; above_zero = pow_pos 0 }
value (inf s) = record { numerator = pos 0; denominator = 1; above_zero = pow_pos 0 }
value (fin s m e) = record { numerator = cond s (neg_ℤ (pos (m * up e))) (pos (m * up e)); denominator = down e; above_zero = den_pos (fin s m e) }
