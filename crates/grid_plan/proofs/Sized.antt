-- Even whole numbers of a size: what the numbers of a job are, and what sums, differences and choices of such are.
-- Assumes nothing.
use Rattle.std.specs.Prelude.{◌≡◌, refl, ℕ, suc, ◌+◌, ◌*◌, ◌^◌, ◌≤◌, Bool, true, false, cond, ℤ, pos, negsuc, nat_abs, neg_ℤ, ◌+ℤ◌, ◌-ℤ◌, ◌*ℤ◌}
use Rattle.std.proofs.Common.{ap, ◌∙◌, mul-le-mul, le_refl, le_trans, arith}
use Rattle.std.specs.Float.{binary64}
use Rattle.std.specs.Float.Ieee.{mul}
use Rattle.plan.specs.Depths.{number}
use Rattle.binary64.specs.Rational.{plus, less}
use Rattle.binary64.specs.Integers.{by_parts, add_parts, neg_plus, neg_less}
use Rattle.grid.specs.On.{on, below, smaller, larger, Even}
use Rattle.grid.proofs.Operations.{add_size, subtract_size}
use Rattle.grid.proofs.Lanes.{lanes_on}
use Rattle.grid_plan.specs.Sizes.{Sized}

pub zero_sized : (n : ℕ) → Sized n (pos 0)
zero_sized n = record { even = record { half = pos 0; is = refl }; size = omega arith }

pub wider : {m n : ℕ} {z : ℤ} → m ≤ n → Sized m z → Sized n z
wider h s = record { even = s.even; size = le_trans s.size h }

twice_sum : (h k : ℤ) → (h +ℤ h) +ℤ (k +ℤ k) ≡ (h +ℤ k) +ℤ (h +ℤ k)
twice_sum h k = by_parts ((h +ℤ h) +ℤ (k +ℤ k)) ((h +ℤ k) +ℤ (h +ℤ k)) (omega (arith, add_parts h h, add_parts k k, add_parts h k, add_parts (h +ℤ h) (k +ℤ k), add_parts (h +ℤ k) (h +ℤ k)))

twice_neg : (h : ℤ) → neg_ℤ (h +ℤ h) ≡ neg_ℤ h +ℤ neg_ℤ h
twice_neg h = by_parts (neg_ℤ (h +ℤ h)) (neg_ℤ h +ℤ neg_ℤ h) (omega (arith, add_parts h h, add_parts (neg_ℤ h) (neg_ℤ h), neg_plus h, neg_less h, neg_plus (h +ℤ h), neg_less (h +ℤ h)))

even_add : (a b : ℤ) → Even a → Even b → Even (a +ℤ b)
even_add a b e f = record { half = e.half +ℤ f.half; is = ap (λ (z : ℤ). z +ℤ b) e.is ∙ ap (λ (z : ℤ). (e.half +ℤ e.half) +ℤ z) f.is ∙ twice_sum e.half f.half }

even_neg : (a : ℤ) → Even a → Even (neg_ℤ a)
even_neg a e = record { half = neg_ℤ e.half; is = ap neg_ℤ e.is ∙ twice_neg e.half }

pub sized_add : {m n : ℕ} (a b : ℤ) → Sized m a → Sized n b → Sized (m + n) (a +ℤ b)
sized_add a b s t = record { even = even_add a b s.even t.even; size = let h = add_size a b in let k = s.size in let l = t.size in omega arith }

pub sized_sub : {m n : ℕ} (a b : ℤ) → Sized m a → Sized n b → Sized (m + n) (a -ℤ b)
sized_sub a b s t = record { even = even_add a (neg_ℤ b) s.even (even_neg b t.even); size = let h = subtract_size a b in let k = s.size in let l = t.size in omega arith }

pub pick : (P : ℤ → Type 0) (t : Bool) (a b : ℤ) → P a → P b → P (cond t a b)
pick P true a b p q = p
pick P false a b p q = q

pub pick_smaller : (P : ℤ → Type 0) (a b : ℤ) → P a → P b → P (smaller a b)
pick_smaller P a b p q = pick P (below b a) b a q p

pub pick_larger : (P : ℤ → Type 0) (a b : ℤ) → P a → P b → P (larger a b)
pick_larger P a b p q = pick P (below a b) b a q p

-- ---- numbers that are not negative
pub from_pos : (z : ℤ) → less z ≡ 0 → z ≡ pos (plus z)
from_pos (pos n) h = refl
from_pos (negsuc n) h = absurd (omega arith)

halves : (k : ℕ) (e : Even (pos k)) → (j : ℕ) × (k ≡ j + j)
halves k e = go e.half e.is
  where
    go : (h : ℤ) → pos k ≡ h +ℤ h → (j : ℕ) × (k ≡ j + j)
    go (pos j) q = (j, ap plus q)
    go (negsuc j) q = absurd (let z : 0 ≡ suc (suc (j + j)) = ap less q in omega arith)

lanes_even : (n k : ℕ) → Even (pos k) → Even (pos (n * k))
lanes_even n k e = let h = halves k e in record { half = pos (n * h.0); is = ap (λ (i : ℕ). pos (n * i)) h.1 ∙ ap pos (double n h.0) }
  where
    double : (n j : ℕ) → n * (j + j) ≡ n * j + n * j
    double n j = omega arith

pub sized_lanes : {m : ℕ} (n : ℕ) (z : ℤ) → less z ≡ 0 → Sized m z → Sized (n * m) (pos n *ℤ z)
sized_lanes {m} n (negsuc k) h s = absurd (omega arith)
sized_lanes {m} n (pos k) h s = record { even = lanes_even n k s.even; size = mul-le-mul (le_refl n) s.size }

pub lanes_are : (n : ℕ) (z : ℤ) → less z ≡ 0 → n ≤ 2 ^ 10 → nat_abs z ≤ 2 ^ 40 → mul binary64 (number n) (on z) ≡ on (pos n *ℤ z)
lanes_are n (pos k) h N Z = lanes_on n k N Z
lanes_are n (negsuc k) h N Z = absurd (omega arith)
