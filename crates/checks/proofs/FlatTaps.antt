-- The tap of a route among a bundle's members, where taps stood as numbers in pairs: x at 2 i, y at 2 i + 1. No function's proof cites these laws now.
-- Assumes nothing.
use Rattle.std.specs.Prelude.{◌≡◌, ℕ, zero, suc, ◌+◌, ◌-◌, ◌≤◌, ◌<◌, refl, List, [], ◌∷◌, get_or, Float, Option, Some, None}
use Rattle.std.proofs.Common.{arith}
use borrow.Author.Tests.{eq-eqb, ne_eqb}
use Rattle.geometry.specs.declared.Point.{Point}
use Rattle.geometry.specs.Points.{point_at}
use Rattle.drawing.specs.Build.{TapOn, tap_of}

-- the taps of count members from place first on
unfoldable pub taps_from : List ℕ → List Float → ℕ → ℕ → List TapOn
taps_from edges taps first zero = []
taps_from edges taps first (suc n) = record { edge = get_or edges first 0; place = point_at taps first } ∷ taps_from edges taps (suc first) n

module _ (edges : List ℕ) (taps : List Float) (n e : ℕ) where
  abbrev pub tap_at : ℕ → Option Point
  tap_at i = tap_of (taps_from edges taps i (n - i)) e

  pub tap_start : (first m : ℕ) → n ≡ first + m → tap_at first ≡ tap_of (taps_from edges taps first m) e
  tap_start first m h = let a : n - first ≡ m = omega arith in rw a

  pub tap_here : (i : ℕ) → i < n → get_or edges i 0 ≡ e → tap_at i ≡ Some (point_at taps i)
  unfolding taps_from tap_of
  tap_here i h q = let a : n - i ≡ suc (n - (i + 1)) = omega arith in rw (a, eq-eqb (get_or edges i 0) e q)

  pub tap_next : (i : ℕ) → i < n → (get_or edges i 0 ≡ e → ⊥) → tap_at (i + 1) ≡ tap_at i
  unfolding taps_from tap_of
  tap_next i h q =
      let a : n - i ≡ suc (n - (i + 1)) = omega arith in
      let b : suc i ≡ i + 1 = omega arith in
      rw (a, ne_eqb (get_or edges i 0) e q, b)

  pub tap_none : (i : ℕ) → n ≤ i → tap_at i ≡ None
  unfolding taps_from tap_of
  tap_none i h = let a : n - i ≡ 0 = omega arith in rw a
