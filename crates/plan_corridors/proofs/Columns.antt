-- Three columns read together, as two `zip`s have them. Assumes nothing.
use mathlib.Core.Path.{◌≡◌, ◌∙◌, ap}
use mathlib.Core.List.{List}
use Prim.Native.Nat.{ℕ, ◌≤◌, ◌<◌}
use native.Mathlib.Omega.{arith}
use lib.ListN.{length, get_or}
use Rattle.std.specs.List.{zip}
use Rattle.std.proofs.lemmas.List.{get_or_default}
use Rattle.std.proofs.lemmas.Slice.Zip.{length-zip, get_or-zip}

module _ {A B C : Type 0} (xs : List A) (ys : List B) (zs : List C) (ly : length xs ≤ length ys) (lz : length xs ≤ length zs) where
  pub three_length : length (zip (zip xs ys) zs) ≡ length xs
  three_length = omega (arith, length-zip (zip xs ys) zs, length-zip xs ys)

  pub three_turn : (i : ℕ) (p : (A × B) × C) → i < length (zip (zip xs ys) zs) → p ≡ get_or (zip (zip xs ys) zs) i p
      → (i < length xs) × ((d : A) → p.0.0 ≡ get_or xs i d) × ((d : B) → p.0.1 ≡ get_or ys i d) × ((d : C) → p.1 ≡ get_or zs i d)
  three_turn i p h e =
      let k : i < length xs = omega (arith, three_length) in
      let m : i < length (zip xs ys) = omega (arith, length-zip xs ys) in
      let a = e ∙ get_or-zip (zip xs ys) zs i p m (omega arith) in
      let b = ap (λ (q : (A × B) × C). q.0) a ∙ get_or-zip xs ys i p.0 k (omega arith) in (
        k,
        (λ d. ap (λ (q : A × B). q.0) b ∙ get_or_default xs i p.0.0 d k),
        (λ d. ap (λ (q : A × B). q.1) b ∙ get_or_default ys i p.0.1 d (omega arith)),
        λ d. ap (λ (q : (A × B) × C). q.1) a ∙ get_or_default zs i p.1 d (omega arith),
      )
