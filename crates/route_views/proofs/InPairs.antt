-- The numbers of a route in pairs: pair i is its point i.
-- Assumes nothing.
use Rattle.std.specs.Prelude.{◌≡◌, ℕ, zero, suc, ◌+◌, ◌-◌, ◌*◌, ◌/◌, ◌≤◌, ◌<◌, List, [], length, take, drop, get_or, Float}
use Rattle.std.proofs.Common.{◌∙◌, ap, arith, get_or-take, length-drop, length-take-le}
use Rattle.std.proofs.lemmas.List.{get_or-drop}
use Rattle.std.specs.Simd.{first_chunks}
use Rattle.std.specs.Float.{nan}
use Rattle.geometry.specs.Points.{point_at}

-- number j of pair i
number_in : (k i j : ℕ) (l : List Float) → i < k → j < 2 → get_or (get_or (first_chunks 2 k l) i []) j nan ≡ get_or l (2 * i + j) nan
number_in zero i j l h h' = absurd (omega arith)
number_in (suc k) zero j l h h' = let e : j ≡ 2 * 0 + j = omega arith in get_or-take 2 l j nan h' ∙ ap (λ (m : ℕ). get_or l m nan) e
number_in (suc k) (suc i) j l h h' =
    let e : 2 + (2 * i + j) ≡ 2 * suc i + j = omega arith in
    number_in k i j (drop 2 l) (omega arith) h' ∙ get_or-drop 2 l (2 * i + j) nan ∙ ap (λ (m : ℕ). get_or l m nan) e

module _ (s : List Float) (start count : ℕ) (inside : 2 * (start + count) ≤ length s) where
  abbrev numbers : List Float
  numbers = take (2 * (start + count) - 2 * start) (drop (2 * start) s)

  few : length numbers / 2 ≡ count
  few =
      let long : length numbers ≡ 2 * (start + count) - 2 * start = length-take-le (2 * (start + count) - 2 * start) (drop (2 * start) s) (omega (arith, length-drop (2 * start) s)) in
      omega (arith, long)

  module _ (pairs : List (List Float)) where
    pub pairs_count : length pairs ≡ length numbers / 2 → length pairs ≡ count
    pairs_count e = e ∙ few

    module _ (e : pairs ≡ first_chunks 2 (length numbers / 2) numbers) (i : ℕ) (h : i < count) where
      number : (j t : ℕ) → j < 2 → t ≡ 2 * (start + i) + j → get_or (get_or pairs i []) j nan ≡ get_or s t nan
      number j t h' f =
          let g : 2 * start + (2 * i + j) ≡ t = omega arith in
          ap (λ (l : List (List Float)). get_or (get_or l i []) j nan) (e ∙ ap (λ (k : ℕ). first_chunks 2 k numbers) few)
          ∙ number_in count i j numbers h h' ∙ get_or-take (2 * (start + count) - 2 * start) (drop (2 * start) s) (2 * i + j) nan (omega arith)
          ∙ get_or-drop (2 * start) s (2 * i + j) nan ∙ ap (λ (n : ℕ). get_or s n nan) g

      pub pair_is : point_at (get_or pairs i []) 0 ≡ point_at s (start + i)
      unfolding point_at
      pair_is =
          ap (λ (x : Float). record { x = x; y = get_or (get_or pairs i []) 1 nan }) (number 0 (2 * (start + i)) (omega arith) (omega arith))
          ∙ ap (λ (y : Float). record { x = get_or s (2 * (start + i)) nan; y = y }) (number 1 (2 * (start + i) + 1) (omega arith) (omega arith))
