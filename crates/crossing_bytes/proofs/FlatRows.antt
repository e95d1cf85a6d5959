-- The bytes of rows that stood in slices of numbers and were sorted by their indices, as they were written before they were rows, and counted. No function's proof cites these laws now.
-- Assumes nothing.
use Prim.Native.Nat.{ℕ, zero, suc, ◌+◌, ◌/◌, ◌≤◌, ◌<◌}
use Rattle.std.specs.Prelude.{◌≡◌, Bool, true, false, cond, leb, ltb, length, get_or, take, drop, Float}
use Rattle.std.proofs.Math.Path.{refl, ap}
use Rattle.std.proofs.Common.{sym, ◌∙◌, subst, add-one, drop-cons, drop_of_length-le, length-take-le, lt-ltb}
use mathlib.Core.List.{List, [], ◌∷◌, map}
use native.Mathlib.Omega.{arith}
use Rattle.std.proofs.lemmas.List.Edits.{sets}
use borrow.Author.Tests.{leb-true, leb-false, le-ltb}
use Rattle.answer.specs.Answer.{all_bytes}
use Rattle.answer.proofs.Stores.{sets_then}
use Rattle.sorting.specs.Lists.{Every}
use Rattle.sorting.specs.Sort.{sorted}
use Rattle.sorting.specs.Sorted.{every_sorted, sorted_length}
use Rattle.place_order.proofs.Indices.{index_key}
use Rattle.place_sort.proofs.CountedUp.{count_from, counted_length}
use Rattle.limits.specs.Limits.{max_crossings, crossing_bytes}
use Rattle.crossing_rows.specs.declared.Row.{Row}
use Rattle.crossing_rows.proofs.FlatRows.{row_at, rows_from, Kept}
use Rattle.crossing_bytes.specs.RowBytes.{row_bytes, rows_bytes, row_key, written_rows}
use Rattle.crossing_bytes.proofs.Laws.{entry_length, map_sorted}

-- what is left to write from index i on
module _ (p : List Float) (m : List ℕ) (order : List ℕ) where
  abbrev pub entries_at : ℕ → List ℕ
  entries_at i = all_bytes row_bytes (map (row_at p m) (drop i order))

  pub entry_next : (out out' : List ℕ) (i at : ℕ) → i < length order → out' ≡ sets out at (row_bytes (row_at p m (get_or order i 0))) → sets out' (at + crossing_bytes) (entries_at (i + 1)) ≡ sets out at (entries_at i)
  unfolding all_bytes
  entry_next out out' i at h e =
      let r = row_at p m (get_or order i 0) in
      let k : at + crossing_bytes ≡ at + length (row_bytes r) = let q = entry_length r.place r.bundle r.edge in omega arith in
      rw (e, add-one, drop-cons order i 0 h) (sets_then out at (at + crossing_bytes) (row_bytes r) (entries_at (suc i)) k)

  pub entry_end : (i : ℕ) → length order ≤ i → entries_at i ≡ []
  unfolding all_bytes
  entry_end i h = rw (drop_of_length-le order h)

-- the rows that the slices hold, by their indices
module _ (p : List Float) (m : List ℕ) where
  rows_counted : (i n : ℕ) → map (row_at p m) (count_from i n) ≡ rows_from p m i n
  unfolding rows_from count_from
  rows_counted i zero = refl
  rows_counted i (suc n) = ap (λ (l : List Row). row_at p m i ∷ l) (rows_counted (suc i) n)

  index_same : (i : ℕ) → i < length p / 2 → index_key p i ≡ row_key (row_at p m i)
  unfolding index_key row_at
  index_same i h = rw (lt-ltb i (length p / 2) h)

  counted_same : (i n : ℕ) → i + n ≤ length p / 2 → Every (λ k. index_key p k ≡ row_key (row_at p m k)) (count_from i n)
  unfolding count_from
  counted_same i zero h = tt
  counted_same i (suc n) h = let g : suc i + n ≤ length p / 2 = omega arith in (index_same i (omega arith), counted_same (suc i) n g)

  pub sorted_rows : (n : ℕ) → n ≤ length p / 2 → map (row_at p m) (sorted (index_key p) (count_from 0 n)) ≡ sorted row_key (rows_from p m 0 n)
  sorted_rows n h = map_sorted (row_at p m) (index_key p) row_key (count_from 0 n) (counted_same 0 n (omega arith)) ∙ ap (sorted row_key) (rows_counted 0 n)

counted_below : (i n k : ℕ) → i + n ≤ k → Every (λ j. j < k) (count_from i n)
unfolding count_from
counted_below i zero k h = tt
counted_below i (suc n) k h = let g : suc i + n ≤ k = omega arith in (omega arith, counted_below (suc i) n k g)

-- ---- the order that is written

module _ (p : List Float) (m : List ℕ) (first order : List ℕ) (n : ℕ) (f : first ≡ count_from 0 n) (e : order ≡ sorted (index_key p) first) where
  order_is : order ≡ sorted (index_key p) (count_from 0 n)
  order_is = e ∙ ap (sorted (index_key p)) f

  pub order_below : n ≤ max_crossings → Every (λ k. k < max_crossings) order
  order_below h = subst (Every (λ k. k < max_crossings)) (sym order_is) (every_sorted (index_key p) (λ k. k < max_crossings) (count_from 0 n) (counted_below 0 n max_crossings (omega arith)))

  pub order_length : length order ≡ n
  order_length = ap length order_is ∙ sorted_length (index_key p) (count_from 0 n) ∙ counted_length 0 n

  pub order_written : n ≤ length p / 2 → rows_bytes (map (row_at p m) order) ≡ rows_bytes (sorted row_key (rows_from p m 0 n))
  order_written h = ap (λ (l : List ℕ). rows_bytes (map (row_at p m) l)) order_is ∙ ap rows_bytes (sorted_rows p m n h)

-- ---- as many rows as a front part has places for

pub front_fits : (n k : ℕ) (l : List ℕ) → n ≤ k → n ≤ length l → length (take n l) ≤ k
front_fits n k l h fits = omega (arith, length-take-le n l fits, h)

pub front_written : (p : List Float) (m : List ℕ) (n : ℕ) (l out out' : List ℕ) → n ≤ length l → out' ≡ sets out 0 (rows_bytes (sorted row_key (rows_from p m 0 (length (take n l))))) → out' ≡ sets out 0 (rows_bytes (sorted row_key (rows_from p m 0 n)))
front_written p m n l out out' fits e = e ∙ ap (λ (k : ℕ). sets out 0 (rows_bytes (sorted row_key (rows_from p m 0 k)))) (length-take-le n l fits)

-- ---- the rows counted, and refused or written

module _ (l : List Row) (p : List Float) (m : List ℕ) (n : ℕ) (kept : Kept l p m n) where
  over : max_crossings < n → max_crossings < length l
  over h = go (leb (length l) max_crossings) refl kept.count
    where
      go : (t : Bool) → leb (length l) max_crossings ≡ t → n ≡ cond t (length l) (suc max_crossings) → max_crossings < length l
      go true e k = let g = leb-true (length l) max_crossings e in absurd (omega arith)
      go false e k = leb-false (length l) max_crossings e

  not_over : n ≤ max_crossings → length l ≤ max_crossings
  not_over h = go (leb (length l) max_crossings) refl kept.count
    where
      go : (t : Bool) → leb (length l) max_crossings ≡ t → n ≡ cond t (length l) (suc max_crossings) → length l ≤ max_crossings
      go true e k = leb-true (length l) max_crossings e
      go false e k = absurd (omega arith)

  -- 19
  pub refused : (withheld : Bool) (out : List ℕ) → max_crossings < n → (true ≡ ltb max_crossings (length l)) × (out ≡ sets out 0 (written_rows withheld l))
  unfolding written_rows
  refused withheld out h = let e = lt-ltb max_crossings (length l) (over h) in (sym e, rw e)

  -- another refusal is due
  pub held_back : (withheld : Bool) (out : List ℕ) → n ≤ max_crossings → withheld ≡ true → (false ≡ ltb max_crossings (length l)) × (out ≡ sets out 0 (written_rows withheld l))
  unfolding written_rows
  held_back withheld out h w = let e = le-ltb max_crossings (length l) (not_over h) in (sym e, rw (e, w))

  pub put : (withheld : Bool) (out out' : List ℕ) → n ≤ max_crossings → withheld ≡ false → out' ≡ sets out 0 (rows_bytes (sorted row_key (rows_from p m 0 n))) → (false ≡ ltb max_crossings (length l)) × (out' ≡ sets out 0 (written_rows withheld l))
  unfolding written_rows
  put withheld out out' h w e =
      let g = le-ltb max_crossings (length l) (not_over h) in
      (sym g, e ∙ ap (λ (r : List Row). sets out 0 (rows_bytes (sorted row_key r))) (kept.rows (not_over h)) ∙ rw (g, w))
