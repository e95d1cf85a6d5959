-- Entries written one after the other, and rows sorted. Assumes nothing.
use Prim.Native.Nat.{ℕ, zero, suc, ◌+◌, ◌/◌, ◌≤◌, ◌<◌}
use Rattle.std.specs.Prelude.{◌≡◌, Bool, true, false, cond, get_or, take, drop, Float}
use Rattle.std.proofs.Math.Path.{refl, ap}
use Rattle.std.proofs.Common.{sym, ◌∙◌, subst, true≢false, length-append, drop_of_length-le, length-take-le, lt-ltb}
use mathlib.Core.List.{List, [], ◌∷◌, ◌++◌, map}
use native.Mathlib.Omega.{arith}
use Rattle.std.proofs.Math.Numerals.{add-one}
use Rattle.std.proofs.Math.Dec.{leb}
use Rattle.std.proofs.Math.ListN.{length}
use Rattle.std.proofs.lemmas.List.Edits.{sets}
use Rattle.std.proofs.Math.Seq.{drop-cons}
use Rattle.wire.specs.Bytes.{bytes}
use Rattle.wire.proofs.BytesLaws.{bytes_length}
use Rattle.geometry.specs.declared.Point.{Point}
use Rattle.answer.specs.Answer.{all_bytes, point_bytes}
use Rattle.answer.proofs.Stores.{sets_then, point_length}
use Rattle.sorting.specs.Lists.{Every}
use Rattle.sorting.specs.Sort.{insert, sorted}
use Rattle.sorting.specs.Sorted.{every_sorted, sorted_length}
use Rattle.limits.specs.Limits.{max_crossings, crossing_bytes}
use Rattle.crossing_rows.specs.declared.Row.{Row}
use Rattle.crossing_bytes.specs.Bytes.{entry_bytes}
use Rattle.crossing_bytes.specs.RowBytes.{row_bytes, rows_bytes, row_key}

-- ---- entries

pub entry_length : (p : Point) (u e : ℕ) → length (entry_bytes p u e) ≡ crossing_bytes
unfolding entry_bytes
entry_length p u e = simp (length-append, bytes_length, point_length)

pub entry_joined : (out : List ℕ) (at : ℕ) (p : Point) (u e : ℕ) → sets (sets (sets out at (point_bytes p)) (at + 16) (bytes 4 u)) (at + 20) (bytes 4 e) ≡ sets out at (entry_bytes p u e)
unfolding entry_bytes
entry_joined out at p u e =
    let a : at + 20 ≡ at + 16 + length (bytes 4 u) = let k = bytes_length 4 u in omega arith in
    let b : at + 16 ≡ at + length (point_bytes p) = let k = point_length p in omega arith in
    sets_then (sets out at (point_bytes p)) (at + 16) (at + 20) (bytes 4 u) (bytes 4 e) a ∙ sets_then out at (at + 16) (point_bytes p) (bytes 4 u ++ bytes 4 e) b

-- what is left to write from row i on
module _ (rows : List Row) where
  abbrev pub rows_at : ℕ → List ℕ
  rows_at i = all_bytes row_bytes (drop i rows)

  pub row_next : (out out' : List ℕ) (i at : ℕ) (r : Row) → i < length rows → out' ≡ sets out at (row_bytes (get_or rows i r)) → sets out' (at + crossing_bytes) (rows_at (i + 1)) ≡ sets out at (rows_at i)
  unfolding all_bytes
  row_next out out' i at r h e =
      let x = get_or rows i r in
      let k : at + crossing_bytes ≡ at + length (row_bytes x) = let q = entry_length x.place x.bundle x.edge in omega arith in
      rw (e, add-one, drop-cons rows i r h) (sets_then out at (at + crossing_bytes) (row_bytes x) (rows_at (suc i)) k)

  pub row_end : (i : ℕ) → length rows ≤ i → rows_at i ≡ []
  unfolding all_bytes
  row_end i h = rw (drop_of_length-le rows h)

-- ---- rows sorted, from what they are made of

module _ {A B : Type 0} (f : A → B) (key : A → ℕ) (key' : B → ℕ) where
  map_insert : (a : A) (m : List A) → key a ≡ key' (f a) → Every (λ x. key x ≡ key' (f x)) m → map f (insert key a m) ≡ insert key' (f a) (map f m)
  unfolding insert
  map_insert a [] h e = refl
  map_insert a (x ∷ m) h e = go (leb (key a) (key x)) (leb (key' (f a)) (key' (f x))) same (map_insert a m h e.1)
    where
      same : leb (key a) (key x) ≡ leb (key' (f a)) (key' (f x))
      same = rw (h, e.0)

      go : (s t : Bool) → s ≡ t → map f (insert key a m) ≡ insert key' (f a) (map f m) → map f (cond s (a ∷ x ∷ m) (x ∷ insert key a m)) ≡ cond t (f a ∷ f x ∷ map f m) (f x ∷ insert key' (f a) (map f m))
      go true true d below = refl
      go false false d below = ap (λ (l : List B). f x ∷ l) below
      go true false d below = absurd (true≢false d)
      go false true d below = absurd (true≢false (sym d))

  pub map_sorted : (l : List A) → Every (λ a. key a ≡ key' (f a)) l → map f (sorted key l) ≡ sorted key' (map f l)
  unfolding sorted
  map_sorted [] h = refl
  map_sorted (a ∷ l) h = map_insert a (sorted key l) h.0 (every_sorted key (λ x. key x ≡ key' (f x)) l h.1) ∙ ap (insert key' (f a)) (map_sorted l h.1)

-- the count, and the entries behind it
pub list_joined : (out : List ℕ) (l : List Row) (n : ℕ) → n ≡ length l → sets (sets out 0 (bytes 2 n)) 2 (all_bytes row_bytes l) ≡ sets out 0 (rows_bytes l)
unfolding rows_bytes
list_joined out l n e =
    let k : 2 ≡ 0 + length (bytes 2 n) = let q = bytes_length 2 n in omega arith in
    sets_then out 0 2 (bytes 2 n) (all_bytes row_bytes l) k ∙ ap (λ (x : ℕ). sets out 0 (bytes 2 x ++ all_bytes row_bytes l)) e
