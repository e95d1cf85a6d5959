-- What the walk kept is written, or refused: nothing where there are more than 1,024 (19) or where another refusal is due, else the bytes. Assumes nothing.
use Rattle.std.specs.Prelude.{ℕ, ◌≤◌, ◌<◌, ◌≡◌, Bool, true, false, ◌||◌, cond, refl, List, [], length}
use Rattle.std.proofs.Common.{◌∙◌}
use Rattle.std.proofs.lemmas.List.Edits.{sets}
use borrow.Author.Tests.{lt-ltb, le-ltb}
use lib.Dec.{ltb}
use Rattle.sorting.specs.Sort.{sorted}
use Rattle.limits.specs.Limits.{max_crossings}
use Rattle.crossing_rows.specs.declared.Row.{Row}
use Rattle.crossing_bytes.specs.RowBytes.{rows_bytes, row_key, written_rows}

module _ (l : List Row) (withheld : Bool) (out : List ℕ) where
  -- 19
  pub many : max_crossings < length l → out ≡ sets out 0 (written_rows withheld l)
  unfolding written_rows
  many h = rw (lt-ltb max_crossings (length l) h)

  -- another refusal is due
  pub held_back : withheld ≡ true → out ≡ sets out 0 (written_rows withheld l)
  unfolding written_rows
  held_back w = go (ltb max_crossings (length l))
    where
      go : (t : Bool) → out ≡ sets out 0 (cond (t || withheld) [] (rows_bytes (sorted row_key l)))
      go true = refl
      go false = rw w

  pub put : (out' : List ℕ) (kept : List Row) → kept ≡ l → length kept ≤ max_crossings → withheld ≡ false → out' ≡ sets out 0 (rows_bytes (sorted row_key kept)) → out' ≡ sets out 0 (written_rows withheld l)
  unfolding written_rows
  put out' kept k h w e =
      let g : ltb max_crossings (length l) ≡ false = rw (← k) (le-ltb max_crossings (length kept) h) in
      e ∙ rw (k, g, w)
