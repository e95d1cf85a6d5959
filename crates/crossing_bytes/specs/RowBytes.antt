-- The bytes of rows. Definitions of inner contracts.
-- Assumes nothing.
use Rattle.std.specs.Prelude.{ℕ, List, [], ◌++◌, Bool, ◌||◌, cond, ltb, length}
use Rattle.wire.specs.Bytes.{bytes}
use Rattle.answer.specs.Answer.{all_bytes}
use Rattle.place_order.specs.Order.{place_key}
use Rattle.sorting.specs.Sort.{sorted}
use Rattle.limits.specs.Limits.{max_crossings}
use Rattle.crossing_rows.specs.declared.Row.{Row}
use Rattle.crossing_bytes.specs.Bytes.{entry_bytes}

abbrev pub row_bytes : Row → List ℕ
row_bytes r = entry_bytes r.place r.bundle r.edge

unfoldable pub rows_bytes : List Row → List ℕ
rows_bytes l = bytes 2 (length l) ++ all_bytes row_bytes l

abbrev pub row_key : Row → ℕ
row_key r = place_key r.place

-- what is written for the rows of a sheet: nothing where there are more than 1,024 (19) or where another refusal is due
unfoldable pub written_rows : Bool → List Row → List ℕ
unfolding rows_bytes
written_rows withheld l = cond (ltb max_crossings (length l) || withheld) [] (rows_bytes (sorted row_key l))
