-- How long the parts of a line are. Assumes nothing.
use Rattle.std.specs.Prelude.{ℕ, zero, suc, ◌+◌, ◌/◌, ◌%◌, ◌*◌, ◌≡◌, refl, length}
use Rattle.std.proofs.Common.{arith, length-append}
use Rattle.limits.specs.Limits.{id_columns, line_bytes}
use Rattle.page_text.specs.Listing.{columns, right, number_field, Entry, cell, entry_line}

pub columns_length : (fill w n : ℕ) → length (columns fill w n) ≡ w
unfolding columns
columns_length fill zero n = refl
columns_length fill (suc w) n =
    let e = columns_length fill w (n / 10) in
    simp length-append (omega arith)

pub right_length : (w n : ℕ) → length (right w n) ≡ w
unfolding right
right_length zero n = refl
right_length (suc w) n =
    let e = columns_length 32 w (n / 10) in
    simp length-append (omega arith)

pub field_length : (k : ℕ) → length (number_field k) ≡ 20
unfolding number_field
field_length k =
    let e = right_length 12 (k / 128) in
    let f = columns_length 48 7 (k % 128 * 78125) in
    simp length-append (omega arith)

pub cell_length : (k end : ℕ) → length (cell k end) ≡ 21
unfolding cell
cell_length k end = let e = field_length k in simp length-append (omega arith)

-- a line, its id in w columns
pub line_length : (w : ℕ) (e : Entry) → length (entry_line w e) ≡ 66 + w
unfolding entry_line
line_length w e =
    let a = right_length w e.id in
    let b = cell_length e.x 32 in
    let c = cell_length e.low 32 in
    let d = cell_length e.high 10 in
    simp length-append (omega arith)

-- document 02's "Each line has 76 bytes"
pub page_line_length : (e : Entry) → length (entry_line id_columns e) ≡ line_bytes
page_line_length e = line_length id_columns e
