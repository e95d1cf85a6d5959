-- The stores of a line's parts, one behind the other or from the back. Assumes nothing.
use Rattle.std.specs.Prelude.{ℕ, ◌+◌, ◌*◌, ◌/◌, ◌%◌, ◌≡◌, Bool, true, false, List, [], ◌∷◌, ◌++◌}
use Rattle.std.proofs.Common.{◌∙◌, arith}
use Rattle.std.proofs.Math.Seq.{sets}
use Rattle.answer.proofs.Stores.{sets_then}
use Rattle.page_text.specs.Listing.{columns, right, number_field, Entry, letter, letter_field, cell, entry_line}
use Rattle.page_text.proofs.Laws.{right_length, field_length, cell_length}

module _ (o : List ℕ) (at : ℕ) where
  pub field_joined : (k : ℕ) → sets (sets (sets o at (right 12 (k / 128))) (at + 12) (46 ∷ [])) (at + 13) (columns 48 7 (k % 128 * 78125)) ≡ sets o at (number_field k)
  unfolding number_field
  field_joined k =
      let a = right 12 (k / 128) in
      let b = columns 48 7 (k % 128 * 78125) in
      sets_then (sets o at a) (at + 12) (at + 13) (46 ∷ []) b (omega arith) ∙ sets_then o at (at + 12) a (46 ∷ b) (omega (arith, right_length 12 (k / 128)))

  pub cell_joined : (k end : ℕ) → sets (sets o at (number_field k)) (at + 20) (end ∷ []) ≡ sets o at (cell k end)
  unfolding cell
  cell_joined k end = sets_then o at (at + 20) (number_field k) (end ∷ []) (omega (arith, field_length k))

  pub letter_joined : (b : Bool) → sets (sets (sets o at (32 ∷ [])) (at + 1) (letter b ∷ [])) (at + 2) (32 ∷ []) ≡ sets o at (letter_field b)
  letter_joined b =
      let s : List ℕ = letter b ∷ [] in
      sets_then (sets o at (32 ∷ [])) (at + 1) (at + 2) s (32 ∷ []) (omega arith) ∙ sets_then o at (at + 1) (32 ∷ []) (letter b ∷ 32 ∷ []) (omega arith)

  pub line_joined : (w : ℕ) (e : Entry)
      → sets (sets (sets (sets (sets o at (right w e.id)) (at + w) (letter_field e.interior)) (at + (w + 3)) (cell e.x 32)) (at + (w + 24)) (cell e.low 32)) (at + (w + 45)) (cell e.high 10)
      ≡ sets o at (entry_line w e)
  unfolding entry_line
  line_joined w e =
      let a = right w e.id in
      let b = letter_field e.interior in
      let x = cell e.x 32 in
      let l = cell e.low 32 in
      let h = cell e.high 10 in
      let la = right_length w e.id in
      let lx = cell_length e.x 32 in
      let ll = cell_length e.low 32 in
      let s1 = sets o at a in
      let s2 = sets s1 (at + w) b in
      let s3 = sets s2 (at + (w + 3)) x in
      sets_then s3 (at + (w + 24)) (at + (w + 45)) l h (omega arith)
      ∙ sets_then s2 (at + (w + 3)) (at + (w + 24)) x (l ++ h) (omega arith)
      ∙ sets_then s1 (at + w) (at + (w + 3)) b (x ++ (l ++ h)) (omega arith)
      ∙ sets_then o at (at + w) a (b ++ (x ++ (l ++ h))) (omega arith)

-- the letter by its mark
pub letter_interior : (b : Bool) → b ≡ true → 73 ≡ letter b
letter_interior b e = rw e

pub letter_rail : (b : Bool) → b ≡ false → 82 ≡ letter b
letter_rail b e = rw e
