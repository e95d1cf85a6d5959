-- Where the fields of a line stand: the id first, then the letter, then each number in 20 columns, with a blank or the newline behind each. Assumes nothing.
use Rattle.std.specs.Prelude.{ℕ, ◌+◌, ◌≡◌, refl, List, [], ◌∷◌, ◌++◌, length, take, drop, get_or}
use Rattle.std.proofs.Common.{sym, ap, ◌∙◌, append_assoc, arith, take_at, drop_at, drop-drop, get_or-append-add}
use Rattle.page_text.specs.Listing.{right, number_field, Entry, letter, letter_field, cell, entry_line}
use Rattle.page_text.proofs.Laws.{right_length, field_length, cell_length}

pub record Placed (w : ℕ) (e : Entry) : Type 0 where
  pub id : take w (entry_line w e) ≡ right w e.id
  pub behind_id : get_or (entry_line w e) w 0 ≡ 32
  pub letter_at : get_or (entry_line w e) (w + 1) 0 ≡ letter e.interior
  pub behind_letter : get_or (entry_line w e) (w + 2) 0 ≡ 32
  pub x : take 20 (drop (w + 3) (entry_line w e)) ≡ number_field e.x
  pub behind_x : get_or (entry_line w e) (w + 23) 0 ≡ 32
  pub low : take 20 (drop (w + 24) (entry_line w e)) ≡ number_field e.low
  pub behind_low : get_or (entry_line w e) (w + 44) 0 ≡ 32
  pub high : take 20 (drop (w + 45) (entry_line w e)) ≡ number_field e.high
  pub newline : get_or (entry_line w e) (w + 65) 0 ≡ 10

drop_past : (a b : List ℕ) (n m k : ℕ) → length a ≡ n → n + m ≡ k → drop k (a ++ b) ≡ drop m b
drop_past a b n m k e f = ap (λ (z : ℕ). drop z (a ++ b)) (sym f) ∙ sym (drop-drop m n (a ++ b)) ∙ ap (drop m) (drop_at a b n e)

in_cell : (k end : ℕ) (l : List ℕ) → take 20 (cell k end ++ l) ≡ number_field k
unfolding cell
in_cell k end l = rw (append_assoc (number_field k) (end ∷ []) l) (take_at (number_field k) ((end ∷ []) ++ l) 20 (field_length k))

last_cell : (k end : ℕ) → take 20 (cell k end) ≡ number_field k
unfolding cell
last_cell k end = take_at (number_field k) (end ∷ []) 20 (field_length k)

at_past : (a b : List ℕ) (n m k : ℕ) → length a ≡ n → n + m ≡ k → get_or (a ++ b) k 0 ≡ get_or b m 0
at_past a b n m k e f = ap (λ (z : ℕ). get_or (a ++ b) z 0) (sym f ∙ ap (λ (z : ℕ). z + m) (sym e)) ∙ get_or-append-add a b m 0

behind_cell : (k end : ℕ) (l : List ℕ) → get_or (cell k end ++ l) 20 0 ≡ end
unfolding cell
behind_cell k end l = ap (λ (z : List ℕ). get_or z 20 0) (append_assoc (number_field k) (end ∷ []) l) ∙ at_past (number_field k) ((end ∷ []) ++ l) 20 0 20 (field_length k) refl

behind_last : (k end : ℕ) → get_or (cell k end) 20 0 ≡ end
unfolding cell
behind_last k end = at_past (number_field k) (end ∷ []) 20 0 20 (field_length k) refl

pub placed : (w : ℕ) (e : Entry) → Placed w e
unfolding entry_line
placed w e =
    let a = right w e.id in
    let b = letter_field e.interior in
    let x = cell e.x 32 in
    let l = cell e.low 32 in
    let h = cell e.high 10 in
    let la = right_length w e.id in
    record {
      id = take_at a (b ++ (x ++ (l ++ h))) w la;
      behind_id = at_past a (b ++ (x ++ (l ++ h))) w 0 w la (omega arith);
      letter_at = at_past a (b ++ (x ++ (l ++ h))) w 1 (w + 1) la refl;
      behind_letter = at_past a (b ++ (x ++ (l ++ h))) w 2 (w + 2) la refl;
      behind_x = at_past a (b ++ (x ++ (l ++ h))) w 23 (w + 23) la refl ∙ at_past b (x ++ (l ++ h)) 3 20 23 refl refl ∙ behind_cell e.x 32 (l ++ h);
      behind_low = at_past a (b ++ (x ++ (l ++ h))) w 44 (w + 44) la refl ∙ at_past b (x ++ (l ++ h)) 3 41 44 refl refl
          ∙ at_past x (l ++ h) 21 20 41 (cell_length e.x 32) refl ∙ behind_cell e.low 32 h;
      newline = at_past a (b ++ (x ++ (l ++ h))) w 65 (w + 65) la refl ∙ at_past b (x ++ (l ++ h)) 3 62 65 refl refl
          ∙ at_past x (l ++ h) 21 41 62 (cell_length e.x 32) refl ∙ at_past l h 21 20 41 (cell_length e.low 32) refl ∙ behind_last e.high 10;
      x = ap (take 20) (drop_past a (b ++ (x ++ (l ++ h))) w 3 (w + 3) la refl ∙ drop_at b (x ++ (l ++ h)) 3 refl) ∙ in_cell e.x 32 (l ++ h);
      low = ap (take 20)
          (drop_past a (b ++ (x ++ (l ++ h))) w 24 (w + 24) la refl ∙ drop_past b (x ++ (l ++ h)) 3 21 24 refl refl ∙ drop_at x (l ++ h) 21 (cell_length e.x 32))
          ∙ in_cell e.low 32 h;
      high = ap (take 20)
          (drop_past a (b ++ (x ++ (l ++ h))) w 45 (w + 45) la refl ∙ drop_past b (x ++ (l ++ h)) 3 42 45 refl refl
          ∙ drop_past x (l ++ h) 21 21 42 (cell_length e.x 32) refl ∙ drop_at l h 21 (cell_length e.low 32))
          ∙ last_cell e.high 10;
    }
