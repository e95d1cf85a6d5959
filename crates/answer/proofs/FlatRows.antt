-- Laws of the first n rows of a table, which no function cites: what is written of them, and a bundle's window of the taps that count. Assumes nothing.
use Rattle.std.specs.Prelude.{ℕ, ◌+◌, ◌≤◌, ◌<◌, ◌≡◌, List, length, take, drop, get_or}
use Rattle.std.proofs.Common.{sym, ap, ◌∙◌, arith, length-take-le, take-take, take-add, drop_at}
use Rattle.std.proofs.lemmas.List.Edits.{sets}
use Rattle.board.specs.declared.DrawnBundle.{DrawnBundle}
use Rattle.board.specs.declared.DrawnTap.{DrawnTap}
use Rattle.board.specs.Board.{taps_of}
use Rattle.answer.specs.Answer.{all_bytes}
use Rattle.answer.proofs.Stores as stores

pub written_as : {A : Type 0} (f : A → List ℕ) (l : List A) (n i : ℕ) (d : A) → n ≤ length l → (w : ℕ) (o o' : List ℕ) (at : ℕ) → length (f (get_or l i d)) ≡ w → i < n → o' ≡ sets o at (f (get_or l i d))
    → sets o' (at + w) (all_bytes f (drop (i + 1) (take n l))) ≡ sets o at (all_bytes f (drop i (take n l)))
written_as f l n i d fits w o o' at q h e = ap (λ (z : ℕ). sets o' (at + z) (all_bytes f (drop (i + 1) (take n l)))) (sym q) ∙ stores.written f l n i d fits o o' at h e

-- a window of the rows that count
window_of : {A : Type 0} (l : List A) (f c : ℕ) → f ≤ length l → drop f (take (f + c) l) ≡ take c (drop f l)
window_of l f c h = ap (λ m. drop f m) (take-add f c l) ∙ drop_at (take f l) (take c (drop f l)) f (length-take-le f l h)

pub same_taps : (rows : List DrawnTap) (n : ℕ) (b : DrawnBundle) → n ≤ length rows → b.first + b.count ≤ n → drop b.first (take (b.first + b.count) rows) ≡ taps_of (take n rows) b
same_taps rows n b fits inside =
    let k : b.first ≤ length (take n rows) = rw (length-take-le n rows fits) (omega arith) in
    ap (λ m. drop b.first m) (sym (take-take (b.first + b.count) n rows inside)) ∙ window_of (take n rows) b.first b.count k
