-- Columns stored from the last to the first, as they were before std's digits were taken. No function's proof cites these laws now.
-- Assumes nothing.
use Rattle.std.specs.Prelude.{ℕ, zero, suc, ◌+◌, ◌-◌, ◌/◌, ◌%◌, ◌<◌, ◌≡◌, refl, Bool, true, false, cond, List, [], ◌∷◌, T, eqb, set}
use Rattle.std.proofs.Common.{sym, ap, ◌∙◌, arith, eqb→eq}
use Rattle.std.proofs.Math.Seq.{sets}
use Rattle.answer.proofs.Stores.{sets_then, sets_before}
use Rattle.page_text.specs.Listing.{column, columns, right}
use Rattle.page_text.proofs.Laws.{columns_length}

pub column_none : (fill n : ℕ) → n ≡ 0 → fill ≡ column fill n
column_none fill n e = rw e

pub column_some : (fill n : ℕ) → (n ≡ 0 → ⊥) → 48 + n % 10 ≡ column fill n
column_some fill n e = go (eqb n 0) (eqb→eq n 0)
  where
    go : (t : Bool) → (T t → n ≡ 0) → 48 + n % 10 ≡ cond t fill (48 + n % 10)
    go true f = absurd (e (f tt))
    go false f = refl

-- the last column first
pub last_first : (fill i j n at : ℕ) (o o' : List ℕ) (c : ℕ) → i ≡ suc j → c ≡ column fill n → o' ≡ set o (at + j) c → sets o' at (columns fill j (n / 10)) ≡ sets o at (columns fill i n)
unfolding columns
last_first fill i j n at o o' c q e f =
    rw (f, e, q) (sets_before o at (at + j) (columns fill j (n / 10)) (column fill n ∷ []) (ap (λ (z : ℕ). at + z) (sym (columns_length fill j (n / 10)))))

pub none_left : (fill i n at : ℕ) (o : List ℕ) → i ≡ 0 → o ≡ sets o at (columns fill i n)
unfolding columns
none_left fill i n at o e = rw e

module _ (o : List ℕ) (at : ℕ) where
  pub right_joined : (w n : ℕ) → sets (sets o at (columns 32 w (n / 10))) (at + w) ((48 + n % 10) ∷ []) ≡ sets o at (right (suc w) n)
  unfolding right
  right_joined w n = sets_then o at (at + w) (columns 32 w (n / 10)) ((48 + n % 10) ∷ []) (omega (arith, columns_length 32 w (n / 10)))

  pub right_written : (w n : ℕ) (o' o'' : List ℕ) → 0 < w → o' ≡ sets o at (columns 32 (w - 1) (n / 10)) → o'' ≡ sets o' (at + (w - 1)) ((48 + n % 10) ∷ []) → o'' ≡ sets o at (right w n)
  right_written zero n o' o'' h e f = absurd (omega arith)
  right_written (suc w) n o' o'' h e f =
      let q : suc w - 1 ≡ w = omega arith in
      let e' = rw q at e in
      let f' = rw q at f in
      f' ∙ ap (λ (z : List ℕ). sets z (at + w) ((48 + n % 10) ∷ [])) e' ∙ right_joined w n
