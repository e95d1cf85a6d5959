-- The page's columns of digits are std's decimal digits, right-aligned. Assumes nothing.
use Rattle.std.specs.Prelude.{ℕ, zero, suc, ◌+◌, ◌-◌, ◌/◌, ◌%◌, ◌^◌, ◌<◌, ◌≤◌, ◌≡◌, refl, Bool, true, false, cond, T, eqb, List, [], ◌∷◌, ◌++◌, length, drop, replicate, decimal}
use Rattle.std.proofs.Common.{sym, ap, ◌∙◌, arith, eqb→eq, length-append, append_assoc, append-nil}
use Rattle.std.proofs.lemmas.List.{replicate_more, drop-append-le, drop_all}
use Rattle.std.proofs.lemmas.Fmt.{decimal_by_steps}
use Rattle.page_text.specs.Listing.{column, columns, right}
use Rattle.page_lines.specs.Padded.{padded}

-- w columns: the last w of the digits, and `fill` in front of the first
abbrev pub aligned : ℕ → ℕ → List ℕ → List ℕ
aligned fill w ds = replicate (w - length ds) fill ++ drop (length ds - w) ds

module _ (fill : ℕ) where
  -- a column of a number of which something is left
  some_left : (n : ℕ) → 0 < n → column fill n ≡ 48 + n % 10
  some_left n h = go (eqb n 0) (eqb→eq n 0)
    where
      go : (t : Bool) → (T t → n ≡ 0) → cond t fill (48 + n % 10) ≡ 48 + n % 10
      go true f = absurd (omega (arith, f tt))
      go false f = refl

  none_left : (w : ℕ) → columns fill w 0 ≡ replicate w fill
  unfolding columns
  none_left zero = refl
  none_left (suc w) = let e : w + 1 ≡ suc w = omega arith in rw (none_left w, replicate_more w fill, e)

  -- no digit, no column, and one of each more
  no_digit : (w : ℕ) → aligned fill w [] ≡ replicate w fill
  no_digit w =
      let a : w - 0 ≡ w = omega arith in
      let b : 0 - w ≡ 0 = omega arith in
      rw (a, b, append-nil (replicate w fill))

  no_column : (ds : List ℕ) → aligned fill 0 ds ≡ []
  no_column ds =
      let a : 0 - length ds ≡ 0 = omega arith in
      rw (a, drop_all (length ds - 0) ds (omega arith))

  longer : (w d : ℕ) (ds : List ℕ) → aligned fill (suc w) (ds ++ (d ∷ [])) ≡ aligned fill w ds ++ (d ∷ [])
  longer w d ds =
      let e = length-append ds (d ∷ []) in
      let a : suc w - length (ds ++ (d ∷ [])) ≡ w - length ds = omega (arith, e) in
      let b : length (ds ++ (d ∷ [])) - suc w ≡ length ds - w = omega (arith, e) in
      rw (a, b, drop-append-le (length ds - w) ds (d ∷ []) (omega arith)) (sym (append_assoc (replicate (w - length ds) fill) (drop (length ds - w) ds) (d ∷ [])))

  -- the last digit, behind the columns of the others
  abbrev Last : ℕ → List ℕ → Type 0
  Last n ds = (w : ℕ) → aligned fill (suc w) ds ≡ columns fill w (n / 10) ++ ((48 + n % 10) ∷ [])

  one_digit : (n : ℕ) → n < 10 → Last n ((48 + n) ∷ [])
  one_digit n h w =
      let a : n / 10 ≡ 0 = omega arith in
      let b : n % 10 ≡ n = omega arith in
      longer w (48 + n) [] ∙ rw (a, b, no_digit w, none_left w)

  more_digits : (n : ℕ) (ds : List ℕ) → 10 ≤ n → Last (n / 10) ds → Last n (ds ++ ((48 + n % 10) ∷ []))
  unfolding columns
  more_digits n ds h l zero = longer 0 (48 + n % 10) ds ∙ rw (no_column ds)
  more_digits n ds h l (suc w) = longer (suc w) (48 + n % 10) ds ∙ rw (l w, some_left (n / 10) (omega arith))

  pub aligned_is : (w n : ℕ) → n < 2 ^ 64 → aligned fill w (decimal n) ≡ padded fill w n
  unfolding padded
  aligned_is zero n h = no_column (decimal n)
  aligned_is (suc w) n h = decimal_by_steps Last one_digit more_digits n h w

-- blanks in front, and noughts, which are what a column of nothing has
pub right_is : (w n : ℕ) → padded 32 w n ≡ right w n
unfolding padded right
right_is zero n = refl
right_is (suc w) n = refl

pub columns_is : (w n : ℕ) → padded 48 w n ≡ columns 48 w n
unfolding padded columns
columns_is zero n = refl
columns_is (suc w) n = ap (λ (c : ℕ). columns 48 w (n / 10) ++ (c ∷ [])) (go (eqb n 0) (eqb→eq n 0))
  where
    go : (t : Bool) → (T t → n ≡ 0) → 48 + n % 10 ≡ cond t 48 (48 + n % 10)
    go true f = let e : n % 10 ≡ 0 = omega (arith, f tt) in rw e
    go false f = refl
