-- Each printed number reads back to the number printed. Assumes nothing.
use Prim.Native.Nat.{ℕ, zero, suc, ◌+◌, ◌*◌, ◌-◌, ◌/◌, ◌%◌, ◌^◌, ◌<◌}
use Rattle.std.specs.Prelude.{◌≡◌, Bool, not, cond, List, [], ◌∷◌, ◌++◌, T, eqb, leb, Option, Some}
use Rattle.std.proofs.Math.Path.{refl, ap}
use Rattle.std.proofs.Common.{sym, ◌∙◌, append-nil, append_assoc, div-add-mod', div-lt_iff_lt-mul, pow-suc, add-mul, mul_assoc, le→leb, eqb→eq, lit<}
use Rattle.std.proofs.Math.Bool.{true, false}
use native.Mathlib.Omega.{arith}
use Rattle.page_text.specs.Listing.{column, columns, right, number_field}
use Rattle.page_text.specs.Reading.{is_digit, decimals, point, nothing, digits, field, read, read_id}

is_true : (b : Bool) → T b → b ≡ true
is_true true t = refl
is_true false t = absurd t

is_false : (b : Bool) → (T b → ⊥) → b ≡ false
is_false true t = absurd (t tt)
is_false false t = refl

-- a digit's byte
digit_is : (d : ℕ) → d < 10 → is_digit (48 + d) ≡ true
digit_is d h = rw (is_true (leb 48 (48 + d)) (le→leb 48 (48 + d) (omega arith)), is_true (leb (48 + d) 57) (le→leb (48 + d) 57 (omega arith)))

not_byte : (d c : ℕ) → c < 48 + d → eqb (48 + d) c ≡ false
not_byte d c h = is_false (eqb (48 + d) c) (λ t. let e = eqb→eq (48 + d) c t in omega arith)

digit_back : (d : ℕ) → 48 + d - 48 ≡ d
digit_back d = omega arith

last_digit : (n : ℕ) → n % 10 < 10
last_digit n = omega arith

some_left : (n : ℕ) → T (not (eqb n 0)) → n ≡ 0 → ⊥
some_left zero t e = t
some_left (suc n) t e = omega arith

positive : (n : ℕ) → (n ≡ 0 → ⊥) → 0 < n / 10 * 10 + n % 10
positive zero h = absurd (h refl)
positive (suc n) h = omega arith

nil : (d : ℕ) → d ≡ 0 * 10 + d
nil d = omega arith

-- ---- one digit
decimals_digit : (k a d : ℕ) (l : List ℕ) → d < 10 → decimals (suc k) a ((48 + d) ∷ l) ≡ decimals k (a * 10 + d) l
unfolding decimals
decimals_digit k a d l h = rw (digit_is d h, digit_back d)

module _ (rest : ℕ → List ℕ → Option ℕ) where
  digits_digit : (a d : ℕ) (l : List ℕ) → d < 10 → digits rest a ((48 + d) ∷ l) ≡ digits rest (a * 10 + d) l
  unfolding digits
  digits_digit a d l h = rw (digit_is d h, digit_back d)

  field_digit : (d : ℕ) (l : List ℕ) → d < 10 → 0 < d → field rest ((48 + d) ∷ l) ≡ digits rest d l
  unfolding field
  field_digit d l h p = rw (not_byte d 32 (omega arith), not_byte d 48 (omega arith), digit_is d h, digit_back d)

-- ---- decimals, whose fill is a nought
nought : (n : ℕ) → column 48 n ≡ 48 + n % 10
nought n = go (eqb n 0) (eqb→eq n 0)
  where
    go : (t : Bool) → (T t → n ≡ 0) → cond t 48 (48 + n % 10) ≡ 48 + n % 10
    go true f = let e = f tt in omega arith
    go false f = refl

scaled : (a p q n : ℕ) → (a * p + q) * 10 + n ≡ a * (p * 10) + (q * 10 + n)
scaled a p q n =
    let c : a * p * 10 ≡ a * (p * 10) = mul_assoc a p 10 in
    omega (arith, add-mul (a * p) q 10)

decimals_back : (w j m a n : ℕ) (l : List ℕ) → m ≡ w + j → n < 10 ^ w → decimals m a (columns 48 w n ++ l) ≡ decimals j (a * 10 ^ w + n) l
unfolding columns
decimals_back zero j m a n l e h =
    let f : m ≡ j = omega arith in
    let g : a * 1 + n ≡ a = omega arith in
    rw (f, g)
decimals_back (suc w) j m a n l e h =
    let k : n / 10 < 10 ^ w = (div-lt_iff_lt-mul (lit< tt)).1 (rw (pow-suc 10 w) at h) in
    ap (λ (z : List ℕ). decimals m a z) (append_assoc (columns 48 w (n / 10)) (column 48 n ∷ []) l)
    ∙ decimals_back w (suc j) m a (n / 10) (column 48 n ∷ l) (omega arith) k
    ∙ ap (λ (z : ℕ). decimals (suc j) (a * 10 ^ w + n / 10) (z ∷ l)) (nought n)
    ∙ decimals_digit j (a * 10 ^ w + n / 10) (n % 10) l (last_digit n)
    ∙ ap (λ (z : ℕ). decimals j z l) (scaled a (10 ^ w) (n / 10) (n % 10) ∙ ap (λ (z : ℕ). a * (10 ^ w * 10) + z) (div-add-mod' n 10) ∙ ap (λ (z : ℕ). a * z + n) (sym (pow-suc 10 w)))

-- ---- the whole part
module _ (rest : ℕ → List ℕ → Option ℕ) where
  blank_read : (l : List ℕ) → field rest (32 ∷ l) ≡ field rest l
  unfolding field
  blank_read l = refl

  nought_read : (l : List ℕ) → field rest (48 ∷ l) ≡ rest 0 l
  unfolding field
  nought_read l = refl

  blanks_read : (w : ℕ) (l : List ℕ) → field rest (columns 32 w 0 ++ l) ≡ field rest l
  unfolding columns
  blanks_read zero l = refl
  blanks_read (suc w) l = ap (field rest) (append_assoc (columns 32 w 0) (32 ∷ []) l) ∙ blanks_read w (32 ∷ l) ∙ blank_read l

  whole_read : (w n d : ℕ) (l : List ℕ) → n < 10 ^ w → d < 10 → 0 < n * 10 + d → field rest (columns 32 w n ++ ((48 + d) ∷ l)) ≡ digits rest (n * 10 + d) l
  unfolding columns
  whole_read zero n d l h k p =
      let f : n ≡ 0 = omega arith in
      let q : 0 < d = omega arith in
      rw f (field_digit rest d l k q ∙ ap (λ (z : ℕ). digits rest z l) (nil d))
  whole_read (suc w) n d l h k p =
      let i : n / 10 < 10 ^ w = (div-lt_iff_lt-mul (lit< tt)).1 (rw (pow-suc 10 w) at h) in
      ap (field rest) (append_assoc (columns 32 w (n / 10)) (column 32 n ∷ []) ((48 + d) ∷ l))
      ∙ go (eqb n 0) (eqb→eq n 0) (some_left n) (λ q. whole_read w (n / 10) (n % 10) ((48 + d) ∷ l) i (last_digit n) q)
    where
      go : (t : Bool) → (T t → n ≡ 0) → (T (not t) → n ≡ 0 → ⊥)
          → (0 < n / 10 * 10 + n % 10 → field rest (columns 32 w (n / 10) ++ ((48 + n % 10) ∷ (48 + d) ∷ l)) ≡ digits rest (n / 10 * 10 + n % 10) ((48 + d) ∷ l))
          → field rest (columns 32 w (n / 10) ++ (cond t 32 (48 + n % 10) ∷ (48 + d) ∷ l)) ≡ digits rest (n * 10 + d) l
      go true f g e =
          let z = f tt in
          let q : 0 < d = omega arith in
          rw z (blanks_read w (32 ∷ (48 + d) ∷ l) ∙ blank_read ((48 + d) ∷ l) ∙ field_digit rest d l k q ∙ ap (λ (y : ℕ). digits rest y l) (nil d))
      go false f g e =
          let z = g tt in
          e (positive n z) ∙ ap (λ (z : ℕ). digits rest z ((48 + d) ∷ l)) (div-add-mod' n 10) ∙ digits_digit rest n d l k

  right_read : (w n : ℕ) (l : List ℕ) → n < 10 ^ suc w → rest 0 l ≡ digits rest 0 l → field rest (right (suc w) n ++ l) ≡ digits rest n l
  unfolding right
  right_read w n l h e =
      ap (field rest) (append_assoc (columns 32 w (n / 10)) ((48 + n % 10) ∷ []) l) ∙ go (eqb n 0) (eqb→eq n 0) (some_left n)
    where
      go : (t : Bool) → (T t → n ≡ 0) → (T (not t) → n ≡ 0 → ⊥) → field rest (columns 32 w (n / 10) ++ ((48 + n % 10) ∷ l)) ≡ digits rest n l
      go true f g = let z = f tt in rw z (blanks_read w (48 ∷ l) ∙ nought_read l ∙ e)
      go false f g =
          let k : n / 10 < 10 ^ w = (div-lt_iff_lt-mul (lit< tt)).1 (rw (pow-suc 10 w) at h) in
          whole_read w (n / 10) (n % 10) l k (last_digit n) (positive n (g tt)) ∙ ap (λ (z : ℕ). digits rest z l) (div-add-mod' n 10)

-- an id reads back
ended : (n : ℕ) → digits nothing n [] ≡ Some n
unfolding digits nothing
ended n = refl

none_behind : nothing 0 [] ≡ digits nothing 0 []
unfolding digits nothing
none_behind = refl

pub id_reads_back : (w n : ℕ) → 0 < w → n < 10 ^ w → read_id (right w n) ≡ Some n
id_reads_back zero n p h = absurd (omega arith)
id_reads_back (suc w) n p h = ap read_id (sym (append-nil (right (suc w) n))) ∙ right_read nothing w n [] h (none_behind) ∙ ended n

-- ---- a field: k / 128 is k * 78125 ten-millionths
parts : (k : ℕ) → k / 128 * 10000000 + k % 128 * 78125 ≡ k * 78125
parts k = omega arith

point_read : (a : ℕ) (l : List ℕ) → digits point a (46 ∷ l) ≡ decimals 7 a l
unfolding digits point
point_read a l = refl

point_behind : (l : List ℕ) → point 0 (46 ∷ l) ≡ digits point 0 (46 ∷ l)
unfolding digits point
point_behind l = refl

decimals_end : (a : ℕ) → decimals 0 a [] ≡ Some a
unfolding decimals
decimals_end a = refl

pub reads_back : (k : ℕ) → k < 128 * 10 ^ 12 → read (number_field k) ≡ Some (k * 78125)
unfolding number_field
reads_back k h =
    let d = k % 128 * 78125 in
    right_read point 11 (k / 128) (46 ∷ columns 48 7 d) (omega arith) (point_behind (columns 48 7 d)) ∙ point_read (k / 128) (columns 48 7 d)
    ∙ ap (λ (z : List ℕ). decimals 7 (k / 128) z) (sym (append-nil (columns 48 7 d)))
    ∙ decimals_back 7 0 7 (k / 128) d [] refl (omega arith)
    ∙ decimals_end (k / 128 * 10000000 + d) ∙ ap Some (parts k)
