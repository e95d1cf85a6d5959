-- A line of the bundle page, from document 02's F-4: which bytes it is. Numbers are whole numbers of 128ths. Definitions only.
-- Assumes nothing.
use Rattle.std.specs.Prelude.{ℕ, zero, suc, ◌+◌, ◌*◌, ◌/◌, ◌%◌, Bool, cond, List, [], ◌∷◌, ◌++◌, eqb}

-- one column: a number's last digit, or `fill` where nothing is left of the number
abbrev pub column : ℕ → ℕ → ℕ
column fill n = cond (eqb n 0) fill (48 + n % 10)

-- w columns of decimal digits, the last one lowest, and `fill` in front of the first digit
unfoldable pub columns : ℕ → ℕ → ℕ → List ℕ
columns fill zero n = []
columns fill (suc w) n = columns fill w (n / 10) ++ (column fill n ∷ [])

-- a number right-aligned in w columns: at least one digit, blanks in front
unfoldable pub right : ℕ → ℕ → List ℕ
right zero n = []
right (suc w) n = columns 32 w (n / 10) ++ ((48 + n % 10) ∷ [])

-- k / 128 "right-aligned in 20 columns with exactly seven decimals": 1 / 128 is 0.0078125
unfoldable pub number_field : ℕ → List ℕ
number_field k = right 12 (k / 128) ++ (46 ∷ columns 48 7 (k % 128 * 78125))

-- a bundle on the page; its numbers in 128ths
pub record Entry : Type 0 where
  pub id : ℕ
  pub interior : Bool
  pub x : ℕ
  pub low : ℕ
  pub high : ℕ

-- "I for interior or R for rail"
abbrev pub letter : Bool → ℕ
letter b = cond b 73 82

-- a blank, the letter, a blank
abbrev pub letter_field : Bool → List ℕ
letter_field b = 32 ∷ letter b ∷ 32 ∷ []

-- a number, and the blank or the newline behind it
unfoldable pub cell : ℕ → ℕ → List ℕ
cell k end = number_field k ++ (end ∷ [])

-- a line, the id in w columns: "id right-aligned in 10 columns, a space, I for interior or R for rail, a space, then collector x, smaller y and larger y ..., each right-aligned in 20 columns with exactly seven decimals and a space between them, then a newline"
unfoldable pub entry_line : ℕ → Entry → List ℕ
entry_line w e = right w e.id ++ (letter_field e.interior ++ (cell e.x 32 ++ (cell e.low 32 ++ cell e.high 10)))
