-- How a printed field is read, by itself and without the text's definition: blanks, one digit or more with no nought in front, then for a number a point and seven digits, and nothing behind them. Definitions only.
-- Assumes nothing.
use Rattle.std.specs.Prelude.{ℕ, zero, suc, ◌+◌, ◌-◌, ◌*◌, Bool, cond, ◌&&◌, List, [], ◌∷◌, eqb, leb, Option, Some, None}

-- '0' to '9'
abbrev pub is_digit : ℕ → Bool
is_digit c = leb 48 c && leb c 57

-- so many decimals, behind a number that was read before them
unfoldable pub decimals : ℕ → ℕ → List ℕ → Option ℕ
decimals zero a [] = Some a
decimals zero a (c ∷ l) = None
decimals (suc k) a [] = None
decimals (suc k) a (c ∷ l) = cond (is_digit c) (decimals k (a * 10 + (c - 48)) l) None

-- behind the digits: a point and seven decimals, or nothing
unfoldable pub point : ℕ → List ℕ → Option ℕ
point a [] = None
point a (c ∷ l) = cond (eqb c 46) (decimals 7 a l) None

unfoldable pub nothing : ℕ → List ℕ → Option ℕ
nothing a [] = Some a
nothing a (c ∷ l) = None

-- digits, then what stands behind them
unfoldable pub digits : (ℕ → List ℕ → Option ℕ) → ℕ → List ℕ → Option ℕ
digits rest a [] = rest a []
digits rest a (c ∷ l) = cond (is_digit c) (digits rest (a * 10 + (c - 48)) l) (rest a (c ∷ l))

-- blanks, then digits of which the first is no nought, or a nought by itself
unfoldable pub field : (ℕ → List ℕ → Option ℕ) → List ℕ → Option ℕ
field rest [] = None
field rest (c ∷ l) = cond (eqb c 32) (field rest l) (cond (eqb c 48) (rest 0 l) (cond (is_digit c) (digits rest (c - 48) l) None))

-- a number, as a whole number of ten-millionths
abbrev pub read : List ℕ → Option ℕ
read l = field point l

abbrev pub read_id : List ℕ → Option ℕ
read_id l = field nothing l
