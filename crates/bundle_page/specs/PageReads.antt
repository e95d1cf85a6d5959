-- The bundle page read back, of its bytes alone: document 02's "each printed number reads back to the drawn one". Definitions only.
-- Assumes nothing.
use Rattle.std.specs.Prelude.{ℕ, ◌+◌, ◌≡◌, cond, List, [], ◌∷◌, pos, T, Float, length, take, drop, get_or, Some}
use Rattle.std.proofs.Common.{lit<}
use Rattle.std.specs.Float.Ieee.Scale.{finite}
use Rattle.binary64.specs.Order.{least, greatest}
use Rattle.binary64.specs.Rational.{Fraction, Sameℚ, value}
use Rattle.answer.specs.Answer.{Trunk}
use Rattle.page_text.specs.Reading.{read, read_id}

-- n / 10,000,000
abbrev pub ten_millionths : ℕ → Fraction
ten_millionths n = record { numerator = pos n; denominator = 10000000; above_zero = lit< tt }

-- the field is read as a number that is exactly x
pub record ReadsAs (field : List ℕ) (x : Float) : Type 0 where
  pub number : ℕ
  pub is_read : read field ≡ Some number
  pub is_finite : T (finite x)
  pub is_exact : Sameℚ (ten_millionths number) (value x)

-- the line, its id in w columns, is that of the bundle t. 32 is a space, 73 is I, 82 is R, 10 the newline
pub record LineReads (w : ℕ) (line : List ℕ) (t : Trunk) : Type 0 where
  pub long : length line ≡ 66 + w
  pub id : read_id (take w line) ≡ Some t.id
  pub behind_id : get_or line w 0 ≡ 32
  pub letter : get_or line (w + 1) 0 ≡ cond t.interior 73 82
  pub behind_letter : get_or line (w + 2) 0 ≡ 32
  pub x : ReadsAs (take 20 (drop (w + 3) line)) t.collector.start.x
  pub behind_x : get_or line (w + 23) 0 ≡ 32
  pub low : ReadsAs (take 20 (drop (w + 24) line)) (least t.collector.start.y t.collector.end.y)
  pub behind_low : get_or line (w + 44) 0 ≡ 32
  pub high : ReadsAs (take 20 (drop (w + 45) line)) (greatest t.collector.start.y t.collector.end.y)
  pub newline : get_or line (w + 65) 0 ≡ 10

-- "one line per bundle in job order", and nothing behind them
abbrev pub PageReads : ℕ → List ℕ → List Trunk → Type 0
PageReads w page [] = page ≡ []
PageReads w page (t ∷ ts) = LineReads w (take (66 + w) page) t × PageReads w (drop (66 + w) page) ts
