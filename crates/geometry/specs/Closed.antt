-- Words in which closed cases are written down: whole numbers as binary64, points, and a table of rows that all hold. Definitions of closed cases.
-- Assumes nothing.
use Rattle.std.specs.Prelude.{ℕ, Bool, true, ◌&&◌, List, [], ◌∷◌, pos, Float}
use Rattle.std.specs.Float.{binary64}
use Rattle.std.specs.Float.Ieee.{of_int, neg}
use Rattle.geometry.specs.declared.Point.{Point}
use Rattle.geometry.specs.declared.Segment.{Segment}

-- a whole number, and its negation
unfoldable pub num : ℕ → Float
num n = of_int binary64 (pos n)

unfoldable pub minus : ℕ → Float
minus n = neg (num n)

abbrev pub at : Float → Float → Point
at x y = record { x = x; y = y }

abbrev pub from_to : Point → Point → Segment
from_to a b = record { start = a; end = b }

-- every row of a table
unfoldable pub every : List Bool → Bool
every [] = true
every (b ∷ bs) = b && every bs
