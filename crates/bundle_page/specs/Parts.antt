-- How many 128ths a number of binary64 is. Definitions only.
-- Assumes nothing.
use Rattle.std.specs.Prelude.{ℕ, ◌*◌, ◌/◌, Float}
use Rattle.std.specs.Float.{nan, inf, fin}
use Rattle.std.specs.Float.Ieee.{up, down}

-- how many 128ths it is, without its sign and without what is less than a 128th: every number of a job with bit 2 set is a whole number of them
unfoldable pub parts_of : Float → ℕ
parts_of nan = 0
parts_of (inf s) = 0
parts_of (fin s m e) = m * up e * 128 / down e
