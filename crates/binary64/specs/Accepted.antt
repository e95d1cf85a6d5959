-- The kinds of number that are handed over from outside, how each is taken, and which numbers of each are then accepted; any other gets document 01's number 7: "a number not finite, .. or out of range". Definitions only.
-- Assumes nothing.
use Rattle.std.specs.Prelude.{false, Bool, true, not, ◌&&◌, cond, pos, Float, ℕ, eqb}
use Rattle.std.specs.Float.{fin, nan, inf}
use Rattle.std.specs.Float.Ieee.{le, eq}
use Rattle.std.specs.Float.Ieee.Scale.{finite}

abbrev pub zero64 : Float
zero64 = fin false 0 (pos 0)

unfoldable pub minus_zero : Float → Bool
minus_zero nan = false
minus_zero (inf s) = false
minus_zero (fin s m e) = s && eqb m 0

-- F-1: "minus zero is to be taken as plus zero". IEEE 754 holds the two equal, and no other number equal to them
unfoldable pub plus_zero : Float → Float
plus_zero x = cond (eq x zero64) zero64 x

-- of a number as it was taken: finite, not minus zero, and from low to high
unfoldable pub accepted : Float → Float → Float → Bool
accepted low high x = finite x && (not (minus_zero x) && (le low x && le x high))

abbrev pub two_to : ℕ → Float
two_to k = fin false 1 (pos k)

-- a coordinate or an offset has magnitude at most 2^30
abbrev pub is_coordinate : Float → Bool
is_coordinate = accepted (fin true 1 (pos 30)) (two_to 30)

-- the size of a node is 0 to 2^30
abbrev pub is_size : Float → Bool
is_size = accepted zero64 (two_to 30)

-- an option is 0 to 2^20
abbrev pub is_option : Float → Bool
is_option = accepted zero64 (two_to 20)
