-- Number fields with bit 2 of the flags set, at the edges of document 02's F-2: multiples of 1/64, magnitude at most 2^20, 15 after 7 at that number. Assumes nothing.
use Rattle.std.specs.Prelude.{ℕ, ◌≡◌, refl, Bool, true, false, List, [], ◌∷◌, pos, negsuc, Float}
use Rattle.std.specs.Float.{fin}
use Rattle.std.specs.Float.Ieee.{of_bits, le, lt, eq}
use Rattle.binary64.specs.Accepted.{minus_zero, plus_zero, accepted}
use Rattle.grid.specs.DraftingGrid.{multiple_within}
use Rattle.wire.specs.Bytes.{number_on}
use Rattle.wire.specs.Read.{refused, got, Reader, after, field}
use Rattle.wire.specs.Accept.{taken, gridded, coordinate, size, option}

-- a number field's eight bytes, of which the last two are zero
abbrev bytes : ℕ → ℕ → ℕ → ℕ → ℕ → ℕ → List ℕ
bytes a b c d e f = a ∷ b ∷ c ∷ d ∷ e ∷ f ∷ 0 ∷ 0 ∷ []

-- every kind of field takes it as x, with bit 2 and without
abbrev Taken : List ℕ → Float → Type 0
Taken s x = (coordinate true s ≡ got x []) × (size true s ≡ got x []) × (option true s ≡ got x []) × (coordinate false s ≡ got x []) × (size false s ≡ got x []) × (option false s ≡ got x [])

-- 15 with bit 2 set; without it x is taken
abbrev OffGrid : (Bool → Reader Float) → List ℕ → Float → Type 0
OffGrid kind s x = (kind true s ≡ refused 15) × (kind false s ≡ got x [])

-- 1/64, and 2^20 itself
pub sixty_fourth : Taken (bytes 63 144 0 0 0 0) (fin false 1 (negsuc 5))
unfolding after field number_on taken gridded multiple_within accepted minus_zero plus_zero of_bits le lt eq
sixty_fourth = (refl, refl, refl, refl, refl, refl)

pub largest : Taken (bytes 65 48 0 0 0 0) (fin false 1 (pos 20))
unfolding after field number_on taken gridded multiple_within accepted minus_zero plus_zero of_bits le lt eq
largest = (refl, refl, refl, refl, refl, refl)

-- -2^20 is a coordinate too
pub least : coordinate true (bytes 193 48 0 0 0 0) ≡ got (fin true 1 (pos 20)) []
unfolding after field number_on taken gridded multiple_within accepted minus_zero plus_zero of_bits le lt eq
least = refl

-- 1/128 is off the grid in every kind of field
pub finer : OffGrid coordinate (bytes 63 128 0 0 0 0) (fin false 1 (negsuc 6)) × OffGrid size (bytes 63 128 0 0 0 0) (fin false 1 (negsuc 6)) × OffGrid option (bytes 63 128 0 0 0 0) (fin false 1 (negsuc 6))
unfolding after field number_on taken gridded multiple_within accepted minus_zero plus_zero of_bits le lt eq
finer = ((refl, refl), (refl, refl), (refl, refl))

-- 2^20 and 1/64 more, and 2^21: multiples of 1/64 above 2^20
pub above : OffGrid coordinate (bytes 65 48 0 0 4 0) (fin false 67108865 (negsuc 5)) × OffGrid size (bytes 65 64 0 0 0 0) (fin false 1 (pos 21))
unfolding after field number_on taken gridded multiple_within accepted minus_zero plus_zero of_bits le lt eq
above = ((refl, refl), (refl, refl))

-- 2^31 is out of range and off the grid: 7
pub seven_first : (grid : Bool) → (coordinate grid (bytes 65 224 0 0 0 0) ≡ refused 7) × (size grid (bytes 65 224 0 0 0 0) ≡ refused 7) × (option grid (bytes 65 224 0 0 0 0) ≡ refused 7)
unfolding after field number_on taken gridded multiple_within accepted minus_zero plus_zero of_bits le lt eq
seven_first true = (refl, refl, refl)
seven_first false = (refl, refl, refl)
