-- Closed cases of a line and of a field that is read. The lines have the bytes that Python's exact decimals print, f"{id:>10} {mark} {Decimal(x)/128:>20.7f} .."; each is worked out by the definition. Assumes nothing.
use Rattle.std.specs.Prelude.{◌≡◌, refl, true, false, [], ◌∷◌, Some, None}
use Rattle.limits.specs.Limits.{id_columns}
use Rattle.page_text.specs.Listing.{columns, right, number_field, cell, entry_line}
use Rattle.page_text.specs.Reading.{decimals, point, nothing, digits, field, read, read_id}

-- ---- lines

-- an id of one digit, interior, 0, 1/128, 2 ^ 33 - 1/128: "         0 I            0.0000000            0.0078125   8589934591.9921875" and a newline
pub least_line : entry_line id_columns (record { id = 0; interior = true; x = 0; low = 1; high = 1099511627775 }) ≡ (32 ∷ 32 ∷ 32 ∷ 32 ∷ 32 ∷ 32 ∷ 32 ∷ 32 ∷ 32 ∷ 48 ∷ 32 ∷ 73 ∷ 32 ∷ 32 ∷ 32 ∷ 32 ∷ 32 ∷ 32 ∷ 32 ∷ 32 ∷ 32 ∷ 32 ∷ 32 ∷ 32 ∷ 48 ∷ 46 ∷ 48 ∷ 48 ∷ 48 ∷ 48 ∷ 48 ∷ 48 ∷ 48 ∷ 32 ∷ 32 ∷ 32 ∷ 32 ∷ 32 ∷ 32 ∷ 32 ∷ 32 ∷ 32 ∷ 32 ∷ 32 ∷ 32 ∷ 48 ∷ 46 ∷ 48 ∷ 48 ∷ 55 ∷ 56 ∷ 49 ∷ 50 ∷ 53 ∷ 32 ∷ 32 ∷ 32 ∷ 56 ∷ 53 ∷ 56 ∷ 57 ∷ 57 ∷ 51 ∷ 52 ∷ 53 ∷ 57 ∷ 49 ∷ 46 ∷ 57 ∷ 57 ∷ 50 ∷ 49 ∷ 56 ∷ 55 ∷ 53 ∷ 10 ∷ [])
unfolding entry_line cell number_field right columns
least_line = refl

-- the largest id, rail, 2 ^ 33 - 1/128, 0, 1/128: "4294967295 R   8589934591.9921875            0.0000000            0.0078125" and a newline
pub largest_line : entry_line id_columns (record { id = 4294967295; interior = false; x = 1099511627775; low = 0; high = 1 }) ≡ (52 ∷ 50 ∷ 57 ∷ 52 ∷ 57 ∷ 54 ∷ 55 ∷ 50 ∷ 57 ∷ 53 ∷ 32 ∷ 82 ∷ 32 ∷ 32 ∷ 32 ∷ 56 ∷ 53 ∷ 56 ∷ 57 ∷ 57 ∷ 51 ∷ 52 ∷ 53 ∷ 57 ∷ 49 ∷ 46 ∷ 57 ∷ 57 ∷ 50 ∷ 49 ∷ 56 ∷ 55 ∷ 53 ∷ 32 ∷ 32 ∷ 32 ∷ 32 ∷ 32 ∷ 32 ∷ 32 ∷ 32 ∷ 32 ∷ 32 ∷ 32 ∷ 32 ∷ 48 ∷ 46 ∷ 48 ∷ 48 ∷ 48 ∷ 48 ∷ 48 ∷ 48 ∷ 48 ∷ 32 ∷ 32 ∷ 32 ∷ 32 ∷ 32 ∷ 32 ∷ 32 ∷ 32 ∷ 32 ∷ 32 ∷ 32 ∷ 32 ∷ 48 ∷ 46 ∷ 48 ∷ 48 ∷ 55 ∷ 56 ∷ 49 ∷ 50 ∷ 53 ∷ 10 ∷ [])
unfolding entry_line cell number_field right columns
largest_line = refl

-- an id of ten digits, interior, 1/2, 99 + 127/128, 100: "1000000000 I            0.5000000           99.9921875          100.0000000" and a newline
pub halves : entry_line id_columns (record { id = 1000000000; interior = true; x = 64; low = 12799; high = 12800 }) ≡ (49 ∷ 48 ∷ 48 ∷ 48 ∷ 48 ∷ 48 ∷ 48 ∷ 48 ∷ 48 ∷ 48 ∷ 32 ∷ 73 ∷ 32 ∷ 32 ∷ 32 ∷ 32 ∷ 32 ∷ 32 ∷ 32 ∷ 32 ∷ 32 ∷ 32 ∷ 32 ∷ 32 ∷ 48 ∷ 46 ∷ 53 ∷ 48 ∷ 48 ∷ 48 ∷ 48 ∷ 48 ∷ 48 ∷ 32 ∷ 32 ∷ 32 ∷ 32 ∷ 32 ∷ 32 ∷ 32 ∷ 32 ∷ 32 ∷ 32 ∷ 32 ∷ 57 ∷ 57 ∷ 46 ∷ 57 ∷ 57 ∷ 50 ∷ 49 ∷ 56 ∷ 55 ∷ 53 ∷ 32 ∷ 32 ∷ 32 ∷ 32 ∷ 32 ∷ 32 ∷ 32 ∷ 32 ∷ 32 ∷ 32 ∷ 49 ∷ 48 ∷ 48 ∷ 46 ∷ 48 ∷ 48 ∷ 48 ∷ 48 ∷ 48 ∷ 48 ∷ 48 ∷ 10 ∷ [])
unfolding entry_line cell number_field right columns
halves = refl

-- ---- fields that are read, in ten-millionths

-- 1/128: "           0.0078125"
pub smallest : read (32 ∷ 32 ∷ 32 ∷ 32 ∷ 32 ∷ 32 ∷ 32 ∷ 32 ∷ 32 ∷ 32 ∷ 32 ∷ 48 ∷ 46 ∷ 48 ∷ 48 ∷ 55 ∷ 56 ∷ 49 ∷ 50 ∷ 53 ∷ []) ≡ Some 78125
unfolding field digits point decimals nothing
smallest = refl

-- 2 ^ 33 - 1/128: "  8589934591.9921875"
pub largest : read (32 ∷ 32 ∷ 56 ∷ 53 ∷ 56 ∷ 57 ∷ 57 ∷ 51 ∷ 52 ∷ 53 ∷ 57 ∷ 49 ∷ 46 ∷ 57 ∷ 57 ∷ 50 ∷ 49 ∷ 56 ∷ 55 ∷ 53 ∷ []) ≡ Some 85899345919921875
unfolding field digits point decimals nothing
largest = refl

-- the largest id: "4294967295"
pub largest_id : read_id (52 ∷ 50 ∷ 57 ∷ 52 ∷ 57 ∷ 54 ∷ 55 ∷ 50 ∷ 57 ∷ 53 ∷ []) ≡ Some 4294967295
unfolding field digits point decimals nothing
largest_id = refl

-- ---- and fields that are none

-- six decimals and a blank: "           0.007812 "
pub six_decimals : read (32 ∷ 32 ∷ 32 ∷ 32 ∷ 32 ∷ 32 ∷ 32 ∷ 32 ∷ 32 ∷ 32 ∷ 32 ∷ 48 ∷ 46 ∷ 48 ∷ 48 ∷ 55 ∷ 56 ∷ 49 ∷ 50 ∷ 32 ∷ []) ≡ None
unfolding field digits point decimals nothing
six_decimals = refl

-- eight decimals: "          0.00781250"
pub eight_decimals : read (32 ∷ 32 ∷ 32 ∷ 32 ∷ 32 ∷ 32 ∷ 32 ∷ 32 ∷ 32 ∷ 32 ∷ 48 ∷ 46 ∷ 48 ∷ 48 ∷ 55 ∷ 56 ∷ 49 ∷ 50 ∷ 53 ∷ 48 ∷ []) ≡ None
unfolding field digits point decimals nothing
eight_decimals = refl

-- noughts in front: "000000000000.0078125"
pub noughts_in_front : read (48 ∷ 48 ∷ 48 ∷ 48 ∷ 48 ∷ 48 ∷ 48 ∷ 48 ∷ 48 ∷ 48 ∷ 48 ∷ 48 ∷ 46 ∷ 48 ∷ 48 ∷ 55 ∷ 56 ∷ 49 ∷ 50 ∷ 53 ∷ []) ≡ None
unfolding field digits point decimals nothing
noughts_in_front = refl

-- no digit before the point: "            .0078125"
pub no_digit : read (32 ∷ 32 ∷ 32 ∷ 32 ∷ 32 ∷ 32 ∷ 32 ∷ 32 ∷ 32 ∷ 32 ∷ 32 ∷ 32 ∷ 46 ∷ 48 ∷ 48 ∷ 55 ∷ 56 ∷ 49 ∷ 50 ∷ 53 ∷ []) ≡ None
unfolding field digits point decimals nothing
no_digit = refl

-- a blank inside: "         1 0.0078125"
pub blank_inside : read (32 ∷ 32 ∷ 32 ∷ 32 ∷ 32 ∷ 32 ∷ 32 ∷ 32 ∷ 32 ∷ 49 ∷ 32 ∷ 48 ∷ 46 ∷ 48 ∷ 48 ∷ 55 ∷ 56 ∷ 49 ∷ 50 ∷ 53 ∷ []) ≡ None
unfolding field digits point decimals nothing
blank_inside = refl

-- blanks behind: "0.0078125           "
pub left_aligned : read (48 ∷ 46 ∷ 48 ∷ 48 ∷ 55 ∷ 56 ∷ 49 ∷ 50 ∷ 53 ∷ 32 ∷ 32 ∷ 32 ∷ 32 ∷ 32 ∷ 32 ∷ 32 ∷ 32 ∷ 32 ∷ 32 ∷ 32 ∷ []) ≡ None
unfolding field digits point decimals nothing
left_aligned = refl

-- a sign: "          -0.0078125"
pub signed : read (32 ∷ 32 ∷ 32 ∷ 32 ∷ 32 ∷ 32 ∷ 32 ∷ 32 ∷ 32 ∷ 32 ∷ 45 ∷ 48 ∷ 46 ∷ 48 ∷ 48 ∷ 55 ∷ 56 ∷ 49 ∷ 50 ∷ 53 ∷ []) ≡ None
unfolding field digits point decimals nothing
signed = refl

-- a comma: "           0,0078125"
pub comma : read (32 ∷ 32 ∷ 32 ∷ 32 ∷ 32 ∷ 32 ∷ 32 ∷ 32 ∷ 32 ∷ 32 ∷ 32 ∷ 48 ∷ 44 ∷ 48 ∷ 48 ∷ 55 ∷ 56 ∷ 49 ∷ 50 ∷ 53 ∷ []) ≡ None
unfolding field digits point decimals nothing
comma = refl

-- noughts in front of an id: "0000000042"
pub id_of_noughts : read_id (48 ∷ 48 ∷ 48 ∷ 48 ∷ 48 ∷ 48 ∷ 48 ∷ 48 ∷ 52 ∷ 50 ∷ []) ≡ None
unfolding field digits point decimals nothing
id_of_noughts = refl

-- blanks alone: "          "
pub no_id : read_id (32 ∷ 32 ∷ 32 ∷ 32 ∷ 32 ∷ 32 ∷ 32 ∷ 32 ∷ 32 ∷ 32 ∷ []) ≡ None
unfolding field digits point decimals nothing
no_id = refl
