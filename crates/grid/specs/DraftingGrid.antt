-- The grids of document 02's F-2 and F-5: multiples of 1/64 and of 1/128 with magnitude at most 2^20. Definitions only.
-- Assumes nothing.
use Rattle.std.specs.Prelude.{ℕ, ◌*◌, ◌/◌, ◌%◌, ◌^◌, Bool, false, ◌&&◌, cond, ℤ, pos, neg_ℤ, ◌+ℤ◌, eqb, leb, Float}
use Rattle.std.specs.Float.{nan, inf, fin}
use Rattle.std.specs.Float.Ieee.{up, down}

-- a multiple of 1 / 2 ^ g with magnitude at most 2 ^ 20
unfoldable pub multiple_within : ℕ → Float → Bool
multiple_within g nan = false
multiple_within g (inf s) = false
multiple_within g (fin s m e) = eqb (m * up e * 2 ^ g % down e) 0 && leb (m * up e) (2 ^ 20 * down e)

-- F-2: "multiples of 1/64 with magnitude at most 2^20"
abbrev pub on_drafting_grid : Float → Bool
on_drafting_grid = multiple_within 6

-- F-5, of a planned number: a multiple of 1/128, and not above 2^20 in magnitude
abbrev pub on_plan_grid : Float → Bool
on_plan_grid = multiple_within 7

-- so many parts of 1 / 2 ^ g
unfoldable pub parts_of : ℕ → Float → ℤ
parts_of g nan = pos 0
parts_of g (inf s) = pos 0
parts_of g (fin s m e) = cond s (neg_ℤ (pos (m * up e * 2 ^ g / down e))) (pos (m * up e * 2 ^ g / down e))

-- so many 64ths
abbrev pub sixty_fourths : Float → ℤ
sixty_fourths = parts_of 6

-- and so many 128ths
abbrev pub units : Float → ℤ
units x = sixty_fourths x +ℤ sixty_fourths x
