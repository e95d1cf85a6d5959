-- Plans at the edges of document 02's F-5: what 17 and 18 are given for, and in which order. Assumes nothing.
use Rattle.std.specs.Prelude.{ℕ, ◌≡◌, refl, true, false, List, [], ◌∷◌, pos, negsuc, Float}
use Rattle.std.specs.Float.{fin}
use Rattle.std.specs.Float.Ieee.{of_bits, to_bits, le, lt, eq}
use Rattle.binary64.specs.Accepted.{minus_zero, plus_zero, accepted}
use Rattle.grid.specs.DraftingGrid.{multiple_within}
use Rattle.wire.specs.Bytes as wire
use Rattle.wire.specs.Bytes.{number_on}
use Rattle.wire.specs.Read.{after, field, list_of}
use Rattle.answer.specs.Answer.{all_bytes}
use Rattle.plan.specs.declared.Bound.TheVariants.{None, At}
use Rattle.plan_bytes.specs.PlanBytes.{entry_bytes, body_bytes, plan_bytes, marked, versioned, Taken, rejected, taken, every_planned, plannable, settled, length_fits, read_plan}

-- a plan with five visits left, and so many bytes of entries behind them
abbrev with_entries : ℕ → List ℕ → List ℕ
with_entries n es = 0 ∷ 0 ∷ 0 ∷ n ∷ 1 ∷ 0 ∷ 0 ∷ 0 ∷ 5 ∷ es

-- one bundle whose number has these bytes, of which the last two are zero
abbrev with_number : ℕ → ℕ → ℕ → ℕ → ℕ → ℕ → List ℕ
with_number a b c d e f = with_entries 14 (1 ∷ a ∷ b ∷ c ∷ d ∷ e ∷ f ∷ 0 ∷ 0 ∷ [])

abbrev planned : Float → Taken
planned x = taken (record { xs = At x ∷ []; left = 5 })

-- the form
pub written : plan_bytes (record { xs = None ∷ At (fin true 0 (pos 0)) ∷ []; left = 5 }) ≡ with_entries 15 (0 ∷ 1 ∷ 128 ∷ 0 ∷ 0 ∷ 0 ∷ 0 ∷ 0 ∷ 0 ∷ 0 ∷ [])
unfolding plan_bytes body_bytes entry_bytes all_bytes wire.bytes to_bits
written = refl

-- ---- 17

-- as many visits as granted, and one more
pub visits : (read_plan false 1 5 (with_entries 6 (0 ∷ [])) ≡ taken (record { xs = None ∷ []; left = 5 })) × (read_plan false 1 4 (with_entries 6 (0 ∷ [])) ≡ rejected 17)
unfolding read_plan length_fits settled versioned marked list_of after field number_on every_planned
visits = (refl, refl)

-- an entry too few and an entry too many for the job's bundles
pub entries : (read_plan false 2 5 (with_entries 6 (0 ∷ [])) ≡ rejected 17) × (read_plan false 0 5 (with_entries 6 (0 ∷ [])) ≡ rejected 17)
unfolding read_plan length_fits settled versioned marked list_of after field number_on every_planned
entries = (refl, refl)

-- a length that is one too large; three bytes; version 2; mark 2
pub form : (read_plan false 1 5 (with_entries 7 (0 ∷ [])) ≡ rejected 17) × (read_plan false 1 5 (0 ∷ 0 ∷ 0 ∷ []) ≡ rejected 17) × (read_plan false 1 5 (0 ∷ 0 ∷ 0 ∷ 6 ∷ 2 ∷ 0 ∷ 0 ∷ 0 ∷ 5 ∷ 0 ∷ []) ≡ rejected 17) × (read_plan false 1 5 (with_entries 6 (2 ∷ [])) ≡ rejected 17)
unfolding read_plan length_fits settled versioned marked list_of after field number_on every_planned
form = (refl, refl, refl, refl)

-- ---- 18

-- minus zero stays where bit 2 is clear
pub zeros : (read_plan false 1 5 (with_number 128 0 0 0 0 0) ≡ planned (fin true 0 (pos 0))) × (read_plan true 1 5 (with_number 128 0 0 0 0 0) ≡ rejected 18) × (read_plan true 1 5 (with_number 0 0 0 0 0 0) ≡ planned (fin false 0 (pos 0)))
unfolding read_plan length_fits settled versioned marked list_of after field number_on every_planned plannable accepted minus_zero plus_zero multiple_within of_bits le lt eq
zeros = (refl, refl, refl)

-- 2^30 and -2^30; 2^31, infinity and a NaN
pub range : (read_plan false 1 5 (with_number 65 208 0 0 0 0) ≡ planned (fin false 1 (pos 30))) × (read_plan false 1 5 (with_number 193 208 0 0 0 0) ≡ planned (fin true 1 (pos 30))) × (read_plan false 1 5 (with_number 65 224 0 0 0 0) ≡ rejected 18) × (read_plan false 1 5 (with_number 127 240 0 0 0 0) ≡ rejected 18) × (read_plan false 1 5 (with_number 127 248 0 0 0 0) ≡ rejected 18)
unfolding read_plan length_fits settled versioned marked list_of after field number_on every_planned plannable accepted minus_zero plus_zero multiple_within of_bits le lt eq
range = (refl, refl, refl, refl, refl)

-- 1/128 and 2^20 pass with bit 2 set; 1/256, and 2^20 and 1/128 more, without it
pub grid : (read_plan true 1 5 (with_number 63 128 0 0 0 0) ≡ planned (fin false 1 (negsuc 6))) × (read_plan true 1 5 (with_number 65 48 0 0 0 0) ≡ planned (fin false 1 (pos 20)))
    × (read_plan true 1 5 (with_number 63 112 0 0 0 0) ≡ rejected 18) × (read_plan false 1 5 (with_number 63 112 0 0 0 0) ≡ planned (fin false 1 (negsuc 7)))
    × (read_plan true 1 5 (with_number 65 48 0 0 2 0) ≡ rejected 18) × (read_plan false 1 5 (with_number 65 48 0 0 2 0) ≡ planned (fin false 134217729 (negsuc 6)))
unfolding read_plan length_fits settled versioned marked list_of after field number_on every_planned plannable accepted minus_zero plus_zero multiple_within of_bits le lt eq
grid = (refl, refl, refl, refl, refl, refl)

-- ---- all of 17 before 18: a NaN, with a mark behind it that is none, and with a visit more than granted
pub seventeen_first : (read_plan false 2 5 (with_entries 15 (1 ∷ 127 ∷ 248 ∷ 0 ∷ 0 ∷ 0 ∷ 0 ∷ 0 ∷ 0 ∷ 2 ∷ [])) ≡ rejected 17) × (read_plan false 1 4 (with_number 127 248 0 0 0 0) ≡ rejected 17)
unfolding read_plan length_fits settled versioned marked list_of after field number_on every_planned plannable accepted minus_zero plus_zero multiple_within of_bits le lt eq
seventeen_first = (refl, refl)
