-- Document 01's smallest job and the notice for no bytes, by the definitions: so not every job is refused, and no fixed sheet is the answer to every accepted one.
-- Assumes nothing.
use Rattle.std.specs.Prelude.{◌≡◌, refl, List, [], ◌∷◌, ◌++◌, ℕ, ◌<◌, length, get_or, replicate}
use Rattle.std.proofs.Common.{sym, ap, ◌∙◌, arith}
use Rattle.std.specs.Float.Ieee.{of_bits, to_bits, lt, le, eq, ne}
use Rattle.limits.specs.Limits.{answer_room}
use Rattle.binary64.specs.Accepted.{minus_zero, plus_zero, accepted}
use Rattle.wire.specs.Bytes.{number_on, bytes}
use Rattle.wire.specs.Read.{after, field, limited, many}
use Rattle.wire.specs.Accept.{gridded, taken, number_of}
use Rattle.job.specs.Keys.{twice, known_then, each}
use Rattle.job.specs.Job.{flags_of, within_total, next_edge, next_bundle, ended, some_twice, resolved, or_nine, settled, outcome, fields, version, lengths_fit, read_job}
use Rattle.plan.specs.Depths.{offsets_from}
use Rattle.plan.specs.Plan.{indices_from, first_pass, components}
use Rattle.drawing.specs.Sheet.{turns_from, sheet_of}
use Rattle.drawing.specs.Normal.{route_points, drawn_points, all_points, least_of, greatest_of, min_x, min_y, moved, width_of, height_of, page_of}
use Rattle.answer.specs.Answer.{all_bytes, counts_bytes, head_bytes, body_bytes, answer_bytes, notice_bytes, lines_of}
use Rattle.promise.specs.Stage.{bundles_told, page_told, after_sheet, after_plan, after_reading, told_bytes, written}

-- 00 00 00 3A 01 00 and 56 zero bytes
abbrev smallest_job : List ℕ
smallest_job = 0 ∷ 0 ∷ 0 ∷ 58 ∷ 1 ∷ 0 ∷ replicate 56 0

-- gives 00 00 00 20 01 00 and 30 zero bytes
pub smallest_answer : written smallest_job answer_room ≡ 0 ∷ 0 ∷ 0 ∷ 32 ∷ 1 ∷ 0 ∷ replicate 30 0
unfolding written told_bytes after_reading read_job lengths_fit number_on outcome field version fields after flags_of taken gridded number_of accepted minus_zero plus_zero of_bits to_bits lt le eq ne limited many within_total next_edge next_bundle ended settled some_twice twice or_nine resolved each known_then after_plan first_pass indices_from components offsets_from turns_from after_sheet sheet_of page_told page_of moved min_x min_y least_of greatest_of all_points route_points drawn_points width_of height_of lines_of bundles_told answer_bytes body_bytes head_bytes counts_bytes all_bytes bytes
smallest_answer = refl

pub smallest_notice : written [] answer_room ≡ 0 ∷ 0 ∷ 0 ∷ 2 ∷ 1 ∷ 1 ∷ []
unfolding written told_bytes after_reading read_job lengths_fit notice_bytes bytes
smallest_notice = refl

-- the same job with a tap grant of 1: the answer says that 1 is left
abbrev one_visit_job : List ℕ
one_visit_job = 0 ∷ 0 ∷ 0 ∷ 58 ∷ 1 ∷ 0 ∷ replicate 43 0 ++ (1 ∷ replicate 12 0)

pub one_visit_answer : written one_visit_job answer_room ≡ 0 ∷ 0 ∷ 0 ∷ 32 ∷ 1 ∷ 0 ∷ 0 ∷ 0 ∷ 0 ∷ 1 ∷ replicate 26 0
unfolding written told_bytes after_reading read_job lengths_fit number_on outcome field version fields after flags_of taken gridded number_of accepted minus_zero plus_zero of_bits to_bits lt le eq ne limited many within_total next_edge next_bundle ended settled some_twice twice or_nine resolved each known_then after_plan first_pass indices_from components offsets_from turns_from after_sheet sheet_of page_told page_of moved min_x min_y least_of greatest_of all_points route_points drawn_points width_of height_of lines_of bundles_told answer_bytes body_bytes head_bytes counts_bytes all_bytes bytes
one_visit_answer = refl

-- ONE FIXED SHEET is not the answer to every job that is accepted
pub no_fixed_sheet : (w : List ℕ) → ((job : List ℕ) → 6 < length (written job answer_room) → written job answer_room ≡ w) → ⊥
no_fixed_sheet w h =
    let a : length (written smallest_job answer_room) ≡ 36 = ap length smallest_answer in
    let b : length (written one_visit_job answer_room) ≡ 36 = ap length one_visit_answer in
    let c = ap (λ (l : List ℕ). get_or l 9 0) (sym smallest_answer ∙ h smallest_job (omega (arith, a))) in
    let d = ap (λ (l : List ℕ). get_or l 9 0) (sym one_visit_answer ∙ h one_visit_job (omega (arith, b))) in
    omega (arith, c, d)
