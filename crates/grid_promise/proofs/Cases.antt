-- Jobs with bit 2 set, from their bytes to the bytes written: one that is accepted, one that gets 15, and the same bytes with bit 2 clear.
-- Assumes nothing.
use Rattle.std.specs.Prelude.{◌≡◌, refl, [], ◌∷◌, replicate}
use Rattle.std.specs.Float.Ieee.{of_bits, to_bits, lt, le, eq, ne}
use Rattle.limits.specs.Limits.{answer_room}
use Rattle.binary64.specs.Accepted.{minus_zero, plus_zero, accepted}
use Rattle.wire.specs.Bytes.{number_on, bytes}
use Rattle.wire.specs.Read.{after, field, limited, many}
use Rattle.wire.specs.Accept.{gridded, taken, number_of}
use Rattle.job.specs.Keys.{twice, known_then, each}
use Rattle.job.specs.Job.{flags_of, within_total, next_edge, next_bundle, ended, some_twice, resolved, or_nine, settled, outcome, fields, version, lengths_fit, read_job}
use Rattle.plan.specs.Depths.{offsets_from}
use Rattle.plan.specs.Plan.{indices_from, first_pass, components}
use Rattle.drawing.specs.Sheet.{turns_from, sheet_of}
use Rattle.drawing.specs.Normal.{route_points, drawn_points, all_points, least_of, greatest_of, min_x, min_y, moved, width_of, height_of, page_of}
use Rattle.answer.specs.Answer.{all_bytes, counts_bytes, head_bytes, body_bytes, answer_bytes, notice_bytes, lines_of}
use Rattle.promise.specs.Stage.{bundles_told, page_told, after_sheet, after_plan, after_reading, told_bytes, written}
use Rattle.grid.specs.DraftingGrid.{multiple_within}

-- document 01's smallest job with bit 2 set is answered as without it
pub smallest_on_grid : written (0 ∷ 0 ∷ 0 ∷ 58 ∷ 1 ∷ 4 ∷ replicate 56 0) answer_room ≡ 0 ∷ 0 ∷ 0 ∷ 32 ∷ 1 ∷ 0 ∷ replicate 30 0
unfolding written told_bytes after_reading read_job lengths_fit number_on outcome field version fields after flags_of taken gridded number_of accepted minus_zero plus_zero of_bits to_bits lt le eq ne limited many within_total next_edge next_bundle ended settled some_twice twice or_nine resolved each known_then after_plan first_pass indices_from components offsets_from turns_from after_sheet sheet_of page_told page_of moved min_x min_y least_of greatest_of all_points route_points drawn_points width_of height_of lines_of bundles_told answer_bytes body_bytes head_bytes counts_bytes all_bytes bytes multiple_within notice_bytes
smallest_on_grid = refl

-- a port_stub of 1/128 is off the grid
pub fifteen : written (0 ∷ 0 ∷ 0 ∷ 58 ∷ 1 ∷ 4 ∷ 63 ∷ 128 ∷ replicate 54 0) answer_room ≡ 0 ∷ 0 ∷ 0 ∷ 2 ∷ 1 ∷ 15 ∷ []
unfolding written told_bytes after_reading read_job lengths_fit number_on outcome field version fields after flags_of taken gridded number_of accepted minus_zero plus_zero of_bits to_bits lt le eq ne limited many within_total next_edge next_bundle ended settled some_twice twice or_nine resolved each known_then after_plan first_pass indices_from components offsets_from turns_from after_sheet sheet_of page_told page_of moved min_x min_y least_of greatest_of all_points route_points drawn_points width_of height_of lines_of bundles_told answer_bytes body_bytes head_bytes counts_bytes all_bytes bytes multiple_within notice_bytes
fifteen = refl

-- and taken with bit 2 clear
pub off_grid_taken : written (0 ∷ 0 ∷ 0 ∷ 58 ∷ 1 ∷ 0 ∷ 63 ∷ 128 ∷ replicate 54 0) answer_room ≡ 0 ∷ 0 ∷ 0 ∷ 32 ∷ 1 ∷ 0 ∷ replicate 30 0
unfolding written told_bytes after_reading read_job lengths_fit number_on outcome field version fields after flags_of taken gridded number_of accepted minus_zero plus_zero of_bits to_bits lt le eq ne limited many within_total next_edge next_bundle ended settled some_twice twice or_nine resolved each known_then after_plan first_pass indices_from components offsets_from turns_from after_sheet sheet_of page_told page_of moved min_x min_y least_of greatest_of all_points route_points drawn_points width_of height_of lines_of bundles_told answer_bytes body_bytes head_bytes counts_bytes all_bytes bytes multiple_within notice_bytes
off_grid_taken = refl
