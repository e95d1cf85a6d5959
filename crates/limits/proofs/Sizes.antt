-- The two sizes that document 01 states follow from the limits, and both fit their buffers; the size of the largest plan. Assumes nothing.
use Rattle.std.specs.Prelude.{◌≤◌, ◌≡◌, refl}
use Rattle.std.proofs.Common.{arith}
use Rattle.limits.specs.Limits.{job_room, answer_room, plan_room, largest_job, largest_answer, line_bytes, page_room}

-- "The largest job is 49,566 bytes"; an answer has "At most 52,484 bytes"
pub sizes : (largest_job ≡ 49566) × (largest_answer ≡ 52484)
sizes = (refl, refl)

pub fits : (largest_job ≤ job_room) × (largest_answer ≤ answer_room)
fits = (omega arith, omega arith)

-- document 02's "Each line has 76 bytes"
pub page_sizes : (line_bytes ≡ 76) × (page_room ≡ 2432)
page_sizes = (refl, refl)

-- the largest plan of F-5
pub plan_size : plan_room ≡ 297
plan_size = refl
