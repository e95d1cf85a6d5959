-- F-1, "The answer is that of the same job with plus zeros": for any bytes and any buffer, of bytes that are refused too. Assumes nothing.
use Rattle.std.specs.Prelude.{ℕ, ◌≡◌, cond, List, [], ltb, length}
use Rattle.std.proofs.Common.{ap}
use Rattle.std.proofs.lemmas.List.Edits.{sets}
use Rattle.limits.specs.Limits.{answer_room}
use Rattle.promise.specs.Stage.{Told, told, told_bytes, after_reading, written, stage_of}
use Rattle.plus_zeros.specs.Places.{with_plus_zeros}
use Rattle.plus_zeros.proofs.SameJob.{same_job}

-- the sheet, or the number of the refusal
pub same_told : (bytes : List ℕ) → told (with_plus_zeros bytes) ≡ told bytes
same_told bytes = ap after_reading (same_job bytes)

-- the bytes written
pub same_written : (bytes : List ℕ) (room : ℕ) → written (with_plus_zeros bytes) room ≡ written bytes room
unfolding written
same_written bytes room = ap (λ (t : Told). cond (ltb room answer_room) [] (told_bytes t)) (same_told bytes)

-- every byte of the buffer
pub same_answer : (bytes buffer : List ℕ) → stage_of (with_plus_zeros bytes) buffer ≡ stage_of bytes buffer
same_answer bytes buffer = ap (λ (l : List ℕ). sets buffer 0 l) (same_written bytes (length buffer))
