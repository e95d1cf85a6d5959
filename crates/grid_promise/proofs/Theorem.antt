-- F-2, proved of every job's bytes and of the bytes that stand in the answer's buffer for them. Assumes nothing.
use Rattle.std.specs.Prelude.{ℕ, ◌%◌, ◌<◌, ◌≡◌, Bool, true, List, length, get_or, take}
use Rattle.std.proofs.Common.{arith, sym, ap, ◌∙◌, subst, inl, inr, true≢false}
use Rattle.limits.specs.Limits.{answer_room}
use Rattle.board.specs.Board.{Board}
use Rattle.job.specs.Job.{Job, read_job}
use Rattle.job.specs.Job as job
use Rattle.job.proofs.Sound.{accepted_sound}
use Rattle.plan.specs.Plan as plan
use Rattle.drawing.specs.Sheet.{Turn, Progress}
use Rattle.drawing.specs.Normal as drawing
use Rattle.answer.specs.Answer.{Sheet, notice_bytes}
use Rattle.answer.proofs.Stores.{answer_length, notice_length}
use Rattle.ranges.proofs.Thirteen.{is_refused}
use Rattle.promise.specs.Stage.{answer_of, Told, planned, told, told_bytes, written, stage_of}
use Rattle.promise.specs.Due.{Stops, ten, eleven, twelve, Due, two, in_reading, thirteen, fourteen, in_sheet}
use Rattle.promise.proofs.Refusals.{ReaderNumber, reader_numbers, due_read}
use Rattle.promise.proofs.Flags.{on_grid_bit}
use Rattle.promise.proofs.Size.{Cause, a_refusal, a_sheet, cause, clamp_is, Room, too_short, enough, room_of, short, roomy, notice_byte, written_over}
use Rattle.last_shift.specs.InAnswer.{Carried, Demand3InAnswer}
use Rattle.last_shift.specs.Shift.{ShiftExact, NodesExact}
use Rattle.grid_promise.specs.Grid.{whole_sheet, as_told, OnGrid}
use Rattle.grid_promise.specs.GridAnswer.{CarriedOnGrid, Demand3OnGrid}
use Rattle.grid_promise.proofs.Whole.{in_wholes, plan_is, told_is, answer_is, read_so}
use Rattle.grid_promise.proofs.ExactShift.{own_shift_exact}

-- ---- number 13
stops_13 : (b : Board) (allow : Bool) (t : Turn) (s : Progress) (n : ℕ) → Stops b allow t s n → n ≡ 13 → ⊥
stops_13 b allow t s n (ten e) q = omega arith
stops_13 b allow t s n (eleven rs e m f v g) q = omega arith
stops_13 b allow t s n (twelve rs e v f) q = omega arith

reader_13 : (n : ℕ) → ReaderNumber n → n ≡ 13 → ⊥
reader_13 n (inl h) q = omega (arith, h.1)
reader_13 n (inr e) q = omega arith

one_job : (j i : Job) → ◌≡◌ {A = job.Outcome} (job.accepted i) (job.accepted j) → i ≡ j
one_job j i e = cc

-- it is due only where the plan is refused
due_13 : (bytes : List ℕ) (room n : ℕ) → Due bytes room n → n ≡ 13 → (j : Job) → read_job bytes ≡ job.accepted j → is_refused (planned j) ≡ true
due_13 bytes room n (two l) q j r = absurd (omega arith)
due_13 bytes room n (in_reading l m d) q j r = absurd (reader_13 m (reader_numbers bytes m (due_read bytes m d)) q)
due_13 bytes room n (thirteen l i e h) q j r = subst (λ (k : Job). is_refused (planned k) ≡ true) (one_job j i (sym e ∙ r)) (clamp_is i ∙ h)
due_13 bytes room n (fourteen l i e p f s) q j r = absurd (omega arith)
due_13 bytes room n (in_sheet l i e p f t s a m d) q j r = absurd (stops_13 i.board i.flags.permits_crossings t s m d q)

not_13 : (bytes : List ℕ) (j : Job) (p : plan.Plan) → read_job bytes ≡ job.accepted j → planned j ≡ plan.going p → (t : Told) → Cause bytes t → told_bytes t ≡ notice_bytes 13 → ⊥
unfolding told_bytes
not_13 bytes j p r f t (a_refusal n h d) e =
    let k : n % 256 ≡ 13 % 256 = sym (notice_byte n) ∙ ap (λ (l : List ℕ). get_or l 5 1) e ∙ notice_byte 13 in
    let q : n ≡ 13 = omega (arith, k, h.0, h.1) in
    true≢false (sym (due_13 bytes answer_room n (d answer_room (omega arith)) q j r) ∙ ap is_refused f)
not_13 bytes j p r f t (a_sheet u c) e = omega (arith, answer_length (answer_of u), notice_length 13, ap length e)

-- ---- where any byte is written, the buffer was long enough
long_enough : (bytes : List ℕ) (room : ℕ) → 0 < length (written bytes room) → written bytes room ≡ told_bytes (told bytes)
long_enough bytes room h = go (room_of room)
  where
    go : Room room → written bytes room ≡ told_bytes (told bytes)
    go (too_short l) = absurd (omega (arith, h, ap length (short bytes room l)))
    go (enough l) = roomy bytes room l

-- THE THEOREM
pub grid : (bytes : List ℕ) (room : ℕ) → OnGrid bytes (written bytes room)
grid bytes room any j e bit =
    let g = on_grid_bit bytes j e bit in
    let s = (accepted_sound bytes j e).0 in
    let t : told bytes ≡ as_told j (whole_sheet j) = read_so bytes j e ∙ told_is j s g in
    let w = long_enough bytes room any in
    record {
      in_wholes = in_wholes j s g;
      plan_is = plan_is j s g;
      told_is = t;
      answer_is = w ∙ ap told_bytes t ∙ answer_is j s g;
      never_13 = λ q. not_13 bytes j _ e (plan_is j s g) (told bytes) (cause bytes) (sym w ∙ q);
    }

-- of what stands in the buffer
pub grid_in : (bytes buffer after : List ℕ) (n : ℕ) → after ≡ stage_of bytes buffer → n ≡ length (written bytes (length buffer)) → OnGrid bytes (take n after)
grid_in bytes buffer after n e h =
    subst (OnGrid bytes)
    (sym (ap (take n) e ∙ ap (λ (k : ℕ). take k (stage_of bytes buffer)) h ∙ (written_over bytes buffer).at_front))
    (grid bytes (length buffer))

-- where the last shift is exact, of the nodes too
pub carried_on_grid : (b : Board) (s : drawing.Sheet) (a : Sheet) → Carried b s a → ShiftExact s × NodesExact s → CarriedOnGrid b s a
carried_on_grid b s a k e = record { joints = k.joints e.0; members_out = k.members_out e.0 e.1; stands = k.stands e.0 }

-- DEMAND 3 OF THE SHEET IN THE ANSWER, with no condition
pub kept_on_grid : (bytes answer : List ℕ) → Demand3InAnswer bytes answer → Demand3OnGrid bytes answer
kept_on_grid bytes answer h long forbidden bit =
    let k = h long forbidden in
    let c = k.kept.comes in
    let e = own_shift_exact bytes k.kept.sheet c (on_grid_bit bytes c.said c.is_read bit) in
    record { kept = k; on_grid = carried_on_grid _ _ _ k.carried e }
