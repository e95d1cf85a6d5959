-- What is promised of every plan's sheet, proved: plans that no planner made, and minus zero in them, included. Assumes nothing.
use Rattle.std.specs.Prelude.{ℕ, ◌≤◌, ◌<◌, ◌≡◌, Bool, true, cond, length, take}
use Rattle.std.proofs.Common.{sym, ap, ◌∙◌, subst, arith, lt-ltb, le-ltb}
use mathlib.Core.List.{List, []}
use Rattle.limits.specs.Limits.{answer_room, largest_answer}
use Rattle.job.specs.Job.{Job, read_job}
use Rattle.job.specs.Job as job
use Rattle.job.proofs.Sound.{accepted_sound}
use Rattle.plan.specs.Plan.{Plan}
use Rattle.answer.specs.Answer.{answer_bytes}
use Rattle.answer.proofs.Stores.{notice_length}
use Rattle.plan_bytes.specs.PlanBytes.{taken}
use Rattle.plan_bytes.specs.PlanBack.{Fair, taken_fair}
use Rattle.plan_bytes.specs.PlanNumbers.{every_within}
use Rattle.promise.specs.Stage.{Finished, answer_of, Told, sheet_drawn, after_sheet, told_bytes}
use Rattle.promise.proofs.BoardDemand.{Shaped}
use Rattle.promise.specs.Demand3.{crossing_bit}
use Rattle.promise.proofs.Demand.{kept_on_sheet, best_places}
use Rattle.promise.proofs.Flags.{on_grid_bit}
use Rattle.promise.proofs.Size.{Room, too_short, enough, room_of, over}
use Rattle.last_shift.proofs.Answered.{carried_of}
use Rattle.grid_promise.proofs.ExactShift.{shift_exact}
use Rattle.grid_promise.proofs.Theorem.{carried_on_grid}
use Rattle.grid_promise.proofs.Whole.{in_wholes, drawn_is, answer_from}
use Rattle.plan_stage.specs.Entries.{plan_for, plan_phase, after_taking, with_plan, draw_told, draw_written, draw_of}
use Rattle.plan_stage.specs.PlanDemand3.{ComesFrom, KeptFrom, Demand3From, Demand3InAnswerFrom, OnGridFrom, Demand3OnGridFrom, PromisedFrom}
use Rattle.plan_stage.proofs.OwnPlan.{own_plan}
use Rattle.plan_stage.proofs.EitherPlan.{ComesWith, CauseWith, a_refusal, a_sheet, cause_with, told_size, taken_shaped, taken_whole}

-- ---- the bytes

pub draw_short : (bytes plan : List ℕ) (room : ℕ) → room < answer_room → draw_written bytes plan room ≡ []
unfolding draw_written
draw_short bytes plan room h = ap (λ (t : Bool). cond t [] (told_bytes (draw_told bytes plan))) (lt-ltb room answer_room h)

pub draw_roomy : (bytes plan : List ℕ) (room : ℕ) → answer_room ≤ room → draw_written bytes plan room ≡ told_bytes (draw_told bytes plan)
unfolding draw_written
draw_roomy bytes plan room h = ap (λ (t : Bool). cond t [] (told_bytes (draw_told bytes plan))) (le-ltb room answer_room h)

pub draw_size : (bytes plan : List ℕ) (room : ℕ) → (length (draw_written bytes plan room) ≤ largest_answer) × (length (draw_written bytes plan room) ≤ room)
draw_size bytes plan room = go (room_of room)
  where
    go : Room room → (length (draw_written bytes plan room) ≤ largest_answer) × (length (draw_written bytes plan room) ≤ room)
    go (too_short h) = rw (draw_short bytes plan room h) (omega arith, omega arith)
    go (enough h) = let s = told_size true bytes plan in rw (draw_roomy bytes plan room h) (s, omega arith)

-- ---- a sheet that comes from a plan

module _ (bytes plan : List ℕ) (f : Finished) (c : ComesFrom bytes plan f) where
  fair : Fair f.said.flags.on_grid (length f.said.board.bundles) f.said.grants.tap_visits f.plan_used
  fair = taken_fair f.said.flags.on_grid (length f.said.board.bundles) f.said.grants.tap_visits plan f.plan_used c.is_taken

  shape : Shaped f.said.board f.plan_used.xs
  shape = taken_shaped f.said plan f.plan_used c.is_taken

  kept_from : (answer : List ℕ) → crossing_bit bytes ≡ 0 → answer ≡ answer_bytes (answer_of f) → KeptFrom bytes plan answer
  unfolding shape
  kept_from answer forbidden e = record {
    finished = f;
    is_written = e;
    comes = c;
    on_sheet = kept_on_sheet bytes f.said c.is_read f.plan_used f.sheet_made c.is_drawn forbidden shape;
    places = λ own.
        best_places bytes f.said c.is_read f.plan_used f.sheet_made c.is_drawn
        (own_plan bytes f.said c.is_read f.plan_used (subst (λ (z : List ℕ). plan_for f.said z ≡ taken f.plan_used) own c.is_taken));
  }

comes_from : (bytes plan : List ℕ) (f : Finished) → ComesWith true bytes plan f → ComesFrom bytes plan f
unfolding plan_phase
comes_from bytes plan f c = record { is_read = c.is_read; is_taken = c.is_taken; is_drawn = c.is_drawn }

-- an answer of more than six bytes is one for a sheet
sheet_told : (bytes plan answer : List ℕ) (t : Told) → CauseWith true bytes plan t → answer ≡ told_bytes t → 6 < length answer → crossing_bit bytes ≡ 0 → KeptFrom bytes plan answer
unfolding told_bytes
sheet_told bytes plan answer t (a_refusal n) e long forbidden = absurd (omega (arith, long, ap length e, notice_length n))
sheet_told bytes plan answer t (a_sheet f c) e long forbidden = kept_from bytes plan f (comes_from bytes plan f c) answer forbidden e

-- DEMAND 3 of every plan
pub demand_3_from : (bytes plan : List ℕ) (room : ℕ) → Demand3From bytes plan (draw_written bytes plan room)
demand_3_from bytes plan room long forbidden = go (room_of room)
  where
    go : Room room → KeptFrom bytes plan (draw_written bytes plan room)
    go (too_short h) = absurd (omega (arith, long, ap length (draw_short bytes plan room h)))
    go (enough h) = sheet_told bytes plan (draw_written bytes plan room) (draw_told bytes plan) (cause_with true bytes plan) (draw_roomy bytes plan room h) long forbidden

-- of the sheet in the answer
pub kept_in_answer_from : (bytes plan answer : List ℕ) → Demand3From bytes plan answer → Demand3InAnswerFrom bytes plan answer
kept_in_answer_from bytes plan answer h long forbidden =
    let k = h long forbidden in
    let f = k.finished in
    let c = k.comes in
    let v = fair bytes plan f c in
    record {
      kept = k;
      carried = carried_of bytes f.said c.is_read f.plan_used f.sheet_made c.is_drawn (every_within f.said.flags.on_grid f.plan_used.xs v.pass) v.real k.on_sheet;
    }

-- ---- with bit 2 set

drawn_from : (bytes plan : List ℕ) (j : Job) (p : Plan) → read_job bytes ≡ job.accepted j → plan_for j plan ≡ taken p → draw_told bytes plan ≡ after_sheet j p (sheet_drawn j p)
unfolding with_plan plan_phase after_taking
drawn_from bytes plan j p r t = rw (r, t)

pub grid_from : (bytes plan : List ℕ) (room : ℕ) → OnGridFrom bytes plan (draw_written bytes plan room)
grid_from bytes plan room any j r bit p t =
    let g = on_grid_bit bytes j r bit in
    let s = (accepted_sound bytes j r).0 in
    let w = taken_whole plan j g p t in
    let d = drawn_from bytes plan j p r t ∙ ap (λ (q : Plan). after_sheet j q (sheet_drawn j q)) w.is ∙ drawn_is j s g w.whole w.near in
    record {
      in_wholes = in_wholes j s g;
      whole_plan = w.whole;
      plan_is = w.is;
      near = w.near;
      told_is = d;
      answer_is = long_enough (room_of room) ∙ ap told_bytes d ∙ answer_from j s g w.whole w.near;
    }
  where
    long_enough : Room room → draw_written bytes plan room ≡ told_bytes (draw_told bytes plan)
    long_enough (too_short l) = absurd (omega (arith, any, ap length (draw_short bytes plan room l)))
    long_enough (enough l) = draw_roomy bytes plan room l

pub kept_on_grid_from : (bytes plan answer : List ℕ) → Demand3InAnswerFrom bytes plan answer → Demand3OnGridFrom bytes plan answer
kept_on_grid_from bytes plan answer h long forbidden bit =
    let k = h long forbidden in
    let f = k.kept.finished in
    let c = k.kept.comes in
    let j = f.said in
    let g = on_grid_bit bytes j c.is_read bit in
    let w = taken_whole plan j g f.plan_used c.is_taken in
    let e = shift_exact bytes j c.is_read g w.whole w.near f.sheet_made (ap (sheet_drawn j) (sym w.is) ∙ c.is_drawn) in
    record { kept = k; on_grid = carried_on_grid _ _ _ k.carried e }

-- ---- of what stands in the buffer

pub promised_from : (bytes plan : List ℕ) (room : ℕ) → PromisedFrom bytes plan (draw_written bytes plan room)
promised_from bytes plan room =
    let d = demand_3_from bytes plan room in
    let a = kept_in_answer_from bytes plan (draw_written bytes plan room) d in
    record { demand = d; in_answer = a; on_grid = grid_from bytes plan room; in_answer_on_grid = kept_on_grid_from bytes plan (draw_written bytes plan room) a }

pub promised_in_from : (bytes plan buffer after : List ℕ) (n : ℕ) → after ≡ draw_of bytes plan buffer → n ≡ length (draw_written bytes plan (length buffer)) → PromisedFrom bytes plan (take n after)
promised_in_from bytes plan buffer after n e h =
    subst (PromisedFrom bytes plan)
    (sym (ap (take n) e ∙ ap (λ (k : ℕ). take k (draw_of bytes plan buffer)) h ∙ (over buffer (draw_written bytes plan (length buffer)) (draw_size bytes plan (length buffer)).1).at_front))
    (promised_from bytes plan (length buffer))
