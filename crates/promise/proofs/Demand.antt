-- Demand 3, proved whole: for every job's bytes and every length of the answer's buffer. Assumes nothing.
use Rattle.std.specs.Prelude.{ℕ, zero, suc, ◌<◌, ◌≡◌, refl, Bool, List, [], ◌∷◌, length, take}
use Rattle.std.proofs.Common.{sym, ap, ◌∙◌, arith}
use Rattle.std.proofs.Math.Path.{subst}
use Rattle.std.proofs.Math.ListN.{length-map}
use Rattle.geometry.specs.Points.{Route}
use Rattle.board.specs.declared.Bundle.{Bundle}
use Rattle.board.specs.Board.{Board, route_of}
use Rattle.job.specs.Job.{Job, given_routes, read_job}
use Rattle.job.specs.Job as job
use Rattle.plan.specs.Plan.{Plan, plan_of}
use Rattle.plan.specs.Plan as plan
use Rattle.plan.specs.declared.Bound.TheVariants.{None}
use Rattle.plan.proofs.SmallNumbers.{Numbers}
use Rattle.plan.proofs.Numbers.{FairRange, bounds_fair, trunks_real}
use Rattle.drawing.specs.Sheet.{Turn, Progress, Outcome, going, after_turn, turn, sheet_of, blank}
use Rattle.drawing.proofs.Assembly.{turn_went}
use Rattle.answer.specs.Answer.{Sheet, answer_bytes}
use Rattle.answer.proofs.Stores.{notice_length}
use Rattle.promise.specs.Order.{turns_of, drawn_of}
use Rattle.promise.specs.Stage.{Comes, answer_of, Told, planned, sheet_drawn, told, told_bytes, written, stage_of}
use Rattle.promise.proofs.BoardDemand.{Readable, Shaped, own_shaped, routes_length, sheet_fine, drawn_length, joints, places}
use Rattle.promise.proofs.Joints.{all_finite}
use Rattle.promise.proofs.Read.{readable}
use Rattle.promise.proofs.Flags.{no_separation, no_crossings}
use Rattle.promise.proofs.Size.{Cause, a_refusal, a_sheet, comes_of, cause, Room, too_short, enough, room_of, short, roomy, written_over}
use Rattle.promise.specs.Demand3.{FiniteLimits, crossing_bit, KeptOnSheet, BestPlaces, Kept, Demand3}

-- ---- an answer of more than six bytes is one for a sheet

pub record Answered (bytes : List ℕ) (room : ℕ) : Type 0 where
  pub sheet : Sheet
  pub is_written : written bytes room ≡ answer_bytes sheet
  pub comes : Comes bytes sheet

answered : (bytes : List ℕ) (room : ℕ) → 6 < length (written bytes room) → Answered bytes room
unfolding told_bytes
answered bytes room long = go (room_of room)
  where
    of_cause : (t : Told) → Cause bytes t → written bytes room ≡ told_bytes t → Answered bytes room
    of_cause t (a_refusal n h d) e = absurd (omega (arith, long, ap length e, notice_length n))
    of_cause t (a_sheet f c) e = record { sheet = answer_of f; is_written = e; comes = comes_of bytes f c }

    go : Room room → Answered bytes room
    go (too_short h) = absurd (omega (arith, long, ap length (short bytes room h)))
    go (enough h) = of_cause (told bytes) (cause bytes) (roomy bytes room h)

-- ---- a sheet that is drawn stood before each turn

before : (b : Board) (allow : Bool) (ts : List Turn) (s u : Progress) (k : ℕ) → sheet_of b allow ts s ≡ going u → (v : Progress) × (sheet_of b allow (take k ts) s ≡ going v)
unfolding sheet_of after_turn
before b allow ts s u zero e = (s, refl)
before b allow [] s u (suc k) e = (s, refl)
before b allow (t ∷ ts) s u (suc k) e =
    let r = turn_went (turn b allow t s) (λ x. sheet_of b allow ts x) u e in
    let v = before b allow ts r.0 u k r.2 in
    (v.0, ap (λ (o : Outcome). after_turn o (λ x. sheet_of b allow (take k ts) x)) r.1 ∙ v.1)

-- ---- finite numbers

limits_finite : (b : Board) (given : List Route) → Numbers b given → (u : Bundle) → FiniteLimits b given u
limits_finite b given n u = record {
  bounds = λ r e. let f = subst (FairRange b given n u.role) e (bounds_fair b given n u None None tt tt) in (f.minimum_real, f.maximum_real);
  stretches = trunks_real b given n u;
}

-- ---- the whole

-- of a job that is read and a sheet that is drawn, whatever the plan
module _ (bytes : List ℕ) (j : Job) (is_read : read_job bytes ≡ job.accepted j) (p : Plan) (u : Progress) (is_drawn : sheet_drawn j p ≡ going u) where
  fit : Readable j.board (given_routes j)
  fit = readable bytes j is_read

  abbrev permits : Bool
  permits = j.flags.permits_crossings

  abbrev taps : ℕ
  taps = j.grants.tap_visits

  abbrev visits : ℕ
  visits = j.grants.geometry_visits

  -- the first three sentences: of every plan that can be drawn
  pub kept_on_sheet : crossing_bit bytes ≡ 0 → Shaped j.board p.xs → KeptOnSheet j u
  unfolding fit
  kept_on_sheet forbidden shape =
      let b = j.board in
      let given = given_routes j in
      let xs = p.xs in
      let off = no_crossings bytes j is_read forbidden in
      let drawn = subst (λ (z : Bool). drawn_of b z given xs visits ≡ going u) off is_drawn in
      record {
        each_routed = routes_length b given permits xs visits u is_drawn ∙ length-map b.edges (route_of j.points);
        each_drawn = drawn_length b given fit xs shape visits permits u is_drawn;
        all_finite = all_finite u (sheet_fine b given fit xs shape visits permits u is_drawn);
        limits_finite = limits_finite b given fit.limits.numbers;
        joints = joints b given fit xs shape visits u drawn;
      }

  -- the last: of our own plan
  pub best_places : planned j ≡ plan.going p → BestPlaces bytes j p u
  unfolding fit
  best_places own off sufficient k h lone =
      let b = j.board in
      let given = given_routes j in
      let off' = no_separation bytes j is_read off in
      let made = subst (λ (z : Bool). plan_of b given z taps ≡ plan.going p) off' own in
      let v = before b permits (turns_of b p.xs) (blank given visits) u k is_drawn in
      record {
        before = v.0;
        is_before = v.1;
        stands = places b given fit permits taps visits p u made sufficient is_drawn k h lone v.0.routes;
      }

kept : (bytes answer : List ℕ) (s : Sheet) → Comes bytes s → crossing_bit bytes ≡ 0 → answer ≡ answer_bytes s → Kept bytes answer
kept bytes answer s c forbidden e =
    let j = c.said in
    let fit = readable bytes j c.is_read in
    let shape = own_shaped j.board (given_routes j) fit j.flags.separates_collectors j.grants.tap_visits c.plan_made c.is_planned in
    record {
      sheet = s;
      is_written = e;
      comes = c;
      on_sheet = kept_on_sheet bytes j c.is_read c.plan_made c.sheet_made c.is_drawn forbidden shape;
      places = best_places bytes j c.is_read c.plan_made c.sheet_made c.is_drawn c.is_planned;
    }

-- THE THEOREM
pub demand_3 : (bytes : List ℕ) (room : ℕ) → Demand3 bytes (written bytes room)
demand_3 bytes room long forbidden =
    let a = answered bytes room long in
    kept bytes (written bytes room) a.sheet a.comes forbidden a.is_written

-- of what stands in the buffer
pub demand_in : (bytes buffer after : List ℕ) (n : ℕ) → after ≡ stage_of bytes buffer → n ≡ length (written bytes (length buffer)) → Demand3 bytes (take n after)
demand_in bytes buffer after n e h =
    subst (Demand3 bytes)
    (sym (ap (take n) e ∙ ap (λ (k : ℕ). take k (stage_of bytes buffer)) h ∙ (written_over bytes buffer).at_front))
    (demand_3 bytes (length buffer))
