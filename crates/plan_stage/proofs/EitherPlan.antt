-- A job drawn from a plan that is given or from our own: what it comes to, how many bytes that is, and what the plan is. Assumes nothing.
use Rattle.std.specs.Prelude.{ℕ, ◌≤◌, ◌≡◌, Bool, true, false, List, [], ◌∷◌, map, ℤ, Float, length, Option, Some, None}
use Rattle.std.proofs.Math.Path.{refl}
use Rattle.std.proofs.Common.{sym, ap, ◌∙◌, subst, arith}
use Rattle.limits.specs.Limits.{largest_answer}
use Rattle.sorting.specs.Lists.{Every}
use Rattle.job.specs.Job.{Job, given_routes, read_job}
use Rattle.job.specs.Job as job
use Rattle.job.proofs.Sound.{accepted_sound}
use Rattle.plan.specs.declared.Bound.{Bound}
use Rattle.plan.specs.declared.Bound.TheVariants as bounded
use Rattle.plan.proofs.CarriedNumbers.{OfBound}
use Rattle.plan.specs.Plan.{Plan, Step}
use Rattle.plan.specs.Plan as planning
use Rattle.drawing.specs.Sheet as sheets
use Rattle.answer.proofs.Back.{Real}
use Rattle.answer.proofs.Stores.{notice_length}
use Rattle.plan_bytes.specs.PlanBytes.{Taken, rejected, taken, every_planned, plannable}
use Rattle.plan_bytes.specs.PlanBack.{taken_fair}
use Rattle.plan_bytes.specs.PlanNumbers.{both, every_within, plannable_on_grid}
use Rattle.promise.specs.Stage.{Finished, Told, refused, drawn, planned, sheet_drawn, after_sheet, told_bytes}
use Rattle.promise.proofs.BoardDemand.{Shaped, own_shaped}
use Rattle.promise.proofs.Read.{readable}
use Rattle.promise.proofs.Size.{sheet_size}
use Rattle.grid.specs.On.{on}
use Rattle.grid_plan.specs.Image as I
use Rattle.grid_plan.specs.Sizes.{Placed}
use Rattle.grid_promise.specs.Grid.{whole_plan}
use Rattle.grid_promise.proofs.Whole.{WholePlan, plan_is, own_near}
use Rattle.plan_stage.specs.Entries.{after_search, plan_for, plan_phase, after_taking, with_plan, told_with}

-- how a job, and a plan where one is given, come to what is finished
pub record ComesWith (given : Bool) (bytes plan : List ℕ) (f : Finished) : Type 0 where
  pub is_read : read_job bytes ≡ job.accepted f.said
  pub is_taken : plan_phase given f.said plan ≡ taken f.plan_used
  pub is_drawn : sheet_drawn f.said f.plan_used ≡ sheets.going f.sheet_made

pub data CauseWith (given : Bool) (bytes plan : List ℕ) : Told → Type 0 where
  a_refusal : (n : ℕ) → CauseWith given bytes plan (refused n)
  a_sheet : (f : Finished) → ComesWith given bytes plan f → CauseWith given bytes plan (drawn f)

module _ (given : Bool) (bytes plan : List ℕ) where
  sheet_cause : (j : Job) → read_job bytes ≡ job.accepted j → (p : Plan) → plan_phase given j plan ≡ taken p → (o : sheets.Outcome) → sheet_drawn j p ≡ o → CauseWith given bytes plan (after_sheet j p o)
  unfolding after_sheet
  sheet_cause j r p q (sheets.refused n v) e = a_refusal n
  sheet_cause j r p q (sheets.going u) e = a_sheet (record { said = j; plan_used = p; sheet_made = u }) (record { is_read = r; is_taken = q; is_drawn = e })

  taken_cause : (j : Job) → read_job bytes ≡ job.accepted j → (t : Taken) → plan_phase given j plan ≡ t → CauseWith given bytes plan (after_taking j t)
  unfolding after_taking
  taken_cause j r (rejected n) e = a_refusal n
  taken_cause j r (taken p) e = sheet_cause j r p e (sheet_drawn j p) refl

  reading_cause : (o : job.Outcome) → read_job bytes ≡ o → CauseWith given bytes plan (with_plan given plan o)
  unfolding with_plan
  reading_cause (job.refusal n) e = a_refusal n
  reading_cause (job.accepted j) e = taken_cause j e (plan_phase given j plan) refl

  pub cause_with : CauseWith given bytes plan (told_with given bytes plan)
  cause_with = reading_cause (read_job bytes) refl

  -- at most 52,484 bytes
  sized : (t : Told) → CauseWith given bytes plan t → length (told_bytes t) ≤ largest_answer
  unfolding told_bytes
  sized t (a_refusal n) = omega (arith, notice_length n)
  sized t (a_sheet f c) = sheet_size bytes f.said c.is_read f.plan_used f.sheet_made c.is_drawn

  pub told_size : length (told_bytes (told_with given bytes plan)) ≤ largest_answer
  told_size = sized (told_with given bytes plan) cause_with

-- ---- the plan

searched_own : (p : Plan) (s : Step) → after_search s ≡ taken p → s ≡ planning.going p
unfolding after_search
searched_own p (planning.refused v) e = let z : ◌≡◌ {A = ℕ} 0 1 = cc in absurd (omega arith)
searched_own p (planning.going q) e = let z : q ≡ p = cc in ap planning.going z

pub phase_own : (j : Job) (plan : List ℕ) (p : Plan) → plan_phase false j plan ≡ taken p → planned j ≡ planning.going p
unfolding plan_phase
phase_own j plan p e = searched_own p (planned j) e

-- it can be drawn
pub taken_shaped : (j : Job) (plan : List ℕ) (p : Plan) → plan_for j plan ≡ taken p → Shaped j.board p.xs
taken_shaped j plan p t =
    let v = taken_fair j.flags.on_grid (length j.board.bundles) j.grants.tap_visits plan p t in
    record { within = every_within j.flags.on_grid p.xs v.pass; sized = v.each }

pub phase_shaped : (given : Bool) (bytes plan : List ℕ) (j : Job) → read_job bytes ≡ job.accepted j → (p : Plan) → plan_phase given j plan ≡ taken p → Shaped j.board p.xs
unfolding plan_phase
phase_shaped true bytes plan j r p t = taken_shaped j plan p t
phase_shaped false bytes plan j r p t = own_shaped j.board (given_routes j) (readable bytes j r) j.flags.separates_collectors j.grants.tap_visits p (phase_own j plan p t)

-- with bit 2 set: it is one in whole numbers over 128
record Wholly (xs : List Bound) : Type 0 where
  wholes : List (Option ℤ)
  are : xs ≡ map I.bound wholes
  near : Every Placed wholes

wholly : (xs : List Bound) → Every (OfBound Real) xs → every_planned (plannable true) xs ≡ true → Wholly xs
unfolding every_planned
wholly [] r e = record { wholes = []; are = refl; near = tt }
wholly (bounded.None ∷ xs) r e = let w = wholly xs r.1 e in record { wholes = None ∷ w.wholes; are = ap (λ (l : List Bound). bounded.None ∷ l) w.are; near = (tt, w.near) }
wholly (bounded.At x ∷ xs) r e =
    let b = both (plannable true x) (every_planned (plannable true) xs) e in
    let w = wholly xs r.1 b.1 in
    let o = plannable_on_grid x r.0 b.0 in
    record { wholes = Some o.whole ∷ w.wholes; are = ap (λ (y : Float). bounded.At y ∷ xs) o.is ∙ ap (λ (l : List Bound). bounded.At (on o.whole) ∷ l) w.are; near = (o.near, w.near) }

pub taken_whole : (plan : List ℕ) (j : Job) → j.flags.on_grid ≡ true → (p : Plan) → plan_for j plan ≡ taken p → WholePlan p
taken_whole plan j g p t =
    let v = taken_fair j.flags.on_grid (length j.board.bundles) j.grants.tap_visits plan p t in
    let w = wholly p.xs v.real (subst (λ (b : Bool). every_planned (plannable b) p.xs ≡ true) g v.pass) in
    record { whole = record { xs = w.wholes; left = p.left }; is = ap (λ (l : List Bound). record { xs = l; left = p.left }) w.are; near = w.near }

same_plan : (p q : Plan) → planning.going p ≡ planning.going q → p ≡ q
same_plan p q e = cc

pub phase_whole : (given : Bool) (bytes plan : List ℕ) (j : Job) → read_job bytes ≡ job.accepted j → j.flags.on_grid ≡ true → (p : Plan) → plan_phase given j plan ≡ taken p → WholePlan p
unfolding plan_phase
phase_whole true bytes plan j r g p t = taken_whole plan j g p t
phase_whole false bytes plan j r g p t =
    let s = (accepted_sound bytes j r).0 in
    record { whole = whole_plan j; is = same_plan p (I.plan (whole_plan j)) (sym (phase_own j plan p t) ∙ plan_is j s g); near = own_near j s g }
