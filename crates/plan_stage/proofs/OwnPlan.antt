-- Our own plan of an accepted job always passes 17 and 18, bit 2 clear or set, and is read back as it was. Assumes nothing.
use Rattle.std.specs.Prelude.{ℕ, ◌≤◌, ◌≡◌, refl, Bool, List, [], ◌∷◌, map, ℤ, length, Option, Some, None}
use Rattle.std.proofs.Common.{sym, ◌∙◌, subst, arith}
use Rattle.std.proofs.Math.Path.{ap}
use Rattle.std.proofs.Math.Bool.{true, false}
use Rattle.limits.specs.Limits.{plan_room}
use Rattle.binary64.proofs.Plain.{Plain}
use Rattle.sorting.specs.Lists.{Every}
use Rattle.wire.specs.Bytes as wire
use Rattle.wire.specs.Read.{after, field}
use Rattle.job.specs.Job.{Job, given_routes, read_job}
use Rattle.job.specs.Job as job
use Rattle.job.proofs.Sound.{accepted_sound}
use Rattle.plan.specs.declared.Bound.{Bound}
use Rattle.plan.specs.declared.Bound.TheVariants as bounded
use Rattle.plan.proofs.CarriedNumbers.{OfBound}
use Rattle.plan.specs.Plan.{Plan, Step, left_of}
use Rattle.plan.specs.Plan as planning
use Rattle.plan.proofs.Visits as visits
use Rattle.ranges.proofs.Planned.{planned_within}
use Rattle.ranges.proofs.NoMinusZero.{planned_plain}
use Rattle.answer.specs.Answer.{notice_bytes}
use Rattle.answer.proofs.Back.{Real}
use Rattle.plan_bytes.specs.PlanBytes.{plan_bytes, rejected, taken, every_planned, plannable, read_plan, length_fits, settled, versioned}
use Rattle.plan_bytes.specs.PlanBack.{Written, plan_back}
use Rattle.plan_bytes.specs.PlanNumbers.{all_plannable, near_plannable}
use Rattle.promise.specs.Stage.{planned}
use Rattle.promise.proofs.BoardDemand.{Readable}
use Rattle.promise.proofs.Read.{readable}
use Rattle.grid_plan.specs.Image as I
use Rattle.grid_plan.specs.Sizes.{Placed}
use Rattle.grid_promise.specs.Grid.{whole_plan}
use Rattle.grid_promise.proofs.Whole.{plan_is, own_near}
use Rattle.plan_stage.specs.Entries.{after_search, plan_after_reading, plan_told_bytes, plan_written, plan_for}

all_real : (xs : List Bound) → Every (OfBound Plain) xs → Every (OfBound Real) xs
all_real [] e = tt
all_real (bounded.None ∷ xs) e = (tt, all_real xs e.1)
all_real (bounded.At x ∷ xs) e = (e.0.1, all_real xs e.1)

-- whole numbers over 128 pass with bit 2 set
all_near : (xs : List (Option ℤ)) → Every Placed xs → every_planned (plannable true) (map I.bound xs) ≡ true
unfolding every_planned
all_near [] e = refl
all_near (None ∷ xs) e = all_near xs e.1
all_near (Some z ∷ xs) e = rw (near_plannable z e.0, all_near xs e.1)

same_plan : (p q : Plan) → planning.going p ≡ planning.going q → p ≡ q
same_plan p q e = cc

module _ (bytes : List ℕ) (j : Job) (is_read : read_job bytes ≡ job.accepted j) (p : Plan) (is_planned : planned j ≡ planning.going p) where
  fit : Readable j.board (given_routes j)
  fit = readable bytes j is_read

  passes : (grid : Bool) → j.flags.on_grid ≡ grid → every_planned (plannable grid) p.xs ≡ true
  unfolding fit
  passes false g = all_plannable p.xs (planned_within j.board (given_routes j) fit.limits.numbers fit.signs j.flags.separates_collectors j.grants.tap_visits fit.windows p is_planned).0
  passes true g =
      let s = (accepted_sound bytes j is_read).0 in
      let e : p ≡ I.plan (whole_plan j) = same_plan p (I.plan (whole_plan j)) (sym is_planned ∙ plan_is j s g) in
      ap (λ (q : Plan). every_planned (plannable true) q.xs) e ∙ all_near (whole_plan j).xs (own_near j s g)

  pub own_written : Written j.flags.on_grid (length j.board.bundles) j.grants.tap_visits p
  unfolding fit
  own_written =
      let b = j.board in
      let g = given_routes j in
      let separate = j.flags.separates_collectors in
      let taps = j.grants.tap_visits in
      let a = (accepted_sound bytes j is_read).0 in
      let w = planned_within b g fit.limits.numbers fit.signs separate taps fit.windows p is_planned in
      let q = planned_plain b g fit.limits.numbers fit.plain separate taps fit.windows p is_planned in
      let v = visits.visits_counted b g separate taps in
      let l : left_of (planned j) ≡ p.left = ap left_of is_planned in
      let k : p.left ≤ taps = omega (arith, v, l) in
      record {
        few = omega (arith, w.1, a.bundle_total);
        each = w.1;
        within = k;
        small = omega (arith, k, a.grants.tap);
        real = all_real p.xs q;
        pass = passes j.flags.on_grid refl;
      }

  -- OUR OWN PLAN passes 17 and 18, with bit 2 clear and set
  pub own_back : plan_for j (plan_bytes p) ≡ taken p
  own_back = plan_back j.flags.on_grid (length j.board.bundles) j.grants.tap_visits p own_written

-- a notice is no plan: it gets 17
pub notice_is_none : (j : Job) (n : ℕ) → plan_for j (notice_bytes n) ≡ rejected 17
unfolding read_plan length_fits settled versioned after field notice_bytes wire.bytes wire.number_on
notice_is_none j n = refl

-- ---- a plan that our planner made from that same job

search_own : (j : Job) (q : Plan) (s : Step) → planned j ≡ s → ((p : Plan) → planned j ≡ planning.going p → plan_for j (plan_bytes p) ≡ taken p) → ((n : ℕ) → plan_for j (notice_bytes n) ≡ rejected 17) → plan_for j (plan_told_bytes (after_search s)) ≡ taken q → planned j ≡ planning.going q
unfolding after_search plan_told_bytes
search_own j q (planning.refused v) e back never h = let z : rejected 17 ≡ taken q = sym (never 13) ∙ h in let k : ◌≡◌ {A = ℕ} 0 1 = cc in absurd (omega arith)
search_own j q (planning.going p) e back never h =
    let z : taken p ≡ taken q = sym (back p e) ∙ h in
    let k : p ≡ q = same_taken p q z in
    e ∙ ap planning.going k
  where
    same_taken : (p q : Plan) → taken p ≡ taken q → p ≡ q
    same_taken p q e = cc

-- where the plan's bytes are those that the planner writes for the job's, the plan that is taken is our own
pub own_plan : (bytes : List ℕ) (j : Job) → read_job bytes ≡ job.accepted j → (q : Plan) → plan_for j (plan_written bytes plan_room) ≡ taken q → planned j ≡ planning.going q
unfolding plan_written plan_after_reading
own_plan bytes j r q t = search_own j q (planned j) refl (λ p e. own_back bytes j r p e) (notice_is_none j) (subst (λ (o : job.Outcome). plan_for j (plan_told_bytes (plan_after_reading o)) ≡ taken q) r t)
