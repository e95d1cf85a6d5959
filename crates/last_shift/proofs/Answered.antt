-- Demand 3 of the sheet in the answer, proved: for every job's bytes and the bytes written for them. Assumes nothing.
use Rattle.std.specs.Prelude.{true, false, ◌≡◌, refl, ◌⊎◌, ℕ, zero, suc, ◌<◌, length, get_or}
use Rattle.std.proofs.Common.{sym, ap, subst, inl, inr, arith}
use mathlib.Core.List.Memᴰ
use mathlib.Core.List.{List, [], ◌∷◌, Memᴰ}
use Rattle.binary64.specs.Range.{Within}
use Rattle.geometry.specs.declared.Segment.{Segment}
use Rattle.geometry.specs.Points.{Route, runs}
use Rattle.exact.specs.Exact.{Exact, HasLength}
use Rattle.board.specs.declared.Edge.{Edge}
use Rattle.board.specs.declared.Bundle.{Bundle}
use Rattle.board.specs.declared.PlacedNode.{PlacedNode}
use Rattle.board.specs.Board.{no_edge}
use Rattle.binary64.proofs.Plain.{Plain}
use Rattle.sorting.specs.Lists.{Every}
use Rattle.sorting.specs.Sorted.{every_map}
use Rattle.job.specs.Job.{Job, read_job}
use Rattle.job.specs.Job as job
use Rattle.plan.specs.declared.Bound.{Bound}
use Rattle.plan.specs.declared.Bound.TheVariants.{None, At}
use Rattle.plan.specs.Plan.{Plan}
use Rattle.plan.proofs.CarriedNumbers.{OfBound}
use Rattle.plan.proofs.SmallNumbers.{Small}
use Rattle.drawing.specs.Sheet.{Progress}
use Rattle.drawing.specs.Sheet as sheet
use Rattle.ranges.specs.Extent.{OfFormat}
use Rattle.drawing.specs.Build.{Drawn, route_at, no_drawn}
use Rattle.drawing.proofs.CleanChecks.{every_both}
use Rattle.drawing.specs.Normal as drawing
use Rattle.drawing.specs.Normal.{sheet_after, moved, page_of, shifted_sheet}
use Rattle.ranges.proofs.Corridors.{Below}
use Rattle.ranges.specs.Coordinates.{OfPoint, OfPlaced}
use Rattle.answer.specs.Answer.{Line, Trunk, lines_of}
use Rattle.promise.specs.Stage.{Finished, answer_of, sheet_drawn, page_told, tap_told, bundle_told, bundles_told}
use Rattle.promise.specs.Demand3 as before
use Rattle.promise.specs.Demand3.{SegmentOf, OnBoth, OnlyAtTap, KeptOnSheet, Kept, Demand3}
use Rattle.promise.proofs.Joints.{finite_of, every_point}
use Rattle.promise.proofs.Read.{readable}
use Rattle.promise.proofs.Ranges.{planned_in, before_range, after_range, before_format}
use Rattle.last_shift.proofs.Carry.{JointsOnly, mem_map}
use Rattle.last_shift.proofs.Moved.{joints_carry, all_carry, stands_carry}
use Rattle.last_shift.proofs.Close.{sheet_close}
use Rattle.last_shift.proofs.Axes.{by_axes}
use Rattle.last_shift.specs.InAnswer.{PartOf, its_collector, its_spine, TapOnly, no_trunk, NoFalseJointIn, Carried, KeptInAnswer, Demand3InAnswer}
use Rattle.last_shift.specs.Shift.{corner_of, moves}

-- ---- an answer's routes and bundles are those of the page
pub record LineCame (es : List Edge) (rs : List Route) (l : Line) : Type 0 where
  pub place : ℕ
  pub named : l.id ≡ (get_or es place no_edge).id
  pub is : l.points ≡ route_at rs place

line_came : (es : List Edge) (rs : List Route) (l : Line) → Memᴰ l (lines_of es rs) → LineCame es rs l
unfolding lines_of
line_came [] rs l m = absurd (Memᴰ.not-nil m)
line_came (e ∷ es) [] l m = absurd (Memᴰ.not-nil m)
line_came (e ∷ es) (r ∷ rs) l m = go (line_came es rs l) (Memᴰ.cases_cons m)
  where
    go : (Memᴰ l (lines_of es rs) → LineCame es rs l) → (l ≡ record { id = e.id; points = r }) ⊎ Memᴰ l (lines_of es rs) → LineCame (e ∷ es) (r ∷ rs) l
    go below (inl z) = record { place = 0; named = ap (λ (w : Line). w.id) z; is = ap (λ (w : Line). w.points) z }
    go below (inr n) = let c = below n in record { place = suc c.place; named = c.named; is = c.is }

pub record TrunkCame (es : List Edge) (ds : List Drawn) (t : Trunk) : Type 0 where
  pub bundle : Bundle
  pub drawn : Drawn
  pub listed : Memᴰ drawn ds
  pub is : t ≡ bundle_told es bundle drawn

trunk_came : (es : List Edge) (us : List Bundle) (ds : List Drawn) (t : Trunk) → Memᴰ t (bundles_told es us ds) → TrunkCame es ds t
unfolding bundles_told
trunk_came es [] ds t m = absurd (Memᴰ.not-nil m)
trunk_came es (u ∷ us) [] t m = absurd (Memᴰ.not-nil m)
trunk_came es (u ∷ us) (d ∷ ds) t m = go (trunk_came es us ds t) (Memᴰ.cases_cons m)
  where
    go : (Memᴰ t (bundles_told es us ds) → TrunkCame es ds t) → (t ≡ bundle_told es u d) ⊎ Memᴰ t (bundles_told es us ds) → TrunkCame es (d ∷ ds) t
    go below (inl z) = record { bundle = u; drawn = d; listed = Memᴰ.head refl; is = z }
    go below (inr n) = let c = below n in record { bundle = c.bundle; drawn = c.drawn; listed = Memᴰ.tail c.listed; is = c.is }

pub record TrunkAt (es : List Edge) (ds : List Drawn) (k : ℕ) (t : Trunk) : Type 0 where
  pub bundle : Bundle
  pub within : k < length ds
  pub is : t ≡ bundle_told es bundle (get_or ds k no_drawn)

trunk_at : (es : List Edge) (us : List Bundle) (ds : List Drawn) (k : ℕ) → k < length (bundles_told es us ds) → TrunkAt es ds k (get_or (bundles_told es us ds) k no_trunk)
unfolding bundles_told
trunk_at es [] ds k h = absurd (omega arith)
trunk_at es (u ∷ us) [] k h = absurd (omega arith)
trunk_at es (u ∷ us) (d ∷ ds) zero h = record { bundle = u; within = omega arith; is = refl }
trunk_at es (u ∷ us) (d ∷ ds) (suc k) h = let c = trunk_at es us ds k (omega arith) in record { bundle = c.bundle; within = let w = c.within in omega arith; is = c.is }

part_out : (es : List Edge) (u : Bundle) (d : Drawn) (s : Segment) → PartOf (bundle_told es u d) s → SegmentOf d s
part_out es u d s (its_collector e) = before.its_collector e
part_out es u d s (its_spine e) = before.its_spine e

only_told : (es : List Edge) (u : Bundle) (d : Drawn) (i : ℕ) (s run : Segment) → OnlyAtTap d i s run → TapOnly (bundle_told es u d) (get_or es i no_edge).id s run
only_told es u d i s run h = record {
  at_most_one = h.at_most_one;
  only_there = λ p on.
      let c = h.only_there p on in
      record {
        tap = tap_told es c.tap;
        listed = mem_map (tap_told es) c.tap d.taps c.listed;
        of_route = ap (λ (e : ℕ). (get_or es e no_edge).id) c.of_route;
        at_tap = c.at_tap;
        at_end = c.at_end;
      };
}

module _ (es : List Edge) (us : List Bundle) (rs : List Route) (ds : List Drawn) (h : JointsOnly rs ds) where
  routes_told : (t : Trunk) → Memᴰ t (bundles_told es us ds) → (s : Segment) → PartOf t s → (l : Line) → Memᴰ l (lines_of es rs) → (run : Segment) → Memᴰ run (runs l.points) → HasLength run.start run.end → TapOnly t l.id s run
  routes_told t m s part l n run r has =
      let c = trunk_came es us ds t m in
      let k = line_came es rs l n in
      subst (λ (w : Trunk). TapOnly w l.id s run) (sym c.is)
      (subst (λ (w : ℕ). TapOnly (bundle_told es c.bundle c.drawn) w s run) (sym k.named)
      (only_told es c.bundle c.drawn k.place s run
      (h.with_routes c.drawn c.listed s (part_out es c.bundle c.drawn s (subst (λ (w : Trunk). PartOf w s) c.is part)) k.place run (subst (λ (w : Route). Memᴰ run (runs w)) k.is r) has)))

  together_told : (j k : ℕ) → j < k → k < length (bundles_told es us ds) → (s t : Segment) → PartOf (get_or (bundles_told es us ds) j no_trunk) s → PartOf (get_or (bundles_told es us ds) k no_trunk) t → HasLength s.start s.end → (p : Exact) → OnBoth s t p → ⊥
  together_told j k l n s t f g =
      let a = trunk_at es us ds j (omega arith) in
      let c = trunk_at es us ds k n in
      h.with_bundles j k l c.within s t
      (part_out es a.bundle (get_or ds j no_drawn) s (subst (λ (w : Trunk). PartOf w s) a.is f))
      (part_out es c.bundle (get_or ds k no_drawn) t (subst (λ (w : Trunk). PartOf w t) c.is g))

-- ---- the whole

-- the two cases of `moved`
shifted_by : (s : drawing.Sheet) → moves s ≡ true → moved s ≡ shifted_sheet (corner_of s) s
unfolding moved
shifted_by s e = rw e

still_as : (s : drawing.Sheet) → moves s ≡ false → moved s ≡ s
unfolding moved
still_as s e = rw e

told_joints : (f : Finished) → JointsOnly (moved (sheet_after f.said.board f.sheet_made)).routes (moved (sheet_after f.said.board f.sheet_made)).drawn → NoFalseJointIn (answer_of f)
unfolding page_told page_of
told_joints f h =
    let b = f.said.board in
    let m = moved (sheet_after b f.sheet_made) in
    record { with_routes = routes_told b.edges b.bundles m.routes m.drawn h; with_bundles = together_told b.edges b.bundles m.routes m.drawn h }

-- of a job that is read and a sheet that is drawn, whatever the plan
module _ (bytes : List ℕ) (j : Job) (is_read : read_job bytes ≡ job.accepted j) (p : Plan) (u : Progress) (is_drawn : sheet_drawn j p ≡ sheet.going u) (in_range : Every (OfBound (Within 30)) p.xs) (of_Format : Every (OfBound OfFormat) p.xs) where
  -- how large the answer's numbers are
  placed_in : OfPlaced (Below 33) (Below 33) (moved (sheet_after j.board u))
  unfolding page_of
  placed_in = (after_range bytes j is_read p u is_drawn in_range).placed

  pub carried_of : KeptOnSheet j u → Carried j.board (sheet_after j.board u) (answer_of (record { said = j; plan_used = p; sheet_made = u }))
  unfolding placed_in
  carried_of k =
      let b = j.board in
      let s = sheet_after b u in
      let fit = readable bytes j is_read in
      let old = before_range bytes j is_read p u is_drawn in_range in
      let new = placed_in in
      let sized = every_both (λ (n : PlacedNode). Small 30 n.body.corner.x × Small 30 n.body.width) (λ (n : PlacedNode). Small 30 n.body.corner.y × Small 30 n.body.height) (λ (n : PlacedNode). Within 30 n.body.width × Within 30 n.body.height)
      (λ n x y. (x.1.0, y.1.0)) b.nodes fit.limits.numbers.nodes fit.limits.node_ys in
      record {
        all_finite = finite_of (Below 33) (Below 33) (λ x k. k.is_finite) (λ y k. k.is_finite) (moved s).routes (moved s).drawn (every_point (OfPoint (Below 33) (Below 33)) (moved s).routes new.routes) new.drawn;
        is_shifted = λ z. shifted_by s z;
        is_still = λ z. still_as s z;
        close = λ z. sheet_close s old;
        axes = λ x y. by_axes s old (before_format bytes j is_read p u is_drawn of_Format) x y;
        joints = λ e. told_joints (record { said = j; plan_used = p; sheet_made = u }) (joints_carry s e (record { with_routes = k.joints.with_routes; with_bundles = k.joints.with_bundles }));
        members_out = λ e f. all_carry b u sized old new e f k.joints;
        stands = λ e i l q h. stands_carry s e i l q h;
      }

of_kept : (bytes answer : List ℕ) → Kept bytes answer → KeptInAnswer bytes answer
of_kept bytes answer k =
    let c = k.comes in
    let j = c.said in
    let h = planned_in bytes k.sheet c in
    record {
      kept = k;
      carried = subst (Carried j.board (sheet_after j.board c.sheet_made)) (sym c.is_answer)
          (carried_of bytes j c.is_read c.plan_made c.sheet_made c.is_drawn h.0 (every_map (OfBound Plain) (OfBound OfFormat) c.plan_made.xs plain_format h.1) k.on_sheet);
    }
  where
    plain_format : (x : Bound) → OfBound Plain x → OfBound OfFormat x
    plain_format None e = tt
    plain_format (At x) e = e.1

-- THE THEOREM: whatever holds by demand 3 before the last shift, this holds of the sheet in the answer
pub kept_in_answer : (bytes answer : List ℕ) → Demand3 bytes answer → Demand3InAnswer bytes answer
kept_in_answer bytes answer h long forbidden = of_kept bytes answer (h long forbidden)
