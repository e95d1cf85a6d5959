-- The phases of the stage, from what its functions' callees ensure to what is told and written.
-- Assumes nothing.
use Prim.Native.Nat.{ℕ, ◌+◌, ◌*◌, ◌≤◌}
use mathlib.Core.Path.{◌≡◌, sym, ap, ◌∙◌, subst}
use mathlib.Core.Bool.{Bool, true, false, not, ◌&&◌, cond}
use mathlib.Core.List.{List, [], map}
use mathlib.Core.Logic.{◌⊎◌, inl, inr}
use native.Mathlib.Omega.{arith}
use lib.ListN.{length, take, get_or}
use lib.Seq.{sets, length-take-le, get_or-take, take-length}
use Rattle.std.proofs.lemmas.List.{take-take}
use lib.Ieee.{Float}
use Rattle.geometry.specs.declared.Point.{Point}
use Rattle.limits.specs.Limits.{max_edges, max_members, answer_room, id_columns, slot_numbers}
use Rattle.route.specs.Slots.{routes_of, Held}
use Rattle.board.specs.declared.PlacedNode.{PlacedNode}
use Rattle.board.specs.declared.DrawnBundle.{DrawnBundle}
use Rattle.board.specs.declared.DrawnTap.{DrawnTap}
use Rattle.board.specs.Board.{Board}
use Rattle.board.specs.declared.Bundle.{Bundle}
use Rattle.board.specs.declared.Edge.{Edge}
use Rattle.board.specs.Tables.{DrawnBundles}
use Rattle.board.specs.Tables.{DrawnTaps}
use Rattle.geometry.specs.Points.{Route}
use Rattle.job.specs.declared.Job as code
use Rattle.job.specs.Job.{read_job}
use Rattle.job.specs.AllTables.{JobTold}
use Rattle.plan.specs.BoardTables as tables
use Rattle.plan.specs.BoardTables.{no_bundle, no_member}
use Rattle.plan.specs.declared.tables.BoardTables.{BoardTables}
use Rattle.plan.specs.Lent.{board_lent, OffsetsLent}
use Rattle.plan.specs.Tables.{Planning}
use Rattle.plan.specs.Depths.{offsets_of}
use Rattle.plan.specs.Prepared.{plan_in, x_of}
use Rattle.plan.specs.MemberColumns.{edges_of}
use Rattle.plan.proofs.MemberColumns.{edge_got}
use Rattle.drawing.specs.declared.GeometryVisits.{GeometryVisits}
use Rattle.std.specs.Prelude.{Result, Ok, Err, ⊤}
use Rattle.refusal.specs.declared.Refusal.{Refusal}
use Rattle.refusal.specs.Refusal.{refusal_number}
use Rattle.drawing.specs.Verdict.{Verdict, Clean, Refused}
use Rattle.drawing.specs.Check.{clean, failed}
use Rattle.checks.specs.Purse.{told}
use Rattle.drawing.specs.Build.{Drawn}
use Rattle.drawing.specs.Sheet.{Outcome, turns_from, sheet_of, blank, after_check}
use Rattle.drawing.specs.Sheet as drawing
use Rattle.drawing.specs.Normal.{page_of}
use Rattle.turns.specs.TurnTables.{ends_as, standing, drawn_in, Full, Room, Rows}
use Rattle.normalize.specs.declared.Laid.{Laid}
use Rattle.normalize.specs.PageTables.{heading, sheet_in, page_in}
use Rattle.plan.specs.Plan.{plan_of}
use Rattle.components.specs.declared.NoRoom.{NoRoom}
use Rattle.components.specs.Settled.{step_in}
use Rattle.answer.specs.Answer.{Sheet, trunk_of, answer_bytes, notice_bytes}
use Rattle.answer.proofs.Stores.{notice_length}
use Rattle.answer.specs.declared.Frame.{Frame}
use Rattle.answer.specs.SheetTables as answer
use Rattle.promise.specs.Stage.{Finished, answer_of, Told, refused, drawn, planned, sheet_drawn, after_sheet, told_bytes}
use Rattle.bundle_page.specs.AnswerPage.{answer_page}
use Rattle.bundle_page.specs.PageTables.{Printables}
use Rattle.page_promise.proofs.PageFits.{PageFits, page_fits, printables}
use Rattle.plan_bytes.specs.PlanBytes.{rejected, taken, read_plan}
use Rattle.plan_reader.specs.Reading.{told_plan}
use Rattle.plan_stage.specs.Entries.{after_search, plan_for, plan_phase, after_taking, with_plan, told_with}
use Rattle.plan_stage.proofs.EitherPlan.{told_size, phase_whole}
use Rattle.outputs.specs.declared.Wants.{Wants}
use Rattle.crossing_bytes.specs.Bytes.{list_bytes}
use Rattle.crossing_promise.specs.SheetList.{list_of}
use Rattle.outputs.specs.Outputs.{Outputs, notice, too_many, after_all, outputs_told}
use Rattle.job_tables.proofs.Ready.{read_accepted, tables_sound, routes_in, bundles_lent, given_lent}
use Rattle.job_tables.specs.Came.{job_in, Came}
use Rattle.draw_job.specs.JobTables.{Writes, Ended, TapsOf, OnSheet, Lent, finished}
use Rattle.draw_job.proofs.Answers.{sheet_same}

-- ---- what is written

-- a refusal's notice, and no other output
pub notice_writes : (before after : Outputs) (r n : ℕ) (o : Outputs) → o ≡ notice n → after.answer ≡ sets before.answer 0 (notice_bytes n) → after.page ≡ before.page → after.crossings ≡ before.crossings → r ≡ 6 → Writes before after r o
notice_writes before after r n o e b p l c = subst (Writes before after r) (sym e) (record { answer = b; page = p; crossings = l; count = c ∙ sym (notice_length n) })

-- of a Result: what was written, and the notice of a refusal, which nothing was written before
pub written : (before after : Outputs) (d : Result ℕ Refusal) (n : ℕ) (o : Outputs) → d ≡ Ok n → Ended before after d o → Writes before after n o
written before after d n o e w = subst (λ (r : Result ℕ Refusal). Ended before after r o) e w

pub notice_after : (before left : Outputs) (d : Result ℕ Refusal) (e : Refusal) (o : Outputs) → d ≡ Err e → Ended before left d o
    → (n : ℕ) → n ≡ refusal_number e → (answer : List ℕ) (r : ℕ) → answer ≡ sets left.answer 0 (notice_bytes n) → r ≡ 6 → Writes before (record { answer = answer; page = left.page; crossings = left.crossings }) r o
notice_after before left d e o is w n h answer r b c =
    let p : (o ≡ notice (refusal_number e)) × (left ≡ before) = subst (λ (x : Result ℕ Refusal). Ended before left x o) is w in
    notice_writes before (record { answer = answer; page = left.page; crossings = left.crossings }) r n o (p.0 ∙ ap notice (sym h)) (b ∙ ap (λ (m : Outputs). sets m.answer 0 (notice_bytes n)) p.1) (ap (λ (m : Outputs). m.page) p.1) (ap (λ (m : Outputs). m.crossings) p.1) c

pub writes_as : (before after : Outputs) (r : ℕ) (s t : Outputs) → s ≡ t → Writes before after r s → Writes before after r t
writes_as before after r s t e w = subst (Writes before after r) e w

-- what is told, with the last refusal, as outputs
abbrev pub outputs_for : Wants → Told → Outputs
outputs_for w t = outputs_told w (after_all w t)

pub named : (o : Outputs) (n m : ℕ) → n ≡ m → o ≡ notice m → o ≡ notice n
named o n m h e = e ∙ ap notice (sym h)

pub refused_outputs : (w : Wants) (t : Told) (n : ℕ) → t ≡ refused n → outputs_for w t ≡ notice n
unfolding after_all outputs_told
refused_outputs w t n e = ap (outputs_for w) e

-- 19
pub many_outputs : (w : Wants) (t : Told) (f : Finished) → t ≡ drawn f → too_many w f ≡ true → outputs_for w t ≡ notice 19
unfolding after_all outputs_told
many_outputs w t f e h = ap (outputs_for w) e ∙ ap (λ (b : Bool). outputs_told w (cond b (refused 19) (cond (w.page && not f.said.flags.on_grid) (refused 16) (drawn f)))) h

-- past 19
few_outputs : (w : Wants) (t : Told) (f : Finished) → t ≡ drawn f → too_many w f ≡ false → outputs_for w t ≡ outputs_told w (cond (w.page && not f.said.flags.on_grid) (refused 16) (drawn f))
unfolding after_all
few_outputs w t f e h = ap (outputs_for w) e ∙ ap (λ (b : Bool). outputs_told w (cond b (refused 19) (cond (w.page && not f.said.flags.on_grid) (refused 16) (drawn f)))) h

-- 16
pub off_grid_outputs : (w : Wants) (t : Told) (f : Finished) → t ≡ drawn f → too_many w f ≡ false → (w.page && not f.said.flags.on_grid) ≡ true → outputs_for w t ≡ notice 16
unfolding outputs_told
off_grid_outputs w t f e m h = few_outputs w t f e m ∙ ap (λ (b : Bool). outputs_told w (cond b (refused 16) (drawn f))) h

-- which way a branch came
pub way : {A B C : Type 0} → A ⊎ B → (A → C) → (B → C) → C
way (inl a) f g = f a
way (inr b) f g = g b

-- the page's buffer where it was wanted, and where it was not
pub page_put : (before after : List ℕ) (wanted : Bool) (page : List ℕ) → wanted ≡ true → after ≡ sets before 0 page → after ≡ sets before 0 (cond wanted page [])
page_put before after wanted page h e = e ∙ sym (ap (λ (b : Bool). sets before 0 (cond b page [])) h)

pub page_left : (before after : List ℕ) (wanted : Bool) (page : List ℕ) → wanted ≡ false → after ≡ before → after ≡ sets before 0 (cond wanted page [])
page_left before after wanted page h e = e ∙ sym (ap (λ (b : Bool). sets before 0 (cond b page [])) h)

-- the answer, and the page and the list where they are wanted
pub drawn_writes : (w : Wants) (t : Told) (f : Finished) → t ≡ drawn f → too_many w f ≡ false → (w.page && not f.said.flags.on_grid) ≡ false → (before after : Outputs) (r : ℕ) (s : Sheet) → s ≡ answer_of f
    → after.answer ≡ sets before.answer 0 (answer_bytes s) → after.page ≡ sets before.page 0 (cond w.page (answer_page id_columns s) []) → after.crossings ≡ sets before.crossings 0 (cond w.crossings (list_bytes f.said.board (list_of f)) []) → r ≡ length (answer_bytes s) → Writes before after r (outputs_for w t)
unfolding outputs_told
drawn_writes w t f e m h before after r s is a p l c =
    writes_as before after r (outputs_told w (drawn f)) (outputs_for w t)
    (sym (few_outputs w t f e m ∙ ap (λ (b : Bool). outputs_told w (cond b (refused 16) (drawn f))) h))
    (record {
      answer = a ∙ ap (λ (z : Sheet). sets before.answer 0 (answer_bytes z)) is;
      page = p ∙ ap (λ (z : Sheet). sets before.page 0 (cond w.page (answer_page id_columns z) [])) is;
      crossings = l;
      count = c ∙ ap (λ (z : Sheet). length (answer_bytes z)) is;
    })

-- ---- reading

pub read_refused : (r : Refusal) (n : ℕ) (buffer : List Float) (bytes : List ℕ) → n ≡ refusal_number r → JobTold (Err r) buffer (read_job bytes) → (given : Bool) (plan : List ℕ) → told_with given bytes plan ≡ refused n
unfolding with_plan
read_refused r n buffer bytes h t given plan = ap (with_plan given plan) (sym t.is) ∙ ap refused (sym h)

module _ (j : code.Job) (buffer : List Float) (bytes : List ℕ) (t : JobTold (Ok j) buffer (read_job bytes)) (given : Bool) (plan : List ℕ) where
  pub told_phase : told_with given bytes plan ≡ after_taking (job_in j buffer) (plan_phase given (job_in j buffer) plan)
  unfolding with_plan
  told_phase = ap (with_plan given plan) (read_accepted j buffer bytes t)

  pub phase_room : (room : ℕ) → answer_room ≤ room → length (told_bytes (after_taking (job_in j buffer) (plan_phase given (job_in j buffer) plan))) ≤ room
  phase_room room h = let s = told_size given bytes plan in subst (λ (l : Told). length (told_bytes l) ≤ room) told_phase (omega arith)

-- ---- the plan

-- our own
module _ (j : code.Job) (buffer : List Float) (from : Came j buffer) (t : BoardTables) (lent : board_lent t ≡ (job_in j buffer).board) (s : Result Planning NoRoom)
    (is : step_in (length t.bundles.now) s ≡ plan_of (board_lent t) (tables.given_routes buffer t.edges.now) j.flags.separates_collectors j.grants.tap_visits) where
  planned_is : planned (job_in j buffer) ≡ step_in (length j.bundles.items) s
  planned_is =
      ap (λ (g : List Route). plan_of (job_in j buffer).board g j.flags.separates_collectors j.grants.tap_visits) (sym (given_lent j buffer from t lent))
      ∙ ap (λ (b : Board). plan_of b (tables.given_routes buffer t.edges.now) j.flags.separates_collectors j.grants.tap_visits) (sym lent)
      ∙ sym is
      ∙ ap (λ (n : ℕ). step_in n s) (bundles_lent j buffer from t lent)

  pub own_phase : (given : Bool) → given ≡ false → (plan : List ℕ) (r : Result Planning Refusal) → ((n : ℕ) → told_plan n r ≡ after_search (step_in n s)) → told_plan (length j.bundles.items) r ≡ plan_phase given (job_in j buffer) plan
  unfolding plan_phase
  own_phase given e plan r told = told (length j.bundles.items) ∙ ap after_search (sym planned_is) ∙ sym (ap (λ (b : Bool). cond b (plan_for (job_in j buffer) plan) (after_search (planned (job_in j buffer)))) e)

-- one that is given
pub given_phase : (j : code.Job) (buffer : List Float) (given : Bool) → given ≡ true → (plan : List ℕ) (r : Result Planning Refusal) → told_plan (length j.bundles.items) r ≡ read_plan j.flags.on_grid (length j.bundles.items) j.grants.tap_visits plan
    → told_plan (length j.bundles.items) r ≡ plan_phase given (job_in j buffer) plan
unfolding plan_phase
given_phase j buffer given e plan r told =
    told
    ∙ sym (ap (λ (b : Bool). cond b (plan_for (job_in j buffer) plan) (after_search (planned (job_in j buffer)))) e)

-- either
module _ (j : code.Job) (buffer : List Float) (given : Bool) (plan : List ℕ) (r : Result Planning Refusal) (is : told_plan (length j.bundles.items) r ≡ plan_phase given (job_in j buffer) plan) where
  pub phase_refused : (e : Refusal) (n : ℕ) → n ≡ refusal_number e → r ≡ Err e → after_taking (job_in j buffer) (plan_phase given (job_in j buffer) plan) ≡ refused n
  unfolding told_plan after_taking
  phase_refused e n h k =
      let z : plan_phase given (job_in j buffer) plan ≡ rejected (refusal_number e) = sym is ∙ ap (told_plan (length j.bundles.items)) k in
      ap (after_taking (job_in j buffer)) z ∙ ap refused (sym h)

  pub phase_taken : (p : Planning) → r ≡ Ok p → plan_phase given (job_in j buffer) plan ≡ taken (plan_in (length j.bundles.items) p)
  unfolding told_plan
  phase_taken p e = sym is ∙ ap (told_plan (length j.bundles.items)) e

  pub phase_going : (p : Planning) → r ≡ Ok p → after_taking (job_in j buffer) (plan_phase given (job_in j buffer) plan) ≡ after_sheet (job_in j buffer) (plan_in (length j.bundles.items) p) (sheet_drawn (job_in j buffer) (plan_in (length j.bundles.items) p))
  unfolding after_taking
  phase_going p e = ap (after_taking (job_in j buffer)) (phase_taken p e)

-- ---- the sheet

pub full_clean : (v : Verdict) (q : GeometryVisits) (n all : ℕ) → v ≡ Clean q → Full v n all → n ≡ all
unfolding Full
full_clean v q n all e f = rw e at f

module _ (j : code.Job) (buffer : List Float) (from : Came j buffer) (t : BoardTables) (lent : board_lent t ≡ (job_in j buffer).board) (p : Planning) (offsets : List Float) (v : Verdict) (rs : List Route) (ds : List Drawn)
    (as_offsets : OffsetsLent t offsets)
    (ends : ends_as v rs ds ≡ sheet_of (board_lent t) j.flags.permits_crossings (turns_from t.bundles.now (map x_of (take (length t.bundles.now) p.rows)) (take (length t.bundles.now) offsets)) (blank (tables.given_routes buffer t.edges.now) j.grants.geometry_visits)) where
  abbrev told_now : Told
  told_now = after_sheet (job_in j buffer) (plan_in (length j.bundles.items) p) (sheet_drawn (job_in j buffer) (plan_in (length j.bundles.items) p))

  drawn_is : sheet_drawn (job_in j buffer) (plan_in (length j.bundles.items) p) ≡ ends_as v rs ds
  drawn_is =
      let sheet : Board → ℕ → List Route → Outcome = λ b n g. sheet_of b j.flags.permits_crossings (turns_from b.bundles (map x_of (take n p.rows)) (offsets_of b)) (blank g j.grants.geometry_visits) in
      ap (λ (g : List Route). sheet (job_in j buffer).board (length j.bundles.items) g) (sym (given_lent j buffer from t lent))
      ∙ ap (λ (b : Board). sheet b (length j.bundles.items) (tables.given_routes buffer t.edges.now)) (sym lent)
      ∙ ap (λ (n : ℕ). sheet (board_lent t) n (tables.given_routes buffer t.edges.now)) (sym (bundles_lent j buffer from t lent))
      ∙ ap (λ (l : List Float). sheet_of (board_lent t) j.flags.permits_crossings (turns_from t.bundles.now (map x_of (take (length t.bundles.now) p.rows)) l) (blank (tables.given_routes buffer t.edges.now) j.grants.geometry_visits)) (sym (as_offsets t.edges.now))
      ∙ sym ends

  pub sheet_refused : (n : ℕ) (q : GeometryVisits) → v ≡ Refused n q → told_now ≡ refused n
  unfolding ends_as after_check after_sheet
  sheet_refused n q e =
      let z : sheet_drawn (job_in j buffer) (plan_in (length j.bundles.items) p) ≡ drawing.refused n q.0 = drawn_is ∙ rw e in
      ap (after_sheet (job_in j buffer) (plan_in (length j.bundles.items) p)) z

  pub sheet_going : (q : GeometryVisits) → v ≡ Clean q → sheet_drawn (job_in j buffer) (plan_in (length j.bundles.items) p) ≡ drawing.going (standing rs ds q.0)
  unfolding ends_as after_check
  sheet_going q e = drawn_is ∙ rw e

  pub sheet_clean : (q : GeometryVisits) → v ≡ Clean q → told_now ≡ drawn (record { said = job_in j buffer; plan_used = plan_in (length j.bundles.items) p; sheet_made = standing rs ds q.0 })
  unfolding after_sheet
  sheet_clean q e = ap (after_sheet (job_in j buffer) (plan_in (length j.bundles.items) p)) (sheet_going q e)

-- how the sheet ended, and the visits left then
pub ended_clean : (r : Result ⊤ Refusal) (n : ℕ) (x : ⊤) → r ≡ Ok x → told r n ≡ clean n
ended_clean r n x e = ap (λ (z : Result ⊤ Refusal). told z n) e

pub ended_refused : (r : Result ⊤ Refusal) (n m : ℕ) (e : Refusal) → m ≡ refusal_number e → r ≡ Err e → told r n ≡ failed m n
ended_refused r n m e h is = ap (λ (z : Result ⊤ Refusal). told z n) is ∙ ap (λ (k : ℕ). failed k n) (sym h)

-- what was in the slots does not matter, and the taps are cut to those of the members
pub lent_as : (j : code.Job) (n : ℕ) → n ≡ length j.members.items → (taps : List Point) (points points' : List Float) (counts : List ℕ) (mask : List Bool) (scratch : List Float) → length points' ≡ length points → Lent j taps points counts mask scratch → Lent j (take n taps) points' counts mask scratch
lent_as j n q taps points points' counts mask scratch e lent = record {
  counts_long = lent.counts_long;
  room = record { places = omega (arith, q, length-take-le n taps (omega (arith, q, lent.room.places))); slots = omega (arith, lent.room.slots, e); masked = lent.room.masked };
  spare = lent.spare;
}

-- the sheet after the last turn, all bundles drawn
module _ (j : code.Job) (buffer : List Float) (from : Came j buffer) (t : BoardTables) (same : board_lent t ≡ (job_in j buffer).board) (taps : List Point) (points : List Float) (counts : List ℕ) (mask : List Bool) (scratch : List Float) (lent : Lent j taps points counts mask scratch)
    (v : Verdict) (ds : DrawnBundles) (taps' : List Point) (points' : List Float) (counts' : List ℕ) (taps_kept : length taps' ≡ length taps) (Points-kept : length points' ≡ length points) (counts_kept : length counts' ≡ length counts) where
  pub on_sheet : (q : GeometryVisits) → v ≡ Clean q → Rows (take (length ds.items) t.bundles.now) ds.items → Full v (length ds.items) (length t.bundles.now) → Held counts'
      → OnSheet j (edges_of t.members.now) ds points' counts' taps'
  on_sheet q e each full held =
      let all = full_clean v q (length ds.items) (length t.bundles.now) e full ∙ bundles_lent j buffer from t same in
      record {
        fits = from.fits;
        members_on = (routes_in j buffer from).members_on;
        windows = λ i h. ((tables_sound j buffer from).bundles_on i (omega (arith, h, all))).members_in;
        edges_are = λ k h. edge_got t.members.now k ∙ ap (λ (b : Board). (get_or b.members k no_member).edge) same;
        all_drawn = all;
        each_row = subst (λ (us : List Bundle). Rows us ds.items) (ap (λ (b : Board). take (length ds.items) b.bundles) same ∙ ap (λ (n : ℕ). take n j.bundles.items) all ∙ take-length j.bundles.items) each;
        slots = omega (arith, lent.room.slots, Points-kept, counts_kept);
        hold = held;
        counted = omega (arith, lent.counts_long, counts_kept);
        places = omega (arith, lent.room.places, taps_kept);
      }

pub sheet_room : (t : Told) (f : Finished) (s : Sheet) (room : ℕ) → t ≡ drawn f → s ≡ answer_of f → length (told_bytes t) ≤ room → length (answer_bytes s) ≤ room
unfolding told_bytes
sheet_room t f s room e is h = rw is (rw e at h)

pub told_room : (s t : Told) (room : ℕ) → s ≡ t → length (told_bytes s) ≤ room → length (told_bytes t) ≤ room
told_room s t room e h = subst (λ (z : Told). length (told_bytes z) ≤ room) e h

pub room_for : (members n : ℕ) (taps : List Point) (points : List Float) (counts : List ℕ) (mask : List Bool) → members ≤ max_members → n ≤ max_edges → length taps ≡ max_members → slot_numbers * n ≤ length points → length counts ≡ n → max_edges ≤ length mask → Room members taps points counts mask
room_for members n taps points counts mask hm hn t p c m = record { places = omega arith; slots = omega arith; masked = omega arith }

-- ---- the answer

module _ (j : code.Job) (buffer : List Float) (from : Came j buffer) (t : BoardTables) (lent : board_lent t ≡ (job_in j buffer).board) (given : Bool) (plan : List ℕ) (r : Result Planning Refusal) (is : told_plan (length j.bundles.items) r ≡ plan_phase given (job_in j buffer) plan)
    (p : Planning) (on_going : r ≡ Ok p) (offsets : List Float) (v : Verdict) (edges : List ℕ) (ds : DrawnBundles) (points : List Float) (counts : List ℕ) (taps : List Point)
    (as_offsets : OffsetsLent t offsets)
    (ends : ends_as v (routes_of points counts) (drawn_in edges taps ds)
    ≡ sheet_of (board_lent t) j.flags.permits_crossings (turns_from t.bundles.now (map x_of (take (length t.bundles.now) p.rows)) (take (length t.bundles.now) offsets)) (blank (tables.given_routes buffer t.edges.now) j.grants.geometry_visits)) where
  abbrev told_so : Told
  told_so = after_taking (job_in j buffer) (plan_phase given (job_in j buffer) plan)

  pub all_refused : (n : ℕ) (q : GeometryVisits) → v ≡ Refused n q → after_taking (job_in j buffer) (plan_phase given (job_in j buffer) plan) ≡ refused n
  all_refused n q e = phase_going j buffer given plan r is p on_going ∙ sheet_refused j buffer from t lent p offsets v (routes_of points counts) (drawn_in edges taps ds) as_offsets ends n q e

  pub all_drawn : (q : GeometryVisits) → v ≡ Clean q → after_taking (job_in j buffer) (plan_phase given (job_in j buffer) plan) ≡ drawn (finished j buffer p edges ds points counts taps q.0)
  all_drawn q e = phase_going j buffer given plan r is p on_going ∙ sheet_clean j buffer from t lent p offsets v (routes_of points counts) (drawn_in edges taps ds) as_offsets ends q e

  -- the answer of the tables after the last shift
  pub all_told : (q : GeometryVisits) → OnSheet j edges ds points counts taps → (l : Laid) (after : List Float) (shifted : List Point) (rows : DrawnTaps) → TapsOf j.edges.items j.members.items shifted rows → page_in edges l after counts shifted ≡ page_of (sheet_in edges j.nodes.items ds.items points counts taps)
      → map heading l.drawn.items ≡ map heading ds.items
      → answer.sheet_of (record { tap_visits = p.left.0; geometry_visits = q.0; width = l.width; height = l.height }) l.nodes.items j.edges.items after counts l.drawn.items rows.items ≡ answer_of (finished j buffer p edges ds points counts taps q.0)
  all_told q on l after shifted rows of page kept = sheet_same j edges ds points counts taps on buffer p q.0 l after shifted rows of page kept

  -- 16 was looked at: each bundle of the table can be printed
  pub all_printable : j.flags.on_grid ≡ true → (q : GeometryVisits) → v ≡ Clean q → (a : Frame) (nodes : List PlacedNode) (es : List Edge) (after : List Float) (b : List DrawnBundle) (rows : List DrawnTap)
      → answer.sheet_of a nodes es after counts b rows ≡ answer_of (finished j buffer p edges ds points counts taps q.0) → Printables (length b) b
  all_printable on q e a nodes es after b rows same =
      let whole = phase_whole given from.bytes plan (job_in j buffer) from.is on (plan_in (length j.bundles.items) p) (phase_taken j buffer given plan r is p on_going) in
      let going = sheet_going j buffer from t lent p offsets v (routes_of points counts) (drawn_in edges taps ds) as_offsets ends q e in
      printables (length b) b rows (omega arith)
      (subst (λ (l : List DrawnBundle). PageFits (map (trunk_of rows) l)) (sym (take-length b)) (subst (λ (z : Sheet). PageFits z.bundles) (sym same) (page_fits from.bytes (job_in j buffer) from.is on (plan_in (length j.bundles.items) p) whole (standing (routes_of points counts) (drawn_in edges taps ds) q.0) going)))
