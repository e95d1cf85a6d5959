-- F-4, proved of every job with bit 2 set, its answer and the page that is written for it. Assumes nothing.
use Rattle.std.specs.Prelude.{ℕ, ◌+◌, ◌*◌, ◌^◌, ◌≤◌, ◌<◌, ◌≡◌, refl, true, List, [], ◌∷◌, ◌++◌, map, length, take, drop, get_or}
use Rattle.std.proofs.Common.{sym, ap, ◌∙◌, subst, arith, lit<, take_at}
use Rattle.std.specs.Float.Ieee.{lt}
use Rattle.std.proofs.lemmas.List.{length-map}
use Rattle.std.proofs.lemmas.List.Edits.{sets, sets-eq}
use Rattle.limits.specs.Limits.{max_bundles, id_columns, line_bytes, page_room}
use Rattle.board.specs.declared.Edge.{Edge}
use Rattle.board.specs.declared.Bundle.{Bundle}
use Rattle.sorting.specs.Lists.{Every}
use Rattle.job.specs.Job.{Job, given_routes, read_job}
use Rattle.job.specs.Job as job
use Rattle.job.proofs.Sound.{accepted_sound}
use Rattle.drawing.specs.Build.{Drawn}
use Rattle.drawing.specs.Sheet.{Progress}
use Rattle.drawing.specs.Sheet as drawing
use Rattle.answer.specs.Answer.{Trunk, Sheet, answer_bytes}
use Rattle.promise.specs.Stage.{Finished, answer_of, sheet_drawn, normalized, bundles_told, page_told}
use Rattle.promise.proofs.BoardDemand.{Shaped, drawn_length}
use Rattle.promise.proofs.Read.{readable}
use Rattle.grid_promise.proofs.Whole.{WholePlan}
use Rattle.bundle_page.specs.AnswerPage.{answer_page}
use Rattle.bundle_page.specs.PageReads.{PageReads}
use Rattle.bundle_page.proofs.PartsLaws.{chosen}
use Rattle.bundle_page.proofs.Exact.{answer_page_length, page_at_most}
use Rattle.bundle_page.proofs.ReadBack.{Prints, page_reads}
use Rattle.page_promise.proofs.PageFits.{PageFits, page_fits}
use Rattle.page_promise.proofs.BundleIds.{bundle_ids}
use Rattle.page_promise.proofs.Upright.{answer_upright, answer_ids}
use Rattle.page_promise.specs.PageReadsBack.{PageIsRead}

-- ---- the ids
told_small : (edges : List Edge) (us : List Bundle) (ds : List Drawn) → Every (λ (u : Bundle). u.id < 2 ^ 32) us → Every (λ (t : Trunk). t.id < 2 ^ 32) (bundles_told edges us ds)
unfolding bundles_told
told_small edges [] ds h = tt
told_small edges (u ∷ us) [] h = tt
told_small edges (u ∷ us) (d ∷ ds) h = (h.0, told_small edges us ds h.1)

-- of the job's bytes, each of which is a byte
pub answer_ids_small : (bytes : List ℕ) (j : Job) → ((i : ℕ) → i < length bytes → get_or bytes i 0 < 256) → read_job bytes ≡ job.accepted j → (taps geometry : ℕ) (u : Progress)
    → Every (λ (t : Trunk). t.id < 2 ^ 32) (page_told j.board taps geometry (normalized j.board u)).bundles
unfolding page_told
answer_ids_small bytes j all e taps geometry u = told_small j.board.edges j.board.bundles (normalized j.board u).sheet.drawn (bundle_ids bytes j all e)

-- ---- a page that fits is read back
prints : (ts : List Trunk) → PageFits ts → Every (λ (t : Trunk). t.id < 2 ^ 32) ts → Every (Prints id_columns) ts
prints [] h k = tt
prints (t ∷ ts) h k =
    let e = h.0 in
    let y = t.collector.start.y in
    let z = t.collector.end.y in
    let i = k.0 in (
      record { id = omega arith; x = e.start_x; low = chosen (lt z y) z y e.end_y e.start_y; high = chosen (lt y z) z y e.end_y e.start_y },
      prints ts h.1 k.1,
    )

pub reads_back : (s : Sheet) → PageFits s.bundles → Every (λ (t : Trunk). t.id < 2 ^ 32) s.bundles → PageReads id_columns (answer_page id_columns s) s.bundles
reads_back s h k = page_reads id_columns s.bundles (lit< tt) (prints s.bundles h k)

-- ---- at the front of a buffer
front : (buffer p : List ℕ) → length p ≤ length buffer → take (length p) (sets buffer 0 p) ≡ p
front buffer p h =
    let z : 0 + length p ≡ length p = omega arith in
    ap (take (length p)) (sets-eq p buffer 0 (omega arith) ∙ ap (λ (k : ℕ). p ++ drop k buffer) z) ∙ take_at p (drop (length p) buffer) (length p) refl

pub page_at_front : (s : Sheet) (buffer after : List ℕ) → length s.bundles ≤ max_bundles → page_room ≤ length buffer → after ≡ sets buffer 0 (answer_page id_columns s)
    → take (line_bytes * length s.bundles) after ≡ answer_page id_columns s
page_at_front s buffer after few room e =
    let p = answer_page id_columns s in
    let l = answer_page_length id_columns s in
    let q = page_at_most s few in
    ap (take (line_bytes * length s.bundles)) e ∙ ap (λ (k : ℕ). take k (sets buffer 0 p)) (sym l) ∙ front buffer p (omega arith)

-- ---- a bundle of the answer for each of the job
few_ids : (b : List Bundle) (ts : List Trunk) → map (λ (t : Trunk). t.id) ts ≡ map (λ (u : Bundle). u.id) b → length b ≤ max_bundles → length ts ≤ max_bundles
few_ids b ts e h =
    let l = ap length e in
    let m = length-map ts (λ (t : Trunk). t.id) in
    let n = length-map b (λ (u : Bundle). u.id) in
    omega arith

-- of a job that is read and a sheet that is drawn, whatever the plan
module _ (bytes : List ℕ) (f : Finished) (is_read : read_job bytes ≡ job.accepted f.said) (is_drawn : sheet_drawn f.said f.plan_used ≡ drawing.going f.sheet_made) (shape : Shaped f.said.board f.plan_used.xs) where
  abbrev j : Job
  j = f.said

  ids_are : map (λ (t : Trunk). t.id) (answer_of f).bundles ≡ map (λ (u : Bundle). u.id) f.said.board.bundles
  unfolding page_told
  ids_are = answer_ids j.board f.sheet_made (drawn_length j.board (given_routes j) (readable bytes j is_read) f.plan_used.xs shape j.grants.geometry_visits j.flags.permits_crossings f.sheet_made is_drawn)

  upright : Every (λ (t : Trunk). t.collector.start.x ≡ t.collector.end.x) (answer_of f).bundles
  unfolding page_told
  upright = answer_upright j.board (given_routes j) j.flags.permits_crossings f.plan_used.xs j.grants.geometry_visits f.sheet_made is_drawn

  -- THE THEOREM, of what stands in the buffers
  pub page_in : ((i : ℕ) → i < length bytes → get_or bytes i 0 < 256) → f.said.flags.on_grid ≡ true → WholePlan f.plan_used → (answer buffer after : List ℕ) → answer ≡ answer_bytes (answer_of f)
      → page_room ≤ length buffer → after ≡ sets buffer 0 (answer_page id_columns (answer_of f)) → PageIsRead bytes answer after
  page_in all g near answer buffer after w room e =
      let s = answer_of f in
      let fits : PageFits s.bundles = page_fits bytes j is_read g f.plan_used near f.sheet_made is_drawn in
      let ids : Every (λ (t : Trunk). t.id < 2 ^ 32) s.bundles = answer_ids_small bytes j all is_read f.plan_used.left f.sheet_made.left f.sheet_made in
      let few = few_ids j.board.bundles s.bundles ids_are (accepted_sound bytes j is_read).0.bundle_total in
      record {
        sheet = s;
        is_written = w;
        said = j;
        is_read = is_read;
        job_order = ids_are;
        one_x = upright;
        reads = subst (λ (p : List ℕ). PageReads id_columns p s.bundles) (sym (page_at_front s buffer after few room e)) (reads_back s fits ids);
      }
