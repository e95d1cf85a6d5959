-- F-4 of document 02, of the bytes that stand in the buffers of the answer and of the page: "each printed number reads back to the drawn one". What a line says is crate bundle_page's LineReads; it does not use the text's definition. Definitions only.
-- Assumes nothing.
use Rattle.std.specs.Prelude.{ℕ, ◌*◌, ◌<◌, ◌≡◌, List, map, length, take}
use Rattle.limits.specs.Limits.{id_columns, line_bytes}
use Rattle.board.specs.declared.Bundle.{Bundle}
use Rattle.sorting.specs.Lists.{Every}
use Rattle.job.specs.Job.{Job, read_job}
use Rattle.job.specs.Job as job
use Rattle.answer.specs.Answer.{Trunk, Sheet, answer_bytes}
use Rattle.bundle_page.specs.PageReads.{PageReads}

-- the sheet in the answer, and the front of the page's buffer read as its bundles
pub record PageIsRead (bytes answer page : List ℕ) : Type 0 where
  pub sheet : Sheet
  pub is_written : answer ≡ answer_bytes sheet
  pub said : Job
  pub is_read : read_job bytes ≡ job.accepted said
  -- "one line per bundle in job order"
  pub job_order : map (λ (t : Trunk). t.id) sheet.bundles ≡ map (λ (u : Bundle). u.id) said.board.bundles
  -- "collector x": both ends of a collector have the same
  pub one_x : Every (λ (t : Trunk). t.collector.start.x ≡ t.collector.end.x) sheet.bundles
  -- a line of 76 bytes for each bundle
  pub reads : PageReads id_columns (take (line_bytes * length sheet.bundles) page) sheet.bundles

-- F-4, of a job's bytes, the bytes that stand in the answer's buffer for them and the page's buffer, where an answer with number 0 is written: more than the six bytes of a notice
abbrev pub PageReadsBack : List ℕ → List ℕ → List ℕ → Type 0
PageReadsBack bytes answer page = 6 < length answer → PageIsRead bytes answer page
