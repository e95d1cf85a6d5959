-- The page of a sheet whose numbers can stand on it reads back as the sheet. Assumes nothing.
use Rattle.std.specs.Prelude.{ℕ, ◌+◌, ◌^◌, ◌<◌, ◌≡◌, refl, List, [], ◌∷◌, Float}
use Rattle.std.proofs.Common.{sym, ap, ◌∙◌, subst, take_at, drop_at}
use Rattle.binary64.specs.Order.{least, greatest}
use Rattle.sorting.specs.Lists.{Every}
use Rattle.answer.specs.Answer.{Trunk, all_bytes}
use Rattle.page_text.specs.Reading.{read, read_id}
use Rattle.page_text.proofs.Laws.{line_length}
use Rattle.page_text.proofs.Places.{placed}
use Rattle.page_text.proofs.Back.{id_reads_back}
use Rattle.bundle_page.specs.AnswerPage.{entry_from, trunk_line}
use Rattle.bundle_page.specs.PageTables.{OnPage}
use Rattle.bundle_page.specs.PageReads.{ReadsAs, LineReads, PageReads}
use Rattle.bundle_page.proofs.Exact.{printed_exactly}

-- the numbers of a bundle that are printed, its id in w columns
pub record Prints (w : ℕ) (t : Trunk) : Type 0 where
  pub id : t.id < 10 ^ w
  pub x : OnPage t.collector.start.x
  pub low : OnPage (least t.collector.start.y t.collector.end.y)
  pub high : OnPage (greatest t.collector.start.y t.collector.end.y)

read_there : (l f : List ℕ) (x : Float) → l ≡ f → ReadsAs f x → ReadsAs l x
read_there l f x e r = record { number = r.number; is_read = ap read e ∙ r.is_read; is_finite = r.is_finite; is_exact = r.is_exact }

pub line_reads : (w : ℕ) (t : Trunk) → 0 < w → Prints w t → LineReads w (trunk_line w t) t
line_reads w t h p =
    let q = placed w (entry_from t.id t.interior t.collector) in
    record {
      long = line_length w (entry_from t.id t.interior t.collector);
      id = ap read_id q.id ∙ id_reads_back w t.id h p.id;
      behind_id = q.behind_id;
      letter = q.letter_at;
      behind_letter = q.behind_letter;
      x = read_there _ _ _ q.x (printed_exactly _ p.x);
      behind_x = q.behind_x;
      low = read_there _ _ _ q.low (printed_exactly _ p.low);
      behind_low = q.behind_low;
      high = read_there _ _ _ q.high (printed_exactly _ p.high);
      newline = q.newline;
    }

-- THE PAGE READ BACK
pub page_reads : (w : ℕ) (ts : List Trunk) → 0 < w → Every (Prints w) ts → PageReads w (all_bytes (trunk_line w) ts) ts
unfolding all_bytes
page_reads w [] h p = refl
page_reads w (t ∷ ts) h p =
    let l = trunk_line w t in
    let rest = all_bytes (trunk_line w) ts in
    let e = line_length w (entry_from t.id t.interior t.collector) in (
      subst (λ (z : List ℕ). LineReads w z t) (sym (take_at l rest (66 + w) e)) (line_reads w t h p.0),
      subst (λ (z : List ℕ). PageReads w z ts) (sym (drop_at l rest (66 + w) e)) (page_reads w ts h p.1),
    )
