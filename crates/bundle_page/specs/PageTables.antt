-- The bundle page from the table of drawn bundles, and what its numbers have to be. Definitions of inner contracts.
-- Assumes nothing.
use Rattle.std.specs.Prelude.{ℕ, ◌^◌, ◌<◌, List, pos, Float, get_or}
use Rattle.binary64.specs.Order.{least, greatest}
use Rattle.binary64.specs.ExactOnGrid.{At}
use Rattle.board.specs.declared.DrawnBundle.{DrawnBundle}
use Rattle.answer.specs.Answer.{all_bytes}
use Rattle.page_text.specs.Listing.{Entry, entry_line}
use Rattle.bundle_page.specs.AnswerPage.{entry_from}

-- exactly a whole number of 128ths, not negative, below 2 ^ 33: what can stand on the page
pub record OnPage (x : Float) : Type 0 where
  pub count : ℕ
  pub is : At 7 x (pos count)
  pub small : count < 2 ^ 40

abbrev pub entry_of : DrawnBundle → Entry
entry_of b = entry_from b.id b.interior b.collector

unfoldable pub bundle_line : ℕ → DrawnBundle → List ℕ
bundle_line w b = entry_line w (entry_of b)

abbrev pub page_bytes : ℕ → List DrawnBundle → List ℕ
page_bytes w bs = all_bytes (bundle_line w) bs

-- the numbers of a bundle that are printed
pub record Printable (b : DrawnBundle) : Type 0 where
  pub x : OnPage b.collector.start.x
  pub low : OnPage (least b.collector.start.y b.collector.end.y)
  pub high : OnPage (greatest b.collector.start.y b.collector.end.y)

abbrev pub Printables : ℕ → List DrawnBundle → Type 0
Printables n rows = (i : ℕ) (d : DrawnBundle) → i < n → Printable (get_or rows i d)
