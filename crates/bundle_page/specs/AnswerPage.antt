-- The bundle page of an answer, from document 02's F-4: "one line per bundle in job order". Definitions only.
-- Assumes nothing.
use Rattle.std.specs.Prelude.{ℕ, Bool, List}
use Rattle.binary64.specs.Order.{least, greatest}
use Rattle.geometry.specs.declared.Segment.{Segment}
use Rattle.answer.specs.Answer.{Trunk, Sheet, all_bytes}
use Rattle.page_text.specs.Listing.{Entry, entry_line}
use Rattle.bundle_page.specs.Parts.{parts_of}

-- "collector x, smaller y and larger y as they stand in the answer"
abbrev pub entry_from : ℕ → Bool → Segment → Entry
entry_from id interior c =
    record {
      id = id;
      interior = interior;
      x = parts_of c.start.x;
      low = parts_of (least c.start.y c.end.y);
      high = parts_of (greatest c.start.y c.end.y);
    }

-- the line of a bundle, its id in w columns
abbrev pub trunk_line : ℕ → Trunk → List ℕ
trunk_line w t = entry_line w (entry_from t.id t.interior t.collector)

-- THE PAGE of an answer: a line for each bundle, in the answer's order
abbrev pub answer_page : ℕ → Sheet → List ℕ
answer_page w s = all_bytes (trunk_line w) s.bundles
