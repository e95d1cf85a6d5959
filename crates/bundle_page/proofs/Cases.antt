-- Closed cases of a page, worked out by the definitions. Assumes nothing.
use Rattle.std.specs.Prelude.{◌≡◌, refl, true, false, List, [], ◌∷◌, pos, negsuc, Float}
use Rattle.std.specs.Float.{fin}
use Rattle.std.specs.Float.Ieee.{lt}
use Rattle.limits.specs.Limits.{id_columns}
use Rattle.geometry.specs.declared.Segment.{Segment}
use Rattle.answer.specs.Answer.{Trunk, Sheet, all_bytes}
use Rattle.page_text.specs.Listing.{columns, right, number_field, cell, entry_line}
use Rattle.bundle_page.specs.Parts.{parts_of}
use Rattle.bundle_page.specs.AnswerPage.{answer_page}

-- 3 / 2, 3, 9 / 4
abbrev one_and_a_half : Float
one_and_a_half = fin false 3 (negsuc 0)

abbrev three : Float
three = fin false 3 (pos 0)

abbrev two_and_a_quarter : Float
two_and_a_quarter = fin false 9 (negsuc 1)

abbrev line : Float → Float → Float → Segment
line x a b = record { start = record { x = x; y = a }; end = record { x = x; y = b } }

abbrev sheet : List Trunk → Sheet
sheet ts = record { tap_visits = 0; geometry_visits = 0; width = three; height = three; nodes = []; routes = []; bundles = ts }

-- a page with no bundles has no bytes
pub no_bundles : answer_page id_columns (sheet []) ≡ []
unfolding all_bytes
no_bundles = refl

-- two bundles, the first with its larger y at the start: "         7 R            1.5000000            2.2500000            3.0000000" and "        12 I            1.5000000            2.2500000            3.0000000", as Python's exact decimals print them
pub two_bundles : answer_page id_columns (sheet (
    record { id = 7; interior = false; collector = line one_and_a_half three two_and_a_quarter; spine = line three three three; taps = [] }
    ∷ record { id = 12; interior = true; collector = line one_and_a_half two_and_a_quarter three; spine = line three three three; taps = [] } ∷ []))
    ≡ (32 ∷ 32 ∷ 32 ∷ 32 ∷ 32 ∷ 32 ∷ 32 ∷ 32 ∷ 32 ∷ 55 ∷ 32 ∷ 82 ∷ 32 ∷ 32 ∷ 32 ∷ 32 ∷ 32 ∷ 32 ∷ 32 ∷ 32 ∷ 32 ∷ 32 ∷ 32 ∷ 32 ∷ 49 ∷ 46 ∷ 53 ∷ 48 ∷ 48 ∷ 48 ∷ 48 ∷ 48 ∷ 48 ∷ 32 ∷ 32 ∷ 32 ∷ 32 ∷ 32 ∷ 32 ∷ 32 ∷ 32 ∷ 32 ∷ 32 ∷ 32 ∷ 32 ∷ 50 ∷ 46 ∷ 50 ∷ 53 ∷ 48 ∷ 48 ∷ 48 ∷ 48 ∷ 48 ∷ 32 ∷ 32 ∷ 32 ∷ 32 ∷ 32 ∷ 32 ∷ 32 ∷ 32 ∷ 32 ∷ 32 ∷ 32 ∷ 32 ∷ 51 ∷ 46 ∷ 48 ∷ 48 ∷ 48 ∷ 48 ∷ 48 ∷ 48 ∷ 48 ∷ 10 ∷ 32 ∷ 32 ∷ 32 ∷ 32 ∷ 32 ∷ 32 ∷ 32 ∷ 32 ∷ 49 ∷ 50 ∷ 32 ∷ 73 ∷ 32 ∷ 32 ∷ 32 ∷ 32 ∷ 32 ∷ 32 ∷ 32 ∷ 32 ∷ 32 ∷ 32 ∷ 32 ∷ 32 ∷ 49 ∷ 46 ∷ 53 ∷ 48 ∷ 48 ∷ 48 ∷ 48 ∷ 48 ∷ 48 ∷ 32 ∷ 32 ∷ 32 ∷ 32 ∷ 32 ∷ 32 ∷ 32 ∷ 32 ∷ 32 ∷ 32 ∷ 32 ∷ 32 ∷ 50 ∷ 46 ∷ 50 ∷ 53 ∷ 48 ∷ 48 ∷ 48 ∷ 48 ∷ 48 ∷ 32 ∷ 32 ∷ 32 ∷ 32 ∷ 32 ∷ 32 ∷ 32 ∷ 32 ∷ 32 ∷ 32 ∷ 32 ∷ 32 ∷ 51 ∷ 46 ∷ 48 ∷ 48 ∷ 48 ∷ 48 ∷ 48 ∷ 48 ∷ 48 ∷ 10 ∷ [])
unfolding all_bytes entry_line cell number_field right columns parts_of lt
two_bundles = refl
