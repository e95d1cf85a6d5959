-- The looks of a sheet as one list, in the order in which the bundles' checks make them, and the visits that they count. Definitions of theorems.
-- Assumes nothing.
use Rattle.std.specs.Prelude.{ℕ, suc, min, List, [], ◌∷◌, ◌++◌, Bool, cond, Option, Some, None}
use Rattle.geometry.specs.Points.{Route}
use Rattle.board.specs.Board.{Board}
use Rattle.plan.specs.Depths.{members_in}
use Rattle.drawing.specs.Build.{Drawn, build}
use Rattle.drawing.specs.Check.{Test, due, barred, among, interior_tests, contact_tests}
use Rattle.drawing.specs.Sheet.{Turn, rewritten_by}

-- the looks of a bundle's two checks
unfoldable pub turn_looks : Board → Bool → Turn → Drawn → List Drawn → List Route → List Test
turn_looks b allow t d priors rs = interior_tests b (members_in b t.bundle) rs ++ contact_tests b.options allow d (among (members_in b t.bundle)) priors rs

-- the looks of a bundle, then those of the later ones; a rewriting that is refused ends the sheet
unfoldable pub looks_after : Option (List Route) → (List Route → List Test) → List Test
looks_after None f = []
looks_after (Some rs) f = f rs

-- all looks of the sheet
unfoldable pub sheet_looks : Board → Bool → List Turn → List Route → List Drawn → List Test
unfolding looks_after turn_looks
sheet_looks b allow [] rs ds = []
sheet_looks b allow (t ∷ ts) rs ds =
    let d = build b t.bundle t.planned rs in
    looks_after (rewritten_by b t d rs) (λ qs. turn_looks b allow t d ds qs ++ sheet_looks b allow ts qs (ds ++ (d ∷ [])))

-- what a list of looks counts when visits never run out: one for each up to the first that fails; a barred one fails uncounted
unfoldable pub fee : List Test → ℕ
fee [] = 0
fee (barred ∷ ts) = 0
fee (due t ∷ ts) = suc (cond t 0 (fee ts))

-- what the sheet counts, of n visits granted: its fee, or n if that is less
abbrev pub sheet_counts : Board → Bool → List Turn → List Route → List Drawn → ℕ → ℕ
sheet_counts b allow ts rs ds n = min (fee (sheet_looks b allow ts rs ds)) n
