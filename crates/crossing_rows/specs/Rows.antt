-- The entries of F-7's list, as the walk over the sheet meets them. Definitions of inner contracts.
-- Assumes nothing.
use Rattle.std.specs.Prelude.{ℕ, zero, suc, ◌≤◌, ◌≡◌, List, [], ◌∷◌, ◌++◌, map, Bool, cond, leb, length, get_or, Float, None}
use Rattle.geometry.specs.declared.Point.{Point}
use Rattle.geometry.specs.declared.Segment.{Segment}
use Rattle.geometry.specs.Points.{Route, runs, point_at}
use Rattle.geometry.specs.Kind.{kind}
use Rattle.geometry.specs.Crossing.{is_strict, crossing_place}
use Rattle.board.specs.declared.DrawnBundle.{DrawnBundle}
use Rattle.board.specs.declared.Edge.{Edge}
use Rattle.limits.specs.Limits.{max_crossings}
use Rattle.route.specs.Slots.{routes_of}
use Rattle.crossing_rows.specs.declared.Row.{Row}

-- an entry: "the point as two f64, the bundle id, the edge id"
abbrev pub row : Point → ℕ → ℕ → Row
row p u e = record { place = p; bundle = u; edge = e }

-- ids are those of the edges
abbrev pub id_of : Edge → ℕ
id_of e = e.id

-- ---- the walk; whether they cross strictly does not hang on the tap, so none is looked up
unfoldable pub one_row : Segment → ℕ → ℕ → Segment → List Row
one_row bus u e r = cond (is_strict (kind bus r.start r.end None)) (row (crossing_place bus r.start) u e ∷ []) []

unfoldable pub run_rows : Segment → ℕ → ℕ → List Segment → List Row
unfolding one_row
run_rows bus u e [] = []
run_rows bus u e (r ∷ rs) = one_row bus u e r ++ run_rows bus u e rs

unfoldable pub route_rows : DrawnBundle → ℕ → Route → List Row
unfolding run_rows
route_rows d e r = run_rows d.collector d.id e (runs r) ++ run_rows d.spine d.id e (runs r)

-- ids has the ids of the edges
unfoldable pub bundle_rows : DrawnBundle → List ℕ → List Route → ℕ → List Row
unfolding route_rows
bundle_rows d ids [] e = []
bundle_rows d ids (r ∷ rs) e = route_rows d (get_or ids e 0) r ++ bundle_rows d ids rs (suc e)

unfoldable pub sheet_rows : List DrawnBundle → List ℕ → List Route → List Row
unfolding bundle_rows
sheet_rows [] ids rs = []
sheet_rows (d ∷ ds) ids rs = bundle_rows d ids rs 0 ++ sheet_rows ds ids rs

-- those of a sheet in lists and slots, where crossings are permitted
unfoldable pub rows_met : Bool → List Edge → List DrawnBundle → List Float → List ℕ → List Row
rows_met permitted table drawn points counts = cond permitted (sheet_rows drawn (map id_of table) (routes_of points counts)) []
