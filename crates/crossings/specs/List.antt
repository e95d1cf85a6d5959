-- F-7's list: all strict crossings between a bundle segment and a route segment of a sheet. Definitions only.
-- Assumes nothing.
use Rattle.std.specs.Prelude.{ℕ, suc, List, [], ◌∷◌, ◌++◌, Bool, true, false, cond, Option}
use Rattle.geometry.specs.declared.Point.{Point}
use Rattle.geometry.specs.declared.Segment.{Segment}
use Rattle.geometry.specs.Points.{Route, runs}
use Rattle.geometry.specs.Kind.{kind}
use Rattle.geometry.specs.Crossing.{is_strict, crossing_place}
use Rattle.sorting.specs.Sort.{sorted}
use Rattle.place_order.specs.Order.{place_key}
use Rattle.drawing.specs.Build.{Drawn, tap_of}

-- a strict crossing: which bundle, by job order; which edge, by its place in the job; its spine or its collector; which run of the route, from 0; and where
pub record Crossing : Type 0 where
  pub bundle : ℕ
  pub edge : ℕ
  pub spine : Bool
  pub run : ℕ
  pub place : Point

abbrev pub crossing_of : ℕ → ℕ → Bool → ℕ → Point → Crossing
crossing_of u e s k p = record { bundle = u; edge = e; spine = s; run = k; place = p }

-- ---- all of them, "by bundle position, then edge position, then collector before spine, then run"

-- "as F-6 answers them": the runs of edge e, from run k on, that cross a segment of bundle u
unfoldable pub run_crossings : ℕ → ℕ → Bool → Segment → Option Point → List Segment → ℕ → List Crossing
run_crossings u e s bus tap [] k = []
run_crossings u e s bus tap (r ∷ rs) k =
    cond (is_strict (kind bus r.start r.end tap)) (crossing_of u e s k (crossing_place bus r.start) ∷ []) [] ++ run_crossings u e s bus tap rs (suc k)

-- a route against the collector, then against the spine
unfoldable pub route_crossings : ℕ → Drawn → ℕ → Route → List Crossing
unfolding run_crossings
route_crossings u d e r = run_crossings u e false d.collector (tap_of d.taps e) (runs r) 0 ++ run_crossings u e true d.spine (tap_of d.taps e) (runs r) 0

-- the routes from edge e on
unfoldable pub bundle_crossings : ℕ → Drawn → List Route → ℕ → List Crossing
unfolding route_crossings
bundle_crossings u d [] e = []
bundle_crossings u d (r ∷ rs) e = route_crossings u d e r ++ bundle_crossings u d rs (suc e)

-- the bundles from bundle u on
unfoldable pub sheet_crossings : ℕ → List Drawn → List Route → List Crossing
unfolding bundle_crossings
sheet_crossings u [] rs = []
sheet_crossings u (d ∷ ds) rs = bundle_crossings u d rs 0 ++ sheet_crossings (suc u) ds rs

-- ---- in order

abbrev pub order_key : Crossing → ℕ
order_key c = place_key c.place

-- THE LIST: "by y, then x", and where both are equal as above
unfoldable pub crossing_list : List Drawn → List Route → List Crossing
unfolding sheet_crossings
crossing_list ds rs = sorted order_key (sheet_crossings 0 ds rs)

-- "With crossings permitted": where they are forbidden a sheet has none, and its list no entry
abbrev pub listed : Bool → List Drawn → List Route → List Crossing
listed permitted ds rs = cond permitted (crossing_list ds rs) []
