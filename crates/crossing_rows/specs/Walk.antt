-- The walk over the sheet: run after run, route after route, bundle after bundle. Assumes nothing.
use Rattle.std.specs.Prelude.{ℕ, ◌+◌, ◌*◌, ◌-◌, ◌≤◌, ◌<◌, ◌≡◌, refl, Bool, not, take, set, Float, Option, None}
use Rattle.std.proofs.Math.Path.{sym}
use Rattle.std.proofs.Common.{ap, ◌∙◌, subst, true≢false, add-one, get_or-take, take-suc, take-suc-set}
use mathlib.Core.List.{List, [], ◌∷◌, ◌++◌, map, map-append}
use Rattle.std.proofs.Math.Bool.{true, false}
use native.Mathlib.Omega.{arith}
use Rattle.std.proofs.Math.ListN.{length, get_or, drop, drop_of_length-le}
use Rattle.std.proofs.Math.Seq.{drop-cons, length-take-le}
use Rattle.geometry.specs.declared.Point.{Point}
use Rattle.geometry.specs.declared.Segment.{Segment}
use Rattle.geometry.specs.Points.{Route, runs, run_at, points_from}
use Rattle.geometry.specs.declared.Trunk.{Trunk}
use Rattle.geometry.specs.Apart.{trunk, apart}
use Rattle.geometry.proofs.Clear.{apart_contact}
use Rattle.route.specs.Window.{runs_next, runs_none}
use Rattle.route.specs.Slots.{routes_of, routes_from}
use Rattle.geometry.specs.declared.Contact.{Contact}
use Rattle.geometry.specs.declared.Contact.TheVariants as kinds
use Rattle.geometry.specs.Kind.{kind, disallowed}
use Rattle.geometry.specs.Crossing.{is_strict, crossing_place}
use Rattle.geometry.proofs.KindContact.{kind_contact}
use Rattle.board.specs.declared.DrawnBundle.{DrawnBundle}
use Rattle.board.specs.declared.Edge.{Edge}
use Rattle.limits.specs.Limits.{slot_points}
use Rattle.crossing_rows.specs.declared.Row.{Row}
use Rattle.crossing_rows.specs.Rows.{row, one_row, run_rows, route_rows, bundle_rows, sheet_rows, id_of}

-- ---- a run that is apart from a bus does not cross it

not_strict : (k : Contact) → disallowed false k ≡ false → is_strict k ≡ false
not_strict kinds.Apart e = refl
not_strict kinds.TouchAtTap e = refl
not_strict kinds.StrictCrossing e = e
not_strict kinds.TouchElsewhere e = refl
not_strict kinds.Overlap e = refl
not_strict kinds.Slanted e = refl

pub apart_uncrossed : (bus : Segment) (z : Float) (a b : Point) (tap : Option Point) → apart (trunk bus) z a b ≡ true → is_strict (kind bus a b tap) ≡ false
apart_uncrossed bus z a b tap h = not_strict (kind bus a b tap) (kind_contact bus a b tap false ∙ apart_contact bus z a b tap false h)

pub apart_crosses : (bus : Segment) (t : Trunk) (z : Float) (a b : Point) (tap : Option Point) (r : Bool) → t ≡ trunk bus → r ≡ apart t z a b → r ≡ true → false ≡ is_strict (kind bus a b tap)
apart_crosses bus t z a b tap r d e h = sym (apart_uncrossed bus z a b tap (ap (λ (w : Trunk). apart w z a b) (sym d) ∙ sym e ∙ h))

-- ---- one run

module _ (bus : Segment) (u e : ℕ) (r : Segment) where
  pub row_hit : (t : Bool) (z : Point) → t ≡ is_strict (kind bus r.start r.end None) → t ≡ true → z ≡ crossing_place bus r.start → row z u e ∷ [] ≡ one_row bus u e r
  unfolding one_row
  row_hit t z d h p = let k : is_strict (kind bus r.start r.end None) ≡ true = sym d ∙ h in rw (k, p)

  pub row_miss : (t : Bool) → t ≡ is_strict (kind bus r.start r.end None) → t ≡ false → [] ≡ one_row bus u e r
  unfolding one_row
  row_miss t d h = let k : is_strict (kind bus r.start r.end None) ≡ false = sym d ∙ h in rw k

-- ---- run after run

module _ (bus : Segment) (u e : ℕ) (s : List Float) (start n : ℕ) where
  abbrev pub runs_at : ℕ → List Row
  runs_at i = run_rows bus u e (runs (points_from s (start + i) (n - i)))

  pub runs_start : run_rows bus u e (runs (points_from s start n)) ≡ runs_at 0
  runs_start =
      let a : start + 0 ≡ start = omega arith in
      let b : n - 0 ≡ n = omega arith in
      rw (a, b)

  pub runs_step : (i : ℕ) (r : Segment) → i + 1 < n → r ≡ run_at s (start + i) → runs_at i ≡ one_row bus u e r ++ runs_at (i + 1)
  unfolding run_rows
  runs_step i r h d = rw (runs_next s start n i h, d)

  pub runs_end : (i : ℕ) → n ≤ i + 1 → runs_at i ≡ []
  unfolding run_rows
  runs_end i h = let g : n - i ≤ 1 = omega arith in rw (runs_none s (start + i) (n - i) g)

-- ---- route after route

module _ (d : DrawnBundle) (ids : List ℕ) (s : List Float) (ns : List ℕ) where
  abbrev pub routes_at : ℕ → List Row
  routes_at i = bundle_rows d ids (routes_from s i (drop i ns)) i

  pub routes_step : (i : ℕ) → i < length ns → routes_at i ≡ route_rows d (get_or ids i 0) (points_from s (slot_points * i) (get_or ns i 0)) ++ routes_at (i + 1)
  unfolding bundle_rows routes_from
  routes_step i h = rw (add-one, drop-cons ns i 0 h)

  pub routes_end : (i : ℕ) → length ns ≤ i → routes_at i ≡ []
  unfolding bundle_rows routes_from
  routes_end i h = rw (drop_of_length-le ns h)

-- ---- bundle after bundle

module _ (l : List DrawnBundle) (ids : List ℕ) (rs : List Route) where
  abbrev pub drawn_at : ℕ → List Row
  drawn_at i = sheet_rows (drop i l) ids rs

  pub drawn_step : (i : ℕ) (d : DrawnBundle) → i < length l → drawn_at i ≡ bundle_rows (get_or l i d) ids rs 0 ++ drawn_at (i + 1)
  unfolding sheet_rows
  drawn_step i d h = rw (add-one, drop-cons l i d h)

  pub drawn_end : (i : ℕ) → length l ≤ i → drawn_at i ≡ []
  unfolding sheet_rows
  drawn_end i h = rw (drop_of_length-le l h)

-- the same of the first n of a table
module _ (l : List DrawnBundle) (n : ℕ) (ids : List ℕ) (rs : List Route) where
  abbrev pub bundles_at : ℕ → List Row
  bundles_at i = sheet_rows (drop i (take n l)) ids rs

  pub bundles_step : (i : ℕ) (d : DrawnBundle) → i < n → n ≤ length l → bundles_at i ≡ bundle_rows (get_or l i d) ids rs 0 ++ bundles_at (i + 1)
  bundles_step i d h k =
      let b : i < length (take n l) = rw length-take-le (omega arith) in
      drawn_step (take n l) ids rs i d b ∙ ap (λ (x : DrawnBundle). bundle_rows x ids rs 0 ++ bundles_at (i + 1)) (get_or-take n l i d h)

  pub bundles_end : (i : ℕ) → n ≤ i → n ≤ length l → bundles_at i ≡ []
  bundles_end i h k =
      let b : length (take n l) ≤ i = rw length-take-le h in
      drawn_end (take n l) ids rs i b

-- ---- the ids of the edges, one after the other

pub ids_more : (ids : List ℕ) (rows : List Edge) (d : Edge) (i n : ℕ) → n ≡ id_of (get_or rows i d) → i < length ids → i < length rows → take i ids ≡ map id_of (take i rows) → take (i + 1) (set ids i n) ≡ map id_of (take (i + 1) rows)
ids_more ids rows d i n v h k e = rw (add-one, take-suc-set ids i n h, take-suc rows i d k, map-append id_of (take i rows) (get_or rows i d ∷ []), e, v)
