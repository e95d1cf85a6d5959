-- The rows that the walk keeps are the crossings of the list, and what is written for them is F-7's list. Assumes nothing.
use Rattle.std.specs.Prelude.{ℕ, zero, suc, ◌+◌, ◌*◌, ◌≡◌, Bool, length, get_or, Option, None}
use Rattle.std.proofs.Math.Path.{refl, sym, ap}
use Rattle.std.proofs.Common.{◌∙◌, subst, true≢false, arith, length-append}
use mathlib.Core.List.{List, [], ◌∷◌, ◌++◌, map, map-append}
use Rattle.std.proofs.Math.Bool.{true, false, cond}
use Rattle.std.proofs.lemmas.List.{length-map}
use Rattle.wire.specs.Bytes.{bytes}
use Rattle.wire.proofs.BytesLaws.{bytes_length}
use Rattle.geometry.specs.declared.Point.{Point}
use Rattle.geometry.specs.declared.Segment.{Segment}
use Rattle.geometry.specs.Points.{Route, runs}
use Rattle.geometry.specs.Kind.{kind}
use Rattle.geometry.specs.Crossing.{is_strict, crossing_place}
use Rattle.geometry.proofs.AnyTap.{any_tap}
use Rattle.sorting.specs.Lists.{Every}
use Rattle.sorting.specs.Sort.{sorted}
use Rattle.sorting.specs.Sorted.{sorted_length}
use Rattle.board.specs.declared.Bundle.{Bundle}
use Rattle.board.specs.declared.DrawnBundle.{DrawnBundle}
use Rattle.board.specs.Board.{Board, no_bundle, no_edge}
use Rattle.answer.specs.Answer.{all_bytes}
use Rattle.answer.proofs.Stores.{all_length}
use Rattle.drawing.specs.Build.{Drawn, tap_of}
use Rattle.crossings.specs.List.{Crossing, crossing_of, run_crossings, route_crossings, bundle_crossings, sheet_crossings, order_key, crossing_list, listed}
use Rattle.limits.specs.Limits.{crossing_bytes}
use Rattle.crossing_rows.specs.declared.Row.{Row}
use Rattle.crossing_rows.specs.Rows.{row, one_row, run_rows, route_rows, bundle_rows, sheet_rows, id_of}
use Rattle.crossing_bytes.specs.Bytes.{crossing_entry, list_bytes}
use Rattle.crossing_bytes.specs.RowBytes.{row_bytes, rows_bytes, row_key}
use Rattle.crossing_bytes.proofs.Laws.{entry_length, map_sorted}

-- a crossing as a row: names has the ids of the bundles, ids those of the edges, by their places
abbrev row_of : List ℕ → List ℕ → Crossing → Row
row_of names ids c = row c.place (get_or names c.bundle 0) (get_or ids c.edge 0)

-- the ids from place u on are these bundles'
abbrev Named : List ℕ → ℕ → List DrawnBundle → Type 0
Named names u [] = Unit {0}
Named names u (d ∷ ds) = (d.id ≡ get_or names u 0) × Named names (suc u) ds

module _ (names ids : List ℕ) where
  one_linked : (s t : Bool) (p : Point) (c : Crossing) (u e : ℕ) → s ≡ t → row p u e ≡ row_of names ids c → cond s (row p u e ∷ []) [] ≡ map (row_of names ids) (cond t (c ∷ []) [])
  one_linked true true p c u e d h = ap (λ (r : Row). r ∷ []) h
  one_linked false false p c u e d h = refl
  one_linked true false p c u e d h = absurd (true≢false d)
  one_linked false true p c u e d h = absurd (true≢false (sym d))

  run_linked : (bus : Segment) (tap : Option Point) (u e : ℕ) (s : Bool) (rs : List Segment) (k : ℕ) → run_rows bus (get_or names u 0) (get_or ids e 0) rs ≡ map (row_of names ids) (run_crossings u e s bus tap rs k)
  unfolding run_rows one_row run_crossings
  run_linked bus tap u e s [] k = refl
  run_linked bus tap u e s (r ∷ rs) k =
      let p = crossing_place bus r.start in
      let a = is_strict (kind bus r.start r.end None) in
      let b = is_strict (kind bus r.start r.end tap) in
      let h : cond a (row p (get_or names u 0) (get_or ids e 0) ∷ []) [] ≡ map (row_of names ids) (cond b (crossing_of u e s k p ∷ []) []) = one_linked a b p (crossing_of u e s k p) (get_or names u 0) (get_or ids e 0) (any_tap bus r.start r.end None tap) refl in
      ap (λ (z : List Row). z ++ run_rows bus (get_or names u 0) (get_or ids e 0) rs) h
      ∙ ap (λ (z : List Row). map (row_of names ids) (cond b (crossing_of u e s k p ∷ []) []) ++ z) (run_linked bus tap u e s rs (suc k))
      ∙ sym (map-append (row_of names ids) (cond b (crossing_of u e s k p ∷ []) []) (run_crossings u e s bus tap rs (suc k)))

  -- f gives the bundle that a row of the table stands for; its taps are the table's own affair
  module _ (f : DrawnBundle → Drawn) (col : (d : DrawnBundle) → d.collector ≡ (f d).collector) (sp : (d : DrawnBundle) → d.spine ≡ (f d).spine) where
    route_linked : (d : DrawnBundle) (u e : ℕ) (r : Route) → d.id ≡ get_or names u 0 → route_rows d (get_or ids e 0) r ≡ map (row_of names ids) (route_crossings u (f d) e r)
    unfolding route_rows route_crossings
    route_linked d u e r h =
        let tap = tap_of (f d).taps e in
        let a : run_rows d.collector d.id (get_or ids e 0) (runs r) ≡ map (row_of names ids) (run_crossings u e false (f d).collector tap (runs r) 0) =
        ap (λ (b : Segment). run_rows b d.id (get_or ids e 0) (runs r)) (col d) ∙ ap (λ (x : ℕ). run_rows (f d).collector x (get_or ids e 0) (runs r)) h ∙ run_linked (f d).collector tap u e false (runs r) 0 in
        let b : run_rows d.spine d.id (get_or ids e 0) (runs r) ≡ map (row_of names ids) (run_crossings u e true (f d).spine tap (runs r) 0) =
        ap (λ (b : Segment). run_rows b d.id (get_or ids e 0) (runs r)) (sp d) ∙ ap (λ (x : ℕ). run_rows (f d).spine x (get_or ids e 0) (runs r)) h ∙ run_linked (f d).spine tap u e true (runs r) 0 in
        rw (a, b) (sym (map-append (row_of names ids) (run_crossings u e false (f d).collector tap (runs r) 0) (run_crossings u e true (f d).spine tap (runs r) 0)))

    bundle_linked : (d : DrawnBundle) (u : ℕ) (rs : List Route) (e : ℕ) → d.id ≡ get_or names u 0 → bundle_rows d ids rs e ≡ map (row_of names ids) (bundle_crossings u (f d) rs e)
    unfolding bundle_rows bundle_crossings
    bundle_linked d u [] e h = refl
    bundle_linked d u (r ∷ rs) e h = rw (route_linked d u e r h, bundle_linked d u rs (suc e) h) (sym (map-append (row_of names ids) (route_crossings u (f d) e r) (bundle_crossings u (f d) rs (suc e))))

    sheet_linked : (u : ℕ) (ds : List DrawnBundle) (rs : List Route) → Named names u ds → sheet_rows ds ids rs ≡ map (row_of names ids) (sheet_crossings u (map f ds) rs)
    unfolding sheet_rows sheet_crossings
    sheet_linked u [] rs h = refl
    sheet_linked u (d ∷ ds) rs h = rw (bundle_linked d u rs 0 h.0, sheet_linked (suc u) ds rs h.1) (sym (map-append (row_of names ids) (bundle_crossings u (f d) rs 0) (sheet_crossings (suc u) (map f ds) rs)))

-- ---- the ids of the bundles by their places

named_up : (x : ℕ) (names : List ℕ) (u : ℕ) (ds : List DrawnBundle) → Named names u ds → Named (x ∷ names) (suc u) ds
named_up x names u [] h = tt
named_up x names u (d ∷ ds) h = (h.0, named_up x names (suc u) ds h.1)

named_all : (ds : List DrawnBundle) → Named (map (λ (d : DrawnBundle). d.id) ds) 0 ds
named_all [] = tt
named_all (d ∷ ds) = (refl, named_up d.id (map (λ (d : DrawnBundle). d.id) ds) 0 ds (named_all ds))

-- an id read from the table, or from the board
pub get_d_map : {A : Type 0} (f : A → ℕ) (l : List A) (d : A) (i : ℕ) → f d ≡ 0 → get_or (map f l) i 0 ≡ f (get_or l i d)
get_d_map f [] d i e = sym e
get_d_map f (x ∷ l) d zero e = refl
get_d_map f (x ∷ l) d (suc i) e = get_d_map f l d i e

all_same : (names ids : List ℕ) (l : List Crossing) → Every (λ c. order_key c ≡ row_key (row_of names ids c)) l
all_same names ids [] = tt
all_same names ids (c ∷ l) = (refl, all_same names ids l)

-- ---- the list
module _ (b : Board) (f : DrawnBundle → Drawn) (col : (d : DrawnBundle) → d.collector ≡ (f d).collector) (sp : (d : DrawnBundle) → d.spine ≡ (f d).spine) (permitted : Bool) (ds : List DrawnBundle) (rs : List Route)
    (same_ids : map (λ (d : DrawnBundle). d.id) ds ≡ map (λ (u : Bundle). u.id) b.bundles) where
  abbrev names : List ℕ
  names = map (λ (u : Bundle). u.id) b.bundles

  abbrev ids : List ℕ
  ids = map id_of b.edges

  abbrev pub all_rows : List Row
  all_rows = cond permitted (sheet_rows ds ids rs) []

  -- the rows in order are the list's entries
  rows_sorted : sorted row_key (sheet_rows ds ids rs) ≡ map (row_of names ids) (crossing_list (map f ds) rs)
  unfolding crossing_list
  rows_sorted =
      ap (sorted row_key) (sheet_linked names ids f col sp 0 ds rs (subst (λ (l : List ℕ). Named l 0 ds) same_ids (named_all ds)))
      ∙ sym (map_sorted (row_of names ids) order_key row_key (sheet_crossings 0 (map f ds) rs) (all_same names ids (sheet_crossings 0 (map f ds) rs)))

  rows_listed : sorted row_key all_rows ≡ map (row_of names ids) (listed permitted (map f ds) rs)
  unfolding sorted
  rows_listed = go permitted
    where
      go : (t : Bool) → sorted row_key (cond t (sheet_rows ds ids rs) []) ≡ map (row_of names ids) (listed t (map f ds) rs)
      go true = rows_sorted
      go false = refl

  pub rows_many : length all_rows ≡ length (listed permitted (map f ds) rs)
  rows_many = sym (sorted_length row_key all_rows) ∙ ap length rows_listed ∙ length-map (listed permitted (map f ds) rs) (row_of names ids)

  entry_same : (c : Crossing) → row_bytes (row_of names ids c) ≡ crossing_entry b c
  entry_same c = rw (get_d_map (λ (u : Bundle). u.id) b.bundles no_bundle c.bundle refl, get_d_map id_of b.edges no_edge c.edge refl)

  entries_same : (l : List Crossing) → all_bytes row_bytes (map (row_of names ids) l) ≡ all_bytes (crossing_entry b) l
  unfolding all_bytes
  entries_same [] = refl
  entries_same (c ∷ l) = rw (entry_same c, entries_same l)

  pub bytes_same : rows_bytes (sorted row_key all_rows) ≡ list_bytes b (listed permitted (map f ds) rs)
  unfolding rows_bytes list_bytes
  bytes_same =
      let l = listed permitted (map f ds) rs in
      ap (λ (r : List Row). bytes 2 (length r) ++ all_bytes row_bytes r) rows_listed
      ∙ ap (λ (n : ℕ). bytes 2 n ++ all_bytes row_bytes (map (row_of names ids) l)) (length-map l (row_of names ids))
      ∙ ap (λ (r : List ℕ). bytes 2 (length l) ++ r) (entries_same l)

-- its length: 2 bytes, and 24 for each entry
pub list_length : (b : Board) (l : List Crossing) → length (list_bytes b l) ≡ 2 + crossing_bytes * length l
unfolding list_bytes
list_length b l =
    let k = all_length (crossing_entry b) crossing_bytes l (λ c. entry_length c.place (get_or b.bundles c.bundle no_bundle).id (get_or b.edges c.edge no_edge).id) in
    simp (length-append, bytes_length) (omega arith)
