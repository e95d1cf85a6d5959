-- The list is in order, and each crossing stands there once. Assumes nothing.
use Rattle.std.specs.Prelude.{ℕ, suc, ◌+◌, ◌≤◌, ◌<◌, ◌≡◌, refl, ◌⊎◌, List, [], ◌∷◌, ◌++◌, Bool, true, false, cond, leb, Option}
use Rattle.std.proofs.Common.{sym, ap, ◌∙◌, inl, inr, arith, leb-true, leb-false}
use Rattle.geometry.specs.declared.Point.{Point}
use Rattle.geometry.specs.declared.Segment.{Segment}
use Rattle.geometry.specs.Points.{Route, runs}
use Rattle.geometry.specs.Kind.{kind}
use Rattle.geometry.specs.Crossing.{is_strict, crossing_place}
use Rattle.sorting.specs.Sort.{insert, sorted}
use Rattle.sorting.specs.Lists.{In, Every}
use Rattle.sorting.specs.Sorted.{every_append, every_insert, every_sorted}
use Rattle.drawing.specs.Build.{Drawn, tap_of}
use Rattle.crossings.specs.List.{Crossing, crossing_of, run_crossings, route_crossings, bundle_crossings, sheet_crossings, order_key, crossing_list}
use Rattle.place_order.specs.Order.{place_key}
use Rattle.crossings.specs.Words.{rank, Sooner, by_bundle, by_edge, by_segment, by_run, Ahead, by_place, by_name, InOrder, SamePair, Once, IsCrossing}
use Rattle.crossings.proofs.Keys.{RealPoint, place_below, place_level}
use Rattle.crossings.proofs.Each.{runs_only, route_only, bundle_only, sheet_only, listed_only}

-- ---- the names rise

abbrev Rising : List Crossing → Type 0
Rising [] = Unit {0}
Rising (j ∷ l) = Every (Sooner j) l × Rising l

all_in : {A : Type 0} (P : A → Type 0) (l : List A) → ((x : A) → In x l → P x) → Every P l
all_in P [] f = tt
all_in P (x ∷ l) f = (f x (inl refl), all_in P l (λ y i. f y (inr i)))

rising_append : (l m : List Crossing) → Rising l → Rising m → ((j k : Crossing) → In j l → In k m → Sooner j k) → Rising (l ++ m)
rising_append [] m h g f = g
rising_append (j ∷ l) m h g f = (every_append (Sooner j) l m h.0 (all_in (Sooner j) m (λ k i. f j k (inl refl) i)), rising_append l m h.1 g (λ x y a b. f x y (inr a) b))

rising_cond : (t : Bool) (j : Crossing) → Rising (cond t (j ∷ []) [])
rising_cond true j = (tt, tt)
rising_cond false j = tt

in_cond : (t : Bool) (j p : Crossing) → In j (cond t (p ∷ []) []) → j ≡ p
in_cond true j p (inl e) = e
in_cond true j p (inr h) = absurd h
in_cond false j p h = absurd h

-- two entries by what they are
by_runs : (j k : Crossing) (u e : ℕ) (s : Bool) (m n : ℕ) (p q : Point) → j ≡ crossing_of u e s m p → k ≡ crossing_of u e s n q → m < n → Sooner j k
by_runs j k u e s m n p q i l h =
    by_run (ap (λ (x : Crossing). x.bundle) i ∙ sym (ap (λ (x : Crossing). x.bundle) l)) (ap (λ (x : Crossing). x.edge) i ∙ sym (ap (λ (x : Crossing). x.edge) l)) (ap (λ (x : Crossing). rank x.spine) i ∙ sym (ap (λ (x : Crossing). rank x.spine) l))
    (omega (arith, ap (λ (x : Crossing). x.run) i, ap (λ (x : Crossing). x.run) l))

by_segments : (j k : Crossing) (u e : ℕ) (m n : ℕ) (p q : Point) → j ≡ crossing_of u e false m p → k ≡ crossing_of u e true n q → Sooner j k
by_segments j k u e m n p q i l =
    by_segment (ap (λ (x : Crossing). x.bundle) i ∙ sym (ap (λ (x : Crossing). x.bundle) l)) (ap (λ (x : Crossing). x.edge) i ∙ sym (ap (λ (x : Crossing). x.edge) l)) (omega (arith, ap (λ (x : Crossing). rank x.spine) i, ap (λ (x : Crossing). rank x.spine) l))

by_edges : (j k : Crossing) (u d e : ℕ) (s t : Bool) (m n : ℕ) (p q : Point) → j ≡ crossing_of u d s m p → k ≡ crossing_of u e t n q → d < e → Sooner j k
by_edges j k u d e s t m n p q i l h =
    by_edge (ap (λ (x : Crossing). x.bundle) i ∙ sym (ap (λ (x : Crossing). x.bundle) l)) (omega (arith, ap (λ (x : Crossing). x.edge) i, ap (λ (x : Crossing). x.edge) l))

by_bundles : (j k : Crossing) (u w d e : ℕ) (s t : Bool) (m n : ℕ) (p q : Point) → j ≡ crossing_of u d s m p → k ≡ crossing_of w e t n q → u < w → Sooner j k
by_bundles j k u w d e s t m n p q i l h = by_bundle (omega (arith, ap (λ (x : Crossing). x.bundle) i, ap (λ (x : Crossing). x.bundle) l))

rising_runs : (u e : ℕ) (s : Bool) (bus : Segment) (tap : Option Point) (rs : List Segment) (k : ℕ) → Rising (run_crossings u e s bus tap rs k)
unfolding run_crossings
rising_runs u e s bus tap [] k = tt
rising_runs u e s bus tap (r ∷ rs) k =
    let t = is_strict (kind bus r.start r.end tap) in
    let p = crossing_of u e s k (crossing_place bus r.start) in
    rising_append (cond t (p ∷ []) []) (run_crossings u e s bus tap rs (suc k)) (rising_cond t p) (rising_runs u e s bus tap rs (suc k))
    (λ i j a b.
    let o = runs_only u e s bus tap rs (suc k) j b in
    by_runs i j u e s k (suc k + o.n) p.place _ (in_cond t i p a) o.is (omega arith))

rising_route : (u : ℕ) (d : Drawn) (e : ℕ) (r : Route) → Rising (route_crossings u d e r)
unfolding route_crossings
rising_route u d e r =
    let tap = tap_of d.taps e in
    rising_append (run_crossings u e false d.collector tap (runs r) 0) (run_crossings u e true d.spine tap (runs r) 0) (rising_runs u e false d.collector tap (runs r) 0) (rising_runs u e true d.spine tap (runs r) 0)
    (λ i j a b.
    let o = runs_only u e false d.collector tap (runs r) 0 i a in
    let q = runs_only u e true d.spine tap (runs r) 0 j b in
    by_segments i j u e (0 + o.n) (0 + q.n) _ _ o.is q.is)

rising_bundle : (u : ℕ) (d : Drawn) (rs : List Route) (e : ℕ) → Rising (bundle_crossings u d rs e)
unfolding bundle_crossings
rising_bundle u d [] e = tt
rising_bundle u d (r ∷ rs) e =
    rising_append (route_crossings u d e r) (bundle_crossings u d rs (suc e)) (rising_route u d e r) (rising_bundle u d rs (suc e))
    (λ i j a b.
    let o = route_only u d e r i a in
    let q = bundle_only u d rs (suc e) j b in
    by_edges i j u e (suc e + q.n) o.spine q.at.spine (0 + o.run.n) (0 + q.at.run.n) _ _ o.run.is q.at.run.is (omega arith))

rising_sheet : (u : ℕ) (ds : List Drawn) (rs : List Route) → Rising (sheet_crossings u ds rs)
unfolding sheet_crossings
rising_sheet u [] rs = tt
rising_sheet u (d ∷ ds) rs =
    rising_append (bundle_crossings u d rs 0) (sheet_crossings (suc u) ds rs) (rising_bundle u d rs 0) (rising_sheet (suc u) ds rs)
    (λ i j a b.
    let o = bundle_only u d rs 0 i a in
    let q = sheet_only (suc u) ds rs j b in
    by_bundles i j u (suc u + q.n) (0 + o.n) (0 + q.at.n) o.at.spine q.at.at.spine (0 + o.at.run.n) (0 + q.at.at.run.n) _ _ o.at.run.is q.at.at.run.is (omega arith))

-- ---- sorted by place, the names rising where places are level

abbrev Before : Crossing → Crossing → Type 0
Before j k = (order_key j < order_key k) ⊎ ((order_key j ≡ order_key k) × Sooner j k)

abbrev Sorted : List Crossing → Type 0
Sorted [] = Unit {0}
Sorted (j ∷ l) = Every (Before j) l × Sorted l

not_after : (j k : Crossing) → order_key j ≤ order_key k → Sooner j k → Before j k
not_after j k h s = go (leb (order_key k) (order_key j)) refl
  where
    go : (t : Bool) → leb (order_key k) (order_key j) ≡ t → Before j k
    go true e = let g = leb-true (order_key k) (order_key j) e in inr (omega arith, s)
    go false e = inl (leb-false (order_key k) (order_key j) e)

at_most_all : (j x : Crossing) (l : List Crossing) → order_key j ≤ order_key x → Every (Before x) l → Every (Sooner j) l → Every (Before j) l
at_most_all j x [] h e s = tt
at_most_all j x (y ∷ l) h e s = (not_after j y (go e.0) s.0, at_most_all j x l h e.1 s.1)
  where
    go : Before x y → order_key j ≤ order_key y
    go (inl k) = omega arith
    go (inr k) = let g = k.0 in omega arith

insert_sorted : (j : Crossing) (l : List Crossing) → Every (Sooner j) l → Sorted l → Sorted (insert order_key j l)
unfolding insert
insert_sorted j [] s o = (tt, tt)
insert_sorted j (x ∷ l) s o = go (leb (order_key j) (order_key x)) refl (insert_sorted j l s.1 o.1)
  where
    go : (t : Bool) → leb (order_key j) (order_key x) ≡ t → Sorted (insert order_key j l) → Sorted (cond t (j ∷ x ∷ l) (x ∷ insert order_key j l))
    go true e below = let h = leb-true (order_key j) (order_key x) e in ((not_after j x h s.0, at_most_all j x l h o.0 s.1), o)
    go false e below = (every_insert order_key (Before x) j l (inl (leb-false (order_key j) (order_key x) e)) o.0, below)

sort_sorted : (l : List Crossing) → Rising l → Sorted (sorted order_key l)
unfolding sorted
sort_sorted [] h = tt
sort_sorted (j ∷ l) h = insert_sorted j (sorted order_key l) (every_sorted order_key (Sooner j) l h.0) (sort_sorted l h.1)

-- ---- in order

ahead : (j k : Crossing) → RealPoint j.place → RealPoint k.place → Before j k → Ahead j k
ahead j k p q (inl h) = by_place (place_below j.place k.place p q h)
ahead j k p q (inr h) = by_name (place_level j.place k.place p q h.0) h.1

order_of : (l : List Crossing) → Every (λ j. RealPoint j.place) l → Sorted l → InOrder l
order_of [] r s = tt
order_of (j ∷ l) r s = (go l r.1 s.0, order_of l r.1 s.1)
  where
    go : (m : List Crossing) → Every (λ k. RealPoint k.place) m → Every (Before j) m → Every (Ahead j) m
    go [] a b = tt
    go (k ∷ m) a b = (ahead j k r.0 a.0 b.0, go m a.1 b.1)

-- THE ORDER: "by y, then x, then bundle position, then edge position, then collector before spine, then run"
pub in_order : (ds : List Drawn) (rs : List Route) → Every (λ j. RealPoint j.place) (crossing_list ds rs) → InOrder (crossing_list ds rs)
unfolding crossing_list
in_order ds rs r = order_of (sorted order_key (sheet_crossings 0 ds rs)) r (sort_sorted (sheet_crossings 0 ds rs) (rising_sheet 0 ds rs))

-- ---- once

-- the place of a pair hangs on the pair alone
same_place : (ds : List Drawn) (rs : List Route) (j k : Crossing) → IsCrossing ds rs j → IsCrossing ds rs k → SamePair j k → j.place ≡ k.place
same_place ds rs j k h g p = h.placed ∙ rw (p.bundle, p.edge, p.spine, p.run) refl ∙ sym g.placed

not_sooner : (j k : Crossing) → Sooner j k → ¬ SamePair j k
not_sooner j k (by_bundle h) p = let e = p.bundle in omega arith
not_sooner j k (by_edge a h) p = let e = p.edge in omega arith
not_sooner j k (by_segment a b h) p = let e = ap rank p.spine in omega arith
not_sooner j k (by_run a b c h) p = let e = p.run in omega arith

pair_apart : (ds : List Drawn) (rs : List Route) (j k : Crossing) → IsCrossing ds rs j → IsCrossing ds rs k → Before j k → ¬ SamePair j k
pair_apart ds rs j k h g (inl b) p = let e = ap place_key (same_place ds rs j k h g p) in omega arith
pair_apart ds rs j k h g (inr b) p = not_sooner j k b.1 p

once_of : (ds : List Drawn) (rs : List Route) (l : List Crossing) → Every (IsCrossing ds rs) l → Sorted l → Once l
once_of ds rs [] c s = tt
once_of ds rs (j ∷ l) c s = (go l c.1 s.0, once_of ds rs l c.1 s.1)
  where
    go : (m : List Crossing) → Every (IsCrossing ds rs) m → Every (Before j) m → Every (λ k. ¬ SamePair j k) m
    go [] a b = tt
    go (k ∷ m) a b = (pair_apart ds rs j k c.0 a.0 b.0, go m a.1 b.1)

-- "each crossing stands there once"
pub once : (ds : List Drawn) (rs : List Route) → Once (crossing_list ds rs)
unfolding crossing_list
once ds rs = once_of ds rs (sorted order_key (sheet_crossings 0 ds rs)) (listed_only ds rs) (sort_sorted (sheet_crossings 0 ds rs) (rising_sheet 0 ds rs))
