-- The list has a crossing for each strict crossing, and nothing else. Assumes nothing.
use Prim.Native.Nat.{ℕ, zero, suc, ◌+◌, ◌<◌}
use Rattle.std.specs.Prelude.{◌≡◌, refl, ◌⊎◌, Bool, cond, get_or, Option}
use Rattle.std.proofs.Common.{sym, ◌∙◌, inl, inr, true≢false}
use Rattle.std.proofs.Math.Path.{ap, subst}
use mathlib.Core.List.{List, [], ◌∷◌, ◌++◌}
use Rattle.std.proofs.Math.Bool.{true, false}
use native.Mathlib.Omega.{arith}
use Rattle.std.proofs.Math.ListN.{length}
use Rattle.geometry.specs.declared.Point.{Point}
use Rattle.geometry.specs.declared.Segment.{Segment}
use Rattle.geometry.specs.Points.{Route, runs}
use Rattle.geometry.specs.declared.Contact.TheVariants.{StrictCrossing}
use Rattle.geometry.specs.Kind.{kind}
use Rattle.geometry.specs.Crossing.{is_strict, crossing_place}
use Rattle.geometry.proofs.AnyTap.{is_strict→}
use Rattle.sorting.specs.Lists.{In, Every}
use Rattle.sorting.specs.Sorted.{every_sorted, in_left, in_sorted}
use Rattle.drawing.specs.Build.{Drawn, tap_of, route_at, no_drawn}
use Rattle.crossings.specs.List.{Crossing, crossing_of, run_crossings, route_crossings, bundle_crossings, sheet_crossings, order_key, crossing_list}
use Rattle.crossings.specs.Words.{no_run, segment_of, run_of, IsCrossing}

-- ---- lists

in_right : {A : Type 0} (x : A) (l m : List A) → In x m → In x (l ++ m)
in_right x [] m i = i
in_right x (y ∷ l) m i = inr (in_right x l m i)

in_parts : {A : Type 0} (x : A) (l m : List A) → In x (l ++ m) → In x l ⊎ In x m
in_parts x [] m i = inr i
in_parts x (y ∷ l) m (inl e) = inl (inl e)
in_parts x (y ∷ l) m (inr i) = go (in_parts x l m i)
  where
    go : In x l ⊎ In x m → In x (y ∷ l) ⊎ In x m
    go (inl i) = inl (inr i)
    go (inr i) = inr i

none_before : (n : ℕ) → 0 + n ≡ n
none_before n = omega arith

-- ---- the runs of one route

module _ (u e : ℕ) (s : Bool) (bus : Segment) (tap : Option Point) where
  abbrev hits : Segment → Bool
  hits r = is_strict (kind bus r.start r.end tap)

  -- n is the run's place among rs, whose first is run k
  pub record RunAt (rs : List Segment) (k : ℕ) (j : Crossing) : Type 0 where
    pub n : ℕ
    pub there : n < length rs
    pub hit : hits (get_or rs n no_run) ≡ true
    pub is : j ≡ crossing_of u e s (k + n) (crossing_place bus (get_or rs n no_run).start)

  one_hit : (t : Bool) (j p : Crossing) → In j (cond t (p ∷ []) []) → (t ≡ true) × (j ≡ p)
  one_hit true j p (inl h) = (refl, h)
  one_hit true j p (inr h) = absurd h
  one_hit false j p h = absurd h

  pub runs_only : (rs : List Segment) (k : ℕ) (j : Crossing) → In j (run_crossings u e s bus tap rs k) → RunAt rs k j
  unfolding run_crossings
  runs_only [] k j h = absurd h
  runs_only (r ∷ rs) k j h = go (runs_only rs (suc k) j) (in_parts j (cond (hits r) (crossing_of u e s k (crossing_place bus r.start) ∷ []) []) (run_crossings u e s bus tap rs (suc k)) h)
    where
      go : (In j (run_crossings u e s bus tap rs (suc k)) → RunAt rs (suc k) j) → In j (cond (hits r) (crossing_of u e s k (crossing_place bus r.start) ∷ []) []) ⊎ In j (run_crossings u e s bus tap rs (suc k)) → RunAt (r ∷ rs) k j
      go below (inl i) =
          let o = one_hit (hits r) j (crossing_of u e s k (crossing_place bus r.start)) i in
          let z : k ≡ k + 0 = omega arith in
          record { n = 0; there = omega arith; hit = o.0; is = o.1 ∙ ap (λ (x : ℕ). crossing_of u e s x (crossing_place bus r.start)) z }
      go below (inr i) =
          let p = below i in
          let z : suc k + p.n ≡ k + suc p.n = omega arith in
          let l = p.there in
          record { n = suc p.n; there = omega arith; hit = p.hit; is = p.is ∙ ap (λ (x : ℕ). crossing_of u e s x (crossing_place bus (get_or rs p.n no_run).start)) z }

  first_hit : (t : Bool) (p : Crossing) → t ≡ true → In p (cond t (p ∷ []) [])
  first_hit true p h = inl refl
  first_hit false p h = absurd (true≢false (sym h))

  pub runs_each : (rs : List Segment) (k n : ℕ) → n < length rs → hits (get_or rs n no_run) ≡ true → In (crossing_of u e s (k + n) (crossing_place bus (get_or rs n no_run).start)) (run_crossings u e s bus tap rs k)
  unfolding run_crossings
  runs_each [] k n l h = absurd (omega arith)
  runs_each (r ∷ rs) k zero l h =
      let z : k ≡ k + 0 = omega arith in
      let p = crossing_of u e s k (crossing_place bus r.start) in
      subst (λ (x : ℕ). In (crossing_of u e s x (crossing_place bus r.start)) (cond (hits r) (p ∷ []) [] ++ run_crossings u e s bus tap rs (suc k))) z
      (in_left p (cond (hits r) (p ∷ []) []) (run_crossings u e s bus tap rs (suc k)) (first_hit (hits r) p h))
  runs_each (r ∷ rs) k (suc n) l h =
      let z : suc k + n ≡ k + suc n = omega arith in
      let m : n < length rs = omega arith in
      let p = crossing_of u e s k (crossing_place bus r.start) in
      subst (λ (x : ℕ). In (crossing_of u e s x (crossing_place bus (get_or rs n no_run).start)) (cond (hits r) (p ∷ []) [] ++ run_crossings u e s bus tap rs (suc k))) z
      (in_right (crossing_of u e s (suc k + n) (crossing_place bus (get_or rs n no_run).start)) (cond (hits r) (p ∷ []) []) (run_crossings u e s bus tap rs (suc k)) (runs_each rs (suc k) n m h))

-- ---- one route: the collector, then the spine

module _ (u : ℕ) (d : Drawn) (e : ℕ) where
  pub record RouteAt (r : Route) (j : Crossing) : Type 0 where
    pub spine : Bool
    pub run : RunAt u e spine (segment_of d spine) (tap_of d.taps e) (runs r) 0 j

  pub route_only : (r : Route) (j : Crossing) → In j (route_crossings u d e r) → RouteAt r j
  unfolding route_crossings
  route_only r j h = go (in_parts j (run_crossings u e false d.collector (tap_of d.taps e) (runs r) 0) (run_crossings u e true d.spine (tap_of d.taps e) (runs r) 0) h)
    where
      go : In j (run_crossings u e false d.collector (tap_of d.taps e) (runs r) 0) ⊎ In j (run_crossings u e true d.spine (tap_of d.taps e) (runs r) 0) → RouteAt r j
      go (inl i) = record { spine = false; run = runs_only u e false d.collector (tap_of d.taps e) (runs r) 0 j i }
      go (inr i) = record { spine = true; run = runs_only u e true d.spine (tap_of d.taps e) (runs r) 0 j i }

  pub route_each : (r : Route) (s : Bool) (n : ℕ) → n < length (runs r) → hits u e s (segment_of d s) (tap_of d.taps e) (get_or (runs r) n no_run) ≡ true
      → In (crossing_of u e s n (crossing_place (segment_of d s) (get_or (runs r) n no_run).start)) (route_crossings u d e r)
  unfolding route_crossings
  route_each r false n l h =
      in_left (crossing_of u e false n (crossing_place d.collector (get_or (runs r) n no_run).start)) (run_crossings u e false d.collector (tap_of d.taps e) (runs r) 0) (run_crossings u e true d.spine (tap_of d.taps e) (runs r) 0)
      (subst (λ (x : ℕ). In (crossing_of u e false x (crossing_place d.collector (get_or (runs r) n no_run).start)) (run_crossings u e false d.collector (tap_of d.taps e) (runs r) 0)) (none_before n)
      (runs_each u e false d.collector (tap_of d.taps e) (runs r) 0 n l h))
  route_each r true n l h =
      in_right (crossing_of u e true n (crossing_place d.spine (get_or (runs r) n no_run).start)) (run_crossings u e false d.collector (tap_of d.taps e) (runs r) 0) (run_crossings u e true d.spine (tap_of d.taps e) (runs r) 0)
      (subst (λ (x : ℕ). In (crossing_of u e true x (crossing_place d.spine (get_or (runs r) n no_run).start)) (run_crossings u e true d.spine (tap_of d.taps e) (runs r) 0)) (none_before n)
      (runs_each u e true d.spine (tap_of d.taps e) (runs r) 0 n l h))

-- ---- the routes of one bundle

module _ (u : ℕ) (d : Drawn) where
  pub record BundleAt (rs : List Route) (e : ℕ) (j : Crossing) : Type 0 where
    pub n : ℕ
    pub there : n < length rs
    pub at : RouteAt u d (e + n) (route_at rs n) j

  pub bundle_only : (rs : List Route) (e : ℕ) (j : Crossing) → In j (bundle_crossings u d rs e) → BundleAt rs e j
  unfolding bundle_crossings
  bundle_only [] e j h = absurd h
  bundle_only (r ∷ rs) e j h = go (bundle_only rs (suc e) j) (in_parts j (route_crossings u d e r) (bundle_crossings u d rs (suc e)) h)
    where
      go : (In j (bundle_crossings u d rs (suc e)) → BundleAt rs (suc e) j) → In j (route_crossings u d e r) ⊎ In j (bundle_crossings u d rs (suc e)) → BundleAt (r ∷ rs) e j
      go below (inl i) =
          let z : e ≡ e + 0 = omega arith in
          record { n = 0; there = omega arith; at = subst (λ (x : ℕ). RouteAt u d x r j) z (route_only u d e r j i) }
      go below (inr i) =
          let p = below i in
          let z : suc e + p.n ≡ e + suc p.n = omega arith in
          let l = p.there in
          record { n = suc p.n; there = omega arith; at = subst (λ (x : ℕ). RouteAt u d x (route_at rs p.n) j) z p.at }

  pub bundle_each : (rs : List Route) (e m : ℕ) (s : Bool) (n : ℕ) → m < length rs → n < length (runs (route_at rs m)) → hits u (e + m) s (segment_of d s) (tap_of d.taps (e + m)) (run_of rs m n) ≡ true
      → In (crossing_of u (e + m) s n (crossing_place (segment_of d s) (run_of rs m n).start)) (bundle_crossings u d rs e)
  unfolding bundle_crossings
  bundle_each [] e m s n k l h = absurd (omega arith)
  bundle_each (r ∷ rs) e zero s n k l h =
      let z : e + 0 ≡ e = omega arith in
      let p = crossing_of u (e + 0) s n (crossing_place (segment_of d s) (run_of (r ∷ rs) 0 n).start) in
      in_left p (route_crossings u d e r) (bundle_crossings u d rs (suc e)) (subst (λ (x : ℕ). In p (route_crossings u d x r)) z (route_each u d (e + 0) r s n l h))
  bundle_each (r ∷ rs) e (suc m) s n k l h =
      let z : suc e + m ≡ e + suc m = omega arith in
      let i : m < length rs = omega arith in
      let p = crossing_of u (e + suc m) s n (crossing_place (segment_of d s) (run_of rs m n).start) in
      in_right p (route_crossings u d e r) (bundle_crossings u d rs (suc e))
      (subst (λ (x : ℕ). In (crossing_of u x s n (crossing_place (segment_of d s) (run_of rs m n).start)) (bundle_crossings u d rs (suc e))) z
      (bundle_each rs (suc e) m s n i l (subst (λ (x : ℕ). hits u x s (segment_of d s) (tap_of d.taps x) (run_of rs m n) ≡ true) (sym z) h)))

-- ---- the bundles of the sheet

pub record SheetAt (u : ℕ) (ds : List Drawn) (rs : List Route) (j : Crossing) : Type 0 where
  pub n : ℕ
  pub there : n < length ds
  pub at : BundleAt (u + n) (get_or ds n no_drawn) rs 0 j

pub sheet_only : (u : ℕ) (ds : List Drawn) (rs : List Route) (j : Crossing) → In j (sheet_crossings u ds rs) → SheetAt u ds rs j
unfolding sheet_crossings
sheet_only u [] rs j h = absurd h
sheet_only u (d ∷ ds) rs j h = go (sheet_only (suc u) ds rs j) (in_parts j (bundle_crossings u d rs 0) (sheet_crossings (suc u) ds rs) h)
  where
    go : (In j (sheet_crossings (suc u) ds rs) → SheetAt (suc u) ds rs j) → In j (bundle_crossings u d rs 0) ⊎ In j (sheet_crossings (suc u) ds rs) → SheetAt u (d ∷ ds) rs j
    go below (inl i) =
        let z : u ≡ u + 0 = omega arith in
        record { n = 0; there = omega arith; at = subst (λ (x : ℕ). BundleAt x d rs 0 j) z (bundle_only u d rs 0 j i) }
    go below (inr i) =
        let p = below i in
        let z : suc u + p.n ≡ u + suc p.n = omega arith in
        let l = p.there in
        record { n = suc p.n; there = omega arith; at = subst (λ (x : ℕ). BundleAt x (get_or ds p.n no_drawn) rs 0 j) z p.at }

pub sheet_each : (u : ℕ) (ds : List Drawn) (rs : List Route) (w m : ℕ) (s : Bool) (n : ℕ) → w < length ds → m < length rs → n < length (runs (route_at rs m))
    → hits (u + w) m s (segment_of (get_or ds w no_drawn) s) (tap_of (get_or ds w no_drawn).taps m) (run_of rs m n) ≡ true
    → In (crossing_of (u + w) m s n (crossing_place (segment_of (get_or ds w no_drawn) s) (run_of rs m n).start)) (sheet_crossings u ds rs)
unfolding sheet_crossings
sheet_each u [] rs w m s n k l i h = absurd (omega arith)
sheet_each u (d ∷ ds) rs zero m s n k l i h =
    let z : u + 0 ≡ u = omega arith in
    let p = crossing_of (u + 0) m s n (crossing_place (segment_of d s) (run_of rs m n).start) in
    in_left p (bundle_crossings u d rs 0) (sheet_crossings (suc u) ds rs)
    (subst (λ (x : ℕ). In (crossing_of x m s n (crossing_place (segment_of d s) (run_of rs m n).start)) (bundle_crossings u d rs 0)) (sym z)
    (subst (λ (x : ℕ). In (crossing_of u x s n (crossing_place (segment_of d s) (run_of rs m n).start)) (bundle_crossings u d rs 0)) (none_before m)
    (bundle_each u d rs 0 m s n l i (subst (λ (x : ℕ). hits u x s (segment_of d s) (tap_of d.taps x) (run_of rs m n) ≡ true) (sym (none_before m)) h))))
sheet_each u (d ∷ ds) rs (suc w) m s n k l i h =
    let z : suc u + w ≡ u + suc w = omega arith in
    let v : w < length ds = omega arith in
    let p = crossing_of (u + suc w) m s n (crossing_place (segment_of (get_or ds w no_drawn) s) (run_of rs m n).start) in
    in_right p (bundle_crossings u d rs 0) (sheet_crossings (suc u) ds rs)
    (subst (λ (x : ℕ). In (crossing_of x m s n (crossing_place (segment_of (get_or ds w no_drawn) s) (run_of rs m n).start)) (sheet_crossings (suc u) ds rs)) z
    (sheet_each (suc u) ds rs w m s n v l i h))

-- ---- the list

-- "nothing else does": an entry is a strict crossing
is_crossing : (ds : List Drawn) (rs : List Route) (j : Crossing) → SheetAt 0 ds rs j → IsCrossing ds rs j
is_crossing ds rs j h =
    let w = h.n in
    let b = h.at in
    let m = b.n in
    let r = b.at in
    let s = r.spine in
    let q = r.run in
    let n = q.n in
    let e : crossing_of (0 + w) (0 + m) s (0 + n) (crossing_place (segment_of (get_or ds w no_drawn) s) (run_of rs m n).start) ≡ crossing_of w m s n (crossing_place (segment_of (get_or ds w no_drawn) s) (run_of rs m n).start) = rw (none_before w, none_before m, none_before n) in
    subst (IsCrossing ds rs) (sym (q.is ∙ e)) (record {
      bundle_there = h.there;
      edge_there = b.there;
      run_there = q.there;
      strict = subst (λ (x : ℕ). kind (segment_of (get_or ds w no_drawn) s) (run_of rs m n).start (run_of rs m n).end (tap_of (get_or ds w no_drawn).taps x) ≡ StrictCrossing) (none_before m) (is_strict→ (kind (segment_of (get_or ds w no_drawn) s) (run_of rs m n).start (run_of rs m n).end (tap_of (get_or ds w no_drawn).taps (0 + m))) q.hit);
      placed = refl;
    })

pub listed_only : (ds : List Drawn) (rs : List Route) → Every (IsCrossing ds rs) (crossing_list ds rs)
unfolding crossing_list
listed_only ds rs = every_sorted order_key (IsCrossing ds rs) (sheet_crossings 0 ds rs) (all (sheet_crossings 0 ds rs) (λ j i. is_crossing ds rs j (sheet_only 0 ds rs j i)))
  where
    all : (l : List Crossing) → ((j : Crossing) → In j l → IsCrossing ds rs j) → Every (IsCrossing ds rs) l
    all [] f = tt
    all (x ∷ l) f = (f x (inl refl), all l (λ j i. f j (inr i)))

-- "a list of all strict crossings": each is an entry
pub listed_each : (ds : List Drawn) (rs : List Route) (j : Crossing) → IsCrossing ds rs j → In j (crossing_list ds rs)
unfolding crossing_list
listed_each ds rs j h =
    let d = get_or ds j.bundle no_drawn in
    let r = run_of rs j.edge j.run in
    let p = crossing_place (segment_of d j.spine) r.start in
    let e : crossing_of (0 + j.bundle) j.edge j.spine j.run p ≡ j = ap (λ (x : ℕ). crossing_of x j.edge j.spine j.run p) (none_before j.bundle) ∙ ap (λ (x : Point). crossing_of j.bundle j.edge j.spine j.run x) (sym h.placed) in
    in_sorted order_key j (sheet_crossings 0 ds rs)
    (subst (λ (x : Crossing). In x (sheet_crossings 0 ds rs)) e
    (sheet_each 0 ds rs j.bundle j.edge j.spine j.run h.bundle_there h.edge_there h.run_there (ap is_strict h.strict)))
