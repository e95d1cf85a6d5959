-- The first two sentences of demand 3 of a sheet that is shifted exactly. Assumes nothing.
use Rattle.std.specs.Prelude.{◌≡◌, refl, ◌⊎◌, Bool, false, ◌&&◌, ℕ, zero, suc, ◌*◌, ◌<◌, nat_abs, length, get_or, Float}
use Rattle.std.proofs.Common.{sym, ◌∙◌, arith, add-mul}
use Rattle.std.proofs.Math.Path.{ap, subst}
use Rattle.std.proofs.Math.Logic.{inl, inr}
use mathlib.Core.List.Memᴰ
use mathlib.Core.List.{List, [], ◌∷◌, map, Memᴰ}
use Rattle.std.proofs.Math.Dec.{T}
use Rattle.std.proofs.lemmas.List.{length-map}
use Rattle.std.proofs.Math.ListN.{get_or-map}
use Rattle.std.specs.Float.Ieee.{binary64, sub, le}
use Rattle.std.specs.Float.Ieee.Scale.{round_same}
use Rattle.binary64.specs.Rational.{plus, less, Fraction, Sameℚ, value}
use Rattle.binary64.specs.Integers.{abs_parts}
use Rattle.binary64.specs.Order.{magnitude, tolerance}
use Rattle.binary64.proofs.Fraction.{cross_plus, cross_less}
use Rattle.geometry.specs.declared.Point.{Point}
use Rattle.geometry.specs.declared.Segment.{Segment}
use Rattle.geometry.specs.Points.{Route, runs}
use Rattle.exact.specs.Exact.{plusℚ, minusℚ, Exact, Same, exact, OnSegment, negative, rounded, near_exact, SamePlace, HasLength}
use Rattle.exact.proofs.Between.{same_trans}
use Rattle.exact.proofs.Near.{unsigned}
use Rattle.sorting.specs.Lists.{Every}
use Rattle.sorting.specs.Sorted.{every_at}
use Rattle.route.proofs.Found.{run_ends}
use Rattle.ranges.specs.Coordinates.{OfDrawn, OfTap}
use Rattle.drawing.specs.Build.{Drawn, route_at, no_drawn}
use Rattle.drawing.proofs.Promise.{every_mem}
use Rattle.drawing.specs.Normal.{shifted, shifted_segment, shifted_tap, shifted_drawn}
use Rattle.promise.proofs.Joints.{every_point}
use Rattle.promise.specs.Demand3.{SegmentOf, its_collector, its_spine, OnBoth, AtTapAndEnd, OnlyAtTap, WithRoutes, WithBundles}
use Rattle.last_shift.proofs.Fractions.{by_same, by_way, plus_cancel, minus_left, minus_sum}
use Rattle.last_shift.specs.Shift.{ExactLess, ExactPoint, ExactBy}

-- the first two sentences of demand 3
pub record JointsOnly (routes : List Route) (drawn : List Drawn) : Type 0 where
  pub with_routes : WithRoutes routes drawn
  pub with_bundles : WithBundles drawn

-- ---- equal fractions round to equal magnitudes
sizes : (p q : Fraction) → Sameℚ p q → nat_abs p.numerator * q.denominator ≡ nat_abs q.numerator * p.denominator
sizes p q e =
    ap (λ (n : ℕ). n * q.denominator) (abs_parts p.numerator) ∙ add-mul (plus p.numerator) (less p.numerator) q.denominator
    ∙ omega (arith, ap plus e, ap less e, cross_plus p q, cross_less p q, cross_plus q p, cross_less q p)
    ∙ sym (add-mul (plus q.numerator) (less q.numerator) p.denominator) ∙ sym (ap (λ (n : ℕ). n * p.denominator) (abs_parts q.numerator))

magnitude_same : (p q : Fraction) → Sameℚ p q → magnitude (rounded p) ≡ magnitude (rounded q)
magnitude_same p q e =
    let a = nat_abs p.numerator in
    let b = nat_abs q.numerator in
    unsigned (negative p.numerator) a p.denominator ∙ ap magnitude (round_same binary64 false a p.denominator b q.denominator p.above_zero q.above_zero (sizes p q e)) ∙ sym (unsigned (negative q.numerator) b q.denominator)

-- as near to p as x is to p + o
near_by : (o x : Float) (p : Fraction) → ExactLess o x → near_exact (sub binary64 x o) p ≡ near_exact x (plusℚ p (value o))
unfolding near_exact
near_by o x p e =
    ap (λ (w : Float). le w tolerance)
    (magnitude_same (minusℚ (value (sub binary64 x o)) p) (minusℚ (value x) (plusℚ p (value o)))
    (same_trans (minusℚ (value (sub binary64 x o)) p) (minusℚ (minusℚ (value x) (value o)) p) (minusℚ (value x) (plusℚ p (value o))) (minus_left (value (sub binary64 x o)) (minusℚ (value x) (value o)) p e) (minus_sum (value x) p (value o))))

-- ---- lists
pub mem_map : {A B : Type 0} (f : A → B) (a : A) (l : List A) → Memᴰ a l → Memᴰ (f a) (map f l)
mem_map f a [] m = absurd (Memᴰ.not-nil m)
mem_map {A} {B} f a (x ∷ l) m = go (mem_map f a l) (Memᴰ.cases_cons m)
  where
    go : (Memᴰ a l → Memᴰ (f a) (map f l)) → (a ≡ x) ⊎ Memᴰ a l → Memᴰ (f a) (f x ∷ map f l)
    go below (inl e) = Memᴰ.head (ap f e)
    go below (inr n) = Memᴰ.tail (below n)

pub mem_of_map : {A B : Type 0} (f : A → B) (b : B) (l : List A) → Memᴰ b (map f l) → (a : A) × Memᴰ a l × (b ≡ f a)
mem_of_map f b [] m = absurd (Memᴰ.not-nil m)
mem_of_map {A} {B} f b (x ∷ l) m = go (mem_of_map f b l) (Memᴰ.cases_cons m)
  where
    go : (Memᴰ b (map f l) → (a : A) × Memᴰ a l × (b ≡ f a)) → (b ≡ f x) ⊎ Memᴰ b (map f l) → (a : A) × Memᴰ a (x ∷ l) × (b ≡ f a)
    go below (inl e) = (x, Memᴰ.head refl, e)
    go below (inr n) = let r = below n in (r.0, Memᴰ.tail r.1, r.2)

pub at_map : {A B : Type 0} (f : A → B) (l : List A) (k : ℕ) (d : A) (e : B) → k < length l → get_or (map f l) k e ≡ f (get_or l k d)
at_map f [] k d e h = absurd (omega arith)
at_map f (x ∷ l) zero d e h = refl
at_map f (x ∷ l) (suc k) d e h = at_map f l k d e (omega arith)

pub runs_map : (o : Point) (r : Route) → runs (map (shifted o) r) ≡ map (shifted_segment o) (runs r)
unfolding runs
runs_map o [] = refl
runs_map o (a ∷ []) = refl
runs_map o (a ∷ b ∷ r) = ap (λ (l : List Segment). shifted_segment o (record { start = a; end = b }) ∷ l) (runs_map o (b ∷ r))

-- a run of a shifted route is a run that is shifted
pub record Came (o : Point) (r : Route) (run : Segment) : Type 0 where
  pub first : Segment
  pub listed : Memᴰ first (runs r)
  pub is : run ≡ shifted_segment o first

pub came : (o : Point) (rs : List Route) (i : ℕ) (run : Segment) → Memᴰ run (runs (route_at (map (map (shifted o)) rs) i)) → Came o (route_at rs i) run
came o rs i run m =
    let e : runs (route_at (map (map (shifted o)) rs) i) ≡ map (shifted_segment o) (runs (route_at rs i)) = ap runs (get_or-map (map (shifted o)) rs i []) ∙ runs_map o (route_at rs i) in
    let r = mem_of_map (shifted_segment o) run (runs (route_at rs i)) (subst (λ (l : List Segment). Memᴰ run l) e m) in
    record { first = r.0; listed = r.1; is = r.2 }

pub run_every : (P : Point → Type 0) (rs : List Route) → Every (Every P) rs → (i : ℕ) (run : Segment) → Memᴰ run (runs (route_at rs i)) → P run.start × P run.end
run_every P rs e i run m = let k = run_ends (route_at rs i) run m in (every_point P rs e i run.start k.0, every_point P rs e i run.end k.1)

-- ---- points and segments
module _ (o : Point) where
  back_at : Exact → Exact
  back_at p = record { x = plusℚ p.x (value o.x); y = plusℚ p.y (value o.y) }

  -- both ends
  pub record ExactSegment (s : Segment) : Type 0 where
    pub start : ExactPoint o s.start
    pub end : ExactPoint o s.end

  on_back : (s : Segment) (p : Exact) → ExactSegment s → OnSegment p (exact (shifted o s.start)) (exact (shifted o s.end)) → OnSegment (back_at p) (exact s.start) (exact s.end)
  unfolding shifted back_at
  on_back s p e h = record {
    t = h.t;
    from_0 = h.from_0;
    to_1 = h.to_1;
    x = by_way (value o.x) h.t (value s.start.x) (value (sub binary64 s.start.x o.x)) (value s.end.x) (value (sub binary64 s.end.x o.x)) p.x e.start.0 e.end.0 h.x;
    y = by_way (value o.y) h.t (value s.start.y) (value (sub binary64 s.start.y o.y)) (value s.end.y) (value (sub binary64 s.end.y o.y)) p.y e.start.1 e.end.1 h.y;
  }

  both_back : (s t : Segment) (p : Exact) → ExactSegment s → ExactSegment t → OnBoth (shifted_segment o s) (shifted_segment o t) p → OnBoth s t (back_at p)
  both_back s t p d e h = record { on_first = on_back s p d h.on_first; on_second = on_back t p e h.on_second }

  same_back : (p q : Exact) → Same (back_at p) (back_at q) → Same p q
  unfolding back_at
  same_back p q e = record { x = plus_cancel p.x q.x (value o.x) e.x; y = plus_cancel p.y q.y (value o.y) e.y }

  place_by : (a : Point) (p : Exact) → ExactPoint o a → SamePlace a (back_at p) → SamePlace (shifted o a) p
  unfolding shifted back_at
  place_by a p e h = subst T (sym (both (near_by o.x a.x p.x e.0) (near_by o.y a.y p.y e.1))) h
    where
      both : {a b c d : Bool} → a ≡ b → c ≡ d → (a && c) ≡ (b && d)
      both {a} {b} {c} {d} e f = ap (λ (z : Bool). z && c) e ∙ ap (λ (z : Bool). b && z) f

  length_back : (s : Segment) → ExactSegment s → HasLength (shifted o s.start) (shifted o s.end) → HasLength s.start s.end
  unfolding shifted
  length_back s e h k = h (record {
    x = by_same (value o.x) (value s.start.x) (value (sub binary64 s.start.x o.x)) (value s.end.x) (value (sub binary64 s.end.x o.x)) e.start.0 e.end.0 k.x;
    y = by_same (value o.y) (value s.start.y) (value (sub binary64 s.start.y o.y)) (value s.end.y) (value (sub binary64 s.end.y o.y)) e.start.1 e.end.1 k.y;
  })

  -- ---- a bundle and a run
  abbrev ExactDrawn : Drawn → Type 0
  ExactDrawn d = OfDrawn (ExactLess o.x) (ExactLess o.y) d

  tap_by : (d : Drawn) (edge : ℕ) (run : Segment) (p : Exact) → ExactDrawn d → ExactSegment run → AtTapAndEnd d edge run (back_at p) → AtTapAndEnd (shifted_drawn o d) edge (shifted_segment o run) p
  unfolding shifted_drawn
  tap_by d edge run p e f h = record {
    tap = shifted_tap o h.tap;
    listed = mem_map (shifted_tap o) h.tap d.taps h.listed;
    of_route = h.of_route;
    at_tap = place_by h.tap.place p (every_mem (OfTap (ExactLess o.x) (ExactLess o.y)) d.taps e.taps h.tap h.listed) h.at_tap;
    at_end = elim h.at_end [ inl u ↦ inl (place_by run.start p f.start u) | inr u ↦ inr (place_by run.end p f.end u) ];
  }

  only_by : (d : Drawn) (edge : ℕ) (s run : Segment) → ExactDrawn d → ExactSegment s → ExactSegment run → OnlyAtTap d edge s run → OnlyAtTap (shifted_drawn o d) edge (shifted_segment o s) (shifted_segment o run)
  only_by d edge s run e f g h = record {
    at_most_one = λ p q j k. same_back p q (h.at_most_one (back_at p) (back_at q) (both_back s run p f g j) (both_back s run q f g k));
    only_there = λ p j. tap_by d edge run p e g (h.only_there (back_at p) (both_back s run p f g j));
  }

  -- a segment of a shifted bundle is a segment that is shifted
  pub record CameOf (d : Drawn) (s : Segment) : Type 0 where
    pub first : Segment
    pub of_bundle : SegmentOf d first
    pub exactly : ExactSegment first
    pub is : s ≡ shifted_segment o first

  came_of : (d : Drawn) (s : Segment) → ExactDrawn d → SegmentOf (shifted_drawn o d) s → CameOf d s
  unfolding shifted_drawn
  came_of d s k (its_collector e) = record { first = d.collector; of_bundle = its_collector refl; exactly = record { start = k.collector_start; end = k.collector_end }; is = e }
  came_of d s k (its_spine e) = record { first = d.spine; of_bundle = its_spine refl; exactly = record { start = k.spine_start; end = k.spine_end }; is = e }

  -- ---- THE THEOREM for a shift by o
  module _ (routes : List Route) (drawn : List Drawn) (e : ExactBy o routes drawn) (h : JointsOnly routes drawn) where
    routes_by : WithRoutes (map (map (shifted o)) routes) (map (shifted_drawn o) drawn)
    routes_by d m s of edge run n =
        let r = mem_of_map (shifted_drawn o) d drawn m in
        let c = came o routes edge run n in
        go r.0 r.1 r.2 (every_mem ExactDrawn drawn e.of_bundles r.0 r.1) c (run_every (ExactPoint o) routes e.on_routes edge c.first c.listed)
      where
        inner : (d₀ : Drawn) → Memᴰ d₀ drawn → ExactDrawn d₀ → (c : CameOf d₀ s) (k : Came o (route_at routes edge) run) → ExactPoint o k.first.start × ExactPoint o k.first.end → HasLength (shifted o k.first.start) (shifted o k.first.end) → OnlyAtTap (shifted_drawn o d₀) edge (shifted_segment o c.first) (shifted_segment o k.first)
        inner d₀ m₀ x c k ends l =
            let f : ExactSegment k.first = record { start = ends.0; end = ends.1 } in
            only_by d₀ edge c.first k.first x c.exactly f (h.with_routes d₀ m₀ c.first c.of_bundle edge k.first k.listed (length_back k.first f l))

        go : (d₀ : Drawn) → Memᴰ d₀ drawn → d ≡ shifted_drawn o d₀ → ExactDrawn d₀ → (k : Came o (route_at routes edge) run) → ExactPoint o k.first.start × ExactPoint o k.first.end → HasLength run.start run.end → OnlyAtTap d edge s run
        go d₀ m₀ z x k ends l =
            let c = came_of d₀ s x (subst (λ (w : Drawn). SegmentOf w s) z of) in
            subst (λ (w : Drawn). OnlyAtTap w edge s run) (sym z)
            (subst (λ (w : Segment). OnlyAtTap (shifted_drawn o d₀) edge w run) (sym c.is)
            (subst (λ (w : Segment). OnlyAtTap (shifted_drawn o d₀) edge (shifted_segment o c.first) w) (sym k.is)
            (inner d₀ m₀ x c k ends (subst (λ (w : Segment). HasLength w.start w.end) k.is l))))

    bundles_by : WithBundles (map (shifted_drawn o) drawn)
    bundles_by j k l n s t f g =
        let n' : k < length drawn = omega (arith, length-map drawn (shifted_drawn o)) in
        let j' : j < length drawn = omega arith in
        let c = came_of (get_or drawn j no_drawn) s (every_at ExactDrawn drawn no_drawn e.of_bundles j j') (subst (λ (w : Drawn). SegmentOf w s) (at_map (shifted_drawn o) drawn j no_drawn no_drawn j') f) in
        let d = came_of (get_or drawn k no_drawn) t (every_at ExactDrawn drawn no_drawn e.of_bundles k n') (subst (λ (w : Drawn). SegmentOf w t) (at_map (shifted_drawn o) drawn k no_drawn no_drawn n') g) in
        λ has p on.
        h.with_bundles j k l n' c.first d.first c.of_bundle d.of_bundle
        (length_back c.first c.exactly (subst (λ (w : Segment). HasLength w.start w.end) c.is has))
        (back_at p)
        (both_back c.first d.first p c.exactly d.exactly (subst (λ (w : Segment). OnBoth (shifted_segment o c.first) w p) d.is (subst (λ (w : Segment). OnBoth w t p) c.is on)))

    pub shift_joints : JointsOnly (map (map (shifted o)) routes) (map (shifted_drawn o) drawn)
    shift_joints = record { with_routes = routes_by; with_bundles = bundles_by }
