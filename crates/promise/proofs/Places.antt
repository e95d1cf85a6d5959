-- Best places: the last sentence of demand 3.
-- Assumes nothing.
use Rattle.std.specs.Prelude.{ℕ, zero, suc, ◌≤◌, ◌<◌, Bool, true, false, length, get_or, take, Float, Option, Some, None}
use Rattle.std.proofs.Math.Path.{◌≡◌, refl, sym}
use Rattle.std.proofs.Common.{ap, ◌∙◌, subst, inl, inr, arith, ne_eqb}
use mathlib.Core.List.{List, [], ◌∷◌, map}
use Rattle.std.specs.Float.Ieee.{le}
use Rattle.binary64.proofs.Fraction.{AtMostℚ→le}
use Rattle.binary64.specs.Rational.{Fraction, Sameℚ, value}
use Rattle.geometry.specs.declared.Point.{Point}
use Rattle.geometry.specs.declared.Segment.{Segment}
use Rattle.geometry.specs.declared.Role.{Role}
use Rattle.geometry.specs.declared.Role.TheVariants.{Input, Output}
use Rattle.geometry.specs.Points.{Route, runs}
use Rattle.geometry.specs.Stretch.{stretch, holds, on_trunk}
use Rattle.route.specs.Intersection.{met_at, or_else, first_met, last_met, first_shared_trunk_intersection, last_shared_trunk_intersection}
use Rattle.search.specs.Stretches.{stretches, members}
use Rattle.search.proofs.BestOrder.{both}
use Rattle.search.specs.BestOrder.{UpToℚ}
use Rattle.search.specs.Good.{Real, RealStretch, Holds, HoldsSome, HoldsAll, Good}
use Rattle.sorting.specs.Lists.{Every, In}
use Rattle.sorting.specs.Sorted.{every_at}
use Rattle.search.specs.declared.Bounds.{Bounds}
use Rattle.board.specs.declared.Bundle.{Bundle}
use Rattle.board.specs.declared.Member.{Member}
use Rattle.board.specs.Board.{Board, no_bundle}
use Rattle.plan.specs.declared.Bound.{Bound}
use Rattle.plan.specs.declared.Bound.TheVariants as bounded
use Rattle.plan.specs.declared.Used.{Used}
use Rattle.plan.specs.Depths.{same_role, members_in, pitch_of, offsets_of, offsets_from, used_after}
use Rattle.plan.specs.Bounds.{route_of, bounds_of, trunks}
use Rattle.plan.specs.Plan.{Plan, going, due, plan_of}
use Rattle.plan.specs.Lone.{Disjoint, Lone}
use Rattle.plan.proofs.SmallNumbers.{Numbers}
use Rattle.plan.proofs.Numbers.{trunks_real}
use Rattle.plan.proofs.PlannedLaws.{Best, planned_best}
use Rattle.plan.proofs.LonePlanned.{other_way}
use Rattle.drawing.specs.Build.{TapOn, route_at, trunk_met, tap_then, trunk_taps, drawn_inside, drawn_as, inside_or, build, no_drawn}
use Rattle.drawing.specs.Check.{among}
use Rattle.drawing.specs.Sheet.{Turn, Progress, sheet_of, blank}
use Rattle.drawing.specs.Sheet as sheet
use Rattle.drawing.proofs.Assembly.{touched}
use Rattle.drawing.proofs.Promise.{Fresh, accepted, no_turn}
use Rattle.promise.specs.Order.{planned_x, turns_from, turns_of}
use Rattle.promise.specs.Demand3.{NoBetter, BestPlace, at_best, at_rail}

-- ---- an x that a stretch holds exactly is one that the test finds

holds_true : (x : Float) (s : Option (Float × Float)) → Real x → RealStretch s → Holds (value x) s → holds x s ≡ true
holds_true x None r s h = absurd h
holds_true x (Some (l, k)) r s h = both (le l x) (le x k) (AtMostℚ→le l x s.0.0 r.0 h.0) (AtMostℚ→le x k r.0 s.1.0 h.1)

-- ---- a run that is met

abbrev Somewhere : Option (ℕ × Point) → Type 0
Somewhere c = (k : ℕ) × (p : Point) × (c ≡ Some (k, p))

or_first : (a c : Option (ℕ × Point)) → Somewhere a → Somewhere (or_else a c)
unfolding or_else
or_first None c (k, p, e) = let z : ◌≡◌ {A = ℕ} 0 1 = cc in absurd (omega arith)
or_first (Some (i, q)) c h = (i, q, refl)

or_second : (a c : Option (ℕ × Point)) → Somewhere c → Somewhere (or_else a c)
unfolding or_else
or_second None c h = h
or_second (Some (i, q)) c h = (i, q, refl)

module _ (role : Role) (pitch x : Float) (real : Real x) where
  abbrev hit : Segment → Option Point
  hit s = on_trunk role pitch x s.start s.end

  here : (i : ℕ) (s : Segment) → holds x (stretch role pitch s.start s.end) ≡ true → Somewhere (met_at i (hit s))
  here i s e = (i, record { x = x; y = s.start.y }, rw e refl)

  first_somewhere : (i : ℕ) (ss : List Segment) → Every RealStretch (stretches role pitch ss) → HoldsSome (value x) (stretches role pitch ss) → Somewhere (first_met hit i ss)
  unfolding first_met stretches
  first_somewhere i [] r h = absurd h
  first_somewhere i (s ∷ ss) r (inl h) = or_first (met_at i (hit s)) (first_met hit (suc i) ss) (here i s (holds_true x (stretch role pitch s.start s.end) real r.0 h))
  first_somewhere i (s ∷ ss) r (inr h) = or_second (met_at i (hit s)) (first_met hit (suc i) ss) (first_somewhere (suc i) ss r.1 h)

  last_somewhere : (i : ℕ) (ss : List Segment) → Every RealStretch (stretches role pitch ss) → HoldsSome (value x) (stretches role pitch ss) → Somewhere (last_met hit i ss)
  unfolding last_met stretches
  last_somewhere i [] r h = absurd h
  last_somewhere i (s ∷ ss) r (inl h) = or_second (last_met hit (suc i) ss) (met_at i (hit s)) (here i s (holds_true x (stretch role pitch s.start s.end) real r.0 h))
  last_somewhere i (s ∷ ss) r (inr h) = or_first (last_met hit (suc i) ss) (met_at i (hit s)) (last_somewhere (suc i) ss r.1 h)

trunk_somewhere : (role : Role) (pitch x : Float) (r : Route) → Real x → Every RealStretch (stretches role pitch (runs r)) → HoldsSome (value x) (stretches role pitch (runs r)) → Somewhere (trunk_met role pitch x r)
unfolding trunk_met first_shared_trunk_intersection last_shared_trunk_intersection
trunk_somewhere Input pitch x r real s h = first_somewhere Input pitch x real 0 (runs r) s h
trunk_somewhere Output pitch x r real s h = last_somewhere Output pitch x real 0 (runs r) s h

-- ---- a planned x that every member allows has a tap on each

abbrev Tapped : Option (List TapOn) → Type 0
Tapped o = (ts : List TapOn) × (o ≡ Some ts)

then_tapped : (c : Option (ℕ × Point)) (i : ℕ) (o : Option (List TapOn)) → Somewhere c → Tapped o → Tapped (tap_then c i o)
unfolding tap_then
then_tapped None i o (k, p, e) t = let z : ◌≡◌ {A = ℕ} 0 1 = cc in absurd (omega arith)
then_tapped (Some (k, p)) i None h (ts, e) = let z : ◌≡◌ {A = ℕ} 0 1 = cc in absurd (omega arith)
then_tapped (Some (k, p)) i (Some us) h t = (record { edge = i; place = p } ∷ us, refl)

module _ (b : Board) (given : List Route) where
  all_tapped : (role : Role) (pitch x : Float) (ms : List Member) → Real x → Every (Every RealStretch) (members role pitch (map (route_of b given) ms)) → HoldsAll (value x) (members role pitch (map (route_of b given) ms)) → Tapped (trunk_taps role pitch x ms given)
  unfolding trunk_taps members
  all_tapped role pitch x [] real s h = ([], refl)
  all_tapped role pitch x (m ∷ ms) real s h =
      then_tapped (trunk_met role pitch x (route_at given m.edge)) m.edge (trunk_taps role pitch x ms given)
      (trunk_somewhere role pitch x (route_at given m.edge) real s.0 h.0) (all_tapped role pitch x ms real s.1 h.1)

  -- so the collector stands there
  stands : (u : Bundle) (x : Float) (o : Option (List TapOn)) → Tapped o → ((inside_or o b u x).collector.start.x ≡ x) × ((inside_or o b u x).collector.end.x ≡ x)
  unfolding inside_or drawn_inside drawn_as
  stands u x None (ts, e) = let z : ◌≡◌ {A = ℕ} 0 1 = cc in absurd (omega arith)
  stands u x (Some ts) t = (refl, refl)

  built_at_x : (good : Numbers b given) (u : Bundle) (x : Float) → Real x → HoldsAll (value x) (trunks b given u) → ((build b u (Some x) given).collector.start.x ≡ x) × ((build b u (Some x) given).collector.end.x ≡ x)
  unfolding build
  built_at_x good u x real h =
      stands u x (trunk_taps u.role (pitch_of b u) x (members_in b u) given)
      (all_tapped u.role (pitch_of b u) x (members_in b u) real (trunks_real b given good u) h)

  same_x : (x y : Float) → x ≡ y → Sameℚ (value x) (value y)
  same_x x y e = rw e refl

  no_better : (role : Role) (p : Fraction) (x : Float) → UpToℚ role p x → NoBetter role p (value x)
  no_better Input p x h = h
  no_better Output p x h = h

  bounds_same : (r s : Bounds) → Some r ≡ Some s → r ≡ s
  bounds_same r s f = cc

  -- the bundle as it is built on the given routes stands at its best place
  built_best : (good : Numbers b given) (u : Bundle) (present : List Route) (r : Option Bounds) → bounds_of b given u bounded.None bounded.None ≡ r → (x : Bound) → Best u.role r (trunks b given u) x → BestPlace b given present u (build b u (planned_x x) given)
  unfolding build
  built_best good u present None e bounded.None h = at_rail (λ q a. let z : None ≡ Some a.bounds = sym e ∙ a.are_bounds in let w : ◌≡◌ {A = ℕ} 0 1 = cc in absurd (omega arith)) (record { start = refl; end = refl })
  built_best good u present None e (bounded.At x) h = let w : ◌≡◌ {A = ℕ} 0 1 = cc in absurd (omega arith)
  built_best good u present (Some r) e bounded.None h = at_rail (λ q a. let z : r ≡ a.bounds = bounds_same r a.bounds (sym e ∙ a.are_bounds) in h q (subst (λ (s : Bounds). Good s (trunks b given u) q) (sym z) a.good)) (record { start = refl; end = refl })
  built_best good u present (Some r) e (bounded.At x) h =
      let at = built_at_x good u x h.0 h.1.usable in
      at_best (value x) (record { bounds = r; are_bounds = e; good = h.1 })
      (λ p a. let z : r ≡ a.bounds = bounds_same r a.bounds (sym e ∙ a.are_bounds) in no_better u.role p x (h.2 p (subst (λ (s : Bounds). Good s (trunks b given u) p) (sym z) a.good)))
      (record { start = same_x (build b u (Some x) given).collector.start.x x at.0; end = same_x (build b u (Some x) given).collector.end.x x at.1 })

-- ---- the turns

pub offsets_length : (b : Board) (us : List Bundle) (w : Used) → length (offsets_from b us w) ≡ length us
unfolding offsets_from
offsets_length b [] w = refl
offsets_length b (u ∷ us) w = ap suc (offsets_length b us (used_after b u w))

pub turns_length : (us : List Bundle) (xs : List Bound) (ds : List Float) → length xs ≡ length us → length ds ≡ length us → length (turns_from us xs ds) ≡ length us
unfolding turns_from
turns_length [] xs ds e f = refl
turns_length (u ∷ us) [] ds e f = let z : ◌≡◌ {A = ℕ} 0 1 = omega (arith, e) in absurd (omega arith)
turns_length (u ∷ us) (x ∷ xs) [] e f = let z : ◌≡◌ {A = ℕ} 0 1 = omega (arith, f) in absurd (omega arith)
turns_length (u ∷ us) (x ∷ xs) (d ∷ ds) e f = ap suc (turns_length us xs ds (omega (arith, e)) (omega (arith, f)))

-- the turn of bundle k has its bundle and its planned x
turn_at : (us : List Bundle) (xs : List Bound) (ds : List Float) → length xs ≡ length us → length ds ≡ length us → (k : ℕ) (c : Bundle) → k < length us
    → ((get_or (turns_from us xs ds) k no_turn).bundle ≡ get_or us k c) × ((get_or (turns_from us xs ds) k no_turn).planned ≡ planned_x (get_or xs k bounded.None))
unfolding turns_from
turn_at [] xs ds e f k c h = absurd (omega arith)
turn_at (u ∷ us) [] ds e f k c h = absurd (omega (arith, e))
turn_at (u ∷ us) (x ∷ xs) [] e f k c h = absurd (omega (arith, f))
turn_at (u ∷ us) (x ∷ xs) (d ∷ ds) e f zero c h = (refl, refl)
turn_at (u ∷ us) (x ∷ xs) (d ∷ ds) e f (suc k) c h = turn_at us xs ds (omega (arith, e)) (omega (arith, f)) k c (omega arith)

-- what holds of the bundles before bundle k holds of the turns before its own
turns_before : (P : Bundle → Type 0) (us : List Bundle) (xs : List Bound) (ds : List Float) (k : ℕ) → ((j : ℕ) → j < k → j < length us → P (get_or us j no_bundle)) → Every (λ (t : Turn). P t.bundle) (take k (turns_from us xs ds))
unfolding turns_from
turns_before P us xs ds zero h = tt
turns_before P [] xs ds (suc k) h = tt
turns_before P (u ∷ us) [] ds (suc k) h = tt
turns_before P (u ∷ us) (x ∷ xs) [] (suc k) h = tt
turns_before P (u ∷ us) (x ∷ xs) (d ∷ ds) (suc k) h = (h 0 (omega arith) (omega arith), turns_before P us xs ds k (λ j l m. h (suc j) (omega arith) (omega arith)))

-- ---- a bundle that shares no edge with the other role is built on the given routes

-- number 8: an edge stands once in the bundles of a role
abbrev pub OnceARole : Board → Type 0
OnceARole b = (j k : ℕ) → j < k → k < length b.bundles → same_role (get_or b.bundles j no_bundle).role (get_or b.bundles k no_bundle).role ≡ true
    → Disjoint (members_in b (get_or b.bundles j no_bundle)) (members_in b (get_or b.bundles k no_bundle))

among_none : (ms : List Member) (i : ℕ) → ((n : Member) → In n ms → n.edge ≡ i → ⊥) → among ms i ≡ false
unfolding among
among_none [] i h = refl
among_none (m ∷ ms) i h = rw (ne_eqb m.edge i (h m (inl refl))) (among_none ms i (λ n k. h n (inr k)))

touched_none : (b : Board) (ts : List Turn) (i : ℕ) → Every (λ (t : Turn). among (members_in b t.bundle) i ≡ false) ts → touched b ts i ≡ false
unfolding touched
touched_none b [] i h = refl
touched_none b (t ∷ ts) i h = rw h.0 (touched_none b ts i h.1)

every_from : (P : Member → Type 0) (ms : List Member) → ((m : Member) → In m ms → P m) → Every P ms
every_from P [] h = tt
every_from P (m ∷ ms) h = (h m (inl refl), every_from P ms (λ n k. h n (inr k)))

module _ (b : Board) (once : OnceARole b) (k : ℕ) (within : k < length b.bundles) (lone : Lone b (get_or b.bundles k no_bundle)) where
  apart_from : (j : ℕ) → j < k → j < length b.bundles → Disjoint (members_in b (get_or b.bundles j no_bundle)) (members_in b (get_or b.bundles k no_bundle))
  apart_from j l m = go (same_role (get_or b.bundles j no_bundle).role (get_or b.bundles k no_bundle).role) refl
    where
      back : Disjoint (members_in b (get_or b.bundles k no_bundle)) (members_in b (get_or b.bundles j no_bundle)) → Disjoint (members_in b (get_or b.bundles j no_bundle)) (members_in b (get_or b.bundles k no_bundle))
      back d p q i n e = d q p n i (sym e)

      go : (t : Bool) → same_role (get_or b.bundles j no_bundle).role (get_or b.bundles k no_bundle).role ≡ t → Disjoint (members_in b (get_or b.bundles j no_bundle)) (members_in b (get_or b.bundles k no_bundle))
      go true e = once j k l within e
      go false e =
          back (every_at (λ (t : Bundle). same_role (get_or b.bundles k no_bundle).role t.role ≡ false → Disjoint (members_in b (get_or b.bundles k no_bundle)) (members_in b t)) b.bundles no_bundle lone j m
          (other_way (get_or b.bundles k no_bundle).role (get_or b.bundles j no_bundle).role ∙ e))

  untouched : (xs : List Bound) (ds : List Float) → Every (λ (m : Member). touched b (take k (turns_from b.bundles xs ds)) m.edge ≡ false) (members_in b (get_or b.bundles k no_bundle))
  untouched xs ds =
      every_from (λ (m : Member). touched b (take k (turns_from b.bundles xs ds)) m.edge ≡ false) (members_in b (get_or b.bundles k no_bundle))
      (λ m i. touched_none b (take k (turns_from b.bundles xs ds)) m.edge
      (turns_before (λ (t : Bundle). among (members_in b t) m.edge ≡ false) b.bundles xs ds k
      (λ j l n. among_none (members_in b (get_or b.bundles j no_bundle)) m.edge (λ p q e. apart_from j l n p m q i e))))

-- ---- the whole

-- what is planned and drawn: a plan with no separation and a sufficient grant, and the sheet of it
pub record Drawing (b : Board) (given : List Route) (allow : Bool) (taps geometry : ℕ) (p : Plan) (u : Progress) : Type 0 where
  pub sufficient : due b given false ≤ taps
  pub planned : plan_of b given false taps ≡ going p
  pub sized : length p.xs ≡ length b.bundles
  pub drawn : sheet_of b allow (turns_of b p.xs) (blank given geometry) ≡ sheet.going u

-- THE THEOREM: a bundle that shares no edge with the other role stands at its best place, the routes present at its turn being those of `Accepted`
pub best_place : (b : Board) (given : List Route) (allow : Bool) (taps geometry : ℕ) (p : Plan) (u : Progress) → Numbers b given → OnceARole b → Drawing b given allow taps geometry p u
    → (k : ℕ) → k < length b.bundles → Lone b (get_or b.bundles k no_bundle) → (present : List Route) → BestPlace b given present (get_or b.bundles k no_bundle) (get_or u.drawn k no_drawn)
best_place b given allow taps geometry p u good once d k h lone present =
    let ts = turns_of b p.xs in
    let ds = offsets_of b in
    let c = get_or b.bundles k no_bundle in
    let f : length ds ≡ length b.bundles = offsets_length b b.bundles (record { input = bounded.None; output = bounded.None }) in
    let l : length ts ≡ length b.bundles = turns_length b.bundles p.xs ds d.sized f in
    let t = turn_at b.bundles p.xs ds d.sized f k no_bundle h in
    let a = accepted b allow given geometry ts u d.drawn in
    let fresh : Fresh b (take k ts) (get_or ts k no_turn) = subst (λ (z : Bundle). Every (λ (m : Member). touched b (take k ts) m.edge ≡ false) (members_in b z)) (sym t.0) (untouched b once k h lone p.xs ds) in
    let made : get_or u.drawn k no_drawn ≡ build b (get_or ts k no_turn).bundle (get_or ts k no_turn).planned given = a.drawn_fresh k (omega (arith, l)) fresh in
    let same : build b (get_or ts k no_turn).bundle (get_or ts k no_turn).planned given ≡ build b c (planned_x (get_or p.xs k bounded.None)) given =
    ap (λ (z : Bundle). build b z (get_or ts k no_turn).planned given) t.0 ∙ ap (λ (z : Option Float). build b c z given) t.1 in
    subst (BestPlace b given present c) (sym (made ∙ same))
    (built_best b given good c present (bounds_of b given c bounded.None bounded.None) refl (get_or p.xs k bounded.None) (planned_best b given good taps k no_bundle p h lone d.sufficient d.planned))
