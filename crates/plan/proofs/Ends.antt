-- The turns of the loops over runs, over the routes of a bundle's members, and over edges.
-- Assumes nothing.
use Rattle.std.specs.Prelude.{◌≡◌, Bool, false, length, get_or, drop, Float, Option}
use Rattle.std.proofs.Math.Path.{refl, sym, ap}
use Rattle.std.proofs.Common.{◌∙◌, length-drop, drop_of_length-le, get_or-take, get_or-drop, eq-eqb, ne_eqb}
use Rattle.std.proofs.Math.Bool.{true, cond}
use mathlib.Core.List.{List, [], ◌∷◌}
use Prim.Native.Nat.{ℕ, zero, suc, ◌+◌, ◌-◌, ◌≤◌, ◌<◌}
use native.Mathlib.Omega.{arith}
use Rattle.geometry.specs.declared.Role.{Role}
use Rattle.geometry.specs.declared.Segment.{Segment}
use Rattle.geometry.specs.Points.{Route, point_at, run_at, points_from}
use Rattle.geometry.specs.Stretch.{stretch, holds}
use Rattle.board.specs.Board.{window}
use Rattle.search.specs.Stretches.{routes}
use Rattle.plan.specs.declared.Bound.{Bound}
use Rattle.plan.specs.declared.Bound.TheVariants.{None, At}
use Rattle.plan.specs.Depths.{further}
use Rattle.plan.specs.Bounds.{if_at}
use Rattle.plan.specs.Plan.{run_end, diverges_at}
use Rattle.plan.specs.Over.{divergence_over, has, meet}
use Rattle.plan.proofs.TableReads as rows

-- ---- runs
module _ (role : Role) (pitch x : Float) (s : List Float) where
  test : (a k : ℕ) → 1 < k
      → diverges_at role pitch x (points_from s a k) ≡ cond (holds x (stretch role pitch (point_at s a) (point_at s (a + 1)))) (At (point_at s (a + 1)).x) (diverges_at role pitch x (points_from s (a + 1) (k - 1)))
  unfolding points_from run_end
  test a zero h = absurd (omega arith)
  test a (suc zero) h = absurd (omega arith)
  test a (suc (suc k)) h =
      let e : suc a ≡ a + 1 = omega arith in
      let f : suc k ≡ suc (suc k) - 1 = omega arith in
      ap (λ (j : ℕ). cond (holds x (stretch role pitch (point_at s a) (point_at s j))) (At (point_at s j).x) (diverges_at role pitch x (points_from s j (suc k)))) e
      ∙ ap (λ (j : ℕ). cond (holds x (stretch role pitch (point_at s a) (point_at s (a + 1)))) (At (point_at s (a + 1)).x) (diverges_at role pitch x (points_from s (a + 1) j))) f

  module _ (a k : ℕ) (h : 1 < k) (g : Segment) (eg : g ≡ run_at s a) (t : Option (Float × Float)) (et : t ≡ stretch role pitch g.start g.end) (r : Bool) (er : r ≡ holds x t) where
    tested : r ≡ holds x (stretch role pitch (point_at s a) (point_at s (a + 1)))
    tested = er ∙ ap (holds x) (et ∙ ap (λ (z : Segment). stretch role pitch z.start z.end) eg)

    pub ends_here : r ≡ true → At g.end.x ≡ diverges_at role pitch x (points_from s a k)
    ends_here y =
        ap (λ (z : Segment). At z.end.x) eg
        ∙ sym (test a k h ∙ ap (λ (b : Bool). cond b (At (point_at s (a + 1)).x) (diverges_at role pitch x (points_from s (a + 1) (k - 1)))) (sym tested ∙ y))

    pub ends_later : r ≡ false → diverges_at role pitch x (points_from s (a + 1) (k - 1)) ≡ diverges_at role pitch x (points_from s a k)
    ends_later y = sym (test a k h ∙ ap (λ (b : Bool). cond b (At (point_at s (a + 1)).x) (diverges_at role pitch x (points_from s (a + 1) (k - 1)))) (sym tested ∙ y))

  pub ends_nowhere : (a k : ℕ) → k ≤ 1 → None ≡ diverges_at role pitch x (points_from s a k)
  unfolding points_from run_end
  ends_nowhere a zero h = refl
  ends_nowhere a (suc zero) h = refl
  ends_nowhere a (suc (suc k)) h = absurd (omega arith)

-- ---- routes
routes_from : (points : List Float) (ss cs : List ℕ) (i : ℕ) → length ss ≡ length cs → i < length ss
    → drop i (routes points ss cs) ≡ points_from points (get_or ss i 0) (get_or cs i 0) ∷ drop (suc i) (routes points ss cs)
unfolding routes
routes_from points [] cs i e h = absurd (omega arith)
routes_from points (s ∷ ss) [] i e h = absurd (omega arith)
routes_from points (s ∷ ss) (c ∷ cs) zero e h = refl
routes_from points (s ∷ ss) (c ∷ cs) (suc i) e h = routes_from points ss cs i (omega arith) (omega arith)

routes_length : (points : List Float) (ss cs : List ℕ) → length ss ≡ length cs → length (routes points ss cs) ≡ length ss
unfolding routes
routes_length points [] cs e = refl
routes_length points (s ∷ ss) [] e = absurd (omega arith)
routes_length points (s ∷ ss) (c ∷ cs) e = ap suc (routes_length points ss cs (omega arith))

module _ (points : List Float) (starts counts : List ℕ) (e : length starts ≡ length counts) (first n : ℕ) (h : first + n ≤ length starts) where
  starts_length : length (window first n starts) ≡ n
  starts_length = rows.length_part (drop first starts) n (omega (arith, length-drop first starts))

  counts_length : length (window first n counts) ≡ n
  counts_length = rows.length_part (drop first counts) n (omega (arith, length-drop first counts))

  at : (l : List ℕ) (i : ℕ) → i < n → get_or (window first n l) i 0 ≡ get_or l (first + i) 0
  at l i q = get_or-take n (drop first l) i 0 q ∙ get_or-drop first l i 0

  pub route_at : (i : ℕ) → i < n
      → drop i (routes points (window first n starts) (window first n counts)) ≡ points_from points (get_or starts (first + i) 0) (get_or counts (first + i) 0) ∷ drop (i + 1) (routes points (window first n starts) (window first n counts))
  route_at i q =
      let one : suc i ≡ i + 1 = omega arith in
      let l : i < length (window first n starts) = omega (arith, starts_length) in
      routes_from points (window first n starts) (window first n counts) i (starts_length ∙ sym counts_length) l
      ∙ ap (λ (z : ℕ). points_from points z (get_or (window first n counts) i 0) ∷ drop (suc i) (routes points (window first n starts) (window first n counts))) (at starts i q)
      ∙ ap (λ (z : ℕ). points_from points (get_or starts (first + i) 0) z ∷ drop (suc i) (routes points (window first n starts) (window first n counts))) (at counts i q)
      ∙ ap (λ (j : ℕ). points_from points (get_or starts (first + i) 0) (get_or counts (first + i) 0) ∷ drop j (routes points (window first n starts) (window first n counts))) one

  pub route_end : (i : ℕ) → n ≤ i → drop i (routes points (window first n starts) (window first n counts)) ≡ []
  route_end i q =
      let l : length (routes points (window first n starts) (window first n counts)) ≤ i = omega (arith, routes_length points (window first n starts) (window first n counts) (starts_length ∙ sym counts_length), starts_length) in
      drop_of_length-le (routes points (window first n starts) (window first n counts)) l

module _ (role : Role) (pitch x : Float) (d : Bound) (r : Route) (rs l : List Route) (p : l ≡ r ∷ rs) (o : Bound) (e : o ≡ diverges_at role pitch x r) where
  pub over_none : o ≡ None → None ≡ divergence_over role pitch x d l
  unfolding divergence_over
  over_none n = sym (ap (divergence_over role pitch x d) p ∙ ap (λ (z : Bound). if_at z None (λ y. divergence_over role pitch x (further d y) rs)) (sym e ∙ n))

  pub over_some : (y : Float) (f : Bound) → o ≡ At y → f ≡ further d y → divergence_over role pitch x f rs ≡ divergence_over role pitch x d l
  unfolding divergence_over
  over_some y f n g =
      ap (λ (z : Bound). divergence_over role pitch x z rs) g
      ∙ ap (λ (z : Bound). if_at z None (λ y. divergence_over role pitch x (further d y) rs)) (sym n ∙ e)
      ∙ sym (ap (divergence_over role pitch x d) p)

pub over_end : (role : Role) (pitch x : Float) (d : Bound) (l : List Route) → l ≡ [] → d ≡ divergence_over role pitch x d l
unfolding divergence_over
over_end role pitch x d l p = sym (ap (divergence_over role pitch x d) p)

-- ---- edges
module _ (edges : List ℕ) (first n : ℕ) (h : first + n ≤ length edges) where
  pub edge_at : (i : ℕ) → i < n → drop i (window first n edges) ≡ get_or edges (first + i) 0 ∷ drop (i + 1) (window first n edges)
  edge_at i q =
      rows.part_cons (drop first edges) n i 0 q (omega (arith, length-drop first edges))
      ∙ ap (λ (z : ℕ). z ∷ drop (i + 1) (window first n edges)) (get_or-drop first edges i 0)

  pub edge_end : (i : ℕ) → n ≤ i → drop i (window first n edges) ≡ []
  edge_end i q = rows.part_none (drop first edges) n i q (omega (arith, length-drop first edges))

pub has_here : (e f : ℕ) (fs l : List ℕ) → l ≡ f ∷ fs → f ≡ e → true ≡ has e l
unfolding has
has_here e f fs l p q = sym (ap (has e) p ∙ ap (λ (t : Bool). cond t true (has e fs)) (eq-eqb f e q))

pub has_later : (e f : ℕ) (fs l : List ℕ) → l ≡ f ∷ fs → (f ≡ e → ⊥) → has e fs ≡ has e l
unfolding has
has_later e f fs l p q = sym (ap (has e) p ∙ ap (λ (t : Bool). cond t true (has e fs)) (ne_eqb f e q))

pub has_none : (e : ℕ) (l : List ℕ) → l ≡ [] → false ≡ has e l
unfolding has
has_none e l p = sym (ap (has e) p)

module _ (e : ℕ) (es l fs : List ℕ) (p : l ≡ e ∷ es) (t : Bool) (r : t ≡ has e fs) where
  pub meets_here : t ≡ true → true ≡ meet l fs
  unfolding meet
  meets_here y = sym (ap (λ (z : List ℕ). meet z fs) p ∙ ap (λ (b : Bool). cond b true (meet es fs)) (sym r ∙ y))

  pub meets_later : t ≡ false → meet es fs ≡ meet l fs
  unfolding meet
  meets_later y = sym (ap (λ (z : List ℕ). meet z fs) p ∙ ap (λ (b : Bool). cond b true (meet es fs)) (sym r ∙ y))

pub meets_none : (l fs : List ℕ) → l ≡ [] → false ≡ meet l fs
unfolding meet
meets_none l fs p = sym (ap (λ (z : List ℕ). meet z fs) p)
