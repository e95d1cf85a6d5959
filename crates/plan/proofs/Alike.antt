-- Two ways to search that say the same, while the counts of visits that they leave stay related: the plans of both say the same, and their counts are related.
-- Assumes nothing.
use Rattle.std.specs.declared.option.Option.TheVariants as option
use Rattle.std.proofs.Math.Path.{◌≡◌, ap, subst}
use Rattle.std.specs.Prelude.{refl, Bool, cond, ◌||◌, ℕ, length, replicate, Float, Option}
use Rattle.std.proofs.Common.{sym, ◌∙◌}
use Rattle.std.proofs.Math.Bool.{true, false, not}
use mathlib.Core.List.{List, [], ◌∷◌, map}
use Rattle.std.proofs.Math.ListN.{get_or, set}
use Rattle.std.specs.Float.Ieee as Ieee
use Rattle.geometry.specs.declared.Role.{Role}
use Rattle.geometry.specs.declared.Role.TheVariants.{Input, Output}
use Rattle.board.specs.declared.Bundle.{Bundle}
use Rattle.geometry.specs.Points.{Route}
use Rattle.board.specs.Board.{Board}
use Rattle.plan.specs.declared.Bound.{Bound}
use Rattle.plan.specs.declared.Bound.TheVariants.{None, At}
use Rattle.search.specs.declared.Bounds.{Bounds}
use Rattle.search.specs.declared.Outcome.{Outcome}
use Rattle.search.specs.declared.Outcome.TheVariants as outcome
use Rattle.search.specs.declared.Searched.{Searched}
use Rattle.search.specs.Search.{answer}
use Rattle.plan.specs.Depths.{◌⊕◌, ◌⊖◌, pitch_of, parting_pitch}
use Rattle.plan.specs.Bounds.{bounds_of, trunks}
use Rattle.plan.proofs.Through as through
use Rattle.plan.proofs.Through.{Kept}
use Rattle.plan.specs.Plan.{Look, Ranged, FirstPass, ranged_at, if_between, found?, found_x, ranged, initial_x, Plan, Step, input_split, input_limit, going, refused, then, left_of, plan_with, plan_from, seek_in, first_pass, required, again, limited, outputs_last, exceeds, split, settle, treat, treated, of_role, largest, smallest, minimum_at, maximum_at, desired_at, drop_all, component_of, components, indices_from, separated_if, separated, beside, look_beside, cut_to, moved, lanes_of, Lanes, add_lane, if_clear, clear}

-- two searches say the same, and what they leave is related
pub record Alike (R : ℕ → ℕ → Type 0) (s t : Searched) : Type 0 where
  pub same : t.outcome ≡ s.outcome
  pub counts : R s.left.0 t.left.0

-- two ways to search; they need be alike only where the first leaves a count that is Ok, and what is Ok after a search is Ok before it
pub record Twins (look mate : Look) : Type 1 where
  pub R : ℕ → ℕ → Type 0
  pub Ok : ℕ → Type 0
  pub kept : Kept look
  pub before : (m n : ℕ) → kept.R m n → Ok n → Ok m
  pub step : (role : Role) (r : Bounds) (ms : List (List (Option (Float × Float)))) (n w : ℕ) → R n w → Ok (look role r ms n).left.0 → Alike R (look role r ms n) (mate role r ms w)

pub record SamePass (R : ℕ → ℕ → Type 0) (s t : FirstPass) : Type 0 where
  pub same : t.ranges ≡ s.ranges
  pub counts : R s.left t.left

pub record SamePlan (R : ℕ → ℕ → Type 0) (p q : Plan) : Type 0 where
  pub same : q.xs ≡ p.xs
  pub counts : R p.left q.left

abbrev pub SameStep : (ℕ → ℕ → Type 0) → Step → Step → Type 0
SameStep R (going p) (going q) = SamePlan R p q
SameStep R (going p) (refused w) = ⊥
SameStep R (refused n) (going q) = ⊥
SameStep R (refused n) (refused w) = R n w

module _ (look mate : Look) (twins : Twins look mate) (b : Board) (routes : List Route) where
  abbrev R : ℕ → ℕ → Type 0
  R = twins.R

  abbrev Ok : ℕ → Type 0
  Ok = twins.Ok

  abbrev kept : Kept look
  kept = twins.kept

  before : {m n : ℕ} → kept.R m n → Ok n → Ok m
  before {m} {n} h k = twins.before m n h k

  -- ---- one search
  seek_in_alike : (u : Bundle) (r : Option Bounds) (n w : ℕ) → R n w → Ok (seek_in look b routes u r n).left.0 → Alike R (seek_in look b routes u r n) (seek_in mate b routes u r w)
  seek_in_alike u option.None n w h k = record { same = refl; counts = h }
  seek_in_alike u (option.Some r) n w h k = twins.step u.role r (trunks b routes u) n w h k

  -- ---- the first pass
  pub first_pass_same : (us : List Bundle) (n w : ℕ) → R n w → Ok (first_pass look b routes us n).left → SamePass R (first_pass look b routes us n) (first_pass mate b routes us w)
  unfolding first_pass
  first_pass_same [] n w h k = record { same = refl; counts = h }
  first_pass_same (u ∷ us) n w h k =
      let r = bounds_of b routes u None None in
      let s = seek_in look b routes u r n in
      let t = seek_in mate b routes u r w in
      let a = seek_in_alike u r n w h (before (through.first_pass_kept look kept b routes us s.left.0) k) in
      let c = first_pass_same us s.left.0 t.left.0 a.counts k in
      record { same = join (ranged u r) a.same c.same; counts = c.counts }
    where
      join : (g : Outcome → Ranged) {x y : Outcome} {l m : List Ranged} → x ≡ y → l ≡ m → ◌≡◌ {A = List Ranged} (g x ∷ l) (g y ∷ m)
      join g p q = cc

  -- ---- bundles searched anew
  again_same : (ranges : List Ranged) (lower upper : Bound → Bound) (is : List ℕ) (p q : Plan) → SamePlan R p q → Ok (again look b routes ranges lower upper is p).left
      → SamePlan R (again look b routes ranges lower upper is p) (again mate b routes ranges lower upper is q)
  unfolding again
  again_same ranges lower upper [] p q h k = h
  again_same ranges lower upper (i ∷ is) p q h k =
      let x = get_or p.xs i None in
      let y = get_or q.xs i None in
      let e : y ≡ x = ap (λ (l : List Bound). get_or l i None) h.same in
      let u = (ranged_at ranges i).bundle in
      let r = bounds_of b routes u (lower x) (upper x) in
      let s = seek_in look b routes u r p.left in
      let t = seek_in mate b routes u (bounds_of b routes u (lower y) (upper y)) q.left in
      let a : Alike R s t =
      subst (λ (z : Bound). Alike R s (seek_in mate b routes u (bounds_of b routes u (lower z) (upper z)) q.left)) (sym e)
      (seek_in_alike u r p.left q.left h.counts (before (through.again_kept look kept b routes ranges lower upper is (record { xs = set p.xs i (found_x s.outcome); left = s.left.0 })) k)) in
      again_same ranges lower upper is (record { xs = set p.xs i (found_x s.outcome); left = s.left.0 }) (record { xs = set q.xs i (found_x t.outcome); left = t.left.0 })
      (record { same = put q.xs p.xs t.outcome s.outcome h.same a.same; counts = a.counts }) k
    where
      put : (l m : List Bound) (x y : Outcome) → l ≡ m → x ≡ y → set l i (found_x x) ≡ set m i (found_x y)
      put l m x y p q = ap (λ (k : List Bound). set k i (found_x x)) p ∙ ap (λ (z : Outcome). set m i (found_x z)) q

  -- ---- one component
  limited_same : (ranges : List Ranged) (limit : Float) (inputs : List ℕ) (p q : Plan) → SamePlan R p q → Ok (limited look b routes ranges limit inputs p).left
      → SamePlan R (limited look b routes ranges limit inputs p) (limited mate b routes ranges limit inputs q)
  limited_same ranges limit inputs p q h =
      subst (λ (xs : List Bound). Ok (limited look b routes ranges limit inputs p).left
      → SamePlan R (limited look b routes ranges limit inputs p) (cond (exceeds (required b routes ranges xs None inputs) limit) (again mate b routes ranges (λ x. None) (input_limit (parting_pitch b) limit) inputs q) q))
      (sym h.same) (go (exceeds (required b routes ranges p.xs None inputs) limit))
    where
      go : (t : Bool) → Ok (cond t (again look b routes ranges (λ x. None) (input_limit (parting_pitch b) limit) inputs p) p).left
          → SamePlan R (cond t (again look b routes ranges (λ x. None) (input_limit (parting_pitch b) limit) inputs p) p)
          (cond t (again mate b routes ranges (λ x. None) (input_limit (parting_pitch b) limit) inputs q) q)
      go true k = again_same ranges (λ x. None) (input_limit (parting_pitch b) limit) inputs p q h k
      go false k = h

  outputs_same : (ranges : List Ranged) (inputs outputs : List ℕ) (p q : Plan) → SamePlan R p q → Ok (outputs_last look b routes ranges inputs outputs p).left
      → SamePlan R (outputs_last look b routes ranges inputs outputs p) (outputs_last mate b routes ranges inputs outputs q)
  outputs_same ranges inputs outputs p q h k =
      subst (λ (xs : List Bound). SamePlan R (outputs_last look b routes ranges inputs outputs p) (again mate b routes ranges (λ x. required b routes ranges xs None inputs) (λ x. None) outputs q))
      (sym h.same) (again_same ranges (λ x. required b routes ranges p.xs None inputs) (λ x. None) outputs p q h k)

  split_same : (ranges : List Ranged) (low limit deepest earliest : Float) (inputs : List ℕ) (p q : Plan) → SamePlan R p q → Ok (left_of (split look b routes ranges low limit deepest earliest inputs p))
      → SameStep R (split look b routes ranges low limit deepest earliest inputs p) (split mate b routes ranges low limit deepest earliest inputs q)
  split_same ranges low limit deepest earliest inputs p q h = go (Ieee.lt earliest (deepest ⊕ parting_pitch b)) (Ieee.lt (limit ⊖ parting_pitch b) low)
    where
      go : (s t : Bool) → Ok (left_of (cond s (cond t (refused p.left) (going (again look b routes ranges (λ x. None) (λ x. At (input_split (parting_pitch b) low limit deepest earliest)) inputs p))) (going p)))
          → SameStep R (cond s (cond t (refused p.left) (going (again look b routes ranges (λ x. None) (λ x. At (input_split (parting_pitch b) low limit deepest earliest)) inputs p))) (going p))
          (cond s (cond t (refused q.left) (going (again mate b routes ranges (λ x. None) (λ x. At (input_split (parting_pitch b) low limit deepest earliest)) inputs q))) (going q))
      go true true k = h.counts
      go true false k = again_same ranges (λ x. None) (λ x. At (input_split (parting_pitch b) low limit deepest earliest)) inputs p q h k
      go false t k = h

  then_same : (s t : Step) (g h : Plan → Step) → ((p : Plan) → kept.R p.left (left_of (g p)))
      → (Ok (left_of s) → SameStep R s t) → ((p q : Plan) → SamePlan R p q → Ok (left_of (g p)) → SameStep R (g p) (h q)) → Ok (left_of (then s g)) → SameStep R (then s g) (then t h)
  then_same (going p) (going q) g h up a c k = c p q (a (before (up p) k)) k
  then_same (going p) (refused w) g h up a c k = absurd (a (before (up p) k))
  then_same (refused n) (going q) g h up a c k = absurd (a k)
  then_same (refused n) (refused w) g h up a c k = a k

  -- the end of a component
  last_same : (ranges : List Ranged) (limit : Float) (inputs outputs : List ℕ) (p q : Plan) → SamePlan R p q
      → Ok (outputs_last look b routes ranges inputs outputs (limited look b routes ranges limit inputs p)).left
      → SamePlan R (outputs_last look b routes ranges inputs outputs (limited look b routes ranges limit inputs p)) (outputs_last mate b routes ranges inputs outputs (limited mate b routes ranges limit inputs q))
  last_same ranges limit inputs outputs p q h k =
      let m = limited look b routes ranges limit inputs p in
      outputs_same ranges inputs outputs m (limited mate b routes ranges limit inputs q) (limited_same ranges limit inputs p q h (before (through.outputs_kept look kept b routes ranges inputs outputs m) k)) k

  settle_same : (ranges : List Ranged) (order : List ℕ) (low limit deepest earliest : Float) (inputs outputs : List ℕ) (p q : Plan) → SamePlan R p q
      → Ok (left_of (settle look b routes ranges order low limit deepest earliest inputs outputs p))
      → SameStep R (settle look b routes ranges order low limit deepest earliest inputs outputs p) (settle mate b routes ranges order low limit deepest earliest inputs outputs q)
  settle_same ranges order low limit deepest earliest inputs outputs p q h = go (Ieee.lt limit (low ⊕ parting_pitch b))
    where
      last : Look → Plan → Step
      last any m = going (outputs_last any b routes ranges inputs outputs (limited any b routes ranges limit inputs m))

      given : Look → Plan → Bool → Step
      given any m t = cond t (going (record { xs = drop_all order m.xs; left = m.left })) (then (split any b routes ranges low limit deepest earliest inputs m) (last any))

      go : (t : Bool) → Ok (left_of (given look p t)) → SameStep R (given look p t) (given mate q t)
      go true k = record { same = ap (drop_all order) h.same; counts = h.counts }
      go false k =
          then_same (split look b routes ranges low limit deepest earliest inputs p) (split mate b routes ranges low limit deepest earliest inputs q) (last look) (last mate)
          (through.last_kept look kept b routes ranges limit inputs outputs) (split_same ranges low limit deepest earliest inputs p q h) (last_same ranges limit inputs outputs) k

  treat_same : (ranges : List Ranged) (order inputs outputs : List ℕ) (p q : Plan) → SamePlan R p q → Ok (left_of (treat look b routes ranges order inputs outputs p))
      → SameStep R (treat look b routes ranges order inputs outputs p) (treat mate b routes ranges order inputs outputs q)
  treat_same ranges order [] outputs p q h k = h
  treat_same ranges order (i ∷ is) [] p q h k = h
  treat_same ranges order (i ∷ is) (o ∷ os) p q h k =
      settle_same ranges order (largest (minimum_at ranges) (minimum_at ranges i) is) (smallest (maximum_at ranges) (maximum_at ranges o) os)
      (largest (desired_at ranges) (desired_at ranges i) is) (smallest (desired_at ranges) (desired_at ranges o) os) (i ∷ is) (o ∷ os) p q h k

  -- ---- all components
  components_same : (ranges : List Ranged) (is : List ℕ) (seen : List Bool) (p q : Plan) → SamePlan R p q → Ok (left_of (components look b routes ranges is seen p))
      → SameStep R (components look b routes ranges is seen p) (components mate b routes ranges is seen q)
  unfolding components
  components_same ranges [] seen p q h = λ k. h
  components_same ranges (i ∷ is) seen p q h =
      let c = component_of b routes ranges i seen in
      go (get_or seen i true || not (found? (ranged_at ranges i).bounds)) (components look b routes ranges is seen p) (components mate b routes ranges is seen q)
      (then (treated look b routes ranges c.order p) (components look b routes ranges is c.seen)) (then (treated mate b routes ranges c.order q) (components mate b routes ranges is c.seen))
      (components_same ranges is seen p q h)
      (then_same (treated look b routes ranges c.order p) (treated mate b routes ranges c.order q) (components look b routes ranges is c.seen) (components mate b routes ranges is c.seen)
      (through.components_kept look kept b routes ranges is c.seen) (treat_same ranges c.order (of_role Input ranges c.order) (of_role Output ranges c.order) p q h) (components_same ranges is c.seen))
    where
      go : (t : Bool) (x y z w : Step) → (Ok (left_of x) → SameStep R x y) → (Ok (left_of z) → SameStep R z w) → Ok (left_of (cond t x z)) → SameStep R (cond t x z) (cond t y w)
      go true x y z w h k = h
      go false x y z w h k = k

  -- ---- the separation
  look_beside_alike : (s : Ranged) (x : Float) (ys : List Float) (n w : ℕ) → R n w → Ok (look_beside look b routes s x ys n).left.0
      → Alike R (look_beside look b routes s x ys n) (look_beside mate b routes s x ys w)
  look_beside_alike s x ys n w h = go s.bounds
    where
      at : Look → ℕ → Option Bounds → Searched
      at any v r = if_between r (answer outcome.Nothing v) (λ r. any s.bundle.role (cut_to s.bundle.role r (moved (pitch_of b s.bundle) s.bundle.role r x ys)) (trunks b routes s.bundle) v)

      go : (r : Option Bounds) → Ok (at look n r).left.0 → Alike R (at look n r) (at mate w r)
      go option.None k = record { same = refl; counts = h }
      go (option.Some r) k = twins.step s.bundle.role (cut_to s.bundle.role r (moved (pitch_of b s.bundle) s.bundle.role r x ys)) (trunks b routes s.bundle) n w h k

  beside_alike : (s : Ranged) (x : Bound) (ys : List Float) (n w : ℕ) → R n w → Ok (beside look b routes s x ys n).left.0 → Alike R (beside look b routes s x ys n) (beside mate b routes s x ys w)
  beside_alike s None ys n w h = λ k. record { same = refl; counts = h }
  beside_alike s (At x) ys n w h = go (clear (pitch_of b s.bundle) x ys) (look_beside_alike s x ys n w h)
    where
      go : (t : Bool) → (Ok (look_beside look b routes s x ys n).left.0 → Alike R (look_beside look b routes s x ys n) (look_beside mate b routes s x ys w))
          → Ok (cond t (answer (outcome.Found x) n) (look_beside look b routes s x ys n)).left.0
          → Alike R (cond t (answer (outcome.Found x) n) (look_beside look b routes s x ys n)) (cond t (answer (outcome.Found x) w) (look_beside mate b routes s x ys w))
      go true g k = record { same = refl; counts = h }
      go false g k = g k

  separated_same : (ranges : List Ranged) (xs : List Bound) (l : Lanes) (n w : ℕ) → R n w → Ok (separated look b routes ranges xs l n).left
      → SamePlan R (separated look b routes ranges xs l n) (separated mate b routes ranges xs l w)
  unfolding separated
  separated_same [] xs l n w h k = record { same = refl; counts = h }
  separated_same (s ∷ ss) [] l n w h k = record { same = refl; counts = h }
  separated_same (s ∷ ss) (x ∷ xs) l n w h k =
      let role = s.bundle.role in
      let ys = lanes_of role l in
      let t = beside look b routes s x ys n in
      let u = beside mate b routes s x ys w in
      let y = if_clear (pitch_of b s.bundle) (found_x t.outcome) ys in
      let a = beside_alike s x ys n w h (before (through.separated_kept look kept b routes ss xs (add_lane role y l) t.left.0) k) in
      let z = if_clear (pitch_of b s.bundle) (found_x u.outcome) ys in
      let e : z ≡ y = ap (λ (g : Outcome). if_clear (pitch_of b s.bundle) (found_x g) ys) a.same in
      let c = separated_same ss xs (add_lane role y l) t.left.0 u.left.0 a.counts k in
      subst (λ (o : Bound). SamePlan R (separated look b routes (s ∷ ss) (x ∷ xs) l n)
      (let rest = separated mate b routes ss xs (add_lane role o l) u.left.0 in record { xs = o ∷ rest.xs; left = rest.left })) (sym e)
      (record { same = ap (λ (m : List Bound). y ∷ m) c.same; counts = c.counts })

  separated_if_same : (separate : Bool) (ranges : List Ranged) (p q : Plan) → SamePlan R p q → Ok (left_of (separated_if look b routes separate ranges p))
      → SameStep R (separated_if look b routes separate ranges p) (separated_if mate b routes separate ranges q)
  separated_if_same false ranges p q h k = h
  separated_if_same true ranges p q h k =
      subst (λ (xs : List Bound). SamePlan R (separated look b routes ranges p.xs (record { input = []; output = [] }) p.left) (separated mate b routes ranges xs (record { input = []; output = [] }) q.left))
      (sym h.same) (separated_same ranges p.xs (record { input = []; output = [] }) p.left q.left h.counts k)

  -- ---- the whole plan
  abbrev start : FirstPass → Plan
  start s = record { xs = map initial_x s.ranges; left = s.left }

  plan_from_same : (separate : Bool) (ranges : List Ranged) (n w : ℕ) → R n w → Ok (left_of (plan_from look b routes separate (record { ranges = ranges; left = n })))
      → SameStep R (plan_from look b routes separate (record { ranges = ranges; left = n })) (plan_from mate b routes separate (record { ranges = ranges; left = w }))
  plan_from_same separate ranges n w h k =
      then_same (components look b routes ranges (indices_from 0 ranges) (replicate (length ranges) false) (record { xs = map initial_x ranges; left = n }))
      (components mate b routes ranges (indices_from 0 ranges) (replicate (length ranges) false) (record { xs = map initial_x ranges; left = w }))
      (separated_if look b routes separate ranges) (separated_if mate b routes separate ranges) (through.separated_if_kept look kept b routes separate ranges)
      (components_same ranges (indices_from 0 ranges) (replicate (length ranges) false) (record { xs = map initial_x ranges; left = n }) (record { xs = map initial_x ranges; left = w }) (record { same = refl; counts = h }))
      (separated_if_same separate ranges) k

  -- the plans of both say the same, and their counts stay related
  pub plan_same : (separate : Bool) (n w : ℕ) → R n w → Ok (left_of (plan_with look b routes separate n)) → SameStep R (plan_with look b routes separate n) (plan_with mate b routes separate w)
  plan_same separate n w h k =
      let s = first_pass look b routes b.bundles n in
      let t = first_pass mate b routes b.bundles w in
      let a = first_pass_same b.bundles n w h (before (through.plan_from_kept look kept b routes separate s) k) in
      subst (λ (l : List Ranged). SameStep R (plan_from look b routes separate s) (plan_from mate b routes separate (record { ranges = l; left = t.left }))) (sym a.same)
      (plan_from_same separate s.ranges s.left t.left a.counts k)
