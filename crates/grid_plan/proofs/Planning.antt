-- The plan of binary64 on a board of the grid is the image of the plan in whole numbers: every planned x, every visit; and 13 cannot happen.
-- Assumes nothing.
use Rattle.std.specs.Prelude.{◌≡◌, ℕ, ◌^◌, Bool, true, false, cond, ℤ, ◌+ℤ◌, ◌-ℤ◌, length, replicate, Float, Option, Some, None}
use Rattle.std.proofs.Math.Path.{refl, ap}
use Rattle.std.proofs.Common.{◌∙◌, arith}
use mathlib.Core.List.{List, [], ◌∷◌, map}
use Rattle.std.proofs.lemmas.List.{length-map}
use Rattle.std.specs.Float.{binary64}
use Rattle.std.specs.Float.Ieee.{add, sub}
use Rattle.geometry.specs.declared.Role.{Role}
use Rattle.geometry.specs.declared.Role.TheVariants.{Input, Output}
use Rattle.board.specs.declared.Bundle.{Bundle}
use Rattle.search.specs.declared.Bounds.{Bounds}
use Rattle.search.specs.declared.Outcome.TheVariants as O
use Rattle.search.specs.declared.Searched.{Searched}
use Rattle.search.specs.Search.{search_of, answer}
use Rattle.plan.specs.declared.Bound.{Bound}
use Rattle.plan.specs.declared.Bound.TheVariants as bounded
use Rattle.plan.specs.Depths as L
use Rattle.plan.specs.Bounds as M
use Rattle.plan.specs.Plan as K
use Rattle.plan.specs.Plan.{Step, going, then}
use Rattle.grid_plan.specs.Board as Z
use Rattle.grid_plan.specs.Search as S
use Rattle.grid_plan.specs.Bounds as B
use Rattle.grid_plan.specs.Plan as P
use Rattle.grid_plan.specs.Image.{board, bound, bounds, collector, ranged, plan}
use Rattle.grid_plan.specs.InnerImage.{searched, lanes}
use Rattle.grid_plan.proofs.Searching.{Held, OfBounds}
use Rattle.grid_plan.proofs.Deep.{pitch_on, pitch_sized, pitch_length}
use Rattle.grid_plan.proofs.Bounding.{found_small}
use Rattle.sorting.specs.Lists.{Every}
use Rattle.grid.specs.On.{on}
use Rattle.grid_plan.proofs.PlanSteps.{lanes_on}
use Rattle.grid_plan.proofs.PlanSearches.{Fine, look_on, pitch}
use Rattle.grid_plan.proofs.PlanComponents.{less_pitch, plus_pitch}
use Rattle.grid_plan.proofs.BoundSteps.{clamped_on, clamped_of}
use Rattle.grid_plan.proofs.PlanSteps.{NearLanes, add_lane_near, add_lane_on, clear_on, found_x_on, indices_on, initials_on, lanes_near, largest_of_near, largest_of_on, smallest_of_near, smallest_of_on}
use Rattle.grid_plan.proofs.PlanSearches.{F, Ranging, add_pitch_close, first_pass_of, first_pass_on, held_sized}
use Rattle.grid_plan.proofs.PlanComponents.{components_of, components_on, sub_pitch}
use Rattle.grid_plan.specs.OnGrid.{OnDraftingGrid}
use Rattle.grid_plan.specs.Sizes.{Placed, Near}

module _ (b : Z.Board) (routes : List Z.Route) (good : OnDraftingGrid b routes) where
  -- ---- the separation of collectors of one role
  pitch_near : Near (pitch b routes good)
  pitch_near = (pitch_sized b routes good).size

  pub clear_bundle : (x : ℤ) (ys : List ℤ) → Near x → Every Near ys → K.clear (L.parting_pitch (board b)) (on x) (map on ys) ≡ P.clear (pitch b routes good) x ys
  clear_bundle x ys h k = ap (λ (z : Float). K.clear z (on x) (map on ys)) (pitch_on b routes good) ∙ clear_on (pitch b routes good) x ys pitch_near (pitch_length b routes good) h k

  pub moved_on : (role : Role) (r : S.Bounds) (x : ℤ) (ys : List ℤ) → Near x → Every Near ys → K.moved (L.parting_pitch (board b)) role (bounds r) (on x) (map on ys) ≡ on (P.moved (pitch b routes good) role r x ys)
  moved_on Input r x ys h k =
      ap (λ (z : Float). M.clamped (sub binary64 z (L.parting_pitch (board b))) (on r.minimum) (on r.maximum)) (smallest_of_on x ys)
      ∙ ap (λ (z : Float). M.clamped z (on r.minimum) (on r.maximum)) ((sub_pitch b routes good) (P.smallest_of x ys) (let q = smallest_of_near x ys h k in omega arith)) ∙ clamped_on (P.smallest_of x ys -ℤ (pitch b routes good)) r.minimum r.maximum
  moved_on Output r x ys h k =
      ap (λ (z : Float). M.clamped (add binary64 z (L.parting_pitch (board b))) (on r.minimum) (on r.maximum)) (largest_of_on x ys)
      ∙ ap (λ (z : Float). M.clamped z (on r.minimum) (on r.maximum)) ((plus_pitch b routes good) (P.largest_of x ys) (let q = largest_of_near x ys h k in omega arith)) ∙ clamped_on (P.largest_of x ys +ℤ (pitch b routes good)) r.minimum r.maximum

  moved_held : (role : Role) (r : S.Bounds) (x : ℤ) (ys : List ℤ) → Held r.minimum → Held r.maximum → Near x → Every Near ys → Held (P.moved (pitch b routes good) role r x ys)
  moved_held Input r x ys l u h k = clamped_of Held (P.smallest_of x ys -ℤ (pitch b routes good)) r.minimum r.maximum (let q = smallest_of_near x ys h k in let p = (less_pitch b routes good) (P.smallest_of x ys) (omega arith) in omega arith) l u
  moved_held Output r x ys l u h k = clamped_of Held (P.largest_of x ys +ℤ (pitch b routes good)) r.minimum r.maximum (let q = largest_of_near x ys h k in let p = (add_pitch_close b routes good) (P.largest_of x ys) q in omega arith) l u

  cut_on : (role : Role) (r : S.Bounds) (d : ℤ) → K.cut_to role (bounds r) (on d) ≡ bounds (P.cut_to role r d)
  cut_on Input r d = refl
  cut_on Output r d = refl

  cut_held : (role : Role) (r : S.Bounds) (d : ℤ) → Held r.minimum → Held r.maximum → Held d → OfBounds Held (P.cut_to role r d)
  cut_held Input r d l u h = (l, h, h)
  cut_held Output r d l u h = (h, h, u)

  look_beside_on : (s : P.Ranged) (x : ℤ) (ys : List ℤ) (v : ℕ) → (Fine b routes good) s → Near x → Every Near ys → K.look_beside search_of (board b) (F b routes good) (ranged s) (on x) (map on ys) v ≡ searched (P.look_beside b routes s x ys v)
  look_beside_on s x ys v f h k = go s.bounds f.1
    where
      u : Bundle
      u = s.bundle

      go : (c : Option S.Bounds) → (Ranging b routes good) c s.bundle
          → K.if_between (collector c) (answer O.Nothing v) (λ r. search_of s.bundle.role (K.cut_to s.bundle.role r (K.moved (L.parting_pitch (board b)) s.bundle.role r (on x) (map on ys))) (M.trunks (board b) (F b routes good) s.bundle) v)
          ≡ searched (P.if_between c (S.answer S.Nothing v) (λ r. S.search_of s.bundle.role (P.cut_to s.bundle.role r (P.moved (pitch b routes good) s.bundle.role r x ys)) (B.trunks b routes s.bundle) v))
      go None g = refl
      go (Some r) g =
          let l : Held r.minimum = (held_sized b routes good) (2 ^ 45) (omega arith) r.minimum g.0 in
          let m : Held r.maximum = (held_sized b routes good) (2 ^ 45) (omega arith) r.maximum g.2 in
          let d = P.moved (pitch b routes good) s.bundle.role r x ys in
          ap (λ (z : Float). search_of s.bundle.role (K.cut_to s.bundle.role (bounds r) z) (M.trunks (board b) (F b routes good) s.bundle) v) (moved_on s.bundle.role r x ys h k)
          ∙ ap (λ (z : Bounds). search_of s.bundle.role z (M.trunks (board b) (F b routes good) s.bundle) v) (cut_on s.bundle.role r d)
          ∙ (look_on b routes good) s.bundle (P.cut_to s.bundle.role r d) v (cut_held s.bundle.role r d l m (moved_held s.bundle.role r x ys l m h k))

  look_beside_of : (s : P.Ranged) (x : ℤ) (ys : List ℤ) (v : ℕ) → (Fine b routes good) s → Placed (P.found_x (P.look_beside b routes s x ys v).outcome)
  look_beside_of s x ys v f = go s.bounds f.1
    where
      go : (c : Option S.Bounds) → (Ranging b routes good) c s.bundle → Placed (P.found_x (P.if_between c (S.answer S.Nothing v) (λ r. S.search_of s.bundle.role (P.cut_to s.bundle.role r (P.moved (pitch b routes good) s.bundle.role r x ys)) (B.trunks b routes s.bundle) v)).outcome)
      go None g = tt
      go (Some r) g = found_small b routes good s.bundle (P.cut_to s.bundle.role r (P.moved (pitch b routes good) s.bundle.role r x ys)) v f.0 g.3

  beside_on : (s : P.Ranged) (x : Option ℤ) (ys : List ℤ) (v : ℕ) → (Fine b routes good) s → Placed x → Every Near ys → K.beside search_of (board b) (F b routes good) (ranged s) (bound x) (map on ys) v ≡ searched (P.beside b routes s x ys v)
  beside_on s None ys v f h k = refl
  beside_on s (Some x) ys v f h k =
      ap (λ (t : Bool). cond t (answer (O.Found (on x)) v) (K.look_beside search_of (board b) (F b routes good) (ranged s) (on x) (map on ys) v)) (clear_bundle x ys h k)
      ∙ ap (λ (t : Searched). cond (P.clear (pitch b routes good) x ys) (answer (O.Found (on x)) v) t) (look_beside_on s x ys v f h k)
      ∙ go (P.clear (pitch b routes good) x ys) (P.look_beside b routes s x ys v)
    where
      go : (t : Bool) (q : S.Searched) → cond t (answer (O.Found (on x)) v) (searched q) ≡ searched (cond t (S.answer (S.Found x) v) q)
      go true q = refl
      go false q = refl

  beside_of : (s : P.Ranged) (x : Option ℤ) (ys : List ℤ) (v : ℕ) → (Fine b routes good) s → Placed x → Placed (P.found_x (P.beside b routes s x ys v).outcome)
  beside_of s None ys v f h = tt
  beside_of s (Some x) ys v f h = go (P.clear (pitch b routes good) x ys) (P.look_beside b routes s x ys v) (look_beside_of s x ys v f)
    where
      go : (t : Bool) (q : S.Searched) → Placed (P.found_x q.outcome) → Placed (P.found_x (cond t (S.answer (S.Found x) v) q).outcome)
      go true q g = h
      go false q g = g

  if_clear_on : (x : Option ℤ) (ys : List ℤ) → Placed x → Every Near ys → K.if_clear (L.parting_pitch (board b)) (bound x) (map on ys) ≡ bound (P.if_clear (pitch b routes good) x ys)
  if_clear_on None ys h k = refl
  if_clear_on (Some x) ys h k = ap (λ (t : Bool). cond t (bounded.At (on x)) bounded.None) (clear_bundle x ys h k) ∙ go (P.clear (pitch b routes good) x ys)
    where
      go : (t : Bool) → cond t (bounded.At (on x)) bounded.None ≡ bound (cond t (Some x) None)
      go true = refl
      go false = refl

  if_clear_of : (x : Option ℤ) (ys : List ℤ) → Placed x → Placed (P.if_clear (pitch b routes good) x ys)
  if_clear_of None ys h = tt
  if_clear_of (Some x) ys h = go (P.clear (pitch b routes good) x ys)
    where
      go : (t : Bool) → Placed (cond t (Some x) None)
      go true = h
      go false = tt

  separated_on : (ss : List P.Ranged) (xs : List (Option ℤ)) (l : P.Lanes) (v : ℕ) → Every (Fine b routes good) ss → Every Placed xs → NearLanes l → K.separated search_of (board b) (F b routes good) (map ranged ss) (map bound xs) (lanes l) v ≡ plan (P.separated b routes ss xs l v)
  unfolding K.separated P.separated
  separated_on [] xs l v fs h k = refl
  separated_on (s ∷ ss) [] l v fs h k = refl
  separated_on (s ∷ ss) (x ∷ xs) l v fs h k =
      let role = s.bundle.role in
      let ys = P.lanes_of role l in
      let nys = lanes_near role l k in
      let t = P.beside b routes s x ys v in
      let y = P.if_clear (pitch b routes good) (P.found_x t.outcome) ys in
      let ft = beside_of s x ys v fs.0 h.0 in
      ap (λ (m : List Float). next (K.beside search_of (board b) (F b routes good) (ranged s) (bound x) m v) m) (lanes_on role l)
      ∙ ap (λ (q : Searched). next q (map on ys)) (beside_on s x ys v fs.0 h.0 nys)
      ∙ ap (λ (o : Bound). last (K.if_clear (L.parting_pitch (board b)) o (map on ys)) t.left) (found_x_on t.outcome)
      ∙ ap (λ (o : Bound). last o t.left) (if_clear_on (P.found_x t.outcome) ys ft nys)
      ∙ ap (λ (m : K.Lanes). put (bound y) (K.separated search_of (board b) (F b routes good) (map ranged ss) (map bound xs) m t.left)) (add_lane_on role y l)
      ∙ ap (put (bound y)) (separated_on ss xs (P.add_lane role y l) t.left fs.1 h.1 (add_lane_near role y l (if_clear_of (P.found_x t.outcome) ys ft) k))
    where
      put : Bound → K.Plan → K.Plan
      put o rest = record { xs = o ∷ rest.xs; left = rest.left }

      last : Bound → ℕ → K.Plan
      last o v = put o (K.separated search_of (board b) (F b routes good) (map ranged ss) (map bound xs) (K.add_lane s.bundle.role o (lanes l)) v)

      next : Searched → List Float → K.Plan
      next q m = last (K.if_clear (L.parting_pitch (board b)) (K.found_x q.outcome) m) q.left.0

  separated_of : (ss : List P.Ranged) (xs : List (Option ℤ)) (l : P.Lanes) (v : ℕ) → Every (Fine b routes good) ss → Every Placed xs → NearLanes l → Every Placed (P.separated b routes ss xs l v).xs
  unfolding P.separated
  separated_of [] xs l v fs h k = tt
  separated_of (s ∷ ss) [] l v fs h k = tt
  separated_of (s ∷ ss) (x ∷ xs) l v fs h k =
      let role = s.bundle.role in
      let ys = P.lanes_of role l in
      let t = P.beside b routes s x ys v in
      let c = if_clear_of (P.found_x t.outcome) ys (beside_of s x ys v fs.0 h.0) in
      (c, separated_of ss xs (P.add_lane role (P.if_clear (pitch b routes good) (P.found_x t.outcome) ys) l) t.left fs.1 h.1 (add_lane_near role (P.if_clear (pitch b routes good) (P.found_x t.outcome) ys) l c k))

  separated_if_on : (separate : Bool) (ss : List P.Ranged) (p : P.Plan) → Every (Fine b routes good) ss → Every Placed p.xs → K.separated_if search_of (board b) (F b routes good) separate (map ranged ss) (plan p) ≡ going (plan (P.separated_if b routes separate ss p))
  separated_if_on false ss p fs h = refl
  separated_if_on true ss p fs h = ap going (separated_on ss p.xs (record { input = []; output = [] }) p.left fs h (tt, tt))

  separated_if_of : (separate : Bool) (ss : List P.Ranged) (p : P.Plan) → Every (Fine b routes good) ss → Every Placed p.xs → Every Placed (P.separated_if b routes separate ss p).xs
  separated_if_of false ss p fs h = h
  separated_if_of true ss p fs h = separated_of ss p.xs (record { input = []; output = [] }) p.left fs h (tt, tt)

  initials_of : (ss : List P.Ranged) → Every (Fine b routes good) ss → Every Placed (map P.initial_x ss)
  initials_of [] h = tt
  initials_of (s ∷ ss) h = (go s.bounds h.0.1, initials_of ss h.1)
    where
      go : (r : Option S.Bounds) → (Ranging b routes good) r s.bundle → Placed (P.if_between r None (λ t. Some t.desired))
      go None g = tt
      go (Some r) g = g.1.size

  -- THE PLAN: on a board of the grid the plan of binary64 is the plan in whole numbers, over 128; number 13 does not occur
  pub plan_on : (separate : Bool) (v : ℕ) → K.plan_of (board b) (F b routes good) separate v ≡ going (plan (P.plan_of b routes separate v))
  plan_on separate v =
      ap (K.plan_from search_of (board b) (F b routes good) separate) ((first_pass_on b routes good) b.bundles v)
      ∙ ap (λ (n : ℕ). after (K.components search_of (board b) (F b routes good) (map ranged ss) (K.indices_from 0 (map ranged ss)) (replicate n false) (record { xs = map K.initial_x (map ranged ss); left = f.left }))) (length-map ss ranged)
      ∙ ap (λ (l : List ℕ). after (K.components search_of (board b) (F b routes good) (map ranged ss) l (replicate (length ss) false) (record { xs = map K.initial_x (map ranged ss); left = f.left }))) (indices_on 0 ss)
      ∙ ap (λ (l : List Bound). after (K.components search_of (board b) (F b routes good) (map ranged ss) (P.indices_from 0 ss) (replicate (length ss) false) (record { xs = l; left = f.left }))) (initials_on ss)
      ∙ ap after ((components_on b routes good) ss (P.indices_from 0 ss) (replicate (length ss) false) start fine (initials_of ss fine))
      ∙ separated_if_on separate ss (P.components b routes ss (P.indices_from 0 ss) (replicate (length ss) false) start) fine ((components_of b routes good) ss (P.indices_from 0 ss) (replicate (length ss) false) start fine (initials_of ss fine))
    where
      f : P.FirstPass
      f = P.first_pass b routes b.bundles v

      ss : List P.Ranged
      ss = (P.first_pass b routes b.bundles v).ranges

      fine : Every (Fine b routes good) (P.first_pass b routes b.bundles v).ranges
      fine = (first_pass_of b routes good) b.bundles v good.windows

      start : P.Plan
      start = record { xs = map P.initial_x (P.first_pass b routes b.bundles v).ranges; left = (P.first_pass b routes b.bundles v).left }

      after : Step → Step
      after s = then s (K.separated_if search_of (board b) (F b routes good) separate (map ranged (P.first_pass b routes b.bundles v).ranges))

  -- and every planned x is at most 2 ^ 20 in magnitude
  pub plan_near : (separate : Bool) (v : ℕ) → Every Placed (P.plan_of b routes separate v).xs
  plan_near separate v =
      let f = P.first_pass b routes b.bundles v in
      let fine : Every (Fine b routes good) f.ranges = (first_pass_of b routes good) b.bundles v good.windows in
      let start : P.Plan = record { xs = map P.initial_x f.ranges; left = f.left } in
      separated_if_of separate f.ranges (P.components b routes f.ranges (P.indices_from 0 f.ranges) (replicate (length f.ranges) false) start) fine
      ((components_of b routes good) f.ranges (P.indices_from 0 f.ranges) (replicate (length f.ranges) false) start fine (initials_of f.ranges fine))
