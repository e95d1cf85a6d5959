-- The components of a plan on a board of the grid: the split, the limit of the inputs and the outputs, in whole numbers over 128 and in binary64.
-- Assumes nothing.
use Rattle.std.specs.Prelude.{◌≡◌, ℕ, ◌+◌, ◌^◌, ◌≤◌, ◌<◌, Bool, false, ◌||◌, ℤ, pos, negsuc, nat_abs, ◌+ℤ◌, ◌-ℤ◌, get_or, Float, Option, Some, None}
use Rattle.std.proofs.Math.Path.{refl, ap}
use Rattle.std.proofs.Common.{sym, ◌∙◌, subst, arith}
use Rattle.std.proofs.Math.Bool.{true, not, cond}
use mathlib.Core.List.{List, [], ◌∷◌, map}
use Rattle.std.specs.Float.{binary64}
use Rattle.std.specs.Float.Ieee.{lt, add, sub, div}
use Rattle.binary64.specs.Order.{least}
use Rattle.geometry.specs.declared.Role.TheVariants.{Input, Output}
use Rattle.search.specs.Search.{search_of}
use Rattle.plan.specs.declared.Bound.{Bound}
use Rattle.plan.specs.declared.Bound.TheVariants as bounded
use Rattle.plan.specs.Depths as L
use Rattle.plan.specs.Depths.{number}
use Rattle.plan.specs.Bounds as M
use Rattle.plan.specs.Plan as K
use Rattle.plan.specs.Plan.{Step, going, refused, then, Component}
use Rattle.grid_plan.specs.Board as Z
use Rattle.grid_plan.specs.Search as S
use Rattle.grid_plan.specs.Plan as P
use Rattle.grid_plan.proofs.Sized.{zero_sized, wider, sized_sub, pick_smaller}
use Rattle.grid_plan.specs.Image.{board, bound, ranged, plan}
use Rattle.grid_plan.proofs.Searching.{Held}
use Rattle.grid_plan.proofs.Deep.{pitch_on, pitch_sized}
use Rattle.sorting.specs.Lists.{Every}
use Rattle.grid.specs.On.{on, below, half_of}
use Rattle.grid.proofs.Operations.{lt_on, least_on, add_on, sub_on, add_size, subtract_size}
use Rattle.grid.proofs.Lanes.{half_even, half_on}
use Rattle.grid_plan.proofs.PlanSteps.{largest_of, smallest_of}
use Rattle.grid_plan.proofs.PlanSearches.{Close, Fine, pitch}
use Rattle.grid_plan.proofs.BoundSteps.{clamped_on, clamped_of}
use Rattle.grid_plan.proofs.PlanSteps.{at_on, desired_on, drop_all_of, drop_all_on, exceeds_on, found?_on, largest_on, maximum_on, minimum_on, never_13, of_role_on, smallest_on}
use Rattle.grid_plan.proofs.PlanSearches.{F, Ranging, again_of, again_on, component_on, fine_at, required_of, required_on}
use Rattle.grid_plan.specs.Sizes.{Sized, OfOption, Placed}
use Rattle.grid_plan.specs.OnGrid.{OnDraftingGrid}

module _ (b : Z.Board) (routes : List Z.Route) (good : OnDraftingGrid b routes) where
  -- ---- a component: numbers up to 2 ^ 46
  abbrev pub Far : ℤ → Type 0
  Far z = nat_abs z ≤ 2 ^ 46

  far_held : (z : ℤ) → Far z → Held z
  far_held z h = omega arith

  pub sub_pitch : (z : ℤ) → Far z → sub binary64 (on z) (L.parting_pitch (board b)) ≡ on (z -ℤ (pitch b routes good))
  sub_pitch z h = ap (sub binary64 (on z)) (pitch_on b routes good) ∙ sub_on z (pitch b routes good) (let q = (pitch_sized b routes good).size in omega arith)

  pub plus_pitch : (z : ℤ) → Far z → add binary64 (on z) (L.parting_pitch (board b)) ≡ on (z +ℤ (pitch b routes good))
  plus_pitch z h = ap (add binary64 (on z)) (pitch_on b routes good) ∙ add_on z (pitch b routes good) (let q = (pitch_sized b routes good).size in omega arith)

  pub less_pitch : (z : ℤ) → Far z → nat_abs (z -ℤ (pitch b routes good)) ≤ 2 ^ 47
  less_pitch z h = let p = subtract_size z (pitch b routes good) in let q = (pitch_sized b routes good).size in omega arith

  pub input_limit_on : (limit : ℤ) → Far limit → (x : Option ℤ) → K.input_limit (L.parting_pitch (board b)) (on limit) (bound x) ≡ bound (P.input_limit (pitch b routes good) limit x)
  input_limit_on limit h x = ap (λ (z : Float). bounded.At (least (M.if_at (bound x) (on limit) (λ y. y)) z)) (sub_pitch limit h) ∙ go x
    where
      go : (x : Option ℤ) → bounded.At (least (M.if_at (bound x) (on limit) (λ y. y)) (on (limit -ℤ (pitch b routes good)))) ≡ bound (P.input_limit (pitch b routes good) limit x)
      go None = ap bounded.At (least_on limit (limit -ℤ (pitch b routes good)))
      go (Some x) = ap bounded.At (least_on x (limit -ℤ (pitch b routes good)))

  input_limit_of : (limit : ℤ) → Far limit → (x : Option ℤ) → Placed x → OfOption Held (P.input_limit (pitch b routes good) limit x)
  input_limit_of limit h None s = let k = less_pitch limit h in pick_smaller Held limit (limit -ℤ (pitch b routes good)) (omega arith) (omega arith)
  input_limit_of limit h (Some x) s = let k = less_pitch limit h in pick_smaller Held x (limit -ℤ (pitch b routes good)) (omega arith) (omega arith)

  limited_on : (ss : List P.Ranged) (limit : ℤ) (inputs : List ℕ) (p : P.Plan) → Far limit → Every (Fine b routes good) ss → Every Placed p.xs → K.limited search_of (board b) (F b routes good) (map ranged ss) (on limit) inputs (plan p) ≡ plan (P.limited b routes ss limit inputs p)
  limited_on ss limit inputs p h fs k =
      ap (λ (o : Bound). cond (K.exceeds o (on limit)) (K.again search_of (board b) (F b routes good) (map ranged ss) (λ x. bounded.None) (K.input_limit (L.parting_pitch (board b)) (on limit)) inputs (plan p)) (plan p)) ((required_on b routes good) ss p.xs None inputs k)
      ∙ ap (λ (t : Bool). cond t (K.again search_of (board b) (F b routes good) (map ranged ss) (λ x. bounded.None) (K.input_limit (L.parting_pitch (board b)) (on limit)) inputs (plan p)) (plan p)) (exceeds_on (P.required b routes ss p.xs None inputs) limit)
      ∙ ap (λ (q : K.Plan). cond (P.exceeds (P.required b routes ss p.xs None inputs) limit) q (plan p))
      ((again_on b routes good) ss (λ x. bounded.None) (K.input_limit (L.parting_pitch (board b)) (on limit)) (λ x. None) (P.input_limit (pitch b routes good) limit) (λ x s. refl) (λ x s. input_limit_on limit h x) (λ x s. tt) (input_limit_of limit h) fs inputs p k)
      ∙ go (P.exceeds (P.required b routes ss p.xs None inputs) limit)
    where
      go : (t : Bool) → cond t (plan (P.again b routes ss (λ x. None) (P.input_limit (pitch b routes good) limit) inputs p)) (plan p) ≡ plan (cond t (P.again b routes ss (λ x. None) (P.input_limit (pitch b routes good) limit) inputs p) p)
      go true = refl
      go false = refl

  chosen_of : (t : Bool) (p q : P.Plan) → Every Placed p.xs → Every Placed q.xs → Every Placed (cond t p q).xs
  chosen_of true p q h k = h
  chosen_of false p q h k = k

  limited_of : (ss : List P.Ranged) (limit : ℤ) (inputs : List ℕ) (p : P.Plan) → Every (Fine b routes good) ss → Every Placed p.xs → Every Placed (P.limited b routes ss limit inputs p).xs
  limited_of ss limit inputs p fs k = chosen_of (P.exceeds (P.required b routes ss p.xs None inputs) limit) (P.again b routes ss (λ x. None) (P.input_limit (pitch b routes good) limit) inputs p) p ((again_of b routes good) ss (λ x. None) (P.input_limit (pitch b routes good) limit) fs inputs p k) k

  outputs_last_on : (ss : List P.Ranged) (inputs outputs : List ℕ) (p : P.Plan) → Every (Fine b routes good) ss → Every Placed p.xs → K.outputs_last search_of (board b) (F b routes good) (map ranged ss) inputs outputs (plan p) ≡ plan (P.outputs_last b routes ss inputs outputs p)
  outputs_last_on ss inputs outputs p fs k =
      (again_on b routes good) ss (λ x. K.required (board b) (F b routes good) (map ranged ss) (map bound p.xs) bounded.None inputs) (λ x. bounded.None) (λ x. P.required b routes ss p.xs None inputs) (λ x. None)
      (λ x s. (required_on b routes good) ss p.xs None inputs k) (λ x s. refl) (λ x s. close_held (P.required b routes ss p.xs None inputs) ((required_of b routes good) ss p.xs None inputs k tt)) (λ x s. tt) fs outputs p k
    where
      close_held : (o : Option ℤ) → OfOption (Close b routes good) o → OfOption Held o
      close_held None h = tt
      close_held (Some z) h = omega arith

  outputs_last_of : (ss : List P.Ranged) (inputs outputs : List ℕ) (p : P.Plan) → Every (Fine b routes good) ss → Every Placed p.xs → Every Placed (P.outputs_last b routes ss inputs outputs p).xs
  outputs_last_of ss inputs outputs p fs k = (again_of b routes good) ss (λ x. P.required b routes ss p.xs None inputs) (λ x. None) fs outputs p k

  -- the middle of two multiples of 1/64
  pub middle_on : (deepest separate : ℤ) → Sized (2 ^ 27) deepest → Sized (2 ^ 28) separate → K.middle (on deepest) (on separate) ≡ on (P.middle deepest separate)
  middle_on d s hd hs =
      let e = (sized_sub d s hd hs).even in
      let k = (sized_sub d s hd hs).size in
      ap (λ (z : Float). add binary64 (on s) (div binary64 z (number 2))) (sub_on d s (let p = hd.size in let q = hs.size in omega arith))
      ∙ ap (λ (z : ℤ). add binary64 (on s) (div binary64 (on z) (number 2))) e.is
      ∙ ap (add binary64 (on s)) (half_on e.half (let m = subst (λ (z : ℤ). nat_abs z ≤ 2 ^ 27 + 2 ^ 28) e.is k in let n = half_small e.half m in omega arith))
      ∙ add_on s e.half (let m = subst (λ (z : ℤ). nat_abs z ≤ 2 ^ 27 + 2 ^ 28) e.is k in let n = half_small e.half m in let q = hs.size in omega arith)
      ∙ ap (λ (z : ℤ). on (s +ℤ z)) (sym (ap half_of e.is ∙ half_even e.half))
    where
      half_small : (w : ℤ) → nat_abs (w +ℤ w) ≤ 2 ^ 27 + 2 ^ 28 → nat_abs w < 2 ^ 40
      half_small (pos n) h = omega arith
      half_small (negsuc n) h = omega arith

  middle_far : (deepest separate : ℤ) → Sized (2 ^ 27) deepest → Sized (2 ^ 28) separate → Held (P.middle deepest separate)
  middle_far d s hd hs =
      let e = (sized_sub d s hd hs).even in
      let k = (sized_sub d s hd hs).size in
      let q = hs.size in
      let t = add_size s (half_of (d -ℤ s)) in
      let r = half_size (d -ℤ s) in
      omega arith
    where
      half_size : (z : ℤ) → nat_abs (half_of z) ≤ nat_abs z
      half_size (pos n) = omega arith
      half_size (negsuc n) = omega arith

  pub split_value_on : (low limit deepest earliest : ℤ) → Far limit → Sized (2 ^ 27) deepest → Sized (2 ^ 27) earliest → K.input_split (L.parting_pitch (board b)) (on low) (on limit) (on deepest) (on earliest) ≡ on (P.input_split (pitch b routes good) low limit deepest earliest)
  split_value_on low limit deepest earliest hl hd he =
      ap (λ (z : Float). M.clamped (K.middle (on deepest) z) (on low) (sub binary64 (on limit) (L.parting_pitch (board b)))) (sub_pitch earliest (let p = he.size in omega arith))
      ∙ ap (λ (z : Float). M.clamped z (on low) (sub binary64 (on limit) (L.parting_pitch (board b)))) (middle_on deepest (earliest -ℤ (pitch b routes good)) hd (wider (omega arith) (sized_sub earliest (pitch b routes good) he (pitch_sized b routes good))))
      ∙ ap (M.clamped (on (P.middle deepest (earliest -ℤ (pitch b routes good)))) (on low)) (sub_pitch limit hl)
      ∙ clamped_on (P.middle deepest (earliest -ℤ (pitch b routes good))) low (limit -ℤ (pitch b routes good))

  split_on : (ss : List P.Ranged) (low limit deepest earliest : ℤ) (inputs : List ℕ) (p : P.Plan) → Far low → Far limit → Sized (2 ^ 27) deepest → Sized (2 ^ 27) earliest → below limit (low +ℤ (pitch b routes good)) ≡ false → Every (Fine b routes good) ss → Every Placed p.xs
      → K.split search_of (board b) (F b routes good) (map ranged ss) (on low) (on limit) (on deepest) (on earliest) inputs (plan p) ≡ going (plan (P.split b routes ss low limit deepest earliest inputs p))
  split_on ss low limit deepest earliest inputs p hw hl hd he clear fs k =
      ap (λ (z : Float). cond (lt (on earliest) z) (cond (lt (sub binary64 (on limit) (L.parting_pitch (board b))) (on low)) (refused p.left) (going anew)) (going (plan p))) (plus_pitch deepest (let q = hd.size in omega arith))
      ∙ ap (λ (t : Bool). cond t (cond (lt (sub binary64 (on limit) (L.parting_pitch (board b))) (on low)) (refused p.left) (going anew)) (going (plan p))) (lt_on earliest (deepest +ℤ (pitch b routes good)))
      ∙ ap (λ (z : Float). cond (below earliest (deepest +ℤ (pitch b routes good))) (cond (lt z (on low)) (refused p.left) (going anew)) (going (plan p))) (sub_pitch limit hl)
      ∙ ap (λ (t : Bool). cond (below earliest (deepest +ℤ (pitch b routes good))) (cond t (refused p.left) (going anew)) (going (plan p))) (lt_on (limit -ℤ (pitch b routes good)) low ∙ never_13 low limit (pitch b routes good) clear)
      ∙ ap (λ (q : K.Plan). cond (below earliest (deepest +ℤ (pitch b routes good))) (going q) (going (plan p)))
      ((again_on b routes good) ss (λ x. bounded.None) (λ x. bounded.At (K.input_split (L.parting_pitch (board b)) (on low) (on limit) (on deepest) (on earliest))) (λ x. None) (λ x. Some (P.input_split (pitch b routes good) low limit deepest earliest)) (λ x s. refl) (λ x s. ap bounded.At (split_value_on low limit deepest earliest hl hd he)) (λ x s. tt)
      (λ x s. clamped_of Held (P.middle deepest (earliest -ℤ (pitch b routes good))) low (limit -ℤ (pitch b routes good)) (middle_far deepest (earliest -ℤ (pitch b routes good)) hd (wider (omega arith) (sized_sub earliest (pitch b routes good) he (pitch_sized b routes good)))) (omega arith) (let z = less_pitch limit hl in omega arith)) fs inputs p k)
      ∙ go (below earliest (deepest +ℤ (pitch b routes good)))
    where
      anew : K.Plan
      anew = K.again search_of (board b) (F b routes good) (map ranged ss) (λ x. bounded.None) (λ x. bounded.At (K.input_split (L.parting_pitch (board b)) (on low) (on limit) (on deepest) (on earliest))) inputs (plan p)

      go : (t : Bool) → cond t (going (plan (P.again b routes ss (λ x. None) (λ x. Some (P.input_split (pitch b routes good) low limit deepest earliest)) inputs p))) (going (plan p)) ≡ going (plan (cond t (P.again b routes ss (λ x. None) (λ x. Some (P.input_split (pitch b routes good) low limit deepest earliest)) inputs p) p))
      go true = refl
      go false = refl

  split_of : (ss : List P.Ranged) (low limit deepest earliest : ℤ) (inputs : List ℕ) (p : P.Plan) → Every (Fine b routes good) ss → Every Placed p.xs → Every Placed (P.split b routes ss low limit deepest earliest inputs p).xs
  split_of ss low limit deepest earliest inputs p fs k = chosen_of (below earliest (deepest +ℤ (pitch b routes good))) (P.again b routes ss (λ x. None) (λ x. Some (P.input_split (pitch b routes good) low limit deepest earliest)) inputs p) p ((again_of b routes good) ss (λ x. None) (λ x. Some (P.input_split (pitch b routes good) low limit deepest earliest)) fs inputs p k) k

  settle_on : (ss : List P.Ranged) (order : List ℕ) (low limit deepest earliest : ℤ) (inputs outputs : List ℕ) (p : P.Plan) → Far low → Far limit → Sized (2 ^ 27) deepest → Sized (2 ^ 27) earliest → Every (Fine b routes good) ss → Every Placed p.xs
      → K.settle search_of (board b) (F b routes good) (map ranged ss) order (on low) (on limit) (on deepest) (on earliest) inputs outputs (plan p) ≡ going (plan (P.settle b routes ss order low limit deepest earliest inputs outputs p))
  settle_on ss order low limit deepest earliest inputs outputs p hw hl hd he fs k =
      ap (λ (z : Float). cond (lt (on limit) z) (going (record { xs = K.drop_all order (map bound p.xs); left = p.left })) parted) (plus_pitch low hw)
      ∙ ap (λ (t : Bool). cond t (going (record { xs = K.drop_all order (map bound p.xs); left = p.left })) parted) (lt_on limit (low +ℤ (pitch b routes good)))
      ∙ go (below limit (low +ℤ (pitch b routes good))) refl
    where
      rest : K.Plan → Step
      rest q = going (K.outputs_last search_of (board b) (F b routes good) (map ranged ss) inputs outputs (K.limited search_of (board b) (F b routes good) (map ranged ss) (on limit) inputs q))

      parted : Step
      parted = then (K.split search_of (board b) (F b routes good) (map ranged ss) (on low) (on limit) (on deepest) (on earliest) inputs (plan p)) rest

      q : P.Plan
      q = P.split b routes ss low limit deepest earliest inputs p

      go : (t : Bool) → below limit (low +ℤ (pitch b routes good)) ≡ t → cond t (going (record { xs = K.drop_all order (map bound p.xs); left = p.left })) parted
          ≡ going (plan (cond t (record { xs = P.drop_all order p.xs; left = p.left }) (P.outputs_last b routes ss inputs outputs (P.limited b routes ss limit inputs (P.split b routes ss low limit deepest earliest inputs p)))))
      go true e = ap (λ (l : List Bound). going (record { xs = l; left = p.left })) (drop_all_on order p.xs)
      go false e =
          ap (λ (s : Step). then s rest) (split_on ss low limit deepest earliest inputs p hw hl hd he e fs k)
          ∙ ap (λ (r : K.Plan). going (K.outputs_last search_of (board b) (F b routes good) (map ranged ss) inputs outputs r)) (limited_on ss limit inputs q hl fs (split_of ss low limit deepest earliest inputs p fs k))
          ∙ ap going (outputs_last_on ss inputs outputs (P.limited b routes ss limit inputs q) fs (limited_of ss limit inputs q fs (split_of ss low limit deepest earliest inputs p fs k)))

  settle_of : (ss : List P.Ranged) (order : List ℕ) (low limit deepest earliest : ℤ) (inputs outputs : List ℕ) (p : P.Plan) → Every (Fine b routes good) ss → Every Placed p.xs → Every Placed (P.settle b routes ss order low limit deepest earliest inputs outputs p).xs
  settle_of ss order low limit deepest earliest inputs outputs p fs k =
      let q = P.split b routes ss low limit deepest earliest inputs p in
      chosen_of (below limit (low +ℤ (pitch b routes good))) (record { xs = P.drop_all order p.xs; left = p.left }) (P.outputs_last b routes ss inputs outputs (P.limited b routes ss limit inputs q)) (drop_all_of order p.xs k)
      (outputs_last_of ss inputs outputs (P.limited b routes ss limit inputs q) fs (limited_of ss limit inputs q fs (split_of ss low limit deepest earliest inputs p fs k)))

  pub minimum_far : (ss : List P.Ranged) → Every (Fine b routes good) ss → (i : ℕ) → Far (P.minimum_at ss i)
  minimum_far ss fs i = go (P.ranged_at ss i).bounds ((fine_at b routes good) ss i fs).1
    where
      go : (r : Option S.Bounds) → (Ranging b routes good) r (P.ranged_at ss i).bundle → Far (P.if_between r (pos 0) (λ t. t.minimum))
      go None h = omega arith
      go (Some r) h = let q = h.0.size in omega arith

  pub maximum_far : (ss : List P.Ranged) → Every (Fine b routes good) ss → (i : ℕ) → Far (P.maximum_at ss i)
  maximum_far ss fs i = go (P.ranged_at ss i).bounds ((fine_at b routes good) ss i fs).1
    where
      go : (r : Option S.Bounds) → (Ranging b routes good) r (P.ranged_at ss i).bundle → Far (P.if_between r (pos 0) (λ t. t.maximum))
      go None h = omega arith
      go (Some r) h = let q = h.2.size in omega arith

  pub desired_sized : (ss : List P.Ranged) → Every (Fine b routes good) ss → (i : ℕ) → Sized (2 ^ 27) (P.desired_at ss i)
  desired_sized ss fs i = go (P.ranged_at ss i).bounds ((fine_at b routes good) ss i fs).1
    where
      go : (r : Option S.Bounds) → (Ranging b routes good) r (P.ranged_at ss i).bundle → Sized (2 ^ 27) (P.if_between r (pos 0) (λ t. t.desired))
      go None h = zero_sized (2 ^ 27)
      go (Some r) h = h.1

  treat_on : (ss : List P.Ranged) (order inputs outputs : List ℕ) (p : P.Plan) → Every (Fine b routes good) ss → Every Placed p.xs → K.treat search_of (board b) (F b routes good) (map ranged ss) order inputs outputs (plan p) ≡ going (plan (P.treat b routes ss order inputs outputs p))
  treat_on ss order [] outputs p fs k = refl
  treat_on ss order (i ∷ is) [] p fs k = refl
  treat_on ss order (i ∷ is) (o ∷ os) p fs k =
      ap (λ (z : Float). K.settle search_of (board b) (F b routes good) (map ranged ss) order z (K.smallest (K.maximum_at (map ranged ss)) (K.maximum_at (map ranged ss) o) os) (K.largest (K.desired_at (map ranged ss)) (K.desired_at (map ranged ss) i) is) (K.smallest (K.desired_at (map ranged ss)) (K.desired_at (map ranged ss) o) os) (i ∷ is) (o ∷ os) (plan p))
      (ap (λ (z : Float). K.largest (K.minimum_at (map ranged ss)) z is) (minimum_on ss i) ∙ largest_on (K.minimum_at (map ranged ss)) (P.minimum_at ss) (minimum_on ss) (P.minimum_at ss i) is)
      ∙ ap (λ (z : Float). K.settle search_of (board b) (F b routes good) (map ranged ss) order (on low) z (K.largest (K.desired_at (map ranged ss)) (K.desired_at (map ranged ss) i) is) (K.smallest (K.desired_at (map ranged ss)) (K.desired_at (map ranged ss) o) os) (i ∷ is) (o ∷ os) (plan p))
      (ap (λ (z : Float). K.smallest (K.maximum_at (map ranged ss)) z os) (maximum_on ss o) ∙ smallest_on (K.maximum_at (map ranged ss)) (P.maximum_at ss) (maximum_on ss) (P.maximum_at ss o) os)
      ∙ ap (λ (z : Float). K.settle search_of (board b) (F b routes good) (map ranged ss) order (on low) (on limit) z (K.smallest (K.desired_at (map ranged ss)) (K.desired_at (map ranged ss) o) os) (i ∷ is) (o ∷ os) (plan p))
      (ap (λ (z : Float). K.largest (K.desired_at (map ranged ss)) z is) (desired_on ss i) ∙ largest_on (K.desired_at (map ranged ss)) (P.desired_at ss) (desired_on ss) (P.desired_at ss i) is)
      ∙ ap (λ (z : Float). K.settle search_of (board b) (F b routes good) (map ranged ss) order (on low) (on limit) (on deepest) z (i ∷ is) (o ∷ os) (plan p))
      (ap (λ (z : Float). K.smallest (K.desired_at (map ranged ss)) z os) (desired_on ss o) ∙ smallest_on (K.desired_at (map ranged ss)) (P.desired_at ss) (desired_on ss) (P.desired_at ss o) os)
      ∙ settle_on ss order low limit deepest earliest (i ∷ is) (o ∷ os) p
      (largest_of Far (P.minimum_at ss) (minimum_far ss fs) (P.minimum_at ss i) is (minimum_far ss fs i)) (smallest_of Far (P.maximum_at ss) (maximum_far ss fs) (P.maximum_at ss o) os (maximum_far ss fs o))
      (largest_of (Sized (2 ^ 27)) (P.desired_at ss) (desired_sized ss fs) (P.desired_at ss i) is (desired_sized ss fs i)) (smallest_of (Sized (2 ^ 27)) (P.desired_at ss) (desired_sized ss fs) (P.desired_at ss o) os (desired_sized ss fs o)) fs k
    where
      low : ℤ
      low = P.largest (P.minimum_at ss) (P.minimum_at ss i) is

      limit : ℤ
      limit = P.smallest (P.maximum_at ss) (P.maximum_at ss o) os

      deepest : ℤ
      deepest = P.largest (P.desired_at ss) (P.desired_at ss i) is

      earliest : ℤ
      earliest = P.smallest (P.desired_at ss) (P.desired_at ss o) os

  treat_of : (ss : List P.Ranged) (order inputs outputs : List ℕ) (p : P.Plan) → Every (Fine b routes good) ss → Every Placed p.xs → Every Placed (P.treat b routes ss order inputs outputs p).xs
  treat_of ss order [] outputs p fs k = k
  treat_of ss order (i ∷ is) [] p fs k = k
  treat_of ss order (i ∷ is) (o ∷ os) p fs k = settle_of ss order (P.largest (P.minimum_at ss) (P.minimum_at ss i) is) (P.smallest (P.maximum_at ss) (P.maximum_at ss o) os)
      (P.largest (P.desired_at ss) (P.desired_at ss i) is) (P.smallest (P.desired_at ss) (P.desired_at ss o) os) (i ∷ is) (o ∷ os) p fs k

  treated_on : (ss : List P.Ranged) (order : List ℕ) (p : P.Plan) → Every (Fine b routes good) ss → Every Placed p.xs → K.treated search_of (board b) (F b routes good) (map ranged ss) order (plan p) ≡ going (plan (P.treated b routes ss order p))
  treated_on ss order p fs k =
      ap (λ (l : List ℕ). K.treat search_of (board b) (F b routes good) (map ranged ss) order l (K.of_role Output (map ranged ss) order) (plan p)) (of_role_on Input ss order)
      ∙ ap (λ (l : List ℕ). K.treat search_of (board b) (F b routes good) (map ranged ss) order (P.of_role Input ss order) l (plan p)) (of_role_on Output ss order)
      ∙ treat_on ss order (P.of_role Input ss order) (P.of_role Output ss order) p fs k

  pub components_on : (ss : List P.Ranged) (is : List ℕ) (seen : List Bool) (p : P.Plan) → Every (Fine b routes good) ss → Every Placed p.xs → K.components search_of (board b) (F b routes good) (map ranged ss) is seen (plan p) ≡ going (plan (P.components b routes ss is seen p))
  unfolding K.components P.components
  components_on ss [] seen p fs k = refl
  components_on ss (i ∷ is) seen p fs k =
      let c = P.component_of b routes ss i seen in
      ap (λ (s : K.Ranged). cond (get_or seen i true || not (K.found? s.bounds)) (K.components search_of (board b) (F b routes good) (map ranged ss) is seen (plan p)) (next (K.component_of (board b) (F b routes good) (map ranged ss) i seen))) (at_on ss i)
      ∙ ap (λ (t : Bool). cond (get_or seen i true || not t) (K.components search_of (board b) (F b routes good) (map ranged ss) is seen (plan p)) (next (K.component_of (board b) (F b routes good) (map ranged ss) i seen))) (found?_on (P.ranged_at ss i).bounds)
      ∙ ap (λ (e : Component). cond (get_or seen i true || not (P.found? (P.ranged_at ss i).bounds)) (K.components search_of (board b) (F b routes good) (map ranged ss) is seen (plan p)) (next e)) ((component_on b routes good) ss i seen)
      ∙ ap (λ (s : Step). cond (get_or seen i true || not (P.found? (P.ranged_at ss i).bounds)) s (next c)) (components_on ss is seen p fs k)
      ∙ ap (λ (s : Step). cond (get_or seen i true || not (P.found? (P.ranged_at ss i).bounds)) (going (plan (P.components b routes ss is seen p))) s)
      (ap (λ (s : Step). then s (K.components search_of (board b) (F b routes good) (map ranged ss) is c.seen)) (treated_on ss c.order p fs k)
      ∙ components_on ss is c.seen (P.treated b routes ss c.order p) fs (treat_of ss c.order (P.of_role Input ss c.order) (P.of_role Output ss c.order) p fs k))
      ∙ go (get_or seen i true || not (P.found? (P.ranged_at ss i).bounds)) (P.components b routes ss is seen p) (P.components b routes ss is c.seen (P.treated b routes ss c.order p))
    where
      next : Component → Step
      next c = then (K.treated search_of (board b) (F b routes good) (map ranged ss) c.order (plan p)) (K.components search_of (board b) (F b routes good) (map ranged ss) is c.seen)

      go : (t : Bool) (q r : P.Plan) → cond t (going (plan q)) (going (plan r)) ≡ going (plan (cond t q r))
      go true q r = refl
      go false q r = refl

  pub components_of : (ss : List P.Ranged) (is : List ℕ) (seen : List Bool) (p : P.Plan) → Every (Fine b routes good) ss → Every Placed p.xs → Every Placed (P.components b routes ss is seen p).xs
  unfolding P.components
  components_of ss [] seen p fs k = k
  components_of ss (i ∷ is) seen p fs k =
      let c = P.component_of b routes ss i seen in
      chosen_of (get_or seen i true || not (P.found? (P.ranged_at ss i).bounds)) (P.components b routes ss is seen p) (P.components b routes ss is c.seen (P.treated b routes ss c.order p))
      (components_of ss is seen p fs k) (components_of ss is c.seen (P.treated b routes ss c.order p) fs (treat_of ss c.order (P.of_role Input ss c.order) (P.of_role Output ss c.order) p fs k))
