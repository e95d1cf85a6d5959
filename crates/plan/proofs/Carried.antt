-- What holds of every x that a search finds, given what holds of its bounds, holds of every planned x; and there are as many planned x as bundles. Whatever was granted, and whether collectors of one role are separated or not.
-- Assumes nothing.
use Rattle.std.specs.declared.option.Option.TheVariants as option
use Prim.Native.Nat.{ℕ, zero, suc, ◌<◌}
use Rattle.std.proofs.Math.Path.{◌≡◌, refl, ap}
use Rattle.std.proofs.Common.{sym, ◌∙◌, subst, true≢false, arith, leb-false}
use Rattle.std.specs.Prelude.{Bool, ◌||◌, T, length, replicate, Float, Option}
use Rattle.std.proofs.Math.Bool.{true, false, not, cond}
use mathlib.Core.List.{List, [], ◌∷◌, map}
use Rattle.std.proofs.Math.Dec.{leb}
use Rattle.std.proofs.Math.ListN.{get_or, set}
use Rattle.std.specs.Float.Ieee as Ieee
use Rattle.std.specs.Float.{binary64}
use Rattle.std.specs.Float.Ieee.{lt, fits}
use Rattle.std.specs.Float.Ieee.Fits.{div-fits}
use Rattle.binary64.specs.Order.{greatest}
use Rattle.binary64.specs.Accepted.{zero64}
use Rattle.geometry.specs.declared.Point.{Point}
use Rattle.geometry.specs.declared.Role.{Role}
use Rattle.geometry.specs.declared.Role.TheVariants.{Input, Output}
use Rattle.geometry.specs.Points.{Route}
use Rattle.board.specs.declared.Bundle.{Bundle}
use Rattle.board.specs.declared.Member.{Member}
use Rattle.board.specs.Board.{Board, rail_depth}
use Rattle.search.specs.declared.Bounds.{Bounds}
use Rattle.search.specs.declared.Outcome.{Outcome}
use Rattle.search.specs.declared.Outcome.TheVariants as outcome
use Rattle.search.specs.Search.{answer}
use Rattle.sorting.specs.Sorted.{every_last, every_get_d}
use Rattle.sorting.specs.Lists.{Every}
use Rattle.plan.specs.declared.Bound.{Bound}
use Rattle.plan.specs.declared.Bound.TheVariants.{None, At}
use Rattle.plan.specs.Depths.{◌⊕◌, ◌⊖◌, number, further, members_in, pitch_of, parting_pitch, endpoint_of, corridor_of}
use Rattle.plan.specs.Bounds.{if_at, clamped, raised, lowered, first_x, last_x, reach_x, reach, tighter, reach_all, unless_crossed, between, bounds_of, trunks, route_of}
use Rattle.plan.specs.Plan.{Look, Ranged, no_ranged, ranged_at, if_between, found?, initial_x, found_x, ranged, Plan, Step, going, refused, then, Lanes, lanes_of, add_lane, middle, input_split, input_limit, if_clear, clear, cut_to, moved, largest_of, smallest_of, exceeds, largest, smallest, minimum_at, maximum_at, desired_at, of_role, drop_all, component_of, diverges_at, divergence, asked, required, seek_in, seek, first_pass, again, limited, outputs_last, split, settle, treat, treated, components, indices_from, look_beside, beside, separated, separated_if, plan_with}
use Rattle.plan.proofs.CarriedNumbers.{Windowed, OfBound, OfBounds, Traits, of_least, of_greatest, of_clamped, of_raised, of_lowered, of_further, of_first, of_last, of_map, of_tighter, of_largest, of_smallest, of_largest_of, of_smallest_of, of_diverges}

module _ (look : Look) (b : Board) (routes : List Route) (traits : Traits look b routes) where
  abbrev P : Float → Type 0
  P = traits.P

  abbrev Q : Float → Type 0
  Q = traits.Q

  weaken : (o : Bound) → OfBound P o → OfBound Q o
  weaken None s = tt
  weaken (At x) s = traits.weaker x s

  route_fine : (m : Member) → Every (λ (p : Point). Q p.x) (route_of b routes m)
  route_fine m = every_get_d (Every (λ (p : Point). Q p.x)) routes [] m.edge traits.points tt

  -- ---- bounds
  reach_fine : (role : Role) (m : Member) → OfBound Q (reach b routes role m)
  reach_fine Input m =
      let reserve = b.options.member_endpoint_reserve in
      of_map Q (reach_x Input reserve (corridor_of b Output m.edge)) (last_x (route_of b routes m)) (of_last Q (route_of b routes m) (route_fine m))
      (λ x s. of_lowered Q (x ⊖ reserve) (corridor_of b Output m.edge) (traits.minus x reserve traits.reserve_fits s) (traits.corridor Output m.edge))
  reach_fine Output m =
      let reserve = b.options.member_endpoint_reserve in
      of_map Q (reach_x Output reserve (corridor_of b Input m.edge)) (first_x (route_of b routes m)) (of_first Q (route_of b routes m) (route_fine m))
      (λ x s. of_raised Q (x ⊕ reserve) (corridor_of b Input m.edge) (traits.plus x reserve traits.reserve_fits s) (traits.corridor Input m.edge))

  reach_all_fine : (role : Role) (o : Bound) (ms : List Member) → OfBound Q o → OfBound Q (reach_all b routes role o ms)
  unfolding reach_all
  reach_all_fine role o [] s = s
  reach_all_fine role o (m ∷ ms) s = go (reach b routes role m) (reach_fine role m) (λ x t. reach_all_fine role (At (tighter role o x)) ms (of_tighter Q role o x s t))
    where
      go : (r : Bound) → OfBound Q r → ((x : Float) → Q x → OfBound Q (reach_all b routes role (At (tighter role o x)) ms)) → OfBound Q (if_at r None (λ x. reach_all b routes role (At (tighter role o x)) ms))
      go None s f = tt
      go (At x) s f = f x s

  abbrev FineBounds : Option Bounds → Type 0
  FineBounds option.None = Unit {0}
  FineBounds (option.Some r) = OfBounds Q r

  crossed_fine : (low d high : Float) → Q low → Q d → Q high → FineBounds (unless_crossed low d high)
  crossed_fine low d high s t w = go (lt high low)
    where
      go : (k : Bool) → FineBounds (cond k option.None (option.Some (record { minimum = low; desired = clamped d low high; maximum = high })))
      go true = tt
      go false = (s, of_clamped Q d low high t s w, w)

  between_fine : (u : Bundle) (lower upper : Bound) (role : Role) (d : Float) → OfBound Q lower → OfBound Q upper → Q d → FineBounds (between b u lower upper role d)
  between_fine u lower upper Input d l h s =
      let x = (endpoint_of b u).x in
      let low = x ⊕ rail_depth b.options ⊕ pitch_of b u in
      crossed_fine (raised low lower) d (lowered d upper)
      (of_raised Q low lower (traits.plus (x ⊕ rail_depth b.options) (pitch_of b u) traits.pitch_fits (traits.plus x (rail_depth b.options) traits.rail_fits (traits.end u))) l) s (of_lowered Q d upper s h)
  between_fine u lower upper Output d l h s =
      let x = (endpoint_of b u).x in
      let high = x ⊖ rail_depth b.options ⊖ pitch_of b u in
      crossed_fine (raised d lower) d (lowered high upper) (of_raised Q d lower s l) s
      (of_lowered Q high upper (traits.minus (x ⊖ rail_depth b.options) (pitch_of b u) traits.pitch_fits (traits.minus x (rail_depth b.options) traits.rail_fits (traits.end u))) h)

  bounds_fine : (u : Bundle) (lower upper : Bound) → OfBound Q lower → OfBound Q upper → FineBounds (bounds_of b routes u lower upper)
  unfolding bounds_of
  bounds_fine u lower upper l h = go (leb u.width 1) (leb u.count 1) (reach_all b routes u.role None (members_in b u)) (reach_all_fine u.role None (members_in b u) tt)
    where
      go : (s t : Bool) (r : Bound) → OfBound Q r → FineBounds (cond s option.None (cond t option.None (if_at r option.None (between b u lower upper u.role))))
      go true t r k = tt
      go false true r k = tt
      go false false None k = tt
      go false false (At d) k = between_fine u lower upper u.role d l h k

  -- bounds that are present are those of a bundle with more than one member
  bounds_count : (u : Bundle) (lower upper : Bound) (r : Bounds) → bounds_of b routes u lower upper ≡ option.Some r → 1 < u.count
  unfolding bounds_of
  bounds_count u lower upper r e = go (leb u.width 1) (leb u.count 1) refl (if_at (reach_all b routes u.role None (members_in b u)) option.None (between b u lower upper u.role)) e
    where
      go : (s t : Bool) → leb u.count 1 ≡ t → (c : Option Bounds) → cond s option.None (cond t option.None c) ≡ option.Some r → 1 < u.count
      go true t f c e = let z : ◌≡◌ {A = ℕ} 0 1 = cc in absurd (omega arith)
      go false true f c e = let z : ◌≡◌ {A = ℕ} 0 1 = cc in absurd (omega arith)
      go false false f c e = omega (arith, leb-false)

  seek_fine : (u : Bundle) (lower upper : Bound) (v : ℕ) → Windowed b u → OfBound Q lower → OfBound Q upper → OfBound P (found_x (seek look b routes u lower upper v).outcome)
  seek_fine u lower upper v w l h = go (bounds_of b routes u lower upper) refl (bounds_fine u lower upper l h)
    where
      go : (c : Option Bounds) → bounds_of b routes u lower upper ≡ c → FineBounds c → OfBound P (found_x (seek_in look b routes u c v).outcome)
      go option.None e f = tt
      go (option.Some r) e f = traits.found u r v w (bounds_count u lower upper r e) f

  -- ---- the first pass
  -- a bundle of the board, and its bounds, if present, those of a bundle with more than one member
  pub record Fine (s : Ranged) : Type 0 where
    pub windowed : Windowed b s.bundle
    pub counted : found? s.bounds ≡ true → 1 < s.bundle.count
    pub bounded : FineBounds s.bounds
    pub placed : OfBound P (initial_x s)

  ranged_fine : (u : Bundle) (v : ℕ) → Windowed b u → Fine (ranged u (bounds_of b routes u None None) (seek look b routes u None None v).outcome)
  ranged_fine u v w = go (bounds_of b routes u None None) refl (bounds_fine u None None tt tt)
    where
      at : (r : Bounds) (o : Outcome) → 1 < u.count → OfBounds Q r → OfBound P (found_x o) → Fine (ranged u (option.Some r) o)
      at r (outcome.Found x) h f s = record { windowed = w; counted = λ e. h; bounded = (f.0, traits.weaker x s, f.2); placed = s }
      at r outcome.Nothing h f s = record { windowed = w; counted = λ e. h; bounded = tt; placed = tt }
      at r outcome.Spent h f s = record { windowed = w; counted = λ e. h; bounded = tt; placed = tt }

      go : (c : Option Bounds) → bounds_of b routes u None None ≡ c → FineBounds c → Fine (ranged u c (seek_in look b routes u c v).outcome)
      go option.None e f = record { windowed = w; counted = λ z. absurd (true≢false (sym z)); bounded = tt; placed = tt }
      go (option.Some r) e f =
          let h = bounds_count u None None r e in
          at r (look u.role r (trunks b routes u) v).outcome h f (traits.found u r v w h f)

  first_pass_fine : (us : List Bundle) (v : ℕ) → Every (Windowed b) us → Every Fine (first_pass look b routes us v).ranges
  unfolding first_pass
  first_pass_fine [] v w = tt
  first_pass_fine (u ∷ us) v w = (ranged_fine u v w.0, first_pass_fine us (seek look b routes u None None v).left.0 w.1)

  first_pass_length : (us : List Bundle) (v : ℕ) → length (first_pass look b routes us v).ranges ≡ length us
  unfolding first_pass
  first_pass_length [] v = refl
  first_pass_length (u ∷ us) v = ap suc (first_pass_length us (seek look b routes u None None v).left.0)

  -- ---- what every step keeps: so many x, and P of each
  abbrev Shape : ℕ → List Bound → Type 0
  Shape n xs = Every (OfBound P) xs × (length xs ≡ n)

  every_set : (xs : List Bound) (i : ℕ) (x : Bound) → OfBound P x → Every (OfBound P) xs → Every (OfBound P) (set xs i x)
  every_set [] i x s e = tt
  every_set (y ∷ ys) zero x s e = (s, e.1)
  every_set (y ∷ ys) (suc i) x s e = (e.0, every_set ys i x s e.1)

  set_length : (xs : List Bound) (i : ℕ) (x : Bound) → length (set xs i x) ≡ length xs
  set_length [] i x = refl
  set_length (y ∷ ys) zero x = refl
  set_length (y ∷ ys) (suc i) x = ap suc (set_length ys i x)

  shape_set : (n : ℕ) (xs : List Bound) (i : ℕ) (x : Bound) → OfBound P x → Shape n xs → Shape n (set xs i x)
  shape_set n xs i x s h = (every_set xs i x s h.0, set_length xs i x ∙ h.1)

  drop_shape : (n : ℕ) (is : List ℕ) (xs : List Bound) → Shape n xs → Shape n (drop_all is xs)
  unfolding drop_all
  drop_shape n [] xs h = h
  drop_shape n (i ∷ is) xs h = drop_shape n is (set xs i None) (shape_set n xs i None tt h)

  at_fine : (xs : List Bound) (i : ℕ) → Every (OfBound P) xs → OfBound Q (get_or xs i None)
  at_fine xs i e = weaken (get_or xs i None) (every_get_d (OfBound P) xs None i e tt)

  abbrev ShapeStep : ℕ → Step → Type 0
  ShapeStep n (going p) = Shape n p.xs
  ShapeStep n (refused v) = Unit {0}

  then_shape : (n : ℕ) (s : Step) (g : Plan → Step) → ShapeStep n s → ((p : Plan) → Shape n p.xs → ShapeStep n (g p)) → ShapeStep n (then s g)
  then_shape n (going p) g h k = k p h
  then_shape n (refused v) g h k = tt

  -- ---- what the inputs ask of the outputs
  divergence_fine : (u : Bundle) (x : Float) (d : Bound) (ms : List Member) → OfBound Q d → OfBound Q (divergence b routes u x d ms)
  unfolding divergence
  divergence_fine u x d [] s = s
  divergence_fine u x d (m ∷ ms) s =
      go (diverges_at u.role (pitch_of b u) x (route_of b routes m)) (of_diverges Q u.role (pitch_of b u) x (route_of b routes m) (route_fine m)) (λ e t. divergence_fine u x (further d e) ms (of_further Q d e s t))
    where
      go : (o : Bound) → OfBound Q o → ((e : Float) → Q e → OfBound Q (divergence b routes u x (further d e) ms)) → OfBound Q (if_at o None (λ e. divergence b routes u x (further d e) ms))
      go None t f = tt
      go (At e) t f = f e t

  asked_fine : (u : Bundle) (x : Bound) → OfBound Q x → OfBound Q (asked b routes u x)
  asked_fine u None s = tt
  asked_fine u (At c) s = go (divergence b routes u c None (members_in b u)) (divergence_fine u c None (members_in b u) tt)
    where
      go : (o : Bound) → OfBound Q o → OfBound Q (if_at o None (λ d. At (greatest (c ⊕ parting_pitch b) (d ⊕ parting_pitch b))))
      go None t = tt
      go (At d) t = of_greatest Q (c ⊕ parting_pitch b) (d ⊕ parting_pitch b) (traits.plus c (parting_pitch b) traits.pitch_fits s) (traits.plus d (parting_pitch b) traits.pitch_fits t)

  required_fine : (ranges : List Ranged) (xs : List Bound) (r : Bound) (is : List ℕ) → Every (OfBound P) xs → OfBound Q r → OfBound Q (required b routes ranges xs r is)
  unfolding required
  required_fine ranges xs r [] e s = s
  required_fine ranges xs r (i ∷ is) e s =
      let o = asked b routes (ranged_at ranges i).bundle (get_or xs i None) in
      required_fine ranges xs (if_at o r (further r)) is e (go o (asked_fine (ranged_at ranges i).bundle (get_or xs i None) (at_fine xs i e)))
    where
      go : (o : Bound) → OfBound Q o → OfBound Q (if_at o r (further r))
      go None t = s
      go (At x) t = of_further Q r x s t

  limit_fine : (limit : Float) (x : Bound) → Q limit → OfBound Q x → OfBound Q (input_limit (parting_pitch b) limit x)
  limit_fine limit None l s = of_least Q limit (limit ⊖ parting_pitch b) l (traits.minus limit (parting_pitch b) traits.pitch_fits l)
  limit_fine limit (At y) l s = of_least Q y (limit ⊖ parting_pitch b) s (traits.minus limit (parting_pitch b) traits.pitch_fits l)

  split_fine : (low limit deepest earliest : Float) → Q low → Q limit → Q earliest → Q (input_split (parting_pitch b) low limit deepest earliest)
  split_fine low limit deepest earliest s t w =
      let a = earliest ⊖ parting_pitch b in
      of_clamped Q (middle deepest a) low (limit ⊖ parting_pitch b) (traits.plus a (Ieee.div binary64 (deepest ⊖ a) (number 2)) (div-fits binary64 (deepest ⊖ a) (number 2)) (traits.minus earliest (parting_pitch b) traits.pitch_fits w)) s
      (traits.minus limit (parting_pitch b) traits.pitch_fits t)

  -- ---- one component
  module _ (ranges : List Ranged) (fine : Every Fine ranges) (n : ℕ) where
    none_fine : Fine no_ranged
    none_fine = record { windowed = omega arith; counted = λ e. absurd (true≢false (sym e)); bounded = tt; placed = tt }

    fine_at : (i : ℕ) → Fine (ranged_at ranges i)
    unfolding none_fine
    fine_at i = every_get_d Fine ranges no_ranged i fine none_fine

    number_fine : (i : ℕ) (f : Bounds → Float) → ((r : Bounds) → OfBounds Q r → Q (f r)) → Q (if_between (ranged_at ranges i).bounds zero64 f)
    number_fine i f g = go (ranged_at ranges i).bounds (fine_at i).bounded
      where
        go : (c : Option Bounds) → FineBounds c → Q (if_between c zero64 f)
        go option.None s = traits.none
        go (option.Some r) s = g r s

    again_shape : (lower upper : Bound → Bound) → ((x : Bound) → OfBound Q x → OfBound Q (lower x)) → ((x : Bound) → OfBound Q x → OfBound Q (upper x)) → (is : List ℕ) (p : Plan) → Shape n p.xs
        → Shape n (again look b routes ranges lower upper is p).xs
    unfolding again
    again_shape lower upper f g [] p h = h
    again_shape lower upper f g (i ∷ is) p h =
        let x = get_or p.xs i None in
        let q : OfBound Q x = at_fine p.xs i h.0 in
        let s = seek look b routes (ranged_at ranges i).bundle (lower x) (upper x) p.left in
        again_shape lower upper f g is (record { xs = set p.xs i (found_x s.outcome); left = s.left.0 })
        (shape_set n p.xs i (found_x s.outcome) (seek_fine (ranged_at ranges i).bundle (lower x) (upper x) p.left (fine_at i).windowed (f x q) (g x q)) h)

    limited_shape : (limit : Float) (inputs : List ℕ) (p : Plan) → Q limit → Shape n p.xs → Shape n (limited look b routes ranges limit inputs p).xs
    limited_shape limit inputs p l h = go (exceeds (required b routes ranges p.xs None inputs) limit)
      where
        go : (t : Bool) → Shape n (cond t (again look b routes ranges (λ x. None) (input_limit (parting_pitch b) limit) inputs p) p).xs
        go true = again_shape (λ x. None) (input_limit (parting_pitch b) limit) (λ x s. tt) (λ x s. limit_fine limit x l s) inputs p h
        go false = h

    last_shape : (limit : Float) (inputs outputs : List ℕ) (p : Plan) → Q limit → Shape n p.xs → Shape n (outputs_last look b routes ranges inputs outputs (limited look b routes ranges limit inputs p)).xs
    last_shape limit inputs outputs p l h =
        let q = limited look b routes ranges limit inputs p in
        let k = limited_shape limit inputs p l h in
        again_shape (λ x. required b routes ranges q.xs None inputs) (λ x. None) (λ x s. required_fine ranges q.xs None inputs k.0 tt) (λ x s. tt) outputs q k

    split_shape : (low limit deepest earliest : Float) (inputs : List ℕ) (p : Plan) → Q low → Q limit → Q earliest → Shape n p.xs → ShapeStep n (split look b routes ranges low limit deepest earliest inputs p)
    split_shape low limit deepest earliest inputs p s t w h = go (Ieee.lt earliest (deepest ⊕ parting_pitch b)) (Ieee.lt (limit ⊖ parting_pitch b) low)
      where
        go : (j k : Bool) → ShapeStep n (cond j (cond k (refused p.left) (going (again look b routes ranges (λ x. None) (λ x. At (input_split (parting_pitch b) low limit deepest earliest)) inputs p))) (going p))
        go true true = tt
        go true false = again_shape (λ x. None) (λ x. At (input_split (parting_pitch b) low limit deepest earliest)) (λ x z. tt) (λ x z. split_fine low limit deepest earliest s t w) inputs p h
        go false k = h

    settle_shape : (order : List ℕ) (low limit deepest earliest : Float) (inputs outputs : List ℕ) (p : Plan) → Q low → Q limit → Q earliest → Shape n p.xs
        → ShapeStep n (settle look b routes ranges order low limit deepest earliest inputs outputs p)
    settle_shape order low limit deepest earliest inputs outputs p s t w h = go (Ieee.lt limit (low ⊕ parting_pitch b))
      where
        last : Plan → Step
        last q = going (outputs_last look b routes ranges inputs outputs (limited look b routes ranges limit inputs q))

        go : (k : Bool) → ShapeStep n (cond k (going (record { xs = drop_all order p.xs; left = p.left })) (then (split look b routes ranges low limit deepest earliest inputs p) last))
        go true = drop_shape n order p.xs h
        go false = then_shape n (split look b routes ranges low limit deepest earliest inputs p) last (split_shape low limit deepest earliest inputs p s t w h) (λ q k. last_shape limit inputs outputs q t k)

    treat_shape : (order inputs outputs : List ℕ) (p : Plan) → Shape n p.xs → ShapeStep n (treat look b routes ranges order inputs outputs p)
    treat_shape order [] outputs p h = h
    treat_shape order (i ∷ is) [] p h = h
    treat_shape order (i ∷ is) (o ∷ os) p h =
        let minimum : (j : ℕ) → Q (minimum_at ranges j) = λ j. number_fine j (λ r. r.minimum) (λ r s. s.0) in
        let desired : (j : ℕ) → Q (desired_at ranges j) = λ j. number_fine j (λ r. r.desired) (λ r s. s.1) in
        let maximum : (j : ℕ) → Q (maximum_at ranges j) = λ j. number_fine j (λ r. r.maximum) (λ r s. s.2) in
        settle_shape order (largest (minimum_at ranges) (minimum_at ranges i) is) (smallest (maximum_at ranges) (maximum_at ranges o) os)
        (largest (desired_at ranges) (desired_at ranges i) is) (smallest (desired_at ranges) (desired_at ranges o) os) (i ∷ is) (o ∷ os) p
        (of_largest Q (minimum_at ranges) (minimum_at ranges i) is (minimum i) minimum) (of_smallest Q (maximum_at ranges) (maximum_at ranges o) os (maximum o) maximum)
        (of_smallest Q (desired_at ranges) (desired_at ranges o) os (desired o) desired) h

    components_shape : (is : List ℕ) (seen : List Bool) (p : Plan) → Shape n p.xs → ShapeStep n (components look b routes ranges is seen p)
    unfolding components
    components_shape [] seen p h = h
    components_shape (i ∷ is) seen p h =
        let c = component_of b routes ranges i seen in
        go (get_or seen i true || not (found? (ranged_at ranges i).bounds)) (components look b routes ranges is seen p) (then (treated look b routes ranges c.order p) (components look b routes ranges is c.seen))
        (components_shape is seen p h)
        (then_shape n (treated look b routes ranges c.order p) (components look b routes ranges is c.seen) (treat_shape c.order (of_role Input ranges c.order) (of_role Output ranges c.order) p h) (components_shape is c.seen))
      where
        go : (t : Bool) (s u : Step) → ShapeStep n s → ShapeStep n u → ShapeStep n (cond t s u)
        go true s u h k = h
        go false s u h k = k

  -- ---- the separation
  abbrev FineLanes : Lanes → Type 0
  FineLanes l = Every Q l.input × Every Q l.output

  lanes_fine : (role : Role) (l : Lanes) → FineLanes l → Every Q (lanes_of role l)
  lanes_fine Input l h = h.0
  lanes_fine Output l h = h.1

  add_fine : (role : Role) (x : Bound) (l : Lanes) → OfBound P x → FineLanes l → FineLanes (add_lane role x l)
  add_fine role None l s h = h
  add_fine Input (At x) l s h = (every_last Q x l.input h.0 (traits.weaker x s), h.1)
  add_fine Output (At x) l s h = (h.0, every_last Q x l.output h.1 (traits.weaker x s))

  moved_fine : (pitch : Float) (role : Role) (r : Bounds) (x : Float) (ys : List Float) → T (fits binary64 pitch) → OfBounds Q r → Q x → Every Q ys → Q (moved pitch role r x ys)
  moved_fine pitch Input r x ys k f s e = of_clamped Q (smallest_of x ys ⊖ pitch) r.minimum r.maximum (traits.minus (smallest_of x ys) pitch k (of_smallest_of Q x ys s e)) f.0 f.2
  moved_fine pitch Output r x ys k f s e = of_clamped Q (largest_of x ys ⊕ pitch) r.minimum r.maximum (traits.plus (largest_of x ys) pitch k (of_largest_of Q x ys s e)) f.0 f.2

  cut_fine : (role : Role) (r : Bounds) (d : Float) → OfBounds Q r → Q d → OfBounds Q (cut_to role r d)
  cut_fine Input r d f s = (f.0, s, s)
  cut_fine Output r d f s = (s, s, f.2)

  beside_fine : (s : Ranged) (x : Bound) (ys : List Float) (v : ℕ) → Fine s → OfBound P x → Every Q ys → OfBound P (found_x (beside look b routes s x ys v).outcome)
  beside_fine s None ys v o h e = tt
  beside_fine s (At x) ys v o h e = go (clear (pitch_of b s.bundle) x ys)
    where
      at : (c : Option Bounds) → (found? c ≡ true → 1 < s.bundle.count) → FineBounds c
          → OfBound P (found_x (if_between c (answer outcome.Nothing v) (λ r. look s.bundle.role (cut_to s.bundle.role r (moved (pitch_of b s.bundle) s.bundle.role r x ys)) (trunks b routes s.bundle) v)).outcome)
      at option.None f g = tt
      at (option.Some r) f g =
          let d = moved (pitch_of b s.bundle) s.bundle.role r x ys in
          traits.found s.bundle (cut_to s.bundle.role r d) v o.windowed (f refl) (cut_fine s.bundle.role r d g (moved_fine (pitch_of b s.bundle) s.bundle.role r x ys traits.pitch_fits g (traits.weaker x h) e))

      go : (t : Bool) → OfBound P (found_x (cond t (answer (outcome.Found x) v) (look_beside look b routes s x ys v)).outcome)
      go true = h
      go false = at s.bounds o.counted o.bounded

  clear_fine : (pitch : Float) (x : Bound) (ys : List Float) → OfBound P x → OfBound P (if_clear pitch x ys)
  clear_fine pitch None ys h = tt
  clear_fine pitch (At x) ys h = go (clear pitch x ys)
    where
      go : (t : Bool) → OfBound P (cond t (At x) None)
      go true = h
      go false = tt

  separated_shape : (ss : List Ranged) (xs : List Bound) (l : Lanes) (v : ℕ) → length xs ≡ length ss → Every Fine ss → Every (OfBound P) xs → FineLanes l → Shape (length ss) (separated look b routes ss xs l v).xs
  unfolding separated
  separated_shape [] xs l v e o h f = (tt, refl)
  separated_shape (s ∷ ss) [] l v e o h f = absurd (omega (arith, e))
  separated_shape (s ∷ ss) (x ∷ xs) l v e o h f =
      let role = s.bundle.role in
      let ys = lanes_of role l in
      let t = beside look b routes s x ys v in
      let y = if_clear (pitch_of b s.bundle) (found_x t.outcome) ys in
      let p : OfBound P y = clear_fine (pitch_of b s.bundle) (found_x t.outcome) ys (beside_fine s x ys v o.0 h.0 (lanes_fine role l f)) in
      let r = separated_shape ss xs (add_lane role y l) t.left.0 (omega (arith, e)) o.1 h.1 (add_fine role y l p f) in
      ((p, r.0), ap suc r.1)

  -- ---- the whole plan
  initial_shape : (ss : List Ranged) → Every Fine ss → Shape (length ss) (map initial_x ss)
  initial_shape [] e = (tt, refl)
  initial_shape (s ∷ ss) e = let r = initial_shape ss e.1 in ((e.0.placed, r.0), ap suc r.1)

  pub carried : (separate : Bool) (v : ℕ) → Every (Windowed b) b.bundles → (p : Plan) → plan_with look b routes separate v ≡ going p → Every (OfBound P) p.xs × (length p.xs ≡ length b.bundles)
  carried separate v w p e =
      let f = first_pass look b routes b.bundles v in
      let ok = first_pass_fine b.bundles v w in
      let l = first_pass_length b.bundles v in
      let whole : ShapeStep (length f.ranges) (plan_with look b routes separate v) =
      then_shape (length f.ranges) (components look b routes f.ranges (indices_from 0 f.ranges) (replicate (length f.ranges) false) (record { xs = map initial_x f.ranges; left = f.left }))
      (separated_if look b routes separate f.ranges)
      (components_shape f.ranges ok (length f.ranges) (indices_from 0 f.ranges) (replicate (length f.ranges) false) (record { xs = map initial_x f.ranges; left = f.left }) (initial_shape f.ranges ok))
      (λ q h. split_off separate f.ranges ok q h) in
      let r = subst (ShapeStep (length f.ranges)) e whole in
      (r.0, r.1 ∙ l)
    where
      split_off : (t : Bool) (ss : List Ranged) → Every Fine ss → (q : Plan) → Shape (length ss) q.xs → ShapeStep (length ss) (separated_if look b routes t ss q)
      split_off false ss o q h = h
      split_off true ss o q h = separated_shape ss q.xs (record { input = []; output = [] }) q.left h.1 o h.0 (tt, tt)
