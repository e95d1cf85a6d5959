-- The bounds and the stretches of binary64 on a board of the grid are those in whole numbers, and what a search finds is in range.
-- Assumes nothing.
use Rattle.std.proofs.Math.Path.{◌≡◌, refl, ap}
use Rattle.std.proofs.Common.{sym, ◌∙◌, subst, true≢false, leb-false}
use Prim.Native.Nat.{ℕ, zero, suc, ◌+◌, ◌^◌, ◌≤◌, ◌<◌}
use native.Mathlib.Omega.{arith}
use Rattle.std.specs.Prelude.{Bool, not, ◌&&◌, take, drop, Float, Option, Some, None}
use Rattle.std.proofs.Math.Bool.{true, false, cond}
use mathlib.Core.List.{List, [], ◌∷◌, map}
use lib.IntN.{ℤ, pos, nat_abs, ◌+ℤ◌, ◌-ℤ◌}
use lib.Dec.{T, leb, leb→le}
use Rattle.std.proofs.Math.ListN.{length, get_or-map}
use Rattle.std.specs.Float.{binary64}
use Rattle.std.specs.Float.Ieee.{add, sub}
use Rattle.std.specs.Float.Ieee.Fits.{and_l, and_r}
use Rattle.geometry.specs.declared.Point.{Point}
use Rattle.geometry.specs.declared.Role.{Role}
use Rattle.geometry.specs.declared.Role.TheVariants.{Input, Output}
use Rattle.geometry.specs.Points.{Route}
use Rattle.board.specs.declared.Bundle.{Bundle}
use Rattle.board.specs.declared.Member.{Member}
use Rattle.board.specs.Board.{rail_depth}
use Rattle.search.specs.Stretches as T
use Rattle.plan.specs.declared.Bound.{Bound}
use Rattle.plan.specs.declared.Bound.TheVariants as bounded
use Rattle.plan.specs.Depths as L
use Rattle.plan.specs.Bounds as M
use Rattle.grid_plan.specs.Board as Z
use Rattle.grid_plan.specs.Depths as D
use Rattle.grid_plan.specs.Search as S
use Rattle.grid_plan.specs.Bounds as B
use Rattle.grid_plan.specs.Plan as P
use Rattle.grid_plan.proofs.Sized.{wider, sized_add, sized_sub}
use Rattle.grid_plan.specs.Image.{board, route, bound, collector, stretch}
use Rattle.grid_plan.proofs.Searching.{Suits, members_on, OfStretch}
use Rattle.grid_plan.proofs.Deep.{inward_on, pitch_on, pitch_sized, pitch_length, rail_on, rail_sized, endpoint_on, endpoint_sized, corridor_on, corridor_sized}
use Rattle.binary64.specs.Rational.{plus, less}
use Rattle.binary64.specs.Integers.{abs_parts, sub_parts_ℤ, add_parts}
use Rattle.sorting.specs.Sorted.{every_get_d}
use Rattle.sorting.specs.Lists.{Every}
use Rattle.grid.specs.On.{on, at_most, same}
use Rattle.grid.proofs.Operations.{add_on, sub_on}
use Rattle.grid_plan.proofs.BoundSteps.{found_held}
use Rattle.grid_plan.proofs.BoundSteps.{Holding, OfCollector, first_x_of, first_x_on, last_x_of, last_x_on, lowered_of, lowered_on, raised_of, raised_on, tighter_of, tighter_on, unless_crossed_of, unless_crossed_on}
use Rattle.grid_plan.specs.Sizes.{Sized, Job, Fit, OfOption}
use Rattle.grid_plan.specs.OnGrid.{OnDraftingGrid}

-- ---- a stretch holds only what lies between the ends of its run
between_sizes : (a b x : ℤ) (n : ℕ) → nat_abs a ≤ n → nat_abs b ≤ n → T (at_most a x) → T (at_most x b) → nat_abs x ≤ n
between_sizes a b x n A B h k =
    let p = leb→le (plus a + less x) (plus x + less a) h in
    let q = leb→le (plus x + less b) (plus b + less x) k in
    go a b x n (abs_parts a) (abs_parts b) A B p q
  where
    go : (a b x : ℤ) (n : ℕ) → nat_abs a ≡ plus a + less a → nat_abs b ≡ plus b + less b → nat_abs a ≤ n → nat_abs b ≤ n → plus a + less x ≤ plus x + less a → plus x + less b ≤ plus b + less x → nat_abs x ≤ n
    go a b (lib.IntN.pos x) n ea eb A B p q = omega arith
    go a b (lib.IntN.negsuc x) n ea eb A B p q = omega arith

module _ (b : Z.Board) (routes : List Z.Route) (good : OnDraftingGrid b routes) where
  pub route_on : (m : Member) → M.route_of (board b) (map route routes) m ≡ route (B.route_of b routes m)
  route_on m = get_or-map route routes m.edge []

  pub route_job : (m : Member) → Every (λ (p : Z.Point). Job p.x × Job p.y) (B.route_of b routes m)
  route_job m = every_get_d (Every (λ (p : Z.Point). Job p.x × Job p.y)) routes [] m.edge good.points tt

  -- ---- interior_collector_bounds
  sub_reserve : (x : ℤ) → Job x → sub binary64 (on x) (on b.options.reserve) ≡ on (x -ℤ b.options.reserve)
  sub_reserve x s = sub_on x b.options.reserve (let p = s.size in let q = good.reserve.0.size in omega arith)

  add_reserve : (x : ℤ) → Job x → add binary64 (on x) (on b.options.reserve) ≡ on (x +ℤ b.options.reserve)
  add_reserve x s = add_on x b.options.reserve (let p = s.size in let q = good.reserve.0.size in omega arith)

  x_jobs : (m : Member) → Every (λ (p : Z.Point). Job p.x) (B.route_of b routes m)
  x_jobs m = go (B.route_of b routes m) (route_job m)
    where
      go : (r : Z.Route) → Every (λ (p : Z.Point). Job p.x × Job p.y) r → Every (λ (p : Z.Point). Job p.x) r
      go [] h = tt
      go (p ∷ r) h = (h.0.0, go r h.1)

  pub reach_on : (role : Role) (m : Member) → M.reach (board b) (map route routes) role m ≡ bound (B.reach b routes role m)
  reach_on Input m =
      ap (λ (r : Route). M.map_bound (M.reach_x Input (on b.options.reserve) (L.corridor_of (board b) Output m.edge)) (M.last_x r)) (route_on m)
      ∙ ap (λ (o : Bound). M.map_bound (M.reach_x Input (on b.options.reserve) o) (M.last_x (route (B.route_of b routes m)))) (corridor_on b routes good Output m.edge)
      ∙ ap (M.map_bound (M.reach_x Input (on b.options.reserve) (bound (D.corridor_of b Output m.edge)))) (last_x_on (B.route_of b routes m))
      ∙ go (B.last_x (B.route_of b routes m)) (last_x_of Job (B.route_of b routes m) (x_jobs m))
    where
      go : (o : Option ℤ) → OfOption Job o → M.map_bound (M.reach_x Input (on b.options.reserve) (bound (D.corridor_of b Output m.edge))) (bound o) ≡ bound (B.map_bound (B.reach_x Input b.options.reserve (D.corridor_of b Output m.edge)) o)
      go None s = refl
      go (Some x) s = ap bounded.At (ap (λ (z : Float). M.lowered z (bound (D.corridor_of b Output m.edge))) (sub_reserve x s) ∙ lowered_on (x -ℤ b.options.reserve) (D.corridor_of b Output m.edge))
  reach_on Output m =
      ap (λ (r : Route). M.map_bound (M.reach_x Output (on b.options.reserve) (L.corridor_of (board b) Input m.edge)) (M.first_x r)) (route_on m)
      ∙ ap (λ (o : Bound). M.map_bound (M.reach_x Output (on b.options.reserve) o) (M.first_x (route (B.route_of b routes m)))) (corridor_on b routes good Input m.edge)
      ∙ ap (M.map_bound (M.reach_x Output (on b.options.reserve) (bound (D.corridor_of b Input m.edge)))) (first_x_on (B.route_of b routes m))
      ∙ go (B.first_x (B.route_of b routes m)) (first_x_of Job (B.route_of b routes m) (x_jobs m))
    where
      go : (o : Option ℤ) → OfOption Job o → M.map_bound (M.reach_x Output (on b.options.reserve) (bound (D.corridor_of b Input m.edge))) (bound o) ≡ bound (B.map_bound (B.reach_x Output b.options.reserve (D.corridor_of b Input m.edge)) o)
      go None s = refl
      go (Some x) s = ap bounded.At (ap (λ (z : Float). M.raised z (bound (D.corridor_of b Input m.edge))) (add_reserve x s) ∙ raised_on (x +ℤ b.options.reserve) (D.corridor_of b Input m.edge))

  reach_sized : (role : Role) (m : Member) → OfOption (Sized (2 ^ 45)) (B.reach b routes role m)
  reach_sized Input m = go (B.last_x (B.route_of b routes m)) (last_x_of Job (B.route_of b routes m) (x_jobs m))
    where
      go : (o : Option ℤ) → OfOption Job o → OfOption (Sized (2 ^ 45)) (B.map_bound (B.reach_x Input b.options.reserve (D.corridor_of b Output m.edge)) o)
      go None s = tt
      go (Some x) s = lowered_of (Sized (2 ^ 45)) (x -ℤ b.options.reserve) (D.corridor_of b Output m.edge) (wider (omega arith) (sized_sub x b.options.reserve s good.reserve.0)) (corridor_sized b routes good Output m.edge)
  reach_sized Output m = go (B.first_x (B.route_of b routes m)) (first_x_of Job (B.route_of b routes m) (x_jobs m))
    where
      go : (o : Option ℤ) → OfOption Job o → OfOption (Sized (2 ^ 45)) (B.map_bound (B.reach_x Output b.options.reserve (D.corridor_of b Input m.edge)) o)
      go None s = tt
      go (Some x) s = raised_of (Sized (2 ^ 45)) (x +ℤ b.options.reserve) (D.corridor_of b Input m.edge) (wider (omega arith) (sized_add x b.options.reserve s good.reserve.0)) (corridor_sized b routes good Input m.edge)

  reach_all_on : (role : Role) (d : Option ℤ) (ms : List Member) → M.reach_all (board b) (map route routes) role (bound d) ms ≡ bound (B.reach_all b routes role d ms)
  unfolding M.reach_all B.reach_all
  reach_all_on role d [] = refl
  reach_all_on role d (m ∷ ms) =
      ap (λ (o : Bound). M.if_at o bounded.None (λ x. M.reach_all (board b) (map route routes) role (bounded.At (M.tighter role (bound d) x)) ms)) (reach_on role m)
      ∙ go (λ (x : ℤ). ap (λ (z : Float). M.reach_all (board b) (map route routes) role (bounded.At z) ms) (tighter_on role d x) ∙ reach_all_on role (Some (B.tighter role d x)) ms) (B.reach b routes role m)
    where
      go : ((x : ℤ) → M.reach_all (board b) (map route routes) role (bounded.At (M.tighter role (bound d) (on x))) ms ≡ bound (B.reach_all b routes role (Some (B.tighter role d x)) ms)) → (o : Option ℤ)
          → M.if_at (bound o) bounded.None (λ x. M.reach_all (board b) (map route routes) role (bounded.At (M.tighter role (bound d) x)) ms) ≡ bound (B.if_at o None (λ x. B.reach_all b routes role (Some (B.tighter role d x)) ms))
      go f None = refl
      go f (Some x) = f x

  reach_all_sized : (role : Role) (d : Option ℤ) (ms : List Member) → OfOption (Sized (2 ^ 45)) d → OfOption (Sized (2 ^ 45)) (B.reach_all b routes role d ms)
  unfolding B.reach_all
  reach_all_sized role d [] s = s
  reach_all_sized role d (m ∷ ms) s =
      go (λ (x : ℤ) (t : Sized (2 ^ 45) x). reach_all_sized role (Some (B.tighter role d x)) ms (tighter_of (Sized (2 ^ 45)) role d x s t)) (B.reach b routes role m) (reach_sized role m)
    where
      go : ((x : ℤ) → Sized (2 ^ 45) x → OfOption (Sized (2 ^ 45)) (B.reach_all b routes role (Some (B.tighter role d x)) ms)) → (o : Option ℤ) → OfOption (Sized (2 ^ 45)) o
          → OfOption (Sized (2 ^ 45)) (B.if_at o None (λ x. B.reach_all b routes role (Some (B.tighter role d x)) ms))
      go f None t = tt
      go f (Some x) t = f x t

  -- the port's side of a bundle: endpoint, rail and pitch
  pub inner_on : (role : Role) (u : Bundle) → L.inward role (L.inward role (L.endpoint_of (board b) u).x (rail_depth (board b).options)) (L.parting_pitch (board b)) ≡ on (Z.inward role (Z.inward role (Z.endpoint_of b u).x (Z.rail_depth b.options)) (Z.parting_pitch b))
  inner_on role u =
      let e = (Z.endpoint_of b u).x in
      let rail = Z.rail_depth b.options in
      ap (λ (p : Point). L.inward role (L.inward role p.x (rail_depth (board b).options)) (L.parting_pitch (board b))) (endpoint_on b routes good u)
      ∙ ap (λ (p : Float). L.inward role (L.inward role (on e) p) (L.parting_pitch (board b))) (rail_on b routes good)
      ∙ ap (λ (p : Float). L.inward role p (L.parting_pitch (board b))) (inward_on role e rail (omega arith) (endpoint_sized b routes good u).0 (rail_sized b routes good))
      ∙ ap (L.inward role (on (Z.inward role e rail))) (pitch_on b routes good)
      ∙ inward_on role (Z.inward role e rail) (Z.parting_pitch b) (omega arith) (inner role e rail) (pitch_sized b routes good)
    where
      inner : (role : Role) (e rail : ℤ) → Sized (2 ^ 29) (Z.inward role (Z.endpoint_of b u).x (Z.rail_depth b.options))
      inner Input e rail = wider (omega arith) (sized_add (Z.endpoint_of b u).x (Z.rail_depth b.options) (endpoint_sized b routes good u).0 (rail_sized b routes good))
      inner Output e rail = wider (omega arith) (sized_sub (Z.endpoint_of b u).x (Z.rail_depth b.options) (endpoint_sized b routes good u).0 (rail_sized b routes good))

  inner_sized : (role : Role) (u : Bundle) → Sized (2 ^ 30) (Z.inward role (Z.inward role (Z.endpoint_of b u).x (Z.rail_depth b.options)) (Z.parting_pitch b))
  inner_sized Input u = wider (omega arith) (sized_add ((Z.endpoint_of b u).x +ℤ Z.rail_depth b.options) (Z.parting_pitch b) (sized_add (Z.endpoint_of b u).x (Z.rail_depth b.options) (endpoint_sized b routes good u).0 (rail_sized b routes good)) (pitch_sized b routes good))
  inner_sized Output u = wider (omega arith) (sized_sub ((Z.endpoint_of b u).x -ℤ Z.rail_depth b.options) (Z.parting_pitch b) (sized_sub (Z.endpoint_of b u).x (Z.rail_depth b.options) (endpoint_sized b routes good u).0 (rail_sized b routes good)) (pitch_sized b routes good))

  between_on : (u : Bundle) (lower upper : Option ℤ) (role : Role) (d : ℤ) → M.between (board b) u (bound lower) (bound upper) role (on d) ≡ collector (B.between b u lower upper role d)
  between_on u lower upper Input d =
      ap (λ (x : Float). M.unless_crossed (M.raised x (bound lower)) (on d) (M.lowered (on d) (bound upper))) (inner_on Input u)
      ∙ ap (λ (x : Float). M.unless_crossed x (on d) (M.lowered (on d) (bound upper))) (raised_on _ lower)
      ∙ ap (M.unless_crossed (on (B.raised ((Z.endpoint_of b u).x +ℤ Z.rail_depth b.options +ℤ Z.parting_pitch b) lower)) (on d)) (lowered_on d upper)
      ∙ unless_crossed_on (B.raised ((Z.endpoint_of b u).x +ℤ Z.rail_depth b.options +ℤ Z.parting_pitch b) lower) d (B.lowered d upper)
  between_on u lower upper Output d =
      ap (λ (x : Float). M.unless_crossed (M.raised (on d) (bound lower)) (on d) (M.lowered x (bound upper))) (inner_on Output u)
      ∙ ap (M.unless_crossed (M.raised (on d) (bound lower)) (on d)) (lowered_on _ upper)
      ∙ ap (λ (x : Float). M.unless_crossed x (on d) (on (B.lowered ((Z.endpoint_of b u).x -ℤ Z.rail_depth b.options -ℤ Z.parting_pitch b) upper))) (raised_on d lower)
      ∙ unless_crossed_on (B.raised d lower) d (B.lowered ((Z.endpoint_of b u).x -ℤ Z.rail_depth b.options -ℤ Z.parting_pitch b) upper)

  -- THE BOUNDS
  pub bounds_on : (u : Bundle) (lower upper : Option ℤ) → M.bounds_of (board b) (map route routes) u (bound lower) (bound upper) ≡ collector (B.bounds_of b routes u lower upper)
  unfolding M.bounds_of B.bounds_of
  bounds_on u lower upper =
      ap (λ (o : Bound). M.bounds_with (board b) u (bound lower) (bound upper) o) (reach_all_on u.role None (Z.members_in b u))
      ∙ go (leb u.width 1) (leb u.count 1) (B.reach_all b routes u.role None (Z.members_in b u))
    where
      go : (s t : Bool) (o : Option ℤ) → cond s None (cond t None (M.if_at (bound o) None (M.between (board b) u (bound lower) (bound upper) u.role))) ≡ collector (cond s None (cond t None (B.if_at o None (B.between b u lower upper u.role))))
      go true t o = refl
      go false true o = refl
      go false false None = refl
      go false false (Some d) = between_on u lower upper u.role d

  -- what holds of even numbers up to 2 ^ 45 and of the two bounds given holds of the three
  pub bounds_are : (Q : ℤ → Type 0) → ((z : ℤ) → Sized (2 ^ 45) z → Q z) → (u : Bundle) (lower upper : Option ℤ) → OfOption Q lower → OfOption Q upper → OfCollector Q (B.bounds_of b routes u lower upper)
  unfolding B.bounds_of
  bounds_are Q weak u lower upper l h = go (leb u.width 1) (leb u.count 1) (B.reach_all b routes u.role None (Z.members_in b u)) (reach_all_sized u.role None (Z.members_in b u) tt)
    where
      spanned : (role : Role) (d : ℤ) → Sized (2 ^ 45) d → OfCollector Q (B.between b u lower upper role d)
      spanned Input d s = unless_crossed_of Q (B.raised ((Z.endpoint_of b u).x +ℤ Z.rail_depth b.options +ℤ Z.parting_pitch b) lower) d (B.lowered d upper) (raised_of Q ((Z.endpoint_of b u).x +ℤ Z.rail_depth b.options +ℤ Z.parting_pitch b) lower (weak _ (wider (omega arith) (inner_sized Input u))) l) (weak d s) (lowered_of Q d upper (weak d s) h)
      spanned Output d s = unless_crossed_of Q (B.raised d lower) d (B.lowered ((Z.endpoint_of b u).x -ℤ Z.rail_depth b.options -ℤ Z.parting_pitch b) upper) (raised_of Q d lower (weak d s) l) (weak d s) (lowered_of Q ((Z.endpoint_of b u).x -ℤ Z.rail_depth b.options -ℤ Z.parting_pitch b) upper (weak _ (wider (omega arith) (inner_sized Output u))) h)

      go : (s t : Bool) (o : Option ℤ) → OfOption (Sized (2 ^ 45)) o → OfCollector Q (cond s None (cond t None (B.if_at o None (B.between b u lower upper u.role))))
      go true t o k = tt
      go false true o k = tt
      go false false None k = tt
      go false false (Some d) k = spanned u.role d k

  pub bounds_counted : (u : Bundle) (lower upper : Option ℤ) (r : S.Bounds) → B.bounds_of b routes u lower upper ≡ Some r → 1 < u.count
  unfolding B.bounds_of
  bounds_counted u lower upper r e = go (leb u.width 1) (leb u.count 1) refl e
    where
      go : (s t : Bool) → leb u.count 1 ≡ t → cond s None (cond t None (B.if_at (B.reach_all b routes u.role None (Z.members_in b u)) None (B.between b u lower upper u.role))) ≡ Some r → 1 < u.count
      go true t f k = let z : ◌≡◌ {A = ℕ} 0 1 = cc in absurd (omega arith)
      go false true f k = let z : ◌≡◌ {A = ℕ} 0 1 = cc in absurd (omega arith)
      go false false f k = omega (arith, leb-false)

  -- ---- the stretches of the members
  fit_pitch : (z : ℤ) → Job z → Fit z (Z.parting_pitch b)
  fit_pitch z s = let p = s.size in let q = (pitch_sized b routes good).size in omega arith

  suits_route : (m : Member) → Suits (Z.parting_pitch b) (B.route_of b routes m)
  suits_route m = go (B.route_of b routes m) (route_job m)
    where
      go : (r : Z.Route) → Every (λ (p : Z.Point). Job p.x × Job p.y) r → Suits (Z.parting_pitch b) r
      go [] h = tt
      go (p ∷ r) h = (fit_pitch p.x h.0.0, go r h.1)

  pub trunks_on : (u : Bundle) → M.trunks (board b) (map route routes) u ≡ map (map stretch) (B.trunks b routes u)
  trunks_on u =
      ap (λ (p : Float). T.members u.role p (map (M.route_of (board b) (map route routes)) (Z.members_in b u))) (pitch_on b routes good)
      ∙ ap (T.members u.role (on (Z.parting_pitch b))) (mapped (Z.members_in b u))
      ∙ members_on u.role (Z.parting_pitch b) (map (B.route_of b routes) (Z.members_in b u)) (suited (Z.members_in b u))
    where
      mapped : (ms : List Member) → map (M.route_of (board b) (map route routes)) ms ≡ map route (map (B.route_of b routes) ms)
      mapped [] = refl
      mapped (m ∷ ms) = rw (route_on m, mapped ms)

      suited : (ms : List Member) → Every (Suits (Z.parting_pitch b)) (map (B.route_of b routes) ms)
      suited [] = tt
      suited (m ∷ ms) = (suits_route m, suited ms)

  -- the ends of a stretch are even and at most 2 ^ 28
  shortened_sized : (role : Role) (x y : ℤ) → Job x → Job y → OfStretch (Sized (2 ^ 28)) (S.shortened role (Z.parting_pitch b) x y)
  shortened_sized Input x y s t = go (at_most x (y -ℤ Z.parting_pitch b))
    where
      go : (w : Bool) → OfStretch (Sized (2 ^ 28)) (cond w (Some (record { low = x; high = y -ℤ Z.parting_pitch b })) None)
      go true = (wider (omega arith) s, wider (omega arith) (sized_sub y (Z.parting_pitch b) t (pitch_sized b routes good)))
      go false = tt
  shortened_sized Output x y s t = go (at_most (x +ℤ Z.parting_pitch b) y)
    where
      go : (w : Bool) → OfStretch (Sized (2 ^ 28)) (cond w (Some (record { low = x +ℤ Z.parting_pitch b; high = y })) None)
      go true = (wider (omega arith) (sized_add x (Z.parting_pitch b) s (pitch_sized b routes good)), wider (omega arith) t)
      go false = tt

  stretch_choice : (s t : Bool) (c : Option S.Stretch) (F : Option S.Stretch → Type 0) → F None → F c → F (cond s None (cond t None c))
  stretch_choice true t c F n f = n
  stretch_choice false true c F n f = n
  stretch_choice false false c F n f = f

  stretch_sized : (role : Role) (p q : Z.Point) → Job p.x → Job q.x → OfStretch (Sized (2 ^ 28)) (S.stretch role (Z.parting_pitch b) p q)
  stretch_sized role p q s t = stretch_choice (not (same p.y q.y)) (at_most q.x p.x) (S.shortened role (Z.parting_pitch b) p.x q.x) (OfStretch (Sized (2 ^ 28))) tt (shortened_sized role p.x q.x s t)

  -- what it holds lies between the ends of the run
  abbrev Coordinate : ℤ → Type 0
  Coordinate z = nat_abs z ≤ 2 ^ 27

  less_pitch : (x y : ℤ) → T (at_most x (y -ℤ Z.parting_pitch b)) → T (at_most x y)
  less_pitch x y h =
      let p = leb→le (plus x + less (y -ℤ Z.parting_pitch b)) (plus (y -ℤ Z.parting_pitch b) + less x) h in
      let q = sub_parts_ℤ y (Z.parting_pitch b) in
      let r = pitch_length b routes good in
      lib.Dec.le→leb (plus x + less y) (plus y + less x) (go (plus x) (less x) (plus y) (less y) (plus (y -ℤ Z.parting_pitch b)) (less (y -ℤ Z.parting_pitch b)) (plus (Z.parting_pitch b)) (less (Z.parting_pitch b)) p q r)
    where
      go : (px lx py ly P L pp lp : ℕ) → px + L ≤ P + lx → P + (ly + pp) ≡ py + lp + L → lp ≡ 0 → px + ly ≤ py + lx
      go px lx py ly P L pp lp h q r = omega arith

  plus_pitch : (x y : ℤ) → T (at_most (x +ℤ Z.parting_pitch b) y) → T (at_most x y)
  plus_pitch x y h =
      let p = leb→le (plus (x +ℤ Z.parting_pitch b) + less y) (plus y + less (x +ℤ Z.parting_pitch b)) h in
      let q = add_parts x (Z.parting_pitch b) in
      let r = pitch_length b routes good in
      lib.Dec.le→leb (plus x + less y) (plus y + less x) (go (plus x) (less x) (plus y) (less y) (plus (x +ℤ Z.parting_pitch b)) (less (x +ℤ Z.parting_pitch b)) (plus (Z.parting_pitch b)) (less (Z.parting_pitch b)) p q r)
    where
      go : (px lx py ly P L pp lp : ℕ) → P + ly ≤ py + L → P + (lx + lp) ≡ px + pp + L → lp ≡ 0 → px + ly ≤ py + lx
      go px lx py ly P L pp lp h q r = omega arith

  shortened_holds : (role : Role) (x y : ℤ) → Job x → Job y → Holding Coordinate (S.shortened role (Z.parting_pitch b) x y)
  shortened_holds Input x y s t z = go (at_most x (y -ℤ Z.parting_pitch b))
    where
      go : (w : Bool) → S.holds z (cond w (Some (record { low = x; high = y -ℤ Z.parting_pitch b })) None) ≡ true → Coordinate z
      go false e = absurd (true≢false (sym e))
      go true e =
          let k : T (at_most x z && at_most z (y -ℤ Z.parting_pitch b)) = subst T (sym e) tt in
          between_sizes x y z (2 ^ 27) s.size t.size (and_l (at_most x z) (at_most z (y -ℤ Z.parting_pitch b)) k) (less_pitch z y (and_r (at_most x z) (at_most z (y -ℤ Z.parting_pitch b)) k))
  shortened_holds Output x y s t z = go (at_most (x +ℤ Z.parting_pitch b) y)
    where
      go : (w : Bool) → S.holds z (cond w (Some (record { low = x +ℤ Z.parting_pitch b; high = y })) None) ≡ true → Coordinate z
      go false e = absurd (true≢false (sym e))
      go true e =
          let k : T (at_most (x +ℤ Z.parting_pitch b) z && at_most z y) = subst T (sym e) tt in
          between_sizes x y z (2 ^ 27) s.size t.size (plus_pitch x z (and_l (at_most (x +ℤ Z.parting_pitch b) z) (at_most z y) k)) (and_r (at_most (x +ℤ Z.parting_pitch b) z) (at_most z y) k)

  stretch_holds : (role : Role) (p q : Z.Point) → Job p.x → Job q.x → Holding Coordinate (S.stretch role (Z.parting_pitch b) p q)
  stretch_holds role p q s t = stretch_choice (not (same p.y q.y)) (at_most q.x p.x) (S.shortened role (Z.parting_pitch b) p.x q.x) (Holding Coordinate) (λ x e. absurd (true≢false (sym e))) (shortened_holds role p.x q.x s t)

  -- for every run of a route, and every member
  stretches_are : (F : Option S.Stretch → Type 0) (role : Role) → ((p q : Z.Point) → Job p.x → Job q.x → F (S.stretch role (Z.parting_pitch b) p q)) → (r : Z.Route) → Every (λ (p : Z.Point). Job p.x × Job p.y) r → Every F (S.stretches role (Z.parting_pitch b) (Z.runs r))
  unfolding S.stretches Z.runs
  stretches_are F role f [] h = tt
  stretches_are F role f (p ∷ []) h = tt
  stretches_are F role f (p ∷ q ∷ r) h = (f p q h.0.0 h.1.0.0, stretches_are F role f (q ∷ r) h.1)

  members_are : (F : Option S.Stretch → Type 0) (role : Role) → ((p q : Z.Point) → Job p.x → Job q.x → F (S.stretch role (Z.parting_pitch b) p q)) → (ms : List Member) → Every (Every F) (S.members role (Z.parting_pitch b) (map (B.route_of b routes) ms))
  unfolding S.members
  members_are F role f [] = tt
  members_are F role f (m ∷ ms) = (stretches_are F role f (B.route_of b routes m) (route_job m), members_are F role f ms)

  pub trunks_sized : (u : Bundle) → Every (Every (OfStretch (Sized (2 ^ 28)))) (B.trunks b routes u)
  trunks_sized u = members_are (OfStretch (Sized (2 ^ 28))) u.role (stretch_sized u.role) (Z.members_in b u)

  trunks_hold : (u : Bundle) → Every (Every (Holding Coordinate)) (B.trunks b routes u)
  trunks_hold u = members_are (Holding Coordinate) u.role (stretch_holds u.role) (Z.members_in b u)

  -- a planned x is at most 2 ^ 20, so 2 ^ 27 over 128: it lies in a stretch
  pub found_small : (u : Bundle) (r : S.Bounds) (v : ℕ) → u.first + u.count ≤ length b.members → 1 < u.count → OfOption Coordinate (P.found_x (S.search_of u.role r (B.trunks b routes u) v).outcome)
  unfolding S.members
  found_small u r v w h = go (Z.members_in b u) (filled u.first u.count b.members w h) (trunks_hold u)
    where
      filled : (i n : ℕ) (l : List Member) → i + n ≤ length l → 1 < n → 0 < length (take n (drop i l))
      filled zero (suc n) [] h k = absurd (omega arith)
      filled zero (suc n) (m ∷ l) h k = omega arith
      filled zero zero l h k = absurd (omega arith)
      filled (suc i) n [] h k = absurd (omega arith)
      filled (suc i) n (m ∷ l) h k = filled i n l (omega arith) k

      go : (ms : List Member) → 0 < length ms → Every (Every (Holding Coordinate)) (S.members u.role (Z.parting_pitch b) (map (B.route_of b routes) ms)) → OfOption Coordinate (P.found_x (S.search_of u.role r (S.members u.role (Z.parting_pitch b) (map (B.route_of b routes) ms)) v).outcome)
      go [] l k = absurd (omega arith)
      go (m ∷ ms) l k = found_held Coordinate u.role r (S.stretches u.role (Z.parting_pitch b) (Z.runs (B.route_of b routes m))) (S.members u.role (Z.parting_pitch b) (map (B.route_of b routes) ms)) v k.0
