-- The searches of a plan on a board of the grid: adjacency, what an input asks, the first pass and the searches made anew, in whole numbers over 128 and in binary64.
-- Assumes nothing.
use Rattle.std.specs.Prelude.{◌≡◌, ℕ, suc, ◌+◌, ◌^◌, ◌≤◌, ◌<◌, Bool, not, ◌&&◌, ℤ, nat_abs, ◌+ℤ◌, length, Float, Option, Some, None}
use Rattle.std.proofs.Math.Path.{refl, ap}
use Rattle.std.proofs.Common.{◌∙◌, arith}
use Rattle.std.proofs.Math.Bool.{true, false, cond}
use mathlib.Core.List.{List, [], ◌∷◌, map}
use Rattle.std.proofs.Math.ListN.{get_or, set, get_or-map}
use Rattle.std.proofs.lemmas.List.{length-map}
use Rattle.std.specs.Float.{binary64}
use Rattle.std.specs.Float.Ieee.{add}
use Rattle.binary64.specs.Order.{greatest}
use Rattle.geometry.specs.declared.Role.{Role}
use Rattle.geometry.specs.Points.{Route}
use Rattle.geometry.specs.Stretch as G
use Rattle.board.specs.declared.Bundle.{Bundle}
use Rattle.board.specs.declared.Member.{Member}
use Rattle.search.specs.declared.Bounds.{Bounds}
use Rattle.search.specs.declared.Searched.{Searched}
use Rattle.search.specs.Search.{search_of}
use Rattle.plan.specs.declared.Bound.{Bound}
use Rattle.plan.specs.declared.Bound.TheVariants as bounded
use Rattle.plan.specs.Depths as L
use Rattle.plan.specs.Depths.{same_role}
use Rattle.plan.specs.Bounds as M
use Rattle.plan.specs.Plan as K
use Rattle.plan.specs.Plan.{share, walk}
use Rattle.sorting.specs.Sorted.{every_map, every_get_d}
use Rattle.grid_plan.specs.Board as Z
use Rattle.grid_plan.specs.Depths as D
use Rattle.grid_plan.specs.Search as S
use Rattle.grid_plan.specs.Bounds as B
use Rattle.grid_plan.specs.Plan as P
use Rattle.grid_plan.proofs.Sized.{wider, pick_larger}
use Rattle.grid_plan.specs.Image.{point, board, route, bound, bounds, collector, ranged, plan, first_pass}
use Rattle.grid_plan.specs.InnerImage.{outcome, searched}
use Rattle.grid_plan.proofs.Searching.{Suits, stretch_on, holds_on, Held, search_on, OfStretch, OfBounds}
use Rattle.grid_plan.proofs.Deep.{pitch_on, pitch_sized, further_of}
use Rattle.grid_plan.proofs.Bounding.{route_on, route_job, bounds_on, bounds_are, bounds_counted, trunks_on, trunks_sized, found_small}
use Rattle.sorting.specs.Lists.{Every}
use Rattle.grid.specs.On.{on, larger}
use Rattle.grid.proofs.Operations.{greatest_on, add_on, add_size}
use Rattle.grid_plan.proofs.BoundSteps.{OfCollector, found_of}
use Rattle.grid_plan.proofs.PlanSteps.{at_on, every_set, found_x_on, found?_on, narrowed_on, set_map, walk_same}
use Rattle.grid_plan.specs.Sizes.{Sized, Job, Fit, OfOption, Placed, Near}
use Rattle.grid_plan.specs.OnGrid.{OnDraftingGrid}

module _ (b : Z.Board) (routes : List Z.Route) (good : OnDraftingGrid b routes) where
  abbrev pub F : List Route
  F = map route routes

  abbrev pub pitch : ℤ
  pitch = Z.parting_pitch b

  -- ---- adjacency
  joined_on : (s t : P.Ranged) → K.joined (board b) F (ranged s) (ranged t) ≡ P.joined b routes s t
  joined_on s t =
      ap (λ (w : Bool). w && (K.found? (collector t.bounds) && (not (same_role s.bundle.role t.bundle.role) && share (Z.members_in b s.bundle) (Z.members_in b t.bundle)))) (found?_on s.bounds)
      ∙ ap (λ (w : Bool). P.found? s.bounds && (w && (not (same_role s.bundle.role t.bundle.role) && share (Z.members_in b s.bundle) (Z.members_in b t.bundle)))) (found?_on t.bounds)

  near_from_on : (s : P.Ranged) (j : ℕ) (ts : List P.Ranged) → K.near_from (board b) F (ranged s) j (map ranged ts) ≡ P.near_from b routes s j ts
  unfolding K.near_from P.near_from
  near_from_on s j [] = refl
  near_from_on s j (t ∷ ts) =
      ap (λ (w : Bool). cond w (j ∷ K.near_from (board b) F (ranged s) (suc j) (map ranged ts)) (K.near_from (board b) F (ranged s) (suc j) (map ranged ts))) (joined_on s t)
      ∙ ap (λ (l : List ℕ). cond (P.joined b routes s t) (j ∷ l) l) (near_from_on s (suc j) ts)

  near_on : (ss : List P.Ranged) (i : ℕ) → K.near (board b) F (map ranged ss) i ≡ P.near b routes ss i
  near_on ss i = ap (λ (s : K.Ranged). K.near_from (board b) F s 0 (map ranged ss)) (at_on ss i) ∙ near_from_on (P.ranged_at ss i) 0 ss

  pub component_on : (ss : List P.Ranged) (i : ℕ) (seen : List Bool) → K.component_of (board b) F (map ranged ss) i seen ≡ P.component_of b routes ss i seen
  component_on ss i seen =
      ap (λ (n : ℕ). walk (K.near (board b) F (map ranged ss)) n (set seen i true) (i ∷ [])) (length-map ss ranged)
      ∙ walk_same (K.near (board b) F (map ranged ss)) (P.near b routes ss) (near_on ss) (length ss) (set seen i true) (i ∷ [])

  -- ---- what an input asks
  run_end_on : (role : Role) (x : ℤ) (p : Z.Point) (qs : List Z.Point) → Suits pitch (p ∷ qs) → K.run_end role (on pitch) (on x) (point p) (map point qs) ≡ bound (P.run_end role pitch x p qs)
  unfolding K.run_end P.run_end
  run_end_on role x p [] h = refl
  run_end_on role x p (q ∷ qs) h =
      ap (λ (s : Option (Float × Float)). cond (G.holds (on x) s) (bounded.At (on q.x)) (K.run_end role (on pitch) (on x) (point q) (map point qs))) (stretch_on role pitch p q h.0 h.1.0)
      ∙ ap (λ (w : Bool). cond w (bounded.At (on q.x)) (K.run_end role (on pitch) (on x) (point q) (map point qs))) (holds_on x (S.stretch role pitch p q))
      ∙ ap (λ (o : Bound). cond (S.holds x (S.stretch role pitch p q)) (bounded.At (on q.x)) o) (run_end_on role x q qs h.1)
      ∙ go (S.holds x (S.stretch role pitch p q)) (P.run_end role pitch x q qs)
    where
      go : (t : Bool) (o : Option ℤ) → cond t (bounded.At (on q.x)) (bound o) ≡ bound (cond t (Some q.x) o)
      go true o = refl
      go false o = refl

  run_end_of : (role : Role) (x : ℤ) (p : Z.Point) (qs : List Z.Point) → Every (λ (q : Z.Point). Job q.x × Job q.y) qs → OfOption Job (P.run_end role pitch x p qs)
  unfolding P.run_end
  run_end_of role x p [] h = tt
  run_end_of role x p (q ∷ qs) h = go (S.holds x (S.stretch role pitch p q)) (P.run_end role pitch x q qs) (run_end_of role x q qs h.1)
    where
      go : (t : Bool) (o : Option ℤ) → OfOption Job o → OfOption Job (cond t (Some q.x) o)
      go true o k = h.0.0
      go false o k = k

  fit_job : (z : ℤ) → Job z → Fit z pitch
  fit_job z s = let p = s.size in let q = (pitch_sized b routes good).size in omega arith

  suits_jobs : (r : Z.Route) → Every (λ (q : Z.Point). Job q.x × Job q.y) r → Suits pitch r
  suits_jobs [] h = tt
  suits_jobs (p ∷ r) h = (fit_job p.x h.0.0, suits_jobs r h.1)

  diverges_on : (role : Role) (x : ℤ) (r : Z.Route) → Every (λ (q : Z.Point). Job q.x × Job q.y) r → K.diverges_at role (on pitch) (on x) (route r) ≡ bound (P.diverges_at role pitch x r)
  diverges_on role x [] h = refl
  diverges_on role x (p ∷ ps) h = run_end_on role x p ps (suits_jobs (p ∷ ps) h)

  diverges_of : (role : Role) (x : ℤ) (r : Z.Route) → Every (λ (q : Z.Point). Job q.x × Job q.y) r → OfOption Job (P.diverges_at role pitch x r)
  diverges_of role x [] h = tt
  diverges_of role x (p ∷ ps) h = run_end_of role x p ps h.1

  further_on : (o : Option ℤ) (d : ℤ) → L.further (bound o) (on d) ≡ bound (D.further o d)
  further_on None d = refl
  further_on (Some w) d = ap bounded.At (greatest_on w d)

  divergence_on : (u : Bundle) (x : ℤ) (d : Option ℤ) (ms : List Member) → K.divergence (board b) F u (on x) (bound d) ms ≡ bound (P.divergence b routes u x d ms)
  unfolding K.divergence P.divergence
  divergence_on u x d [] = refl
  divergence_on u x d (m ∷ ms) =
      ap (λ (p : Float). M.if_at (K.diverges_at u.role p (on x) (M.route_of (board b) F m)) bounded.None (λ e. K.divergence (board b) F u (on x) (L.further (bound d) e) ms)) (pitch_on b routes good)
      ∙ ap (λ (r : Route). M.if_at (K.diverges_at u.role (on pitch) (on x) r) bounded.None (λ e. K.divergence (board b) F u (on x) (L.further (bound d) e) ms)) (route_on b routes good m)
      ∙ ap (λ (o : Bound). M.if_at o bounded.None (λ e. K.divergence (board b) F u (on x) (L.further (bound d) e) ms)) (diverges_on u.role x (B.route_of b routes m) (route_job b routes good m))
      ∙ go (λ (e : ℤ). ap (λ (o : Bound). K.divergence (board b) F u (on x) o ms) (further_on d e) ∙ divergence_on u x (D.further d e) ms) (P.diverges_at u.role pitch x (B.route_of b routes m))
    where
      go : ((e : ℤ) → K.divergence (board b) F u (on x) (L.further (bound d) (on e)) ms ≡ bound (P.divergence b routes u x (D.further d e) ms)) → (o : Option ℤ)
          → M.if_at (bound o) bounded.None (λ e. K.divergence (board b) F u (on x) (L.further (bound d) e) ms) ≡ bound (B.if_at o None (λ e. P.divergence b routes u x (D.further d e) ms))
      go f None = refl
      go f (Some e) = f e

  divergence_of : (u : Bundle) (x : ℤ) (d : Option ℤ) (ms : List Member) → OfOption Job d → OfOption Job (P.divergence b routes u x d ms)
  unfolding P.divergence
  divergence_of u x d [] s = s
  divergence_of u x d (m ∷ ms) s =
      go (λ (e : ℤ) (t : Job e). divergence_of u x (D.further d e) ms (further_of Job d e s t)) (P.diverges_at u.role pitch x (B.route_of b routes m)) (diverges_of u.role x (B.route_of b routes m) (route_job b routes good m))
    where
      go : ((e : ℤ) → Job e → OfOption Job (P.divergence b routes u x (D.further d e) ms)) → (o : Option ℤ) → OfOption Job o → OfOption Job (B.if_at o None (λ e. P.divergence b routes u x (D.further d e) ms))
      go f None t = tt
      go f (Some e) t = f e t

  -- a coordinate and a pitch
  abbrev pub Close : ℤ → Type 0
  Close z = nat_abs z ≤ 2 ^ 28

  add_pitch : (z : ℤ) → Near z → add binary64 (on z) (L.parting_pitch (board b)) ≡ on (z +ℤ pitch)
  add_pitch z h = ap (add binary64 (on z)) (pitch_on b routes good) ∙ add_on z pitch (let q = (pitch_sized b routes good).size in omega arith)

  pub add_pitch_close : (z : ℤ) → Near z → Close (z +ℤ pitch)
  add_pitch_close z h = let p = add_size z pitch in let q = (pitch_sized b routes good).size in omega arith

  pub asked_on : (u : Bundle) (x : Option ℤ) → Placed x → K.asked (board b) F u (bound x) ≡ bound (P.asked b routes u x)
  asked_on u None s = refl
  asked_on u (Some c) s =
      ap (λ (o : Bound). M.if_at o bounded.None (λ d. bounded.At (greatest (add binary64 (on c) (L.parting_pitch (board b))) (add binary64 d (L.parting_pitch (board b)))))) (divergence_on u c None (Z.members_in b u))
      ∙ go (P.divergence b routes u c None (Z.members_in b u)) (divergence_of u c None (Z.members_in b u) tt)
    where
      go : (o : Option ℤ) → OfOption Job o → M.if_at (bound o) bounded.None (λ d. bounded.At (greatest (add binary64 (on c) (L.parting_pitch (board b))) (add binary64 d (L.parting_pitch (board b))))) ≡ bound (B.if_at o None (λ d. Some (larger (c +ℤ pitch) (d +ℤ pitch))))
      go None t = refl
      go (Some d) t =
          ap bounded.At (ap (λ (z : Float). greatest z (add binary64 (on d) (L.parting_pitch (board b)))) (add_pitch c s) ∙ ap (greatest (on (c +ℤ pitch))) (add_pitch d t.size) ∙ greatest_on (c +ℤ pitch) (d +ℤ pitch))

  asked_of : (u : Bundle) (x : Option ℤ) → Placed x → OfOption Close (P.asked b routes u x)
  asked_of u None s = tt
  asked_of u (Some c) s = go (P.divergence b routes u c None (Z.members_in b u)) (divergence_of u c None (Z.members_in b u) tt)
    where
      go : (o : Option ℤ) → OfOption Job o → OfOption Close (B.if_at o None (λ d. Some (larger (c +ℤ pitch) (d +ℤ pitch))))
      go None t = tt
      go (Some d) t = pick_larger Close (c +ℤ pitch) (d +ℤ pitch) (add_pitch_close c s) (add_pitch_close d t.size)

  placed_at : (xs : List (Option ℤ)) (i : ℕ) → Every Placed xs → Placed (get_or xs i None)
  placed_at xs i h = every_get_d Placed xs None i h tt

  pub required_on : (ss : List P.Ranged) (xs : List (Option ℤ)) (r : Option ℤ) (is : List ℕ) → Every Placed xs → K.required (board b) F (map ranged ss) (map bound xs) (bound r) is ≡ bound (P.required b routes ss xs r is)
  unfolding K.required P.required
  required_on ss xs r [] h = refl
  required_on ss xs r (i ∷ is) h =
      ap (λ (s : K.Ranged). K.required (board b) F (map ranged ss) (map bound xs) (M.if_at (K.asked (board b) F s.bundle (get_or (map bound xs) i bounded.None)) (bound r) (L.further (bound r))) is) (at_on ss i)
      ∙ ap (λ (o : Bound). K.required (board b) F (map ranged ss) (map bound xs) (M.if_at (K.asked (board b) F (P.ranged_at ss i).bundle o) (bound r) (L.further (bound r))) is) (get_or-map bound xs i None)
      ∙ ap (λ (o : Bound). K.required (board b) F (map ranged ss) (map bound xs) (M.if_at o (bound r) (L.further (bound r))) is) (asked_on (P.ranged_at ss i).bundle (get_or xs i None) (placed_at xs i h))
      ∙ ap (λ (o : Bound). K.required (board b) F (map ranged ss) (map bound xs) o is) (go (P.asked b routes (P.ranged_at ss i).bundle (get_or xs i None)))
      ∙ required_on ss xs (B.if_at (P.asked b routes (P.ranged_at ss i).bundle (get_or xs i None)) r (D.further r)) is h
    where
      go : (o : Option ℤ) → M.if_at (bound o) (bound r) (L.further (bound r)) ≡ bound (B.if_at o r (D.further r))
      go None = refl
      go (Some d) = further_on r d

  pub required_of : (ss : List P.Ranged) (xs : List (Option ℤ)) (r : Option ℤ) (is : List ℕ) → Every Placed xs → OfOption Close r → OfOption Close (P.required b routes ss xs r is)
  unfolding P.required
  required_of ss xs r [] h s = s
  required_of ss xs r (i ∷ is) h s =
      required_of ss xs (B.if_at (P.asked b routes (P.ranged_at ss i).bundle (get_or xs i None)) r (D.further r)) is h
      (go (P.asked b routes (P.ranged_at ss i).bundle (get_or xs i None)) (asked_of (P.ranged_at ss i).bundle (get_or xs i None) (placed_at xs i h)))
    where
      go : (o : Option ℤ) → OfOption Close o → OfOption Close (B.if_at o r (D.further r))
      go None t = s
      go (Some d) t = further_of Close r d s t

  -- ---- one search
  pub held_sized : (n : ℕ) → n ≤ 2 ^ 53 → (z : ℤ) → Sized n z → Held z
  held_sized n h z s = let p = s.size in omega arith

  trunks_held : (u : Bundle) → Every (Every (OfStretch Held)) (B.trunks b routes u)
  trunks_held u = every_map (Every (OfStretch (Sized (2 ^ 28)))) (Every (OfStretch Held)) (B.trunks b routes u) (λ l h. every_map (OfStretch (Sized (2 ^ 28))) (OfStretch Held) l weaken h) (trunks_sized b routes good u)
    where
      weaken : (s : Option S.Stretch) → OfStretch (Sized (2 ^ 28)) s → OfStretch Held s
      weaken None h = tt
      weaken (Some s) h = (held_sized (2 ^ 28) (omega arith) s.low h.0, held_sized (2 ^ 28) (omega arith) s.high h.1)

  pub look_on : (u : Bundle) (r : S.Bounds) (v : ℕ) → OfBounds Held r → search_of u.role (bounds r) (M.trunks (board b) F u) v ≡ searched (S.search_of u.role r (B.trunks b routes u) v)
  look_on u r v h = ap (λ (t : List (List (Option (Float × Float)))). search_of u.role (bounds r) t v) (trunks_on b routes good u) ∙ search_on u.role r (B.trunks b routes u) v h (trunks_held u)

  seek_on : (u : Bundle) (lower upper : Option ℤ) (v : ℕ) → OfOption Held lower → OfOption Held upper → K.seek search_of (board b) F u (bound lower) (bound upper) v ≡ searched (P.seek b routes u lower upper v)
  seek_on u lower upper v l h =
      ap (λ (c : Option Bounds). K.seek_in search_of (board b) F u c v) (bounds_on b routes good u lower upper)
      ∙ go (B.bounds_of b routes u lower upper) (bounds_are b routes good Held (held_sized (2 ^ 45) (omega arith)) u lower upper l h)
    where
      go : (c : Option S.Bounds) → OfCollector Held c → K.seek_in search_of (board b) F u (collector c) v ≡ searched (P.seek_in b routes u c v)
      go None k = refl
      go (Some r) k = look_on u r v k

  abbrev Windowed : Bundle → Type 0
  Windowed u = u.first + u.count ≤ length b.members

  seek_of : (u : Bundle) (lower upper : Option ℤ) (v : ℕ) → Windowed u → Placed (P.found_x (P.seek b routes u lower upper v).outcome)
  seek_of u lower upper v w = go (B.bounds_of b routes u lower upper) refl
    where
      go : (c : Option S.Bounds) → B.bounds_of b routes u lower upper ≡ c → Placed (P.found_x (P.seek_in b routes u c v).outcome)
      go None e = tt
      go (Some r) e = found_small b routes good u r v w (bounds_counted b routes good u lower upper r e)

  -- ---- the first pass
  -- what holds of a range: where its bounds are not absent they are even and at most 2 ^ 38, and the x found is a coordinate
  abbrev pub Ranging : Option S.Bounds → Bundle → Type 0
  Ranging None u = Unit {0}
  Ranging (Some r) u = Sized (2 ^ 45) r.minimum × Sized (2 ^ 27) r.desired × Sized (2 ^ 45) r.maximum × (1 < u.count)

  abbrev pub Fine : P.Ranged → Type 0
  Fine s = Windowed s.bundle × Ranging s.bounds s.bundle

  ranged_of : (u : Bundle) (v : ℕ) → Windowed u → Fine (P.ranged u (B.bounds_of b routes u None None) (P.seek b routes u None None v).outcome)
  ranged_of u v w =
      (w, go (B.bounds_of b routes u None None) refl (bounds_are b routes good (Sized (2 ^ 45)) (λ z s. s) u None None tt tt))
    where
      choose : (r : S.Bounds) (o : S.Outcome) → OfBounds (Sized (2 ^ 45)) r → 1 < u.count → OfOption (Sized (2 ^ 45)) (P.found_x o) → Placed (P.found_x o) → Ranging (P.narrowed (Some r) o) u
      choose r (S.Found x) k n h s = (k.0, record { even = h.even; size = s }, k.2, n)
      choose r S.Nothing k n h s = tt
      choose r S.Spent k n h s = tt

      wide : Every (Every (OfStretch (Sized (2 ^ 45)))) (B.trunks b routes u)
      wide = every_map (Every (OfStretch (Sized (2 ^ 28)))) (Every (OfStretch (Sized (2 ^ 45)))) (B.trunks b routes u) (λ l h. every_map (OfStretch (Sized (2 ^ 28))) (OfStretch (Sized (2 ^ 45))) l widen h) (trunks_sized b routes good u)
        where
          widen : (s : Option S.Stretch) → OfStretch (Sized (2 ^ 28)) s → OfStretch (Sized (2 ^ 45)) s
          widen None h = tt
          widen (Some s) h = (wider (omega arith) h.0, wider (omega arith) h.1)

      go : (c : Option S.Bounds) → B.bounds_of b routes u None None ≡ c → OfCollector (Sized (2 ^ 45)) c → Ranging (P.narrowed c (P.seek_in b routes u c v).outcome) u
      go None e k = tt
      go (Some r) e k =
          let n = bounds_counted b routes good u None None r e in
          choose r (S.search_of u.role r (B.trunks b routes u) v).outcome k n (found_of (Sized (2 ^ 45)) u.role r (B.trunks b routes u) v k wide) (found_small b routes good u r v w n)

  pub first_pass_on : (us : List Bundle) (v : ℕ) → K.first_pass search_of (board b) F us v ≡ first_pass (P.first_pass b routes us v)
  unfolding K.first_pass P.first_pass
  first_pass_on [] v = refl
  first_pass_on (u ∷ us) v =
      ap (λ (s : Searched). next s (K.first_pass search_of (board b) F us s.left.0)) (seek_on u None None v tt tt)
      ∙ ap (next (searched (P.seek b routes u None None v))) (first_pass_on us (P.seek b routes u None None v).left)
      ∙ ap (λ (c : Option Bounds). record { ranges = K.ranged u c (outcome (P.seek b routes u None None v).outcome) ∷ map ranged (P.first_pass b routes us (P.seek b routes u None None v).left).ranges; left = (P.first_pass b routes us (P.seek b routes u None None v).left).left }) (bounds_on b routes good u None None)
      ∙ ap (λ (c : Option Bounds). record { ranges = record { bundle = u; bounds = c } ∷ map ranged (P.first_pass b routes us (P.seek b routes u None None v).left).ranges; left = (P.first_pass b routes us (P.seek b routes u None None v).left).left }) (narrowed_on (B.bounds_of b routes u None None) (P.seek b routes u None None v).outcome)
    where
      next : Searched → K.FirstPass → K.FirstPass
      next s rest = record { ranges = K.ranged u (M.bounds_of (board b) F u bounded.None bounded.None) s.outcome ∷ rest.ranges; left = rest.left }

  pub first_pass_of : (us : List Bundle) (v : ℕ) → Every Windowed us → Every Fine (P.first_pass b routes us v).ranges
  unfolding P.first_pass
  first_pass_of [] v h = tt
  first_pass_of (u ∷ us) v h = (ranged_of u v h.0, first_pass_of us (P.seek b routes u None None v).left h.1)

  -- ---- searched anew
  pub fine_at : (ss : List P.Ranged) (i : ℕ) → Every Fine ss → Fine (P.ranged_at ss i)
  fine_at ss i h = every_get_d Fine ss P.no_ranged i h (omega arith, tt)

  pub again_on : (ss : List P.Ranged) (lower upper : Bound → Bound) (low high : Option ℤ → Option ℤ)
      → ((x : Option ℤ) → Placed x → lower (bound x) ≡ bound (low x)) → ((x : Option ℤ) → Placed x → upper (bound x) ≡ bound (high x))
      → ((x : Option ℤ) → Placed x → OfOption Held (low x)) → ((x : Option ℤ) → Placed x → OfOption Held (high x))
      → Every Fine ss → (is : List ℕ) (p : P.Plan) → Every Placed p.xs → K.again search_of (board b) F (map ranged ss) lower upper is (plan p) ≡ plan (P.again b routes ss low high is p)
  unfolding K.again P.again
  again_on ss lower upper low high el eh hl hh fs [] p h = refl
  again_on ss lower upper low high el eh hl hh fs (i ∷ is) p h =
      let x = get_or p.xs i None in
      let q = placed_at p.xs i h in
      let u = (P.ranged_at ss i).bundle in
      let s = P.seek b routes u (low x) (high x) p.left in
      ap (λ (y : Bound). next (K.seek search_of (board b) F (K.ranged_at (map ranged ss) i).bundle (lower y) (upper y) p.left)) (get_or-map bound p.xs i None)
      ∙ ap (λ (t : K.Ranged). next (K.seek search_of (board b) F t.bundle (lower (bound x)) (upper (bound x)) p.left)) (at_on ss i)
      ∙ ap (λ (y : Bound). next (K.seek search_of (board b) F u y (upper (bound x)) p.left)) (el x q)
      ∙ ap (λ (y : Bound). next (K.seek search_of (board b) F u (bound (low x)) y p.left)) (eh x q)
      ∙ ap next (seek_on u (low x) (high x) p.left (hl x q) (hh x q))
      ∙ ap (λ (y : Bound). K.again search_of (board b) F (map ranged ss) lower upper is (record { xs = set (map bound p.xs) i y; left = s.left })) (found_x_on s.outcome)
      ∙ ap (λ (l : List Bound). K.again search_of (board b) F (map ranged ss) lower upper is (record { xs = l; left = s.left })) (set_map bound p.xs i (P.found_x s.outcome))
      ∙ again_on ss lower upper low high el eh hl hh fs is (record { xs = set p.xs i (P.found_x s.outcome); left = s.left }) (every_set Placed p.xs i (P.found_x s.outcome) (seek_of u (low x) (high x) p.left (fine_at ss i fs).0) h)
    where
      next : Searched → K.Plan
      next s = K.again search_of (board b) F (map ranged ss) lower upper is (record { xs = set (map bound p.xs) i (K.found_x s.outcome); left = s.left.0 })

  pub again_of : (ss : List P.Ranged) (low high : Option ℤ → Option ℤ) → Every Fine ss → (is : List ℕ) (p : P.Plan) → Every Placed p.xs → Every Placed (P.again b routes ss low high is p).xs
  unfolding P.again
  again_of ss low high fs [] p h = h
  again_of ss low high fs (i ∷ is) p h =
      let x = get_or p.xs i None in
      let s = P.seek b routes (P.ranged_at ss i).bundle (low x) (high x) p.left in
      again_of ss low high fs is (record { xs = set p.xs i (P.found_x s.outcome); left = s.left }) (every_set Placed p.xs i (P.found_x s.outcome) (seek_of (P.ranged_at ss i).bundle (low x) (high x) p.left (fine_at ss i fs).0) h)
