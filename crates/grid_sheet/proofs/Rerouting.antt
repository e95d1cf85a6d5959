-- Intersections, push_point and the rewritings of binary64 on numbers of the grid are those in whole numbers, and their points stay in range.
-- Assumes nothing.
use Rattle.std.specs.Prelude.{◌≡◌, ℕ, zero, suc, ◌+◌, ◌^◌, ◌≤◌, Bool, ◌||◌, ℤ, nat_abs, ◌+ℤ◌, ◌-ℤ◌, take, Float, Option, Some, None}
use Rattle.std.proofs.Math.Path.{refl, sym, ap}
use Rattle.std.proofs.Common.{◌∙◌, subst, arith}
use Rattle.std.proofs.Math.Bool.{true, false, cond}
use mathlib.Core.List.{List, [], ◌∷◌, ◌++◌, map, drop_last}
use Rattle.std.proofs.Math.ListN.{drop}
use Rattle.geometry.specs.declared.Point.{Point}
use Rattle.geometry.specs.declared.Segment.{Segment}
use Rattle.geometry.specs.declared.Role.{Role}
use Rattle.geometry.specs.declared.Role.TheVariants.{Input, Output}
use Rattle.geometry.specs.Contact as C
use Rattle.geometry.specs.Line as L
use Rattle.geometry.specs.Stretch as G
use Rattle.geometry.specs.Points.{Route}
use Rattle.route.specs.Intersection as I
use Rattle.route.specs.Push as P
use Rattle.route.specs.Rewrite as F
use Rattle.sorting.specs.Sorted.{every_map}
use Rattle.grid_plan.specs.Board as Z
use Rattle.grid_plan.specs.Search as S
use Rattle.grid_plan.specs.Image.{point, segment, route}
use Rattle.grid_plan.proofs.Searching.{runs_on}
use Rattle.grid_sheet.specs.Touch as Y
use Rattle.grid_sheet.specs.Reroute as R
use Rattle.grid_sheet.proofs.Touching.{matches_on, on_line_on, on_trunk_on}
use Rattle.sorting.specs.Lists.{Every}
use Rattle.grid.specs.On.{on}
use Rattle.grid.proofs.Operations.{eq_on, add_on, sub_on, add_size, subtract_size}
use Rattle.grid_plan.proofs.PlanSteps.{map_append}
use Rattle.grid_sheet.specs.Sizes.{Kept, Within, Lies}
use Rattle.grid_sheet.specs.Image.{tap}
use Rattle.grid_sheet.specs.InnerImage.{crossing, option_route}

abbrev pub Pitch : ℤ → Type 0
Pitch p = nat_abs p ≤ 2 ^ 27

pub kept_lies : (p : Z.Point) → Kept p → Lies p
kept_lies p h = (let a = h.0 in omega arith, let a = h.1 in omega arith)

pub route_lies : (r : Z.Route) → Every Kept r → Every Lies r
route_lies r h = every_map Kept Lies r kept_lies h

pub runs_every : (Q : Z.Point → Type 0) (r : Z.Route) → Every Q r → Every (λ (s : Z.Segment). Q s.start × Q s.end) (Z.runs r)
unfolding Z.runs
runs_every Q [] h = tt
runs_every Q (a ∷ []) h = tt
runs_every Q (a ∷ b ∷ r) h = ((h.0, h.1.0), runs_every Q (b ∷ r) h.1)

-- ---- first and last
abbrev pub OfCrossing : (Z.Point → Type 0) → Option (ℕ × Z.Point) → Type 0
OfCrossing Q None = Unit {0}
OfCrossing Q (Some (i, p)) = Q p

abbrev OfPoint : (Z.Point → Type 0) → Option Z.Point → Type 0
OfPoint Q None = Unit {0}
OfPoint Q (Some p) = Q p

met_at_on : (i : ℕ) (o : Option Z.Point) → I.met_at i (tap o) ≡ crossing (R.met_at i o)
met_at_on i None = refl
met_at_on i (Some p) = refl

or_else_on : (a b : Option (ℕ × Z.Point)) → I.or_else (crossing a) (crossing b) ≡ crossing (R.or_else a b)
unfolding I.or_else R.or_else
or_else_on None b = refl
or_else_on (Some (i, p)) b = refl

met_at_of : (Q : Z.Point → Type 0) (i : ℕ) (o : Option Z.Point) → OfPoint Q o → OfCrossing Q (R.met_at i o)
met_at_of Q i None h = tt
met_at_of Q i (Some p) h = h

or_else_of : (Q : Z.Point → Type 0) (a b : Option (ℕ × Z.Point)) → OfCrossing Q a → OfCrossing Q b → OfCrossing Q (R.or_else a b)
unfolding R.or_else
or_else_of Q None b h k = k
or_else_of Q (Some (i, p)) b h k = h

module _ (f : Segment → Option Point) (g : Z.Segment → Option Z.Point) where
  first_met_on : (i : ℕ) (ss : List Z.Segment) → Every (λ (s : Z.Segment). f (segment s) ≡ tap (g s)) ss → I.first_met f i (map segment ss) ≡ crossing (R.first_met g i ss)
  unfolding I.first_met R.first_met
  first_met_on i [] h = refl
  first_met_on i (s ∷ ss) h =
      ap (λ (o : Option Point). I.or_else (I.met_at i o) (I.first_met f (suc i) (map segment ss))) h.0
      ∙ ap (I.or_else (I.met_at i (tap (g s)))) (first_met_on (suc i) ss h.1)
      ∙ ap (λ (c : Option (ℕ × Point)). I.or_else c (crossing (R.first_met g (suc i) ss))) (met_at_on i (g s)) ∙ or_else_on (R.met_at i (g s)) (R.first_met g (suc i) ss)

  last_met_on : (i : ℕ) (ss : List Z.Segment) → Every (λ (s : Z.Segment). f (segment s) ≡ tap (g s)) ss → I.last_met f i (map segment ss) ≡ crossing (R.last_met g i ss)
  unfolding I.last_met R.last_met
  last_met_on i [] h = refl
  last_met_on i (s ∷ ss) h =
      ap (λ (o : Option Point). I.or_else (I.last_met f (suc i) (map segment ss)) (I.met_at i o)) h.0
      ∙ ap (λ (c : Option (ℕ × Point)). I.or_else c (I.met_at i (tap (g s)))) (last_met_on (suc i) ss h.1)
      ∙ ap (I.or_else (crossing (R.last_met g (suc i) ss))) (met_at_on i (g s)) ∙ or_else_on (R.last_met g (suc i) ss) (R.met_at i (g s))

module _ (Q : Z.Point → Type 0) (g : Z.Segment → Option Z.Point) where
  first_met_of : (i : ℕ) (ss : List Z.Segment) → Every (λ (s : Z.Segment). OfPoint Q (g s)) ss → OfCrossing Q (R.first_met g i ss)
  unfolding R.first_met
  first_met_of i [] h = tt
  first_met_of i (s ∷ ss) h = or_else_of Q (R.met_at i (g s)) (R.first_met g (suc i) ss) (met_at_of Q i (g s) h.0) (first_met_of (suc i) ss h.1)

  last_met_of : (i : ℕ) (ss : List Z.Segment) → Every (λ (s : Z.Segment). OfPoint Q (g s)) ss → OfCrossing Q (R.last_met g i ss)
  unfolding R.last_met
  last_met_of i [] h = tt
  last_met_of i (s ∷ ss) h = or_else_of Q (R.last_met g (suc i) ss) (R.met_at i (g s)) (last_met_of (suc i) ss h.1) (met_at_of Q i (g s) h.0)

-- ---- the four intersections
vertical_all : (e : Bool) (x : ℤ) (ss : List Z.Segment) → Every (λ (s : Z.Segment). L.on_line e (on x) (point s.start) (point s.end) ≡ tap (Y.on_line e x s.start s.end)) ss
vertical_all e x [] = tt
vertical_all e x (s ∷ ss) = (on_line_on e x s.start s.end, vertical_all e x ss)

first_vertical_on : (r : Z.Route) (x : ℤ) → I.first_vertical_line_intersection (route r) (on x) ≡ crossing (R.first_vertical_line_intersection r x)
unfolding I.first_vertical_line_intersection
first_vertical_on r x = ap (I.first_met (λ s. L.on_line false (on x) s.start s.end) 0) (runs_on r) ∙ first_met_on (λ s. L.on_line false (on x) s.start s.end) (λ s. Y.on_line false x s.start s.end) 0 (Z.runs r) (vertical_all false x (Z.runs r))

last_vertical_on : (r : Z.Route) (x : ℤ) → I.last_vertical_line_intersection (route r) (on x) ≡ crossing (R.last_vertical_line_intersection r x)
unfolding I.last_vertical_line_intersection
last_vertical_on r x = ap (I.last_met (λ s. L.on_line true (on x) s.start s.end) 0) (runs_on r) ∙ last_met_on (λ s. L.on_line true (on x) s.start s.end) (λ s. Y.on_line true x s.start s.end) 0 (Z.runs r) (vertical_all true x (Z.runs r))

trunk_all : (role : Role) (p x : ℤ) (ss : List Z.Segment) → Pitch p → Every (λ (s : Z.Segment). Kept s.start × Kept s.end) ss → Every (λ (s : Z.Segment). G.on_trunk role (on p) (on x) (point s.start) (point s.end) ≡ tap (Y.on_trunk role p x s.start s.end)) ss
trunk_all role p x [] h k = tt
trunk_all role p x (s ∷ ss) h k = (on_trunk_on role p x s.start s.end (let a = k.0.0.0 in omega arith) (let a = k.0.1.0 in omega arith), trunk_all role p x ss h k.1)

pub first_trunk_on : (r : Z.Route) (x : ℤ) (role : Role) (p : ℤ) → Pitch p → Every Kept r → I.first_shared_trunk_intersection (route r) (on x) role (on p) ≡ crossing (R.first_shared_trunk_intersection r x role p)
unfolding I.first_shared_trunk_intersection
first_trunk_on r x role p h k = ap (I.first_met (λ s. G.on_trunk role (on p) (on x) s.start s.end) 0) (runs_on r) ∙ first_met_on (λ s. G.on_trunk role (on p) (on x) s.start s.end) (λ s. Y.on_trunk role p x s.start s.end) 0 (Z.runs r) (trunk_all role p x (Z.runs r) h (runs_every Kept r k))

pub last_trunk_on : (r : Z.Route) (x : ℤ) (role : Role) (p : ℤ) → Pitch p → Every Kept r → I.last_shared_trunk_intersection (route r) (on x) role (on p) ≡ crossing (R.last_shared_trunk_intersection r x role p)
unfolding I.last_shared_trunk_intersection
last_trunk_on r x role p h k = ap (I.last_met (λ s. G.on_trunk role (on p) (on x) s.start s.end) 0) (runs_on r) ∙ last_met_on (λ s. G.on_trunk role (on p) (on x) s.start s.end) (λ s. Y.on_trunk role p x s.start s.end) 0 (Z.runs r) (trunk_all role p x (Z.runs r) h (runs_every Kept r k))

-- what is met has the line's x, or is a point of the route
line_of : (e : Bool) (x : ℤ) (a b : Z.Point) → Within x → Kept a → Kept b → OfPoint Kept (Y.on_line e x a b)
line_of e x a b h p q = go (Y.on_level x a b) (Y.on_upright x a b) e
  where
    go : (s t e : Bool) → OfPoint Kept (cond s (Some (record { x = x; y = a.y })) (cond t (cond e (Some b) (Some a)) None))
    go true t e = (h, p.1)
    go false true true = q
    go false true false = p
    go false false e = tt

-- a tap: its x is the line's, its y a point's
abbrev pub At : ℤ → Z.Point → Type 0
At x p = (p.x ≡ x) × Within p.y

trunk_of : (role : Role) (p x : ℤ) (a b : Z.Point) → Kept a → OfPoint (At x) (Y.on_trunk role p x a b)
trunk_of role p x a b h = go (S.holds x (S.stretch role p a b))
  where
    go : (t : Bool) → OfPoint (At x) (cond t (Some (record { x = x; y = a.y })) None)
    go true = (refl, h.1)
    go false = tt

lines_of : (e : Bool) (x : ℤ) (r : Z.Route) → Within x → Every Kept r → Every (λ (s : Z.Segment). OfPoint Kept (Y.on_line e x s.start s.end)) (Z.runs r)
lines_of e x r h k = every_map (λ (s : Z.Segment). Kept s.start × Kept s.end) (λ (s : Z.Segment). OfPoint Kept (Y.on_line e x s.start s.end)) (Z.runs r) (λ s p. line_of e x s.start s.end h p.0 p.1) (runs_every Kept r k)

trunks_of : (role : Role) (p x : ℤ) (r : Z.Route) → Every Kept r → Every (λ (s : Z.Segment). OfPoint (At x) (Y.on_trunk role p x s.start s.end)) (Z.runs r)
trunks_of role p x r k = every_map (λ (s : Z.Segment). Kept s.start × Kept s.end) (λ (s : Z.Segment). OfPoint (At x) (Y.on_trunk role p x s.start s.end)) (Z.runs r) (λ s q. trunk_of role p x s.start s.end q.0) (runs_every Kept r k)

pub first_trunk_of : (r : Z.Route) (x : ℤ) (role : Role) (p : ℤ) → Every Kept r → OfCrossing (At x) (R.first_shared_trunk_intersection r x role p)
first_trunk_of r x role p k = first_met_of (At x) (λ s. Y.on_trunk role p x s.start s.end) 0 (Z.runs r) (trunks_of role p x r k)

pub last_trunk_of : (r : Z.Route) (x : ℤ) (role : Role) (p : ℤ) → Every Kept r → OfCrossing (At x) (R.last_shared_trunk_intersection r x role p)
last_trunk_of r x role p k = last_met_of (At x) (λ s. Y.on_trunk role p x s.start s.end) 0 (Z.runs r) (trunks_of role p x r k)

-- ---- push_point
aligned_on : (a b p : Z.Point) → P.aligned (point a) (point b) (point p) ≡ R.aligned a b p
aligned_on a b p = rw (eq_on a.x b.x, eq_on b.x p.x, eq_on a.y b.y, eq_on b.y p.y)

replaces_on : (r : Z.Route) (p : Z.Point) → Every Lies r → Lies p → P.replaces (route r) (point p) ≡ R.replaces r p
unfolding P.replaces R.replaces
replaces_on [] p h k = refl
replaces_on (a ∷ []) p h k = matches_on a p h.0 k
replaces_on (a ∷ b ∷ []) p h k = ap (λ (t : Bool). t || P.aligned (point a) (point b) (point p)) (matches_on b p h.1.0 k) ∙ ap (λ (t : Bool). Y.matches b p || t) (aligned_on a b p)
replaces_on (a ∷ b ∷ c ∷ r) p h k = replaces_on (b ∷ c ∷ r) p h.1 k

drop_last_on : (r : Z.Route) → drop_last (route r) ≡ route (drop_last r)
drop_last_on [] = refl
drop_last_on (a ∷ []) = refl
drop_last_on (a ∷ b ∷ r) = ap (λ (l : Route). point a ∷ l) (drop_last_on (b ∷ r))

drop_last_of : (Q : Z.Point → Type 0) (r : Z.Route) → Every Q r → Every Q (drop_last r)
drop_last_of Q [] h = tt
drop_last_of Q (a ∷ []) h = tt
drop_last_of Q (a ∷ b ∷ r) h = (h.0, drop_last_of Q (b ∷ r) h.1)

pub append_of : (Q : Z.Point → Type 0) (r s : Z.Route) → Every Q r → Every Q s → Every Q (r ++ s)
append_of Q [] s h k = k
append_of Q (a ∷ r) s h k = (h.0, append_of Q r s h.1 k)

push_on : (r : Z.Route) (p : Z.Point) → Every Lies r → Lies p → P.push_point (route r) (point p) ≡ route (R.push_point r p)
unfolding P.push_point R.push_point
push_on r p h k = ap (λ (t : Bool). cond t (drop_last (route r)) (route r) ++ (point p ∷ [])) (replaces_on r p h k) ∙ ap (λ (l : Route). cond (R.replaces r p) l (route r) ++ (point p ∷ [])) (drop_last_on r) ∙ go (R.replaces r p)
  where
    go : (t : Bool) → cond t (route (drop_last r)) (route r) ++ (point p ∷ []) ≡ route (cond t (drop_last r) r ++ (p ∷ []))
    go true = sym (map_append point (drop_last r) (p ∷ []))
    go false = sym (map_append point r (p ∷ []))

push_of : (Q : Z.Point → Type 0) (r : Z.Route) (p : Z.Point) → Every Q r → Q p → Every Q (R.push_point r p)
unfolding R.push_point
push_of Q r p h k = go (R.replaces r p)
  where
    go : (t : Bool) → Every Q (cond t (drop_last r) r ++ (p ∷ []))
    go true = append_of Q (drop_last r) (p ∷ []) (drop_last_of Q r h) (k, tt)
    go false = append_of Q r (p ∷ []) h (k, tt)

pub push_points_on : (r ps : Z.Route) → Every Lies r → Every Lies ps → P.push_points (route r) (route ps) ≡ route (R.push_points r ps)
unfolding P.push_points R.push_points
push_points_on r [] h k = refl
push_points_on r (p ∷ ps) h k = ap (λ (l : Route). P.push_points l (route ps)) (push_on r p h k.0) ∙ push_points_on (R.push_point r p) ps (push_of Lies r p h k.0) k.1

pub push_points_of : (Q : Z.Point → Type 0) (r ps : Z.Route) → Every Q r → Every Q ps → Every Q (R.push_points r ps)
unfolding R.push_points
push_points_of Q r [] h k = h
push_points_of Q r (p ∷ ps) h k = push_points_of Q (R.push_point r p) ps (push_of Q r p h k.0) k.1

pushed_on : (ps : Z.Route) (qs : Route) → qs ≡ route ps → Every Kept ps → F.pushed qs ≡ option_route (R.pushed ps)
pushed_on ps qs e h = ap (λ (l : Route). Some (P.push_points [] l)) e ∙ ap Some (push_points_on [] ps tt (route_lies ps h))

-- ---- the rewritings
abbrev pub OfRoute : Option Z.Route → Type 0
OfRoute None = Unit {0}
OfRoute (Some r) = Every Kept r

map_take : (n : ℕ) (r : Z.Route) → take n (route r) ≡ route (take n r)
map_take zero r = refl
map_take (suc n) [] = refl
map_take (suc n) (p ∷ r) = ap (λ (l : Route). point p ∷ l) (map_take n r)

map_drop : (n : ℕ) (r : Z.Route) → drop n (route r) ≡ route (drop n r)
map_drop zero r = refl
map_drop (suc n) [] = refl
map_drop (suc n) (p ∷ r) = map_drop n r

take_of : (n : ℕ) (r : Z.Route) → Every Kept r → Every Kept (take n r)
take_of zero r h = tt
take_of (suc n) [] h = tt
take_of (suc n) (p ∷ r) h = (h.0, take_of n r h.1)

drop_of : (n : ℕ) (r : Z.Route) → Every Kept r → Every Kept (drop n r)
drop_of zero r h = h
drop_of (suc n) [] h = tt
drop_of (suc n) (p ∷ r) h = drop_of n r h.1

module _ (r : Z.Route) (kr : Every Kept r) (t : Z.Point) (kt : Kept t) where
  if_at_tap : (p : Z.Point) (b : Bool) (qs : Route) (ps : Z.Route) → qs ≡ route ps → Every Kept ps → cond b (F.pushed qs) None ≡ option_route (cond b (R.pushed ps) None)
  if_at_tap p true qs ps e h = pushed_on ps qs e h
  if_at_tap p false qs ps e h = refl

  pub input_trunk_on : (p : ℤ) → Pitch p → F.rewrite_input_shared_trunk (route r) (point t) (on p) ≡ option_route (R.rewrite_input_shared_trunk r t p)
  unfolding F.rewrite_input_shared_trunk
  input_trunk_on p h = ap (λ (c : Option (ℕ × Point)). F.where_met c (λ i q. cond (C.matches q (point t)) (F.pushed (point t ∷ drop (suc i) (route r))) None)) (first_trunk_on r t.x Input p h kr) ∙ go (R.first_shared_trunk_intersection r t.x Input p) (first_trunk_of r t.x Input p kr)
    where
      go : (c : Option (ℕ × Z.Point)) → OfCrossing (At t.x) c → F.where_met (crossing c) (λ i q. cond (C.matches q (point t)) (F.pushed (point t ∷ drop (suc i) (route r))) None) ≡ option_route (R.where_met c (λ i q. cond (Y.matches q t) (R.pushed (t ∷ drop (suc i) r)) None))
      go None k = unfold F.where_met R.where_met in refl
      go (Some (i, q)) k =
          unfold F.where_met R.where_met in
          ap (λ (b : Bool). cond b (F.pushed (point t ∷ drop (suc i) (route r))) None) (matches_on q t (kept_lies q (subst Within (sym k.0) kt.0, k.1)) (kept_lies t kt))
          ∙ if_at_tap q (Y.matches q t) (point t ∷ drop (suc i) (route r)) (t ∷ drop (suc i) r) (ap (λ (l : Route). point t ∷ l) (map_drop (suc i) r)) (kt, drop_of (suc i) r kr)

  pub output_trunk_on : (p : ℤ) → Pitch p → F.rewrite_output_shared_trunk (route r) (point t) (on p) ≡ option_route (R.rewrite_output_shared_trunk r t p)
  unfolding F.rewrite_output_shared_trunk
  output_trunk_on p h = ap (λ (c : Option (ℕ × Point)). F.where_met c (λ i q. cond (C.matches q (point t)) (F.pushed (take (suc i) (route r) ++ (point t ∷ []))) None)) (last_trunk_on r t.x Output p h kr) ∙ go (R.last_shared_trunk_intersection r t.x Output p) (last_trunk_of r t.x Output p kr)
    where
      go : (c : Option (ℕ × Z.Point)) → OfCrossing (At t.x) c → F.where_met (crossing c) (λ i q. cond (C.matches q (point t)) (F.pushed (take (suc i) (route r) ++ (point t ∷ []))) None) ≡ option_route (R.where_met c (λ i q. cond (Y.matches q t) (R.pushed (take (suc i) r ++ (t ∷ []))) None))
      go None k = unfold F.where_met R.where_met in refl
      go (Some (i, q)) k =
          unfold F.where_met R.where_met in
          ap (λ (b : Bool). cond b (F.pushed (take (suc i) (route r) ++ (point t ∷ []))) None) (matches_on q t (kept_lies q (subst Within (sym k.0) kt.0, k.1)) (kept_lies t kt))
          ∙ if_at_tap q (Y.matches q t) (take (suc i) (route r) ++ (point t ∷ [])) (take (suc i) r ++ (t ∷ [])) (ap (λ (l : Route). l ++ (point t ∷ [])) (map_take (suc i) r) ∙ sym (map_append point (take (suc i) r) (t ∷ []))) (append_of Kept (take (suc i) r) (t ∷ []) (take_of (suc i) r kr) (kt, tt))

  -- a depth that keeps the corridor in range
  abbrev pub Reach : ℤ → Type 0
  Reach d = nat_abs t.x + nat_abs d ≤ 2 ^ 46

  corridor_in : (d : ℤ) → Reach d → Within (t.x +ℤ d)
  corridor_in d h = let k = add_size t.x d in omega arith

  corridor_out : (d : ℤ) → Reach d → Within (t.x -ℤ d)
  corridor_out d h = let k = subtract_size t.x d in omega arith

  pub input_route_on : (d : ℤ) → Reach d → F.rewrite_input_route (route r) (point t) (on d) ≡ option_route (R.rewrite_input_route r t d)
  unfolding F.rewrite_input_route F.corridor_x
  input_route_on d h =
      ap (λ (x : Float). F.where_met (I.first_vertical_line_intersection (route r) x) (λ i q. F.pushed (point t ∷ F.corner x (point t) ∷ q ∷ drop (suc i) (route r)))) (add_on t.x d (omega arith))
      ∙ ap (λ (c : Option (ℕ × Point)). F.where_met c (λ i q. F.pushed (point t ∷ point (R.corner (t.x +ℤ d) t) ∷ q ∷ drop (suc i) (route r)))) (first_vertical_on r (t.x +ℤ d))
      ∙ go (R.first_vertical_line_intersection r (t.x +ℤ d)) (first_met_of Kept (λ s. Y.on_line false (t.x +ℤ d) s.start s.end) 0 (Z.runs r) (lines_of false (t.x +ℤ d) r (corridor_in d h) kr))
    where
      go : (c : Option (ℕ × Z.Point)) → OfCrossing Kept c → F.where_met (crossing c) (λ i q. F.pushed (point t ∷ point (R.corner (t.x +ℤ d) t) ∷ q ∷ drop (suc i) (route r))) ≡ option_route (R.where_met c (λ i q. R.pushed (t ∷ R.corner (t.x +ℤ d) t ∷ q ∷ drop (suc i) r)))
      go None k = unfold F.where_met R.where_met in refl
      go (Some (i, q)) k =
          unfold F.where_met R.where_met in
          pushed_on (t ∷ R.corner (t.x +ℤ d) t ∷ q ∷ drop (suc i) r) (point t ∷ point (R.corner (t.x +ℤ d) t) ∷ point q ∷ drop (suc i) (route r)) (ap (λ (l : Route). point t ∷ point (R.corner (t.x +ℤ d) t) ∷ point q ∷ l) (map_drop (suc i) r)) (kt, ((corridor_in d h, kt.1), (k, drop_of (suc i) r kr)))

  pub output_route_on : (d : ℤ) → Reach d → F.rewrite_output_route (route r) (point t) (on d) ≡ option_route (R.rewrite_output_route r t d)
  unfolding F.rewrite_output_route F.corridor_x
  output_route_on d h =
      ap (λ (x : Float). F.where_met (I.last_vertical_line_intersection (route r) x) (λ i q. F.pushed (take (suc i) (route r) ++ (q ∷ F.corner x (point t) ∷ point t ∷ [])))) (sub_on t.x d (omega arith))
      ∙ ap (λ (c : Option (ℕ × Point)). F.where_met c (λ i q. F.pushed (take (suc i) (route r) ++ (q ∷ point (R.corner (t.x -ℤ d) t) ∷ point t ∷ [])))) (last_vertical_on r (t.x -ℤ d))
      ∙ go (R.last_vertical_line_intersection r (t.x -ℤ d)) (last_met_of Kept (λ s. Y.on_line true (t.x -ℤ d) s.start s.end) 0 (Z.runs r) (lines_of true (t.x -ℤ d) r (corridor_out d h) kr))
    where
      go : (c : Option (ℕ × Z.Point)) → OfCrossing Kept c → F.where_met (crossing c) (λ i q. F.pushed (take (suc i) (route r) ++ (q ∷ point (R.corner (t.x -ℤ d) t) ∷ point t ∷ []))) ≡ option_route (R.where_met c (λ i q. R.pushed (take (suc i) r ++ (q ∷ R.corner (t.x -ℤ d) t ∷ t ∷ []))))
      go None k = unfold F.where_met R.where_met in refl
      go (Some (i, q)) k =
          unfold F.where_met R.where_met in
          pushed_on (take (suc i) r ++ (q ∷ R.corner (t.x -ℤ d) t ∷ t ∷ [])) (take (suc i) (route r) ++ (point q ∷ point (R.corner (t.x -ℤ d) t) ∷ point t ∷ []))
          (ap (λ (l : Route). l ++ (point q ∷ point (R.corner (t.x -ℤ d) t) ∷ point t ∷ [])) (map_take (suc i) r) ∙ sym (map_append point (take (suc i) r) (q ∷ R.corner (t.x -ℤ d) t ∷ t ∷ [])))
          (append_of Kept (take (suc i) r) (q ∷ R.corner (t.x -ℤ d) t ∷ t ∷ []) (take_of (suc i) r kr) (k, ((corridor_out d h, kt.1), (kt, tt))))

  -- ---- and their points stay in range
  if_of : (b : Bool) (ps : Z.Route) → Every Kept ps → OfRoute (cond b (R.pushed ps) None)
  if_of true ps h = push_points_of Kept [] ps tt h
  if_of false ps h = tt

  pub input_trunk_of : (p : ℤ) → OfRoute (R.rewrite_input_shared_trunk r t p)
  input_trunk_of p = go (R.first_shared_trunk_intersection r t.x Input p)
    where
      go : (c : Option (ℕ × Z.Point)) → OfRoute (R.where_met c (λ i q. cond (Y.matches q t) (R.pushed (t ∷ drop (suc i) r)) None))
      go None = unfold R.where_met in tt
      go (Some (i, q)) = unfold R.where_met in if_of (Y.matches q t) (t ∷ drop (suc i) r) (kt, drop_of (suc i) r kr)

  pub output_trunk_of : (p : ℤ) → OfRoute (R.rewrite_output_shared_trunk r t p)
  output_trunk_of p = go (R.last_shared_trunk_intersection r t.x Output p)
    where
      go : (c : Option (ℕ × Z.Point)) → OfRoute (R.where_met c (λ i q. cond (Y.matches q t) (R.pushed (take (suc i) r ++ (t ∷ []))) None))
      go None = unfold R.where_met in tt
      go (Some (i, q)) = unfold R.where_met in if_of (Y.matches q t) (take (suc i) r ++ (t ∷ [])) (append_of Kept (take (suc i) r) (t ∷ []) (take_of (suc i) r kr) (kt, tt))

  pub input_route_of : (d : ℤ) → Reach d → OfRoute (R.rewrite_input_route r t d)
  input_route_of d h = go (R.first_vertical_line_intersection r (t.x +ℤ d)) (first_met_of Kept (λ s. Y.on_line false (t.x +ℤ d) s.start s.end) 0 (Z.runs r) (lines_of false (t.x +ℤ d) r (corridor_in d h) kr))
    where
      go : (c : Option (ℕ × Z.Point)) → OfCrossing Kept c → OfRoute (R.where_met c (λ i q. R.pushed (t ∷ R.corner (t.x +ℤ d) t ∷ q ∷ drop (suc i) r)))
      go None k = unfold R.where_met in tt
      go (Some (i, q)) k = unfold R.where_met in push_points_of Kept [] (t ∷ R.corner (t.x +ℤ d) t ∷ q ∷ drop (suc i) r) tt (kt, ((corridor_in d h, kt.1), (k, drop_of (suc i) r kr)))

  pub output_route_of : (d : ℤ) → Reach d → OfRoute (R.rewrite_output_route r t d)
  output_route_of d h = go (R.last_vertical_line_intersection r (t.x -ℤ d)) (last_met_of Kept (λ s. Y.on_line true (t.x -ℤ d) s.start s.end) 0 (Z.runs r) (lines_of true (t.x -ℤ d) r (corridor_out d h) kr))
    where
      go : (c : Option (ℕ × Z.Point)) → OfCrossing Kept c → OfRoute (R.where_met c (λ i q. R.pushed (take (suc i) r ++ (q ∷ R.corner (t.x -ℤ d) t ∷ t ∷ []))))
      go None k = unfold R.where_met in tt
      go (Some (i, q)) k = unfold R.where_met in push_points_of Kept [] (take (suc i) r ++ (q ∷ R.corner (t.x -ℤ d) t ∷ t ∷ [])) tt (append_of Kept (take (suc i) r) (q ∷ R.corner (t.x -ℤ d) t ∷ t ∷ []) (take_of (suc i) r kr) (k, ((corridor_out d h, kt.1), (kt, tt))))
