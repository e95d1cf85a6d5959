-- The plan in whole numbers over 128: the twin of plan/specs/Plan, name for name, but that there is no refusal 13 in it and a plan is no step. plan_interior_collectors of boundary_bundles.rs. Definitions only.
-- Assumes nothing.
use Rattle.std.specs.Prelude.{ℕ, suc, Bool, false, ◌&&◌, ◌||◌, ℤ, pos, nat_abs, ◌+ℤ◌, ◌-ℤ◌, length, replicate, Option, Some, None}
use Rattle.std.proofs.Math.Bool.{true, not, cond}
use mathlib.Core.List.{List, [], ◌∷◌, ◌++◌, map}
use Rattle.std.proofs.Math.ListN.{get_or, set}
use Rattle.geometry.specs.declared.Role.{Role}
use Rattle.geometry.specs.declared.Role.TheVariants.{Input, Output}
use Rattle.board.specs.declared.Bundle.{Bundle}
use Rattle.board.specs.declared.Member.{Member}
use Rattle.plan.specs.Depths.{same_role}
use Rattle.plan.specs.Plan.{share, Component, walk}
use Rattle.grid_plan.specs.Board.{Point, Board, Route, members_in, pitch_of, parting_pitch}
use Rattle.grid_plan.specs.Depths.{further}
use Rattle.grid_plan.specs.Search.{Bounds, Outcome, Found, Nothing, Spent, Searched, answer, stretch, holds, search_of}
use Rattle.grid_plan.specs.Bounds.{if_at, clamped, bounds_of, trunks, route_of}
use Rattle.grid.specs.On.{below, at_most, smaller, larger, half_of}

-- a bundle with its bounds and, as the desired x, the x that its first search found
pub record Ranged : Type 0 where
  pub bundle : Bundle
  pub bounds : Option Bounds

abbrev pub no_ranged : Ranged
no_ranged = record { bundle = record { id = 0; port = 0; role = Input; width = 0; first = 0; count = 0 }; bounds = None }

abbrev pub ranged_at : List Ranged → ℕ → Ranged
ranged_at ranges i = get_or ranges i no_ranged

abbrev pub role_at : List Ranged → ℕ → Role
role_at ranges i = (ranged_at ranges i).bundle.role

abbrev pub if_between {ℓ} : {A : Type ℓ} → Option Bounds → A → (Bounds → A) → A
if_between None a f = a
if_between (Some r) a f = f r

abbrev pub found? : Option Bounds → Bool
found? r = if_between r false (λ s. true)

abbrev pub minimum_at : List Ranged → ℕ → ℤ
minimum_at ranges i = if_between (ranged_at ranges i).bounds (pos 0) (λ r. r.minimum)

abbrev pub desired_at : List Ranged → ℕ → ℤ
desired_at ranges i = if_between (ranged_at ranges i).bounds (pos 0) (λ r. r.desired)

abbrev pub maximum_at : List Ranged → ℕ → ℤ
maximum_at ranges i = if_between (ranged_at ranges i).bounds (pos 0) (λ r. r.maximum)

abbrev pub initial_x : Ranged → Option ℤ
initial_x s = if_between s.bounds None (λ r. Some r.desired)

-- the x that a search found: the Rust has None for both others
abbrev pub found_x : Outcome → Option ℤ
found_x (Found x) = Some x
found_x Nothing = None
found_x Spent = None

-- the bounds with the x that the first search found as the desired one
abbrev pub narrowed : Option Bounds → Outcome → Option Bounds
narrowed r (Found x) = if_between r None (λ s. Some (record { minimum = s.minimum; desired = x; maximum = s.maximum }))
narrowed r Nothing = None
narrowed r Spent = None

abbrev pub ranged : Bundle → Option Bounds → Outcome → Ranged
ranged u r f = record { bundle = u; bounds = narrowed r f }

-- the planned x of each bundle, and the visits left
pub record Plan : Type 0 where
  pub xs : List (Option ℤ)
  pub left : ℕ

-- the ranges after the first pass, and the visits left
pub record FirstPass : Type 0 where
  pub ranges : List Ranged
  pub left : ℕ

unfoldable pub indices_from : ℕ → List Ranged → List ℕ
indices_from k [] = []
indices_from k (s ∷ ss) = k ∷ indices_from (suc k) ss

-- the bundles of a role, in order
unfoldable pub of_role : Role → List Ranged → List ℕ → List ℕ
of_role role ranges [] = []
of_role role ranges (i ∷ is) = cond (same_role (role_at ranges i) role) (i ∷ of_role role ranges is) (of_role role ranges is)

-- the largest and the smallest of a list that is not empty
unfoldable pub largest : (ℕ → ℤ) → ℤ → List ℕ → ℤ
largest f x [] = x
largest f x (i ∷ is) = largest f (larger x (f i)) is

unfoldable pub smallest : (ℕ → ℤ) → ℤ → List ℕ → ℤ
smallest f x [] = x
smallest f x (i ∷ is) = smallest f (smaller x (f i)) is

unfoldable pub drop_all : List ℕ → List (Option ℤ) → List (Option ℤ)
drop_all [] xs = xs
drop_all (i ∷ is) xs = drop_all is (set xs i None)

-- input_shared_trunk_divergence_x, one route: the end of its first run whose stretch holds x
unfoldable pub run_end : Role → ℤ → ℤ → Point → List Point → Option ℤ
run_end role pitch x p [] = None
run_end role pitch x p (q ∷ qs) = cond (holds x (stretch role pitch p q)) (Some q.x) (run_end role pitch x q qs)

abbrev pub diverges_at : Role → ℤ → ℤ → Route → Option ℤ
diverges_at role pitch x [] = None
diverges_at role pitch x (p ∷ ps) = run_end role pitch x p ps

abbrev pub exceeds : Option ℤ → ℤ → Bool
exceeds None limit = false
exceeds (Some r) limit = below limit r

-- collector_has_lane_separation: a distance of at least the pitch
unfoldable pub clear : ℤ → ℤ → List ℤ → Bool
clear pitch x [] = true
clear pitch x (y ∷ ys) = cond (at_most pitch (pos (nat_abs (y -ℤ x)))) (clear pitch x ys) false

unfoldable pub largest_of : ℤ → List ℤ → ℤ
largest_of x [] = x
largest_of x (y ∷ ys) = largest_of (larger x y) ys

unfoldable pub smallest_of : ℤ → List ℤ → ℤ
smallest_of x [] = x
smallest_of x (y ∷ ys) = smallest_of (smaller x y) ys

-- the x taken so far, by role
pub record Lanes : Type 0 where
  pub input : List ℤ
  pub output : List ℤ

abbrev pub lanes_of : Role → Lanes → List ℤ
lanes_of Input l = l.input
lanes_of Output l = l.output

abbrev pub add_lane : Role → Option ℤ → Lanes → Lanes
add_lane role None l = l
add_lane Input (Some x) l = record { input = l.input ++ (x ∷ []); output = l.output }
add_lane Output (Some x) l = record { input = l.input; output = l.output ++ (x ∷ []) }

-- both are even here, so the half is whole
abbrev pub middle : ℤ → ℤ → ℤ
middle deepest separate = separate +ℤ half_of (deepest -ℤ separate)

-- `input_split`
abbrev pub input_split : ℤ → ℤ → ℤ → ℤ → ℤ → ℤ
input_split pitch low limit deepest earliest = clamped (middle deepest (earliest -ℤ pitch)) low (limit -ℤ pitch)

-- `input_limit`, of an input's planned x
abbrev pub input_limit : ℤ → ℤ → Option ℤ → Option ℤ
input_limit pitch limit x = Some (smaller (if_at x limit (λ y. y)) (limit -ℤ pitch))

-- past all that are taken, but within the bounds
abbrev pub moved : ℤ → Role → Bounds → ℤ → List ℤ → ℤ
moved pitch Input r x ys = clamped (smallest_of x ys -ℤ pitch) r.minimum r.maximum
moved pitch Output r x ys = clamped (largest_of x ys +ℤ pitch) r.minimum r.maximum

abbrev pub cut_to : Role → Bounds → ℤ → Bounds
cut_to Input r d = record { minimum = r.minimum; desired = d; maximum = d }
cut_to Output r d = record { minimum = d; desired = d; maximum = r.maximum }

abbrev pub if_clear : ℤ → Option ℤ → List ℤ → Option ℤ
if_clear pitch x ys = if_at x None (λ y. cond (clear pitch y ys) (Some y) None)

module _ (b : Board) (routes : List Route) where
  -- ---- adjacency: only bundles whose first search found an x, of two roles, with a route in common
  abbrev pub joined : Ranged → Ranged → Bool
  joined s t =
      found? s.bounds && (found? t.bounds && (not (same_role s.bundle.role t.bundle.role) && share (members_in b s.bundle) (members_in b t.bundle)))

  unfoldable pub near_from : Ranged → ℕ → List Ranged → List ℕ
  unfolding share
  near_from s j [] = []
  near_from s j (t ∷ ts) = cond (joined s t) (j ∷ near_from s (suc j) ts) (near_from s (suc j) ts)

  -- `adjacent[i]`, rising
  abbrev pub near : List Ranged → ℕ → List ℕ
  near ranges i = near_from (ranged_at ranges i) 0 ranges

  -- the component of `start`: each is marked when it is pushed
  abbrev pub component_of : List Ranged → ℕ → List Bool → Component
  component_of ranges start seen = walk (near ranges) (length ranges) (set seen start true) (start ∷ [])

  -- ---- required_output_collector_x
  -- input_shared_trunk_divergence_x: the furthest of the members' ends; absent where a member has none
  unfoldable pub divergence : Bundle → ℤ → Option ℤ → List Member → Option ℤ
  unfolding run_end
  divergence u x d [] = d
  divergence u x d (m ∷ ms) = if_at (diverges_at u.role (pitch_of b u) x (route_of b routes m)) None (λ e. divergence u x (further d e) ms)

  -- what one input asks of the outputs
  abbrev pub asked : Bundle → Option ℤ → Option ℤ
  asked u x = if_at x None (λ c. if_at (divergence u c None (members_in b u)) None (λ d. Some (larger (c +ℤ parting_pitch b) (d +ℤ parting_pitch b))))

  unfoldable pub required : List Ranged → List (Option ℤ) → Option ℤ → List ℕ → Option ℤ
  unfolding divergence
  required ranges xs r [] = r
  required ranges xs r (i ∷ is) = required ranges xs (if_at (asked (ranged_at ranges i).bundle (get_or xs i None)) r (further r)) is

  abbrev pub seek_in : Bundle → Option Bounds → ℕ → Searched
  seek_in u None v = answer Nothing v
  seek_in u (Some r) v = search_of u.role r (trunks b routes u) v

  -- interior_collector_range_bounded
  abbrev pub seek : Bundle → Option ℤ → Option ℤ → ℕ → Searched
  seek u lower upper v = seek_in u (bounds_of b routes u lower upper) v

  -- ---- the first pass: interior_collector_range of each bundle in job order
  unfoldable pub first_pass : List Bundle → ℕ → FirstPass
  unfolding bounds_of
  first_pass [] v = record { ranges = []; left = v }
  first_pass (u ∷ us) v =
      let s = seek u None None v in
      let rest = first_pass us s.left in
      record { ranges = ranged u (bounds_of b routes u None None) s.outcome ∷ rest.ranges; left = rest.left }

  -- ---- one component
  -- bundles are searched anew, in order, each between bounds that may hang on its planned x
  unfoldable pub again : List Ranged → (Option ℤ → Option ℤ) → (Option ℤ → Option ℤ) → List ℕ → Plan → Plan
  unfolding bounds_of
  again ranges lower upper [] p = p
  again ranges lower upper (i ∷ is) p =
      let x = get_or p.xs i None in
      let s = seek (ranged_at ranges i).bundle (lower x) (upper x) p.left in
      again ranges lower upper is (record { xs = set p.xs i (found_x s.outcome); left = s.left })

  -- the inputs are held below the outputs' limit if what they ask lies above it
  abbrev pub limited : List Ranged → ℤ → List ℕ → Plan → Plan
  limited ranges limit inputs p =
      cond (exceeds (required ranges p.xs None inputs) limit)
      (again ranges (λ x. None) (input_limit (parting_pitch b) limit) inputs p) p

  -- then the outputs keep clear of what the inputs ask
  abbrev pub outputs_last : List Ranged → List ℕ → List ℕ → Plan → Plan
  outputs_last ranges inputs outputs p = again ranges (λ x. required ranges p.xs None inputs) (λ x. None) outputs p

  -- the inputs are split from the outputs if the deepest comes too near to the earliest
  abbrev pub split : List Ranged → ℤ → ℤ → ℤ → ℤ → List ℕ → Plan → Plan
  split ranges low limit deepest earliest inputs p =
      cond (below earliest (deepest +ℤ parting_pitch b))
      (again ranges (λ x. None) (λ x. Some (input_split (parting_pitch b) low limit deepest earliest)) inputs p)
      p

  abbrev pub settle : List Ranged → List ℕ → ℤ → ℤ → ℤ → ℤ → List ℕ → List ℕ → Plan → Plan
  settle ranges order low limit deepest earliest inputs outputs p =
      cond (below limit (low +ℤ parting_pitch b))
      (record { xs = drop_all order p.xs; left = p.left })
      (outputs_last ranges inputs outputs (limited ranges limit inputs (split ranges low limit deepest earliest inputs p)))

  -- a component of one role only is left as it is
  abbrev pub treat : List Ranged → List ℕ → List ℕ → List ℕ → Plan → Plan
  treat ranges order [] outputs p = p
  treat ranges order (i ∷ is) [] p = p
  treat ranges order (i ∷ is) (o ∷ os) p =
      settle ranges order
      (largest (minimum_at ranges) (minimum_at ranges i) is) (smallest (maximum_at ranges) (maximum_at ranges o) os)
      (largest (desired_at ranges) (desired_at ranges i) is) (smallest (desired_at ranges) (desired_at ranges o) os)
      (i ∷ is) (o ∷ os) p

  abbrev pub treated : List Ranged → List ℕ → Plan → Plan
  treated ranges order p = treat ranges order (of_role Input ranges order) (of_role Output ranges order) p

  -- each bundle that found an x and is in no component yet starts one
  unfoldable pub components : List Ranged → List ℕ → List Bool → Plan → Plan
  unfolding near_from walk of_role largest smallest drop_all required again
  components ranges [] seen p = p
  components ranges (i ∷ is) seen p =
      cond (get_or seen i true || not (found? (ranged_at ranges i).bounds)) (components ranges is seen p)
      (components ranges is (component_of ranges i seen).seen (treated ranges (component_of ranges i seen).order p))

  -- ---- the separation of collectors of one role
  abbrev pub look_beside : Ranged → ℤ → List ℤ → ℕ → Searched
  look_beside s x ys v =
      if_between s.bounds (answer Nothing v)
      (λ r. search_of s.bundle.role (cut_to s.bundle.role r (moved (pitch_of b s.bundle) s.bundle.role r x ys)) (trunks b routes s.bundle) v)

  -- one bundle: its x stays if it is clear of those taken, and otherwise is sought anew
  abbrev pub beside : Ranged → Option ℤ → List ℤ → ℕ → Searched
  beside s None ys v = answer Nothing v
  beside s (Some x) ys v = cond (clear (pitch_of b s.bundle) x ys) (answer (Found x) v) (look_beside s x ys v)

  unfoldable pub separated : List Ranged → List (Option ℤ) → Lanes → ℕ → Plan
  unfolding clear smallest_of largest_of
  separated [] xs l v = record { xs = []; left = v }
  separated (s ∷ ss) [] l v = record { xs = []; left = v }
  separated (s ∷ ss) (x ∷ xs) l v =
      let t = beside s x (lanes_of s.bundle.role l) v in
      let y = if_clear (pitch_of b s.bundle) (found_x t.outcome) (lanes_of s.bundle.role l) in
      let rest = separated ss xs (add_lane s.bundle.role y l) t.left in
      record { xs = y ∷ rest.xs; left = rest.left }

  -- ---- plan_interior_collectors
  abbrev pub separated_if : Bool → List Ranged → Plan → Plan
  separated_if false ranges p = p
  separated_if true ranges p = separated ranges p.xs (record { input = []; output = [] }) p.left

  abbrev pub plan_from : Bool → FirstPass → Plan
  plan_from separate s =
      separated_if separate s.ranges
      (components s.ranges (indices_from 0 s.ranges) (replicate (length s.ranges) false) (record { xs = map initial_x s.ranges; left = s.left }))

  -- plan_interior_collectors, each search paid for
  abbrev pub plan_of : Bool → ℕ → Plan
  plan_of separate v = plan_from separate (first_pass b.bundles v)
