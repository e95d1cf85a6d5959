-- Every x that a search finds lies in a stretch of a given route.
-- Assumes nothing.
use Rattle.std.specs.Prelude.{ℕ, ◌-◌, ◌<◌, ◌≡◌, Bool, leb, length, drop, Float, Option}
use Rattle.std.proofs.Math.Path.{refl}
use Rattle.std.proofs.Common.{sym, subst, true≢false, arith, length-take, length-drop}
use Rattle.std.proofs.Math.Bool.{true, false, cond}
use mathlib.Core.List.{List, [], ◌∷◌, map}
use Rattle.geometry.specs.declared.Point.{Point}
use Rattle.geometry.specs.declared.Role.{Role}
use Rattle.geometry.specs.Points.{Route, runs}
use Rattle.geometry.specs.Stretch.{stretch, holds}
use Rattle.board.specs.declared.Bundle.{Bundle}
use Rattle.board.specs.declared.Member.{Member}
use Rattle.board.specs.Board.{Board}
use Rattle.search.specs.declared.Bounds.{Bounds}
use Rattle.search.specs.declared.Outcome.{Outcome}
use Rattle.search.specs.declared.Outcome.TheVariants as outcome
use Rattle.search.specs.declared.Searched.{Searched}
use Rattle.search.specs.Stretches.{stretches, members}
use Rattle.search.specs.Search.{first, answer, search_of}
use Rattle.search.proofs.Count.{search_paid}
use Rattle.search.specs.Freely.{hits, common, commons, candidates, freely, price}
use Rattle.sorting.specs.Lists.{Every}
use Rattle.sorting.specs.Sorted.{every_get_d}
use Rattle.plan.specs.declared.Bound.{Bound}
use Rattle.plan.specs.declared.Bound.TheVariants.{None, At}
use Rattle.plan.specs.Depths.{members_in, parting_pitch}
use Rattle.plan.specs.Bounds.{trunks, route_of}
use Rattle.plan.specs.Plan.{found_x}
use Rattle.plan.proofs.CarriedNumbers.{Windowed, OfBound}

-- ---- the search finds only what every member allows
commons_common : (ms : List (List (Option (Float × Float)))) (xs : List Float) → Every (λ (x : Float). common x ms ≡ true) (commons ms xs)
unfolding commons
commons_common ms [] = tt
commons_common ms (x ∷ xs) = go (common x ms) refl (commons_common ms xs)
  where
    go : (t : Bool) → common x ms ≡ t → Every (λ (y : Float). common y ms ≡ true) (commons ms xs) → Every (λ (y : Float). common y ms ≡ true) (cond t (x ∷ commons ms xs) (commons ms xs))
    go true e h = (e, h)
    go false e h = h

abbrev Common : List (List (Option (Float × Float))) → Outcome → Type 0
Common ms (outcome.Found x) = common x ms ≡ true
Common ms outcome.Nothing = Unit {0}
Common ms outcome.Spent = Unit {0}

first_common : (ms : List (List (Option (Float × Float)))) (xs : List Float) → Every (λ (x : Float). common x ms ≡ true) xs → Common ms (first xs)
first_common ms [] e = tt
first_common ms (x ∷ xs) e = e.0

pub found_common : (role : Role) (r : Bounds) (ms : List (List (Option (Float × Float)))) (v : ℕ) → Common ms (search_of role r ms v).outcome
found_common role r ms v = subst (λ (s : Searched). Common ms s.outcome) (sym (search_paid role r ms v)) (go (leb (price role r ms) v))
  where
    go : (t : Bool) → Common ms (cond t (answer (freely role r ms) (v - price role r ms)) (answer outcome.Spent 0)).outcome
    go true = first_common ms (commons ms (candidates role r ms)) (commons_common ms (candidates role r ms))
    go false = tt

-- ---- what holds of everything
pub any : (o : Bound) → OfBound (λ x. Unit {0}) o
any None = tt
any (At x) = tt

no_points : (r : Route) → Every (λ (p : Point). Unit {0}) r
no_points [] = tt
no_points (p ∷ r) = (tt, no_points r)

pub all_points : (rs : List Route) → Every (Every (λ (p : Point). Unit {0})) rs
all_points [] = tt
all_points (r ∷ rs) = (no_points r, all_points rs)

-- ---- a common x lies in the stretch of a run of a member's route
module _ (b : Board) (routes : List Route) (K : Float → Type 0) (points : Every (Every (λ (p : Point). K p.x)) routes) where
  hits_held : (role : Role) (x : Float) (Z : Type 0) → ((p q : Point) → K p.x → K q.x → holds x (stretch role (parting_pitch b) p q) ≡ true → Z)
      → (r : Route) → Every (λ (p : Point). K p.x) r → hits x (stretches role (parting_pitch b) (runs r)) ≡ true → Z
  unfolding hits stretches runs
  hits_held role x Z f [] e h = absurd (true≢false (sym h))
  hits_held role x Z f (p ∷ []) e h = absurd (true≢false (sym h))
  hits_held role x Z f (p ∷ q ∷ r) e h = go (holds x (stretch role (parting_pitch b) p q)) refl h (hits_held role x Z f (q ∷ r) e.1)
    where
      go : (t : Bool) → holds x (stretch role (parting_pitch b) p q) ≡ t → cond t true (hits x (stretches role (parting_pitch b) (runs (q ∷ r)))) ≡ true → (hits x (stretches role (parting_pitch b) (runs (q ∷ r))) ≡ true → Z) → Z
      go true i k g = f p q e.0 e.1.0 i
      go false i k g = g k

  common_held : (role : Role) (x : Float) (Z : Type 0) → ((p q : Point) → K p.x → K q.x → holds x (stretch role (parting_pitch b) p q) ≡ true → Z)
      → (ms : List Member) → 0 < length ms → common x (members role (parting_pitch b) (map (route_of b routes) ms)) ≡ true → Z
  unfolding common members
  common_held role x Z f [] l e = absurd (omega arith)
  common_held role x Z f (m ∷ ms) l e = go (hits x (stretches role (parting_pitch b) (runs (route_of b routes m)))) refl e
    where
      go : (t : Bool) → hits x (stretches role (parting_pitch b) (runs (route_of b routes m))) ≡ t → cond t (common x (members role (parting_pitch b) (map (route_of b routes) ms))) false ≡ true → Z
      go true i k = hits_held role x Z f (route_of b routes m) (every_get_d (Every (λ (p : Point). K p.x)) routes [] m.edge points tt) i
      go false i k = absurd (true≢false (sym k))

  members_there : (u : Bundle) → Windowed b u → 1 < u.count → 0 < length (members_in b u)
  members_there u w h =
      let d = length-drop u.first b.members in
      let t = length-take u.count (drop u.first b.members) in
      omega arith

  -- what holds of every number in a stretch of a run holds of each x that is found
  pub found_held : (P : Float → Type 0) (u : Bundle) → ((x : Float) (p q : Point) → K p.x → K q.x → holds x (stretch u.role (parting_pitch b) p q) ≡ true → P x)
      → (r : Bounds) (v : ℕ) → Windowed b u → 1 < u.count → OfBound P (found_x (search_of u.role r (trunks b routes u) v).outcome)
  found_held P u f r v w h = go (search_of u.role r (trunks b routes u) v).outcome (found_common u.role r (trunks b routes u) v)
    where
      go : (o : Outcome) → Common (trunks b routes u) o → OfBound P (found_x o)
      go (outcome.Found x) c = common_held u.role x (P x) (f x) (members_in b u) (members_there u w h) c
      go outcome.Nothing c = tt
      go outcome.Spent c = tt
