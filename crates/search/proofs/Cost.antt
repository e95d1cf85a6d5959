-- What the search costs: with n runs in all members, at most n × (n + 2) visits.
-- Assumes nothing.
use Rattle.std.specs.Prelude.{◌≡◌, refl, Bool, true, false, cond, List, [], ◌∷◌, ◌++◌, ℕ, suc, ◌+◌, ◌-◌, ◌*◌, ◌≤◌, length, leb, Float, Option, Some, None}
use Rattle.std.proofs.Common.{◌∙◌, ap, arith, suc-mul, mul_comm, mul-add, mul-le-mul_right, length-append}
use Rattle.geometry.specs.declared.Role.{Role}
use Rattle.geometry.specs.Stretch.{holds}
use Rattle.geometry.specs.declared.Segment.{Segment}
use Rattle.sorting.specs.Sort.{sort_key}
use Rattle.sorting.specs.Sorted.{tried_length}
use Rattle.search.specs.declared.Outcome.TheVariants.{Spent}
use Rattle.search.specs.declared.Bounds.{Bounds}
use Rattle.search.specs.Stretches.{all_runs, runs_in, stretches}
use Rattle.search.specs.Search.{Listing, listing, spent, candidate, onto, falls, common_xs, answer, search_of}
use Rattle.search.proofs.Count.{paid_enough, xs_paid, search_paid}
use Rattle.search.specs.Freely.{hits, looks, common, tries, commons, cost, candidates_onto, candidates, free_xs, freely, price, bound}

pub stretches_length : (role : Role) (pitch : Float) (ss : List Segment) → length (stretches role pitch ss) ≡ length ss
unfolding stretches
stretches_length role pitch [] = refl
stretches_length role pitch (s ∷ ss) = ap suc (stretches_length role pitch ss)

looks_bound : (x : Float) (ss : List (Option (Float × Float))) → looks x ss ≤ length ss
unfolding looks
looks_bound x [] = omega arith
looks_bound x (s ∷ ss) = go (holds x s) (looks_bound x ss)
  where
    go : (t : Bool) → looks x ss ≤ length ss → cond t 1 (suc (looks x ss)) ≤ suc (length ss)
    go true h = omega arith
    go false h = omega arith

tries_bound : (x : Float) (ms : List (List (Option (Float × Float)))) → tries x ms ≤ runs_in ms
unfolding tries all_runs
tries_bound x [] = omega arith
tries_bound x (m ∷ ms) = go (hits x m) (looks_bound x m) (tries_bound x ms) (length-append m (all_runs ms))
  where
    go : (t : Bool) → looks x m ≤ length m → tries x ms ≤ runs_in ms → length (m ++ all_runs ms) ≡ length m + runs_in ms → looks x m + cond t (tries x ms) 0 ≤ length (m ++ all_runs ms)
    go true a b c = omega arith
    go false a b c = omega arith

cost_bound : (ms : List (List (Option (Float × Float)))) (xs : List Float) → cost ms xs ≤ length xs * runs_in ms
unfolding cost
cost_bound ms [] = omega arith
cost_bound ms (x ∷ xs) = omega (arith, tries_bound x ms, cost_bound ms xs, suc-mul (length xs) (runs_in ms))

onto_length : (xs : List Float) (c : Option Float) → length (onto xs c) ≤ length xs + 1
onto_length xs None = omega arith
onto_length xs (Some x) = omega (arith, length-append xs (x ∷ []))

candidates_length : (role : Role) (b : Bounds) (xs : List Float) (ss : List (Option (Float × Float))) → length (candidates_onto role b xs ss) ≤ length xs + length ss
unfolding candidates_onto
candidates_length role b xs [] = omega arith
candidates_length role b xs (s ∷ ss) = omega (arith, candidates_length role b (onto xs (candidate role b s)) ss, onto_length xs (candidate role b s))

-- at most n + 1 candidates are tried
pub candidates_few : (role : Role) (b : Bounds) (ms : List (List (Option (Float × Float)))) → length (candidates role b ms) ≤ runs_in ms + 1
candidates_few role b ms = omega (arith, tried_length (sort_key (falls role)) (candidates_onto role b (b.desired ∷ []) (all_runs ms)), candidates_length role b (b.desired ∷ []) (all_runs ms))

-- document 01: the cost is at most n × (n + 2)
pub price_bound : (role : Role) (b : Bounds) (ms : List (List (Option (Float × Float)))) → price role b ms ≤ bound ms
price_bound role b ms =
    let n = runs_in ms in
    omega (arith, cost_bound ms (candidates role b ms), mul-le-mul_right n (candidates_few role b ms), mul-add n n 2, mul_comm (n + 1) n, mul-add n n 1)

-- with so many visits the search is never spent: it says what it says when visits never run out
pub enough : (role : Role) (b : Bounds) (ms : List (List (Option (Float × Float)))) (v : ℕ) → bound ms ≤ v → search_of role b ms v ≡ answer (freely role b ms) (v - price role b ms)
enough role b ms v h = search_paid role b ms v ∙ paid_enough (answer (freely role b ms)) (answer Spent 0) (price role b ms) v (omega (arith, price_bound role b ms))

-- ---- how long the list is
commons_length : (ms : List (List (Option (Float × Float)))) (xs : List Float) → length (commons ms xs) ≤ length xs
unfolding commons
commons_length ms [] = omega arith
commons_length ms (x ∷ xs) = go (common x ms) (commons_length ms xs)
  where
    go : (t : Bool) → length (commons ms xs) ≤ length xs → length (cond t (x ∷ commons ms xs) (commons ms xs)) ≤ suc (length xs)
    go true h = omega arith
    go false h = omega arith

list_of : Listing → List Float
list_of (listing xs v) = xs
list_of spent = []

-- at most n + 1 numbers are listed
pub listed_few : (role : Role) (b : Bounds) (ms : List (List (Option (Float × Float)))) (v : ℕ) (xs : List Float) (w : ℕ) → listing xs w ≡ common_xs role b ms v → length xs ≤ runs_in ms + 1
unfolding list_of
listed_few role b ms v xs w e = rw (ap list_of (e ∙ xs_paid role b ms v)) (go (leb (price role b ms) v))
  where
    go : (t : Bool) → length (list_of (cond t (listing (free_xs role b ms) (v - price role b ms)) spent)) ≤ runs_in ms + 1
    go true = omega (arith, commons_length ms (candidates role b ms), candidates_few role b ms)
    go false = omega arith
