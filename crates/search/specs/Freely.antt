-- The search when visits never run out: what it says, the visits that it takes, and document 01's bound on them. Definitions only.
-- Assumes nothing.
use Rattle.std.specs.Prelude.{Bool, true, false, cond, List, [], ◌∷◌, ℕ, suc, ◌+◌, ◌*◌, Float, Option}
use Rattle.geometry.specs.declared.Role.{Role}
use Rattle.geometry.specs.Stretch.{holds}
use Rattle.search.specs.declared.Outcome.{Outcome}
use Rattle.search.specs.declared.Bounds.{Bounds}
use Rattle.search.specs.Stretches.{all_runs, runs_in}
use Rattle.search.specs.Search.{candidate, onto, in_order, first}

-- whether a stretch of a member holds x
unfoldable pub hits : Float → List (Option (Float × Float)) → Bool
hits x [] = false
hits x (s ∷ ss) = cond (holds x s) true (hits x ss)

-- the runs looked at to find that out
unfoldable pub looks : Float → List (Option (Float × Float)) → ℕ
looks x [] = 0
looks x (s ∷ ss) = cond (holds x s) 1 (suc (looks x ss))

-- document 01's "common": each member has a stretch that holds x
unfoldable pub common : Float → List (List (Option (Float × Float))) → Bool
unfolding hits
common x [] = true
common x (m ∷ ms) = cond (hits x m) (common x ms) false

-- the runs looked at to find that out
unfoldable pub tries : Float → List (List (Option (Float × Float))) → ℕ
unfolding hits looks
tries x [] = 0
tries x (m ∷ ms) = looks x m + cond (hits x m) (tries x ms) 0

-- the common ones of the candidates xs
unfoldable pub commons : List (List (Option (Float × Float))) → List Float → List Float
unfolding common
commons ms [] = []
commons ms (x ∷ xs) = cond (common x ms) (x ∷ commons ms xs) (commons ms xs)

-- the looks that trying them takes
unfoldable pub cost : List (List (Option (Float × Float))) → List Float → ℕ
unfolding tries
cost ms [] = 0
cost ms (x ∷ xs) = tries x ms + cost ms xs

-- the candidates behind those in hand
unfoldable pub candidates_onto : Role → Bounds → List Float → List (Option (Float × Float)) → List Float
candidates_onto role b xs [] = xs
candidates_onto role b xs (s ∷ ss) = candidates_onto role b (onto xs (candidate role b s)) ss

-- the candidates of a search, in the order in which they are tried
abbrev pub candidates : Role → Bounds → List (List (Option (Float × Float))) → List Float
candidates role b ms = in_order role (candidates_onto role b (b.desired ∷ []) (all_runs ms))

-- what the search lists and says when visits never run out
abbrev pub free_xs : Role → Bounds → List (List (Option (Float × Float))) → List Float
free_xs role b ms = commons ms (candidates role b ms)

abbrev pub freely : Role → Bounds → List (List (Option (Float × Float))) → Outcome
freely role b ms = first (free_xs role b ms)

-- the visits that it counts
abbrev pub price : Role → Bounds → List (List (Option (Float × Float))) → ℕ
price role b ms = runs_in ms + cost ms (candidates role b ms)

-- with n runs in all members
abbrev pub bound : List (List (Option (Float × Float))) → ℕ
bound ms = runs_in ms * (runs_in ms + 2)
