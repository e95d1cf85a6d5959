-- Each x that a search finds is one of its bounds or an end of a stretch: what holds of all of these holds of it.
-- Assumes nothing.
use Rattle.std.proofs.Common.{sym, subst}
use Rattle.std.specs.Prelude.{ℕ, ◌-◌, Bool, cond, leb, Float, Option, Some, None}
use Rattle.std.proofs.Math.Bool.{true, false}
use mathlib.Core.List.{List, [], ◌∷◌}
use Rattle.std.specs.Float.Ieee.{lt}
use Rattle.binary64.specs.Bools.{either}
use Rattle.binary64.specs.Order.{least, greatest}
use Rattle.geometry.specs.declared.Role.{Role}
use Rattle.geometry.specs.declared.Role.TheVariants.{Input, Output}
use Rattle.search.specs.declared.Bounds.{Bounds}
use Rattle.search.specs.declared.Outcome.TheVariants as outcome
use Rattle.search.specs.declared.Searched.{Searched}
use Rattle.search.specs.Stretches.{all_runs}
use Rattle.search.specs.Search.{nearest, candidate, onto, falls, first, answer, search_of}
use Rattle.search.proofs.Count.{search_paid}
use Rattle.search.specs.Freely.{common, commons, candidates_onto, candidates, freely, price}
use Rattle.sorting.specs.Sort.{sort_key, sorted}
use Rattle.sorting.specs.Sorted.{every_last, every_append, every_sorted, every_distinct}
use Rattle.sorting.specs.Lists.{Every}
use Rattle.plan.specs.Plan.{found_x}
use Rattle.plan.proofs.CarriedNumbers.{OfBound, OfBounds}

module _ (Q : Float → Type 0) where
  abbrev pub OfStretch : Option (Float × Float) → Type 0
  OfStretch None = Unit {0}
  OfStretch (Some (low, high)) = Q low × Q high

  abbrev OfCandidate : Option Float → Type 0
  OfCandidate None = Unit {0}
  OfCandidate (Some x) = Q x

  nearest_of : (role : Role) (low high d : Float) → Q low → Q high → Q d → Q (nearest role low high d)
  nearest_of Input low high d l h s = either (lt d high) d high Q s h
  nearest_of Output low high d l h s = either (lt low d) d low Q s l

  candidate_of : (role : Role) (r : Bounds) (s : Option (Float × Float)) → OfBounds Q r → OfStretch s → OfCandidate (candidate role r s)
  candidate_of role r None b h = tt
  candidate_of role r (Some (low, high)) b h = go (lt (least high r.maximum) (greatest low r.minimum))
    where
      go : (t : Bool) → OfCandidate (cond t None (Some (nearest role (greatest low r.minimum) (least high r.maximum) r.desired)))
      go true = tt
      go false =
          nearest_of role (greatest low r.minimum) (least high r.maximum) r.desired (either (lt low r.minimum) r.minimum low Q b.0 h.0)
          (either (lt r.maximum high) r.maximum high Q b.2 h.1) b.1

  onto_of : (xs : List Float) (c : Option Float) → Every Q xs → OfCandidate c → Every Q (onto xs c)
  onto_of xs None e s = e
  onto_of xs (Some x) e s = every_last Q x xs e s

  gathered_of : (role : Role) (r : Bounds) (xs : List Float) (ss : List (Option (Float × Float))) → OfBounds Q r → Every Q xs → Every OfStretch ss → Every Q (candidates_onto role r xs ss)
  unfolding candidates_onto
  gathered_of role r xs [] b e h = e
  gathered_of role r xs (s ∷ ss) b e h = gathered_of role r (onto xs (candidate role r s)) ss b (onto_of xs (candidate role r s) e (candidate_of role r s b h.0)) h.1

  runs_of : (ms : List (List (Option (Float × Float)))) → Every (Every OfStretch) ms → Every OfStretch (all_runs ms)
  unfolding all_runs
  runs_of [] e = tt
  runs_of (m ∷ ms) e = every_append OfStretch m (all_runs ms) e.0 (runs_of ms e.1)

  commons_of : (ms : List (List (Option (Float × Float)))) (xs : List Float) → Every Q xs → Every Q (commons ms xs)
  unfolding commons
  commons_of ms [] e = tt
  commons_of ms (x ∷ xs) e = go (common x ms) (commons_of ms xs e.1)
    where
      go : (t : Bool) → Every Q (commons ms xs) → Every Q (cond t (x ∷ commons ms xs) (commons ms xs))
      go true h = (e.0, h)
      go false h = h

  first_of : (xs : List Float) → Every Q xs → OfBound Q (found_x (first xs))
  first_of [] e = tt
  first_of (x ∷ xs) e = e.0

  freely_of : (role : Role) (r : Bounds) (ms : List (List (Option (Float × Float)))) → OfBounds Q r → Every (Every OfStretch) ms → OfBound Q (found_x (freely role r ms))
  freely_of role r ms b e =
      let key = sort_key (falls role) in
      let xs = candidates_onto role r (r.desired ∷ []) (all_runs ms) in
      first_of (commons ms (candidates role r ms))
      (commons_of ms (candidates role r ms) (every_distinct key Q (sorted key xs) (every_sorted key Q xs (gathered_of role r (r.desired ∷ []) (all_runs ms) b (b.1, tt) (runs_of ms e)))))

  pub found_made : (role : Role) (r : Bounds) (ms : List (List (Option (Float × Float)))) (v : ℕ) → OfBounds Q r → Every (Every OfStretch) ms → OfBound Q (found_x (search_of role r ms v).outcome)
  found_made role r ms v b e = subst (λ (s : Searched). OfBound Q (found_x s.outcome)) (sym (search_paid role r ms v)) (go (leb (price role r ms) v))
    where
      go : (t : Bool) → OfBound Q (found_x (cond t (answer (freely role r ms) (v - price role r ms)) (answer outcome.Spent 0)).outcome)
      go true = freely_of role r ms b e
      go false = tt
