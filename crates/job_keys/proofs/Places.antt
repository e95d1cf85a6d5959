-- The library's words for what is looked up in a list, and those of document 01's keys. Assumes nothing.
use Rattle.std.specs.Prelude.{ℕ, suc, ◌+◌, ◌-◌, ◌≡◌, refl, ◌<◌, Bool, true, false, ◌||◌, cond, List, [], ◌∷◌, take, drop, length, get_or, Option, Some}
use Rattle.std.specs.List.{position, position_from, list_any}
use Rattle.std.proofs.Common.{sym, ap, ◌∙◌, arith, take_all, length-drop}
use Rattle.std.proofs.Math.Numerals.{add-one}
use Rattle.std.proofs.lemmas.Iterator.Adapters.{position_from-zero}
use Rattle.job.specs.Keys.{Key, same, stands_in, twice, place, place_from}
use Rattle.job.specs.LoopSteps.{twice_next}

from_place : (k : Key) (i : ℕ) (ks : List Key) → position_from (λ (l : Key). same l k) i ks ≡ place_from i k ks
unfolding place_from
from_place k i [] = refl
from_place k i (l ∷ ks) = ap (λ (o : Option ℕ). cond (same l k) (Some i) o) (ap (λ (j : ℕ). position_from (λ (l : Key). same l k) j ks) (add-one i) ∙ from_place k (suc i) ks)

pub placed : (k : Key) (ks : List Key) (r : Option ℕ) → r ≡ position (λ (l : Key). same l k) ks → r ≡ place k ks
placed k ks r e = e ∙ position_from-zero (λ (l : Key). same l k) ks ∙ from_place k 0 ks

any_stands : (k : Key) (ks : List Key) → list_any (λ (l : Key). same l k) ks ≡ stands_in k ks
unfolding stands_in
any_stands k [] = refl
any_stands k (l ∷ ks) = ap (λ (b : Bool). same l k || b) (any_stands k ks)

module _ (ks : List Key) (i : ℕ) (before : i < length ks) where
  abbrev behind : Bool
  behind = list_any (λ (l : Key). same l (get_or ks i (0, 0))) (take (length ks - (i + 1)) (drop (i + 1) ks))

  twice_by : (b : Bool) → behind ≡ b → twice (drop i ks) ≡ (b || twice (drop (i + 1) ks))
  twice_by b e =
      let w : take (length ks - (i + 1)) (drop (i + 1) ks) ≡ drop (i + 1) ks = take_all (length ks - (i + 1)) (drop (i + 1) ks) (omega (arith, length-drop (i + 1) ks)) in
      twice_next ks i before ∙ ap (λ (b : Bool). b || twice (drop (i + 1) ks)) (sym (any_stands (get_or ks i (0, 0)) (drop (i + 1) ks)) ∙ sym (ap (list_any (λ (l : Key). same l (get_or ks i (0, 0)))) w) ∙ e)

  -- the key at a place stands behind it too, or not
  pub again : behind ≡ true → twice (drop i ks) ≡ true
  again e = twice_by true e

  pub not_again : behind ≡ false → twice (drop (i + 1) ks) ≡ twice (drop i ks)
  not_again e = sym (twice_by false e)
