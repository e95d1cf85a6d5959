-- The steps of the search's definitions, by place in the lists: what each loop of `gather` and `try_candidates` takes.
-- Assumes nothing.
use Rattle.std.specs.Prelude.{Option, Some}
use mathlib.Core.Path.{◌≡◌, refl, sym, ◌∙◌, ap}
use mathlib.Core.Bool.{Bool}
use mathlib.Core.List.{List, [], ◌∷◌, ◌++◌, map}
use Prim.Native.Nat.{ℕ, zero, suc, ◌+◌, ◌-◌, ◌≤◌, ◌<◌}
use native.Mathlib.Omega.{arith}
use native.Mathlib.Numerals.{add-one}
use lib.ListN.{length, get_or, take, drop, set, length-append, length-map, drop_of_length-le}
use lib.Seq.{drop-cons, take-suc-set}
use lib.Ieee.{Float, nan}
use Rattle.geometry.specs.declared.Role.{Role}
use Rattle.geometry.specs.Stretch.{stretch, holds}
use Rattle.geometry.specs.Points.{runs, point_at, points_from}
use Rattle.geometry.specs.View.{points_length}
use Rattle.search.specs.declared.Bounds.{Bounds}
use Rattle.search.specs.Stretches.{stretches, members, routes, all_runs, runs_in}
use Rattle.search.specs.Kept.{spanned, members_from}
use Rattle.search.specs.Search.{Listing, listing, spent, candidate, onto, gathered_onto, Tried, held, lacked, unpaid, after, or_else, tried_on, tried_on_all, tried}

module _ (points : List Float) (role : Role) (pitch : Float) where
  -- the runs between n points, the first of them point at
  abbrev pub R : ℕ → ℕ → List (Option (Float × Float))
  R at n = stretches role pitch (runs (points_from points at n))

  abbrev pub run : ℕ → Option (Float × Float)
  run at = stretch role pitch (point_at points at) (point_at points (at + 1))

  two : (at n : ℕ) → R at (suc (suc n)) ≡ run at ∷ R (at + 1) (suc n)
  unfolding stretches runs points_from
  two at n = ap (λ (k : ℕ). stretch role pitch (point_at points at) (point_at points k) ∷ R k (suc n)) (sym (add-one at))

  pub more : (at n : ℕ) → 1 < n → R at n ≡ run at ∷ R (at + 1) (n - 1)
  more at n h =
      let e : n ≡ suc (suc (n - 2)) = omega arith in
      let f : suc (n - 2) ≡ n - 1 = omega arith in
      ap (R at) e ∙ two at (n - 2) ∙ ap (λ (k : ℕ). run at ∷ R (at + 1) k) f

  pub none : (at n : ℕ) → n ≤ 1 → R at n ≡ []
  unfolding stretches runs points_from
  none at zero h = refl
  none at (suc zero) h = refl
  none at (suc (suc n)) h = absurd (omega arith)

  module _ (starts counts : List ℕ) (paired : length starts ≡ length counts) where
    -- the members from m on
    abbrev pub M : ℕ → List (List (Option (Float × Float)))
    M m = members role pitch (routes points (drop m starts) (drop m counts))

    pub members_next : (m : ℕ) → m < length starts → M m ≡ R (get_or starts m 0) (get_or counts m 0) ∷ M (m + 1)
    unfolding members routes
    members_next m h =
        let h' : m < length counts = omega arith in
        rw (add-one, drop-cons starts m 0 h, drop-cons counts m 0 h')

    pub members_end : (m : ℕ) → length starts ≤ m → M m ≡ []
    unfolding members routes
    members_end m h = rw (drop_of_length-le starts h)

-- ---- the first pass
pub runs_next : (m : List (Option (Float × Float))) (ms : List (List (Option (Float × Float)))) → all_runs (m ∷ ms) ≡ m ++ all_runs ms
unfolding all_runs
runs_next m ms = refl

pub runs_end : all_runs [] ≡ []
unfolding all_runs
runs_end = refl

module _ (role : Role) (b : Bounds) (xs : List Float) where
  module _ (s : Option (Float × Float)) (ss : List (Option (Float × Float))) (v : ℕ) where
    pub gather_spent : v ≡ 0 → gathered_onto role b xs (s ∷ ss) v ≡ spent
    unfolding gathered_onto
    gather_spent e = rw e

    pub gather_step : (c : Option Float) (w : ℕ) → v ≡ w + 1 → candidate role b s ≡ c → gathered_onto role b xs (s ∷ ss) v ≡ gathered_onto role b (onto xs c) ss w
    unfolding gathered_onto
    gather_step c w p e = ap (gathered_onto role b xs (s ∷ ss)) (p ∙ add-one w) ∙ rw e

  pub gather_end : (v : ℕ) → gathered_onto role b xs [] v ≡ listing xs v
  unfolding gathered_onto
  gather_end v = refl

pub stored : (xs : List Float) (n : ℕ) (x : Float) → n < length xs → onto (take n xs) (Some x) ≡ take (n + 1) (set xs n x)
stored xs n x h = rw (add-one, take-suc-set xs n x h)

-- ---- the second pass
module _ (ks : List Float) where
  -- n kept pairs, from pair at on
  abbrev pub K : ℕ → ℕ → List (Option (Float × Float))
  K at n = map spanned (points_from ks at n)

  pub kept_more : (at end : ℕ) → at < end → K at (end - at) ≡ spanned (point_at ks at) ∷ K (at + 1) (end - (at + 1))
  unfolding points_from
  kept_more at end h =
      let e : end - at ≡ suc (end - (at + 1)) = omega arith in
      ap (K at) e ∙ ap (λ (i : ℕ). spanned (point_at ks at) ∷ K i (end - (at + 1))) (sym (add-one at))

  pub kept_none : (at n : ℕ) → n ≡ 0 → K at n ≡ []
  unfolding points_from
  kept_none at n e = rw e

  module _ (counts : List ℕ) where
    -- the members from m on, the first of them from pair at on
    abbrev pub N : ℕ → ℕ → List (List (Option (Float × Float)))
    N at m = members_from ks at (drop m counts)

    pub kept_next : (at m : ℕ) → m < length counts → N at m ≡ K at (get_or counts m 0 - 1) ∷ N (at + (get_or counts m 0 - 1)) (m + 1)
    unfolding members_from
    kept_next at m h = rw (add-one, drop-cons counts m 0 h)

    pub kept_end : (at m : ℕ) → length counts ≤ m → N at m ≡ []
    unfolding members_from
    kept_end at m h = rw (drop_of_length-le counts h)

    -- and how many runs they have
    pub runs_next_kept : (at m : ℕ) → m < length counts → runs_in (N at m) ≡ (get_or counts m 0 - 1) + runs_in (N (at + (get_or counts m 0 - 1)) (m + 1))
    runs_next_kept at m h =
        let n = get_or counts m 0 - 1 in
        ap runs_in (kept_next at m h) ∙ ap length (runs_next (K at n) (N (at + n) (m + 1))) ∙ length-append (K at n) (all_runs (N (at + n) (m + 1)))
        ∙ ap (λ (k : ℕ). k + runs_in (N (at + n) (m + 1))) (length-map (points_from ks at n) spanned ∙ points_length ks at n)

module _ (x : Float) where
  pub try_end : (v : ℕ) → tried_on x [] v ≡ lacked v
  unfolding tried_on
  try_end v = refl

  module _ (s : Option (Float × Float)) (ss : List (Option (Float × Float))) (v : ℕ) where
    pub try_unpaid : v ≡ 0 → tried_on x (s ∷ ss) v ≡ unpaid
    unfolding tried_on
    try_unpaid e = rw e

    pub try_look : (t : Bool) (w : ℕ) → v ≡ w + 1 → holds x s ≡ t → tried_on x (s ∷ ss) v ≡ or_else t w (tried_on x ss w)
    unfolding tried_on
    try_look t w p e = ap (tried_on x (s ∷ ss)) (p ∙ add-one w) ∙ rw e

  pub try_member : (m : List (Option (Float × Float))) (ms : List (List (Option (Float × Float)))) (v : ℕ) → tried_on_all x (m ∷ ms) v ≡ after (tried_on x m v) (tried_on_all x ms) lacked unpaid
  unfolding tried_on_all
  try_member m ms v = refl

  pub try_members_end : (v : ℕ) → tried_on_all x [] v ≡ held v
  unfolding tried_on_all
  try_members_end v = refl

module _ (ms : List (List (Option (Float × Float)))) (found : List Float) (v : ℕ) where
  -- what follows the outcome of a candidate
  abbrev pub next : List Float → Float → Tried → Listing
  next xs x t = after t (tried ms xs (found ++ (x ∷ []))) (tried ms xs found) spent

  pub candidate_next : (xs : List Float) (i : ℕ) → i < length xs → tried ms (drop i xs) found v ≡ next (drop (i + 1) xs) (get_or xs i nan) (tried_on_all (get_or xs i nan) ms v)
  unfolding tried
  candidate_next xs i h = rw (add-one, drop-cons xs i nan h)

  pub candidates_end : (xs : List Float) (i : ℕ) → length xs ≤ i → tried ms (drop i xs) found v ≡ listing found v
  unfolding tried
  candidates_end xs i h = rw (drop_of_length-le xs h)
