-- How much a search that is accepted by its counts can have: 2,048 points in members of at most 64 are at most 2,016 runs, so there are at most 2,017 candidates, the desired x among them, and no list is longer. 32 members of 64 points have so many runs.
-- Assumes nothing.
use Rattle.std.specs.Prelude.{◌≡◌, refl, true, ◌&&◌, List, [], ◌∷◌, ℕ, ◌+◌, ◌-◌, ◌*◌, ◌≤◌, length, replicate, Float}
use Rattle.std.proofs.Common.{arith, length-append}
use Rattle.std.proofs.Math.Dec.{leb}
use borrow.Author.Tests.{leb-true}
use Rattle.binary64.specs.Bools.{both_true}
use Rattle.limits.specs.Limits.{max_route_points, max_points, largest_list}
use Rattle.geometry.specs.declared.Role.{Role}
use Rattle.geometry.specs.Points.{runs, points_from}
use Rattle.geometry.specs.View.{points_length, runs_length}
use Rattle.search.specs.declared.Bounds.{Bounds}
use Rattle.search.specs.Stretches.{stretches, members, routes, all_runs, runs_in}
use Rattle.search.specs.Search.{listing, common_xs}
use Rattle.search.specs.Freely.{candidates}
use Rattle.search.proofs.Cost.{candidates_few, listed_few, stretches_length}
use Rattle.search_calls.specs.Entry.{counts_fit}
use Rattle.search_calls.proofs.Cases.{just_enough}

-- ---- the runs of members with so many points each
unfoldable pub runs_of : List ℕ → ℕ
runs_of [] = 0
runs_of (count ∷ counts) = (count - 1) + runs_of counts

pub runs_are : (points : List Float) (role : Role) (pitch : Float) (starts counts : List ℕ) → length starts ≡ length counts → runs_in (members role pitch (routes points starts counts)) ≡ runs_of counts
unfolding members routes all_runs runs_of
runs_are points role pitch [] [] e = refl
runs_are points role pitch [] (c ∷ cs) e = absurd (omega arith)
runs_are points role pitch (s ∷ ss) [] e = absurd (omega arith)
runs_are points role pitch (s ∷ ss) (c ∷ cs) e =
    let here = stretches role pitch (runs (points_from points s c)) in
    omega (arith, runs_are points role pitch ss cs (omega arith), length-append here (all_runs (members role pitch (routes points ss cs))), stretches_length role pitch (runs (points_from points s c)), runs_length (points_from points s c), points_length points s c)

-- of 64 points at most 63 begin a run
runs_share : (left : ℕ) (counts : List ℕ) → counts_fit left counts ≡ true → 64 * runs_of counts ≤ 63 * left
unfolding runs_of
runs_share left [] e = omega arith
runs_share left (c ∷ cs) e =
    let f : (((leb c max_route_points && leb c left) && counts_fit (left - c) cs) ≡ true) = unfold counts_fit in e in
    let p = both_true (leb c max_route_points && leb c left) (counts_fit (left - c) cs) f in
    let q = both_true (leb c max_route_points) (leb c left) p.0 in
    omega (arith, leb-true c max_route_points q.0, leb-true c left q.1, runs_share (left - c) cs p.1)

module _ (points : List Float) (role : Role) (pitch : Float) (starts counts : List ℕ) (paired : length starts ≡ length counts) (fit : counts_fit max_points counts ≡ true) where
  pub runs_few : runs_in (members role pitch (routes points starts counts)) ≤ 2016
  runs_few = omega (arith, runs_are points role pitch starts counts paired, runs_share max_points counts fit)

  pub candidates_fit : (b : Bounds) → length (candidates role b (members role pitch (routes points starts counts))) ≤ largest_list
  candidates_fit b = omega (arith, candidates_few role b (members role pitch (routes points starts counts)), runs_few)

  pub list_fits : (b : Bounds) (v : ℕ) (xs : List Float) (w : ℕ) → listing xs w ≡ common_xs role b (members role pitch (routes points starts counts)) v → length xs ≤ largest_list
  list_fits b v xs w e = omega (arith, listed_few role b (members role pitch (routes points starts counts)) v xs w e, runs_few)

-- so many runs there can be
pub most_runs : (counts_fit max_points (replicate 32 64) ≡ true) × (runs_of (replicate 32 64) ≡ 2016)
unfolding runs_of
most_runs = (just_enough, refl)
