-- Closed cases of the public entries: the count of points, and a promotion whose second search is spent.
-- Assumes nothing.
use Rattle.std.specs.Prelude.{◌≡◌, refl, Bool, true, false, not, ◌&&◌, cond, List, [], ◌∷◌, ℕ, leb, replicate, length, Float, pos, Some}
use Rattle.std.specs.Float.{binary64}
use Rattle.std.specs.Float.Ieee.{of_int, to_bits, of_bits, is_nan, lt, le, eq, ne, neg, add, sub, mul}
use Rattle.limits.specs.Limits.{max_bundle_members, max_points, max_tap_visits}
use Rattle.binary64.specs.Accepted.{is_option}
use Rattle.binary64.specs.Order.{key_of, total_key}
use Rattle.geometry.specs.declared.Point.{Point}
use Rattle.geometry.specs.declared.Role.TheVariants.{Input}
use Rattle.geometry.specs.Points.{runs}
use Rattle.sorting.specs.Sort.{sorted, distinct, insert, distinct_after, sort_key}
use Rattle.search.specs.declared.Bounds.{Bounds}
use Rattle.search.specs.Stretches.{stretches, members, routes, all_runs}
use Rattle.search.specs.Search.{gathered_onto, tried_on, tried_on_all, tried}
use Rattle.search_calls.specs.Entry.{places_fit, counts_fit, routes_fit, bounds_fit, search_room, search_number, Said, promoted}

-- ---- points are counted, not runs
-- 63 members of 33 points have 2,079 points, and 2,016 runs
pub too_many : counts_fit max_points (replicate 63 33) ≡ false
unfolding counts_fit
too_many = refl

-- 32 members of 64 points have 2,048
pub just_enough : counts_fit max_points (replicate 32 64) ≡ true
unfolding counts_fit
just_enough = refl

module _ (xs candidates scratch points : List Float) (starts : List ℕ) (role : ℕ) (pitch : Float) (b : Bounds) (granted : ℕ) (roomy : search_room xs candidates scratch ≡ true) where
  -- they are refused with 5 whatever else the call has
  pub points_refused : places_fit points starts (replicate 63 33) ≡ true → search_number xs candidates scratch points starts (replicate 63 33) role pitch b granted ≡ 5
  points_refused placed = rw (roomy, placed, too_many) (go (leb (length starts) max_bundle_members))
    where
      go : (t : Bool) → ◌≡◌ {A = ℕ} (cond (not (t && false && leb granted max_tap_visits)) 5 (cond (not (leb role 1)) 6 (cond (not (routes_fit (routes points starts (replicate 63 33)) && is_option pitch && bounds_fit b)) 7 0))) 5
      go true = refl
      go false = refl

  -- they are not refused where nothing else is
  pub points_accepted : places_fit points starts (replicate 32 64) ≡ true → leb (length starts) max_bundle_members ≡ true → leb granted max_tap_visits ≡ true → leb role 1 ≡ true
      → (routes_fit (routes points starts (replicate 32 64)) && is_option pitch && bounds_fit b) ≡ true
      → search_number xs candidates scratch points starts (replicate 32 64) role pitch b granted ≡ 0
  points_accepted placed few paid side fit = rw (roomy, placed, just_enough, few, paid, side, fit)

-- ---- a promotion's second search
abbrev num : ℕ → Float
num n = of_int binary64 (pos n)

abbrev at : ℕ → ℕ → Point
at x y = record { x = num x; y = num y }

-- two members (0,0)-(30,0) and (0,8)-(30,8) at pitch 4, Input, minimum 2, desired and maximum 18: each search pays 4
abbrev pub says : ℕ → Said
says v = promoted Input (num 4) (Some (record { minimum = num 2; desired = num 18; maximum = num 18 })) (members Input (num 4) ((at 0 0 ∷ at 30 0 ∷ []) ∷ (at 0 8 ∷ at 30 8 ∷ []) ∷ [])) v

-- with 3 granted the first is spent
pub first_is_spent : ((says 3).mark ≡ 2) × ((says 3).left ≡ 0) × (length (says 3).list ≡ 0)
unfolding of_int to_bits of_bits is_nan lt le eq ne neg add sub mul runs sorted distinct insert distinct_after sort_key key_of total_key stretches members all_runs gathered_onto tried_on tried_on_all tried
first_is_spent = (refl, refl, refl)

-- with 4 a visit is due in the second and 0 are left: the first one's x is kept
pub second_is_spent : ((says 4).mark ≡ 4) × ((says 4).left ≡ 0) × (length (says 4).list ≡ 1)
unfolding of_int to_bits of_bits is_nan lt le eq ne neg add sub mul runs sorted distinct insert distinct_after sort_key key_of total_key stretches members all_runs gathered_onto tried_on tried_on_all tried
second_is_spent = (refl, refl, refl)

-- with 8 it is paid, and no visit is left
pub just_paid : ((says 8).mark ≡ 1) × ((says 8).left ≡ 0) × (length (says 8).list ≡ 2)
unfolding of_int to_bits of_bits is_nan lt le eq ne neg add sub mul runs sorted distinct insert distinct_after sort_key key_of total_key stretches members all_runs gathered_onto tried_on tried_on_all tried
just_paid = (refl, refl, refl)

-- with 100 two are kept
pub both_are_kept : ((says 100).mark ≡ 1) × ((says 100).left ≡ 92) × (length (says 100).list ≡ 2)
unfolding of_int to_bits of_bits is_nan lt le eq ne neg add sub mul runs sorted distinct insert distinct_after sort_key key_of total_key stretches members all_runs gathered_onto tried_on tried_on_all tried
both_are_kept = (refl, refl, refl)
