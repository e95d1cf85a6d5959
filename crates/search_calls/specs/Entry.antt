-- The two public entries: which calls get a number of document 01, and what the others get. Definitions only.
-- Assumes nothing.
use Rattle.std.specs.Prelude.{◌≡◌, Bool, true, false, not, ◌&&◌, cond, List, [], ◌∷◌, ◌++◌, map, ℕ, ◌+◌, ◌-◌, ◌*◌, leb, eqb, length, drop, Float, Option, Some, None}
use Rattle.limits.specs.Limits.{max_bundle_members, max_route_points, max_points, max_tap_visits, largest_list, search_scratch, promotion_scratch, most_kept}
use Rattle.binary64.specs.Accepted.{plus_zero, is_coordinate, is_option, zero64}
use Rattle.geometry.specs.declared.Point.{Point}
use Rattle.geometry.specs.declared.Role.{Role}
use Rattle.geometry.specs.declared.Role.TheVariants.{Input, Output}
use Rattle.search.specs.declared.Bounds.{Bounds}
use Rattle.search.specs.declared.Outcome.TheVariants.{Spent}
use Rattle.search_calls.specs.declared.SearchAnswer.{SearchAnswer}
use Rattle.search.specs.Stretches.{members, routes}
use Rattle.search.specs.Search.{Listing, listing, spent, first, mark, values, common_xs}
use Rattle.search.specs.Promotion.{Promotion, promotion_xs, shortened, promotion_values, promotion_mark, promotion_left}

-- ---- F-1: minus zero is taken as plus zero in "every public entry that gives 7 for it", before anything is looked at
abbrev pub plus_zeros : List Float → List Float
plus_zeros = map plus_zero

-- ---- refusals
-- 4: a member's points are not all within the points lent; or a member has a start and no count, or a count and no start
unfoldable pub places_fit : List Float → List ℕ → List ℕ → Bool
places_fit points [] [] = true
places_fit points (start ∷ starts) (count ∷ counts) = leb (2 * (start + count)) (length points) && places_fit points starts counts
places_fit points [] (count ∷ counts) = false
places_fit points (start ∷ starts) [] = false

-- 5: a route has more points than one may have, or than the routes before it leave of those in all
unfoldable pub counts_fit : ℕ → List ℕ → Bool
counts_fit left [] = true
counts_fit left (count ∷ counts) = leb count max_route_points && leb count left && counts_fit (left - count) counts

-- 7: a coordinate that is not accepted as one
unfoldable pub points_fit : List Point → Bool
points_fit [] = true
points_fit (p ∷ ps) = is_coordinate p.x && is_coordinate p.y && points_fit ps

unfoldable pub routes_fit : List (List Point) → Bool
unfolding points_fit
routes_fit [] = true
routes_fit (r ∷ rs) = points_fit r && routes_fit rs

abbrev pub bounds_fit : Bounds → Bool
bounds_fit b = is_coordinate b.minimum && is_coordinate b.desired && is_coordinate b.maximum

-- bounds that are absent are not looked at
abbrev pub collector_bounds_fit : Option Bounds → Bool
collector_bounds_fit None = true
collector_bounds_fit (Some b) = bounds_fit b

-- document 01's number of a refusal, or 0: 2, then 4, then 5, then 6 for a role that is neither 0 nor 1, then 7. `room` says that every lent output and scratch is long enough.
abbrev pub refusal : Bool → List Float → List ℕ → List ℕ → ℕ → Float → Bool → ℕ → ℕ
refusal room points starts counts role pitch bounds granted =
    cond (not room) 2
    (cond (not (places_fit points starts counts)) 4
    (cond (not (leb (length starts) max_bundle_members && counts_fit max_points counts && leb granted max_tap_visits)) 5
    (cond (not (leb role 1)) 6
    (cond (not (routes_fit (routes points starts counts) && is_option pitch && bounds)) 7 0))))

-- document 01's roles
abbrev pub role_of : ℕ → Role
role_of role = cond (eqb role 0) Input Output

-- ---- answers
-- what is said: the mark of the outcome, a list of numbers, and the visits left
pub record Said : Type 0 where
  pub mark : ℕ
  pub list : List Float
  pub left : ℕ

abbrev pub said : Listing → Said
said (listing xs v) = record { mark = mark (first xs); list = xs; left = v }
said spent = record { mark = mark Spent; list = []; left = 0 }

abbrev pub promotion_said : Promotion → Said
promotion_said p = record { mark = promotion_mark p; list = promotion_values p; left = promotion_left p }

-- bounds absent have a mark of their own
abbrev pub absent : ℕ → Said
absent granted = record { mark = 3; list = []; left = granted }

-- a refusal pays nothing
abbrev pub refused : ℕ → Said
refused granted = record { mark = 0; list = []; left = granted }

-- the first of the values, or plus zero where there are none
abbrev pub head : List Float → Float
head [] = zero64
head (x ∷ xs) = x

abbrev pub answer_of : ℕ → Said → SearchAnswer
answer_of number s = record { number = number; mark = s.mark; left = s.left; count = length s.list; x = head (values (first s.list)) }

-- the list is written over the front of the output, and the rest of it is not written
pub record Replied (number : ℕ) (s : Said) (r : SearchAnswer) (before after : List Float) : Type 0 where
  pub answer : r ≡ answer_of number s
  pub written : after ≡ s.list ++ drop (length s.list) before

-- a call that is refused writes no scratch; what another leaves there is open
pub record Untouched (number : ℕ) (candidates candidates' scratch scratch' : List Float) : Type 0 where
  pub kept_candidates : (number ≡ 0 → ⊥) → candidates' ≡ candidates
  pub kept_scratch : (number ≡ 0 → ⊥) → scratch' ≡ scratch

-- ---- the entries
abbrev pub bounds : Float → Float → Float → Bounds
bounds minimum desired maximum = record { minimum = minimum; desired = desired; maximum = maximum }

abbrev pub collector_bounds : Bool → Float → Float → Float → Option Bounds
collector_bounds present minimum desired maximum = cond present (Some (bounds minimum desired maximum)) None

-- 2: the output has room for the largest list, 2,017 numbers (`Sizes`), and each scratch has 2,048
abbrev pub search_room : List Float → List Float → List Float → Bool
search_room xs candidates scratch = leb largest_list (length xs) && leb search_scratch (length candidates) && leb search_scratch (length scratch)

abbrev pub search_number : List Float → List Float → List Float → List Float → List ℕ → List ℕ → ℕ → Float → Bounds → ℕ → ℕ
search_number xs candidates scratch points starts counts role pitch b granted = refusal (search_room xs candidates scratch) points starts counts role pitch (bounds_fit b) granted

abbrev pub search_says : ℕ → List Float → List ℕ → List ℕ → ℕ → Float → Bounds → ℕ → Said
search_says number points starts counts role pitch b granted =
    cond (eqb number 0) (said (common_xs (role_of role) b (members (role_of role) pitch (routes points starts counts)) granted)) (refused granted)

-- 2: the output has room for the numbers that are kept, and each scratch for the lists of both searches
abbrev pub promotion_room : List Float → List Float → List Float → Bool
promotion_room xs candidates scratch = leb most_kept (length xs) && leb promotion_scratch (length candidates) && leb promotion_scratch (length scratch)

abbrev pub promotion_number : List Float → List Float → List Float → List Float → List ℕ → List ℕ → ℕ → Float → Option Bounds → ℕ → ℕ
promotion_number xs candidates scratch points starts counts role pitch b granted = refusal (promotion_room xs candidates scratch) points starts counts role pitch (collector_bounds_fit b) granted

abbrev pub promoted : Role → Float → Option Bounds → List (List (Option (Float × Float))) → ℕ → Said
promoted role pitch None ms granted = absent granted
promoted role pitch (Some b) ms granted = promotion_said (shortened (promotion_xs role pitch b ms granted))

abbrev pub promotion_says : ℕ → List Float → List ℕ → List ℕ → ℕ → Float → Option Bounds → ℕ → Said
promotion_says number points starts counts role pitch b granted =
    cond (eqb number 0) (promoted (role_of role) pitch b (members (role_of role) pitch (routes points starts counts)) granted) (refused granted)
