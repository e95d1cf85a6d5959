-- What a copy of the routes lent to a search is: each in a row of its own, plus zeros for minus zeros. Definitions of inner contracts.
-- Assumes nothing.
use Rattle.std.specs.Prelude.{◌≡◌, Bool, true, ◌&&◌, List, ℕ, ◌+◌, ◌*◌, ◌≤◌, ◌<◌, leb, length, get_or, Float}
use Rattle.std.specs.Float.{nan}
use Rattle.limits.specs.Limits.{max_bundle_members, max_route_points, max_points, route_numbers}
use Rattle.binary64.specs.Accepted.{plus_zero}
use Rattle.search.specs.Stretches.{routes, Windows}
use Rattle.search_calls.specs.Entry.{places_fit, counts_fit, refusal}

-- neither 4 nor 5 is due for the places and counts of the members: the routes can be copied
unfoldable pub windows_fit : List Float → List ℕ → List ℕ → Bool
windows_fit points starts counts = places_fit points starts counts && (leb (length starts) max_bundle_members && counts_fit max_points counts)

-- what that says: every member's window is within the points, and there are few and short ones
pub record Fitting (points : List Float) (starts counts : List ℕ) : Type 0 where
  pub placed : places_fit points starts counts ≡ true
  pub at_places : Windows points starts counts
  pub few : length starts ≤ max_bundle_members
  pub short : (m : ℕ) → m < length starts → get_or counts m 0 ≤ max_route_points

-- n numbers from a place of points on stand in a copy from another place on, and what stood before them is as it was
pub record Put (points : List Float) (from n : ℕ) (before after : List Float) (at : ℕ) : Type 0 where
  pub put : (j : ℕ) → j < n → get_or after (at + j) nan ≡ plus_zero (get_or points (from + j) nan)
  pub earlier : (j : ℕ) → j < at → get_or after j nan ≡ get_or before j nan

-- the first n routes stand in a copy, each in a row
pub record Copied (points : List Float) (starts counts : List ℕ) (n : ℕ) (copy : List Float) (rows : List ℕ) : Type 0 where
  pub rows_are : (i : ℕ) → i < n → get_or rows i 0 ≡ max_route_points * i
  pub numbers_are : (i : ℕ) → i < n → (j : ℕ) → j < 2 * get_or counts i 0 → get_or copy (route_numbers * i + j) nan ≡ plus_zero (get_or points (2 * get_or starts i 0 + j) nan)

-- two calls, of routes over points p and q, that look at the same routes
pub record SameCall (p q : List Float) (ss ts cs : List ℕ) (role : ℕ) (pitch : Float) (granted : ℕ) : Type 0 where
  pub number : (room b : Bool) → refusal room p ss cs role pitch b granted ≡ refusal room q ts cs role pitch b granted
  pub searched : (room b : Bool) → refusal room p ss cs role pitch b granted ≡ 0 → routes p ss cs ≡ routes q ts cs
