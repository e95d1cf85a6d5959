-- Usable runs, their stretches and the search in whole numbers over 128: the twin of geometry/specs/Stretch, search/specs/Stretches and Search, name for name. shared_trunk_horizontal_range and common_horizontal_collector_xs of boundary_bundles.rs. Definitions only.
-- Assumes nothing.
use Rattle.std.specs.Prelude.{ℕ, zero, suc, Bool, false, not, ◌&&◌, cond, List, [], ◌∷◌, ◌++◌, ℤ, ◌+ℤ◌, ◌-ℤ◌, Option, Some, None}
use Rattle.geometry.specs.declared.Role.{Role}
use Rattle.geometry.specs.declared.Role.TheVariants.{Input, Output}
use Rattle.search.specs.Search.{Tried, held, lacked, unpaid, after, or_else, falls}
use Rattle.grid_plan.specs.Board.{Point, Segment, Route, runs}
use Rattle.grid.specs.On.{below, at_most, same, smaller, larger, comes}

pub record Stretch : Type 0 where
  pub low : ℤ
  pub high : ℤ

-- the stretch from low to high, if it is not empty
abbrev pub from_to : ℤ → ℤ → Option Stretch
from_to low high = cond (at_most low high) (Some (record { low = low; high = high })) None

-- [start, end − pitch] for Input and [start + pitch, end] for Output, exactly
abbrev pub shortened : Role → ℤ → ℤ → ℤ → Option Stretch
shortened Input pitch start end = from_to start (end -ℤ pitch)
shortened Output pitch start end = from_to (start +ℤ pitch) end

-- shared_trunk_horizontal_range
abbrev pub stretch : Role → ℤ → Point → Point → Option Stretch
stretch role pitch start end =
    cond (not (same start.y end.y)) None
    (cond (at_most end.x start.x) None (shortened role pitch start.x end.x))

-- x lies in the stretch, ends included
abbrev pub holds : ℤ → Option Stretch → Bool
holds x None = false
holds x (Some s) = at_most s.low x && at_most x s.high

-- the stretch of each run, or that it has none
unfoldable pub stretches : Role → ℤ → List Segment → List (Option Stretch)
stretches role pitch [] = []
stretches role pitch (s ∷ ss) = stretch role pitch s.start s.end ∷ stretches role pitch ss

-- those of each member's route
unfoldable pub members : Role → ℤ → List Route → List (List (Option Stretch))
unfolding stretches runs
members role pitch [] = []
members role pitch (r ∷ rs) = stretches role pitch (runs r) ∷ members role pitch rs

-- the runs of all members, in order
unfoldable pub all_runs : List (List (Option Stretch)) → List (Option Stretch)
all_runs [] = []
all_runs (m ∷ ms) = m ++ all_runs ms

pub record Bounds : Type 0 where
  pub minimum : ℤ
  pub desired : ℤ
  pub maximum : ℤ

pub data Outcome : Type 0 where
  Found : ℤ → Outcome
  Nothing : Outcome
  Spent : Outcome

pub record Searched : Type 0 where
  pub outcome : Outcome
  pub left : ℕ

-- a list with the visits left; or document 01's "spent": a visit is due and 0 are left
pub data Listing : Type 0 where
  listing : List ℤ → ℕ → Listing
  spent : Listing

-- ---- the first pass
abbrev pub nearest : Role → ℤ → ℤ → ℤ → ℤ
nearest Input low high desired = smaller high desired
nearest Output low high desired = larger low desired

-- document 01's "candidate" of a stretch, if the stretch is not empty when cut to the bounds
abbrev pub candidate : Role → Bounds → Option Stretch → Option ℤ
candidate role b None = None
candidate role b (Some s) =
    cond (below (smaller s.high b.maximum) (larger s.low b.minimum)) None
    (Some (nearest role (larger s.low b.minimum) (smaller s.high b.maximum) b.desired))

abbrev pub onto : List ℤ → Option ℤ → List ℤ
onto xs None = xs
onto xs (Some x) = xs ++ (x ∷ [])

-- the candidates of the runs ss, behind those in hand
unfoldable pub gathered_onto : Role → Bounds → List ℤ → List (Option Stretch) → ℕ → Listing
gathered_onto role b xs [] v = listing xs v
gathered_onto role b xs (s ∷ ss) zero = spent
gathered_onto role b xs (s ∷ ss) (suc v) = gathered_onto role b (onto xs (candidate role b s)) ss v

-- the desired x is the first candidate
abbrev pub gathered : Role → Bounds → List (List (Option Stretch)) → ℕ → Listing
gathered role b ms v = gathered_onto role b (b.desired ∷ []) (all_runs ms) v

-- ---- sorted, falling or rising, equal ones kept once
unfoldable pub insert : Bool → ℤ → List ℤ → List ℤ
insert falling x [] = x ∷ []
insert falling x (y ∷ ys) = cond (comes falling x y) (x ∷ y ∷ ys) (y ∷ insert falling x ys)

unfoldable pub sorted : Bool → List ℤ → List ℤ
unfolding insert
sorted falling [] = []
sorted falling (x ∷ xs) = insert falling x (sorted falling xs)

unfoldable pub distinct_after : ℤ → List ℤ → List ℤ
distinct_after p [] = []
distinct_after p (y ∷ ys) = cond (same p y) (distinct_after p ys) (y ∷ distinct_after y ys)

unfoldable pub distinct : List ℤ → List ℤ
unfolding distinct_after
distinct [] = []
distinct (x ∷ xs) = x ∷ distinct_after x xs

-- the candidates in the order in which they are tried, equal bits kept once
abbrev pub in_order : Role → List ℤ → List ℤ
in_order role xs = distinct (sorted (falls role) xs)

-- ---- the second pass
unfoldable pub tried_on : ℤ → List (Option Stretch) → ℕ → Tried
tried_on x [] v = lacked v
tried_on x (s ∷ ss) zero = unpaid
tried_on x (s ∷ ss) (suc v) = or_else (holds x s) v (tried_on x ss v)

-- the members, up to the first without a stretch that holds x
unfoldable pub tried_on_all : ℤ → List (List (Option Stretch)) → ℕ → Tried
unfolding tried_on
tried_on_all x [] v = held v
tried_on_all x (m ∷ ms) v = after (tried_on x m v) (tried_on_all x ms) lacked unpaid

-- the candidates, each that is common being put behind those found; the rest are tried and paid for whatever was found
unfoldable pub tried : List (List (Option Stretch)) → List ℤ → List ℤ → ℕ → Listing
unfolding tried_on_all
tried ms [] found v = listing found v
tried ms (x ∷ xs) found v = after (tried_on_all x ms v) (tried ms xs (found ++ (x ∷ []))) (tried ms xs found) spent

-- ---- the search
abbrev pub then_tried : Role → List (List (Option Stretch)) → Listing → Listing
then_tried role ms (listing xs v) = tried ms (in_order role xs) [] v
then_tried role ms spent = spent

abbrev pub first : List ℤ → Outcome
first [] = Nothing
first (x ∷ xs) = Found x

abbrev pub answer : Outcome → ℕ → Searched
answer o v = record { outcome = o; left = v }

abbrev pub searched : Listing → Searched
searched (listing xs v) = answer (first xs) v
searched spent = answer Spent 0

-- common_horizontal_collector_x
unfoldable pub search_of : Role → Bounds → List (List (Option Stretch)) → ℕ → Searched
search_of role b ms v = searched (then_tried role ms (gathered role b ms v))
