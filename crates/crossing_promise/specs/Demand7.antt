-- F-7's words about the list of strict crossings, as one statement about a job's bytes and the bytes that stand in the answer's and the list's buffers for them, beside demand 3. Definitions only.
-- Assumes nothing.
use Rattle.std.specs.Prelude.{◌≡◌, ◌⊎◌, Bool, List, [], ℕ, ◌+◌, ◌*◌, ◌≤◌, ◌<◌, length, get_or, take, None}
use Rattle.wire.specs.Bytes.{number}
use Rattle.geometry.specs.declared.Contact.TheVariants.{StrictCrossing}
use Rattle.geometry.specs.Points.{Route, runs}
use Rattle.geometry.specs.Kind.{kind}
use Rattle.exact.specs.Exact.{Exact, Same, exact, HasLength}
use Rattle.sorting.specs.Lists.{In}
use Rattle.drawing.specs.Build.{Drawn, route_at, no_drawn}
use Rattle.drawing.specs.Sheet.{Progress}
use Rattle.answer.specs.Answer.{answer_bytes}
use Rattle.promise.specs.Stage.{Finished, answer_of, Told, drawn}
use Rattle.promise.specs.Demand3.{OnBoth, AtTapAndEnd, crossing_bit}
use Rattle.crossings.specs.List.{Crossing}
use Rattle.crossings.specs.Words.{segment_of, run_of, ListKept}
use Rattle.limits.specs.Limits.{max_crossings, crossing_bytes}
use Rattle.crossing_bytes.specs.Bytes.{list_bytes}

-- p is where the list has segment s of bundle u and run n of route e cross
pub record ListedAt (l : List Crossing) (u e : ℕ) (s : Bool) (n : ℕ) (p : Exact) : Type 0 where
  pub entry : Crossing
  pub in_list : In entry l
  pub bundle : entry.bundle ≡ u
  pub edge : entry.edge ≡ e
  pub spine : entry.spine ≡ s
  pub run : entry.run ≡ n
  pub at_place : Same p (exact entry.place)

-- segment s of bundle u and run n of route e: "share at most one point, at the tap within the Rust's tolerance or listed"
pub record AtTapOrListed (ds : List Drawn) (rs : List Route) (l : List Crossing) (u e : ℕ) (s : Bool) (n : ℕ) : Type 0 where
  pub at_most_one : (p q : Exact) → OnBoth (segment_of (get_or ds u no_drawn) s) (run_of rs e n) p → OnBoth (segment_of (get_or ds u no_drawn) s) (run_of rs e n) q → Same p q
  pub only_there : (p : Exact) → OnBoth (segment_of (get_or ds u no_drawn) s) (run_of rs e n) p → AtTapAndEnd (get_or ds u no_drawn) e (run_of rs e n) p ⊎ ListedAt l u e s n p

-- "for such sheets": crossings are permitted
pub record Joints (ds : List Drawn) (rs : List Route) (l : List Crossing) : Type 0 where
  -- "a bundle segment and a route segment of some length"
  pub with_routes : (u e : ℕ) (s : Bool) (n : ℕ) → u < length ds → e < length rs → n < length (runs (route_at rs e)) → HasLength (run_of rs e n).start (run_of rs e n).end → AtTapOrListed ds rs l u e s n
  -- "two bundles may cross strictly, unlisted", and share no point else where the earlier one's segment has length, as in demand 3
  pub with_bundles : (j k : ℕ) → j < k → k < length ds → (s t : Bool) → HasLength (segment_of (get_or ds j no_drawn) s).start (segment_of (get_or ds j no_drawn) s).end → (p : Exact) → OnBoth (segment_of (get_or ds j no_drawn) s) (segment_of (get_or ds k no_drawn) t) p
      → kind (segment_of (get_or ds k no_drawn) t) (segment_of (get_or ds j no_drawn) s).start (segment_of (get_or ds j no_drawn) s).end None ≡ StrictCrossing

-- the list of a job's sheet before the last shift, whatever plan it was drawn from
pub record ListOnSheet (bytes : List ℕ) (u : Progress) (l : List Crossing) : Type 0 where
  pub kept : ListKept u.drawn u.routes l
  -- where crossings are forbidden there are none
  pub forbidden : crossing_bit bytes ≡ 0 → l ≡ []
  -- "With crossings permitted"
  pub permitted : crossing_bit bytes ≡ 1 → Joints u.drawn u.routes l

-- what is kept where an answer is written and the list is wanted; t is what the job comes to
pub record ListPromised (bytes : List ℕ) (t : Told) (answer list : List ℕ) : Type 0 where
  -- "on the finished sheet, before the shift"
  pub finished : Finished
  pub is_told : t ≡ drawn finished
  pub is_written : answer ≡ answer_bytes (answer_of finished)
  pub entries : List Crossing
  pub is_list : list ≡ list_bytes finished.said.board entries
  -- "19 when .. there are more than 1,024 crossings"
  pub not_too_many : length entries ≤ max_crossings
  pub on_sheet : ListOnSheet bytes finished.sheet_made entries

-- the list that a buffer begins with tells its own length: "a u16 count and then the entries"
abbrev pub list_in : List ℕ → List ℕ
list_in buffer = take (2 + crossing_bytes * number (take 2 buffer)) buffer

-- F-7, of a job's bytes, what it comes to, the bytes that stand in the answer's buffer for it, and the list's buffer. An answer with number 0 is written: more than the six bytes of a notice
abbrev pub Demand7 : List ℕ → Told → List ℕ → List ℕ → Type 0
Demand7 bytes t answer buffer = 6 < length answer → ListPromised bytes t answer (list_in buffer)
