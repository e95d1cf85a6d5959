-- What the functions that read a plan hand to one another. Definitions of inner contracts.
-- Assumes nothing.
use Rattle.std.specs.Prelude.{ℕ, ◌-◌, ◌≡◌, Bool, true, false, cond, List, [], ◌++◌, map, take, Float, Result, Ok, Err, Option, MatchResult}
use Rattle.std.specs.Prelude as std
use Rattle.std.specs.Float.{binary64}
use Rattle.std.specs.Float.Ieee.{of_bits}
use Rattle.wire.specs.Read.{Read, refused, got, list_of}
use Rattle.refusal.specs.declared.Refusal.{Refusal}
use Rattle.refusal.specs.Refusal.{refusal_number}
use Rattle.plan.specs.declared.Bound.{Bound}
use Rattle.plan.specs.declared.Bound.TheVariants.{None, At}
use Rattle.plan.specs.declared.Planned.{Planned}
use Rattle.plan.specs.Tables.{Planning}
use Rattle.plan.specs.Prepared.{plan_in, x_of}
use Rattle.plan_bytes.specs.PlanBytes.{entry, body, every_planned, plannable, Taken, rejected, taken}
use Rattle.plan_reader.specs.declared.Body.{Body}

-- an entry of the code, behind which t is left
unfoldable pub told_entry : Result (Option ℕ) Refusal → List ℕ → Read Bound
told_entry (Ok std.None) t = got None t
told_entry (Ok (std.Some b)) t = got (At (of_bits binary64 b)) t
told_entry (Err r) t = refused (refusal_number r)

-- a plan of the code
unfoldable pub told_plan : ℕ → Result Planning Refusal → Taken
told_plan n (Ok p) = taken (plan_in n p)
told_plan n (Err r) = rejected (refusal_number r)

-- entries before those that a reading gives
unfoldable pub prefixed : List Bound → Read (List Bound) → Read (List Bound)
prefixed l (refused r) = refused r
prefixed l (got m t) = got (l ++ m) t

-- what was read so far, from s on, t being left: the list that the definition has, and the rows that stand for it where all passed
pub record SoFar (grid : Bool) (s t : List ℕ) (n i : ℕ) (passes : Bool) (xs : List Bound) : Type 0 where
  pub list : List Bound
  pub goes : prefixed list (list_of (n - i) entry t) ≡ list_of n entry s
  pub passed : passes ≡ every_planned (plannable grid) list
  pub stands : passes ≡ true → list ≡ xs

-- the rows of the code for a list of n, if every number of it passed
abbrev pub RowsAre : Bool → ℕ → List Bound → Option (List Planned) → Type 0
RowsAre grid n l std.None = every_planned (plannable grid) l ≡ false
RowsAre grid n l (std.Some rows) = (every_planned (plannable grid) l ≡ true) × (l ≡ map x_of (take n rows))

-- the entries of the code
pub record EntriesGot (grid : Bool) (s t : List ℕ) (n : ℕ) (rows : Option (List Planned)) : Type 0 where
  pub list : List Bound
  pub is : list_of n entry s ≡ got list t
  pub are : RowsAre grid n list rows

abbrev pub EntriesTold : Bool → List ℕ → List ℕ → ℕ → Result (Option (List Planned)) Refusal → Type 0
EntriesTold grid s t n r = MatchResult r (EntriesGot grid s t n) (λ e. list_of n entry s ≡ refused (refusal_number e))

-- and what stands before them
pub record BodyGot (grid : Bool) (s t : List ℕ) (n : ℕ) (b : Body) : Type 0 where
  pub list : List Bound
  pub is : body n s ≡ got (record { xs = list; left = b.left }) t
  pub are : RowsAre grid n list b.rows

abbrev pub BodyTold : Bool → List ℕ → List ℕ → ℕ → Result Body Refusal → Type 0
BodyTold grid s t n r = MatchResult r (BodyGot grid s t n) (λ e. body n s ≡ refused (refusal_number e))

-- a pattern's number, where it passes
abbrev pub judged : Bool → ℕ → Option Float
judged grid b = cond (plannable grid (of_bits binary64 b)) (std.Some (of_bits binary64 b)) std.None
