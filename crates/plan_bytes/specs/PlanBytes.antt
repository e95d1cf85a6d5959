-- A plan as bytes, from document 02's F-5: which bytes a plan is written as, which plan any bytes are read as for a job with so many bundles and such a grant, and which of 17 and 18 they get. Definitions only.
-- Assumes nothing.
use Rattle.std.specs.Prelude.{ℕ, ◌-◌, Bool, true, not, ◌&&◌, cond, List, [], ◌∷◌, ◌++◌, eqb, leb, Float, length, take, drop}
use Rattle.std.specs.Float.{binary64}
use Rattle.std.specs.Float.Ieee.{of_bits}
use Rattle.binary64.specs.Accepted.{is_coordinate, minus_zero, plus_zero}
use Rattle.grid.specs.DraftingGrid.{on_plan_grid}
use Rattle.wire.specs.Bytes.{number, bytes, number_bytes}
use Rattle.wire.specs.Read.{Read, refused, got, Reader, after, read, give, field, list_of}
use Rattle.answer.specs.Answer.{all_bytes}
use Rattle.plan.specs.declared.Bound.{Bound}
use Rattle.plan.specs.declared.Bound.TheVariants.{None, At}
use Rattle.plan.specs.Plan.{Plan}

-- ---- written

-- "per bundle u8 0 (none) or 1 followed by the f64"
unfoldable pub entry_bytes : Bound → List ℕ
entry_bytes None = bytes 1 0
entry_bytes (At x) = bytes 1 1 ++ number_bytes x

-- "version u8 = 1, tap visits left u32, then per bundle", in job order
unfoldable pub body_bytes : Plan → List ℕ
body_bytes p = bytes 1 1 ++ (bytes 4 p.left ++ all_bytes entry_bytes p.xs)

-- "length u32", counting the bytes after itself
unfoldable pub plan_bytes : Plan → List ℕ
plan_bytes p = bytes 4 (length (body_bytes p)) ++ body_bytes p

-- ---- read

-- a mark other than 0 or 1 is refused; any refusal of the form is 17 in the end (`settled`)
unfoldable pub marked : ℕ → Reader Bound
marked m s = cond (eqb m 0) (got None s) (cond (eqb m 1) (after (field 8 s) (λ b. give (At (of_bits binary64 b)))) (refused 17))

abbrev pub entry : Reader Bound
entry = read (field 1) marked

-- version, visits left, an entry for each of so many bundles
unfoldable pub versioned : ℕ → ℕ → Reader Plan
versioned bundles v s = cond (eqb v 1) (after (field 4 s) (λ left. read (list_of bundles entry) (λ xs. give (record { xs = xs; left = left })))) (refused 17)

abbrev pub body : ℕ → Reader Plan
body bundles = read (field 1) (versioned bundles)

-- what a plan's bytes come to
pub data Taken : Type 0 where
  rejected : ℕ → Taken
  taken : Plan → Taken

-- every number that is planned passes a test
unfoldable pub every_planned : (Float → Bool) → List Bound → Bool
every_planned ok [] = true
every_planned ok (None ∷ xs) = every_planned ok xs
every_planned ok (At x ∷ xs) = ok x && every_planned ok xs

-- what passes 18, which is given "when a planned number would get 7 as a coordinate or, with bit 2 set, is minus zero, no multiple of 1/128 or above 2^20 in magnitude". A coordinate is looked at as plus zero (F-1), so "without bit 2 a planned minus zero stays"
unfoldable pub plannable : Bool → Float → Bool
plannable grid x = is_coordinate (plus_zero x) && cond grid (not (minus_zero x) && on_plan_grid x) true

-- 17: bytes remain, "or its visits left exceed the grant"; 18 "after 17"
unfoldable pub settled : Bool → ℕ → Read Plan → Taken
settled grid grant (refused r) = rejected 17
settled grid grant (got p s) = cond (eqb (length s) 0 && leb p.left grant) (cond (every_planned (plannable grid) p.xs) (taken p) (rejected 18)) (rejected 17)

-- the length counts the bytes after itself
unfoldable pub length_fits : List ℕ → Bool
length_fits s = leb 4 (length s) && eqb (number (take 4 s)) (length s - 4)

-- the plan that some bytes are for a job with so many bundles and such a grant of tap visits, bit 2 of its flags set or clear: "17 when a plan's length, version, marks or entry count don't fit the job's bundles"
unfoldable pub read_plan : Bool → ℕ → ℕ → List ℕ → Taken
read_plan grid bundles grant s = cond (length_fits s) (settled grid grant (body bundles (drop 4 s))) (rejected 17)
