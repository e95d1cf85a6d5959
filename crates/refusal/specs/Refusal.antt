-- The numbers of the refusals, from document 01's section "Who can cause a refusal"; 15 to 19 are document 02's. Definitions of inner contracts.
-- Assumes nothing.
use Rattle.std.specs.Prelude.{ℕ}
use Rattle.refusal.specs.declared.Refusal.{Refusal}
use Rattle.refusal.specs.declared.Refusal.TheVariants.{LengthMismatch, BufferTooShort, UnknownVersion, FieldsMismatch, LimitExceeded, ValueNotListed, NumberOutOfRange, DuplicateId, UnknownId, TapUnreachable, ForbiddenContact, RouteThroughNode, NoRoomToSplit, GeometryVisitsSpent, OffGrid, PageOffGrid, PlanMismatch, PlannedNumber, TooManyCrossings}

abbrev pub refusal_number : Refusal → ℕ
-- the calling program: a job under 5 bytes, or its length not the bytes that follow
refusal_number LengthMismatch = 1
-- an output's buffer under that output's least size
refusal_number BufferTooShort = 2
-- the job's writer: version not 1
refusal_number UnknownVersion = 3
-- a field runs past the end, or bytes remain
refusal_number FieldsMismatch = 4
-- a count, lane or grant above its limit
refusal_number LimitExceeded = 5
-- a flag, side or role not listed
refusal_number ValueNotListed = 6
-- a number not finite, or out of range
refusal_number NumberOutOfRange = 7
-- an id twice, or an edge twice in one role's bundles
refusal_number DuplicateId = 8
-- an unknown node, port or edge
refusal_number UnknownId = 9
-- the drawing: BoundaryBundleGeometryUnsatisfied from rewriting
refusal_number TapUnreachable = 10
-- from the contact check
refusal_number ForbiddenContact = 11
-- from the interior check
refusal_number RouteThroughNode = 12
-- the clamp of the input split would have its low end above its high end
refusal_number NoRoomToSplit = 13
-- the grant: a geometry visit is due and 0 are left
refusal_number GeometryVisitsSpent = 14
-- F-2: a number is off the drafting grid that the job declares
refusal_number OffGrid = 15
-- F-4: the page is wanted of a job that does not declare the drafting grid
refusal_number PageOffGrid = 16
-- F-5: a plan's length, version, marks, entries or visits left do not fit the job
refusal_number PlanMismatch = 17
-- F-5: a planned number is not finite, out of range, or off the grid that the job declares
refusal_number PlannedNumber = 18
-- F-7: there are more than 1,024 crossings
refusal_number TooManyCrossings = 19
