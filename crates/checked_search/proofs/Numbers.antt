-- No refusal has the number 0, which says that a call is not refused. Assumes nothing.
use Rattle.std.proofs.Common.{◌≡◌, arith}
use Rattle.refusal.specs.declared.Refusal.{Refusal}
use Rattle.refusal.specs.declared.Refusal.TheVariants.{LengthMismatch, BufferTooShort, UnknownVersion, FieldsMismatch, LimitExceeded, ValueNotListed, NumberOutOfRange, DuplicateId, UnknownId, TapUnreachable, ForbiddenContact, RouteThroughNode, NoRoomToSplit, GeometryVisitsSpent, OffGrid, PageOffGrid, PlanMismatch, PlannedNumber, TooManyCrossings}
use Rattle.refusal.specs.Refusal.{refusal_number}

pub not_zero : (r : Refusal) → refusal_number r ≡ 0 → ⊥
not_zero LengthMismatch e = omega arith
not_zero BufferTooShort e = omega arith
not_zero UnknownVersion e = omega arith
not_zero FieldsMismatch e = omega arith
not_zero LimitExceeded e = omega arith
not_zero ValueNotListed e = omega arith
not_zero NumberOutOfRange e = omega arith
not_zero DuplicateId e = omega arith
not_zero UnknownId e = omega arith
not_zero TapUnreachable e = omega arith
not_zero ForbiddenContact e = omega arith
not_zero RouteThroughNode e = omega arith
not_zero NoRoomToSplit e = omega arith
not_zero GeometryVisitsSpent e = omega arith
not_zero OffGrid e = omega arith
not_zero PageOffGrid e = omega arith
not_zero PlanMismatch e = omega arith
not_zero PlannedNumber e = omega arith
not_zero TooManyCrossings e = omega arith
