-- The calls of the public entries, over what a caller lends. Definitions of inner contracts.
-- Assumes nothing.
use Rattle.std.specs.Prelude.{Bool, List, ℕ, Float, Option}
use Rattle.search.specs.declared.Bounds.{Bounds}
use Rattle.search_calls.specs.declared.LentRoutes.{LentRoutes}
use Rattle.search_calls.specs.declared.Call.{Call}
use Rattle.search_calls.specs.Entry.{plus_zeros, places_fit, refusal, Said, search_number, search_says, promotion_number, promotion_says}
use Rattle.search_calls.specs.Copied.{windows_fit, SameCall}

abbrev pub lent_places_fit : LentRoutes → Bool
lent_places_fit r = places_fit r.points.now r.starts.now r.counts.now

abbrev pub lent_windows_fit : LentRoutes → Bool
lent_windows_fit r = windows_fit r.points.now r.starts.now r.counts.now

abbrev pub call_refusal : Bool → Call → Bool → ℕ
call_refusal room c bounds = refusal room c.routes.points.now c.routes.starts.now c.routes.counts.now c.role c.pitch bounds c.granted

-- the number of a call with such an output and such scratch, and what it says by its number
abbrev pub search_call : List Float → List Float → List Float → Call → Bounds → ℕ
search_call xs candidates scratch c b = search_number xs candidates scratch c.routes.points.now c.routes.starts.now c.routes.counts.now c.role c.pitch b c.granted

abbrev pub search_call_says : ℕ → Call → Bounds → Said
search_call_says number c b = search_says number c.routes.points.now c.routes.starts.now c.routes.counts.now c.role c.pitch b c.granted

abbrev pub promotion_call : List Float → List Float → List Float → Call → Option Bounds → ℕ
promotion_call xs candidates scratch c b = promotion_number xs candidates scratch c.routes.points.now c.routes.starts.now c.routes.counts.now c.role c.pitch b c.granted

abbrev pub promotion_call_says : ℕ → Call → Option Bounds → Said
promotion_call_says number c b = promotion_says number c.routes.points.now c.routes.starts.now c.routes.counts.now c.role c.pitch b c.granted

-- a call of the first routes is one of the second with plus zeros
abbrev pub PlainFor : LentRoutes → LentRoutes → Type 0
PlainFor r s = (role : ℕ) (pitch : Float) (granted : ℕ) → SameCall r.points.now (plus_zeros s.points.now) r.starts.now s.starts.now s.counts.now role pitch granted
