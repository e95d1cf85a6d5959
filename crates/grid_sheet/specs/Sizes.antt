-- Sizes of a sheet's whole numbers over 128, and between which a sum or difference is exact. The hypotheses of `Numbers`. Definitions only.
-- Assumes nothing.
use Rattle.std.specs.Prelude.{◌^◌, ◌≤◌, List, ℤ, nat_abs, Option, Some, None}
use Rattle.sorting.specs.Lists.{Every}
use Rattle.grid_plan.specs.Board as Z
use Rattle.grid_plan.specs.Sizes.{Fit, Placed, Job, Length}
use Rattle.grid_sheet.specs.Draw as W
use Rattle.grid_sheet.specs.Page as X

-- the numbers of a sheet: at most 2 ^ 50 over 128
abbrev pub Tame : ℤ → Type 0
Tame z = nat_abs z ≤ 2 ^ 50

abbrev pub Lies : Z.Point → Type 0
Lies p = Tame p.x × Tame p.y

abbrev pub LiesOn : Z.Segment → Type 0
LiesOn s = Lies s.start × Lies s.end

abbrev pub OfTap : Option Z.Point → Type 0
OfTap None = Unit {0}
OfTap (Some p) = Lies p

-- the far sides of a node are exact
abbrev pub Sides : Z.Node → Type 0
Sides n = Fit n.corner.x n.width × Fit n.corner.y n.height

-- the points of a present route: at most 2 ^ 46 over 128
abbrev pub Within : ℤ → Type 0
Within z = nat_abs z ≤ 2 ^ 46

abbrev pub Kept : Z.Point → Type 0
Kept p = Within p.x × Within p.y

-- a tap: x at most 2 ^ 30, y at most 2 ^ 46 over 128
abbrev pub Tapped : W.TapOn → Type 0
Tapped t = (nat_abs t.place.x ≤ 2 ^ 30) × Within t.place.y

abbrev pub KeptSegment : Z.Segment → Type 0
KeptSegment s = Kept s.start × Kept s.end

abbrev pub KeptDrawn : W.Drawn → Type 0
KeptDrawn d = KeptSegment d.collector × KeptSegment d.spine × Every Tapped d.taps

abbrev pub KeptRoutes : List Z.Route → Type 0
KeptRoutes rs = Every (Every Kept) rs

-- the sheet as it stands at a turn
pub record Standing (s : W.Progress) : Type 0 where
  pub routes : KeptRoutes s.routes
  pub drawn : Every KeptDrawn s.drawn

-- a corridor offset
abbrev pub Offset : ℤ → Type 0
Offset d = nat_abs d ≤ 2 ^ 44

-- a turn with its planned x and its offset
abbrev pub Timely : W.Turn → Type 0
Timely t = Placed t.planned × Offset t.offset

-- the far sides of the nodes that were moved
abbrev pub Far : Z.PlacedNode → Type 0
Far n = (nat_abs n.body.corner.x ≤ 2 ^ 47) × (nat_abs n.body.corner.y ≤ 2 ^ 47) × (nat_abs n.body.width ≤ 2 ^ 27) × (nat_abs n.body.height ≤ 2 ^ 27)

-- what the order of document 01 gives to normalize_layout
pub record Ready (s : X.Sheet) : Type 0 where
  pub nodes : Every (λ (n : Z.PlacedNode). Job n.body.corner.x × Job n.body.corner.y × Length n.body.width × Length n.body.height) s.nodes
  pub routes : KeptRoutes s.routes
  pub drawn : Every KeptDrawn s.drawn
