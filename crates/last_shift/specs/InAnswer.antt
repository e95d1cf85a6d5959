-- Document 01's "The words of demand 3", of the sheet in the answer, which "is what normalize_layout makes of it": its own routes, bundles, taps and ids, in exact fractions. Definitions only.
-- Assumes nothing.
use Rattle.std.specs.Prelude.{◌≡◌, ◌⊎◌, true, false, ℕ, ◌<◌, length, get_or}
use mathlib.Core.List.{List, [], Memᴰ}
use Rattle.std.specs.Float.Ieee.{ne}
use Rattle.binary64.specs.Accepted.{zero64}
use Rattle.binary64.specs.Rational.{Fraction}
use Rattle.geometry.specs.declared.Segment.{Segment}
use Rattle.geometry.specs.Points.{runs}
use Rattle.exact.specs.Exact.{Exact, Same, SamePlace, minusℚ, HasLength}
use Rattle.board.specs.declared.DrawnTap.{DrawnTap}
use Rattle.board.specs.Board.{Board}
use Rattle.answer.specs.Answer.{Line, Trunk, Sheet}
use Rattle.drawing.specs.Build.{pt, seg, no_drawn}
use Rattle.drawing.specs.Normal as drawing
use Rattle.drawing.specs.Normal.{sheet_after, min_x, min_y, shifted_sheet, moved}
use Rattle.ranges.specs.Coordinates.{OfPlaced}
use Rattle.promise.specs.Demand3.{OnBoth, AllFinite, StandsAt, NoFalseJoint, Kept, crossing_bit}
use Rattle.last_shift.specs.Shift.{corner_of, moves, CloseLess, ExactLess, ShiftExact, NodesExact, without_nodes, Any, least_x, with_nodes}

-- a bundle's segments are its collector and its spine
pub data PartOf (t : Trunk) (s : Segment) : Type 0 where
  its_collector : s ≡ t.collector → PartOf t s
  its_spine : s ≡ t.spine → PartOf t s

-- p is in the same place as a tap of the bundle that has the route's id, and as an end of the run
pub record TapAndEnd (t : Trunk) (id : ℕ) (run : Segment) (p : Exact) : Type 0 where
  pub tap : DrawnTap
  pub listed : Memᴰ tap t.taps
  pub of_route : tap.edge ≡ id
  pub at_tap : SamePlace tap.point p
  pub at_end : SamePlace run.start p ⊎ SamePlace run.end p

-- a segment of the bundle and a run of the route share no point, or exactly one, which is the route's tap and an end of the run
pub record TapOnly (t : Trunk) (id : ℕ) (s run : Segment) : Type 0 where
  pub at_most_one : (p q : Exact) → OnBoth s run p → OnBoth s run q → Same p q
  pub only_there : (p : Exact) → OnBoth s run p → TapAndEnd t id run p

-- what stands past the end of the bundles; nothing is read there
abbrev pub no_trunk : Trunk
no_trunk = record { id = 0; interior = false; collector = seg (pt zero64 zero64) (pt zero64 zero64); spine = seg (pt zero64 zero64) (pt zero64 zero64); taps = [] }

-- the first two sentences of demand 3, of an answer's sheet
pub record NoFalseJointIn (a : Sheet) : Type 0 where
  pub with_routes : (t : Trunk) → Memᴰ t a.bundles → (s : Segment) → PartOf t s → (l : Line) → Memᴰ l a.routes → (run : Segment) → Memᴰ run (runs l.points) → HasLength run.start run.end → TapOnly t l.id s run
  pub with_bundles : (j k : ℕ) → j < k → k < length a.bundles → (s t : Segment) → PartOf (get_or a.bundles j no_trunk) s → PartOf (get_or a.bundles k no_trunk) t → HasLength s.start s.end → (p : Exact) → OnBoth s t p → ⊥

-- what the last shift leaves of demand 3: b is the job's board, s the sheet before the last shift, a the sheet in the answer
pub record Carried (b : Board) (s : drawing.Sheet) (a : Sheet) : Type 0 where
  -- every number of the answer's routes and bundles is finite
  pub all_finite : AllFinite (moved s).routes (moved s).drawn
  -- what the answer has: the sheet less the least coordinates, each difference rounded once, or the sheet itself where both are 0
  pub is_shifted : moves s ≡ true → moved s ≡ shifted_sheet (corner_of s) s
  pub is_still : moves s ≡ false → moved s ≡ s
  -- so, whatever the numbers, every coordinate of the answer is within 2 ^ -20 of the exact difference of the coordinate and the least one
  pub close : moves s ≡ true → OfPlaced (CloseLess (min_x s)) (CloseLess (min_y s)) s
  -- the shift is exact if it is on each axis whose least coordinate is not 0
  pub axes : (ne (min_x s) zero64 ≡ true → OfPlaced (ExactLess (min_x s)) Any (without_nodes s)) → (ne (min_y s) zero64 ≡ true → OfPlaced Any (ExactLess (min_y s)) (without_nodes s)) → ShiftExact s
  -- where the shift is exact, the first two sentences hold of the sheet in the answer
  pub joints : ShiftExact s → NoFalseJointIn a
  -- where it is exact for the nodes too, so does the third, with the first two, of the nodes, routes and bundles as they are written
  pub members_out : ShiftExact s → NodesExact s → NoFalseJoint (with_nodes b (moved s).nodes) (moved s).routes (moved s).drawn
  -- where the shift is exact, a collector that stands at q before it stands at q less the least x
  pub stands : ShiftExact s → (k : ℕ) → k < length s.drawn → (q : Fraction) → StandsAt (get_or s.drawn k no_drawn) q → StandsAt (get_or (moved s).drawn k no_drawn) (minusℚ q (least_x s))

-- what is kept in an answer: `kept` is demand 3 of the sheet before the last shift, and names this sheet and the one in the answer, whose bytes are written
pub record KeptInAnswer (bytes answer : List ℕ) : Type 0 where
  pub kept : Kept bytes answer
  pub carried : Carried kept.comes.said.board (sheet_after kept.comes.said.board kept.comes.sheet_made) kept.sheet

-- DEMAND 3 OF THE SHEET IN THE ANSWER, of a job's bytes and the bytes that stand in the answer's buffer for them, where demand 3 speaks: more than the six bytes of a notice are written, and crossings are forbidden
abbrev pub Demand3InAnswer : List ℕ → List ℕ → Type 0
Demand3InAnswer bytes answer = 6 < length answer → crossing_bit bytes ≡ 0 → KeptInAnswer bytes answer
