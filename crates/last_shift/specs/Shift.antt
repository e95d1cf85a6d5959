-- The last shift of document 01's section "The sheet", normalize_layout: when it rounds nothing, and how far apart a rounded and an exact difference are. Definitions only.
-- Assumes nothing.
use Rattle.std.specs.Prelude.{◌≡◌, Bool, true, ◌||◌, cond, List, [], ℕ, ◌^◌, ℤ, pos, Float}
use Rattle.std.proofs.Common.{pow_pos}
use Rattle.std.specs.Float.{binary64}
use Rattle.std.specs.Float.Ieee.{ne, sub}
use Rattle.binary64.specs.Accepted.{zero64}
use Rattle.binary64.specs.Rational.{Fraction, AtMostℚ, Sameℚ, value}
use Rattle.geometry.specs.declared.Point.{Point}
use Rattle.geometry.specs.Points.{Route}
use Rattle.geometry.specs.Enters.{far_x, far_y}
use Rattle.exact.specs.Exact.{nought, plusℚ, minusℚ}
use Rattle.sorting.specs.Lists.{Every}
use Rattle.board.specs.declared.PlacedNode.{PlacedNode}
use Rattle.board.specs.Board.{Board}
use Rattle.drawing.specs.Build.{Drawn, pt}
use Rattle.drawing.specs.Normal.{Sheet, min_x, min_y, shifted_node}
use Rattle.ranges.specs.Coordinates.{OfPoint, OfDrawn}

-- what normalize_layout subtracts, and whether it does
abbrev pub corner_of : Sheet → Point
corner_of s = pt (min_x s) (min_y s)

abbrev pub moves : Sheet → Bool
moves s = ne (min_x s) zero64 || ne (min_y s) zero64

-- the rounded difference x - o has the value of the exact difference
abbrev pub ExactLess : Float → Float → Type 0
ExactLess o x = Sameℚ (value (sub binary64 x o)) (minusℚ (value x) (value o))

abbrev pub ExactPoint : Point → Point → Type 0
ExactPoint o p = OfPoint (ExactLess o.x) (ExactLess o.y) p

-- every coordinate of the routes and of the bundles is shifted exactly by o
pub record ExactBy (o : Point) (routes : List Route) (drawn : List Drawn) : Type 0 where
  pub on_routes : Every (Every (ExactPoint o)) routes
  pub of_bundles : Every (OfDrawn (ExactLess o.x) (ExactLess o.y)) drawn

-- nothing is shifted, or every coordinate of the routes and of the bundles exactly
abbrev pub ShiftExact : Sheet → Type 0
ShiftExact s = moves s ≡ true → ExactBy (corner_of s) s.routes s.drawn

-- a node's corner is shifted exactly, and its far sides, summed anew, are those before less o
pub record NodeExact (o : Point) (n : PlacedNode) : Type 0 where
  pub corner : ExactPoint o n.body.corner
  pub right : Sameℚ (value (far_x (shifted_node o n).body)) (minusℚ (value (far_x n.body)) (value o.x))
  pub bottom : Sameℚ (value (far_y (shifted_node o n).body)) (minusℚ (value (far_y n.body)) (value o.y))

abbrev pub NodesExact : Sheet → Type 0
NodesExact s = moves s ≡ true → Every (NodeExact (corner_of s)) s.nodes

-- ---- how far a shift rounds
-- z / 2 ^ k
abbrev pub over_grid : ℤ → ℕ → Fraction
over_grid z k = record { numerator = z; denominator = 2 ^ k; above_zero = pow_pos k }

abbrev pub tiny : Fraction
tiny = over_grid (pos 1) 20

-- r and e are at most 2 ^ -20 apart
pub record Close (r e : Fraction) : Type 0 where
  pub above : AtMostℚ r (plusℚ e tiny)
  pub below : AtMostℚ e (plusℚ r tiny)

-- the rounded difference x - o and the exact one
abbrev pub CloseLess : Float → Float → Type 0
CloseLess o x = Close (value (sub binary64 x o)) (minusℚ (value x) (value o))

-- ---- one axis alone
-- a sheet's routes and bundles, without its nodes
abbrev pub without_nodes : Sheet → Sheet
without_nodes s = record { nodes = []; routes = s.routes; drawn = s.drawn }

-- nothing is asked
abbrev pub Any : Float → Type 0
Any x = Unit {0}

-- ---- what the answer has in place of the sheet's
-- the x that is subtracted, 0 where nothing is
abbrev pub least_x : Sheet → Fraction
least_x s = cond (moves s) (value (min_x s)) nought

-- a board with its nodes elsewhere
abbrev pub with_nodes : Board → List PlacedNode → Board
with_nodes b ns = record { options = b.options; nodes = ns; ports = b.ports; edges = b.edges; bundles = b.bundles; members = b.members }
