-- A board on the drafting grid in whole numbers, n standing for n / 128: the twin of board/specs/Board, geometry/specs/Points and Port and the first part of plan/specs/Depths, name for name. Definitions only.
-- Assumes nothing.
use Rattle.std.specs.Prelude.{ℕ, cond, List, [], ◌∷◌, ℤ, pos, ◌+ℤ◌, ◌-ℤ◌, get_or}
use Rattle.geometry.specs.declared.Side.{Side}
use Rattle.geometry.specs.declared.Side.TheVariants.{North, East, South, West}
use Rattle.geometry.specs.declared.Role.{Role}
use Rattle.geometry.specs.declared.Role.TheVariants.{Input, Output}
use Rattle.board.specs.declared.Edge.{Edge}
use Rattle.board.specs.declared.Bundle.{Bundle}
use Rattle.board.specs.declared.Member.{Member}
use Rattle.board.specs.Board.{members_of}
use Rattle.grid.specs.On.{below, larger}

-- the types of crates geometry and board, with a whole number where they have an f64
pub record Point : Type 0 where
  pub x : ℤ
  pub y : ℤ

pub record Segment : Type 0 where
  pub start : Point
  pub end : Point

pub record Node : Type 0 where
  pub corner : Point
  pub width : ℤ
  pub height : ℤ

pub record PlacedNode : Type 0 where
  pub id : ℕ
  pub body : Node

pub record Port : Type 0 where
  pub node : ℕ
  pub id : ℕ
  pub side : Side
  pub offset : ℤ

pub record Options : Type 0 where
  pub stub : ℤ
  pub gap : ℤ
  pub clearance : ℤ
  pub spacing : ℤ
  pub reserve : ℤ

-- edges, bundles and members have no number but counts and places, and are the job's
pub record Board : Type 0 where
  pub options : Options
  pub nodes : List PlacedNode
  pub ports : List Port
  pub edges : List Edge
  pub bundles : List Bundle
  pub members : List Member

-- a route: its points in their order
abbrev pub Route : Type 0
Route = List Point

-- Document 01's term "run": from a point of a route to the next. points.windows(2) of the Rust.
unfoldable pub runs : Route → List Segment
runs [] = []
runs (a ∷ []) = []
runs (a ∷ b ∷ r) = record { start = a; end = b } ∷ runs (b ∷ r)

-- document 01's pitch: the larger of the lane gap and the minimum spacing
abbrev pub sheet_pitch : Options → ℤ
sheet_pitch o = larger o.gap o.spacing

-- the pitch that a bundle uses
abbrev pub bundle_pitch : Options → Bundle → ℤ
bundle_pitch o b = sheet_pitch o

-- document 01's rail depth, boundary_bundle_rail_depth: the clearance if positive, else stub plus gap
unfoldable pub rail_depth : Options → ℤ
rail_depth o = cond (below (pos 0) o.clearance) o.clearance (o.stub +ℤ o.gap)

-- port_point
abbrev pub port_point : Node → Side → ℤ → Point
port_point n North offset = record { x = n.corner.x +ℤ offset; y = n.corner.y }
port_point n East offset = record { x = n.corner.x +ℤ n.width; y = n.corner.y +ℤ offset }
port_point n South offset = record { x = n.corner.x +ℤ offset; y = n.corner.y +ℤ n.height }
port_point n West offset = record { x = n.corner.x; y = n.corner.y +ℤ offset }

-- where a bundle ends: the point of its port on that port's node
abbrev pub endpoint : PlacedNode → Port → Point
endpoint n p = port_point n.body p.side p.offset

-- ---- a bundle's place
-- what stands past the end of a table; the reader has seen to it that nothing is read there
abbrev pub no_port : Port
no_port = record { node = 0; id = 0; side = North; offset = pos 0 }

abbrev pub no_node : PlacedNode
no_node = record { id = 0; body = record { corner = record { x = pos 0; y = pos 0 }; width = pos 0; height = pos 0 } }

abbrev pub port_of : Board → Bundle → Port
port_of b u = get_or b.ports u.port no_port

abbrev pub node_of : Board → Bundle → PlacedNode
node_of b u = get_or b.nodes (port_of b u).node no_node

-- where the bundle's port stands
abbrev pub endpoint_of : Board → Bundle → Point
endpoint_of b u = endpoint (node_of b u) (port_of b u)

abbrev pub members_in : Board → Bundle → List Member
members_in b u = members_of b.members u

-- the pitch that a bundle uses
abbrev pub pitch_of : Board → Bundle → ℤ
pitch_of b u = bundle_pitch b.options u

-- the pitch that parts inputs from outputs in a component
abbrev pub parting_pitch : Board → ℤ
parting_pitch b = sheet_pitch b.options

-- away from the boundary, as far as d: the Rust's `+ direction * d`
abbrev pub inward : Role → ℤ → ℤ → ℤ
inward Input x d = x +ℤ d
inward Output x d = x -ℤ d
