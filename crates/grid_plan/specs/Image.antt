-- What a board, a search and a plan in whole numbers are in binary64, n being n / 128. Definitions only.
-- Assumes nothing.
use Rattle.std.specs.Prelude.{map, ℤ, Option, Some, None, Float}
use Rattle.geometry.specs.declared.Point.{Point}
use Rattle.geometry.specs.declared.Segment.{Segment}
use Rattle.geometry.specs.declared.Node.{Node}
use Rattle.geometry.specs.Points.{Route}
use Rattle.board.specs.declared.Options.{Options}
use Rattle.board.specs.declared.PlacedNode.{PlacedNode}
use Rattle.board.specs.declared.Port.{Port}
use Rattle.board.specs.Board.{Board}
use Rattle.search.specs.declared.Bounds.{Bounds}
use Rattle.plan.specs.declared.Bound.{Bound}
use Rattle.plan.specs.declared.Bound.TheVariants as bounded
use Rattle.plan.specs.Plan.{Ranged, Plan, FirstPass}
use Rattle.grid_plan.specs.Board as Z
use Rattle.grid_plan.specs.Search as S
use Rattle.grid_plan.specs.Plan as P
use Rattle.grid.specs.On.{on}

abbrev pub point : Z.Point → Point
point p = record { x = on p.x; y = on p.y }

abbrev pub segment : Z.Segment → Segment
segment s = record { start = point s.start; end = point s.end }

abbrev pub node : Z.Node → Node
node n = record { corner = point n.corner; width = on n.width; height = on n.height }

abbrev pub placed : Z.PlacedNode → PlacedNode
placed n = record { id = n.id; body = node n.body }

abbrev pub port : Z.Port → Port
port p = record { node = p.node; id = p.id; side = p.side; offset = on p.offset }

abbrev pub options : Z.Options → Options
options o = record { port_stub = on o.stub; route_lane_gap = on o.gap; edge_node_clearance = on o.clearance; minimum_parallel_wire_spacing = on o.spacing; member_endpoint_reserve = on o.reserve }

abbrev pub board : Z.Board → Board
board b = record { options = options b.options; nodes = map placed b.nodes; ports = map port b.ports; edges = b.edges; bundles = b.bundles; members = b.members }

abbrev pub route : Z.Route → Route
route r = map point r

abbrev pub stretch : Option S.Stretch → Option (Float × Float)
stretch None = None
stretch (Some s) = Some (on s.low, on s.high)

abbrev pub bound : Option ℤ → Bound
bound None = bounded.None
bound (Some z) = bounded.At (on z)

abbrev pub bounds : S.Bounds → Bounds
bounds r = record { minimum = on r.minimum; desired = on r.desired; maximum = on r.maximum }

abbrev pub collector : Option S.Bounds → Option Bounds
collector None = None
collector (Some r) = Some (bounds r)

abbrev pub ranged : P.Ranged → Ranged
ranged s = record { bundle = s.bundle; bounds = collector s.bounds }

abbrev pub plan : P.Plan → Plan
plan p = record { xs = map bound p.xs; left = p.left }

abbrev pub first_pass : P.FirstPass → FirstPass
first_pass s = record { ranges = map ranged s.ranges; left = s.left }
