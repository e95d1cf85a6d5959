-- The board and the routes of a job on the drafting grid in whole numbers over 128. Definitions only.
-- Assumes nothing.
use Rattle.std.specs.Prelude.{List, map}
use Rattle.geometry.specs.declared.Point.{Point}
use Rattle.geometry.specs.Points.{Route}
use Rattle.board.specs.declared.Options.{Options}
use Rattle.board.specs.declared.PlacedNode.{PlacedNode}
use Rattle.board.specs.declared.Port.{Port}
use Rattle.board.specs.Board.{Board}
use Rattle.grid_plan.specs.Board as Z
use Rattle.grid.specs.DraftingGrid.{units}

abbrev pub point : Point → Z.Point
point p = record { x = units p.x; y = units p.y }

abbrev pub node : PlacedNode → Z.PlacedNode
node n = record { id = n.id; body = record { corner = point n.body.corner; width = units n.body.width; height = units n.body.height } }

abbrev pub port : Port → Z.Port
port p = record { node = p.node; id = p.id; side = p.side; offset = units p.offset }

abbrev pub options : Options → Z.Options
options o = record { stub = units o.port_stub; gap = units o.route_lane_gap; clearance = units o.edge_node_clearance; spacing = units o.minimum_parallel_wire_spacing; reserve = units o.member_endpoint_reserve }

abbrev pub wholes : Board → Z.Board
wholes b = record { options = options b.options; nodes = map node b.nodes; ports = map port b.ports; edges = b.edges; bundles = b.bundles; members = b.members }

abbrev pub whole_routes : List Route → List Z.Route
whole_routes rs = map (map point) rs
