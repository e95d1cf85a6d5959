-- What the structs of lent slices and tables hold. Definitions of inner contracts.
-- Assumes nothing.
use Rattle.std.specs.Prelude.{◌≡◌, List, length, take, Float}
use Rattle.geometry.specs.Points.{Route}
use Rattle.geometry.specs.declared.Role.TheVariants.{Input, Output}
use Rattle.board.specs.declared.Bundle.{Bundle}
use Rattle.board.specs.declared.Edge.{Edge}
use Rattle.board.specs.Board.{Board, window}
use Rattle.search.specs.Stretches.{routes}
use Rattle.search.specs.declared.MemberRoutes.{MemberRoutes}
use Rattle.plan.specs.declared.Reached.{Reached}
use Rattle.plan.specs.declared.tables.BoardTables.{BoardTables}
use Rattle.plan.specs.declared.layout.Setting.{Setting}
use Rattle.plan.specs.declared.layout.Layout.{Layout}
use Rattle.plan.specs.declared.corridors.Corridors.{Corridors}
use Rattle.plan.specs.BoardTables.{board_of}
use Rattle.plan.specs.Depths.{offsets_of}
use Rattle.plan.specs.Prepared.{Windowed, Routed, Tells, AllTell, Cornered}

-- the board that is lent, with other edges
abbrev pub board_with : BoardTables → List Edge → Board
board_with t edges = board_of t.options t.nodes.now t.ports.now edges t.bundles.now t.members.now

-- the board that is lent
abbrev pub board_lent : BoardTables → Board
board_lent t = board_with t t.edges.now

-- the offsets are those of the bundles, whatever the edges
abbrev pub OffsetsLent : BoardTables → List Float → Type 0
OffsetsLent t offsets = (edges : List Edge) → take (length t.bundles.now) offsets ≡ offsets_of (board_with t edges)

-- the members' given routes
abbrev pub RoutesTell : Board → List Route → MemberRoutes → Type 0
RoutesTell b given r = Windowed b given r.points.now r.starts.now r.counts.now

-- the routes of one bundle's members
abbrev pub bundle_routes : MemberRoutes → Bundle → List Route
bundle_routes r u = routes r.points.now (window u.first u.count r.starts.now) (window u.first u.count r.counts.now)

-- they are the given ones
abbrev pub BundleTells : Board → List Route → MemberRoutes → Bundle → Type 0
BundleTells b given r u = Routed b given r.points.now r.starts.now r.counts.now u

-- what was worked out about a bundle, and about every bundle of the board
abbrev pub ReachTells : Board → List Route → Setting → Reached → Type 0
ReachTells b given s r = Tells b given s.routes.points.now s.routes.starts.now s.routes.counts.now s.rail s.pitch r

abbrev pub LayoutTells : Board → List Route → Layout → Type 0
LayoutTells b given l = AllTell b given l.setting.routes.points.now l.setting.routes.starts.now l.setting.routes.counts.now l.setting.rail l.setting.pitch l.reaches.now

-- the corridors of both roles
abbrev pub CorridorsTell : Board → Corridors → Type 0
CorridorsTell b c = Cornered b Input c.inputs.now × Cornered b Output c.outputs.now
