-- The routes that members are lent with. Definitions of inner contracts.
-- Assumes nothing.
use Rattle.std.specs.Prelude.{List, Float, Option}
use Rattle.geometry.specs.declared.Role.{Role}
use Rattle.geometry.specs.declared.Point.{Point}
use Rattle.search.specs.declared.MemberRoutes.{MemberRoutes}
use Rattle.search.specs.declared.Sought.{Sought}
use Rattle.search.specs.Stretches.{members, routes}

abbrev pub routes_lent : MemberRoutes → List (List Point)
routes_lent r = routes r.points.now r.starts.now r.counts.now

abbrev pub members_lent : Role → Float → MemberRoutes → List (List (Option (Float × Float)))
members_lent role pitch r = members role pitch (routes_lent r)

-- the stretches of the runs on which something is sought
abbrev pub sought_lent : Sought → List (List (Option (Float × Float)))
sought_lent s = members_lent s.role s.pitch s.routes
