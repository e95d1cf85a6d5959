-- The route that a view is lent with. Definitions of inner contracts.
-- Assumes nothing.
use Rattle.geometry.specs.declared.RouteView.{RouteView}
use Rattle.geometry.specs.Points.{Route, points_from}

abbrev pub route_lent : RouteView → Route
route_lent v = points_from v.points.now v.start v.count
