-- What the present routes in their slots are. Definitions of inner contracts.
-- Assumes nothing.
use Rattle.std.specs.Prelude.{List}
use Rattle.geometry.specs.Points.{Route}
use Rattle.route.specs.Slots.{routes_of}
use Rattle.route.specs.declared.PresentRoutes.{PresentRoutes}

-- the present routes
abbrev pub routes_lent : PresentRoutes → List Route
routes_lent p = routes_of p.points.now p.counts.now
