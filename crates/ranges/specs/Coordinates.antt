-- What holds of every x and of every y of a point, a route, a tap, a drawn bundle and a sheet. Definitions only.
-- Assumes nothing.
use Rattle.std.specs.Prelude.{ℕ, Float}
use mathlib.Core.List.{List, Memᴰ}
use Rattle.geometry.specs.declared.Point.{Point}
use Rattle.geometry.specs.Points.{Route}
use Rattle.sorting.specs.Lists.{Every}
use Rattle.board.specs.declared.PlacedNode.{PlacedNode}
use Rattle.drawing.specs.Build.{TapOn, Drawn, route_at}
use Rattle.drawing.specs.Normal.{Sheet}
use Rattle.drawing.specs.Sheet.{Progress}

-- X holds of every x, Y of every y
module _ (X Y : Float → Type 0) where
  abbrev pub OfPoint : Point → Type 0
  OfPoint p = X p.x × Y p.y

  abbrev pub OfRoute : Route → Type 0
  OfRoute r = (a : Point) → Memᴰ a r → OfPoint a

  abbrev pub OfRoutes : List Route → Type 0
  OfRoutes rs = (i : ℕ) → OfRoute (route_at rs i)

  abbrev pub OfTap : TapOn → Type 0
  OfTap t = OfPoint t.place

  -- both ends of the collector and of the spine, and the taps
  pub record OfDrawn (d : Drawn) : Type 0 where
    pub collector_start : OfPoint d.collector.start
    pub collector_end : OfPoint d.collector.end
    pub spine_start : OfPoint d.spine.start
    pub spine_end : OfPoint d.spine.end
    pub taps : Every OfTap d.taps

  -- a sheet as its bundles are drawn
  pub record OfSheet (s : Progress) : Type 0 where
    pub present : OfRoutes s.routes
    pub bundles : Every OfDrawn s.drawn

  -- a sheet as normalize_layout takes it, and as it leaves it: the nodes' corners, the routes and the bundles
  pub record OfPlaced (s : Sheet) : Type 0 where
    pub nodes : Every (λ (n : PlacedNode). OfPoint n.body.corner) s.nodes
    pub routes : Every (Every OfPoint) s.routes
    pub drawn : Every OfDrawn s.drawn
