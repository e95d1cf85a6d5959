use Rattle.crossing_rows.specs.Walk.{drawn_at}
use Rattle.crossing_rows.specs.Rows.{id_of, sheet_rows}
use Rattle.route.specs.Slots.{routes_of}
use Rattle.std.specs.Prelude.{◌≡◌, ◌++◌, map}
use Rattle.crossing_walk.proofs.walk_bundles.Given as goal

abbrev pub invariant-loop-row : goal.invariant-loop-row
invariant-loop-row l = l.kept.items ++ drawn_at l.drawn (map id_of l.routes.edges.now) (routes_of l.routes.present.points.now l.routes.present.counts.now) l.row-index ≡ l.initial.kept.items ++ sheet_rows l.drawn (map id_of l.routes.edges.now) (routes_of l.routes.present.points.now l.routes.present.counts.now)
