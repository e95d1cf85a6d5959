use Rattle.crossing_rows.specs.Walk.{routes_at}
use Rattle.crossing_rows.specs.Rows.{id_of, bundle_rows}
use Rattle.route.specs.Slots.{routes_of}
use Rattle.std.specs.Prelude.{◌≡◌, ◌++◌, map}
use Rattle.crossing_walk.proofs.walk_bundle.Given as goal

abbrev pub invariant-loop-e : goal.invariant-loop-e
invariant-loop-e l = l.kept.items ++ routes_at l.fn.row (map id_of l.routes.edges.now) l.routes.present.points.now l.routes.present.counts.now l.e ≡ l.initial.kept.items ++ bundle_rows l.fn.row (map id_of l.routes.edges.now) (routes_of l.routes.present.points.now l.routes.present.counts.now) 0
