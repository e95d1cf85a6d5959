use Rattle.crossing_rows.specs.Walk.{runs_at}
use Rattle.crossing_rows.specs.Rows.{run_rows}
use Rattle.geometry.specs.Points.{runs, points_from}
use Rattle.std.specs.Prelude.{◌≡◌, ◌++◌}
use Rattle.crossing_walk.proofs.walk_runs.Given as goal

abbrev pub invariant-loop-i : goal.invariant-loop-i
invariant-loop-i l = l.kept.items ++ runs_at l.bus.segment l.ids.bundle l.ids.edge l.route.points.now l.route.start l.route.count l.i ≡ l.initial.kept.items ++ run_rows l.bus.segment l.ids.bundle l.ids.edge (runs (points_from l.route.points.now l.route.start l.route.count))
