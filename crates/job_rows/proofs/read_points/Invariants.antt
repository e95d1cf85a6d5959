use Rattle.std.proofs.Common.{◌≡◌, ◌+◌, ◌-◌}
use Rattle.wire.specs.Read.{many}
use Rattle.job.specs.Job.{push, point}
use Rattle.geometry.specs.Points.{points_from}
use Rattle.job_rows.proofs.read_points.Given as goal

abbrev pub invariant-loop-i : goal.invariant-loop-i
invariant-loop-i l =
    many (l.count - l.i) (push (point l.grid)) (points_from l.points 0 (l.total + l.i)) l.s.bytes.now ≡ many l.count (push (point l.grid)) (points_from l.initial.points 0 l.total) l.initial.s.bytes.now
