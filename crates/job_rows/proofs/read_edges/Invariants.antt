use Rattle.std.proofs.Common.{◌≡◌, ◌-◌, ◌≤◌, length, take}
use Rattle.limits.specs.Limits.{max_points}
use Rattle.wire.specs.Read.{many}
use Rattle.job.specs.Job.{edge_key, edge_of, next_edge}
use Rattle.job.specs.Reads.{edges_of, SoFar}
use Rattle.geometry.specs.Points.{points_from}
use Rattle.job_rows.proofs.read_edges.Given as goal

abbrev pub invariant-loop-key : goal.invariant-loop-key
invariant-loop-key l =
    (length l.rows.items ≡ l.key-index) × (l.total ≤ max_points)
    × SoFar edge_key (edge_of l.nodes)
    (λ raw. many (length l.initial.keys - l.key-index) (next_edge l.grid) (record { edges = raw; points = points_from l.points 0 l.total }) l.s.bytes.now ≡ edges_of l.grid (length l.initial.keys) l.initial.s.bytes.now)
    l.key-index (take l.key-index l.keys) l.known l.rows.items
