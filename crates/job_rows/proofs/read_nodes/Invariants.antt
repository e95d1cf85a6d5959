use Rattle.std.proofs.Common.{◌≡◌, ◌-◌, map, length, take}
use Rattle.wire.specs.Read.{many}
use Rattle.job.specs.Job.{push, node, node_key}
use Rattle.job.specs.Reads.{nodes_of}
use Rattle.job_rows.proofs.read_nodes.Given as goal

abbrev pub invariant-loop-key : goal.invariant-loop-key
invariant-loop-key l =
    (length l.rows.items ≡ l.key-index)
    × (take l.key-index l.keys ≡ map node_key l.rows.items)
    × (many (length l.initial.keys - l.key-index) (push (node l.grid)) l.rows.items l.s.bytes.now ≡ nodes_of l.grid (length l.initial.keys) l.initial.s.bytes.now)
