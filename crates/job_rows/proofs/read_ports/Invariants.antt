use Rattle.std.proofs.Common.{◌≡◌, ◌-◌, length, take}
use Rattle.wire.specs.Read.{many}
use Rattle.job.specs.Job.{push, port, port_key, port_of}
use Rattle.job.specs.Reads.{ports_of, SoFar}
use Rattle.job_rows.proofs.read_ports.Given as goal

abbrev pub invariant-loop-key : goal.invariant-loop-key
invariant-loop-key l =
    (length l.rows.items ≡ l.key-index)
    × SoFar port_key (port_of l.nodes)
    (λ raw. many (length l.initial.keys - l.key-index) (push (port l.grid)) raw l.s.bytes.now ≡ ports_of l.grid (length l.initial.keys) l.initial.s.bytes.now)
    l.key-index (take l.key-index l.keys) l.known l.rows.items
