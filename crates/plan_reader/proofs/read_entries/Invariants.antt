use Rattle.std.proofs.Common.{◌≡◌, length, take, map}
use Rattle.plan.specs.Prepared.{x_of}
use Rattle.plan_reader.specs.Reading.{SoFar}
use Rattle.plan_reader.proofs.read_entries.Given as goal

abbrev pub invariant-loop-row : goal.invariant-loop-row
invariant-loop-row l =
    (length l.front ≡ l.n) × SoFar l.grid l.initial.s.bytes.now l.s.bytes.now l.n l.row-index l.passes (map x_of (take l.row-index l.front))
