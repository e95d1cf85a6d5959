use Rattle.std.proofs.Common.{◌≡◌, ◌+◌, ◌*◌, drop}
use lib.Seq.{sets}
use Rattle.answer.specs.Answer.{all_bytes}
use Rattle.answer.proofs.put_records.Given as goal

-- what is left to write leaves what all of it would
abbrev pub invariant-loop-row : goal.invariant-loop-row
invariant-loop-row g l = let r = g.R.Record in record {
  place : l.at ≡ l.from + r.WIDTH * l.row-index;
  bytes : sets l.out l.at (all_bytes r.record_bytes (drop l.row-index l.rows)) ≡ sets l.initial.out l.from (all_bytes r.record_bytes l.rows);
}
