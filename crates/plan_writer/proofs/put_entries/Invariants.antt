use Rattle.std.proofs.Common.{◌≡◌, ◌≤◌, ◌+◌, ◌*◌, length, drop}
use lib.Seq.{sets}
use Rattle.answer.specs.Answer.{all_bytes}
use Rattle.plan_writer.specs.Rows.{row_bytes}
use Rattle.plan_writer.proofs.put_entries.Given as goal

abbrev pub invariant-loop-row : goal.invariant-loop-row
invariant-loop-row l =
    (l.at ≤ l.from + 9 * l.row-index)
    × (l.at + length (all_bytes row_bytes (drop l.row-index l.rows)) ≡ l.from + length (all_bytes row_bytes l.rows))
    × (sets l.out l.at (all_bytes row_bytes (drop l.row-index l.rows)) ≡ sets l.initial.out l.from (all_bytes row_bytes l.rows))
