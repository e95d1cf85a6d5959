use Rattle.crossing_bytes.proofs.Laws.{rows_at}
use Rattle.crossing_bytes.specs.RowBytes.{row_bytes}
use Rattle.limits.specs.Limits.{crossing_bytes}
use Rattle.answer.specs.Answer.{all_bytes}
use lib.Seq.{sets}
use Prim.Native.Nat.{◌+◌, ◌*◌}
use mathlib.Core.Path.{◌≡◌}
use Rattle.crossing_list.proofs.put_rows.Given as goal

abbrev pub invariant-loop-row : goal.invariant-loop-row
invariant-loop-row l = record {
  place : l.at ≡ 2 + crossing_bytes * l.row-index;
  bytes : sets l.out l.at (rows_at l.rows l.row-index) ≡ sets l.initial.out 2 (all_bytes row_bytes l.rows);
}
