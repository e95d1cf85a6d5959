use Prim.Native.Nat.{◌+◌}
use mathlib.Core.Path.{◌≡◌}
use lib.ListN.{length, drop}
use lib.Seq.{sets}
use Rattle.answer.specs.Answer.{all_bytes}
use Rattle.answer.specs.SheetTables.{drawn_bytes}
use Rattle.answer.proofs.put_bundles.Given as goal

abbrev pub invariant-loop-row : goal.invariant-loop-row
invariant-loop-row l = record {
  place : l.at + length (all_bytes (drawn_bytes l.taps) (drop l.row-index l.rows)) ≡ l.from + length (all_bytes (drawn_bytes l.taps) l.rows);
  bytes : sets l.out l.at (all_bytes (drawn_bytes l.taps) (drop l.row-index l.rows)) ≡ sets l.initial.out l.from (all_bytes (drawn_bytes l.taps) l.rows);
}
