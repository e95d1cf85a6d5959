use Prim.Native.Nat.{◌+◌}
use mathlib.Core.Path.{◌≡◌}
use lib.ListN.{length, drop}
use lib.Seq.{sets}
use Rattle.answer.specs.Answer.{all_bytes, lines_of, line_bytes}
use Rattle.route.specs.Slots.{routes_from, routes_of}
use Rattle.answer.proofs.put_routes.Given as goal

abbrev pub invariant-loop-i : goal.invariant-loop-i
invariant-loop-i l = record {
  place : l.at + length (all_bytes line_bytes (lines_of (drop l.i l.edges) (routes_from l.present.points.now l.i (drop l.i l.present.counts.now)))) ≡ l.from + length (all_bytes line_bytes (lines_of l.edges (routes_of l.present.points.now l.present.counts.now)));
  bytes : sets l.out l.at (all_bytes line_bytes (lines_of (drop l.i l.edges) (routes_from l.present.points.now l.i (drop l.i l.present.counts.now)))) ≡ sets l.initial.out l.from (all_bytes line_bytes (lines_of l.edges (routes_of l.present.points.now l.present.counts.now)));
}
