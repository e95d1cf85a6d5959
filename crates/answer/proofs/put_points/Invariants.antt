use Prim.Native.Nat.{◌+◌, ◌*◌, ◌-◌}
use mathlib.Core.Path.{◌≡◌}
use lib.Seq.{sets}
use Rattle.geometry.specs.Points.{points_from}
use Rattle.answer.specs.Answer.{all_bytes, point_bytes}
use Rattle.answer.proofs.put_points.Given as goal

abbrev pub invariant-loop-x : goal.invariant-loop-x
invariant-loop-x l = record {
  place : l.at ≡ l.from + 16 * l.x-index;
  bytes : sets l.out l.at (all_bytes point_bytes (points_from l.route.points.now (l.route.start + l.x-index) (l.route.count - l.x-index))) ≡ sets l.initial.out l.from (all_bytes point_bytes (points_from l.route.points.now l.route.start l.route.count));
}
