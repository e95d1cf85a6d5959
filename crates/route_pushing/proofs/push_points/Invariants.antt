use Rattle.route.specs.Push.{push_points}
use Rattle.geometry.specs.Points.{points_from}
use Prim.Native.Nat.{◌≤◌, ◌+◌, ◌-◌}
use mathlib.Core.Path.{◌≡◌}
use Rattle.route_pushing.proofs.push_points.Given as goal

abbrev pub invariant-loop-x : goal.invariant-loop-x
invariant-loop-x l = record {
  most : l.n ≤ l.count + l.x-index;
  points : push_points (points_from l.out 0 l.n) (points_from l.route.points.now (l.route.start + l.x-index) (l.route.count - l.x-index)) ≡ push_points (points_from l.initial.out 0 l.count) (points_from l.route.points.now l.route.start l.route.count);
}
