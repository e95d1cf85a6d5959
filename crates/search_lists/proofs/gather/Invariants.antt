use Rattle.std.specs.Prelude.{Option}
use mathlib.Core.Path.{◌≡◌}
use mathlib.Core.List.{List, ◌++◌, map}
use Prim.Native.Nat.{ℕ, ◌+◌, ◌-◌, ◌*◌, ◌≤◌}
use lib.ListN.{length, get_or, take, drop}
use lib.Ieee.{Float}
use Rattle.geometry.specs.declared.Role.{Role}
use Rattle.search.specs.Stretches.{members, routes, all_runs}
use Rattle.geometry.specs.Points.{points_from}
use Rattle.search.specs.Kept.{kept}
use Rattle.search.specs.Search.{gathered_onto}
use Rattle.search_lists.proofs.Walk.{R}
use Rattle.search_lists.proofs.gather.Given as goal

abbrev pub from_member : List Float → Role → Float → List ℕ → List ℕ → ℕ → List (Option (Float × Float))
from_member points role pitch starts counts m = all_runs (members role pitch (routes points (drop m starts) (drop m counts)))

abbrev pub invariant-loop-i : goal.invariant-loop-i
invariant-loop-i l =
    let tail = from_member l.sought.routes.points.now l.sought.role l.sought.pitch l.sought.routes.starts.now l.sought.routes.counts.now (l.m + 1) in
    let start = get_or l.sought.routes.starts.now l.m 0 in
    let count = get_or l.sought.routes.counts.now l.m 0 in
    let all = R l.sought.routes.points.now l.sought.role l.sought.pitch start count ++ tail in
    let rest = R l.sought.routes.points.now l.sought.role l.sought.pitch (start + l.i) (count - l.i) ++ tail in record {
      room : l.n + length rest ≤ length l.xs;
      passed : gathered_onto l.sought.role l.sought.bounds (take l.initial.n l.initial.xs) all l.initial.left.0 ≡ gathered_onto l.sought.role l.sought.bounds (take l.n l.xs) rest l.left.0;
      pair_room : 2 * (l.k + length rest) ≤ length l.kept;
      keeps : points_from l.initial.kept 0 l.initial.k ++ map kept all ≡ points_from l.kept 0 l.k ++ map kept rest;
    }

abbrev pub invariant-loop-m : goal.invariant-loop-m
invariant-loop-m l =
    let all = all_runs (members l.sought.role l.sought.pitch (routes l.sought.routes.points.now l.sought.routes.starts.now l.sought.routes.counts.now)) in
    let rest = from_member l.sought.routes.points.now l.sought.role l.sought.pitch l.sought.routes.starts.now l.sought.routes.counts.now l.m in record {
      room : l.n + length rest ≤ length l.xs;
      passed : gathered_onto l.sought.role l.sought.bounds (take l.initial.n l.initial.xs) all l.initial.left.0 ≡ gathered_onto l.sought.role l.sought.bounds (take l.n l.xs) rest l.left.0;
      pair_room : 2 * (l.k + length rest) ≤ length l.kept;
      keeps : map kept all ≡ points_from l.kept 0 l.k ++ map kept rest;
    }
