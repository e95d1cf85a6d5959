use Rattle.std.proofs.Common.{◌≡◌, map, take}
use Rattle.route.specs.Slots.{routes_of}
use Rattle.plan.specs.BoardTables.{given_route}
use Rattle.turns.specs.TurnTables.{Short}
use Rattle.turns.proofs.store_edges.Given as goal

abbrev pub invariant-loop-i : goal.invariant-loop-i
invariant-loop-i l =
    Short (take l.i l.counts)
    × (routes_of l.points (take l.i l.counts) ≡ map (given_route l.given) (take l.i l.table))
