use Rattle.std.specs.Prelude.{◌≡◌, take, map}
use Rattle.checks.specs.LentRows.{rail_place}
use Rattle.bundle_geometry.proofs.rail_taps.Given as goal

abbrev pub invariant-loop-i : goal.invariant-loop-i
invariant-loop-i l = take l.i l.taps ≡ map (rail_place l.end l.middle l.pitch) (take l.i l.members)
