use Rattle.std.specs.Prelude.{◌≡◌}
use Rattle.route.specs.Slots.{routes_of}
use Rattle.drawing.specs.Build.{trunk_taps}
use Rattle.bundle_geometry.proofs.Taps.{trunk_at}
use Rattle.bundle_geometry.proofs.trunk_taps.Given as goal

abbrev pub invariant-loop-i : goal.invariant-loop-i
invariant-loop-i l = trunk_at l.role l.pitch l.x l.members (routes_of l.present.points.now l.present.counts.now) l.taps l.i ≡ trunk_taps l.role l.pitch l.x l.members (routes_of l.present.points.now l.present.counts.now)
