use Rattle.std.specs.Prelude.{◌≡◌}
use Rattle.drawing.specs.Build.{lowest, highest}
use Rattle.checks.specs.LentRows.{taps_in}
use Rattle.bundle_geometry.proofs.Taps.{taps_rest}
use Rattle.bundle_geometry.proofs.tap_reach.Given as goal

abbrev pub invariant-loop-p : goal.invariant-loop-p
invariant-loop-p l = record {
  low : lowest l.low (taps_rest l.taps l.p-index) ≡ lowest l.initial.low (taps_in l.taps);
  high : highest l.high (taps_rest l.taps l.p-index) ≡ highest l.initial.high (taps_in l.taps);
}
