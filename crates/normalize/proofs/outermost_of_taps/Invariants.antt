use mathlib.Core.Path.{◌≡◌}
use lib.ListN.{drop}
use Rattle.normalize.specs.PageTables.{outermost}
use Rattle.normalize.proofs.outermost_of_taps.Given as goal

abbrev pub invariant-loop-tap : goal.invariant-loop-tap
invariant-loop-tap l = outermost l.corner l.most (drop l.tap-index l.taps) ≡ outermost l.corner l.initial.most l.taps
