use mathlib.Core.Path.{◌≡◌}
use Rattle.normalize.specs.PageTables.{outermost, row_points}
use Rattle.normalize.proofs.Outer.{rows_rest}
use Rattle.normalize.proofs.outermost_of_drawn.Given as goal

abbrev pub invariant-loop-d : goal.invariant-loop-d
invariant-loop-d l = outermost l.corner l.most (rows_rest l.taps l.drawn l.d-index) ≡ outermost l.corner l.initial.most (row_points l.taps l.drawn)
