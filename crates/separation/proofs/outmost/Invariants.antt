use mathlib.Core.Path.{◌≡◌}
use lib.ListN.{drop}
use Rattle.separation.specs.Taken.{outmost}
use Rattle.separation.proofs.outmost.Given as goal

abbrev pub invariant-loop-y : goal.invariant-loop-y
invariant-loop-y l = outmost l.role l.most (drop l.y-index l.used) ≡ outmost l.role l.x l.used
