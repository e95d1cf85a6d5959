use mathlib.Core.Path.{◌≡◌}
use lib.ListN.{drop}
use Rattle.limits.specs.Limits.{max_points}
use Rattle.search_calls.specs.Entry.{counts_fit}
use Rattle.search_refusals.proofs.counts_fit.Given as goal

abbrev pub invariant-loop-count : goal.invariant-loop-count
invariant-loop-count l = counts_fit max_points l.counts ≡ counts_fit l.left (drop l.count-index l.counts)
