use Rattle.bundle_checks.proofs.Marked.{MarkedTo}
use Rattle.bundle_checks.proofs.mark_members.Given as goal

abbrev pub invariant-loop-m : goal.invariant-loop-m
invariant-loop-m l = MarkedTo l.members l.mask l.m-index
