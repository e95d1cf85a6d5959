use Rattle.std.proofs.Common.{◌≡◌, drop}
use Rattle.job.specs.Keys.{twice}
use Rattle.job_keys.proofs.has_twice.Given as goal

abbrev pub invariant-loop-i : goal.invariant-loop-i
invariant-loop-i l = twice (drop l.i l.keys) ≡ twice l.keys
