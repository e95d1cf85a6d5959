-- `job_keys::has_twice` meets its contract. Assumes nothing.
use Rattle.std.proofs.Common.{sym, ◌∙◌, arith}
use Rattle.job.specs.LoopSteps.{twice_none}
use Rattle.job_keys.proofs.Places.{again, not_again}
use Rattle.job_keys.proofs.has_twice.Goals as goal

pub returns-then-contains : goal.returns-then-contains
returns-then-contains c = sym (again c.args.keys.now c.loop-i.i (omega arith) (sym c.contains.ensures.value ∙ c.if-contains.true)) ∙ c.loop-i.invariant

pub loop-i-preserved : goal.loop-i-preserved
loop-i-preserved c = not_again c.args.keys.now c.loop-i.i (omega arith) (sym c.contains.ensures.value ∙ c.if-contains.false) ∙ c.loop-i.invariant

pub returns : goal.returns
returns c = sym (twice_none c.args.keys.now c.loop-i.i (omega arith)) ∙ c.loop-i.invariant
