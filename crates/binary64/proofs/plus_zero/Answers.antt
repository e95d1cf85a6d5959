-- `binary64::plus_zero` meets its contract: each arm returns what `cond` picks by the arm's test. Assumes nothing.
use mathlib.Core.Path.{sym, ap}
use mathlib.Core.Bool.{Bool, cond}
use lib.Ieee.{of_bits}
use Rattle.binary64.specs.Accepted.{zero64, plus_zero}
use Rattle.binary64.proofs.plus_zero.Goals as goal

pub returns-then-x : goal.returns-then-x
unfolding of_bits plus_zero
returns-then-x c = sym (ap (λ (b : Bool). cond b zero64 c.args.x) c.if-x.true)

pub returns-else-x : goal.returns-else-x
unfolding of_bits plus_zero
returns-else-x c = sym (ap (λ (b : Bool). cond b zero64 c.args.x) c.if-x.false)
