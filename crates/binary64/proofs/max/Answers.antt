-- `binary64::max` meets its contract: each arm returns what `cond` picks by the arm's test. Assumes nothing.
use mathlib.Core.Path.{sym, ap}
use mathlib.Core.Bool.{Bool, cond}
use Rattle.binary64.proofs.max.Goals as goal

pub returns-then-a-b : goal.returns-then-a-b
returns-then-a-b c = sym (ap (λ (t : Bool). cond t c.args.b c.args.a) c.if-a-b.true)

pub returns-else-a-b : goal.returns-else-a-b
returns-else-a-b c = sym (ap (λ (t : Bool). cond t c.args.b c.args.a) c.if-a-b.false)
