-- `binary64::min` meets its contract: each arm returns what `cond` picks by the arm's test. Assumes nothing.
use mathlib.Core.Path.{sym, ap}
use mathlib.Core.Bool.{Bool, cond}
use Rattle.binary64.proofs.min.Goals as goal

pub returns-then-b-a : goal.returns-then-b-a
returns-then-b-a c = sym (ap (λ (t : Bool). cond t c.args.b c.args.a) c.if-b-a.true)

pub returns-else-b-a : goal.returns-else-b-a
returns-else-b-a c = sym (ap (λ (t : Bool). cond t c.args.b c.args.a) c.if-b-a.false)
