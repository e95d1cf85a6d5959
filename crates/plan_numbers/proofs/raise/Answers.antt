-- `plan_numbers::raise` meets its contract. Assumes nothing.
use Rattle.plan_numbers.proofs.raise.Goals as goal

pub returns-in-None : goal.returns-in-None
returns-in-None c = rw c.in-None.is

pub returns-in-At : goal.returns-in-At
returns-in-At c = rw (c.in-At.is, c.max.ensures)
