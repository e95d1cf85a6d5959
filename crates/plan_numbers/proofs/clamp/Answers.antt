-- `plan_numbers::clamp` meets its contract. Assumes nothing.
use Rattle.plan_numbers.proofs.clamp.Goals as goal

pub returns : goal.returns
returns c = rw (c.min.ensures, c.max.ensures)
