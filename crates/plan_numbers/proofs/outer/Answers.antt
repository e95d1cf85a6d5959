-- Written, though the check finds it alone, so that an edit is refused at the fact that does not hold.
use Rattle.plan_numbers.proofs.outer.Goals as goal

pub returns-in-Input : goal.returns-in-Input
returns-in-Input c = rw (c.in-Input.is, c.min.ensures)

pub returns-in-Output : goal.returns-in-Output
returns-in-Output c = rw (c.in-Output.is, c.max.ensures)
