-- `plan_numbers::inward` meets its contract. Assumes nothing.
use Rattle.plan_numbers.proofs.inward.Goals as goal

pub returns-in-Input : goal.returns-in-Input
returns-in-Input c = rw c.in-Input.is

pub returns-in-Output : goal.returns-in-Output
returns-in-Output c = rw c.in-Output.is
