-- `separation::lanes_of` meets its contract. Assumes nothing.
use Rattle.separation.proofs.lanes_of.Goals as goal

pub returns-in-Input : goal.returns-in-Input
returns-in-Input c = rw c.in-Input.is c.as_slice.ensures.value
