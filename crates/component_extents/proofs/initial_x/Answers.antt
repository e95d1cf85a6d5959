-- `component_extents::initial_x` meets its contract. Assumes nothing.
use Rattle.std.proofs.Common.{refl}
use Rattle.component_extents.proofs.initial_x.Goals as goal

pub returns-in-Some : goal.returns-in-Some
returns-in-Some c = rw c.in-Some.is refl
