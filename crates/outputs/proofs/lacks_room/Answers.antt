-- `outputs::lacks_room` meets its contract. Assumes nothing.
use mathlib.Core.Path.{refl}
use Rattle.outputs.specs.Outputs.{lacks}
use Rattle.outputs.proofs.lacks_room.Goals as goal

pub returns : goal.returns
unfolding lacks
returns c = refl
