-- `outputs::WantsFromU32::from` meets its contract. Assumes nothing.
use mathlib.Core.Path.{refl}
use Rattle.outputs.specs.Outputs.{wants_of}
use Rattle.outputs.proofs.WantsFromU32.from.Goals as goal

pub returns : goal.returns
unfolding wants_of
returns c = refl
