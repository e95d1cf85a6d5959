-- `component_settling::input_split` meets its contract. Assumes nothing.
use lib.Ieee.{of_bits, of_int}
use Rattle.component_settling.proofs.input_split.Goals as goal

pub returns : goal.returns
unfolding of_bits of_int
returns c = c.clamp.ensures
