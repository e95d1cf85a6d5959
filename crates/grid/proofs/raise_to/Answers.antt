-- `grid::raise_to` meets its contract: what the bits of the two numbers are. Assumes nothing.
use Rattle.std.proofs.Math.Path.{refl}
use Rattle.std.specs.Float.Ieee.{of_bits}
use Rattle.grid.proofs.raise_to.Goals as goal

pub returns-in-Drafting : goal.returns-in-Drafting
unfolding of_bits
returns-in-Drafting c = rw c.in-Drafting.is refl

pub returns-in-Plan : goal.returns-in-Plan
unfolding of_bits
returns-in-Plan c = rw c.in-Plan.is refl
