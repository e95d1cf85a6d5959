use mathlib.Core.Path.{refl}
use lib.Ieee.{of_bits, of_int}
use Rattle.bundle_geometry.proofs.half_of.Goals as goal

pub returns : goal.returns
unfolding of_bits of_int
returns c = refl
