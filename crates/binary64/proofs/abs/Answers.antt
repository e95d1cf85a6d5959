-- `binary64::abs` meets its contract, by the laws of proofs/Sign.antt at each arm. Assumes nothing.
use lib.Ieee.{of_bits, fits, binary64}
use denote.Floats.{passes}
use Rattle.binary64.proofs.Sign.{magnitude_below, magnitude_zero, magnitude_else}
use Rattle.binary64.proofs.abs.Goals as goal

pub returns-then-x : goal.returns-then-x
unfolding of_bits
returns-then-x c = magnitude_below c.args.x c.if-x.true

pub returns-then-x-2 : goal.returns-then-x-2
unfolding of_bits
returns-then-x-2 c = magnitude_zero c.args.x (passes (fits binary64 c.args.x) c.well_formed.0.1) c.if-x-2.true

pub returns : goal.returns
unfolding of_bits
returns c = magnitude_else c.args.x c.if-x.false c.if-x-2.false
