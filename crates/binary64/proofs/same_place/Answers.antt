-- `binary64::same_place` meets its contract: what `abs` ensures, put under the comparison. Assumes nothing.
use mathlib.Core.Path.{ap}
use lib.Ieee.{Float, le, of_bits, binary64}
use Rattle.binary64.specs.Order.{near}
use Rattle.binary64.proofs.same_place.Goals as goal

pub returns : goal.returns
unfolding near
returns c = ap (λ (z : Float). le z (of_bits binary64 0x3e7a_d7f2_9abc_af48)) c.abs.ensures
