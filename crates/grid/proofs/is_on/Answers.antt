-- `grid::is_on` meets its contract: a number raised to a grid is rounded to it. Assumes nothing.
use Rattle.std.proofs.Common.{sym}
use Rattle.std.specs.Float.{binary64}
use Rattle.std.specs.Float.Ieee.{of_bits, neg, fits}
use denote.Floats.{passes}
use Rattle.grid.specs.Grids.{parts}
use Rattle.grid.proofs.Raising.{by_raising, raises}
use Rattle.grid.proofs.is_on.Goals as goal

pub returns : goal.returns
unfolding of_bits neg
returns c =
    let x = c.args.x in
    rw c.raise_to-raise.ensures (sym (by_raising (parts c.args.grid) (raises c.args.grid) x (passes (fits binary64 x) c.well_formed.1.0.1)))
