-- `collector_xs::common_horizontal_collector_x` meets its contract. Assumes nothing.
use mathlib.Core.Path.{ap}
use Rattle.search.specs.Search.{searched}
use Rattle.collector_xs.proofs.common_horizontal_collector_x.Goals as goal

pub returns-in_default : goal.returns-in_default
returns-in_default c = ap searched c.in_default.ensures.are
