-- `wire::is_on_drafting_grid` meets its contract: it is that of the call. By hand, so that an edit is refused at the two sides. Assumes nothing.
use Rattle.wire.proofs.is_on_drafting_grid.Goals as goal

pub returns : goal.returns
returns c = c.is_on.ensures
