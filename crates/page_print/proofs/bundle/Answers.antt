use Rattle.page_print.specs.Literals.{printed}
use Rattle.page_print.proofs.bundle.Goals as goal

pub returns : goal.returns
returns c = printed _ c.requires.0 c.requires.1 c.requires.2
