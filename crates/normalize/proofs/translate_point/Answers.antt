use mathlib.Core.Path.{refl}
use Rattle.drawing.specs.Normal.{shifted}
use Rattle.normalize.proofs.translate_point.Goals as goal

pub returns : goal.returns
unfolding shifted
returns c = refl
