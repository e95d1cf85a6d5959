-- The check finds this alone; with it a wrong depth is refused at the two sides of the equation.
use mathlib.Core.Path.{refl}
use Rattle.plan_numbers.proofs.corridor_depth.Goals as goal

pub returns : goal.returns
returns c = refl
