-- `outputs::is_too_short` meets its contract. Assumes nothing.
use mathlib.Core.Path.{◌≡◌, ap, ◌∙◌}
use mathlib.Core.Bool.{Bool, ◌||◌}
use lib.Dec.{ltb}
use Rattle.limits.specs.Limits.{answer_room}
use Rattle.outputs.specs.Outputs.{too_short}
use Rattle.outputs.proofs.is_too_short.Goals as goal

any_of : (a p q c d : Bool) → p ≡ q → c ≡ d → (a || p || c) ≡ (a || q || d)
any_of a p q c d e f = ap (λ (x : Bool). a || x || c) e ∙ ap (λ (x : Bool). a || q || x) f

pub returns : goal.returns
unfolding too_short
returns c = any_of (ltb c.args.answer answer_room) _ _ _ _ c.lacks_room-p.ensures c.lacks_room-c.ensures
