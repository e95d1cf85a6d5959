-- What a walk does to the rows that it is lent. Definitions of inner contracts.
-- Assumes nothing.
use Rattle.std.specs.Prelude.{List, ◌++◌, ◌≡◌, ◌<◌, Result, IfErr, OnOk, length}
use Rattle.arrayvec.specs.ArrayVec.{ArrayVec}
use Rattle.limits.specs.Limits.{max_crossings}
use Rattle.refusal.specs.declared.Refusal.{Refusal}
use Rattle.refusal.specs.declared.Refusal.TheVariants.{TooManyCrossings}
use Rattle.crossing_rows.specs.declared.Row.{Row}

-- the rows met stand behind those kept before, or there is no room for all of them
pub record Adds (old new : List Row) (met : List Row) (r : Result (Unit {0}) Refusal) : Type 0 where
  pub kept : OnOk r (new ≡ old ++ met)
  pub many : IfErr r (λ e. (e ≡ TooManyCrossings) × (max_crossings < length (old ++ met)))
