-- What the planner's functions hand to one another. Definitions of inner contracts.
-- Assumes nothing.
use Rattle.std.specs.Prelude.{ℕ, ◌≡◌, List, length, Result, Ok, Err}
use Rattle.std.proofs.lemmas.List.Edits.{sets}
use Rattle.refusal.specs.declared.Refusal.{Refusal}
use Rattle.refusal.specs.Refusal.{refusal_number}
use Rattle.plan_bytes.specs.PlanBytes.{Taken, rejected}
use Rattle.plan_stage.specs.Entries.{plan_told_bytes}

-- what is told stands at the front of the plan's buffer, and the rest is as it was
pub record PlanWrites (before after : List ℕ) (n : ℕ) (t : Taken) : Type 0 where
  pub bytes : after ≡ sets before 0 (plan_told_bytes t)
  pub count : n ≡ length (plan_told_bytes t)

-- so, or the number of a refusal, which is told, and nothing written
abbrev pub PlanEnded : List ℕ → List ℕ → Result ℕ Refusal → Taken → Type 0
PlanEnded before after (Ok n) t = PlanWrites before after n t
PlanEnded before after (Err r) t = (t ≡ rejected (refusal_number r)) × (after ≡ before)
