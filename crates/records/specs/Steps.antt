-- The steps that a program takes, one after another. Definitions of inner contracts.
-- Assumes nothing.
use Rattle.std.specs.Prelude.{ℕ, zero, suc, ◌≡◌, ◌<◌, ◌⊎◌, Bool, true, false}

-- n steps take f to g, and each answers that there may be another; `step` says what a step from one to the next may answer
unfoldable pub Went : {F : Type 0} → (F → Bool → F → Type 0) → F → ℕ → F → Type 0
Went step f zero g = f ≡ g
Went {F = F} step f (suc n) g = (h : F) × Went step f n h × step h true g

-- a step from g answers that there is no other
abbrev pub Ends : {F : Type 0} → (F → Bool → F → Type 0) → F → Type 0
Ends {F = F} step g = (h : F) × step g false h

-- steps from f on, until one answers that there is no other, or there are as many as may be
abbrev pub Ran : {F : Type 0} → (F → Bool → F → Type 0) → ℕ → F → Type 0
Ran {F = F} step most f = (n : ℕ) × (last : F) × Went step f n last × ((n ≡ most) ⊎ ((n < most) × Ends step last))
