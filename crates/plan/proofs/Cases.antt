-- A closed case of the walk through a component: the last neighbour that was pushed is taken first, and neighbours are pushed in rising order. That order decides which bundle pays visits first.
-- Assumes nothing.
use Rattle.std.specs.Prelude.{◌≡◌, refl, true, false, List, [], ◌∷◌, ℕ, zero, suc}
use Rattle.plan.specs.Plan.{push_all, walk}

-- 0 has the neighbours 1 and 2, and 1 has 3
abbrev near : ℕ → List ℕ
near zero = 1 ∷ 2 ∷ []
near (suc zero) = 3 ∷ []
near (suc (suc n)) = []

pub walk_order : (walk near 4 (true ∷ false ∷ false ∷ false ∷ []) (0 ∷ [])).order ≡ 0 ∷ 2 ∷ 1 ∷ 3 ∷ []
unfolding walk push_all
walk_order = refl
