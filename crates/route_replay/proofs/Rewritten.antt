-- How many points a rewritten route has at most, if there is one.
-- Assumes nothing.
use Rattle.std.specs.Prelude.{ℕ, ◌≤◌, List, Float, Option, Some, None, IfSome}
use Rattle.std.proofs.Common.{arith}
use Rattle.limits.specs.Limits.{max_route_points, slot_points}
use Rattle.geometry.specs.Points.{Route}
use Rattle.route.specs.Contract.{Leaves, left_in}

pub few : (r : Option ℕ) (s t : List Float) (count : ℕ) (wanted : Option Route) → Leaves r s t count wanted → count ≤ max_route_points → IfSome r (λ n. n ≤ slot_points)
unfolding left_in
few None s t count wanted l h = tt
few (Some n) s t count wanted l h = omega (arith, l.scratch)
