-- Where the clamp of the input split would have its low end above its high end: document 01's number 13, where the Rust panics. Three rounded tests of a component, on what the first searches found and on nothing that comes later. Definitions of theorems.
-- Assumes nothing.
use Rattle.std.specs.Prelude.{Bool, true, false, not, cond, ◌&&◌, ◌||◌, List, [], ◌∷◌, ℕ, length, get_or, replicate, Float}
use Rattle.std.specs.Float.Ieee as Ieee
use Rattle.geometry.specs.declared.Role.TheVariants.{Input, Output}
use Rattle.geometry.specs.Points.{Route}
use Rattle.board.specs.Board.{Board}
use Rattle.plan.specs.Depths.{◌⊕◌, ◌⊖◌, parting_pitch}
use Rattle.plan.specs.Plan.{Look, Ranged, found?, ranged_at, minimum_at, maximum_at, desired_at, largest, smallest, of_role, component_of, indices_from, first_pass}

-- The component is not given up: low + pitch is not above limit. The split is wanted: deepest + pitch is above earliest. And the clamp's low end, low, is above its high end, limit − pitch
abbrev pub tests : Float → Float → Float → Float → Float → Bool
tests pitch low limit deepest earliest = not (Ieee.lt limit (low ⊕ pitch)) && (Ieee.lt earliest (deepest ⊕ pitch) && Ieee.lt (limit ⊖ pitch) low)

-- the tests of a component with these inputs and outputs: largest input minimum, smallest output maximum, deepest input, earliest output
abbrev pub clamp_fails : Board → List Ranged → List ℕ → List ℕ → Bool
clamp_fails b ranges [] outputs = false
clamp_fails b ranges (i ∷ is) [] = false
clamp_fails b ranges (i ∷ is) (o ∷ os) =
    tests (parting_pitch b)
    (largest (minimum_at ranges) (minimum_at ranges i) is) (smallest (maximum_at ranges) (maximum_at ranges o) os)
    (largest (desired_at ranges) (desired_at ranges i) is) (smallest (desired_at ranges) (desired_at ranges o) os)

module _ (b : Board) (routes : List Route) where
  abbrev pub component_fails : List Ranged → List ℕ → Bool
  component_fails ranges order = clamp_fails b ranges (of_role Input ranges order) (of_role Output ranges order)

  -- some component fails; the components are those of the first searches
  unfoldable pub some_fails : List Ranged → List ℕ → List Bool → Bool
  some_fails ranges [] seen = false
  some_fails ranges (i ∷ is) seen =
      cond (get_or seen i true || not (found? (ranged_at ranges i).bounds)) (some_fails ranges is seen)
      (component_fails ranges (component_of b routes ranges i seen).order || some_fails ranges is (component_of b routes ranges i seen).seen)

  -- the first searches are those of `look`, with v visits granted
  abbrev pub clamp_due : Look → ℕ → Bool
  clamp_due look v =
      let ranges = (first_pass look b routes b.bundles v).ranges in
      some_fails ranges (indices_from 0 ranges) (replicate (length ranges) false)
