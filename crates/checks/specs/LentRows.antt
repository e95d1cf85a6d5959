-- A bundle's members and the places of their taps, as slices of just these. Definitions of inner contracts.
-- Assumes nothing.
use Rattle.std.specs.Prelude.{ℕ, ◌<◌, List, [], ◌∷◌, map, Bool, cond, Float, Option, Some, None, All}
use Rattle.board.specs.declared.Member.{Member}
use Rattle.geometry.specs.declared.Point.{Point}
use Rattle.drawing.specs.Build.{TapOn}
use Rattle.checks.specs.MemberSlices.{rail_point}

-- a tap of no edge in particular
abbrev pub bare_tap : Point → TapOn
bare_tap p = record { edge = 0; place = p }

-- the taps at these points, whose edges are not asked for
abbrev pub taps_in : List Point → List TapOn
taps_in ps = map bare_tap ps

-- each member with its tap
unfoldable pub taps_of : List Member → List Point → List TapOn
taps_of [] ps = []
taps_of (m ∷ ms) [] = []
taps_of (m ∷ ms) (p ∷ ps) = record { edge = m.edge; place = p } ∷ taps_of ms ps

-- what a bundle's taps are, if all went well
unfoldable pub tapped_in : Bool → List Member → List Point → Option (List TapOn)
tapped_in done ms ps = cond done (Some (taps_of ms ps)) None

-- the tap of a member on the rail
abbrev pub rail_place : Point → Float → Float → Member → Point
rail_place end middle pitch m = rail_point end middle pitch m.tap_lane

-- the members' edges are below n
abbrev pub EdgesBelow : ℕ → List Member → Type 0
EdgesBelow n ms = All (λ m. m.edge < n) ms
