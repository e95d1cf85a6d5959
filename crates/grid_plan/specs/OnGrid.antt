-- Which boards in whole numbers are on the drafting grid: multiples of 1/64, so even over 128, of magnitude at most 2 ^ 20, so 2 ^ 27 over 128; lanes, bundles and windows within the limits of document 01. Definitions only.
-- Assumes nothing.
use Rattle.std.specs.Prelude.{◌+◌, ◌≤◌, List, length}
use Rattle.board.specs.declared.Bundle.{Bundle}
use Rattle.board.specs.declared.Member.{Member}
use Rattle.grid_plan.specs.Board as Z
use Rattle.sorting.specs.Lists.{Every}
use Rattle.grid_plan.specs.Sizes.{Job, Length}

-- the job's numbers, in whole numbers over 128, and its counts
pub record OnDraftingGrid (b : Z.Board) (routes : List Z.Route) : Type 0 where
  pub stub : Length b.options.stub
  pub gap : Length b.options.gap
  pub clearance : Length b.options.clearance
  pub spacing : Length b.options.spacing
  pub reserve : Length b.options.reserve
  pub nodes : Every (λ (n : Z.PlacedNode). Job n.body.corner.x × Job n.body.corner.y × Length n.body.width × Length n.body.height) b.nodes
  pub ports : Every (λ (p : Z.Port). Job p.offset) b.ports
  pub lanes : Every (λ (m : Member). m.tap_lane ≤ 255) b.members
  pub few : length b.bundles ≤ 32
  pub windows : Every (λ (u : Bundle). u.first + u.count ≤ length b.members) b.bundles
  pub points : Every (Every (λ (p : Z.Point). Job p.x × Job p.y)) routes
