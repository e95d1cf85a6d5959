-- Every number worked out for a board of the grid is exact: the record `Numbers`, field by field.
-- Assumes nothing.
use Rattle.std.specs.Prelude.{◌≡◌, ℕ, ◌+◌, ◌^◌, ◌≤◌, List, ℤ, nat_abs, ◌-ℤ◌, T, true}
use Rattle.std.proofs.Common.{sym, ap, ◌∙◌, subst, eqb→eq, arith}
use Rattle.binary64.specs.Order.{magnitude}
use Rattle.grid_plan.specs.Board as Z
use Rattle.grid_plan.proofs.Deep as deep
use Rattle.grid_plan.proofs.Bounding as bounding
use Rattle.grid_plan.proofs.Searching as searching
use Rattle.grid_plan.proofs.PlanSearches as searches
use Rattle.grid_plan.proofs.PlanComponents as components
use Rattle.grid_plan.specs.Plan as P
use Rattle.grid_plan.proofs.Planning as planning
use Rattle.grid_plan.specs.Image.{point}
use Rattle.grid_sheet.specs.Touch as Y
use Rattle.grid_sheet.specs.Reroute as R
use Rattle.grid_sheet.proofs.Touching as touching
use Rattle.grid_sheet.proofs.Building as building
use Rattle.route.specs.Rewrite as F
use Rattle.geometry.specs.declared.Role.{Role}
use Rattle.geometry.specs.declared.Role.TheVariants.{Input, Output}
use Rattle.binary64.specs.Bools.{both_true}
use Rattle.binary64.specs.Integers.{by_parts}
use Rattle.binary64.specs.Rational.{plus, less}
use Rattle.grid.specs.On.{on, same}
use Rattle.grid_sheet.proofs.Drawing as drawing
use Rattle.grid_sheet.proofs.Drawing.{OfOutcome}
use Rattle.grid_sheet.proofs.WholeSheet.{start}
use Rattle.grid_sheet.proofs.Paging as paging
use Rattle.grid.proofs.Operations.{add_on, sub_on, magnitude_on}
use Rattle.grid.proofs.Lanes as lanes
use Rattle.grid.proofs.OnLaws.{on_finite}
use Rattle.grid.proofs.Exactly.{on_value}
use Rattle.grid_plan.specs.Sizes.{Sized}
use Rattle.grid_sheet.specs.Numbers.{Numbers}
use Rattle.grid_plan.specs.OnGrid.{OnDraftingGrid}

route_corridor : (role : Role) (tap : Z.Point) (depth : ℤ) → nat_abs tap.x ≤ 2 ^ 46 → nat_abs depth ≤ 2 ^ 46 → F.corridor_x role (point tap) (on depth) ≡ on (R.corridor_x role tap depth)
unfolding F.corridor_x
route_corridor Input tap depth h k = add_on tap.x depth (omega arith)
route_corridor Output tap depth h k = sub_on tap.x depth (omega arith)

one_number : (a c : ℤ) → same a c ≡ true → a ≡ c
one_number a c e = by_parts a c (eqb→eq (plus a + less c) (plus c + less a) (subst T (sym e) tt))

only_equal : (p q : Z.Point) → Y.matches p q ≡ true → p ≡ q
only_equal p q e =
    let h = both_true (same p.x q.x) (same p.y q.y) e in
    ap (λ (z : ℤ). record { x = z; y = p.y }) (one_number p.x q.x h.0) ∙ ap (λ (z : ℤ). record { x = q.x; y = z }) (one_number p.y q.y h.1)

-- of what the first searches found
first_sizes : (b : Z.Board) (routes : List Z.Route) (good : OnDraftingGrid b routes) (v i : ℕ) → let ranges = (P.first_pass b routes b.bundles v).ranges in
    (nat_abs (P.minimum_at ranges i) ≤ 2 ^ 46) × (nat_abs (P.maximum_at ranges i) ≤ 2 ^ 46) × Sized (2 ^ 27) (P.desired_at ranges i)
first_sizes b routes good v i =
    let ranges = (P.first_pass b routes b.bundles v).ranges in
    let fine = searches.first_pass_of b routes good b.bundles v good.windows in
    (components.minimum_far b routes good ranges fine i, components.maximum_far b routes good ranges fine i, components.desired_sized b routes good ranges fine i)

pub numbers : (b : Z.Board) (routes : List Z.Route) → OnDraftingGrid b routes → Numbers b routes
numbers b routes good = record {
  value_is = λ z. (on_finite z, on_value z);
  sum = add_on;
  less = sub_on;
  times = lanes.lanes_on;
  half = lanes.half_on;
  pitch = deep.pitch_on b routes good;
  rail = deep.rail_on b routes good;
  endpoint = deep.endpoint_on b routes good;
  lanes = deep.lanes_on b routes good;
  boundary_depth = deep.depth_on b routes good;
  offset = λ u o s. deep.offset_on b routes good (2 ^ 45) u o (omega arith) s;
  last_depth = λ u o s. deep.last_on b routes good (2 ^ 45) u o (omega arith) s;
  offsets = deep.offsets_on b routes good;
  offsets_small = deep.offsets_sized b routes good;
  corridor = deep.corridor_x_on b routes good;
  corridors = deep.corridor_on b routes good;
  reach = bounding.reach_on b routes good;
  bounds_are = bounding.bounds_on b routes good;
  stretches = bounding.trunks_on b routes good;
  first = searches.first_pass_on b routes good b.bundles;
  first_small = λ v i. first_sizes b routes good v i;
  plus_pitch = components.plus_pitch b routes good;
  less_pitch = components.sub_pitch b routes good;
  middle = components.middle_on b routes good;
  split = components.split_value_on b routes good;
  limit = components.input_limit_on b routes good;
  asked = searches.asked_on b routes good;
  moved = planning.moved_on b routes good;
  planned = planning.plan_on b routes good;
  planned_small = planning.plan_near b routes good;
  rail_corner = building.rail_corner_on b routes good;
  rail_lane = building.lane_y_on b routes good;
  built = building.build_on b routes good;
  corridor_depth = drawing.depth_on b routes good;
  given_small = start b routes good;
  drawn_small = λ allow ts s u h k e. subst OfOutcome e (drawing.sheet_of_of b routes good allow ts s h k);
  drawn = λ allow ts s h k. drawing.sheet_on b routes good allow ts s h k;
  route_corridor = route_corridor;
  difference = λ x y h. ap magnitude (sub_on x y h) ∙ magnitude_on (x -ℤ y);
  same_place = touching.matches_on;
  only_equal = only_equal;
  separation = planning.clear_bundle b routes good;
  stretch_is = searching.stretch_on;
  kind = touching.kind_on;
  spacing = touching.too_close_on;
  far_sides = λ n h. (add_on n.corner.x n.width h.0, add_on n.corner.y n.height h.1);
  nodes_small = drawing.node_sides b routes good;
  enters = touching.passes_on;
  interior = building.interior_on b routes good;
  shifted = paging.shifted_on;
  width = paging.width_on;
  height = paging.height_on;
  page = paging.page_on;
}
