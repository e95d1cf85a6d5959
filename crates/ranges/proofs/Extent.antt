-- The numbers of a sheet before the last shift, for every plan whose x are within 2 ^ 30: every x has magnitude at most 2 ^ 31 + 2 ^ 21 and every y at most 2 ^ 31 + 255 * 2 ^ 20, so both are below 2 ^ 32; and none is minus zero, where no number of the board and of the plan is.
-- Assumes nothing.
use Rattle.std.specs.Prelude.{ℕ, ◌+◌, ◌-◌, ◌*◌, ◌≤◌, ◌≡◌, Bool, ◌&&◌, ◌||◌, pos, Float, Option, Some, None}
use Rattle.std.proofs.Common.{le_of_eq, mul-one, zero-mul, mul-pos, sym, ap, ◌∙◌, subst, true≢false}
use Rattle.std.proofs.Math.Path.{refl}
use mathlib.Core.List.{List, [], ◌∷◌}
use Rattle.std.proofs.Math.Bool.{true, false}
use native.Mathlib.Omega.{arith}
use Rattle.std.proofs.Math.Dec.{T}
use Rattle.std.specs.Float.{nan, inf}
use Rattle.std.specs.Float.Ieee.{fin, binary64, up, down, round, le, eq, fits, of_int, add, sub, mul, div}
use Rattle.std.specs.Float.Ieee.Fits.{down_pos, add-fits, sub-fits, mul-fits}
use Rattle.std.specs.Float.Ieee.Back.{round_whole}
use Rattle.std.specs.Float.Ieee.Exact.{HasValue}
use Rattle.std.specs.Float.Ieee.Order.{round_mono}
use Rattle.std.specs.Float.Ieee.Positive.{den}
use Rattle.std.specs.Float.Ieee.Scale.{finite}
use Rattle.limits.specs.Limits.{max_lane}
use Rattle.binary64.specs.Order.{least, greatest}
use Rattle.binary64.proofs.Sign.{true→T}
use Rattle.binary64.specs.Accepted.{zero64}
use Rattle.binary64.specs.Value.{over, under, num_parts, eq→same, at_most→le}
use Rattle.binary64.specs.Range.{Bounded, Within, bounded_mono, add_bounded, sub_bounded, mul_bounded, least_bounded, greatest_bounded, between_bounded, half, half_bounded, div_two, of_int_bounded}
use Rattle.binary64.specs.Monotone.{sub_mono}
use Rattle.geometry.specs.declared.Point.{Point}
use Rattle.geometry.specs.declared.Side.{Side}
use Rattle.geometry.specs.declared.Side.TheVariants.{North, East, South, West}
use Rattle.geometry.specs.declared.Role.{Role}
use Rattle.geometry.specs.declared.Role.TheVariants.{Input, Output}
use Rattle.geometry.specs.Points.{Route}
use Rattle.geometry.specs.Port.{port_point}
use Rattle.geometry.specs.Line.{on_level, on_upright}
use Rattle.route.specs.Rewrite.{corridor_x}
use Rattle.board.specs.declared.PlacedNode.{PlacedNode}
use Rattle.board.specs.declared.Port.{Port}
use Rattle.board.specs.declared.Bundle.{Bundle}
use Rattle.board.specs.declared.Member.{Member}
use Rattle.board.specs.Board.{Board, rail_depth}
use Rattle.sorting.specs.Sorted.{every_map, every_get_d}
use Rattle.sorting.specs.Lists.{Every}
use Rattle.plan.specs.Depths.{number, inward, lane_count, no_node, port_of, node_of, endpoint_of, members_in, pitch_of, parting_pitch}
use Rattle.plan.proofs.SmallNumbers.{Small, Numbers, lane_count_small, zero_small}
use Rattle.plan.proofs.Numbers.{members_good, pitch_small, rail_small, port_small, endpoint_small}
use Rattle.drawing.specs.Build.{route_at, center, rail_tap, rail_corner}
use Rattle.drawing.specs.Sheet.{Turn, Progress, going, sheet_of, blank}
use Rattle.drawing.proofs.CleanChecks.{every_both}
use Rattle.drawing.proofs.Promise.{every_mem}
use Rattle.binary64.proofs.Plain.{Plain, add_plain, sub_plain}
use Rattle.ranges.proofs.Corridors.{Below, held}
use Rattle.ranges.proofs.NoMinusZero.{PlainBoard, endpoint_plain, inward_plain}
use Rattle.ranges.specs.Coordinates.{OfPoint, OfRoutes, OfSheet}
use Rattle.ranges.specs.Extent.{Limits, OfFormat, InX, InY, OkSheet}
use Rattle.ranges.proofs.Drawn.{Kinds, OfPlan, OfTurn, sheet_of_kinds}

-- a turn whose planned x, if it has one, is within 2 ^ 30
abbrev pub OkTurn : Turn → Type 0
OkTurn = OfTurn (Within 30)

pub x_below : (x : Float) → InX x → Below 32 x
x_below x h = bounded_mono 2149580800 4294967295 x (omega arith) h

pub y_below : (y : Float) → InY y → Below 32 y
y_below y h = bounded_mono 2414870528 4294967295 y (omega arith) h

-- ---- lists

-- what holds of every point of every route
routes_of : (X Y : Float → Type 0) (rs : List Route) → Every (Every (OfPoint X Y)) rs → OfRoutes X Y rs
routes_of X Y rs e i a m = every_mem (OfPoint X Y) (route_at rs i) (every_get_d (Every (OfPoint X Y)) rs [] i e tt) a m

-- ---- orders

below_whole : (n : ℕ) (x : Float) → Bounded n x → T (le x (fin false n (pos 0)))
below_whole n x h =
    let p = num_parts x in
    let s = h.size in
    at_most→le x (fin false n (pos 0)) h.is_finite tt (omega (arith, zero-mul (den x), mul-one n, mul-one (over x), mul-one (under x)))

-- what equals a bounded number is bounded
eq_bounded : (n : ℕ) (a x : Float) → Bounded n a → T (eq a x) → Bounded n x
eq_bounded n a nan h e = absurd (none a e)
  where
    none : (a : Float) → T (eq a nan) → ⊥
    none nan e = unfold eq in e
    none (inf s) e = unfold eq in e
    none (fin s m k) e = unfold eq in e
eq_bounded n a (inf t) h e = absurd (none a h.is_finite e)
  where
    none : (a : Float) → T (finite a) → T (eq a (inf t)) → ⊥
    none nan f e = f
    none (inf s) f e = f
    none (fin s m k) f e = unfold eq in e
eq_bounded n a (fin t m k) h e =
    let x = fin t m k in
    let s = eq→same a x h.is_finite tt e in
    between_bounded n a a x h h (at_most→le a x h.is_finite tt (le_of_eq s)) (at_most→le x a tt h.is_finite (le_of_eq (sym s)))

-- where a line meets a run, it lies between the run's ends
between_ends : (n : ℕ) (x : Float) (p q : Point) → Bounded n p.x → Bounded n q.x → (on_level x p q || on_upright x p q) ≡ true → Bounded n x
between_ends n x p q s t = go (eq p.y q.y) (le (least p.x q.x) x) refl (le x (greatest p.x q.x)) refl (eq p.x x) refl (eq q.x x)
  where
    go : (c a : Bool) → le (least p.x q.x) x ≡ a → (d : Bool) → le x (greatest p.x q.x) ≡ d → (f : Bool) → eq p.x x ≡ f → (g : Bool) → (c && a && d || f && g) ≡ true → Bounded n x
    go c a h d i true j g e = eq_bounded n p.x x s (true→T (eq p.x x) j)
    go true true h true i false j g e =
        between_bounded n (least p.x q.x) (greatest p.x q.x) x (least_bounded n p.x q.x s t) (greatest_bounded n p.x q.x s t) (true→T (le (least p.x q.x) x) h) (true→T (le x (greatest p.x q.x)) i)
    go true true h false i false j g e = absurd (true≢false (sym e))
    go true false h d i false j g e = absurd (true≢false (sym e))
    go false a h d i false j g e = absurd (true≢false (sym e))

-- ---- lanes from the middle one

rounded_zero : round binary64 false 0 1 ≡ zero64
unfolding round
rounded_zero = refl

number_not_below : (n : ℕ) → T (le zero64 (number n))
unfolding of_int
number_not_below n = subst (λ (o : Float). T (le o (round binary64 false n 1))) rounded_zero (round_mono binary64 0 1 n 1 (omega arith) (omega arith) (omega arith))

-- half of a number that is not negative
half_not_below : (x : Float) (a c : ℕ) → HasValue x false a c → T (le zero64 (half x))
unfolding mul
half_not_below nan a c v = absurd v
half_not_below (inf s) a c v = absurd v
half_not_below (fin true m e) a c v = absurd (true≢false v.0)
half_not_below (fin false m e) a c v =
    subst (λ (o : Float). T (le o (round binary64 false (m * up e * 1) (down e * 2)))) rounded_zero
    (round_mono binary64 0 1 (m * up e * 1) (down e * 2) (omega arith) (mul-pos (down_pos e) (omega arith)) (omega (arith, zero-mul (down e * 2))))

-- 2 is the float 2
two : number 2 ≡ fin false 1 (pos 1)
unfolding of_int
two = refl

center_is : (ms : List Member) → center ms ≡ half (number (lane_count ms - 1))
unfolding center
center_is ms = let n = lane_count ms - 1 in ap (λ (d : Float). div binary64 (number n) d) two ∙ div_two (number n)

pub center_bounded : (ms : List Member) → Every (λ (m : Member). m.tap_lane ≤ max_lane) ms → Bounded 128 (center ms)
center_bounded ms e =
    let n = lane_count ms - 1 in
    let h : lane_count ms ≤ max_lane + 1 = lane_count_small ms e in
    subst (Bounded 128) (sym (center_is ms)) (half_bounded 128 (number n) (held 128 (omega arith)) (bounded_mono n 256 (number n) (omega arith) (of_int_bounded n (held n (omega arith)))))

pub center_not_below : (ms : List Member) → Every (λ (m : Member). m.tap_lane ≤ max_lane) ms → T (le zero64 (center ms))
unfolding of_int
center_not_below ms e =
    let n = lane_count ms - 1 in
    let h : lane_count ms ≤ max_lane + 1 = lane_count_small ms e in
    subst (λ (x : Float). T (le zero64 x)) (sym (center_is ms)) (half_not_below (number n) n 1 (round_whole binary64 false n (omega arith)))

-- a lane is at most 255 from the middle one
pub lane_bounded : (n : ℕ) (middle : Float) → n ≤ 255 → Bounded 128 middle → T (le zero64 middle) → Bounded 255 (sub binary64 (number n) middle)
lane_bounded n middle h b l =
    let x = number n in
    let s : Bounded n x = of_int_bounded n (held n (omega arith)) in
    let top : sub binary64 (fin false 255 (pos 0)) zero64 ≡ fin false 255 (pos 0) = unfold sub add in refl in
    let bottom : sub binary64 zero64 (fin false 128 (pos 0)) ≡ fin true 1 (pos 7) = unfold sub add in refl in
    between_bounded 255 (fin true 1 (pos 7)) (fin false 255 (pos 0)) (sub binary64 x middle) (record { is_finite = tt; size = omega arith }) (record { is_finite = tt; size = omega arith })
    (subst (λ (o : Float). T (le o (sub binary64 x middle))) bottom (sub_mono zero64 x (fin false 128 (pos 0)) middle tt s.is_finite tt b.is_finite (number_not_below n) (below_whole 128 middle b)))
    (subst (λ (o : Float). T (le (sub binary64 x middle) o)) top (sub_mono x (fin false 255 (pos 0)) middle zero64 s.is_finite tt b.is_finite tt (below_whole 255 x (bounded_mono n 255 x h s)) l))

-- ---- the two kinds

module _ (b : Board) (routes : List Route) (limits : Limits b routes) where
  abbrev good : Numbers b routes
  good = limits.numbers

  node_y : (u : Bundle) → Small 30 (node_of b u).body.corner.y × Small 30 (node_of b u).body.height
  node_y u = every_get_d (λ (n : PlacedNode). Small 30 n.body.corner.y × Small 30 n.body.height) b.nodes no_node (port_of b u).node limits.node_ys (zero_small 30, zero_small 30)

  endpoint_y : (u : Bundle) → Bounded 2147483648 (endpoint_of b u).y
  endpoint_y u = go (port_of b u).side
    where
      n : PlacedNode
      n = node_of b u

      p : Port
      p = port_of b u

      go : (s : Side) → Bounded 2147483648 (port_point n.body s p.offset).y
      go North = bounded_mono 1073741824 2147483648 n.body.corner.y (omega arith) (node_y u).0.0
      go East = add_bounded 1073741824 1073741824 n.body.corner.y p.offset (held 2147483648 (omega arith)) (node_y u).0.0 (port_small b routes good u).0
      go South = add_bounded 1073741824 1073741824 n.body.corner.y n.body.height (held 2147483648 (omega arith)) (node_y u).0.0 (node_y u).1.0
      go West = add_bounded 1073741824 1073741824 n.body.corner.y p.offset (held 2147483648 (omega arith)) (node_y u).0.0 (port_small b routes good u).0

  corner_x : (u : Bundle) → InX (rail_corner b u).x
  unfolding rail_corner
  corner_x u = go u.role
    where
      go : (role : Role) → InX (inward role (endpoint_of b u).x (rail_depth b.options))
      go Input = add_bounded 2147483648 2097152 (endpoint_of b u).x (rail_depth b.options) (held 2149580800 (omega arith)) (endpoint_small b routes good u).0 (rail_small b routes good).0
      go Output = sub_bounded 2147483648 2097152 (endpoint_of b u).x (rail_depth b.options) (held 2149580800 (omega arith)) (endpoint_small b routes good u).0 (rail_small b routes good).0

  -- 255 lanes of 2 ^ 20
  rail_y : (u : Bundle) (m : Member) → m.tap_lane ≤ max_lane → InY (rail_tap (rail_corner b u) (center (members_in b u)) (pitch_of b u) m).place.y
  unfolding rail_tap rail_corner
  rail_y u m h =
      let ms = members_in b u in
      let e = members_good b routes good u in
      let d = sub binary64 (number m.tap_lane) (center ms) in
      let s : Bounded 255 d = lane_bounded m.tap_lane (center ms) h (center_bounded ms e) (center_not_below ms e) in
      add_bounded 2147483648 267386880 (endpoint_of b u).y (mul binary64 d (parting_pitch b)) (held 2414870528 (omega arith)) (endpoint_y u)
      (mul_bounded 255 1048576 d (parting_pitch b) (held 267386880 (omega arith)) s (pitch_small b routes good).0)

  rail_ys : (u : Bundle) (ms : List Member) → Every (λ (m : Member). m.tap_lane ≤ max_lane) ms → Every (λ (m : Member). InY (rail_tap (rail_corner b u) (center (members_in b u)) (pitch_of b u) m).place.y) ms
  rail_ys u [] e = tt
  rail_ys u (m ∷ ms) e = (rail_y u m e.0, rail_ys u ms e.1)

  abbrev in_range : Kinds b
  in_range =
      record {
        X = InX;
        Y = InY;
        end = λ u. (bounded_mono 2147483648 2149580800 (endpoint_of b u).x (omega arith) (endpoint_small b routes good u).0, bounded_mono 2147483648 2414870528 (endpoint_of b u).y (omega arith) (endpoint_y u));
        corner = corner_x;
        rail = λ u. rail_ys u (members_in b u) (members_good b routes good u);
        corridor = λ role tap depth p q f t s r h. between_ends 2149580800 (corridor_x role tap depth) p q s r h;
      }

  points_in : Every (Every (OfPoint InX InY)) routes
  points_in =
      every_both (Every (λ (p : Point). Small 30 p.x)) (Every (λ (p : Point). Small 30 p.y)) (Every (OfPoint InX InY))
      (λ r e f. every_both (λ (p : Point). Small 30 p.x) (λ (p : Point). Small 30 p.y) (OfPoint InX InY)
      (λ p s t. (bounded_mono 1073741824 2149580800 p.x (omega arith) s.0, bounded_mono 1073741824 2414870528 p.y (omega arith) t.0)) r e f)
      routes good.points limits.point_ys

  turns_in : (ts : List Turn) → Every OkTurn ts → Every (OfTurn InX) ts
  turns_in ts e = every_map OkTurn (OfTurn InX) ts (λ t. one t.planned) e
    where
      one : (o : Option Float) → OfPlan (Within 30) o → OfPlan InX o
      one None s = tt
      one (Some x) s = bounded_mono 1073741824 2149580800 x (omega arith) s

  -- THE RANGE of a sheet before the last shift, for every plan whose x are within 2 ^ 30
  pub sheet_ok : (allow : Bool) (ts : List Turn) (grant : ℕ) (u : Progress) → Every OkTurn ts → sheet_of b allow ts (blank routes grant) ≡ going u → OkSheet u
  sheet_ok allow ts grant u k e = sheet_of_kinds b in_range allow ts (blank routes grant) u (turns_in ts k) (record { present = routes_of InX InY routes points_in; bundles = tt }) e

  -- minus zero
  module _ (plain : PlainBoard b routes) where
    corner_plain : (u : Bundle) → Plain (rail_corner b u).x
    unfolding rail_corner
    corner_plain u = inward_plain b routes good plain u.role (endpoint_of b u).x (rail_depth b.options) (endpoint_plain b routes good plain u).0 (rail_small b routes good).1

    rail_plain : (u : Bundle) (ms : List Member) → Every (λ (m : Member). Plain (rail_tap (rail_corner b u) (center (members_in b u)) (pitch_of b u) m).place.y) ms
    unfolding rail_tap rail_corner
    rail_plain u [] = tt
    rail_plain u (m ∷ ms) =
        let d = sub binary64 (number m.tap_lane) (center (members_in b u)) in
        (add_plain (endpoint_of b u).y (mul binary64 d (parting_pitch b)) (endpoint_plain b routes good plain u).1 (mul-fits binary64 d (parting_pitch b)), rail_plain u ms)

    corridor_plain : (role : Role) (tap : Point) (depth : Float) → T (fits binary64 depth) → Plain tap.x → Plain (corridor_x role tap depth)
    unfolding corridor_x
    corridor_plain Input tap depth f s = add_plain tap.x depth s f
    corridor_plain Output tap depth f s = sub_plain tap.x depth s f

    abbrev not_minus_zero : Kinds b
    not_minus_zero =
        record {
          X = Plain;
          Y = Plain;
          end = endpoint_plain b routes good plain;
          corner = corner_plain;
          rail = λ u. rail_plain u (members_in b u);
          corridor = λ role tap depth p q f t s r h. corridor_plain role tap depth f t;
        }

    -- NO MINUS ZERO in it, where none is planned
    pub sheet_plain : (allow : Bool) (ts : List Turn) (grant : ℕ) (u : Progress) → Every (OfTurn Plain) ts → sheet_of b allow ts (blank routes grant) ≡ going u → OfSheet Plain Plain u
    sheet_plain allow ts grant u k e = sheet_of_kinds b not_minus_zero allow ts (blank routes grant) u k (record { present = routes_of Plain Plain routes plain.points; bundles = tt }) e

    -- of the format: whatever is planned, minus zero too
    corridor_format : (role : Role) (tap : Point) (depth : Float) → OfFormat (corridor_x role tap depth)
    unfolding corridor_x
    corridor_format Input tap depth = add-fits binary64 tap.x depth
    corridor_format Output tap depth = sub-fits binary64 tap.x depth

    abbrev of_format : Kinds b
    of_format =
        record {
          X = OfFormat;
          Y = OfFormat;
          end = λ u. let e = endpoint_plain b routes good plain u in (e.0.1, e.1.1);
          corner = λ u. (corner_plain u).1;
          rail = λ u.
              every_map (λ (m : Member). Plain (rail_tap (rail_corner b u) (center (members_in b u)) (pitch_of b u) m).place.y) (λ (m : Member). OfFormat (rail_tap (rail_corner b u) (center (members_in b u)) (pitch_of b u) m).place.y) (members_in b u)
              (λ m h. h.1) (rail_plain u (members_in b u));
          corridor = λ role tap depth p q f t s r h. corridor_format role tap depth;
        }

    points_format : Every (Every (OfPoint OfFormat OfFormat)) routes
    points_format = every_map (Every (OfPoint Plain Plain)) (Every (OfPoint OfFormat OfFormat)) routes (λ r e. every_map (OfPoint Plain Plain) (OfPoint OfFormat OfFormat) r (λ p h. (h.0.1, h.1.1)) e) plain.points

    pub sheet_of_format : (allow : Bool) (ts : List Turn) (grant : ℕ) (u : Progress) → Every (OfTurn OfFormat) ts → sheet_of b allow ts (blank routes grant) ≡ going u → OfSheet OfFormat OfFormat u
    sheet_of_format allow ts grant u k e = sheet_of_kinds b of_format allow ts (blank routes grant) u k (record { present = routes_of OfFormat OfFormat routes points_format; bundles = tt }) e
