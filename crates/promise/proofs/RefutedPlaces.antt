-- The last sentence of demand 3 has force: on a small board the best place is one x; the rail, another allowed x, and an x off the rail where none is allowed are refuted. Whatever routes are present.
-- Assumes nothing.
use Rattle.std.specs.declared.option.Option.TheVariants as option
use Rattle.std.specs.Prelude.{◌≡◌, refl, true, List, [], ◌∷◌, ℕ, T, Float, Option}
use Rattle.std.proofs.Common.{sym, ap, ◌∙◌, subst, inl, inr, arith}
use Rattle.std.specs.Float.Ieee.Scale.{finite}
use Rattle.std.specs.Float.Ieee.{of_int, lt, le, eq, ne, add, sub, mul}
use Rattle.binary64.specs.Rational.{Fraction, AtMostℚ, Sameℚ, value}
use Rattle.binary64.proofs.Fraction.{at_most_trans, le→AtMostℚ, AtMostℚ→le}
use Rattle.exact.proofs.Between.{same→at_least, same_refl}
use Rattle.geometry.specs.declared.Role.TheVariants.{Input}
use Rattle.geometry.specs.declared.Side.TheVariants.{East}
use Rattle.geometry.specs.Points.{Route, runs}
use Rattle.board.specs.declared.Bundle.{Bundle}
use Rattle.board.specs.Board.{Board, rail_depth}
use Rattle.search.specs.declared.Bounds.{Bounds}
use Rattle.search.specs.Stretches.{stretches, members}
use Rattle.plan.specs.declared.Bound.TheVariants.{None}
use Rattle.plan.specs.Depths.{lane_count, offsets_from, corridor_among, corridor_from}
use Rattle.plan.specs.Bounds.{bounds_of, reach_all, last_x}
use Rattle.plan.specs.Plan.{if_between}
use Rattle.drawing.specs.Build.{Drawn, seg, build, railed, rail_corner, drawn_as}
use Rattle.promise.proofs.Refuted.{num, at}
use Rattle.promise.specs.Demand3.{Allowed, BestPlace, at_best, at_rail}

-- a bundle of two members at (10, 5)
abbrev bundle : Bundle
bundle = record { id = 1; port = 0; role = Input; width = 2; first = 0; count = 2 }

-- the same with one wire: its bounds are absent
abbrev narrow : Bundle
narrow = record { id = 2; port = 0; role = Input; width = 1; first = 0; count = 2 }

abbrev board : Board
board =
    record {
      options = record { port_stub = num 0; route_lane_gap = num 4; edge_node_clearance = num 0; minimum_parallel_wire_spacing = num 0; member_endpoint_reserve = num 0 };
      nodes = record { id = 0; body = record { corner = at 0 0; width = num 10; height = num 10 } } ∷ [];
      ports = record { node = 0; id = 0; side = East; offset = num 5 } ∷ [];
      edges = record { id = 0; source = 0; target = 0; first = 0; count = 2 } ∷ record { id = 1; source = 0; target = 0; first = 2; count = 2 } ∷ [];
      bundles = bundle ∷ narrow ∷ [];
      members = record { edge = 0; tap_lane = 0 } ∷ record { edge = 1; tap_lane = 1 } ∷ [];
    }

-- two level runs from x = 10 to x = 100; the pitch is 4, so that their stretches are [10, 96]
abbrev routes : List Route
routes = (at 10 5 ∷ at 100 5 ∷ []) ∷ (at 10 15 ∷ at 100 15 ∷ []) ∷ []

-- a bundle drawn with its collector at x
abbrev drawn_at : ℕ → Drawn
drawn_at x = record { collector = seg (at x 5) (at x 15); spine = seg (at 10 5) (at x 5); taps = record { edge = 0; place = at x 5 } ∷ record { edge = 1; place = at x 15 } ∷ []; interior = true }

-- ---- bounds and rail

abbrev lowest : Option Bounds → Float
lowest r = if_between r (num 0) (λ s. s.minimum)

abbrev its : Bounds
its = record { minimum = num 18; desired = num 100; maximum = num 100 }

its_bounds : bounds_of board routes bundle None None ≡ option.Some its
unfolding bounds_of reach_all last_x rail_depth of_int lt le eq ne add sub mul lane_count offsets_from corridor_among corridor_from
its_bounds = refl

no_bounds : bounds_of board routes narrow None None ≡ option.None
unfolding bounds_of
no_bounds = refl

rail_x : (u : Bundle) → u.port ≡ 0 → u.role ≡ Input → (railed board u).collector.start.x ≡ num 14
unfolding railed rail_corner drawn_as rail_depth of_int lt le eq ne add sub
rail_x u e f = rw (e, f) refl

-- ---- which x are allowed

-- from 18 to 96
allowed : (x : Float) → T (finite x) → T (le (num 18) x) → T (le x (num 96)) → Allowed board routes bundle (value x)
unfolding members stretches runs of_int lt le eq ne add sub
allowed x f a b =
    let low = le→AtMostℚ (num 18) x tt f a in
    let high = le→AtMostℚ x (num 96) f tt b in
    let from : AtMostℚ (value (num 10)) (value x) = at_most_trans (value (num 10)) (value (num 18)) (value x) (le→AtMostℚ (num 10) (num 18) tt tt tt) low in
    record {
      bounds = its;
      are_bounds = its_bounds;
      good = record {
        above = low;
        below = at_most_trans (value x) (value (num 96)) (value (num 100)) high (le→AtMostℚ (num 96) (num 100) tt tt tt);
        usable = (inl (from, high), (inl (from, high), tt));
      };
    }

at_least_18 : (q : Fraction) → Allowed board routes bundle q → AtMostℚ (value (num 18)) q
at_least_18 q a =
    let m : num 18 ≡ a.bounds.minimum = ap lowest (sym its_bounds ∙ a.are_bounds) in
    subst (λ (z : Float). AtMostℚ (value z) q) (sym m) a.good.above

at_most_96 : (q : Fraction) → Allowed board routes bundle q → AtMostℚ q (value (num 96))
unfolding members stretches runs of_int lt le eq ne add sub
at_most_96 q a = elim a.good.usable.0 [ inl k ↦ k.1 | inr k ↦ absurd k ]

-- ---- the last sentence

-- THE BEST PLACE is 96
pub best : (present : List Route) → BestPlace board routes present bundle (drawn_at 96)
unfolding of_int le
best present = at_best (value (num 96)) (allowed (num 96) tt tt tt) at_most_96 (record { start = same_refl (value (num 96)); end = same_refl (value (num 96)) })

-- THE RAIL, at 14, where an x is allowed
pub rail_refuted : (present : List Route) → BestPlace board routes present bundle (railed board bundle) → ⊥
unfolding of_int le
rail_refuted present (at_rail none_such h) = none_such (value (num 96)) (allowed (num 96) tt tt tt)
rail_refuted present (at_best q a is_best s) =
    let e : Sameℚ (value (num 14)) q = subst (λ (z : Float). Sameℚ (value z) q) (rail_x bundle refl refl) s.start in
    AtMostℚ→le (num 18) (num 14) tt tt (at_most_trans (value (num 18)) q (value (num 14)) (at_least_18 q a) (same→at_least (value (num 14)) q e))

-- AN ALLOWED X THAT IS NOT THE BEST ONE: 18 is the leftmost, and the bundle is an Input
pub leftmost_refuted : (present : List Route) → Allowed board routes bundle (value (num 18)) × (BestPlace board routes present bundle (drawn_at 18) → ⊥)
unfolding of_int le
leftmost_refuted present = (allowed (num 18) tt tt tt, broken)
  where
    broken : BestPlace board routes present bundle (drawn_at 18) → ⊥
    broken (at_rail none_such h) = none_such (value (num 96)) (allowed (num 96) tt tt tt)
    broken (at_best q a is_best s) =
        AtMostℚ→le (num 96) (num 18) tt tt (at_most_trans (value (num 96)) q (value (num 18)) (is_best (value (num 96)) (allowed (num 96) tt tt tt)) (same→at_least (value (num 18)) q s.start))

-- OFF THE RAIL WHERE NO X IS ALLOWED: bounds are absent, so that its place is the rail; 96 is not
pub off_rail_refuted : (present : List Route) → BestPlace board routes present narrow (railed board narrow) × (BestPlace board routes present narrow (drawn_at 96) → ⊥)
unfolding of_int eq build
off_rail_refuted present = (at_rail none_allowed (record { start = refl; end = refl }), broken)
  where
    none_allowed : (q : Fraction) → Allowed board routes narrow q → ⊥
    none_allowed q a = let e : option.None ≡ option.Some a.bounds = sym no_bounds ∙ a.are_bounds in let z : ◌≡◌ {A = ℕ} 0 1 = cc in omega arith

    broken : BestPlace board routes present narrow (drawn_at 96) → ⊥
    broken (at_best q a is_best s) = none_allowed q a
    broken (at_rail none_such h) = subst (λ (z : Float). T (eq z (num 14))) (sym (h.start ∙ rail_x narrow refl refl)) tt
