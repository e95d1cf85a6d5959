-- The condition axis by axis: an axis whose least coordinate is 0 asks for nothing. Assumes nothing.
use Rattle.std.specs.Prelude.{◌≡◌, refl, Bool, true, false, not, T, Float}
use Rattle.std.proofs.Common.{subst, arith}
use Rattle.std.specs.Float.Ieee.{eq, ne}
use Rattle.binary64.specs.Range.{Bounded, bounded_mono}
use Rattle.binary64.specs.Accepted.{zero64}
use Rattle.binary64.proofs.Fraction.{eq→Sameℚ}
use Rattle.geometry.specs.declared.Point.{Point}
use Rattle.sorting.specs.Lists.{Every}
use Rattle.drawing.specs.Build.{Drawn}
use Rattle.drawing.specs.Normal.{Sheet, min_x, min_y}
use Rattle.drawing.proofs.CleanChecks.{every_both}
use Rattle.ranges.proofs.Corridors.{zero_bounded}
use Rattle.ranges.specs.Coordinates.{OfPoint, OfTap, OfDrawn, OfPlaced}
use Rattle.ranges.specs.Extent.{OfFormat, InX, InY}
use Rattle.ranges.proofs.Page.{corner_fine, placed_weaker}
use Rattle.last_shift.proofs.Still.{zero_less}
use Rattle.last_shift.specs.Shift.{ExactLess, ShiftExact, without_nodes, Any}

module _ (X Y X' Y' K M : Float → Type 0) (f : (x : Float) → X x → X' x → K x) (g : (y : Float) → Y y → Y' y → M y) where
  point_both : (p : Point) → OfPoint X Y p → OfPoint X' Y' p → OfPoint K M p
  point_both p a b = (f p.x a.0 b.0, g p.y a.1 b.1)

  drawn_both : (d : Drawn) → OfDrawn X Y d → OfDrawn X' Y' d → OfDrawn K M d
  drawn_both d a b = record {
    collector_start = point_both d.collector.start a.collector_start b.collector_start;
    collector_end = point_both d.collector.end a.collector_end b.collector_end;
    spine_start = point_both d.spine.start a.spine_start b.spine_start;
    spine_end = point_both d.spine.end a.spine_end b.spine_end;
    taps = every_both (OfTap X Y) (OfTap X' Y') (OfTap K M) (λ t x y. point_both t.place x y) d.taps a.taps b.taps;
  }

  lines_both : (s : Sheet) → OfPlaced X Y (without_nodes s) → OfPlaced X' Y' (without_nodes s) → OfPlaced K M (without_nodes s)
  lines_both s a b = record {
    nodes = tt;
    routes = every_both (Every (OfPoint X Y)) (Every (OfPoint X' Y')) (Every (OfPoint K M)) (λ r x y. every_both (OfPoint X Y) (OfPoint X' Y') (OfPoint K M) point_both r x y) s.routes a.routes b.routes;
    drawn = every_both (OfDrawn X Y) (OfDrawn X' Y') (OfDrawn K M) drawn_both s.drawn a.drawn b.drawn;
  }

lines_of : (X Y : Float → Type 0) (s : Sheet) → OfPlaced X Y s → OfPlaced X Y (without_nodes s)
lines_of X Y s h = record { nodes = tt; routes = h.routes; drawn = h.drawn }

not_false : (b : Bool) → not b ≡ false → T b
not_false true e = tt
not_false false e = subst T e tt

-- o is 0
still : (o x : Float) → Bounded 2414870528 o → ne o zero64 ≡ false → Bounded 2414870528 x → OfFormat x → ExactLess o x
unfolding ne
still o x a e b p = zero_less o x a.is_finite b.is_finite p (eq→Sameℚ o zero64 a.is_finite tt (not_false (eq o zero64) e))

-- THE CONDITION by axes: of numbers as `before_range` and `before_format` of crate promise have them
pub by_axes : (s : Sheet) → OfPlaced InX InY s → OfPlaced OfFormat OfFormat s
    → (ne (min_x s) zero64 ≡ true → OfPlaced (ExactLess (min_x s)) Any (without_nodes s)) → (ne (min_y s) zero64 ≡ true → OfPlaced Any (ExactLess (min_y s)) (without_nodes s)) → ShiftExact s
by_axes s h p ex ey moved =
    let B : Float → Type 0 = λ x. Bounded 2414870528 x in
    let wide : (x : Float) → InX x → B x = λ x k. bounded_mono 2149580800 2414870528 x (omega arith) k in
    let o = corner_fine B B (zero_bounded 2414870528) (zero_bounded 2414870528) s (placed_weaker InX InY B B wide (λ y k. k) s h) in
    let EX = ExactLess (min_x s) in
    let EY = ExactLess (min_y s) in
    let hs = lines_of InX InY s h in
    let ps = lines_of OfFormat OfFormat s p in
    let k = lines_both EX Any Any EY EX EY (λ x a b. a) (λ y a b. b) s (on_x o.0 wide (ne (min_x s) zero64) refl hs ps) (on_y o.1 (ne (min_y s) zero64) refl hs ps) in
    record { on_routes = k.routes; of_bundles = k.drawn }
  where
    on_x : Bounded 2414870528 (min_x s) → ((x : Float) → InX x → Bounded 2414870528 x) → (t : Bool) → ne (min_x s) zero64 ≡ t → OfPlaced InX InY (without_nodes s) → OfPlaced OfFormat OfFormat (without_nodes s) → OfPlaced (ExactLess (min_x s)) Any (without_nodes s)
    on_x a wide true z hs ps = ex z
    on_x a wide false z hs ps = lines_both InX InY OfFormat OfFormat (ExactLess (min_x s)) Any (λ x u v. still (min_x s) x a z (wide x u) v) (λ y u v. tt) s hs ps

    on_y : Bounded 2414870528 (min_y s) → (t : Bool) → ne (min_y s) zero64 ≡ t → OfPlaced InX InY (without_nodes s) → OfPlaced OfFormat OfFormat (without_nodes s) → OfPlaced Any (ExactLess (min_y s)) (without_nodes s)
    on_y a true z hs ps = ey z
    on_y a false z hs ps = lines_both InX InY OfFormat OfFormat Any (ExactLess (min_y s)) (λ x u v. tt) (λ y u v. still (min_y s) y a z u v) s hs ps
