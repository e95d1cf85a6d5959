-- No exact point of a run that does not enter a node lies inside it. Assumes nothing.
use Rattle.std.specs.Prelude.{◌≡◌, Bool, true, false, not, ◌&&◌, ◌||◌, cond, T, Float}
use Rattle.std.proofs.Common.{true≢false}
use Rattle.std.specs.Float.Ieee.{lt, eq}
use Rattle.std.specs.Float.Ieee.Fits.{and_i}
use Rattle.std.specs.Float.Ieee.Scale.{finite}
use Rattle.binary64.proofs.Fraction.{Belowℚ→lt}
use Rattle.binary64.specs.Rational.{Fraction, Belowℚ, value}
use Rattle.geometry.specs.declared.Point.{Point}
use Rattle.geometry.specs.declared.Node.{Node}
use Rattle.geometry.specs.declared.Span.{Span}
use Rattle.exact.specs.Exact.{Exact, exact, OnSegment, Finite}
use Rattle.geometry.specs.Contact.{level, slanted, across, upright}
use Rattle.geometry.specs.Enters.{far_x, far_y, inside, passes_inside, enters}
use Rattle.exact.proofs.Between.{same→at_most, same→at_least, below_at_most, at_most_below}
use Rattle.exact.proofs.Meeting.{not_both, cond_ind, Lies, lies_across, lies_upright}

-- p is strictly inside the rectangle that the node's corner and its far sides span
pub record Inside (p : Exact) (n : Node) : Type 0 where
  pub left : Belowℚ (value n.corner.x) p.x
  pub right : Belowℚ p.x (value (far_x n))
  pub bottom : Belowℚ (value n.corner.y) p.y
  pub top : Belowℚ p.y (value (far_y n))

-- the corner and the far sides are finite
pub record FiniteNode (n : Node) : Type 0 where
  pub x : T (finite n.corner.x)
  pub y : T (finite n.corner.y)
  pub far_x : T (finite (far_x n))
  pub far_y : T (finite (far_y n))

module _ (s : Span) (f m : Fraction) (L : Lies s f m) (corner far side far_side : Float) (C : T (finite corner)) (F : T (finite far)) (S : T (finite side)) (G : T (finite far_side)) where
  goes_in : Belowℚ (value corner) f → Belowℚ f (value far) → Belowℚ (value side) m → Belowℚ m (value far_side) → T (inside s corner far side far_side)
  goes_in h k i j =
      let a = lt corner s.fixed in
      let b = lt s.fixed far in
      let c = lt s.low far_side in
      let d = lt side s.high in
      let A : T a = Belowℚ→lt corner s.fixed C L.fixed_finite (below_at_most (value corner) f (value s.fixed) h (same→at_most f (value s.fixed) L.on)) in
      let B : T b = Belowℚ→lt s.fixed far L.fixed_finite F (at_most_below (value s.fixed) f (value far) (same→at_least f (value s.fixed) L.on) k) in
      let E : T c = Belowℚ→lt s.low far_side L.low_finite G (at_most_below (value s.low) m (value far_side) L.from j) in
      let D : T d = Belowℚ→lt side s.high S L.high_finite (below_at_most (value side) m (value s.high) i L.to) in
      and_i (a && b && c) d (and_i (a && b) c (and_i a b A B) E) D

no : (b : Bool) → b ≡ false → T b → ⊥
no true e t = true≢false e
no false e t = t

neither : (a b : Bool) → (a || b) ≡ false → T (not a) × (b ≡ false)
neither true b e = absurd (true≢false e)
neither false b e = (tt, e)

-- a run that does not enter is level or upright
pub straight : (a b : Point) (n : Node) → enters a b n ≡ false → T (not (slanted a b))
straight a b n e = (neither (slanted a b) (passes_inside a b n) e).0

-- THE THEOREM: no exact point of a run that does not enter the node lies inside it
pub stays_out : (a b : Point) (n : Node) → Finite a → Finite b → FiniteNode n → enters a b n ≡ false → (p : Exact) → OnSegment p (exact a) (exact b) → ¬ Inside p n
unfolding passes_inside
stays_out a b n A B N e p h I =
    let s : T (not (slanted a b)) = straight a b n e in
    let across_in = inside (across a b) n.corner.y (far_y n) n.corner.x (far_x n) in
    let upright_in = inside (upright a b) n.corner.x (far_x n) n.corner.y (far_y n) in
    no (cond (level a b) across_in upright_in) (neither (slanted a b) (cond (level a b) across_in upright_in) e).1
    (cond_ind (level a b) across_in upright_in T
    (λ t. goes_in (across a b) p.y p.x (lies_across p a b A B t h) n.corner.y (far_y n) n.corner.x (far_x n) N.y N.far_y N.x N.far_x I.bottom I.top I.left I.right)
    (λ t. goes_in (upright a b) p.x p.y (lies_upright p a b A B (not_both (level a b) (eq a.x b.x) s t) h) n.corner.x (far_x n) n.corner.y (far_y n) N.x N.far_x N.y N.far_y I.left I.right I.bottom I.top))
