-- The steps to where the last shift is exact: differences, far sides and corners of numbers that are multiples of 1 / 2 ^ k of magnitude at most 2 ^ m, where k + m + 2 is at most 53. Assumes nothing.
use Rattle.std.specs.Prelude.{◌≡◌, List, [], ◌∷◌, ℕ, ◌+◌, ◌*◌, ◌^◌, ◌≤◌, ◌<◌, ℤ, pos, negsuc, nat_abs, ◌+ℤ◌, ◌-ℤ◌, T, Float}
use Rattle.std.proofs.Common.{sym, ap, subst, add-mul, mul_comm, mul_assoc, mul_left_comm, zero-mul, arith, pow_mono}
use Rattle.std.specs.Float.Ieee.{binary64, add, sub}
use Rattle.std.specs.Float.Ieee.Positive.{den}
use Rattle.std.specs.Float.Ieee.Scale.{finite}
use Rattle.binary64.specs.Rational.{plus, less, cross, Sameℚ, value}
use Rattle.binary64.specs.Integers.{abs_parts, by_parts, add_parts, sub_parts_ℤ}
use Rattle.binary64.specs.Accepted.{zero64}
use Rattle.binary64.proofs.Fraction.{cross_plus, cross_less, value_plus, value_less, value_den}
use Rattle.geometry.specs.declared.Point.{Point}
use Rattle.exact.specs.Exact.{minusℚ}
use Rattle.exact.proofs.Between.{same_trans}
use Rattle.sorting.specs.Lists.{Every}
use Rattle.sorting.specs.Sorted.{every_map}
use Rattle.board.specs.declared.PlacedNode.{PlacedNode}
use Rattle.drawing.specs.Build.{Drawn}
use Rattle.drawing.specs.Normal.{Sheet, shifted, shifted_node}
use Rattle.ranges.specs.Coordinates.{OfPoint, OfTap, OfDrawn, OfPlaced}
use Rattle.last_shift.proofs.Fractions.{minus_left, minus_right}
use Rattle.binary64.specs.ExactOnGrid.{At, add_exact, sub_exact}
use Rattle.ranges.proofs.Page.{corner_fine}
use Rattle.last_shift.specs.Shift.{over_grid, corner_of, ExactLess, ExactPoint, NodeExact}

-- x is a multiple of 1 / 2 ^ k, of magnitude at most 2 ^ m
pub record OnGrid (k m : ℕ) (x : Float) : Type 0 where
  pub is_finite : T (finite x)
  pub whole : ℤ
  pub is : Sameℚ (value x) (over_grid whole k)
  pub size : nat_abs whole ≤ 2 ^ (k + m)

-- ---- the two ways to say it
at_in : (k : ℕ) (x : Float) (z : ℤ) → T (finite x) → Sameℚ (value x) (over_grid z k) → At k x z
at_in k x z f e =
    let q = over_grid z k in
    let v = value x in
    let s : plus v.numerator * 2 ^ k + less z * v.denominator ≡ plus z * v.denominator + less v.numerator * 2 ^ k =
    omega (arith, ap plus e, ap less e, cross_plus v q, cross_less v q, cross_plus q v, cross_less q v) in
    record { is_finite = f; is = rw (← value_plus x, ← value_less x, ← value_den x) s }

pub at_out : (k : ℕ) (x : Float) (z : ℤ) → At k x z → Sameℚ (value x) (over_grid z k)
at_out k x z h =
    let q = over_grid z k in
    let v = value x in
    let s : plus v.numerator * 2 ^ k + less z * v.denominator ≡ plus z * v.denominator + less v.numerator * 2 ^ k =
    rw (value_plus x, value_less x, value_den x) h.is in
    by_parts (cross v q) (cross q v) (omega (arith, s, cross_plus v q, cross_less v q, cross_plus q v, cross_less q v))

-- (a - b) / 2 ^ k is a / 2 ^ k - b / 2 ^ k
difference_on : (a b : ℤ) (k : ℕ) → Sameℚ (over_grid (a -ℤ b) k) (minusℚ (over_grid a k) (over_grid b k))
difference_on a b k =
    let p = over_grid (a -ℤ b) k in
    let A = over_grid a k in
    let B = over_grid b k in
    let q = minusℚ A B in
    by_parts (cross p q) (cross q p)
    (go (plus a) (less a) (plus b) (less b) (2 ^ k) (plus (a -ℤ b)) (less (a -ℤ b)) (plus q.numerator) (less q.numerator) (plus (cross p q)) (less (cross p q)) (plus (cross q p)) (less (cross q p))
    (sub_parts_ℤ a b) (omega (arith, sub_parts_ℤ (cross A B) (cross B A), cross_plus A B, cross_less A B, cross_plus B A, cross_less B A)) (cross_plus p q) (cross_less p q) (cross_plus q p) (cross_less q p))
  where
    go : (pa la pb lb G x l y m c d e f : ℕ) → x + (la + pb) ≡ pa + lb + l → y + (la * G + pb * G) ≡ pa * G + lb * G + m → c ≡ x * (G * G) → d ≡ l * (G * G) → e ≡ y * G → f ≡ m * G → c + f ≡ e + d
    go pa la pb lb G x l y m c d e f h j C D E F =
        let h' = simp (add-mul, mul_assoc, mul_comm, mul_left_comm) at (ap (λ (w : ℕ). w * (G * G)) h) in
        let j' = simp (add-mul, mul_assoc, mul_comm, mul_left_comm) at (ap (λ (w : ℕ). w * G) j) in
        let C' = simp (mul_comm, mul_left_comm) at C in
        let D' = simp (mul_comm, mul_left_comm) at D in
        let E' = simp (mul_comm, mul_left_comm) at E in
        let F' = simp (mul_comm, mul_left_comm) at F in
        omega arith

-- ---- sizes
within : (z : ℤ) (a b : ℕ) → plus z + a ≡ b + less z → nat_abs z ≤ a + b
within (pos n) a b h = omega arith
within (negsuc n) a b h = omega arith

difference_size : (a b : ℤ) (n : ℕ) → nat_abs a ≤ n → nat_abs b ≤ n → nat_abs (a -ℤ b) ≤ n + n
difference_size a b n h k = let w = within (a -ℤ b) (less a + plus b) (plus a + less b) (sub_parts_ℤ a b) in omega (arith, w, abs_parts a, abs_parts b)

module _ (k m : ℕ) (fit : k + m + 2 ≤ 53) where
  quarter : 2 ^ (k + m) ≤ 2 ^ 51
  quarter = let h : k + m ≤ 51 = omega arith in pow_mono h

  below_two : (a b : ℕ) → a ≤ 2 ^ (k + m) → b ≤ 2 ^ (k + m) → a + b < 2 ^ 53
  below_two a b h j = go (2 ^ (k + m)) quarter h j
    where
      go : (n : ℕ) → n ≤ 2 ^ 51 → a ≤ n → b ≤ n → a + b < 2 ^ 53
      go n q h j = omega arith

  below_three : (a b : ℕ) → a ≤ 2 ^ (k + m) + 2 ^ (k + m) → b ≤ 2 ^ (k + m) → a + b < 2 ^ 53
  below_three a b h j = go (2 ^ (k + m)) quarter h j
    where
      go : (n : ℕ) → n ≤ 2 ^ 51 → a ≤ n + n → b ≤ n → a + b < 2 ^ 53
      go n q h j = omega arith

  small : k ≤ 1074
  small = omega arith

  grid_at : (x : Float) (h : OnGrid k m x) → At k x h.whole
  grid_at x h = at_in k x h.whole h.is_finite h.is

  -- ---- a difference
  sub_at : (o x : Float) (a : OnGrid k m o) (b : OnGrid k m x) → At k (sub binary64 x o) (b.whole -ℤ a.whole)
  unfolding small
  sub_at o x a b = sub_exact k x o b.whole a.whole small (below_two (nat_abs b.whole) (nat_abs a.whole) b.size a.size) (grid_at x b) (grid_at o a)

  -- z at c - a is y - o, where y is at c and o at a
  less_from : (o y z : Float) (a c : ℤ) → Sameℚ (value o) (over_grid a k) → At k y c → At k z (c -ℤ a) → Sameℚ (value z) (minusℚ (value y) (value o))
  less_from o y z a c e f h =
      same_trans (value z) (over_grid (c -ℤ a) k) (minusℚ (value y) (value o)) (at_out k z (c -ℤ a) h)
      (same_trans (over_grid (c -ℤ a) k) (minusℚ (over_grid c k) (over_grid a k)) (minusℚ (value y) (value o)) (difference_on c a k)
      (same_trans (minusℚ (over_grid c k) (over_grid a k)) (minusℚ (value y) (over_grid a k)) (minusℚ (value y) (value o)) (minus_left (over_grid c k) (value y) (over_grid a k) (sym (at_out k y c f)))
      (minus_right (value y) (over_grid a k) (value o) (sym e))))

  less_exact : (o x : Float) → OnGrid k m o → OnGrid k m x → ExactLess o x
  less_exact o x a b = less_from o x (sub binary64 x o) a.whole b.whole a.is (grid_at x b) (sub_at o x a b)

  -- ---- a far side, summed after the difference and before it
  exchanged : (c a w : ℤ) → (c -ℤ a) +ℤ w ≡ (c +ℤ w) -ℤ a
  exchanged c a w = by_parts ((c -ℤ a) +ℤ w) ((c +ℤ w) -ℤ a) (omega (arith, add_parts (c -ℤ a) w, sub_parts_ℤ c a, sub_parts_ℤ (c +ℤ w) a, add_parts c w))

  far_exact : (o x w : Float) → OnGrid k m o → OnGrid k m x → OnGrid k m w → Sameℚ (value (add binary64 (sub binary64 x o) w)) (minusℚ (value (add binary64 x w)) (value o))
  unfolding small
  far_exact o x w a b c =
      let before = add_exact k x w b.whole c.whole small (below_two (nat_abs b.whole) (nat_abs c.whole) b.size c.size) (grid_at x b) (grid_at w c) in
      let after = add_exact k (sub binary64 x o) w (b.whole -ℤ a.whole) c.whole small
      (below_three (nat_abs (b.whole -ℤ a.whole)) (nat_abs c.whole) (difference_size b.whole a.whole (2 ^ (k + m)) b.size a.size) c.size) (sub_at o x a b) (grid_at w c) in
      less_from o (add binary64 x w) (add binary64 (sub binary64 x o) w) a.whole (b.whole +ℤ c.whole) a.is before
      (subst (λ (z : ℤ). At k (add binary64 (sub binary64 x o) w) z) (exchanged b.whole a.whole c.whole) after)

  -- ---- the least corner is on the grid
  abbrev G : Float → Type 0
  G x = OnGrid k m x

  pub zero_on : G zero64
  zero_on = record {
    is_finite = tt;
    whole = pos 0;
    is = at_out k zero64 (pos 0) (record { is_finite = tt; is = omega (arith, zero-mul (2 ^ k), zero-mul (den zero64)) });
    size = omega arith;
  }

  unfoldable pub corner_on : (s : Sheet) → OfPlaced G G s → OfPoint G G (corner_of s)
  corner_on s h = corner_fine G G zero_on zero_on s h

  -- ---- points, bundles and nodes
  pub point_exact : (o p : Point) → OfPoint G G o → OfPoint G G p → ExactPoint o p
  point_exact o p a b = (less_exact o.x p.x a.0 b.0, less_exact o.y p.y a.1 b.1)

  pub drawn_exact : (o : Point) (d : Drawn) → OfPoint G G o → OfDrawn G G d → OfDrawn (ExactLess o.x) (ExactLess o.y) d
  drawn_exact o d a h = record {
    collector_start = point_exact o d.collector.start a h.collector_start;
    collector_end = point_exact o d.collector.end a h.collector_end;
    spine_start = point_exact o d.spine.start a h.spine_start;
    spine_end = point_exact o d.spine.end a h.spine_end;
    taps = every_map (OfTap G G) (OfTap (ExactLess o.x) (ExactLess o.y)) d.taps (λ t e. point_exact o t.place a e) h.taps;
  }

  node_exact : (o : Point) (n : PlacedNode) → OfPoint G G o → OfPoint G G n.body.corner → G n.body.width × G n.body.height → NodeExact o n
  unfolding shifted_node shifted
  node_exact o n a c w = record {
    corner = point_exact o n.body.corner a c;
    right = far_exact o.x n.body.corner.x n.body.width a.0 c.0 w.0;
    bottom = far_exact o.y n.body.corner.y n.body.height a.1 c.1 w.1;
  }

  pub nodes_exact : (s : Sheet) → OfPlaced G G s → (ns : List PlacedNode) → Every (λ (n : PlacedNode). OfPoint G G n.body.corner) ns → Every (λ (n : PlacedNode). G n.body.width × G n.body.height) ns → Every (NodeExact (corner_of s)) ns
  nodes_exact s h [] x y = tt
  nodes_exact s h (n ∷ ns) x y = (node_exact (corner_of s) n (corner_on s h) x.0 y.0, nodes_exact s h ns x.1 y.1)
