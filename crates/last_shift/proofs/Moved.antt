-- What normalize_layout makes of a sheet: the three sentences, each under what it needs. Assumes nothing.
use Rattle.std.specs.Prelude.{◌≡◌, refl, Bool, true, false, cond, List, [], ◌∷◌, map, ℕ, ◌+◌, ◌*◌, ◌<◌, length, get_or}
use Rattle.std.proofs.Common.{sym, ap, ◌∙◌, subst, arith, mul-one, add-mul}
use Rattle.std.specs.Float.{binary64}
use Rattle.std.specs.Float.Ieee.{sub}
use Rattle.binary64.specs.Rational.{plus, less, Fraction, Sameℚ, cross, value}
use Rattle.binary64.specs.Integers.{by_parts, sub_parts_ℤ}
use Rattle.binary64.specs.Range.{Within, add_bounded}
use Rattle.binary64.proofs.Fraction.{cross_plus, cross_less}
use Rattle.geometry.specs.declared.Point.{Point}
use Rattle.geometry.specs.Points.{Route}
use Rattle.exact.specs.Exact.{nought, minusℚ}
use Rattle.exact.proofs.Between.{same_trans}
use Rattle.sorting.specs.Lists.{Every}
use Rattle.sorting.specs.Sorted.{every_at}
use Rattle.board.specs.declared.PlacedNode.{PlacedNode}
use Rattle.board.specs.Board.{Board}
use Rattle.drawing.specs.Build.{Drawn, no_drawn}
use Rattle.drawing.specs.Sheet.{Progress}
use Rattle.drawing.proofs.CleanChecks.{every_both}
use Rattle.drawing.specs.Normal.{Sheet, sheet_after, min_x, min_y, shifted, shifted_node, shifted_drawn, shifted_sheet, moved}
use Rattle.ranges.proofs.Corridors.{Below, held}
use Rattle.ranges.specs.Coordinates.{OfPoint, OfDrawn, OfPlaced}
use Rattle.ranges.specs.Extent.{InX, InY}
use Rattle.promise.specs.Demand3.{StandsAt, NoFalseJoint}
use Rattle.last_shift.proofs.Fractions.{minus_left}
use Rattle.last_shift.specs.Shift.{corner_of, moves, ExactLess, ExactPoint, ShiftExact, NodeExact, NodesExact, least_x, with_nodes}
use Rattle.last_shift.proofs.Carry.{JointsOnly, shift_joints, at_map}
use Rattle.last_shift.proofs.Nodes.{FairPoint, FairNode, shift_out}

-- ---- sentences one and two
pub joints_carry : (s : Sheet) → ShiftExact s → JointsOnly s.routes s.drawn → JointsOnly (moved s).routes (moved s).drawn
unfolding moved shifted_sheet
joints_carry s e h = go (moves s) refl
  where
    go : (t : Bool) → moves s ≡ t → JointsOnly (cond t (shifted_sheet (corner_of s) s) s).routes (cond t (shifted_sheet (corner_of s) s) s).drawn
    go true z = shift_joints (corner_of s) s.routes s.drawn (e z) h
    go false z = h

-- ---- sentence three
unmap : {A B : Type 0} (f : A → B) (P : B → Type 0) (l : List A) → Every P (map f l) → Every (λ (a : A). P (f a)) l
unmap f P [] e = tt
unmap f P (a ∷ l) e = (e.0, unmap f P l e.1)

zip : {A : Type 0} (P Q R S : A → Type 0) → ((a : A) → P a → Q a → R a → S a) → (l : List A) → Every P l → Every Q l → Every R l → Every S l
zip P Q R S f [] x y z = tt
zip P Q R S f (a ∷ l) x y z = (f a x.0 y.0 z.0, zip P Q R S f l x.1 y.1 z.1)

unmap_all : (o : Point) (P : Point → Type 0) (l : List Route) → Every (Every P) (map (map (shifted o)) l) → Every (Every (λ (p : Point). P (shifted o p))) l
unmap_all o P [] e = tt
unmap_all o P (r ∷ l) e = (unmap (shifted o) P r e.0, unmap_all o P l e.1)

fair_point : (o p : Point) → OfPoint InX InY p → OfPoint (Below 33) (Below 33) (shifted o p) → ExactPoint o p → FairPoint o p
unfolding shifted
fair_point o p a b e = record { x = record { first = a.0.is_finite; last = b.0.is_finite; is = e.0 }; y = record { first = a.1.is_finite; last = b.1.is_finite; is = e.1 } }

abbrev Sized : PlacedNode → Type 0
Sized n = Within 30 n.body.width × Within 30 n.body.height

fair_node : (o : Point) (n : PlacedNode) → OfPoint InX InY n.body.corner × Sized n → OfPoint (Below 33) (Below 33) (shifted_node o n).body.corner → NodeExact o n → FairNode o n
unfolding shifted_node
fair_node o n a b e = record {
  corner = fair_point o n.body.corner a.0 b e.corner;
  right = record {
    first = (add_bounded 2149580800 1073741824 n.body.corner.x n.body.width (held (2149580800 + 1073741824) (omega arith)) a.0.0 a.1.0).is_finite;
    last = (add_bounded 8589934591 1073741824 (shifted o n.body.corner).x n.body.width (held (8589934591 + 1073741824) (omega arith)) b.0 a.1.0).is_finite;
    is = e.right;
  };
  bottom = record {
    first = (add_bounded 2414870528 1073741824 n.body.corner.y n.body.height (held (2414870528 + 1073741824) (omega arith)) a.0.1 a.1.1).is_finite;
    last = (add_bounded 8589934591 1073741824 (shifted o n.body.corner).y n.body.height (held (8589934591 + 1073741824) (omega arith)) b.1 a.1.1).is_finite;
    is = e.bottom;
  };
}

-- the sizes of the numbers are those of `before_in` and `after_in` of crate promise
pub all_carry : (b : Board) (u : Progress) → Every Sized b.nodes → OfPlaced InX InY (sheet_after b u) → OfPlaced (Below 33) (Below 33) (moved (sheet_after b u)) → ShiftExact (sheet_after b u) → NodesExact (sheet_after b u)
    → NoFalseJoint b u.routes u.drawn → NoFalseJoint (with_nodes b (moved (sheet_after b u)).nodes) (moved (sheet_after b u)).routes (moved (sheet_after b u)).drawn
unfolding moved shifted_sheet
all_carry b u sized before after e f h = go (moves (sheet_after b u)) refl after
  where
    go : (t : Bool) → moves (sheet_after b u) ≡ t → OfPlaced (Below 33) (Below 33) (cond t (shifted_sheet (corner_of (sheet_after b u)) (sheet_after b u)) (sheet_after b u))
        → NoFalseJoint (with_nodes b (cond t (shifted_sheet (corner_of (sheet_after b u)) (sheet_after b u)) (sheet_after b u)).nodes)
        (cond t (shifted_sheet (corner_of (sheet_after b u)) (sheet_after b u)) (sheet_after b u)).routes
        (cond t (shifted_sheet (corner_of (sheet_after b u)) (sheet_after b u)) (sheet_after b u)).drawn
    go true z after =
        let o = corner_of (sheet_after b u) in
        let j = shift_joints o u.routes u.drawn (e z) (record { with_routes = h.with_routes; with_bundles = h.with_bundles }) in
        let points : Every (Every (FairPoint o)) u.routes =
        zip (Every (OfPoint InX InY)) (Every (λ (p : Point). OfPoint (Below 33) (Below 33) (shifted o p))) (Every (ExactPoint o)) (Every (FairPoint o)) (λ r x y w. zip (OfPoint InX InY) (λ (p : Point). OfPoint (Below 33) (Below 33) (shifted o p)) (ExactPoint o) (FairPoint o) (fair_point o) r x y w)
        u.routes before.routes (unmap_all o (OfPoint (Below 33) (Below 33)) u.routes after.routes) (e z).on_routes in
        let nodes : Every (FairNode o) b.nodes =
        zip (λ (n : PlacedNode). OfPoint InX InY n.body.corner × Sized n) (λ (n : PlacedNode). OfPoint (Below 33) (Below 33) (shifted_node o n).body.corner) (NodeExact o) (FairNode o) (fair_node o)
        b.nodes (every_both (λ (n : PlacedNode). OfPoint InX InY n.body.corner) Sized (λ (n : PlacedNode). OfPoint InX InY n.body.corner × Sized n) (λ n f g. (f, g)) b.nodes before.nodes sized) (unmap (shifted_node o) (λ (n : PlacedNode). OfPoint (Below 33) (Below 33) n.body.corner) b.nodes after.nodes) (f z) in
        record {
          with_routes = j.with_routes;
          with_bundles = j.with_bundles;
          members_out = shift_out o b u.routes points nodes h.members_out;
        }
    go false z after = record { with_routes = h.with_routes; with_bundles = h.with_bundles; members_out = h.members_out }

-- ---- the last sentence: a collector that stands at q stands at q less the least x
less_nought : (q : Fraction) → Sameℚ q (minusℚ q nought)
less_nought q =
    let z = sub_parts_ℤ (cross q nought) (cross nought q) in
    by_parts (cross q (minusℚ q nought)) (cross (minusℚ q nought) q)
    (go (plus q.numerator) (less q.numerator) q.denominator (plus (minusℚ q nought).numerator) (less (minusℚ q nought).numerator) (plus (cross q (minusℚ q nought))) (less (cross q (minusℚ q nought))) (plus (cross (minusℚ q nought) q)) (less (cross (minusℚ q nought) q))
    (omega (arith, z, cross_plus q nought, cross_less q nought, cross_plus nought q, cross_less nought q))
    (cross_plus q (minusℚ q nought) ∙ ap (λ (w : ℕ). plus q.numerator * w) (mul-one q.denominator)) (cross_less q (minusℚ q nought) ∙ ap (λ (w : ℕ). less q.numerator * w) (mul-one q.denominator)) (cross_plus (minusℚ q nought) q) (cross_less (minusℚ q nought) q))
  where
    go : (p l d x m a b c e : ℕ) → x + l ≡ p + m → a ≡ p * d → b ≡ l * d → c ≡ x * d → e ≡ m * d → a + e ≡ c + b
    go p l d x m a b c e h A B C E = A' (ap (λ (w : ℕ). w * d) h)
      where
        A' : (x + l) * d ≡ (p + m) * d → a + e ≡ c + b
        A' k = let k' = simp add-mul at k in omega (arith, A, B, C, E)

pub stands_carry : (s : Sheet) → ShiftExact s → (k : ℕ) → k < length s.drawn → (q : Fraction) → StandsAt (get_or s.drawn k no_drawn) q → StandsAt (get_or (moved s).drawn k no_drawn) (minusℚ q (least_x s))
unfolding moved shifted_sheet shifted_drawn shifted
stands_carry s e k l q h = go (moves s) refl
  where
    go : (t : Bool) → moves s ≡ t → StandsAt (get_or (cond t (shifted_sheet (corner_of s) s) s).drawn k no_drawn) (minusℚ q (cond t (value (min_x s)) nought))
    go true z =
        let d = get_or s.drawn k no_drawn in
        let o = value (min_x s) in
        let x = every_at (OfDrawn (ExactLess (min_x s)) (ExactLess (min_y s))) s.drawn no_drawn (e z).of_bundles k l in
        subst (λ (c : Drawn). StandsAt c (minusℚ q o)) (sym (at_map (shifted_drawn (corner_of s)) s.drawn k no_drawn no_drawn l))
        (record {
          start = same_trans (value (sub binary64 d.collector.start.x (min_x s))) (minusℚ (value d.collector.start.x) o) (minusℚ q o) x.collector_start.0 (minus_left (value d.collector.start.x) q o h.start);
          end = same_trans (value (sub binary64 d.collector.end.x (min_x s))) (minusℚ (value d.collector.end.x) o) (minusℚ q o) x.collector_end.0 (minus_left (value d.collector.end.x) q o h.end);
        })
    go false z =
        let d = get_or s.drawn k no_drawn in
        record {
          start = same_trans (value d.collector.start.x) q (minusℚ q nought) h.start (less_nought q);
          end = same_trans (value d.collector.end.x) q (minusℚ q nought) h.end (less_nought q);
        }
