-- The third sentence of demand 3 of a sheet that is shifted: member routes stay out of foreign nodes, where corners and far sides are shifted exactly too. Assumes nothing.
use Rattle.std.specs.Prelude.{◌≡◌, Bool, true, false, not, ◌&&◌, ◌||◌, cond, List, map, ℕ, ◌<◌, T, length, get_or, Float}
use Rattle.std.proofs.Common.{sym, ap, ◌∙◌, subst, arith}
use Rattle.std.proofs.lemmas.List.{length-map}
use Rattle.std.specs.Float.Ieee.{lt, eq}
use Rattle.std.specs.Float.Ieee.Scale.{finite}
use Rattle.binary64.specs.Bools.{as_one}
use Rattle.binary64.specs.Order.{least, greatest}
use Rattle.binary64.specs.Rational.{value}
use Rattle.binary64.proofs.Fraction.{lt→Belowℚ, Belowℚ→lt, eq→Sameℚ, Sameℚ→eq}
use Rattle.geometry.specs.declared.Point.{Point}
use Rattle.geometry.specs.declared.Segment.{Segment}
use Rattle.geometry.specs.declared.Node.{Node}
use Rattle.geometry.specs.declared.Span.{Span}
use Rattle.geometry.specs.Points.{Route}
use Rattle.geometry.specs.Contact.{slanted, across, upright}
use Rattle.geometry.specs.Enters.{far_x, far_y, inside, passes_inside, enters}
use Rattle.sorting.specs.Lists.{Every}
use Rattle.sorting.specs.Sorted.{every_at}
use Rattle.board.specs.declared.PlacedNode.{PlacedNode}
use Rattle.board.specs.Board.{Board}
use Rattle.plan.specs.Depths.{no_node}
use Rattle.drawing.specs.Normal.{shifted, shifted_segment, shifted_node}
use Rattle.promise.specs.Demand3.{StaysOut, MembersOut}
use Rattle.last_shift.proofs.Fractions.{By, by_same, same_by, by_below, below_by}
use Rattle.last_shift.specs.Shift.{with_nodes}
use Rattle.last_shift.proofs.Carry.{came, run_every, at_map}

-- x' is x - o, exactly, and both are finite
pub record Less (o x x' : Float) : Type 0 where
  pub first : T (finite x)
  pub last : T (finite x')
  pub is : By (value o) (value x) (value x')

lt_by : (o x x' y y' : Float) → Less o x x' → Less o y y' → lt x' y' ≡ lt x y
lt_by o x x' y y' a b =
    as_one (lt x' y') (lt x y)
    (λ t. Belowℚ→lt x y a.first b.first (below_by (value o) (value x) (value x') (value y) (value y') a.is b.is (lt→Belowℚ x' y' a.last b.last t)))
    (λ t. Belowℚ→lt x' y' a.last b.last (by_below (value o) (value x) (value x') (value y) (value y') a.is b.is (lt→Belowℚ x y a.first b.first t)))

eq_by : (o x x' y y' : Float) → Less o x x' → Less o y y' → eq x' y' ≡ eq x y
eq_by o x x' y y' a b =
    as_one (eq x' y') (eq x y)
    (λ t. Sameℚ→eq x y a.first b.first (same_by (value o) (value x) (value x') (value y) (value y') a.is b.is (eq→Sameℚ x' y' a.last b.last t)))
    (λ t. Sameℚ→eq x' y' a.last b.last (by_same (value o) (value x) (value x') (value y) (value y') a.is b.is (eq→Sameℚ x y a.first b.first t)))

chosen : (o : Float) (t : Bool) (x x' y y' : Float) → Less o x x' → Less o y y' → Less o (cond t x y) (cond t x' y')
chosen o true x x' y y' a b = a
chosen o false x x' y y' a b = b

least_by : (o x x' y y' : Float) → Less o x x' → Less o y y' → Less o (least x y) (least x' y')
least_by o x x' y y' a b = subst (λ (t : Bool). Less o (least x y) (cond t y' x')) (sym (lt_by o y y' x x' b a)) (chosen o (lt y x) y y' x x' b a)

greatest_by : (o x x' y y' : Float) → Less o x x' → Less o y y' → Less o (greatest x y) (greatest x' y')
greatest_by o x x' y y' a b = subst (λ (t : Bool). Less o (greatest x y) (cond t y' x')) (sym (lt_by o x x' y y' a b)) (chosen o (lt x y) y y' x x' b a)

four : {a b c d e f g h : Bool} → a ≡ e → b ≡ f → c ≡ g → d ≡ h → (a && b && c && d) ≡ (e && f && g && h)
four {a} {b} {c} {d} {e} {f} {g} {h} p q r s =
    ap (λ (z : Bool). z && b && c && d) p ∙ ap (λ (z : Bool). e && z && c && d) q ∙ ap (λ (z : Bool). e && f && z && d) r ∙ ap (λ (z : Bool). e && f && g && z) s

-- the coordinate that stays is shifted by u, the other by v
inside_by : (u v : Float) (s s' : Span) (corner corner' far far' side side' far_side far_side' : Float)
    → Less u s.fixed s'.fixed → Less v s.low s'.low → Less v s.high s'.high → Less u corner corner' → Less u far far' → Less v side side' → Less v far_side far_side'
    → inside s' corner' far' side' far_side' ≡ inside s corner far side far_side
inside_by u v s s' corner corner' far far' side side' far_side far_side' F L H A B C D =
    four (lt_by u corner corner' s.fixed s'.fixed A F) (lt_by u s.fixed s'.fixed far far' F B) (lt_by v s.low s'.low far_side far_side' L D) (lt_by v side side' s.high s'.high C H)

pub record LessPoint (o p p' : Point) : Type 0 where
  pub x : Less o.x p.x p'.x
  pub y : Less o.y p.y p'.y

pub record LessNode (o : Point) (n n' : Node) : Type 0 where
  pub corner : LessPoint o n.corner n'.corner
  pub right : Less o.x (far_x n) (far_x n')
  pub bottom : Less o.y (far_y n) (far_y n')

slanted_by : (o a a' b b' : Point) → LessPoint o a a' → LessPoint o b b' → slanted a' b' ≡ slanted a b
slanted_by o a a' b b' A B =
    ap (λ (z : Bool). not z && not (eq a'.x b'.x)) (eq_by o.y a.y a'.y b.y b'.y A.y B.y)
    ∙ ap (λ (z : Bool). not (eq a.y b.y) && not z) (eq_by o.x a.x a'.x b.x b'.x A.x B.x)

passes_by : (o a a' b b' : Point) (n n' : Node) → LessPoint o a a' → LessPoint o b b' → LessNode o n n' → passes_inside a' b' n' ≡ passes_inside a b n
unfolding passes_inside
passes_by o a a' b b' n n' A B N =
    three (eq_by o.y a.y a'.y b.y b'.y A.y B.y)
    (inside_by o.y o.x (across a b) (across a' b') n.corner.y n'.corner.y (far_y n) (far_y n') n.corner.x n'.corner.x (far_x n) (far_x n')
    A.y (least_by o.x a.x a'.x b.x b'.x A.x B.x) (greatest_by o.x a.x a'.x b.x b'.x A.x B.x) N.corner.y N.bottom N.corner.x N.right)
    (inside_by o.x o.y (upright a b) (upright a' b') n.corner.x n'.corner.x (far_x n) (far_x n') n.corner.y n'.corner.y (far_y n) (far_y n')
    A.x (least_by o.y a.y a'.y b.y b'.y A.y B.y) (greatest_by o.y a.y a'.y b.y b'.y A.y B.y) N.corner.x N.right N.corner.y N.bottom)
  where
    three : {s t a b c d : Bool} → s ≡ t → a ≡ b → c ≡ d → cond s a c ≡ cond t b d
    three {s} {t} {a} {b} {c} {d} e f g = ap (λ (z : Bool). cond z a c) e ∙ ap (λ (z : Bool). cond t z c) f ∙ ap (λ (z : Bool). cond t b z) g

-- "enters" is the same question before and after
pub enters_by : (o a a' b b' : Point) (n n' : Node) → LessPoint o a a' → LessPoint o b b' → LessNode o n n' → enters a' b' n' ≡ enters a b n
enters_by o a a' b b' n n' A B N = ap (λ (z : Bool). z || passes_inside a' b' n') (slanted_by o a a' b b' A B) ∙ ap (λ (z : Bool). slanted a b || z) (passes_by o a a' b b' n n' A B N)

-- ---- a route and the nodes of a board
abbrev pub FairPoint : Point → Point → Type 0
FairPoint o p = LessPoint o p (shifted o p)

abbrev pub FairNode : Point → PlacedNode → Type 0
FairNode o n = LessNode o n.body (shifted_node o n).body

module _ (o : Point) (b : Board) (routes : List Route) (points : Every (Every (FairPoint o)) routes) (nodes : Every (FairNode o) b.nodes) where
  out_by : (edge : ℕ) (run : Segment) → FairPoint o run.start → FairPoint o run.end → StaysOut b edge run → StaysOut (with_nodes b (map (shifted_node o) b.nodes)) edge (shifted_segment o run)
  out_by edge run A B h = record {
    straight = slanted_by o run.start (shifted o run.start) run.end (shifted o run.end) A B ∙ h.straight;
    foreign = λ j l s t.
        let k : j < length b.nodes = omega (arith, length-map b.nodes (shifted_node o)) in
        let n = get_or b.nodes j no_node in
        ap (λ (z : PlacedNode). enters (shifted o run.start) (shifted o run.end) z.body) (at_map (shifted_node o) b.nodes j no_node no_node k)
        ∙ enters_by o run.start (shifted o run.start) run.end (shifted o run.end) n.body (shifted_node o n).body A B (every_at (FairNode o) b.nodes no_node nodes j k)
        ∙ h.foreign j k s t;
  }

  pub shift_out : MembersOut b routes → MembersOut (with_nodes b (map (shifted_node o) b.nodes)) (map (map (shifted o)) routes)
  shift_out h u v m n run r =
      let c = came o routes m.edge run r in
      let e = run_every (FairPoint o) routes points m.edge c.first c.listed in
      subst (λ (w : Segment). StaysOut (with_nodes b (map (shifted_node o) b.nodes)) m.edge w) (sym c.is) (out_by m.edge c.first e.0 e.1 (h u v m n c.first c.listed))
