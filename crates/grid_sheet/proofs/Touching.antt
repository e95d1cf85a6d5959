-- The tests on segments of binary64 on numbers of the grid are those in whole numbers.
-- Assumes nothing.
use Rattle.std.specs.Prelude.{◌≡◌, refl, Bool, true, false, not, ◌&&◌, ◌||◌, cond, ℤ, pos, nat_abs, ◌+ℤ◌, ◌-ℤ◌, Float, Option, Some, None}
use Rattle.std.proofs.Common.{sym, ap, ◌∙◌, arith}
use Rattle.std.specs.Bool.{beq}
use Rattle.std.specs.Float.{binary64}
use Rattle.std.specs.Float.Ieee.{lt, le, eq, add}
use Rattle.binary64.specs.Order.{greatest, magnitude, near}
use Rattle.geometry.specs.declared.Role.{Role}
use Rattle.geometry.specs.declared.Span.{Span}
use Rattle.geometry.specs.declared.Meet.{Meet}
use Rattle.geometry.specs.declared.Meet.TheVariants as M
use Rattle.geometry.specs.declared.Contact.{Contact}
use Rattle.geometry.specs.declared.Contact.TheVariants as kinds
use Rattle.geometry.specs.Contact as C
use Rattle.geometry.specs.Kind as F
use Rattle.geometry.specs.Spacing as P
use Rattle.geometry.specs.Enters as E
use Rattle.geometry.specs.Line as L
use Rattle.geometry.specs.Stretch as G
use Rattle.grid_plan.specs.Board as Z
use Rattle.grid_plan.specs.Search as S
use Rattle.grid_plan.proofs.Sized.{pick_smaller, pick_larger}
use Rattle.grid_plan.specs.Image.{point, segment, node}
use Rattle.grid_plan.proofs.Searching.{stretch_on, holds_on}
use Rattle.grid_sheet.specs.Touch as Y
use Rattle.grid_sheet.specs.Image.{tap}
use Rattle.grid.specs.On.{on, below, at_most, same, smaller, larger}
use Rattle.grid.proofs.OnLaws.{on_zero}
use Rattle.grid.proofs.Operations.{lt_on, le_on, eq_on, least_on, greatest_on, add_on, sub_on, magnitude_on}
use Rattle.grid.proofs.SamePlace.{near_on}
use Rattle.grid_plan.specs.Sizes.{Fit}
use Rattle.grid_sheet.specs.Sizes.{OfTap, Lies, Sides, LiesOn, Tame}
use Rattle.grid_sheet.specs.InnerImage.{span, meeting}

pub matches_on : (p q : Z.Point) → Lies p → Lies q → C.matches (point p) (point q) ≡ Y.matches p q
matches_on p q h k = ap (λ (t : Bool). t && near (on p.y) (on q.y)) (near_on p.x q.x (let a = h.0 in let b = k.0 in omega arith)) ∙ ap (λ (t : Bool). same p.x q.x && t) (near_on p.y q.y (let a = h.1 in let b = k.1 in omega arith))

pub coincide_on : (a b : Z.Point) → C.coincide (point a) (point b) ≡ Y.matches a b
coincide_on a b = ap (λ (t : Bool). t && eq (on a.y) (on b.y)) (eq_on a.x b.x) ∙ ap (λ (t : Bool). same a.x b.x && t) (eq_on a.y b.y)

pub level_on : (a b : Z.Point) → C.level (point a) (point b) ≡ Y.level a b
level_on a b = eq_on a.y b.y

pub slanted_on : (a b : Z.Point) → C.slanted (point a) (point b) ≡ Y.slanted a b
slanted_on a b = ap (λ (t : Bool). not t && not (eq (on a.x) (on b.x))) (level_on a b) ∙ ap (λ (t : Bool). not (Y.level a b) && not t) (eq_on a.x b.x)

-- ---- where two meet
pub across_on : (a b : Z.Point) → C.across (point a) (point b) ≡ span (Y.across a b)
across_on a b = ap (λ (l : Float). record { fixed = on a.y; low = l; high = greatest (on a.x) (on b.x) }) (least_on a.x b.x) ∙ ap (λ (h : Float). record { fixed = on a.y; low = on (smaller a.x b.x); high = h }) (greatest_on a.x b.x)

pub upright_on : (a b : Z.Point) → C.upright (point a) (point b) ≡ span (Y.upright a b)
upright_on a b = ap (λ (l : Float). record { fixed = on a.x; low = l; high = greatest (on a.y) (on b.y) }) (least_on a.y b.y) ∙ ap (λ (h : Float). record { fixed = on a.x; low = on (smaller a.y b.y); high = h }) (greatest_on a.y b.y)

place_on : (l : Bool) (f m : ℤ) → C.place l (on f) (on m) ≡ point (Y.place l f m)
place_on true f m = refl
place_on false f m = refl

in_line_on : (l : Bool) (s t : Y.Span) → C.in_line l (span s) (span t) ≡ meeting (Y.in_line l s t)
in_line_on l s t =
    rw (eq_on s.fixed t.fixed, lt_on t.high s.low, lt_on s.high t.low, greatest_on s.low t.low, least_on s.high t.high, lt_on (larger s.low t.low) (smaller s.high t.high), place_on l s.fixed (larger s.low t.low))
    (go (not (same s.fixed t.fixed) || below t.high s.low || below s.high t.low) (below (larger s.low t.low) (smaller s.high t.high)) (Y.place l s.fixed (larger s.low t.low)))
  where
    go : (x y : Bool) (p : Z.Point) → cond x M.Apart (cond y M.Overlap (M.One (point p))) ≡ meeting (cond x Y.Apart (cond y Y.Overlap (Y.One p)))
    go true y p = refl
    go false true p = refl
    go false false p = refl

crossing_on : (h v : Y.Span) → C.crossing (span h) (span v) ≡ meeting (Y.crossing h v)
crossing_on h v =
    rw (le_on h.low v.fixed, le_on v.fixed h.high, le_on v.low h.fixed, le_on h.fixed v.high)
    (go (at_most h.low v.fixed && at_most v.fixed h.high && at_most v.low h.fixed && at_most h.fixed v.high))
  where
    go : (t : Bool) → cond t (M.One (record { x = on v.fixed; y = on h.fixed })) M.Apart ≡ meeting (cond t (Y.One (record { x = v.fixed; y = h.fixed })) Y.Apart)
    go true = refl
    go false = refl

four : (s t : Bool) (a b c d : Y.Meet) → cond s (cond t (meeting a) (meeting b)) (cond t (meeting c) (meeting d)) ≡ meeting (cond s (cond t a b) (cond t c d))
four true true a b c d = refl
four true false a b c d = refl
four false true a b c d = refl
four false false a b c d = refl

pub meet_on : (bus : Z.Segment) (a b : Z.Point) → C.meet (segment bus) (point a) (point b) ≡ meeting (Y.meet bus a b)
unfolding C.meet Y.meet
meet_on bus a b =
    let s = bus.start in
    let e = bus.end in
    ap (λ (t : Bool). cond t (cond (C.level (point a) (point b)) (C.in_line true (C.across (point s) (point e)) (C.across (point a) (point b))) (C.crossing (C.across (point s) (point e)) (C.upright (point a) (point b)))) (cond (C.level (point a) (point b)) (C.crossing (C.across (point a) (point b)) (C.upright (point s) (point e))) (C.in_line false (C.upright (point s) (point e)) (C.upright (point a) (point b))))) (level_on s e)
    ∙ ap (λ (t : Bool). cond (Y.level s e) (cond t (C.in_line true (C.across (point s) (point e)) (C.across (point a) (point b))) (C.crossing (C.across (point s) (point e)) (C.upright (point a) (point b)))) (cond t (C.crossing (C.across (point a) (point b)) (C.upright (point s) (point e))) (C.in_line false (C.upright (point s) (point e)) (C.upright (point a) (point b))))) (level_on a b)
    ∙ ap (λ (k : Span). cond (Y.level s e) (cond (Y.level a b) (C.in_line true k (C.across (point a) (point b))) (C.crossing k (C.upright (point a) (point b)))) (cond (Y.level a b) (C.crossing (C.across (point a) (point b)) (C.upright (point s) (point e))) (C.in_line false (C.upright (point s) (point e)) (C.upright (point a) (point b))))) (across_on s e)
    ∙ ap (λ (k : Span). cond (Y.level s e) (cond (Y.level a b) (C.in_line true (span (Y.across s e)) k) (C.crossing (span (Y.across s e)) (C.upright (point a) (point b)))) (cond (Y.level a b) (C.crossing k (C.upright (point s) (point e))) (C.in_line false (C.upright (point s) (point e)) (C.upright (point a) (point b))))) (across_on a b)
    ∙ ap (λ (k : Span). cond (Y.level s e) (cond (Y.level a b) (C.in_line true (span (Y.across s e)) (span (Y.across a b))) (C.crossing (span (Y.across s e)) k)) (cond (Y.level a b) (C.crossing (span (Y.across a b)) (C.upright (point s) (point e))) (C.in_line false (C.upright (point s) (point e)) k))) (upright_on a b)
    ∙ ap (λ (k : Span). cond (Y.level s e) (cond (Y.level a b) (C.in_line true (span (Y.across s e)) (span (Y.across a b))) (C.crossing (span (Y.across s e)) (span (Y.upright a b)))) (cond (Y.level a b) (C.crossing (span (Y.across a b)) k) (C.in_line false k (span (Y.upright a b))))) (upright_on s e)
    ∙ rw (in_line_on true (Y.across s e) (Y.across a b), crossing_on (Y.across s e) (Y.upright a b), crossing_on (Y.across a b) (Y.upright s e), in_line_on false (Y.upright s e) (Y.upright a b))
    (four (Y.level s e) (Y.level a b) (Y.in_line true (Y.across s e) (Y.across a b)) (Y.crossing (Y.across s e) (Y.upright a b)) (Y.crossing (Y.across a b) (Y.upright s e)) (Y.in_line false (Y.upright s e) (Y.upright a b)))

-- what is met lies within
abbrev OfMeet : Y.Meet → Type 0
OfMeet Y.Apart = Unit {0}
OfMeet Y.Overlap = Unit {0}
OfMeet (Y.One p) = Lies p

abbrev OfSpan : Y.Span → Type 0
OfSpan s = Tame s.fixed × Tame s.low × Tame s.high

across_of : (a b : Z.Point) → Lies a → Lies b → OfSpan (Y.across a b)
across_of a b h k = (h.1, pick_smaller Tame a.x b.x h.0 k.0, pick_larger Tame a.x b.x h.0 k.0)

upright_of : (a b : Z.Point) → Lies a → Lies b → OfSpan (Y.upright a b)
upright_of a b h k = (h.0, pick_smaller Tame a.y b.y h.1 k.1, pick_larger Tame a.y b.y h.1 k.1)

in_line_of : (l : Bool) (s t : Y.Span) → OfSpan s → OfSpan t → OfMeet (Y.in_line l s t)
in_line_of l s t h k = go (not (same s.fixed t.fixed) || below t.high s.low || below s.high t.low) (below (larger s.low t.low) (smaller s.high t.high)) l
  where
    m : Tame (larger s.low t.low)
    m = pick_larger Tame s.low t.low h.1 k.1

    go : (x y l : Bool) → OfMeet (cond x Y.Apart (cond y Y.Overlap (Y.One (Y.place l s.fixed (larger s.low t.low)))))
    go true y l = tt
    go false true l = tt
    go false false true = (m, h.0)
    go false false false = (h.0, m)

crossing_of : (h v : Y.Span) → OfSpan h → OfSpan v → OfMeet (Y.crossing h v)
crossing_of h v p q = go (at_most h.low v.fixed && at_most v.fixed h.high && at_most v.low h.fixed && at_most h.fixed v.high)
  where
    go : (t : Bool) → OfMeet (cond t (Y.One (record { x = v.fixed; y = h.fixed })) Y.Apart)
    go true = (q.0, p.0)
    go false = tt

four_of : (s t : Bool) (a b c d : Y.Meet) → OfMeet a → OfMeet b → OfMeet c → OfMeet d → OfMeet (cond s (cond t a b) (cond t c d))
four_of true true a b c d p q r u = p
four_of true false a b c d p q r u = q
four_of false true a b c d p q r u = r
four_of false false a b c d p q r u = u

meet_of : (bus : Z.Segment) (a b : Z.Point) → LiesOn bus → Lies a → Lies b → OfMeet (Y.meet bus a b)
unfolding Y.meet
meet_of bus a b h p q =
    let s = bus.start in
    let e = bus.end in
    four_of (Y.level s e) (Y.level a b) (Y.in_line true (Y.across s e) (Y.across a b)) (Y.crossing (Y.across s e) (Y.upright a b)) (Y.crossing (Y.across a b) (Y.upright s e)) (Y.in_line false (Y.upright s e) (Y.upright a b))
    (in_line_of true (Y.across s e) (Y.across a b) (across_of s e h.0 h.1) (across_of a b p q)) (crossing_of (Y.across s e) (Y.upright a b) (across_of s e h.0 h.1) (upright_of a b p q))
    (crossing_of (Y.across a b) (Y.upright s e) (across_of a b p q) (upright_of s e h.0 h.1)) (in_line_of false (Y.upright s e) (Y.upright a b) (upright_of s e h.0 h.1) (upright_of a b p q))

-- ---- the kind of contact
at_tap_on : (t : Option Z.Point) (p : Z.Point) → OfTap t → Lies p → C.at_tap (tap t) (point p) ≡ Y.at_tap t p
at_tap_on None p h k = refl
at_tap_on (Some q) p h k = matches_on q p h k

perpendicular_on : (bus : Z.Segment) (a b : Z.Point) → C.perpendicular (segment bus) (point a) (point b) ≡ Y.perpendicular bus a b
perpendicular_on bus a b = ap (λ (t : Bool). not (beq t (C.level (point a) (point b)))) (level_on bus.start bus.end) ∙ ap (λ (t : Bool). not (beq (Y.level bus.start bus.end) t)) (level_on a b)

kind_of_on : (bus : Z.Segment) (a b : Z.Point) (t : Option Z.Point) (m : Y.Meet) → LiesOn bus → Lies a → Lies b → OfTap t → OfMeet m → F.kind_of (segment bus) (point a) (point b) (tap t) (meeting m) ≡ Y.kind_of bus a b t m
kind_of_on bus a b t Y.Apart h p q k l = refl
kind_of_on bus a b t Y.Overlap h p q k l = refl
kind_of_on bus a b t (Y.One o) h p q k l =
    rw (perpendicular_on bus a b, matches_on bus.start o h.0 l, matches_on bus.end o h.1 l, matches_on a o p l, matches_on b o q l, at_tap_on t o k l)

pub kind_on : (bus : Z.Segment) (a b : Z.Point) (t : Option Z.Point) → LiesOn bus → Lies a → Lies b → OfTap t → F.kind (segment bus) (point a) (point b) (tap t) ≡ Y.kind bus a b t
unfolding F.kind Y.kind
kind_on bus a b t h p q k =
    ap (λ (w : Bool). cond w kinds.Apart (cond (C.slanted (point bus.start) (point bus.end) || C.slanted (point a) (point b)) kinds.Slanted (F.kind_of (segment bus) (point a) (point b) (tap t) (C.meet (segment bus) (point a) (point b))))) (coincide_on a b)
    ∙ ap (λ (w : Bool). cond (Y.matches a b) kinds.Apart (cond (w || C.slanted (point a) (point b)) kinds.Slanted (F.kind_of (segment bus) (point a) (point b) (tap t) (C.meet (segment bus) (point a) (point b))))) (slanted_on bus.start bus.end)
    ∙ ap (λ (w : Bool). cond (Y.matches a b) kinds.Apart (cond (Y.slanted bus.start bus.end || w) kinds.Slanted (F.kind_of (segment bus) (point a) (point b) (tap t) (C.meet (segment bus) (point a) (point b))))) (slanted_on a b)
    ∙ ap (λ (w : Meet). cond (Y.matches a b) kinds.Apart (cond (Y.slanted bus.start bus.end || Y.slanted a b) kinds.Slanted (F.kind_of (segment bus) (point a) (point b) (tap t) w))) (meet_on bus a b)
    ∙ ap (λ (w : Contact). cond (Y.matches a b) kinds.Apart (cond (Y.slanted bus.start bus.end || Y.slanted a b) kinds.Slanted w)) (kind_of_on bus a b t (Y.meet bus a b) h p q k (meet_of bus a b h p q))

-- ---- spacing
overlap_on : (a b c d : ℤ) → P.overlap_positive (on a) (on b) (on c) (on d) ≡ Y.overlap_positive a b c d
overlap_on a b c d = rw (least_on a b, greatest_on c d, least_on c d, greatest_on a b, lt_on (smaller a b) (larger c d), lt_on (smaller c d) (larger a b))

closer_on : (l r s : ℤ) → Tame l → Tame r → P.closer (on l) (on r) (on s) ≡ Y.closer l r s
closer_on l r s h k = ap (λ (z : Float). lt (magnitude z) (on s)) (sub_on l r (omega arith)) ∙ ap (λ (z : Float). lt z (on s)) (magnitude_on (l -ℤ r)) ∙ lt_on (pos (nat_abs (l -ℤ r))) s

pub too_close_on : (l r : Z.Segment) (s : ℤ) → LiesOn l → LiesOn r → P.too_close (segment l) (segment r) (on s) ≡ Y.too_close l r s
unfolding P.too_close Y.too_close
too_close_on l r s h k =
    ap (λ (z : Float). cond (le (on s) z) false (cond (not (beq (C.level (point l.start) (point l.end)) (C.level (point r.start) (point r.end)))) false (cond (C.level (point l.start) (point l.end)) (P.across_too_close (segment l) (segment r) (on s)) (P.upright_too_close (segment l) (segment r) (on s))))) (sym on_zero)
    ∙ ap (λ (z : Bool). cond z false (cond (not (beq (C.level (point l.start) (point l.end)) (C.level (point r.start) (point r.end)))) false (cond (C.level (point l.start) (point l.end)) (P.across_too_close (segment l) (segment r) (on s)) (P.upright_too_close (segment l) (segment r) (on s))))) (le_on s (pos 0))
    ∙ ap (λ (z : Bool). cond (at_most s (pos 0)) false (cond (not (beq z (C.level (point r.start) (point r.end)))) false (cond z (P.across_too_close (segment l) (segment r) (on s)) (P.upright_too_close (segment l) (segment r) (on s))))) (level_on l.start l.end)
    ∙ ap (λ (z : Bool). cond (at_most s (pos 0)) false (cond (not (beq (Y.level l.start l.end) z)) false (cond (Y.level l.start l.end) (P.across_too_close (segment l) (segment r) (on s)) (P.upright_too_close (segment l) (segment r) (on s))))) (level_on r.start r.end)
    ∙ ap (λ (z : Bool). cond (at_most s (pos 0)) false (cond (not (beq (Y.level l.start l.end) (Y.level r.start r.end))) false (cond (Y.level l.start l.end) z (P.upright_too_close (segment l) (segment r) (on s)))))
    (ap (λ (w : Bool). w && P.closer (on l.start.y) (on r.start.y) (on s)) (overlap_on l.start.x l.end.x r.start.x r.end.x) ∙ ap (λ (w : Bool). Y.overlap_positive l.start.x l.end.x r.start.x r.end.x && w) (closer_on l.start.y r.start.y s h.0.1 k.0.1))
    ∙ ap (λ (z : Bool). cond (at_most s (pos 0)) false (cond (not (beq (Y.level l.start l.end) (Y.level r.start r.end))) false (cond (Y.level l.start l.end) (Y.across_too_close l r s) z)))
    (ap (λ (w : Bool). w && P.closer (on l.start.x) (on r.start.x) (on s)) (overlap_on l.start.y l.end.y r.start.y r.end.y) ∙ ap (λ (w : Bool). Y.overlap_positive l.start.y l.end.y r.start.y r.end.y && w) (closer_on l.start.x r.start.x s h.0.0 k.0.0))

-- ---- entering a node
inside_on : (s : Y.Span) (a b c d : ℤ) → E.inside (span s) (on a) (on b) (on c) (on d) ≡ Y.inside s a b c d
inside_on s a b c d = rw (lt_on a s.fixed, lt_on s.fixed b, lt_on s.low d, lt_on c s.high)

pub passes_on : (a b : Z.Point) (n : Z.Node) → Sides n → E.passes_inside (point a) (point b) (node n) ≡ Y.passes_inside a b n
unfolding E.passes_inside Y.passes_inside
passes_on a b n h =
    ap (λ (z : Float). test (C.level (point a) (point b)) (C.across (point a) (point b)) (C.upright (point a) (point b)) z (add binary64 (on n.corner.y) (on n.height))) (add_on n.corner.x n.width h.0)
    ∙ ap (λ (z : Float). test (C.level (point a) (point b)) (C.across (point a) (point b)) (C.upright (point a) (point b)) (on (n.corner.x +ℤ n.width)) z) (add_on n.corner.y n.height h.1)
    ∙ ap (λ (z : Bool). test z (C.across (point a) (point b)) (C.upright (point a) (point b)) (on (n.corner.x +ℤ n.width)) (on (n.corner.y +ℤ n.height))) (level_on a b)
    ∙ ap (λ (z : Span). test (Y.level a b) z (C.upright (point a) (point b)) (on (n.corner.x +ℤ n.width)) (on (n.corner.y +ℤ n.height))) (across_on a b)
    ∙ ap (λ (z : Span). test (Y.level a b) (span (Y.across a b)) z (on (n.corner.x +ℤ n.width)) (on (n.corner.y +ℤ n.height))) (upright_on a b)
    ∙ ap (λ (z : Bool). cond (Y.level a b) z (E.inside (span (Y.upright a b)) (on n.corner.x) (on (n.corner.x +ℤ n.width)) (on n.corner.y) (on (n.corner.y +ℤ n.height)))) (inside_on (Y.across a b) n.corner.y (n.corner.y +ℤ n.height) n.corner.x (n.corner.x +ℤ n.width))
    ∙ ap (λ (z : Bool). cond (Y.level a b) (Y.inside (Y.across a b) n.corner.y (n.corner.y +ℤ n.height) n.corner.x (n.corner.x +ℤ n.width)) z) (inside_on (Y.upright a b) n.corner.x (n.corner.x +ℤ n.width) n.corner.y (n.corner.y +ℤ n.height))
  where
    test : Bool → Span → Span → Float → Float → Bool
    test l s u fx fy = cond l (E.inside s (on n.corner.y) fy (on n.corner.x) fx) (E.inside u (on n.corner.x) fx (on n.corner.y) fy)

-- ---- where a vertical line meets a run
pub on_line_on : (prefer_end : Bool) (x : ℤ) (a b : Z.Point) → L.on_line prefer_end (on x) (point a) (point b) ≡ tap (Y.on_line prefer_end x a b)
on_line_on prefer_end x a b =
    rw (least_on a.x b.x, greatest_on a.x b.x, eq_on a.y b.y, le_on (smaller a.x b.x) x, le_on x (larger a.x b.x), eq_on a.x x, eq_on b.x x)
    (go (Y.on_level x a b) (Y.on_upright x a b) prefer_end)
  where
    go : (s t e : Bool) → cond s (Some (record { x = on x; y = on a.y })) (cond t (cond e (Some (point b)) (Some (point a))) None) ≡ tap (cond s (Some (record { x = x; y = a.y })) (cond t (cond e (Some b) (Some a)) None))
    go true t e = refl
    go false true true = refl
    go false true false = refl
    go false false e = refl

pub on_trunk_on : (role : Role) (p x : ℤ) (a b : Z.Point) → Fit a.x p → Fit b.x p → G.on_trunk role (on p) (on x) (point a) (point b) ≡ tap (Y.on_trunk role p x a b)
on_trunk_on role p x a b h k =
    ap (λ (s : Option (Float × Float)). cond (G.holds (on x) s) (Some (record { x = on x; y = on a.y })) None) (stretch_on role p a b h k)
    ∙ ap (λ (t : Bool). cond t (Some (record { x = on x; y = on a.y })) None) (holds_on x (S.stretch role p a b))
    ∙ go (S.holds x (S.stretch role p a b))
  where
    go : (t : Bool) → cond t (Some (record { x = on x; y = on a.y })) None ≡ tap (cond t (Some (record { x = x; y = a.y })) None)
    go true = refl
    go false = refl
