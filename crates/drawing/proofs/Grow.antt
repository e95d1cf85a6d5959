-- How long routes become: at most two points more for each rewriting.
-- Assumes nothing.
use Rattle.std.specs.Prelude.{ℕ, zero, suc, ◌+◌, ◌*◌, ◌≤◌, ◌<◌, ◌≡◌, refl, List, [], ◌∷◌, Bool, true, false, cond, eqb, ltb, length, set, Float, Option, Some, None}
use Rattle.std.proofs.Common.{sym, ap, ◌∙◌, arith, eqb-true}
use Rattle.std.proofs.lemmas.Bool.{eqb-false}
use Rattle.geometry.specs.declared.Point.{Point}
use Rattle.geometry.specs.declared.Role.{Role}
use Rattle.geometry.specs.declared.Role.TheVariants.{Input, Output}
use Rattle.geometry.specs.Points.{Route}
use Rattle.route.proofs.Remade.{remade_length, remade_input_trunk, remade_output_trunk, remade_input_route, remade_output_route}
use Rattle.board.specs.declared.Member.{Member}
use Rattle.board.specs.Board.{Board}
use Rattle.plan.specs.Depths.{members_in, pitch_of}
use Rattle.drawing.specs.Build.{TapOn, Drawn, route_at}
use Rattle.drawing.specs.Rewrite.{rewritten, two_points, corridor_depth, rewrite_one, put_route, then_routes, rewrite_all}
use Rattle.drawing.specs.Sheet.{Turn, Progress, Outcome, going, after_turn, drawn_at, rewritten_by, turn, sheet_of, blank}
use Rattle.drawing.proofs.Assembly.{Turned, turned, turn_went}
use Rattle.drawing.proofs.CleanChecks.{then_some}
use Rattle.drawing.specs.Grow.{times, rewritings}

-- ---- one route

abbrev pub Bounded : Option Route → ℕ → Type 0
Bounded o n = (q : Route) → o ≡ Some q → length q ≤ n

bounded_none : (n : ℕ) → Bounded None n
bounded_none n q e = let z : ◌≡◌ {A = ℕ} 0 1 = cc in absurd (omega arith)

bounded_cond : (k : Bool) (o p : Option Route) (n : ℕ) → Bounded o n → Bounded p n → Bounded (cond k o p) n
bounded_cond true o p n f g = f
bounded_cond false o p n f g = g

rewritten_length : (inside : Bool) (role : Role) (pitch depth : Float) (tap : Point) (r : Route) → Bounded (rewritten inside role pitch depth tap r) (length r + 2)
unfolding rewritten
rewritten_length true Input pitch depth tap r q e = remade_length (remade_input_trunk r q tap pitch e)
rewritten_length true Output pitch depth tap r q e = remade_length (remade_output_trunk r q tap pitch e)
rewritten_length false Input pitch depth tap r q e = remade_length (remade_input_route r q tap depth e)
rewritten_length false Output pitch depth tap r q e = remade_length (remade_output_route r q tap depth e)

two_points_length : (o : Option Route) (n : ℕ) → Bounded o n → Bounded (two_points o) n
unfolding two_points
two_points_length None n h = h
two_points_length (Some r) n h = bounded_cond (ltb (length r) 2) None (Some r) n (bounded_none n) h

-- a rewriting adds at most two points
pub rewrite_length : (inside : Bool) (role : Role) (pitch offset : Float) (tap : Point) (m : Member) (r : Route) → Bounded (rewrite_one inside role pitch offset tap m r) (length r + 2)
unfolding rewrite_one
rewrite_length inside role pitch offset tap m r =
    let inner = rewritten inside role pitch (corridor_depth offset pitch m) tap r in
    bounded_cond (ltb (length r) 2) None (two_points inner) (length r + 2) (bounded_none (length r + 2))
    (two_points_length inner (length r + 2) (rewritten_length inside role pitch (corridor_depth offset pitch m) tap r))

-- ---- all routes

set_same_length : (rs : List Route) (j : ℕ) (r : Route) (n : ℕ) → length r ≤ length (route_at rs j) + n → length (route_at (set rs j r) j) ≤ length (route_at rs j) + n
set_same_length [] j r n h = omega arith
set_same_length (q ∷ qs) zero r n h = h
set_same_length (q ∷ qs) (suc j) r n h = set_same_length qs j r n h

pub set_other : (rs : List Route) (j i : ℕ) (r : Route) → (j ≡ i → ⊥) → route_at (set rs j r) i ≡ route_at rs i
set_other [] j i r h = refl
set_other (q ∷ qs) zero zero r h = absurd (h refl)
set_other (q ∷ qs) zero (suc i) r h = refl
set_other (q ∷ qs) (suc j) zero r h = refl
set_other (q ∷ qs) (suc j) (suc i) r h = set_other qs j i r (λ e. h (ap suc e))

set_length : (rs : List Route) (j i : ℕ) (r : Route) (k : Bool) → eqb j i ≡ k → length r ≤ length (route_at rs j) + 2 → length (route_at (set rs j r) i) ≤ length (route_at rs i) + 2 * cond k 1 0
set_length rs j i r true e h = let same : j ≡ i = eqb-true j i e in rw (sym same) (set_same_length rs j r 2 h)
set_length rs j i r false e h = rw (set_other rs j i r (eqb-false j i e)) (omega arith)

put_length : (o : Option Route) (j i : ℕ) (rs qs : List Route) → Bounded o (length (route_at rs j) + 2) → put_route o j rs ≡ Some qs → length (route_at qs i) ≤ length (route_at rs i) + 2 * cond (eqb j i) 1 0
unfolding put_route
put_length None j i rs qs h e = let z : ◌≡◌ {A = ℕ} 0 1 = cc in absurd (omega arith)
put_length (Some r) j i rs qs h e = let same : set rs j r ≡ qs = cc in rw (sym same) (set_length rs j i r (eqb j i) refl (h r refl))

pub all_length : (inside : Bool) (role : Role) (pitch offset : Float) (ts : List TapOn) (ms : List Member) (rs qs : List Route) (i : ℕ) → rewrite_all inside role pitch offset ts ms rs ≡ Some qs → length (route_at qs i) ≤ length (route_at rs i) + 2 * times ms i
unfolding rewrite_all times
all_length inside role pitch offset [] ms rs qs i e = let same : rs ≡ qs = cc in rw (sym same) (omega arith)
all_length inside role pitch offset (t ∷ ts) [] rs qs i e = let same : rs ≡ qs = cc in rw (sym same) (omega arith)
all_length inside role pitch offset (t ∷ ts) (m ∷ ms) rs qs i e =
    let one = rewrite_one inside role pitch offset t.place m (route_at rs m.edge) in
    let s = then_some (put_route one m.edge rs) (λ ss. rewrite_all inside role pitch offset ts ms ss) qs e in
    let p = put_length one m.edge i rs s.0 (rewrite_length inside role pitch offset t.place m (route_at rs m.edge)) s.1 in
    let q = all_length inside role pitch offset ts ms s.0 qs i s.2 in
    omega arith

-- at most two points more for each rewriting
pub sheet_length : (b : Board) (allow : Bool) (ts : List Turn) (s u : Progress) (i : ℕ) → sheet_of b allow ts s ≡ going u → length (route_at u.routes i) ≤ length (route_at s.routes i) + 2 * rewritings b ts i
unfolding sheet_of rewritings
sheet_length b allow [] s u i e = let same : s ≡ u = cc in rw (sym same) (omega arith)
sheet_length b allow (t ∷ ts) s u i e =
    let r = turn_went (turn b allow t s) (λ x. sheet_of b allow ts x) u e in
    let w : Turned b allow t s r.0 = turned b allow t s r.0 r.1 in
    let d : Drawn = drawn_at b t s in
    let p = all_length d.interior t.bundle.role (pitch_of b t.bundle) t.offset d.taps (members_in b t.bundle) s.routes r.0.routes i w.rewritten in
    let q = sheet_length b allow ts r.0 u i r.2 in
    omega arith
