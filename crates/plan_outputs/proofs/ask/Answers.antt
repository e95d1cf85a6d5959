-- `plan_outputs::ask` meets its contract. Assumes nothing.
-- the code's divergence is the definition's
use mathlib.Core.Path.{◌≡◌, sym, ◌∙◌, ap}
use mathlib.Core.List.{List, map}
use lib.Ieee.{Float}
use Rattle.binary64.specs.Order.{greatest}
use Rattle.geometry.specs.Points.{Route}
use Rattle.board.specs.declared.Bundle.{Bundle}
use Rattle.board.specs.Board.{Board, window}
use Rattle.search.specs.Stretches.{routes}
use Rattle.plan.specs.declared.Bound.{Bound}
use Rattle.plan.specs.declared.Bound.TheVariants.{None, At}
use Rattle.plan.specs.Depths.{◌⊕◌, pitch_of, parting_pitch, members_in}
use Rattle.plan.specs.Bounds.{if_at, route_of}
use Rattle.plan.specs.Plan.{asked, divergence}
use Rattle.plan.specs.Over.{divergence_over, divergence_same}
use Rattle.plan.specs.Prepared.{Routed}
use Prim.Native.Nat.{ℕ}
use Rattle.plan_outputs.proofs.ask.Goals as goal

diverged : (b : Board) (given : List Route) (points : List Float) (starts counts : List ℕ) (u : Bundle) (pitch x : Float) (d : Bound) → pitch ≡ pitch_of b u → Routed b given points starts counts u
    → d ≡ divergence_over u.role pitch x None (routes points (window u.first u.count starts) (window u.first u.count counts)) → d ≡ divergence b given u x None (members_in b u)
diverged b given points starts counts u pitch x d p t e =
    e
    ∙ ap (divergence_over u.role pitch x None) t.routes_are
    ∙ ap (λ (z : Float). divergence_over u.role z x None (map (route_of b given) (members_in b u))) p
    ∙ divergence_same b given u x None (members_in b u)

asked-none : (b : Board) (given : List Route) (u : Bundle) (x d : Bound) (c : Float) → x ≡ At c → d ≡ divergence b given u c None (members_in b u) → d ≡ None → None ≡ asked b given u x
asked-none b given u x d c ex e n =
    sym (ap (asked b given u) ex ∙ ap (λ (z : Bound). if_at z None (λ y. At (greatest (c ⊕ parting_pitch b) (y ⊕ parting_pitch b)))) (sym e ∙ n))

asked-some : (b : Board) (given : List Route) (u : Bundle) (x d : Bound) (c y pitch m : Float) → x ≡ At c → d ≡ divergence b given u c None (members_in b u) → d ≡ At y → pitch ≡ pitch_of b u → m ≡ greatest (c ⊕ pitch) (y ⊕ pitch)
    → At m ≡ asked b given u x
asked-some b given u x d c y pitch m ex e n p em =
    ap At (em ∙ ap (λ (z : Float). greatest (c ⊕ z) (y ⊕ z)) p)
    ∙ sym (ap (asked b given u) ex ∙ ap (λ (z : Bound). if_at z None (λ y. At (greatest (c ⊕ parting_pitch b) (y ⊕ parting_pitch b)))) (sym e ∙ n))

pub returns-in-None-d : goal.returns-in-None-d
returns-in-None-d c =
    let a = c.args in
    let d = c.input_shared_trunk_divergence_x-d in
    λ b given p t.
    asked-none b given a.u a.x d.result c.in-At.c c.in-At.is (diverged b given a.routes.points.now a.routes.starts.now a.routes.counts.now a.u a.pitch c.in-At.c d.result p t d.ensures) c.in-None-d.is

pub returns-in-At-d : goal.returns-in-At-d
returns-in-At-d c =
    let a = c.args in
    let d = c.input_shared_trunk_divergence_x-d in
    λ b given p t.
    asked-some b given a.u a.x d.result c.in-At.c c.in-At-d.y a.pitch c.max.result c.in-At.is
    (diverged b given a.routes.points.now a.routes.starts.now a.routes.counts.now a.u a.pitch c.in-At.c d.result p t d.ensures) c.in-At-d.is p c.max.ensures
