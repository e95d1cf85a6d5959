-- `plan_outputs::required_output_collector_x` meets its contract. Assumes nothing.
use mathlib.Core.Path.{sym, ◌∙◌, ap}
use mathlib.Core.List.{map}
use Prim.Native.Nat.{ℕ}
use lib.ListN.{length, get_or, take}
use Rattle.board.specs.declared.Bundle.{Bundle}
use Rattle.plan.specs.Plan.{ranged_at, asked}
use Rattle.plan.specs.Prepared.{x_of, no_planned}
use Rattle.plan.proofs.TableReads as rows
use Rattle.plan.proofs.Agains as laws
use Rattle.plan_outputs.proofs.required_output_collector_x.Goals as goal
use Rattle.plan_outputs.proofs.required_output_collector_x.Goals.{Start}

pub loop-i-preserved : goal.loop-i-preserved
loop-i-preserved c =
    let a = c.args in
    let l = c.loop-i in
    let h = c.loop-i-test.true in
    let i : ℕ = get_or a.which.now l.i-index 0 in
    let g = c.requires.each l.i-index h in
    let f = c.ask-a in
    λ b given ranges t e.
    laws.required_turn b given ranges i _ _ (rows.rest_cons a.which.now l.i-index 0 h) (map x_of (take (length a.layout.reaches.now) a.p.rows)) l.r f.result c.further_of-r.result
    (f.ensures b given (t.each i g).pitch_is (t.each i g).routed
    ∙ ap (λ (z : Bundle). asked b given z (get_or a.p.rows i no_planned).x) (sym (e.same i g))
    ∙ ap (asked b given (ranged_at ranges i).bundle) (laws.x_at a.p.rows (length a.layout.reaches.now) i g))
    c.further_of-r.ensures
    ∙ l.invariant b given ranges t e

pub returns : goal.returns
returns c =
    let a = c.args in
    let l = c.loop-i in
    λ b given ranges t e.
    laws.required_end b given ranges (map x_of (take (length a.layout.reaches.now) a.p.rows)) l.r _ (rows.rest_none a.which.now l.i-index c.loop-i-test.false)
    ∙ l.invariant b given ranges t e
