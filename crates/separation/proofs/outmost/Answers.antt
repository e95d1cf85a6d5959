-- `separation::outmost` meets its contract. Assumes nothing.
use mathlib.Core.Path.{◌∙◌, ap}
use Prim.Native.Nat.{◌+◌}
use lib.ListN.{get_or, drop}
use lib.Ieee.{Float, nan}
use Rattle.plan.proofs.TableReads as rows
use Rattle.separation.specs.Taken.{outmost}
use Rattle.separation.proofs.TakenTurns as laws
use Rattle.separation.proofs.outmost.Goals as goal

pub loop-y-preserved : goal.loop-y-preserved
loop-y-preserved c =
    let a = c.args in
    let l = c.loop-y in
    ap (λ (z : Float). outmost a.role z (drop (l.y-index + 1) a.used.now)) c.outer-most.ensures ∙ laws.outmost_turn a.role l.most (get_or a.used.now l.y-index nan) _ _ (rows.rest_cons a.used.now l.y-index nan c.loop-y-test.true) ∙ l.invariant

pub returns : goal.returns
returns c =
    let a = c.args in
    let l = c.loop-y in
    laws.outmost_end a.role l.most _ (rows.rest_none a.used.now l.y-index c.loop-y-test.false) ∙ l.invariant
