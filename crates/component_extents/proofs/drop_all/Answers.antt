-- `component_extents::drop_all` meets its contract. Assumes nothing.
use mathlib.Core.Path.{◌∙◌, ap}
use mathlib.Core.List.{List, map}
use Prim.Native.Nat.{ℕ}
use lib.ListN.{get_or, take, length-set}
use Rattle.plan.specs.declared.Bound.{Bound}
use Rattle.plan.specs.declared.Bound.TheVariants.{None}
use Rattle.plan.specs.Prepared.{x_of}
use Rattle.plan.proofs.TableReads as rows
use Rattle.plan.proofs.Agains as agains
use Rattle.components.proofs.Turns as laws
use Rattle.component_extents.proofs.drop_all.Goals as goal

pub loop-i-preserved : goal.loop-i-preserved
loop-i-preserved c =
    let a = c.args in
    let l = c.loop-i in
    let h = c.loop-i-test.true in
    let i : ℕ = get_or a.which.now l.i-index 0 in record {
      rows_length = length-set l.rows i (record { x = None }) ∙ l.invariant.rows_length;
      xs_are = λ m e.
          laws.drop_turn i _ _ (map x_of (take m l.rows)) _ (rows.rest_cons a.which.now l.i-index 0 h) (agains.x_set l.rows m i None (e.each l.i-index h))
          ∙ l.invariant.xs_are m e;
    }

pub returns : goal.returns
returns c =
    let a = c.args in
    let l = c.loop-i in
    λ m e.
    ap (λ (z : List Bound). record { xs = z; left = a.p.left.0 })
    (laws.drop_end _ (map x_of (take m l.rows)) (rows.rest_none a.which.now l.i-index c.loop-i-test.false)
    ∙ l.invariant.xs_are m e)
