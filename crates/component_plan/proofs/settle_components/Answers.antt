-- `component_plan::settle_components` meets its contract. Assumes nothing.
use Rattle.std.specs.Prelude.{length}
use Rattle.plan.specs.MemberColumns.{edges_of}
use Rattle.plan.specs.Prepared.{plan_in}
use Rattle.components.specs.Settled.{step_in}
use Rattle.component_plan.proofs.Joins as laws
use Rattle.component_plan.proofs.settle_components.Goals as goal

pub returns : goal.returns
returns c =
    let a = c.args in
    let t = a.ranges.now in
    let q = c.adjacency-a in
    let i = c.initial-p in
    λ b given k e.
    laws.settled_is b given t a.left.0 (plan_in (length t) i.result) (step_in (length t) c.components.result) i.ensures
    (c.components.ensures b given k (laws.tabled_near b given (edges_of a.members.now) t q.result.rows e (q.ensures b given)))
