-- `component_settling::treat` meets its contract. Assumes nothing.
use Rattle.std.proofs.Common.{rules, tests, ◌∙◌, ◌<◌, length, get_or, drop}
use Rattle.plan.specs.Prepared.{plan_in}
use Rattle.plan.proofs.TableReads as rows
use Rattle.components.specs.Settled.{step_in, ranges_in}
use Rattle.components.proofs.Settles as laws
use Rattle.component_settling.proofs.treat.Goals as goal

pub returns : goal.returns
returns c =
    let a = c.args in
    let n = length a.layout.reaches.now in
    let i = c.group-inputs in
    let o = c.group-outputs in
    let is = c.as_slice.result.now in
    let os = c.as_slice-2.result.now in
    let hi : 0 < length is = search (rules, tests) in
    let ho : 0 < length os = search (rules, tests) in
    rw c.requires.as_many (λ b given k.
    laws.treat_both b given (ranges_in a.ranges.now) a.order.now (plan_in n a.p) (get_or is 0 0) (get_or os 0 0)
    (drop 1 is) (drop 1 os) is os i.result.extent o.result.extent (step_in n c.settle.result)
    (rows.rest_cons is 0 0 hi) (rows.rest_cons os 0 0 ho)
    (c.as_slice.ensures.value ∙ c.of_role-i.ensures.are) (c.as_slice-2.ensures.value ∙ c.of_role-o.ensures.are) i.ensures.far o.ensures.far
    (rw (i.ensures.lent, o.ensures.lent) at (c.settle.ensures b given (ranges_in a.ranges.now) k)))
