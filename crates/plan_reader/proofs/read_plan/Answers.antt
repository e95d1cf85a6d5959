-- `plan_reader::read_plan` meets its contract: the plan behind a length that fits. Assumes nothing.
use Rattle.std.proofs.Common.{sym, rules}
use Rattle.std.proofs.lemmas.Result.{err_from_is_err_and}
use Rattle.plan_reader.specs.Reading.{told_plan}
use Rattle.plan_reader.proofs.Taken as laws
use Rattle.plan_reader.proofs.read_plan.Goals as goal

-- Here and below, what `fits` says is searched for, so that an edit of it is refused at the fact that does not hold.
pub returns-then-not-fits : goal.returns-then-not-fits
unfolding told_plan
returns-then-not-fits c =
    let a = c.args in
    sym (laws.plan_17 a.grid a.n a.grant a.s.now _ _ (sym c.in-Ok.ensures) c.if-size-rest.false _ _ _ c.in-Ok-read_body.ensures _ c.is_empty.ensures (search rules))

pub returns-in_err-ok_or : goal.returns-in_err-ok_or
unfolding told_plan
returns-in_err-ok_or c =
    let a = c.args in
    let p = err_from_is_err_and c.from_residual.result c.from_residual.ensures.1 in
    rw (p.1, p.2)
    (sym (laws.plan_18 a.grid a.n a.grant a.s.now _ _ (sym c.in-Ok.ensures) c.if-size-rest.false _ _ _ c.in-Ok-read_body.ensures _ c.is_empty.ensures _ (search rules)
    c.in_err-ok_or.ensures.ok_part c.in_err-ok_or.ensures.value))

pub returns : goal.returns
unfolding told_plan
returns c =
    let a = c.args in
    sym (laws.plan_0 a.grid a.n a.grant a.s.now _ _ (sym c.in-Ok.ensures) c.if-size-rest.false _ _ _ c.in-Ok-read_body.ensures _ c.is_empty.ensures c.in_ok-ok_or.field-0 (search rules) c.in_ok-ok_or.ensures.ok_part)
