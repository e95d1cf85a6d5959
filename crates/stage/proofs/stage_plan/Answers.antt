-- `stage::stage_plan` meets its contract. Assumes nothing.
use native.Mathlib.Omega.{arith}
use Rattle.job_planning.proofs.PlanPhases as phases
use Rattle.job_planning.specs.PlanThere.{plan_there}
use Rattle.stage.proofs.stage_plan.Goals as goal

pub returns-then-plan-lt-PLAN_ROOM : goal.returns-then-plan-lt-PLAN_ROOM
returns-then-plan-lt-PLAN_ROOM c =
    let a = c.args in
    let p = phases.short_plan a.job.now a.plan.now c.if-plan-lt-PLAN_ROOM.true in
    record { buffer = p.0; count = p.1; there = plan_there a.job.now a.plan.now _ _ p.0 p.1 }

pub returns : goal.returns
returns c =
    let a = c.args in
    let p = phases.whole_plan a.job.now a.plan.now _ _ (omega (arith, c.if-plan-lt-PLAN_ROOM.false)) c.read_and_plan.ensures in
    record { buffer = p.0; count = p.1; there = plan_there a.job.now a.plan.now _ _ p.0 p.1 }
