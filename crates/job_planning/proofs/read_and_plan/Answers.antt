-- `job_planning::read_and_plan` meets its contract. Assumes nothing.
use Rattle.std.proofs.Common.{refl, rules}
use Rattle.plan_stage.specs.Entries.{plan_told}
use Rattle.job_planning.specs.PlanWrites.{PlanEnded}
use Rattle.job_planning.proofs.PlanPhases as laws
use Rattle.job_planning.proofs.read_and_plan.Goals as goal
use Rattle.job_planning.proofs.read_and_plan.Goals.{Joined-read_job, in-Ok, in-Err}

ended : (c : Joined-read_job) → PlanEnded c.args.plan.now c.match-read_job.plan c.match-read_job.ended (plan_told c.args.job.now)
ended c =
    elim c.match-read_job.branch [
      | in-Ok w ↦ rw (w.ended-is, w.plan-is, laws.read_planned w.in-Ok.j c.read_job.new.points c.args.job.now (rw w.in-Ok.is at c.read_job.ensures)) w.planned_of-ended.ensures
      | in-Err w ↦ rw (w.ended-is, w.plan-is) (laws.read_refused _ _ _ (rw w.in-Err.is at c.read_job.ensures), refl)
    ]

pub returns-in-Ok-ended : goal.returns-in-Ok-ended
returns-in-Ok-ended c = laws.written _ _ c.match-read_job.ended _ _ c.in-Ok-ended.is (ended (goal.at.returns-in-Ok-ended c).Joined-read_job)

-- The number's equation is searched for, so that an edit of the number is refused at the fact that does not hold.
pub returns-in-Err-ended : goal.returns-in-Err-ended
returns-in-Err-ended c =
    let w = c.write_notice.ensures in
    laws.notice_after _ _ c.match-read_job.ended _ _ c.in-Err-ended.is (ended (goal.at.returns-in-Err-ended c).Joined-read_job) _ _ _ w.bytes w.place (search rules)
