-- `stage::stage_draw` meets its contract. Assumes nothing.
use mathlib.Core.Path.{◌∙◌, ap}
use lib.ListN.{length}
use lib.Seq.{sets}
use Rattle.plan_stage.proofs.EveryPlan.{promised_in_from}
use Rattle.outputs.proofs.Front.{plan_given}
use Rattle.stage.proofs.Laws as laws
use Rattle.stage.proofs.stage_draw.Goals as goal

pub returns : goal.returns
returns c =
    let a = c.args in
    let e = c.stage_sheet.ensures in
    let w = plan_given a.job.now a.plan.now (length a.answer.now) _ _ in
    let b = e.answer ∙ ap (sets a.answer.now 0) w in
    let n = e.count ∙ ap length w in
    let f = promised_in_from a.job.now a.plan.now a.answer.now _ _ b n in
    record { buffer = b; count = n; demand = f.demand; in_answer = f.in_answer; on_grid = f.on_grid; in_answer_on_grid = f.in_answer_on_grid; crossings_on_sheet = laws.plan_crossings a.job.now a.plan.now _ e.crossings_on_sheet }
