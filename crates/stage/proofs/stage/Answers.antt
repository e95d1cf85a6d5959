-- `stage::stage` meets its contract. Assumes nothing.
use mathlib.Core.Path.{sym, ◌∙◌, ap}
use lib.ListN.{length}
use lib.Seq.{sets}
use Rattle.grid_promise.proofs.Theorem.{grid_in}
use Rattle.plan_stage.proofs.InTurn.{stage_in_turn}
use Rattle.outputs.proofs.Front.{nothing_wanted}
use Rattle.stage.proofs.Laws as laws
use Rattle.stage.proofs.stage.Goals as goal

pub returns : goal.returns
returns c =
    let a = c.args in
    let e = c.stage_sheet.ensures in
    let w = nothing_wanted a.job.now _ (length a.answer.now) _ _ in
    let f = e.own_plan laws.no_plan in
    let b = e.answer ∙ ap (sets a.answer.now 0) w in
    let n = e.count ∙ ap length w in
    let turns = w ∙ sym (stage_in_turn a.job.now (length a.answer.now)) in
    record { buffer = b; count = n; in_turn = e.answer ∙ ap (sets a.answer.now 0) turns; demand = f.demand; in_answer = f.in_answer; on_grid = grid_in a.job.now a.answer.now _ _ b n; in_answer_on_grid = f.in_answer_on_grid; crossings_on_sheet = laws.own_crossings a.job.now _ _ e.crossings_on_sheet }
