-- `draw_job::draw_in` meets its contract: a refusal is told by its notice. Assumes nothing.
use Rattle.draw_job.proofs.Phases as laws
use Rattle.draw_job.proofs.draw_in.Goals as goal

pub drawn_in-ended-requires : goal.drawn_in-ended-requires
drawn_in-ended-requires c = record {
  came = (c.requires.came.0, c.requires.came.2, c.requires.came.3);
  plan_in_bounds = c.requires.plan_in_bounds;
  search_work_in_bounds = c.requires.search_work_in_bounds;
  lent = c.requires.lent;
}

pub returns-in-Ok : goal.returns-in-Ok
returns-in-Ok c = laws.written _ _ c.drawn_in-ended.result _ _ c.in-Ok.is c.drawn_in-ended.ensures

pub returns-in-Err : goal.returns-in-Err
returns-in-Err c =
    let w = c.write_notice.ensures in
    laws.notice_after _ _ c.drawn_in-ended.result _ _ c.in-Err.is c.drawn_in-ended.ensures _ c.from.ensures _ _ w.bytes w.place
