-- `job_drawing::read_and_draw` meets its contract. Assumes nothing.
use mathlib.Core.Path.{◌≡◌, refl, sym, ◌∙◌, ap}
use native.Mathlib.Omega.{arith}
use lib.ListN.{length}
use Rattle.limits.specs.Limits.{point_numbers}
use Rattle.job_tables.proofs.Ready.{came}
use Rattle.draw_job.proofs.Phases as laws
use Rattle.job_drawing.proofs.read_and_draw.Goals as goal

pub read_job-requires : goal.read_job-requires
read_job-requires c = c.requires.given_len.0

pub write_notice-requires : goal.write_notice-requires
write_notice-requires c = omega (arith, c.requires.given_len.1)

pub returns-in-Err : goal.returns-in-Err
returns-in-Err c =
    let a = c.args in
    let w = c.write_notice.ensures in
    laws.notice_writes _ _ _ c.from.result _ (laws.refused_outputs a.wants _ _ (laws.read_refused c.in-Err.r _ _ a.job.now c.from.ensures c.in-Err.ensures a.wants.plan a.plan.now)) w.bytes refl refl w.place

pub work_for-drawn-requires : goal.work_for-drawn-requires
work_for-drawn-requires c =
    omega (arith, c.len-n.ensures.value, c.in-Ok.ensures.fits.edges, c.requires.edges_len.1)

pub draw_in-requires : goal.draw_in-requires
draw_in-requires c =
    let a = c.args in
    let long : length c.read_job.new.points ≡ point_numbers = omega (arith, c.read_job.auto.points, c.requires.given_len.0) in
    let fits = c.in-Ok.ensures.fits in
    let p = c.requires.edges_len in
    let w = c.work_for-drawn.ensures in record {
      came = (came c.in-Ok.j _ a.job.now c.in-Ok.ensures long, omega (arith, c.requires.given_len.1), c.requires.given_len.2, c.requires.given_len.3);
      plan_in_bounds = laws.phase_room c.in-Ok.j _ a.job.now c.in-Ok.ensures a.wants.plan a.plan.now (length a.answer.now) c.requires.given_len.1;
      search_work_in_bounds = (omega arith, c.requires.sorted_len);
      lent = record {
        counts_long = w.routes ∙ c.len-n.ensures.value;
        room = laws.room_for _ _ _ _ _ _ fits.members fits.edges (w.taps ∙ p.0) (omega (arith, c.len-n.ensures.value)) (w.routes ∙ c.len-n.ensures.value) (omega (arith, w.turn.0, p.2));
        spare = omega (arith, w.turn.1, p.3);
      };
    }

pub shape_of-given-then-n-le-FEW_ROUTES : goal.shape_of-given-then-n-le-FEW_ROUTES
shape_of-given-then-n-le-FEW_ROUTES c = omega (arith, c.read_job.auto.points)

pub returns-then-n-le-FEW_ROUTES : goal.returns-then-n-le-FEW_ROUTES
returns-then-n-le-FEW_ROUTES c =
    let a = c.args in
    laws.writes_as _ _ _ _ _ (ap (laws.outputs_for a.wants) (sym (laws.told_phase c.in-Ok.j _ a.job.now c.in-Ok.ensures a.wants.plan a.plan.now))) c.draw_in.ensures

pub draw_in-requires-2 : goal.draw_in-requires-2
draw_in-requires-2 c =
    let a = c.args in
    let long : length c.read_job.new.points ≡ point_numbers = omega (arith, c.read_job.auto.points, c.requires.given_len.0) in
    let fits = c.in-Ok.ensures.fits in
    let p = c.requires.edges_len in
    let w = c.work_for-drawn.ensures in record {
      came = (came c.in-Ok.j _ a.job.now c.in-Ok.ensures long, omega (arith, c.requires.given_len.1), c.requires.given_len.2, c.requires.given_len.3);
      plan_in_bounds = laws.phase_room c.in-Ok.j _ a.job.now c.in-Ok.ensures a.wants.plan a.plan.now (length a.answer.now) c.requires.given_len.1;
      search_work_in_bounds = (omega arith, c.requires.sorted_len);
      lent = record {
        counts_long = w.routes ∙ c.len-n.ensures.value;
        room = laws.room_for _ _ _ _ _ _ fits.members fits.edges (w.taps ∙ p.0) (omega (arith, fits.edges)) (w.routes ∙ c.len-n.ensures.value) (omega (arith, w.turn.0, p.2));
        spare = omega (arith, w.turn.1, p.3);
      };
    }

pub shape_of-given : goal.shape_of-given
shape_of-given c = omega (arith, c.read_job.auto.points)

pub shape_of-sorted : goal.shape_of-sorted
shape_of-sorted c = omega (arith, c.read_job.auto.points)

pub returns : goal.returns
returns c =
    let a = c.args in
    laws.writes_as _ _ _ _ _ (ap (laws.outputs_for a.wants) (sym (laws.told_phase c.in-Ok.j _ a.job.now c.in-Ok.ensures a.wants.plan a.plan.now))) c.draw_in-2.ensures
