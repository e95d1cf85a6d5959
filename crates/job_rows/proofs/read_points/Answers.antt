-- `job_rows::read_points` meets its contract. Assumes nothing.
use Rattle.std.proofs.Common.{◌≡◌, ℕ, ◌+◌, sym, ap, ◌∙◌, arith}
use Rattle.std.proofs.lemmas.Result.{err_from_is_err_and}
use Rattle.wire.specs.Read.{got}
use Rattle.geometry.specs.Points.{points_from}
use Rattle.route.specs.Window.{put_after}
use Rattle.job.specs.Job.{push, point}
use Rattle.job.specs.LoopSteps.{pushed, push_stopped, done}
use Rattle.job_rows.proofs.read_points.Goals as goal

pub returns-in_err-p : goal.returns-in_err-p
returns-in_err-p c =
    let a = c.args in
    let l = c.loop-i in
    let p = err_from_is_err_and c.from_residual.result c.from_residual.ensures.1 in
    rw (p.1, p.2) (sym (push_stopped (point a.grid) a.count l.i (points_from l.points 0 (a.total + l.i)) l.s.bytes.now _ (omega arith) (sym c.in_err-p.ensures)) ∙ l.invariant)

pub loop-i-preserved : goal.loop-i-preserved
loop-i-preserved c =
    let a = c.args in
    let l = c.loop-i in
    let f = c.put_point in
    let g : a.total + (l.i + 1) ≡ a.total + l.i + 1 = omega arith in
    pushed (point a.grid) a.count l.i (points_from l.points 0 (a.total + l.i)) l.s.bytes.now _ _ c.point.new.s.bytes.now (omega arith) (sym c.in_ok-p.ensures)
    (rw (g, f.ensures) (put_after l.points (a.total + l.i) _ (omega arith))) ∙ l.invariant

pub returns : goal.returns
returns c =
    let a = c.args in
    let l = c.loop-i in
    let q : a.count ≡ l.i = omega arith in
    ap (λ (z : ℕ). got (points_from l.points 0 (a.total + z)) l.s.bytes.now) q
    ∙ sym (done (push (point a.grid)) a.count l.i (points_from l.points 0 (a.total + l.i)) l.s.bytes.now (omega arith)) ∙ l.invariant
