use native.Mathlib.Omega.{arith}
use mathlib.Core.Logic.{inr}
use mathlib.Core.Path.{◌≡◌, ap, ◌∙◌}
use Prim.Native.Nat.{◌+◌}
use Rattle.drawing.specs.Normal.{shifted}
use Rattle.normalize.proofs.Shift.{goal, untouched_next, placed_next}
use Rattle.normalize.proofs.shift_points.Goals as goal

pub loop-i-preserved : goal.loop-i-preserved
loop-i-preserved c =
    let a = c.args in
    let l = c.loop-i in
    let f = c.put_point in
    let z : 0 + l.i ≡ l.i = omega arith in
    let q = c.translate_point-p.ensures ∙ ap (shifted a.o) (c.point_at.ensures ∙ l.invariant.kept l.i (inr (omega arith))) in record {
      kept = rw f.ensures (rw z at (untouched_next a.points.now l.points 0 l.i c.translate_point-p.result l.invariant.kept));
      placed = rw f.ensures (rw z at (placed_next l.points 0 l.i c.translate_point-p.result (λ k. goal a.o a.points.now (0 + k)) (omega arith) (rw z q) l.invariant.placed));
    }
