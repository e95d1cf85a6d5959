use native.Mathlib.Omega.{arith}
use Prim.Native.Nat.{◌+◌, ◌*◌, ◌-◌}
use lib.ListN.{get_or}
use Rattle.limits.specs.Limits.{slot_points, slot_numbers}
use Rattle.normalize.proofs.Shift.{part_kept, part_placed, slots_turn}
use Rattle.normalize.proofs.shift_routes.Goals as goal

pub loop-e-preserved : goal.loop-e-preserved
loop-e-preserved c =
    let a = c.args in
    let l = c.loop-e in
    let f = c.shift_points in
    let n = get_or a.counts.now l.e 0 in
    let few = c.requires.1 l.e in
    let room = c.requires.0 in
    let b = slot_numbers * l.e in
    let w = f.auto.points in
    slots_turn a.o a.points.now l.points _ a.counts.now l.e c.requires.1 l.invariant
    (part_placed l.points f.new.points (slot_points * l.e) n b (b + 2 * n - b) (omega arith) (omega arith) (omega arith) (omega arith) a.o _ (omega arith) f.ensures)
    (part_kept l.points f.new.points (slot_points * l.e) n b (b + 2 * n - b) (omega arith) (omega arith) (omega arith) (omega arith))
