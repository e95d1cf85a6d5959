use Rattle.std.proofs.Common.{arith}
use Rattle.bundle_checks.proofs.Marked.{marked_next, marked_end}
use Rattle.bundle_checks.proofs.mark_members.Goals as goal

pub bounds-mask-m : goal.bounds-mask-m
bounds-mask-m c = let k = c.requires c.loop-m.m-index (omega arith) in omega (arith, k)

pub loop-m-preserved : goal.loop-m-preserved
loop-m-preserved c =
    let l = c.loop-m in
    let k = c.requires l.m-index (omega arith) in
    marked_next c.args.members.now l.mask l.m-index (omega arith) (omega (arith, k)) l.invariant

pub returns : goal.returns
returns c = marked_end c.args.members.now c.loop-m.mask c.loop-m.m-index (omega arith) c.loop-m.invariant
