-- `plan_depths::lane_count` meets its contract. Assumes nothing.
use mathlib.Core.Path.{sym}
use Prim.Native.Nat.{◌<◌}
use native.Mathlib.Omega.{arith}
use lib.ListN.{length}
use Rattle.plan.proofs.TableReads as laws
use Rattle.plan_depths.proofs.lane_count.Goals as goal

pub returns-then-n-eq0 : goal.returns-then-n-eq0
returns-then-n-eq0 c = sym (laws.lane_none c.args.members.now (omega (arith, c.if-n-eq0.true)))

pub returns : goal.returns
returns c =
    let z : 0 < length c.args.members.now = omega (arith, c.if-n-eq0.false) in
    sym (laws.lane_last c.args.members.now z)
