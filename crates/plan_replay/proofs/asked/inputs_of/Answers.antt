-- `plan_replay::asked::inputs_of` meets its contract. Assumes nothing.
use Rattle.std.proofs.Common.{arith}
use Rattle.plan_replay.proofs.Listings.{listing_push}
use Rattle.plan_replay.proofs.asked.inputs_of.Goals as goal
use Rattle.plan_replay.proofs.asked.inputs_of.Goals.{then-eq, else-eq}

pub loop-i-preserved : goal.loop-i-preserved
loop-i-preserved c =
    let l = c.loop-i in
    elim c.if-eq.branch [
      | then-eq v ↦ rw v.inputs-is (record {
        few = omega (arith, l.invariant.few, v.push.ensures.len);
        listed = listing_push l.inputs.items _ l.i _ v.push.ensures.items l.invariant.listed c.loop-i-test.true;
      })
      | else-eq v ↦ rw v.inputs-is (record { few = omega (arith, l.invariant.few); listed = l.invariant.listed })
    ]
