-- `plan_neighbours::adjacency` meets its contract. Assumes nothing.
use Rattle.std.proofs.Common.{◌≡◌, ◌<◌, ℕ, length, subst, arith, rules}
use Rattle.plan.specs.MemberColumns.{edges_of}
use Rattle.plan.specs.Prepared.{TabledTo}
use Rattle.plan_neighbours.proofs.Neighbours as laws
use Rattle.plan_neighbours.proofs.adjacency.Goals as goal

pub loop-i-preserved : goal.loop-i-preserved
loop-i-preserved c =
    let a = c.args in
    let l = c.loop-i in
    let p : l.i < length l.rows = omega (arith, l.invariant.rows_length, c.requires.bundles_few) in record {
      rows_length = search rules;
      tabled = λ b given. laws.row_put b given (edges_of a.members.now) a.ranges.now l.i l.rows c.adjacent_row.result p (c.adjacent_row.ensures b given) (l.invariant.tabled b given);
    }

pub returns : goal.returns
returns c =
    let a = c.args in
    let l = c.loop-i in
    let e : l.i ≡ length a.ranges.now = omega arith in
    λ b given. subst (λ (z : ℕ). TabledTo b given (edges_of a.members.now) a.ranges.now z l.rows) e (l.invariant.tabled b given)
