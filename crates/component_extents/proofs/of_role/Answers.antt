-- `component_extents::of_role` meets its contract. Assumes nothing.
use mathlib.Core.Path.{sym, ◌∙◌, ap, subst}
use Prim.Native.Nat.{ℕ}
use native.Mathlib.Omega.{arith}
use Rattle.std.specs.Prelude.{List, ◌++◌, ◌+◌, drop}
use Rattle.plan.specs.Plan.{of_role}
use lib.ListN.{length, get_or}
use Rattle.plan.specs.Plan.{Ranged}
use Rattle.plan.specs.Prepared.{range_at}
use Rattle.plan.proofs.TableReads as rows
use Rattle.plan_numbers.proofs.Roles.{equal}
use Rattle.plan_neighbours.proofs.Walks.{Below}
use Rattle.components.specs.Settled.{ranges_in}
use Rattle.components.proofs.Turns as laws
use Rattle.component_extents.proofs.of_role.Goals as goal
use Rattle.component_extents.proofs.of_role.Goals.{then-eq, else-eq}

pub loop-i-preserved : goal.loop-i-preserved
loop-i-preserved c =
    let a = c.args in
    let l = c.loop-i in
    let h = c.loop-i-test.true in
    let i : ℕ = get_or a.order.now l.i-index 0 in
    let role = ap (λ (z : Ranged). z.bundle.role) (laws.range_read a.ranges.now i) in
    elim c.if-eq.branch [
      | then-eq v ↦ rw v.chosen-is (record {
        few = omega (arith, l.invariant.few, v.push.ensures.len);
        chosen_are =
            ap (λ (z : List ℕ). z ++ of_role a.role (ranges_in a.ranges.now) (drop (l.i-index + 1) a.order.now)) v.push.ensures.items
            ∙ laws.role_turn a.role (ranges_in a.ranges.now) l.chosen.items i _ _ (rows.rest_cons a.order.now l.i-index 0 h) (range_at a.ranges.now i).bundle.role c.eq.result
            role (c.eq.ensures ∙ equal _ _) v.if-eq.true
            ∙ l.invariant.chosen_are;
      })
      | else-eq v ↦ rw v.chosen-is (record {
        few = omega (arith, l.invariant.few);
        chosen_are =
            laws.role_skip a.role (ranges_in a.ranges.now) l.chosen.items i _ _ (rows.rest_cons a.order.now l.i-index 0 h) (range_at a.ranges.now i).bundle.role c.eq.result
            role (c.eq.ensures ∙ equal _ _) v.if-eq.false
            ∙ l.invariant.chosen_are;
      })
    ]

pub returns : goal.returns
returns c =
    let a = c.args in
    let l = c.loop-i in
    let n = length a.ranges.now in
    let are = laws.role_end a.role (ranges_in a.ranges.now) l.chosen.items _ (rows.rest_none a.order.now l.i-index c.loop-i-test.false) ∙ l.invariant.chosen_are in
    let all = laws.of_role_below n a.role (ranges_in a.ranges.now) a.order.now (laws.listing_below a.order.now n c.requires.1) in
    record { are = are; listed = laws.below_listing l.chosen.items n (subst (Below n) (sym are) all) }
