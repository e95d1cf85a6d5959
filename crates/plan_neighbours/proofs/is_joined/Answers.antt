-- `plan_neighbours::is_joined` meets its contract. Assumes nothing.
use Rattle.std.proofs.Common.{◌≡◌, ◌∙◌, sym, ap, true, not}
use Rattle.plan.specs.Plan.{found?}
use Rattle.plan.specs.Depths.{same_role}
use Rattle.plan_numbers.proofs.Roles.{equal}
use Rattle.plan_neighbours.proofs.Neighbours as laws
use Rattle.plan_neighbours.proofs.is_joined.Goals as goal
use Rattle.plan_neighbours.proofs.is_joined.Goals.{then-is_some, else-is_some, then-is_some-2, else-is_some-2}

pub returns-then-ne : goal.returns-then-ne
returns-then-ne c =
    elim c.if-is_some-2.branch [
      | then-is_some-2 w ↦ elim c.if-is_some.branch [
        | then-is_some v ↦ λ b given e f.
            let one : found? c.args.s.bounds ≡ true = sym c.is_some.ensures ∙ v.if-is_some.true in
            let two : found? c.args.t.bounds ≡ true = sym v.is_some-then-is_some.ensures ∙ sym v.value-is ∙ w.if-is_some-2.true in
            let three : not (same_role c.args.s.bundle.role c.args.t.bundle.role) ≡ true = ap not (sym (equal _ _)) ∙ sym w.ne.ensures ∙ sym w.value-is ∙ c.if-ne.true in
            rw (one, two, three) (c.share_edge.ensures ∙ laws.shared b c.args.members.now c.args.s.bundle c.args.t.bundle e f)
        | else-is_some v ↦ cc
      ]
      | else-is_some-2 w ↦ cc
    ]
