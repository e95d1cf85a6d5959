use Rattle.std.proofs.Common.{sym, ◌∙◌, []}
use Rattle.std.proofs.lemmas.Result.{err_from_is_err_and}
use Rattle.checks.proofs.TestSteps.{due_spent, due_hit, due_clean, walk_done}
use Rattle.bundle_contacts.proofs.bus_on_segment.Goals as goal

pub returns-in_err-charge : goal.returns-in_err-charge
returns-in_err-charge c =
    let p = err_from_is_err_and c.from_residual.result c.from_residual.ensures.1 in
    rw (p.1, p.2, c.in_err-charge.ensures.refusal) (due_spent _ _ 11 _ [] c.in_err-charge.ensures.paid)

pub returns-then-clashes : goal.returns-then-clashes
returns-then-clashes c = due_hit _ _ 11 _ [] c.in_ok-charge.ensures.paid (sym c.clashes.ensures ∙ c.if-clashes.true)

pub returns : goal.returns
returns c = walk_done 11 _ ∙ due_clean _ _ 11 _ [] c.in_ok-charge.ensures.paid (sym c.clashes.ensures ∙ c.if-clashes.false)
