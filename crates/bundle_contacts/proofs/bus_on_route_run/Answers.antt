use Rattle.std.specs.Prelude.{Option}
use Rattle.std.proofs.Common.{ap, sym, ◌∙◌, []}
use Rattle.std.proofs.lemmas.Result.{err_from_is_err_and}
use Rattle.geometry.specs.declared.Point.{Point}
use Rattle.geometry.specs.declared.Trunk.{Trunk}
use Rattle.geometry.specs.Apart.{apart}
use Rattle.drawing.specs.Check.{clash}
use Rattle.checks.proofs.TestSteps.{due_spent, due_hit, due_clean, walk_done, apart_clean}
use Rattle.bundle_contacts.proofs.bus_on_route_run.Goals as goal

pub returns-in_err-charge : goal.returns-in_err-charge
returns-in_err-charge c =
    let p = err_from_is_err_and c.from_residual.result c.from_residual.ensures.1 in
    rw (p.1, p.2, c.in_err-charge.ensures.refusal) (due_spent _ _ 11 _ [] c.in_err-charge.ensures.paid)

pub returns-then-is_apart : goal.returns-then-is_apart
returns-then-is_apart c =
    let a = c.args in
    let far = sym (ap (λ (t : Trunk). apart t a.rules.options.minimum_parallel_wire_spacing a.run.start a.run.end) c.args.own.bus.worked_out) ∙ sym c.is_apart.ensures ∙ c.if-is_apart.true in
    walk_done 11 _ ∙ due_clean _ _ 11 _ [] c.in_ok-charge.ensures.paid (apart_clean a.rules.options a.rules.permits_crossings a.own.bus.segment _ a.run far)

pub returns-then-clashes : goal.returns-then-clashes
returns-then-clashes c =
    let a = c.args in
    due_hit _ _ 11 _ [] c.in_ok-charge.ensures.paid (sym (ap (λ (tap : Option Point). clash a.rules.options a.rules.permits_crossings a.own.bus.segment tap a.run) c.tap_on_route.ensures) ∙ sym c.clashes.ensures ∙ c.if-clashes.true)

pub returns : goal.returns
returns c =
    let a = c.args in
    walk_done 11 _ ∙ due_clean _ _ 11 _ [] c.in_ok-charge.ensures.paid (sym (ap (λ (tap : Option Point). clash a.rules.options a.rules.permits_crossings a.own.bus.segment tap a.run) c.tap_on_route.ensures) ∙ sym c.clashes.ensures ∙ c.if-clashes.false)
