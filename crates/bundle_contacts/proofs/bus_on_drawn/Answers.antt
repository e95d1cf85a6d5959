use Rattle.std.proofs.Common.{◌∙◌}
use Rattle.std.proofs.lemmas.Result.{err_from_is_err_and}
use Rattle.checks.proofs.TestSteps.{then_on, then_off}
use Rattle.bundle_contacts.proofs.bus_on_drawn.Goals as goal

pub returns-in_err-bus_on_segment : goal.returns-in_err-bus_on_segment
returns-in_err-bus_on_segment c =
    let p = err_from_is_err_and c.from_residual.result c.from_residual.ensures.1 in
    rw (p.1, p.2) (then_off 11 _ _ _ _ _ c.in_err-bus_on_segment.ensures)

pub returns : goal.returns
returns c = c.bus_on_segment-2.ensures ∙ then_on 11 _ _ _ _ c.in_ok-bus_on_segment.ensures
