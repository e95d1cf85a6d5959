-- Written, though the check finds it alone, so that an edit is refused at the fact that does not hold.
use Rattle.std.proofs.Common.{sym, ◌∙◌}
use Rattle.drawing.specs.Check.{clash}
use Rattle.looks.proofs.clashes.Goals as goal

pub returns-else-is_disallowed : goal.returns-else-is_disallowed
unfolding clash
returns-else-is_disallowed c =
    let q = sym c.is_disallowed.ensures ∙ c.if-is_disallowed.false in
    rw (c.parallel_segments_are_too_close.ensures, ← c.contact_kind-kind.ensures, q)
