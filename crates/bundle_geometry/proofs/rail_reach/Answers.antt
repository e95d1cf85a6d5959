use Rattle.std.proofs.Common.{◌∙◌}
use Rattle.bundle_geometry.proofs.Taps.{rail_none, rail_first, rail_last}
use Rattle.bundle_geometry.proofs.rail_reach.Goals as goal

pub returns-in-Some-Some : goal.returns-in-Some-Some
returns-in-Some-Some c =
    let a = c.args in
    record { low = c.min.ensures ∙ rail_first a.taps.now c.in-Some-Some.a.now a.y (rw c.in-Some-Some.is-0 at c.first.ensures.value); high = c.max.ensures ∙ rail_last a.taps.now c.in-Some-Some.b.now a.y (rw c.in-Some-Some.is-1 at c.last.ensures.value) }

pub returns-in_default-2 : goal.returns-in_default-2
returns-in_default-2 c =
    let parts = rail_none c.args.taps.now c.args.y (rw c.in_default.is-0 at c.first.ensures.value) in
    record { low = parts.0; high = parts.1 }
