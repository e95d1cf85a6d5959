use Rattle.std.proofs.Common.{arith, sym, ap, ◌∙◌}
use Rattle.route.specs.Slots.{routes_of, slot_is}
use Rattle.plan.specs.BoardTables.{no_member}
use Rattle.drawing.specs.Build.{trunk_met}
use Rattle.bundle_geometry.proofs.Taps.{trunk_start, trunk_off, trunk_on}
use Rattle.bundle_geometry.proofs.trunk_taps.Goals as goal

pub loop-i-init : goal.loop-i-init
loop-i-init c =
    let a = c.args in
    trunk_start a.role a.pitch a.x a.members.now (routes_of a.present.points.now a.present.counts.now) a.taps.now

pub returns-in_err-k : goal.returns-in_err-k
returns-in_err-k c =
    let a = c.args in
    let l = c.loop-i in
    let h = c.loop-i-test.true in
    let g = c.requires.known l.i no_member h in
    let m = ap (trunk_met a.role a.pitch a.x) (slot_is a.present.points.now a.present.counts.now _ g ∙ sym c.slot_of-route.ensures) ∙ sym c.trunk_tap.ensures ∙ c.in_err-k.was in
    record { told = rw c.from_residual.ensures (trunk_off a.role a.pitch a.x a.members.now (routes_of a.present.points.now a.present.counts.now) l.taps l.i no_member h m ∙ l.invariant) }

pub loop-i-preserved : goal.loop-i-preserved
loop-i-preserved c =
    let a = c.args in
    let l = c.loop-i in
    let h = c.loop-i-test.true in
    let g = c.requires.known l.i no_member h in
    let m = ap (trunk_met a.role a.pitch a.x) (slot_is a.present.points.now a.present.counts.now _ g ∙ sym c.slot_of-route.ensures) ∙ sym c.trunk_tap.ensures ∙ c.in_ok-k.was in
    trunk_on a.role a.pitch a.x a.members.now (routes_of a.present.points.now a.present.counts.now) l.taps l.i _ no_member _ (omega arith) h m ∙ l.invariant
