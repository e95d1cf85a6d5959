use Rattle.std.proofs.Common.{arith, ap, ◌∙◌, ◌∷◌, []}
use Rattle.std.proofs.lemmas.Result.{err_from_is_err_and}
use Rattle.geometry.specs.declared.Segment.{Segment}
use Rattle.drawing.specs.Build.{tap_of}
use Rattle.drawing.specs.Check.{due, walk, clash}
use Rattle.checks.specs.Lent.{taps_lent}
use Rattle.checks.proofs.TestSteps.{walk_start, walk_off_at, walk_next, walk_end}
use Rattle.bundle_contacts.proofs.bus_on_route.Goals as goal

pub loop-i-init : goal.loop-i-init
loop-i-init c =
    let a = c.args in
    walk_start a.rules.options a.rules.permits_crossings a.own.bus.segment (tap_of (taps_lent a.own.taps) a.e) a.route.points.now a.route.start a.route.count _

pub returns-in_err-bus_on_route_run : goal.returns-in_err-bus_on_route_run
returns-in_err-bus_on_route_run c =
    let a = c.args in
    let l = c.loop-i in
    let p = err_from_is_err_and c.from_residual.result c.from_residual.ensures.1 in
    let w = c.in_err-bus_on_route_run.ensures ∙ ap (λ (r : Segment). walk 11 (due (clash a.rules.options a.rules.permits_crossings a.own.bus.segment (tap_of (taps_lent a.own.taps) a.e) r) ∷ []) l.visits.0) c.view_run-run.ensures in
    rw (p.1, p.2) (walk_off_at a.rules.options a.rules.permits_crossings a.own.bus.segment (tap_of (taps_lent a.own.taps) a.e) a.route.points.now a.route.start a.route.count l.i _ _ _ (omega arith) w ∙ l.invariant)

pub loop-i-preserved : goal.loop-i-preserved
loop-i-preserved c =
    let a = c.args in
    let l = c.loop-i in
    let w = c.in_ok-bus_on_route_run.ensures ∙ ap (λ (r : Segment). walk 11 (due (clash a.rules.options a.rules.permits_crossings a.own.bus.segment (tap_of (taps_lent a.own.taps) a.e) r) ∷ []) l.visits.0) c.view_run-run.ensures in
    walk_next a.rules.options a.rules.permits_crossings a.own.bus.segment (tap_of (taps_lent a.own.taps) a.e) a.route.points.now a.route.start a.route.count l.i _ _ (omega arith) w ∙ l.invariant

pub returns : goal.returns
returns c =
    let a = c.args in
    let l = c.loop-i in
    walk_end a.rules.options a.rules.permits_crossings a.own.bus.segment (tap_of (taps_lent a.own.taps) a.e) a.route.points.now a.route.start a.route.count l.i _ (omega arith) ∙ l.invariant
