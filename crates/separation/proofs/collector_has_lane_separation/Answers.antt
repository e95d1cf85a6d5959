-- `separation::collector_has_lane_separation` meets its contract. Assumes nothing.
use mathlib.Core.Path.{◌∙◌, ap}
use lib.ListN.{get_or}
use lib.Ieee.{of_bits, nan, le, sub, binary64}
use Rattle.binary64.specs.Order.{tolerance}
use Rattle.plan.proofs.TableReads as rows
use Rattle.separation.proofs.TakenTurns as laws
use borrow.Author.Tests.{not-true, not-false}
use Rattle.std.proofs.Common.{not}
use Rattle.separation.proofs.collector_has_lane_separation.Goals as goal

pub returns-then-not-abs-least : goal.returns-then-not-abs-least
unfolding of_bits
returns-then-not-abs-least c =
    let a = c.args in
    let l = c.loop-y in
    let t = c.loop-y-test.true in
    laws.clear_no a.pitch a.x (get_or a.used.now l.y-index nan) _ _ (rows.rest_cons a.used.now l.y-index nan t) (rw c.abs.ensures at (not-true (le (sub binary64 a.pitch tolerance) c.abs.result) (ap not c.if-not-abs-least.true))) ∙ l.invariant

pub loop-y-preserved : goal.loop-y-preserved
unfolding of_bits
loop-y-preserved c =
    let a = c.args in
    let l = c.loop-y in
    let t = c.loop-y-test.true in
    laws.clear_on a.pitch a.x (get_or a.used.now l.y-index nan) _ _ (rows.rest_cons a.used.now l.y-index nan t) (rw c.abs.ensures at (not-false (le (sub binary64 a.pitch tolerance) c.abs.result) (ap not c.if-not-abs-least.false))) ∙ l.invariant

pub returns : goal.returns
returns c =
    let a = c.args in
    let l = c.loop-y in
    laws.clear_end a.pitch a.x _ (rows.rest_none a.used.now l.y-index c.loop-y-test.false) ∙ l.invariant
