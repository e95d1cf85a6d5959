-- `separation::separate` meets its contract. Assumes nothing.
use mathlib.Core.Path.{◌≡◌, ◌∙◌, ap}
use mathlib.Core.List.{List, map}
use Prim.Native.Nat.{ℕ, ◌+◌, ◌≤◌, ◌<◌}
use native.Mathlib.Omega.{arith}
use lib.ListN.{length, get_or, take, drop, set, length-set}
use lib.Ieee.{Float}
use Rattle.search.specs.Search.{search_of}
use Rattle.plan.specs.declared.Bound.{Bound}
use Rattle.plan.specs.Plan.{beside, separated}
use Rattle.plan.specs.Prepared.{ranged_from, x_of, no_planned, no_range, range_at, plan_in}
use Rattle.plan.proofs.TableReads as rows
use Rattle.separation.specs.Taken.{lanes_in}
use Rattle.separation.proofs.TakenTurns as laws
use Rattle.separation.proofs.separate.Goals as goal
use Rattle.separation.proofs.separate.Goals.{Start}

pub loop-i-preserved : goal.loop-i-preserved
loop-i-preserved c =
    let a = c.args in
    let l = c.loop-i in
    let t = a.ranges.now in
    let n = length t in
    let h = c.loop-i-test.true in
    let few = c.requires.ranges_fit.bundles_few in
    let g : l.i < length l.rows = omega (arith, h, few, l.invariant.rows_length) in
    let r : n ≤ length l.rows = omega (arith, few, l.invariant.rows_length) in
    let y = c.if_clear-x in
    let d = c.add_lane in
    let f = c.beside-r in
    let u = c.lanes_of-used.ensures in record {
      rows_length = length-set l.rows l.i (record { x = y.result }) ∙ l.invariant.rows_length;
      inputs_few = omega (arith, l.invariant.inputs_few, d.ensures.few.0);
      outputs_few = omega (arith, l.invariant.outputs_few, d.ensures.few.1);
      plan_is = λ b given w.
          ap (λ (z : List Bound). laws.behind (map x_of (take (l.i + 1) (set l.rows l.i (record { x = y.result })))) (separated search_of b given (map ranged_from (drop (l.i + 1) t)) z (lanes_in d.new.l) f.result.left.0))
          (ap (map x_of) (laws.later_rows l.rows n l.i (record { x = y.result }) h))
          ∙ laws.separated_turn b given _ _ (ranged_from (range_at t l.i)) _ _ (get_or l.rows l.i no_planned).x y.result (lanes_in l.lanes) (lanes_in d.new.l) l.left.0 f.result l.i l.rows
          (ap (map ranged_from) (rows.rest_cons t l.i no_range h)) (ap (map x_of) (rows.part_cons l.rows n l.i no_planned h r)) g
          (f.ensures b given (w.pitch_is l.i h) (w.routed l.i h) ∙ ap (λ (ys : List Float). beside search_of b given (ranged_from (range_at t l.i)) (get_or l.rows l.i no_planned).x ys l.left.0) u)
          (laws.if_clear_same y.result a.setting.pitch _ c.from-found.result _ _ _ y.ensures (w.pitch_is l.i h) c.from-found.ensures u) d.ensures.told
          ∙ l.invariant.plan_is b given w;
    }

pub returns : goal.returns
returns c =
    let a = c.args in
    let l = c.loop-i in
    let e : length a.ranges.now ≡ l.i = omega (arith, c.loop-i-test.false) in
    λ b given w.
    ap (λ (j : ℕ). plan_in j (record { rows = l.rows; left = l.left })) e
    ∙ laws.separated_end b given _ _ (lanes_in l.lanes) l.left.0 (map x_of (take l.i l.rows)) (ap (map ranged_from) (rows.rest_none a.ranges.now l.i c.loop-i-test.false))
    ∙ l.invariant.plan_is b given w
