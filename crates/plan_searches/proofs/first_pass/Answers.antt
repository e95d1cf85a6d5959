-- `plan_searches::first_pass` meets its contract. Assumes nothing.
use mathlib.Core.Path.{◌≡◌, sym, ◌∙◌, ap}
use mathlib.Core.List.{List, map}
use Prim.Native.Nat.{ℕ, ◌<◌}
use native.Mathlib.Omega.{arith}
use lib.ListN.{length, take, length-set}
use lib.Seq.{get_or-take}
use Rattle.plan.specs.declared.Range.{Range}
use Rattle.board.specs.declared.Bundle.{Bundle}
use Rattle.search.specs.Search.{search_of}
use Rattle.plan.specs.Plan.{first_pass}
use Rattle.plan.specs.Prepared.{bundle_of, no_reached, reached_at, ranged_from, no_range, passed}
use Rattle.plan.proofs.TableReads as rows
use Rattle.plan_searches.proofs.Passes as laws
use Rattle.plan_searches.proofs.first_pass.Goals as goal
use Rattle.plan_searches.proofs.first_pass.Goals.{Start}

pub loop-i-preserved : goal.loop-i-preserved
loop-i-preserved c =
    let a = c.args in
    let l = c.loop-i in
    let h : l.i < length a.layout.reaches.now = c.loop-i-test.true in
    let f = c.interior_collector_range-s in
    let g : l.i < length l.rows = omega (arith, a.layout.among.bundles_few) in record {
      rows_length = length-set l.rows l.i f.result.range ∙ l.invariant.rows_length;
      passed_is = λ b given t.
          laws.pass_turn b given _ _ (reached_at a.layout.reaches.now l.i).bundle l.i l.rows l.left.0 f.result (ap (map bundle_of) (rows.rest_cons a.layout.reaches.now l.i no_reached h)) g (f.ensures.told b given (t.each l.i h))
          ∙ l.invariant.passed_is b given t;
      same = rows.filled (λ j x. x.bundle ≡ (reached_at a.layout.reaches.now j).bundle) l.rows l.i f.result.range no_range g f.ensures.same l.invariant.same;
    }

pub returns-clause-told : goal.returns-clause-told
returns-clause-told c =
    let a = c.args in
    let l = c.loop-i in
    let e : length a.layout.reaches.now ≡ l.i = omega (arith, c.loop-i-test.false) in
    λ b given t.
    ap (λ (j : ℕ). passed j (record { rows = l.rows; left = l.left })) e
    ∙ laws.pass_end b given _ (map ranged_from (take l.i l.rows)) l.left.0 (ap (map bundle_of) (rows.rest_none a.layout.reaches.now l.i c.loop-i-test.false))
    ∙ l.invariant.passed_is b given t
    ∙ ap (λ (us : List Bundle). first_pass search_of b given us a.granted.0) (sym t.bundles_are)

pub returns-clause-same : goal.returns-clause-same
returns-clause-same c =
    let l = c.loop-i in
    let n = length c.args.layout.reaches.now in
    record { same = λ i h. ap (λ (r : Range). r.bundle) (get_or-take n l.rows i no_range h) ∙ l.invariant.same i (omega (arith, h, c.loop-i-test.false)) }
