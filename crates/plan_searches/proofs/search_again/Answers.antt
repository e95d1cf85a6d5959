-- `plan_searches::search_again` meets its contract. Assumes nothing.
use mathlib.Core.Path.{sym, ◌∙◌, ap}
use mathlib.Core.List.{List}
use Prim.Native.Nat.{ℕ, ◌+◌}
use lib.ListN.{length, get_or, drop, set, length-set}
use Rattle.board.specs.declared.Bundle.{Bundle}
use Rattle.search.specs.Search.{search_of}
use Rattle.plan.specs.declared.Bound.{Bound}
use Rattle.plan.specs.Plan.{Plan, ranged_at, seek, again}
use Rattle.plan.specs.Prepared.{plan_in, upper_at}
use Rattle.plan.proofs.TableReads as rows
use Rattle.plan.proofs.Agains as laws
use Rattle.plan_searches.proofs.search_again.Goals as goal
use Rattle.plan_searches.proofs.search_again.Goals.{Start}

pub loop-i-preserved : goal.loop-i-preserved
loop-i-preserved c =
    let a = c.args in
    let l = c.loop-i in
    let h = c.loop-i-test.true in
    let i : ℕ = get_or a.which.now l.i-index 0 in
    let g = c.requires.listing.each l.i-index h in
    let u = c.upper_at in
    let f = c.interior_collector_range_bounded-s in
    let x = c.from in record {
      rows_length = length-set l.rows i (record { x = x.result }) ∙ l.invariant.rows_length;
      plan_is = λ b given ranges t e.
          let q : Plan = plan_in (length a.layout.reaches.now) (record { rows = l.rows; left = l.left }) in
          ap (λ (z : List Bound). again search_of b given ranges (λ x. a.lower) (upper_at a.layout.setting.pitch a.upper) (drop (l.i-index + 1) a.which.now) (record { xs = z; left = f.result.left.0 }))
          (laws.x_set l.rows (length a.layout.reaches.now) i x.result g ∙ ap (set q.xs i) x.ensures)
          ∙ laws.again_turn b given ranges i _ _ (rows.rest_cons a.which.now l.i-index 0 h) (λ x. a.lower) (upper_at a.layout.setting.pitch a.upper) q f.result
          (f.ensures b given (t.each i g)
          ∙ ap (λ (z : Bundle). seek search_of b given z a.lower u.result l.left.0) (sym (e.same i g))
          ∙ ap (λ (z : Bound). seek search_of b given (ranged_at ranges i).bundle a.lower z l.left.0) (u.ensures ∙ ap (upper_at a.layout.setting.pitch a.upper) (laws.x_at l.rows (length a.layout.reaches.now) i g)))
          ∙ l.invariant.plan_is b given ranges t e;
    }

pub returns : goal.returns
returns c =
    let a = c.args in
    let l = c.loop-i in
    λ b given ranges t e.
    laws.again_end b given ranges (λ x. a.lower) (upper_at a.layout.setting.pitch a.upper) (plan_in (length a.layout.reaches.now) (record { rows = l.rows; left = l.left })) _ (rows.rest_none a.which.now l.i-index c.loop-i-test.false)
    ∙ l.invariant.plan_is b given ranges t e
