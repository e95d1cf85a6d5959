-- `plan_neighbours::adjacent_row` meets its contract. Assumes nothing.
use Rattle.std.proofs.Common.{◌≡◌, false, List, ◌<◌, length, arith, rules}
use Rattle.geometry.specs.Points.{Route}
use Rattle.board.specs.Board.{Board}
use Rattle.plan.specs.Plan.{joined}
use Rattle.plan.specs.MemberColumns.{edges_of}
use Rattle.plan.specs.Prepared.{EdgesOf, range_at, ranged_from}
use Rattle.plan.proofs.TableReads.{filled}
use Rattle.plan_neighbours.proofs.adjacent_row.Goals as goal

pub loop-j-preserved : goal.loop-j-preserved
loop-j-preserved c =
    let a = c.args in
    let l = c.loop-j in
    let f = c.is_joined in
    let p : l.j < length l.row = omega (arith, l.invariant.row_length, c.requires.ranges_among.bundles_few) in record {
      row_length = search rules;
      row_is = filled
          (λ j x. (b : Board) (given : List Route) → EdgesOf b (edges_of a.members.now) a.s.bundle → EdgesOf b (edges_of a.members.now) (range_at a.ranges.now j).bundle
          → x ≡ joined b given (ranged_from a.s) (ranged_from (range_at a.ranges.now j)))
          l.row l.j f.result false p f.ensures l.invariant.row_is;
    }

pub returns : goal.returns
returns c = λ b given j h e f. c.loop-j.invariant.row_is j (omega (arith, h, c.loop-j-test.false)) b given e f
