use native.Mathlib.Omega.{arith}
use mathlib.Core.Path.{sym, ap, ◌∙◌}
use lib.ListN.{length}
use lib.Seq.{sets}
use Rattle.answer.proofs.Stores.{some_edge, as_many, line_turn, line_room, lines_done}
use Rattle.answer.proofs.put_routes.Goals as goal

pub put_line-at-requires : goal.put_line-at-requires
put_line-at-requires c =
    let a = c.args in
    let l = c.loop-i in
    let n = as_many _ _ _ _ _ _ c.slot_of.ensures in
    let w = line_room a.edges.now a.present.points.now a.present.counts.now l.i some_edge (omega arith) c.requires.0 in
    omega arith

pub loop-i-preserved : goal.loop-i-preserved
loop-i-preserved c =
    let a = c.args in
    let l = c.loop-i in
    let f = c.put_line-at in
    let n = as_many _ _ _ _ _ _ c.slot_of.ensures in
    let e = f.ensures.place in
    let w = line_room a.edges.now a.present.points.now a.present.counts.now l.i some_edge (omega arith) c.requires.0 in record {
      place = omega arith;
      bytes = line_turn a.edges.now a.present.points.now a.present.counts.now l.i _ (omega arith) c.requires.0 l.out f.new.out l.at _ (omega arith) (rw c.slot_of.ensures at f.ensures.bytes) ∙ l.invariant.bytes;
    }

pub returns : goal.returns
returns c =
    let a = c.args in
    let l = c.loop-i in
    let z = lines_done a.edges.now a.present.points.now a.present.counts.now l.i (omega arith) in
    let y = ap length z in
    record { bytes = ap (λ x. sets l.out l.at x) (sym z) ∙ l.invariant.bytes; place = omega arith }
