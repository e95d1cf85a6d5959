use native.Mathlib.Omega.{arith}
use mathlib.Core.Path.{◌∙◌, sym}
use Rattle.std.proofs.lemmas.Result.{err_from_is_err_and}
use Rattle.route.specs.Slots.{routes_of}
use Rattle.member_rewriting.proofs.Members.{all_on, all_off, all_end, one_read, row_known, row_room, row_next}
use Rattle.member_rewriting.proofs.rewrite_member_routes.Goals as goal

pub way_at-way-requires : goal.way_at-way-requires
way_at-way-requires c = c.requires.small c.loop-i.i c.loop-i-test.true

pub rewrite_member-requires : goal.rewrite_member-requires
rewrite_member-requires c =
    let a = c.args in
    let l = c.loop-i in
    let r = l.invariant.roomy in
    let h = c.loop-i-test.true in
    (row_known a.members.now l.i l.points l.counts r h, r.slots, r.hold, row_room a.members.now l.i l.points l.counts r h, omega arith)

pub returns-in_err-rewrite_member-clause-told : goal.returns-in_err-rewrite_member-clause-told
returns-in_err-rewrite_member-clause-told c inside offset is =
    let a = c.args in
    let l = c.loop-i in
    let y = c.way_at-way in
    let w = c.in_err-rewrite_member.ensures.told in
    let p = err_from_is_err_and c.from_residual.result c.from_residual.ensures.1 in
    rw p.1 (all_off inside a.lead.role a.lead.pitch offset a.members.now a.taps.now l.i (routes_of l.points l.counts) _ _ c.loop-i-test.true c.requires.tapped (w ∙ sym (one_read inside a.lead.role a.lead.pitch offset y.result a.members.now a.taps.now l.i (routes_of l.points l.counts) (y.ensures inside offset is))) ∙ l.invariant.told inside offset is)

pub loop-i-preserved : goal.loop-i-preserved
loop-i-preserved c =
    let a = c.args in
    let l = c.loop-i in
    let f = c.in_ok-rewrite_member.ensures in
    record {
      roomy = row_next a.members.now l.i l.points l.counts l.invariant.roomy c.loop-i-test.true _ _ f.kept (omega arith) (omega arith);
      told = λ inside offset is.
          let y = c.way_at-way in
          let w = f.told in
          all_on inside a.lead.role a.lead.pitch offset a.members.now a.taps.now l.i (routes_of l.points l.counts) _ _ c.loop-i-test.true c.requires.tapped (w ∙ sym (one_read inside a.lead.role a.lead.pitch offset y.result a.members.now a.taps.now l.i (routes_of l.points l.counts) (y.ensures inside offset is))) ∙ l.invariant.told inside offset is;
    }

pub returns-clause-told : goal.returns-clause-told
returns-clause-told c inside offset is =
    let a = c.args in
    let l = c.loop-i in
    all_end inside a.lead.role a.lead.pitch offset a.members.now a.taps.now l.i l.points l.counts c.loop-i-test.false ∙ l.invariant.told inside offset is
