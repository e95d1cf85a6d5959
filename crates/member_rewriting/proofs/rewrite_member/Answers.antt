use Rattle.std.proofs.lemmas.Result.{err_from_is_err_and}
use native.Mathlib.Omega.{arith}
use borrow.Author.Rules.{rules}
use Rattle.member_rewriting.specs.Ways.{is_trunk, depth_of}
use Rattle.member_rewriting.proofs.Members.{same_kept, member_short, member_refused, member_tiny, member_made, made_most, counts_made}
use Rattle.member_rewriting.proofs.rewrite_member.Goals as goal

pub returns-then-n-lt2 : goal.returns-then-n-lt2
returns-then-n-lt2 c =
    let a = c.args in
    record { told = member_short (is_trunk a.lead.way) a.lead.role a.lead.pitch (depth_of a.lead.way) a.tap a.points.now a.counts.now a.e c.requires.0 c.if-n-lt2.true; refusal = search rules; kept = same_kept a.counts.now a.e c.requires.2 }

pub returns-then-m-lt2 : goal.returns-then-m-lt2
returns-then-m-lt2 c =
    let a = c.args in
    let o = c.in_ok-m.ensures.ok_part in
    let x = rw o at c.rewrite_route.ensures in
    record { told = member_tiny (is_trunk a.lead.way) a.lead.role a.lead.pitch (depth_of a.lead.way) a.tap a.points.now a.counts.now a.e c.requires.0 _ _ _ _ c.if-n-lt2.false c.if-m-lt2.true x; refusal = search rules; kept = same_kept a.counts.now a.e c.requires.2 }

pub store_route-requires : goal.store_route-requires
store_route-requires c =
    let a = c.args in
    let o = c.in_ok-m.ensures.ok_part in
    let x = rw o at c.rewrite_route.ensures in
    let m = made_most _ _ _ _ _ c.requires.3 x in
    (m, omega arith, omega arith)

pub returns-in_err-m : goal.returns-in_err-m
returns-in_err-m c =
    let a = c.args in
    let o = c.in_err-m.ensures.ok_part in
    let x = rw o at c.rewrite_route.ensures in
    let r = err_from_is_err_and c.from_residual.result c.from_residual.ensures.1 in
    record { told = rw r.1 (member_refused (is_trunk a.lead.way) a.lead.role a.lead.pitch (depth_of a.lead.way) a.tap a.points.now a.counts.now a.e c.requires.0 _ _ _ c.if-n-lt2.false x); refusal = search rules; kept = same_kept a.counts.now a.e c.requires.2 }

pub returns : goal.returns
returns c =
    let a = c.args in
    let o = c.in_ok-m.ensures.ok_part in
    let x = rw o at c.rewrite_route.ensures in
    let m = made_most _ _ _ _ _ c.requires.3 x in
    let y = c.store_route.ensures in
    record { told = member_made (is_trunk a.lead.way) a.lead.role a.lead.pitch (depth_of a.lead.way) a.tap a.points.now a.counts.now a.e c.requires.0 _ _ _ _ _ _ c.if-n-lt2.false c.if-m-lt2.false c.requires.2 x y; refusal = search rules; kept = counts_made _ _ _ _ _ _ _ m c.requires.2 y }

pub invariant_of-made : goal.invariant_of-made
invariant_of-made c =
    let o = c.in_ok-m.ensures.ok_part in
    let x = rw o at c.rewrite_route.ensures in
    let m = made_most _ _ _ _ _ c.requires.3 x in
    record { inside = omega arith }
