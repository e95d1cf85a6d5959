-- `promotion::promotion_candidates` meets its contract. Assumes nothing.
use mathlib.Core.Path.{ap}
use Prim.Native.Nat.{◌≤◌}
use native.Mathlib.Omega.{arith}
use lib.ListN.{length}
use Rattle.std.proofs.lemmas.Result.{err_from_is_err_and}
use Rattle.search.specs.Lent.{members_lent}
use Rattle.search.specs.Promotion.{then_adjacent}
use Rattle.search.proofs.Parts as parts
use Rattle.promotion.proofs.promotion_candidates.Goals as goal

pub add_adjacent-requires : goal.add_adjacent-requires
add_adjacent-requires c =
    let x = c.common_horizontal_collector_xs in
    let a = c.args in
    let ms = members_lent a.sought.role a.sought.pitch a.sought.routes in
    let n = c.in_ok-n.n in
    let h : n ≤ length x.new.xs = omega (arith, x.auto.xs, c.in_ok-n.ensures.within) in
    record { room = omega (arith, parts.count_few a.sought.role a.sought.bounds ms a.granted.0 x.new.xs n c.in_ok-n.left h c.in_ok-n.ensures.are, x.auto.xs, c.requires.room); scratch_room = omega (arith, x.auto.xs, x.auto.scratch, c.requires.scratch_room) }

pub returns-in_err-n : goal.returns-in_err-n
returns-in_err-n c =
    let a = c.args in
    let p = err_from_is_err_and c.from_residual.result c.from_residual.ensures.1 in
    rw (p.1, p.2) (record { within = tt; are = ap (then_adjacent a.sought.role a.sought.pitch a.sought.bounds (members_lent a.sought.role a.sought.pitch a.sought.routes)) c.in_err-n.ensures.are })
