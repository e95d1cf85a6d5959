-- `plan_searches::search_between` meets its contract. Assumes nothing.
use Prim.Native.Nat.{ℕ, ◌+◌, ◌-◌, ◌≤◌}
use native.Mathlib.Omega.{arith}
use lib.ListN.{length}
use Rattle.limits.specs.Limits.{max_bundle_members}
use Rattle.plan_searches.proofs.Seeks as laws
use Rattle.plan_searches.proofs.search_between.Goals as goal

pub common_horizontal_collector_x-requires : goal.common_horizontal_collector_x-requires
common_horizontal_collector_x-requires c =
    let a = c.args in
    let r = a.setting.routes in
    let k : ℕ = a.u.first + a.u.count - a.u.first in
    let h : a.u.first + k ≤ length r.starts.now = omega (arith, c.requires.among.fits) in
    let few : k ≤ max_bundle_members = omega (arith, c.requires.among.few) in
    let rooms = laws.part_rooms r.points.now r.starts.now r.counts.now r.windows a.setting.short a.u.first k h few a.work.now.xs.now a.work.now.scratch.now a.work.now.room a.u.role a.setting.pitch in
    record { room = rooms.0; scratch_room = rooms.1 }
