use Rattle.route.proofs.WindowSteps.{stores}
use native.Mathlib.Omega.{arith}
use Rattle.route_slots.proofs.store_route.Goals as goal

pub returns : goal.returns
returns c =
    let a = c.args in
    let r = a.route in
    stores r.points.now a.slots.now _ a.counts.now r.start r.count a.e (omega arith) (omega arith) (omega arith) c.copy_points.ensures
