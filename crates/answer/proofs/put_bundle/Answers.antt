use native.Mathlib.Omega.{arith}
use Prim.Native.Nat.{◌+◌, ◌-◌}
use mathlib.Core.Path.{◌≡◌}
use Rattle.answer.proofs.Stores.{trunk_joined}
use Rattle.answer.proofs.put_bundle.Goals as goal

pub returns-clause-bytes : goal.returns-clause-bytes
returns-clause-bytes c =
    let a = c.args in
    let k : a.b.first + a.b.count - a.b.first ≡ a.b.count = omega arith in
    trunk_joined a.taps.now a.b c.requires.0 _ _ _ _ c.put_trunk_head.ensures (rw k at c.put_records.ensures.bytes)
