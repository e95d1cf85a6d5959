-- `planner::reach_bundles` meets its contract. Assumes nothing.
use Rattle.geometry.specs.declared.Role.TheVariants.{Input, Output}
use Rattle.plan.specs.Lent.{board_with}
use Rattle.planner.proofs.MemberTurns as laws
use Rattle.planner.proofs.reach_bundles.Goals as goal

pub returns-clause-told : goal.returns-clause-told
returns-clause-told c =
    let a = c.args in
    let t = a.t in
    let e = c.bundle_ends-ends in
    λ table given w.
    let b = board_with t table in
    let rowed = laws.rowed t table in
    let ended = laws.ended t table e.result.rows e.ensures in
    c.reaches.ensures.told b given _ ended rowed w (
      laws.cornered t table Input a.offsets.rows _ c.requires.offsets_of (λ n. c.add_all_corridors.ensures.inputs b n rowed ended),
      laws.cornered t table Output a.offsets.rows _ c.requires.offsets_of (λ n. c.add_all_corridors.ensures.outputs b n rowed ended),
    )
