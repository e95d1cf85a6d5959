use mathlib.Core.Path.{◌∙◌, sym}
use native.Mathlib.Numerals.{add-one}
use Rattle.checks.specs.MemberSlices.{depth_at}
use Rattle.member_rewriting.proofs.Members.{way_trunk, way_corridor}
use Rattle.member_rewriting.proofs.way_at.Goals as goal

pub returns-in-Trunk : goal.returns-in-Trunk
returns-in-Trunk c inside offset is = way_trunk inside offset _ (sym c.in-Trunk.is ∙ is)

pub returns-in-Corridor : goal.returns-in-Corridor
unfolding depth_at
returns-in-Corridor c inside offset is =
    rw (c.corridor_depth.ensures, add-one) (way_corridor inside _ offset _ _ (sym c.in-Corridor.is ∙ is))
