use Rattle.std.proofs.Common.{◌∙◌}
use Rattle.bundle_geometry.proofs.Taps.{center_some, center_none}
use Rattle.bundle_geometry.proofs.middle_lane.Goals as goal

pub returns-in-Some : goal.returns-in-Some
returns-in-Some c = c.half_of.ensures ∙ center_some c.args.members.now c.in-Some.member.now (rw c.in-Some.is at c.last.ensures.value)

pub returns-in-None : goal.returns-in-None
returns-in-None c = c.half_of-in-None.ensures ∙ center_none c.args.members.now (rw c.in-None.is at c.last.ensures.value)
