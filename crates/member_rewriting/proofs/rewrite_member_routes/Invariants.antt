use mathlib.Core.Bool.{Bool}
use mathlib.Core.Path.{◌≡◌}
use lib.Ieee.{Float}
use lib.ListN.{length}
use Rattle.route.specs.Slots.{routes_of}
use Rattle.plan.specs.MemberColumns.{edges_of}
use Rattle.drawing.specs.Rewrite.{rewrite_all}
use Rattle.checks.specs.LentRows.{taps_of}
use Rattle.checks.specs.MemberSlices.{Roomy}
use Rattle.member_rewriting.specs.Ways.{way_of}
use Rattle.member_rewriting.proofs.Members.{rest_all}
use Rattle.member_rewriting.proofs.rewrite_member_routes.Given as goal

abbrev pub invariant-loop-i : goal.invariant-loop-i
invariant-loop-i l = record {
  roomy : Roomy (edges_of l.members) 0 l.i (length l.members) l.points l.counts;
  told : (inside : Bool) (offset : Float) → l.lead.way ≡ way_of inside offset → rest_all inside l.lead.role l.lead.pitch offset l.members l.taps l.i (routes_of l.points l.counts)
      ≡ rewrite_all inside l.lead.role l.lead.pitch offset (taps_of l.members l.taps) l.members (routes_of l.initial.points l.initial.counts);
}
