use mathlib.Core.Path.{ap}
use mathlib.Core.Bool.{Bool}
use Rattle.geometry.specs.declared.Segment.{Segment}
use Rattle.board.specs.declared.Bundle.{Bundle}
use Rattle.board.specs.declared.DrawnBundle.{DrawnBundle}
use Rattle.drawing.specs.Build.{pt, seg}
use Rattle.checks.specs.MemberSlices.{drawn_row}
use Rattle.bundle_geometry.proofs.drawn_with.Goals as goal

abbrev marked : Bundle → Segment → Segment → Bool → DrawnBundle
marked u collector spine i = record { id = u.id; interior = i; collector = collector; spine = spine; first = u.first; count = u.count }

pub returns : goal.returns
unfolding drawn_row
returns c =
    let a = c.args in
    let e = rw (c.pitch_of_bundle-pitch.ensures, c.boundary_bundle_rail_depth-depth.ensures) at c.counts_interior-interior.ensures in
    ap (λ (i : Bool). marked a.b.bundle (seg (pt a.corner.x a.reach.low) (pt a.corner.x a.reach.high)) (seg a.b.end a.corner) i) e
