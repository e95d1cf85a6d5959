use Rattle.route.proofs.WindowSteps.{replaces_is}
use borrow.Author.Tests.{le-ltb, ne_eqb}
use Rattle.route_pushing.proofs.replaces_last.Goals as goal

pub returns : goal.returns
returns c = rw (c.is_aligned.ensures, c.view_point-before.ensures, replaces_is, ne_eqb _ _ c.if-route-eq0.false, ← c.view_last-last.ensures, ← c.preserved_point_matches.ensures, c.if-preserved_point_matches.false, le-ltb _ _ c.if-route-lt2.false)
