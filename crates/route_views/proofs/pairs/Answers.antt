-- `route_views::pairs` meets its contract. Assumes nothing.
use Rattle.route_views.proofs.InPairs.{pairs_count, pair_is}
use Rattle.route_views.proofs.pairs.Goals as goal

pub returns-clause-count : goal.returns-clause-count
returns-clause-count c = let v = c.args.v in pairs_count v.points.now v.start v.count v.inside _ c.as_chunks.ensures.front_len

pub returns-clause-points : goal.returns-clause-points
returns-clause-points c i h = let v = c.args.v in pair_is v.points.now v.start v.count v.inside _ c.as_chunks.ensures.front i h
