-- `job_keys::find` meets its contract. Assumes nothing.
use Rattle.std.proofs.Common.{rules, tests}
use Rattle.std.proofs.lemmas.Iterator.{YieldsList-from_slice}
use Rattle.std.proofs.lemmas.Iterator.Search.{position_from_yields_List}
use Rattle.job.specs.Keys.{Key, same}
use Rattle.job_keys.proofs.Places.{placed}
use Rattle.job_keys.proofs.find.Goals as goal

pub returns : goal.returns
returns c =
    let key = c.args.key in
    placed key c.args.keys.now _ (position_from_yields_List (λ (l : Key). same l key) _ _ c.position.result c.position.ensures.ran (YieldsList-from_slice _ c.iter.ensures.rest) (λ x b q k. search (rules, tests)))
