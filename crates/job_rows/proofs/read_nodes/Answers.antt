-- `job_rows::read_nodes` meets its contract. Assumes nothing.
use Rattle.std.proofs.Common.{◌≡◌, ℕ, ◌∷◌, [], take, map, length, sym, ◌∙◌, arith}
use Rattle.std.proofs.lemmas.List.{map-append}
use Rattle.std.proofs.Common.{take_all}
use Rattle.std.proofs.lemmas.Result.{err_from_is_err_and}
use Rattle.job.specs.Job.{push, node, node_key}
use Rattle.job.specs.LoopSteps.{one_more, pushed, push_stopped, done}
use Rattle.job_rows.proofs.read_nodes.Goals as goal

pub returns-in_err-n : goal.returns-in_err-n
returns-in_err-n c =
    let a = c.args in
    let l = c.loop-key in
    let p = err_from_is_err_and c.from_residual.result c.from_residual.ensures.1 in
    rw (p.1, p.2) (sym l.invariant.2 ∙ push_stopped (node a.grid) (length a.keys.now) l.key-index l.rows.items l.s.bytes.now _ (omega arith) (sym c.in_err-n.ensures))

pub loop-key-preserved : goal.loop-key-preserved
loop-key-preserved c =
    let a = c.args in
    let l = c.loop-key in (
      c.push.ensures.len ∙ rw l.invariant.0,
      rw (one_more l.keys l.key-index _ (omega arith), c.push.ensures.items, map-append node_key l.rows.items (_ ∷ []), l.invariant.1),
      pushed (node a.grid) (length a.keys.now) l.key-index l.rows.items l.s.bytes.now _ _ c.node.new.s.bytes.now (omega arith) (sym c.in_ok-n.ensures) c.push.ensures.items ∙ l.invariant.2,
    )

pub returns : goal.returns
returns c =
    let a = c.args in
    let l = c.loop-key in
    let q : l.key-index ≡ (length a.keys.now) = omega arith in
    record {
      is = sym l.invariant.2 ∙ done (push (node a.grid)) (length a.keys.now) l.key-index l.rows.items l.s.bytes.now (omega arith);
      keyed = sym (take_all l.key-index l.keys (omega arith)) ∙ l.invariant.1;
      rows = l.invariant.0 ∙ q;
    }
