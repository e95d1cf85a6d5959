-- `job_rows::read_ports` meets its contract. Assumes nothing.
use Rattle.std.proofs.Common.{◌≡◌, ℕ, [], take, length, refl, sym, ◌∙◌, arith}
use Rattle.std.proofs.Common.{take_all}
use Rattle.std.proofs.lemmas.Result.{err_from_is_err_and}
use Rattle.job.specs.Job.{push, port, port_key}
use Rattle.job.specs.LoopSteps.{one_more, pushed, push_stopped, begun, done}
use Rattle.job.proofs.Lookups.{looked_up_or, none_yet, one_more_read}
use Rattle.job_rows.proofs.read_ports.Goals as goal

pub loop-key-init : goal.loop-key-init
loop-key-init c = let a = c.args in rw c.new-rows.ensures (refl, none_yet port_key _ _ (begun (push (port a.grid)) (length a.keys.now) [] a.s.now.bytes.now))

pub returns-in_err-p : goal.returns-in_err-p
returns-in_err-p c =
    let a = c.args in
    let l = c.loop-key in
    let r = l.invariant.1 in
    let p = err_from_is_err_and c.from_residual.result c.from_residual.ensures.1 in
    rw (p.1, p.2) (sym r.left ∙ push_stopped (port a.grid) (length a.keys.now) l.key-index r.raw l.s.bytes.now _ (omega arith) (sym c.in_err-p.ensures))

pub loop-key-preserved : goal.loop-key-preserved
loop-key-preserved c =
    let a = c.args in
    let l = c.loop-key in
    let r = l.invariant.1 in (
      c.push.ensures.len ∙ rw l.invariant.0,
      one_more_read port_key _ _ _ l.key-index (take l.key-index l.keys) _ l.known _ l.rows.items _ r _ _
          (one_more l.keys l.key-index _ (omega arith))
          (looked_up_or _ _ _ _ c.is_some-known.ensures c.unwrap_or_default.ensures c.port_row-port.ensures)
          c.push.ensures.items
          (pushed (port a.grid) (length a.keys.now) l.key-index r.raw l.s.bytes.now _ _ c.port.new.s.bytes.now (omega arith) (sym c.in_ok-p.ensures) refl ∙ r.left),
    )

pub returns : goal.returns
returns c =
    let a = c.args in
    let l = c.loop-key in
    let r = l.invariant.1 in
    let q : l.key-index ≡ (length a.keys.now) = omega arith in
    record {
      raw = r.raw;
      is = sym r.left ∙ done (push (port a.grid)) (length a.keys.now) l.key-index r.raw l.s.bytes.now (omega arith);
      keyed = sym (take_all l.key-index l.keys (omega arith)) ∙ r.keyed;
      known = r.known;
      rows = l.invariant.0 ∙ q;
    }
