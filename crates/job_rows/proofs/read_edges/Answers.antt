-- `job_rows::read_edges` meets its contract. Assumes nothing.
use Rattle.std.proofs.Common.{◌≡◌, ℕ, [], take, length, refl, sym, ◌∙◌, arith}
use Rattle.std.proofs.Common.{take_all}
use Rattle.std.proofs.lemmas.Result.{err_from_is_err_and}
use Rattle.wire.specs.ReadLaws.{many_refused}
use Rattle.geometry.specs.Points.{points_from}
use Rattle.route.specs.Window.{points_length}
use Rattle.job.specs.Job.{edge_key, next_edge}
use Rattle.job.specs.LoopSteps.{one_more, begun, done, edge_turn, edge_head_refused, edge_points_refused}
use Rattle.job.proofs.Windows.{edge_window}
use Rattle.job.proofs.Lookups.{looked_up_or, none_yet, one_more_read}
use Rattle.job_rows.proofs.read_edges.Goals as goal

pub loop-key-init : goal.loop-key-init
unfolding points_from
loop-key-init c = let a = c.args in rw c.new-rows.ensures (refl, omega arith, none_yet edge_key _ _ (begun (next_edge a.grid) (length a.keys.now) (record { edges = []; points = [] }) a.s.now.bytes.now))

pub returns-in_err-e : goal.returns-in_err-e
returns-in_err-e c =
    let a = c.args in
    let l = c.loop-key in
    let r = l.invariant.2 in
    let ps = points_from l.points 0 l.total in
    let p = err_from_is_err_and c.from_residual.result c.from_residual.ensures.1 in
    rw (p.1, p.2)
    (sym r.left ∙ many_refused (next_edge a.grid) (length a.keys.now) l.key-index (record { edges = r.raw; points = ps }) l.s.bytes.now _ (omega arith)
    (edge_head_refused a.grid r.raw ps l.total (points_length l.points 0 l.total) l.s.bytes.now _ (sym c.in_err-e.ensures)))

pub returns-in_err-read_points : goal.returns-in_err-read_points
returns-in_err-read_points c =
    let a = c.args in
    let l = c.loop-key in
    let r = l.invariant.2 in
    let ps = points_from l.points 0 l.total in
    let f = c.from_residual-in_err-read_points in
    let p = err_from_is_err_and f.result f.ensures.1 in
    rw (p.1, p.2)
    (sym r.left ∙ many_refused (next_edge a.grid) (length a.keys.now) l.key-index (record { edges = r.raw; points = ps }) l.s.bytes.now _ (omega arith)
    (edge_points_refused a.grid r.raw ps l.total (points_length l.points 0 l.total) l.s.bytes.now _ c.edge_head.new.s.bytes.now _ (sym c.in_ok-e.ensures) (sym c.in_err-read_points.ensures)))

pub loop-key-preserved : goal.loop-key-preserved
loop-key-preserved c =
    let a = c.args in
    let l = c.loop-key in
    let r = l.invariant.2 in
    let head = sym c.in_ok-e.ensures in
    let w = edge_window l.total l.s.bytes.now _ c.edge_head.new.s.bytes.now head in (
      c.push.ensures.len ∙ rw l.invariant.0,
      omega arith,
      one_more_read edge_key _ _ _ l.key-index (take l.key-index l.keys) _ l.known _ l.rows.items _ r _ _
          (one_more l.keys l.key-index _ (omega arith))
          (looked_up_or _ _ _ _ c.is_some-known.ensures c.unwrap_or_default.ensures c.edge_row-edge.ensures)
          c.push.ensures.items
          (edge_turn a.grid r.raw (length a.keys.now) l.key-index l.total (points_from l.points 0 l.total) _ l.s.bytes.now _ _ _ (omega arith) (points_length l.points 0 l.total) head
          (sym c.in_ok-read_points.ensures) ∙ r.left),
    )

pub returns : goal.returns
returns c =
    let a = c.args in
    let l = c.loop-key in
    let r = l.invariant.2 in
    let q : l.key-index ≡ (length a.keys.now) = omega arith in
    record {
      raw = r.raw;
      is = sym r.left ∙ done (next_edge a.grid) (length a.keys.now) l.key-index (record { edges = r.raw; points = points_from l.points 0 l.total }) l.s.bytes.now (omega arith);
      keyed = sym (take_all l.key-index l.keys (omega arith)) ∙ r.keyed;
      known = r.known;
      rows = l.invariant.0 ∙ q;
      total = l.invariant.1;
    }
