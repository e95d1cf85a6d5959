-- `plan_depths::corridor_depth_offsets` meets its contract. Assumes nothing.
use mathlib.Core.Path.{◌≡◌, ◌∙◌, ap}
use Prim.Native.Nat.{ℕ, ◌+◌, ◌-◌, ◌<◌}
use native.Mathlib.Omega.{arith}
use lib.ListN.{length, get_or, take, drop, length-set}
use Rattle.board.specs.Board.{Board}
use Rattle.plan.specs.Depths.{lane_count}
use Rattle.plan.specs.BoardTables.{no_bundle}
use Rattle.plan.specs.Lent.{board_with}
use Rattle.plan.proofs.TableReads as laws
use Rattle.plan_depths.proofs.corridor_depth_offsets.Goals as goal

pub loop-i-preserved : goal.loop-i-preserved
loop-i-preserved c =
    let t = c.args.t in
    let s = t.sound in
    let d = c.deepen-d in
    let p = c.pitch_of_bundle-pitch in
    let m = c.lane_count-lanes in
    let l = c.loop-i in
    let h : l.i < length t.bundles.now = c.loop-i-test.true in
    let rail = c.boundary_bundle_rail_depth-rail in
    let r = s.bundles_on l.i h in
    let g : l.i < length l.rows = omega (arith, s.bundles_few) in record {
      rows_length = length-set l.rows l.i d.result.offset ∙ l.invariant.rows_length;
      offsets_are = λ edges.
          let b : Board = board_with t edges in
          let u = get_or t.bundles.now l.i no_bundle in
          let n = laws.node_read b u r.port_in (s.ports_on u.port r.port_in) in
          let e : u.first + u.count - u.first ≡ u.count = omega arith in
          let k = m.ensures ∙ ap (λ (j : ℕ). lane_count (take j (drop u.first t.members.now))) e in
          laws.offsets_turn b t.bundles.now l.i l.rows l.w p.result _ m.result d.result h g
          p.ensures (laws.depth_is b u (get_or t.nodes.now (get_or t.ports.now u.port laws.null_port).node laws.null_node) rail.result n rail.ensures) k d.ensures
          ∙ l.invariant.offsets_are edges;
    }

pub returns : goal.returns
returns c =
    let t = c.args.t in
    let l = c.loop-i in
    let e : length t.bundles.now ≡ l.i = omega (arith, c.loop-i-test.false) in
    λ edges.
    ap (λ (j : ℕ). take j l.rows) e
    ∙ laws.offsets_end (board_with t edges) t.bundles.now l.i l.rows l.w c.loop-i-test.false
    ∙ l.invariant.offsets_are edges
