use native.Mathlib.Omega.{arith}
use Prim.Native.Nat.{◌+◌, ◌*◌, ◌≤◌}
use lib.ListN.{length}
use Rattle.answer.proofs.Stores.{head_length}
use Rattle.answer.proofs.WholeAnswer.{heads, nodes_part, routes_part, bundles_part, answer_joined, answer_is, answer_size, nodes_size}
use Rattle.answer.proofs.write_sheet.Goals as goal
use Rattle.answer.proofs.write_sheet.Goals.{Start}

-- the parts have room
parts_fit : (s : Start) → 36 + 20 * length s.args.nodes.now + length (routes_part s.args.f s.args.nodes.now s.args.edges.now s.args.present.points.now s.args.present.counts.now s.args.bundles.now s.args.taps.now) + length (bundles_part s.args.f s.args.nodes.now s.args.edges.now s.args.present.points.now s.args.present.counts.now s.args.bundles.now s.args.taps.now) ≤ length s.args.out.now
parts_fit s =
    let a = s.args in
    let p = s.requires in
    let q = answer_size a.f a.nodes.now a.edges.now a.present.points.now a.present.counts.now a.bundles.now a.taps.now p.counted in
    let w = p.room_for_it in
    omega arith

pub put_head-requires : goal.put_head-requires
put_head-requires c = let q = parts_fit (goal.at.put_head-requires c).Start in omega arith

pub put_records-after_nodes-requires : goal.put_records-after_nodes-requires
put_records-after_nodes-requires c =
    let q = parts_fit (goal.at.put_records-after_nodes-requires c).Start in
    let k0 = c.put_head.auto.out in
    omega arith

pub put_routes-after_routes-requires : goal.put_routes-after_routes-requires
put_routes-after_routes-requires c =
    let q = parts_fit (goal.at.put_routes-after_routes-requires c).Start in
    let k0 = c.put_head.auto.out in
    let k1 = c.put_records-after_nodes.auto.out in
    let e1 = c.put_records-after_nodes.ensures.place in
    (c.requires.counted, omega arith)

pub put_bundles-end-requires : goal.put_bundles-end-requires
put_bundles-end-requires c =
    let q = parts_fit (goal.at.put_bundles-end-requires c).Start in
    let k0 = c.put_head.auto.out in
    let k1 = c.put_records-after_nodes.auto.out in
    let k2 = c.put_routes-after_routes.auto.out in
    let e1 = c.put_records-after_nodes.ensures.place in
    let e2 = c.put_routes-after_routes.ensures.place in
    (c.requires.windows, omega arith)

pub put_id-requires : goal.put_id-requires
put_id-requires c =
    let q = parts_fit (goal.at.put_id-requires c).Start in
    let k0 = c.put_head.auto.out in
    let k1 = c.put_records-after_nodes.auto.out in
    let k2 = c.put_routes-after_routes.auto.out in
    let k3 = c.put_bundles-end.auto.out in
    omega arith

pub returns : goal.returns
returns c =
    let a = c.args in
    let p = c.requires in
    let q = answer_size a.f a.nodes.now a.edges.now a.present.points.now a.present.counts.now a.bundles.now a.taps.now p.counted in
    let e1 = c.put_records-after_nodes.ensures.place in
    let e2 = c.put_routes-after_routes.ensures.place in
    let e3 = c.put_bundles-end.ensures.place in
    let ns = nodes_size a.f a.nodes.now a.edges.now a.present.points.now a.present.counts.now a.bundles.now a.taps.now in
    let h = head_length a.f.tap_visits a.f.geometry_visits a.f.width a.f.height (length a.nodes.now) (length a.edges.now) (length a.bundles.now) in record {
      bytes = rw (c.put_id.ensures, c.put_bundles-end.ensures.bytes, c.put_routes-after_routes.ensures.bytes, c.put_records-after_nodes.ensures.bytes, c.put_head.ensures, answer_is a.f a.nodes.now a.edges.now a.present.points.now a.present.counts.now a.bundles.now a.taps.now p.counted)
          (answer_joined a.out.now (heads a.f a.nodes.now a.edges.now a.present.points.now a.present.counts.now a.bundles.now a.taps.now) (nodes_part a.f a.nodes.now a.edges.now a.present.points.now a.present.counts.now a.bundles.now a.taps.now) (routes_part a.f a.nodes.now a.edges.now a.present.points.now a.present.counts.now a.bundles.now a.taps.now) (bundles_part a.f a.nodes.now a.edges.now a.present.points.now a.present.counts.now a.bundles.now a.taps.now) _ _ _ h (omega arith) e2 e3);
      place = omega arith;
    }
