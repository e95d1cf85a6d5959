-- `sheet_replay::put_page` is safe and ends. Assumes nothing.
use Rattle.std.proofs.Common.{◌≡◌, ◌≤◌, length, ap, ◌∙◌, arith, rules}
use Rattle.limits.specs.Limits.{any_answer_room}
use Rattle.answer.specs.Answer.{answer_bytes}
use Rattle.answer.specs.SheetTables.{sheet_of}
use Rattle.plan.proofs.TableReads.{length_mapped}
use Rattle.sheet_replay.proofs.Room.{at_most}
use Rattle.sheet_replay.proofs.put_page.Goals as goal
use Rattle.sheet_replay.proofs.put_page.Goals.{Start, After-as_slice}

page_long : (s : Start) → length s.args.page.now ≡ any_answer_room
page_long s = search (rules, length_mapped)

-- as many taps as members
taps_long : (c : After-as_slice) → length c.as_slice.result.now ≡ length c.args.s.members.now
taps_long c =
    let t = c.tap_rows-t in
    ap length c.as_slice.ensures.value ∙ t.ensures.count_is

-- how many bytes are written
few : (c : After-as_slice) → length (answer_bytes (sheet_of c.args.f c.args.s.nodes.now c.args.s.edges.now c.args.s.present.points.now c.args.s.present.counts.now c.args.s.drawn.now c.as_slice.result.now)) ≤ any_answer_room
few c =
    let s = c.args.s in
    let h = c.requires.nodes_le_max_nodes in
    at_most c.args.f s.nodes.now s.edges.now s.present.points.now s.present.counts.now s.drawn.now c.as_slice.result.now h.0 h.1 s.present.slots.hold h.2 (omega (arith, taps_long c, h.3))

pub write_answer-n-requires : goal.write_answer-n-requires
write_answer-n-requires c =
    let a = (goal.at.write_answer-n-requires c).After-as_slice in
    let on = c.args.s.present.slots in
    record {
      tables = record { counted = c.requires.edges_in_bounds; windows = rw (taps_long a) c.requires.windows.0; room_for_it = omega (arith, page_long (goal.at.write_answer-n-requires c).Start, few a) };
      stored = omega (arith, on.slots, c.requires.edges_in_bounds);
      held = on.hold;
    }

pub shared_ref_as_front-put : goal.shared_ref_as_front-put
shared_ref_as_front-put c = rw c.write_answer-n.ensures.place (few (goal.at.shared_ref_as_front-put c).After-as_slice)
