-- `sheet_replay::put_pages` is safe and ends. Assumes nothing.
use Rattle.std.proofs.Common.{ℕ, ◌≤◌, length, arith}
use Rattle.answer.specs.SheetTables.{Windows}
use Rattle.plan.specs.MemberColumns.{edges_of}
use Rattle.normalize.proofs.Shift.{windows_kept}
use Rattle.draw_job.proofs.Answers as answers
use Rattle.sheet_replay.proofs.put_pages.Goals as goal
use Rattle.sheet_replay.proofs.put_pages.Goals.{Start}

-- the taps of each bundle are among those of the members
windows : (s : Start) → Windows s.args.drawn.now.items (length s.args.j.now.members.items)
windows s =
    let a = s.args in
    answers.windows a.j.now (edges_of a.j.now.members.items) a.drawn.now a.points.now a.counts.now a.taps.now s.requires.on_sheet

pub put_page-next-requires-clause-windows : goal.put_page-next-requires-clause-windows
put_page-next-requires-clause-windows c =
    rw (c.as_slice-rows.ensures.value, c.as_slice-members.ensures.value) (windows (goal.at.put_page-next-requires-clause-windows c).Start, c.requires.on_sheet.places)

pub normalize_layout-l-requires-clause-taps : goal.normalize_layout-l-requires-clause-taps
normalize_layout-l-requires-clause-taps c =
    let w = windows (goal.at.normalize_layout-l-requires-clause-taps c).Start in
    rw c.as_slice-rows.ensures.value (λ i d h. let z = w i d h in omega (arith, z, c.requires.on_sheet.places))

pub put_page-requires-clause-windows : goal.put_page-requires-clause-windows
put_page-requires-clause-windows c =
    let a = c.args in
    let n = c.normalize_layout-l in
    let w = windows (goal.at.put_page-requires-clause-windows c).Start in
    rw (c.as_slice-2.ensures.value, c.as_slice-members.ensures.value)
    (windows_kept (length a.j.now.members.items) a.drawn.now.items n.result.drawn.items (rw c.as_slice-rows.ensures.value at n.ensures.rows) w, omega (arith, n.auto.taps, c.requires.on_sheet.places))
