-- `draw_job::drawn_in` meets its contract. Assumes nothing.
use Rattle.std.proofs.Common.{rules}
use mathlib.Core.Path.{◌≡◌, refl, sym, ◌∙◌, ap, subst}
use mathlib.Core.Bool.{not, ◌&&◌}
use mathlib.Core.List.{List}
use Prim.Native.Nat.{ℕ, ◌≤◌}
use native.Mathlib.Omega.{arith}
use lib.ListN.{length, take, length-take}
use lib.Seq.{sets, length-take-le, length_front}
use lib.Ieee.{Float}
use Rattle.geometry.specs.declared.Point.{Point}
use Rattle.limits.specs.Limits.{max_bundles, id_columns, page_room, search_work}
use Rattle.board.specs.Board.{Board}
use Rattle.board.specs.Tables.{DrawnBundles}
use Rattle.board.specs.declared.DrawnBundle.{DrawnBundle}
use Rattle.plan.specs.MemberColumns.{edges_of}
use Rattle.checks.specs.Purse.{told}
use Rattle.job_tables.specs.Came.{job_in}
use Rattle.std.specs.Prelude.{Result, is_err}
use Rattle.std.proofs.lemmas.Result.{err_from_is_err_and}
use Rattle.plan.specs.Tables.{Planning}
use Rattle.refusal.specs.declared.Refusal.{Refusal}
use Rattle.refusal.specs.Refusal.{refusal_number}
use Rattle.plan_reader.specs.Reading.{told_plan}
use Rattle.plan_stage.specs.Entries.{plan_phase, after_taking}
use Rattle.job_tables.proofs.Ready as tables
use Rattle.normalize.proofs.Shift.{windows_kept}
use Rattle.normalize.specs.PageTables.{Windows}
use Rattle.bundle_page.specs.PageTables.{Printables}
use Rattle.bundle_page.proofs.Exact.{page_of_tables}
use Rattle.outputs.proofs.Front.{on_the_grid, wanted_room}
use Rattle.answer.specs.SheetTables.{sheet_of}
use Rattle.promise.specs.Stage.{Finished, drawn, answer_of}
use Rattle.draw_job.specs.JobTables.{MembersOn, TapsOf, OnSheet, finished}
use Rattle.draw_job.proofs.Listing as listing
use Rattle.draw_job.proofs.Listing.{Listed}
use Rattle.draw_job.proofs.Answers as answers
use Rattle.draw_job.proofs.Ready as ready
use Rattle.draw_job.proofs.Phases as laws
use Rattle.draw_job.proofs.drawn_in.Goals as goal
use Rattle.draw_job.proofs.drawn_in.Goals.{After-tap_rows-t, In_ok-d, Joined-wants, Joined-wants-2, Start, then-wants, else-wants, then-wants-2+in_ok-list_crossings, else-wants-2, then-wants-3, else-wants-3}

-- the plan that was chosen, and the slices that our own was made in
abbrev chosen-start : Joined-wants → Start
chosen-start c = (goal.at.Joined-wants c).Start

chosen : (c : Joined-wants) → told_plan (length (chosen-start c).args.j.now.bundles.items) c.if-wants.p ≡ plan_phase (chosen-start c).args.wants.plan (job_in (chosen-start c).args.j.now (chosen-start c).args.given.now) (chosen-start c).args.plan.now
chosen c =
    let s = chosen-start c in
    let a = s.args in
    let n = length a.j.now.bundles.items in
    let same : Result Planning Refusal → Type 0 = λ r. told_plan n r ≡ plan_phase a.wants.plan (job_in a.j.now a.given.now) a.plan.now in
    elim c.if-wants.branch [
      | then-wants x ↦ subst same (sym x.p-is) (laws.given_phase a.j.now a.given.now a.wants.plan x.if-wants.true a.plan.now x.read_plan-p.result (rw x.len.ensures.value at x.read_plan-p.ensures))
      | else-wants x ↦ subst same (sym x.p-is) (laws.own_phase a.j.now a.given.now s.requires.came.0 c.board_tables-board.result (c.board_tables-board.ensures a.given.now) x.plan_interior_collectors.result x.plan_interior_collectors.ensures a.wants.plan x.if-wants.false a.plan.now x.own_plan-p.result x.own_plan-p.ensures)
    ]

points_kept : (c : Joined-wants) → length c.if-wants.points ≡ length (chosen-start c).args.points.now
points_kept c =
    let a = (chosen-start c).args in
    elim c.if-wants.branch [
      | then-wants x ↦ ap length x.points-is
      | else-wants x ↦ ap length x.points-is ∙ length_front a.points.now x.plan_interior_collectors.new.scratch search_work x.plan_interior_collectors.auto.scratch
    ]

sorted-kept : (c : Joined-wants) → length c.if-wants.sorted ≡ length (chosen-start c).args.sorted.now
sorted-kept c = elim c.if-wants.branch [ then-wants x ↦ ap length x.sorted-is | else-wants x ↦ ap length x.sorted-is ∙ x.plan_interior_collectors.auto.xs ]

-- where every turn was clean: the slices after the last one
abbrev start : In_ok-d → Start
start c = (goal.at.In_ok-d c).Start

abbrev drawn_by : In_ok-d → DrawnBundles
drawn_by c = c.draw_sheet-d.result.drawn

abbrev edges_by : In_ok-d → List ℕ
edges_by c = edges_of c.board_tables-board.result.members.now

abbrev taps_by : In_ok-d → List Point
taps_by c = c.draw_sheet-d.new.taps

abbrev points-by : In_ok-d → List Float
points-by c = c.draw_sheet-d.new.points

abbrev counts-by : In_ok-d → List ℕ
counts-by c = c.draw_sheet-d.new.counts

-- Here and below, how the sheet ended is searched for, so that an edit of what is handed on is refused at the fact that does not hold.
on_sheet : (c : In_ok-d) → OnSheet (start c).args.j.now (edges_by c) (drawn_by c) (points-by c) (counts-by c) (taps_by c)
on_sheet c =
    let s = start c in
    let a = s.args in
    let d = c.draw_sheet-d in
    let lent = laws.lent_as a.j.now _ c.len-2.ensures.value _ _ c.if-wants.points _ _ _ (points_kept (goal.at.In_ok-d c).Joined-wants) s.requires.lent in
    laws.on_sheet a.j.now a.given.now s.requires.came.0 c.board_tables-board.result (c.board_tables-board.ensures a.given.now) _ _ _ _ _ lent (told d.result.ended d.new.visits.0) (drawn_by c) (taps_by c) (points-by c) (counts-by c) d.auto.taps d.auto.points d.auto.counts _ (laws.ended_clean d.result.ended d.new.visits.0 tt (search rules)) d.ensures.rows d.ensures.full d.ensures.hold

-- what is finished where every turn was clean, with so many visits left
abbrev done : In_ok-d → ℕ → Finished
done c rest = finished (start c).args.j.now (start c).args.given.now c.in_ok-made.made (edges_by c) (drawn_by c) (points-by c) (counts-by c) (taps_by c) rest

told_drawn : (c : In_ok-d) → after_taking (job_in c.args.j.now c.args.given.now) (plan_phase c.args.wants.plan (job_in c.args.j.now c.args.given.now) c.args.plan.now) ≡ drawn (done c c.draw_sheet-d.new.visits.0)
told_drawn c =
    let a = c.args in
    let d = c.draw_sheet-d in
    let o = c.corridor_depth_offsets-offsets in
    let from = c.requires.came.0 in
    let t = c.board_tables-board in
    let clean = laws.ended_clean d.result.ended d.new.visits.0 tt (search rules) in
    laws.all_drawn a.j.now a.given.now from t.result (t.ensures a.given.now) a.wants.plan a.plan.now c.if-wants.p (chosen (goal.at.In_ok-d c).Joined-wants) c.in_ok-made.made c.in_ok-made.was o.result.rows (told d.result.ended d.new.visits.0) (edges_by c) (drawn_by c) (points-by c) (counts-by c) (taps_by c) o.ensures d.ensures.told _ clean

windows : (c : In_ok-d) → Windows (drawn_by c).items (length (start c).args.j.now.members.items)
windows c = answers.windows (start c).args.j.now (edges_by c) (drawn_by c) (points-by c) (counts-by c) (taps_by c) (on_sheet c)

-- the answer that is written is the one that is told
abbrev turned : After-tap_rows-t → In_ok-d
turned c = (goal.at.After-tap_rows-t c).In_ok-d

told_answer : (c : After-tap_rows-t)
    → sheet_of (record { tap_visits = c.in_ok-made.made.left.0; geometry_visits = c.draw_sheet-d.new.visits.0; width = c.normalize_layout-l.result.width; height = c.normalize_layout-l.result.height }) c.normalize_layout-l.result.nodes.items c.args.j.now.edges.items c.normalize_layout-l.new.points (counts-by (turned c)) c.normalize_layout-l.result.drawn.items c.tap_rows-t.result.items
    ≡ answer_of (done (turned c) c.draw_sheet-d.new.visits.0)
told_answer c =
    let s = turned c in
    let a = c.args in
    let d = c.draw_sheet-d in
    let o = c.corridor_depth_offsets-offsets in
    let n = c.normalize_layout-l in
    let t = c.tap_rows-t in
    let b = c.board_tables-board in
    let same = b.ensures a.given.now in
    let drawn_is = c.as_slice-drawn.ensures.value in
    let nodes_are = ap (λ (x : Board). x.nodes) same in
    laws.all_told a.j.now a.given.now c.requires.came.0 b.result (b.ensures a.given.now) a.wants.plan a.plan.now c.if-wants.p (chosen (goal.at.In_ok-d s).Joined-wants) c.in_ok-made.made c.in_ok-made.was o.result.rows (told d.result.ended d.new.visits.0) (edges_by s) (drawn_by s) (points-by s) (counts-by s) (taps_by s) o.ensures d.ensures.told (record { 0 = d.new.visits.0 }) (on_sheet s) n.result n.new.points n.new.taps t.result (subst (λ (x : Board). TapsOf x.edges x.members n.new.taps t.result) same t.ensures) (rw (nodes_are, drawn_is) at n.ensures.page (edges_by s)) (rw drawn_is at n.ensures.rows)

-- the edges as they are lent
edges_are : (c : In_ok-d) → c.board_tables-board.result.edges.now ≡ (start c).args.j.now.edges.items
edges_are c = ap (λ (x : Board). x.edges) (c.board_tables-board.ensures (start c).args.given.now)

-- the list past 19; which visits are left is no matter
listed_by : (c : Joined-wants-2) (rest : ℕ) → Listed c.args.wants (done (goal.at.Joined-wants-2 c).In_ok-d rest) (c.args.wants.page && not c.args.j.now.flags.on_grid) c.args.crossings.now c.if-wants-2.crossings
listed_by c rest =
    let e = (goal.at.Joined-wants-2 c).In_ok-d in
    let a = c.args in
    elim c.if-wants-2.branch [
      | then-wants-2+in_ok-list_crossings x ↦ listing.wanted_listed a.j.now a.given.now c.in_ok-made.made (edges_by e) (drawn_by e) (points-by e) (counts-by e) (taps_by e) rest (on_sheet e) a.wants _ (is_err x.list_crossings.result) _ _ x.if-wants-2.true (rw (edges_are e, c.as_slice-drawn.ensures.value) at x.list_crossings.ensures.too_many) (x.crossings-is ∙ rw (edges_are e, c.as_slice-drawn.ensures.value) at x.list_crossings.ensures.bytes) (ap is_err x.in_ok-list_crossings.was)
      | else-wants-2 x ↦ listing.unwanted_listed a.wants _ _ _ _ x.if-wants-2.false x.crossings-is
    ]

pub plan_interior_collectors-requires : goal.plan_interior_collectors-requires
plan_interior_collectors-requires c =
    let a = c.args in
    let x = length-take-le search_work a.points.now c.requires.search_work_in_bounds.0 in
    record { routes_in = tables.routes_lent a.j.now a.given.now c.requires.came.0 c.board_tables-board.result (c.board_tables-board.ensures a.given.now); search_room = (omega (arith, c.requires.search_work_in_bounds.1), omega (arith, x, c.requires.search_work_in_bounds.1)); offsets_of = c.corridor_depth_offsets-offsets.ensures }

pub returns-in_err-made : goal.returns-in_err-made
returns-in_err-made c =
    let a = c.args in
    let p = err_from_is_err_and c.from_residual.result c.from_residual.ensures.1 in
    rw p.1 (laws.refused_outputs a.wants _ _ (laws.phase_refused a.j.now a.given.now a.wants.plan a.plan.now c.if-wants.p (chosen (goal.at.returns-in_err-made c).Joined-wants) _ _ (ap refusal_number p.2) c.in_err-made.was), refl)

pub draw_sheet-d-requires : goal.draw_sheet-d-requires
draw_sheet-d-requires c =
    let a = c.args in
    let lent = laws.lent_as a.j.now _ c.len-2.ensures.value _ _ _ _ _ _ (points_kept (goal.at.draw_sheet-d-requires c).Joined-wants) c.requires.lent in
    let from = c.requires.came.0 in
    let t = c.board_tables-board.result in
    let same = c.board_tables-board.ensures a.given.now in
    record {
      tables = tables.routes_lent a.j.now a.given.now from t same;
      once = (ready.follow a.j.now a.given.now from t same, ready.once_a_role a.j.now a.given.now from t same);
      exact = ready.exact a.j.now a.given.now from t same _ _ _ _ _ lent;
      room = ready.room a.j.now a.given.now from t same _ _ _ _ _ lent;
    }

-- the bundles drawn and the routes, counted
few_drawn : (c : In_ok-d) → length (drawn_by c).items ≤ max_bundles
few_drawn c = let on = on_sheet c in omega (arith, on.all_drawn, on.fits.bundles)

routes_long : (c : In_ok-d) → length c.board_tables-board.result.edges.now ≡ length (start c).args.j.now.edges.items
routes_long c =
    let s = start c in
    tables.edges_lent s.args.j.now s.args.given.now s.requires.came.0 c.board_tables-board.result (c.board_tables-board.ensures s.args.given.now)

taps_long : (c : In_ok-d) → length c.board_tables-board.result.members.now ≡ length (start c).args.j.now.members.items
taps_long c =
    let s = start c in
    tables.members_lent s.args.j.now s.args.given.now s.requires.came.0 c.board_tables-board.result (c.board_tables-board.ensures s.args.given.now)

pub list_crossings-requires : goal.list_crossings-requires
list_crossings-requires c =
    let s = (goal.at.list_crossings-requires c).In_ok-d in
    let on = on_sheet s in
    let long = routes_long s in
    record { table_le_max_edges = (omega (arith, long, on.fits.edges), wanted_room c.args.wants.crossings _ _ c.if-wants-2.true c.requires.came.2); counts_len = omega (arith, on.counted, long) }

pub returns-in_err-list_crossings : goal.returns-in_err-list_crossings
returns-in_err-list_crossings c =
    let e = (goal.at.returns-in_err-list_crossings c).In_ok-d in
    let a = c.args in
    let l = c.list_crossings in
    let p = err_from_is_err_and c.from_residual-in_err-list_crossings.result c.from_residual-in_err-list_crossings.ensures.1 in
    let many = listing.many a.j.now a.given.now c.in_ok-made.made (edges_by e) (drawn_by e) (points-by e) (counts-by e) (taps_by e) _ (on_sheet e) a.wants _ (is_err l.result) _ _ c.if-wants-2.true (rw (edges_are e, c.as_slice-drawn.ensures.value) at l.ensures.too_many) (rw (edges_are e, c.as_slice-drawn.ensures.value) at l.ensures.bytes) (ap is_err c.in_err-list_crossings.was) in
    let named = rw c.in_err-list_crossings.was at l.ensures.refusal in
    rw p.1 (laws.named _ _ _ (ap refusal_number p.2 ∙ ap refusal_number named) (laws.many_outputs a.wants _ _ (told_drawn e) many.0), ap (λ (b : List ℕ). record { answer = a.answer.now; page = a.page.now; crossings = b }) many.1)

pub returns-then-off_grid : goal.returns-then-off_grid
returns-then-off_grid c =
    let a = c.args in
    let l = listed_by (goal.at.returns-then-off_grid c).Joined-wants-2 in (
      laws.off_grid_outputs a.wants _ _ (told_drawn (goal.at.returns-then-off_grid c).In_ok-d) (l _).few c.if-off_grid.true,
      ap (λ (b : List ℕ). record { answer = a.answer.now; page = a.page.now; crossings = b }) (listing.left_alone _ _ _ _ _ (l 0) c.if-off_grid.true),
    )

pub normalize_layout-l-requires-clause-taps : goal.normalize_layout-l-requires-clause-taps
normalize_layout-l-requires-clause-taps c =
    let e = (goal.at.normalize_layout-l-requires-clause-taps c).In_ok-d in
    let on = on_sheet e in
    rw c.as_slice-drawn.ensures.value (λ i d h. let w = windows e i d h in omega (arith, w, on.places))

pub tap_rows-t-requires : goal.tap_rows-t-requires
tap_rows-t-requires c =
    let e = (goal.at.tap_rows-t-requires c).In_ok-d in
    let on = on_sheet e in
    let n = c.normalize_layout-l in
    let b = c.board_tables-board in
    record { members_le_max_members = (b.result.sound.members_few, omega (arith, on.places, n.auto.taps, taps_long e)); members_on = subst (λ (x : Board). MembersOn x.edges x.members) (sym (b.ensures c.args.given.now)) on.members_on }

-- as many bundles after the last shift
as_many : (c : After-tap_rows-t) → length c.normalize_layout-l.result.drawn.items ≡ length (drawn_by (turned c)).items
as_many c = c.normalize_layout-l.ensures.drawn ∙ ap length c.as_slice-drawn.ensures.value

pub put_page-requires : goal.put_page-requires
put_page-requires c =
    let e = (goal.at.put_page-requires c).In_ok-d in
    let a = c.args in
    let o = c.corridor_depth_offsets-offsets in
    let d = c.draw_sheet-d in
    let n = c.normalize_layout-l in
    let t = c.tap_rows-t in
    let l = n.result.drawn in
    let after = (goal.at.put_page-requires c).After-tap_rows-t in
    let many : length l.items ≤ max_bundles = omega (arith, as_many after, few_drawn e) in
    subst (λ (l : List DrawnBundle). (length l ≤ max_bundles) × Printables (length l) l × (page_room ≤ length a.page.now)) (sym c.as_slice-shifted.ensures.value) (many, laws.all_printable a.j.now a.given.now c.requires.came.0 c.board_tables-board.result (c.board_tables-board.ensures a.given.now) a.wants.plan a.plan.now c.if-wants.p (chosen (goal.at.put_page-requires c).Joined-wants) c.in_ok-made.made c.in_ok-made.was o.result.rows (told d.result.ended d.new.visits.0) (edges_by e) (drawn_by e) (points-by e) (counts-by e) (taps_by e) o.ensures d.ensures.told (on_the_grid a.wants.page _ c.if-wants-3.true c.if-off_grid.false) _ (laws.ended_clean d.result.ended d.new.visits.0 tt (search rules)) _ n.result.nodes.items a.j.now.edges.items n.new.points l.items t.result.items (told_answer after), wanted_room a.wants.page _ _ c.if-wants-3.true c.requires.came.1)

pub write_answer-requires-clause-tables : goal.write_answer-requires-clause-tables
write_answer-requires-clause-tables c =
    let e = (goal.at.write_answer-requires-clause-tables c).In_ok-d in
    let a = c.args in
    let n = c.normalize_layout-l in
    let t = c.tap_rows-t in
    let on = on_sheet e in
    let l = n.result.drawn in
    let after = (goal.at.write_answer-requires-clause-tables c).After-tap_rows-t in
    let long : length t.result.items ≡ length a.j.now.members.items = t.ensures.count_is ∙ taps_long e in
    rw (c.as_slice-nodes.ensures.value, edges_are e, c.as_slice-shifted.ensures.value, c.as_slice.ensures.value)
    (record {
      counted = omega (arith, on.counted);
      windows = rw long (windows_kept (length a.j.now.members.items) (drawn_by e).items l.items (rw c.as_slice-drawn.ensures.value at n.ensures.rows) (windows e));
      room_for_it = laws.sheet_room _ _ _ _ (told_drawn e) (told_answer after) c.requires.plan_in_bounds;
    })

pub write_answer-requires-clause-stored : goal.write_answer-requires-clause-stored
write_answer-requires-clause-stored c =
    let e = (goal.at.write_answer-requires-clause-stored c).In_ok-d in
    let on = on_sheet e in
    rw (edges_are e) (omega (arith, on.slots, on.counted, c.normalize_layout-l.auto.points))

pub write_answer-requires-clause-held : goal.write_answer-requires-clause-held
write_answer-requires-clause-held c = (on_sheet (goal.at.write_answer-requires-clause-held c).In_ok-d).hold

pub returns-in_err-d : goal.returns-in_err-d
returns-in_err-d c =
    let a = c.args in
    let o = c.corridor_depth_offsets-offsets in
    let d = c.draw_sheet-d in
    let p = err_from_is_err_and c.from_residual-in_err-d.result c.from_residual-in_err-d.ensures.1 in
    let ended = laws.ended_refused d.result.ended d.new.visits.0 (refusal_number p.0) p.0 refl (search (rules, p.2)) in
    rw p.1 (laws.refused_outputs a.wants _ _ (laws.all_refused a.j.now a.given.now c.requires.came.0 c.board_tables-board.result (c.board_tables-board.ensures a.given.now) a.wants.plan a.plan.now c.if-wants.p (chosen (goal.at.returns-in_err-d c).Joined-wants) c.in_ok-made.made c.in_ok-made.was o.result.rows (told d.result.ended d.new.visits.0) (edges_of c.board_tables-board.result.members.now) d.result.drawn d.new.points d.new.counts d.new.taps o.ensures d.ensures.told _ _ ended), refl)

pub returns : goal.returns
returns c =
    let e = (goal.at.returns c).In_ok-d in
    let a = c.args in
    let n = c.normalize_layout-l in
    let t = c.tap_rows-t in
    let w = c.write_answer.ensures in
    let b = c.board_tables-board.result in
    let after = (goal.at.returns c).After-tap_rows-t in
    let same = page_of_tables id_columns (record { tap_visits = 0; geometry_visits = 0; width = n.result.width; height = n.result.height }) c.as_slice-nodes.result.now b.edges.now n.new.points (counts-by e) c.as_slice-shifted.result.now c.as_slice.result.now in
    let l = listed_by (goal.at.returns c).Joined-wants-2 in
    laws.drawn_writes a.wants _ _ (told_drawn e) (l _).few c.if-off_grid.false _ _ _ _ (rw (c.as_slice-nodes.ensures.value, edges_are e, c.as_slice-shifted.ensures.value, c.as_slice.ensures.value) (told_answer after)) w.bytes
    (elim c.if-wants-3.branch [
      | then-wants-3 x ↦ laws.page_put _ _ _ _ x.if-wants-3.true (x.page-is ∙ x.put_page.ensures.bytes ∙ ap (sets a.page.now 0) same)
      | else-wants-3 x ↦ laws.page_left _ _ _ _ x.if-wants-3.false x.page-is
    ])
    (listing.list_left _ _ _ _ _ (l 0) c.if-off_grid.false)
    w.place
