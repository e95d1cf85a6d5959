use Rattle.std.proofs.Common.{◌≡◌, ◌<◌, ℕ, length, get_or}
use Rattle.checks.specs.CheckRows.{no_point}
use Rattle.board.specs.declared.DrawnTap.{DrawnTap}
use Rattle.planner.specs.Members.{edge_row}
use Rattle.draw_job.proofs.tap_rows.Given as goal

abbrev pub invariant-loop-i : goal.invariant-loop-i
invariant-loop-i l =
    (length l.rows.items ≡ l.i) × ((k : ℕ) → k < l.i → (d : DrawnTap) → get_or l.rows.items k d ≡ record { edge = (edge_row l.table l.members k).id; point = get_or l.taps k no_point })
