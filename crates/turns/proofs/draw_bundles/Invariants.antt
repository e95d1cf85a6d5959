use Rattle.std.proofs.Common.{◌≡◌, ◌≤◌, [], drop, length, map, take}
use Rattle.route.specs.Slots.{routes_of}
use Rattle.plan.specs.Lent.{board_lent}
use Rattle.plan.specs.MemberColumns.{edges_of, lanes_of}
use Rattle.drawing.specs.Sheet.{sheet_of}
use Rattle.checks.specs.CheckRows.{drawn_of}
use Rattle.turns.specs.TurnTables.{standing, Rows}
use Rattle.turns.proofs.Resting.{Rest, turns_at}
use Rattle.turns.proofs.draw_bundles.Given as goal

abbrev pub invariant-loop-i : goal.invariant-loop-i
invariant-loop-i l = record {
  drawn_to : length l.drawn.items ≡ l.i;
  rest : Rest (drop l.i l.turns.board.bundles.now) l.drawn.items (edges_of l.turns.board.members.now) (lanes_of l.turns.board.members.now) l.counts;
  rows : Rows (take (length l.drawn.items) l.turns.board.bundles.now) l.drawn.items;
  told : sheet_of (board_lent l.turns.board) l.turns.permits_crossings (turns_at l.turns.board.bundles.now l.turns.plan.now l.turns.offsets.now l.i) (standing (routes_of l.points l.counts) (map (drawn_of (edges_of l.turns.board.members.now) l.taps) l.drawn.items) l.visits.0)
      ≡ sheet_of (board_lent l.turns.board) l.turns.permits_crossings (turns_at l.turns.board.bundles.now l.turns.plan.now l.turns.offsets.now 0) (standing (routes_of l.initial.points l.initial.counts) [] l.initial.visits.0);
  masked : length l.initial.counts ≤ length l.work.mask.now;
}
