-- What the structs of lent slices hold. Definitions of inner contracts.
-- Assumes nothing.
use Rattle.std.specs.Prelude.{ℕ, List, Bool, option_copied}
use Rattle.board.specs.declared.DrawnBundle.{DrawnBundle}
use Rattle.plan.specs.MemberColumns.{edges_of}
use Rattle.drawing.specs.Build.{TapOn, Drawn}
use Rattle.checks.specs.declared.ChosenRoutes.{ChosenRoutes}
use Rattle.checks.specs.declared.MemberTaps.{MemberTaps}
use Rattle.checks.specs.CheckRows.{drawn_of, chosen_by, AllTabled}
use Rattle.checks.specs.LentRows.{taps_of}

-- which of them are chosen
abbrev pub chosen_lent : ChosenRoutes → ℕ → Bool
chosen_lent c = chosen_by (option_copied c.mask)

-- the bundle that a row stands for
abbrev pub drawn_lent : MemberTaps → DrawnBundle → Drawn
drawn_lent t d = drawn_of (edges_of t.members.now) t.taps.now d

-- the members of the rows are in the table
abbrev pub RowsLent : MemberTaps → List DrawnBundle → Type 0
RowsLent t ds = AllTabled ds (edges_of t.members.now) t.taps.now

-- the taps of the members
abbrev pub taps_lent : MemberTaps → List TapOn
taps_lent t = taps_of t.members.now t.taps.now
