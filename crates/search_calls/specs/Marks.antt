-- The numbers of the marks in an answer: those of an outcome, and of a promotion's, by `mark` and `promotion_mark` of crate search, and that of absent bounds. Definitions of inner contracts.
-- Assumes nothing.
use Rattle.std.specs.Prelude.{ℕ}
use Rattle.search_calls.specs.declared.Mark.{Mark}
use Rattle.search_calls.specs.declared.Mark.TheVariants.{Nothing, Found, Spent, Absent, SecondSpent}

abbrev pub mark_number : Mark → ℕ
-- nothing common
mark_number Nothing = 0
-- found, or kept
mark_number Found = 1
-- spent
mark_number Spent = 2
-- bounds absent
mark_number Absent = 3
-- the second search of a promotion spent
mark_number SecondSpent = 4
