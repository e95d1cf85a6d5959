-- `plan_reader::judged_number` meets its contract. Assumes nothing.
use Rattle.wire.proofs.AcceptLaws.{not_nan}
use Rattle.plan_reader.proofs.Patterns as laws
use borrow.Author.Rules.{rules}
use Rattle.std.proofs.Common.{ap, not, ◌∙◌}
use Rattle.plan_reader.proofs.judged_number.Goals as goal

pub returns-then-b-gt9218868437227405312 : goal.returns-then-b-gt9218868437227405312
returns-then-b-gt9218868437227405312 c = laws.nan_judged c.args.grid c.args.b c.if-b-gt9218868437227405312.true

pub float_from_bits-x : goal.float_from_bits-x
float_from_bits-x c = not_nan c.args.b c.if-b-gt9218868437227405312.false

pub returns-then-not-grid : goal.returns-then-not-grid
unfolding lib.Ieee.of_bits lib.Ieee.neg
returns-then-not-grid c = c.then_some.ensures ∙ laws.given c.args.grid c.args.b _ (laws.passes c.args.grid c.args.b (ap not c.if-not-grid.true))

pub returns : goal.returns
unfolding lib.Ieee.of_bits lib.Ieee.neg
returns c =
    c.then_some-2.ensures
    ∙ laws.given c.args.grid c.args.b _ (laws.passes_on_grid c.args.grid c.args.b (ap not c.if-not-grid.false) (search rules) c.if-b-gt9218868437227405312.false _ c.is_on.ensures)
