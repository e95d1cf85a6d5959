-- `crossing_output::list_crossings` meets its contract. Assumes nothing.
use Rattle.crossing_bytes.proofs.Counted.{many, held_back, put}
use Rattle.std.proofs.Common.{sym, ◌∙◌, length}
use borrow.Author.Tests.{le-ltb}
use Rattle.limits.specs.Limits.{max_crossings}
use Rattle.crossing_output.proofs.list_crossings.Goals as goal

pub returns-in_err-sheet_crossings-clause-bytes : goal.returns-in_err-sheet_crossings-clause-bytes
returns-in_err-sheet_crossings-clause-bytes c = many _ _ _ c.in_err-sheet_crossings.ensures.many.1

pub returns-then-withheld-clause-bytes : goal.returns-then-withheld-clause-bytes
returns-then-withheld-clause-bytes c = held_back _ _ _ c.if-withheld.true

-- The check finds two of the three alone; they are written so that an edit is refused at the fact that does not hold.
pub returns : goal.returns
returns c =
    let kept = c.in_ok-sheet_crossings.ensures.kept in
    let rows = c.as_slice-rows.ensures in record {
      too_many = rw (← kept, ← rows.value) (sym (le-ltb max_crossings (length c.as_slice-rows.result.now) rows.fits));
      refusal = tt;
      bytes = put _ _ _ _ _ (rows.value ∙ kept) rows.fits c.if-withheld.false c.put_crossings.ensures;
    }
