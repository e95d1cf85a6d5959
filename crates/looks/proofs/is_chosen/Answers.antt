-- Written so that an edit is refused at the fact that does not hold.
use Rattle.std.specs.Prelude.{◌≡◌, ℕ, List, Bool, false, Option, None, Some, option_copied, MatchOption, IsTrue, get_or}
use Rattle.std.specs.Borrow.{Bor}
use Rattle.std.proofs.Common.{arith}
use Rattle.checks.specs.CheckRows.{chosen_by}
use Rattle.looks.proofs.is_chosen.Goals as goal

chosen : (m : Option (Bor (List Bool))) (e : ℕ) (r : Bool) (P : Bor (List Bool) → Type 0) → ((x : Bor (List Bool)) → P x → r ≡ get_or x.now e false) → MatchOption m (IsTrue r) P → r ≡ chosen_by (option_copied m) e
unfolding chosen_by
chosen None e r P f h = h
chosen (Some x) e r P f h = f x h

pub returns : goal.returns
returns c = chosen c.args.chosen.mask c.args.e c.is_none_or.result _ (λ x k. grind arith) c.is_none_or.ensures
