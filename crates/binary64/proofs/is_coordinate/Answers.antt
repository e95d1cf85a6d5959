-- `binary64::is_coordinate` meets its contract. Assumes nothing.
use mathlib.Core.Path.{sym, ◌∙◌, ap}
use mathlib.Core.Bool.{Bool, true, not, ◌&&◌}
use lib.IntN.{pos}
use lib.Ieee.{fin, neg, le, of_bits}
use Rattle.binary64.specs.Accepted.{two_to}
use Rattle.binary64.proofs.Kind.{by_tests}
use Rattle.binary64.proofs.is_coordinate.Goals as goal

pub returns : goal.returns
unfolding of_bits neg
returns c =
    let x = c.args.x in
    ap (λ (m : Bool). (le (fin true 1 (pos 30)) x && le x (two_to 30)) && not m) c.is_minus_zero-minus.ensures ∙ sym (by_tests (fin true 1 (pos 30)) (two_to 30) x tt tt)
