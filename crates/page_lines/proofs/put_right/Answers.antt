use native.Mathlib.Omega.{arith}
use Rattle.std.proofs.Common.{refl, ap, ◌∙◌, rules}
use Rattle.std.specs.Fmt.{decimal}
use Rattle.page_lines.proofs.DigitStores.{right_stored}
use Rattle.page_lines.proofs.put_right.Goals as goal

-- That what is formatted is n is shown by arithmetic, so that an edit of it is refused at the fact that does not hold.
pub returns : goal.returns
returns c =
    let a = c.args in
    right_stored a.out.now a.at a.w a.fill a.n c.saturating_sub.result c.as_bytes-text.result.now c.requires c.ranges.n.fits (c.as_bytes-text.ensures.value ∙ c.format.ensures.text ∙ ap decimal (omega arith)) (search rules) _ refl c.fill.new.self c.copy.new.to (c.fill.ensures.after (λ y e. e)) c.copy.ensures.after
