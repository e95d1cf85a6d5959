-- `search_replies::promotion_reply` meets its contract. Assumes nothing.
use Rattle.std.specs.Prelude.{Err}
use mathlib.Core.Path.{◌≡◌, ◌∙◌, subst}
use Prim.Native.Nat.{◌≤◌}
use native.Mathlib.Omega.{arith}
use borrow.Author.Rules.{rules}
use lib.ListN.{length}
use Rattle.search.specs.declared.SearchSpent.TheVariants.{Second}
use Rattle.search_calls.specs.Entry.{Said, Replied}
use Rattle.search_calls.proofs.RefusalSteps as laws
use Rattle.search_replies.proofs.promotion_reply.Goals as goal

pub returns-in-Err-Second : goal.returns-in-Err-Second
returns-in-Err-Second c =
    let a = c.args in
    let n = c.in-Err-Second.n in
    let e : a.p ≡ Err (Second n) = search rules in
    let w = laws.second_within a.p n (length a.list.now) e c.requires.0 in
    subst (λ (s : Said). Replied 0 s c.reply-in-Err-Second.result a.xs.now c.reply-in-Err-Second.new.xs)
    (laws.second_spent_said a.p a.list.now c.min.result n (c.min.ensures ∙ laws.least_kept n) w c.from-in-Err-Second.result c.from-in-Err-Second.ensures e) c.reply-in-Err-Second.ensures

pub returns-in-Ok : goal.returns-in-Ok
returns-in-Ok c =
    let a = c.args in
    let n = c.in-Ok.n in
    let k = c.min-k.result in
    let w = laws.kept_within a.p n c.in-Ok.left (length a.list.now) c.in-Ok.is c.requires.0 in
    let h : k ≤ length a.list.now = omega (arith, c.min-k.ensures ∙ laws.least_kept n, (laws.few_are n).0, w) in
    subst (λ (s : Said). Replied 0 s c.reply-in-Ok.result a.xs.now c.reply-in-Ok.new.xs)
    (laws.kept_said a.p a.list.now k n (c.min-k.ensures ∙ laws.least_kept n) w c.from-in-Ok.result c.in-Ok.left c.in-Ok.is (c.from-in-Ok.ensures ∙ c.mark_of.ensures a.list.now h)) c.reply-in-Ok.ensures
