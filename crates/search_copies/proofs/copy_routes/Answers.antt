-- `search_copies::copy_routes` meets its contract. Assumes nothing.
use Rattle.std.specs.Prelude.{ℕ, drop}
use Rattle.std.proofs.Common.{rules, arith, sym, ◌∙◌, ap, refl}
use Rattle.std.proofs.lemmas.Slice.Zip.{Zip-more, either_empty_from_Zip}
use Rattle.search_copies.proofs.Parts as parts
use Rattle.search_copies.proofs.copy_routes.Goals as goal

pub loop-m-init : goal.loop-m-init
loop-m-init c = search rules

pub loop-m-preserved : goal.loop-m-preserved
loop-m-preserved c =
    let l = c.args.lent in
    let i = c.loop-m.invariant in
    let step = c.in-Some.ensures.steps in
    let more = Zip-more c.loop-m.m-iterator.iter c.next.new.self.iter _ (c.in-Some.start, c.in-Some.count) refl step.0 in
    let s = parts.rest_front l.starts.now _ _ _ (sym i.2 ∙ more.0) in
    let t = parts.rest_front l.counts.now _ _ _ (sym i.3 ∙ more.1) in (
      parts.copied_next_row l.points.now l.starts.now l.counts.now c.loop-m.m-iterator.count c.loop-m.copy _ c.loop-m.rows c.requires.fitting (c.loop-m.auto.copy ∙ c.requires.copy_len.0) (c.loop-m.auto.rows ∙ c.requires.copy_len.1)
          _ _ _ _ step.1 s.1 t.1 step.2 s.0 i.0 c.copy_numbers.ensures,
      omega (arith, s.0, step.2),
      s.2 ∙ ap (λ (k : ℕ). drop k l.starts.now) (sym step.2),
      t.2 ∙ ap (λ (k : ℕ). drop k l.counts.now) (sym step.2),
    )

pub returns : goal.returns
returns c =
    let l = c.args.lent in
    let i = c.loop-m.invariant in
    let spent = either_empty_from_Zip c.loop-m.m-iterator.iter c.next.new.self.iter _ refl c.in-None.ensures.steps.0 in
    let whole = parts.both_done l.starts.now l.counts.now _ _ _ i.1 c.requires.fitting.at_places.paired i.2 i.3 spent in
    rw (sym whole) i.0
