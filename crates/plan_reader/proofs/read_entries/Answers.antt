-- `plan_reader::read_entries` meets its contract. Assumes nothing.
use Rattle.limits.specs.Limits.{max_bundles}
use Rattle.plan.specs.declared.Planned.{Planned}
use Rattle.plan.specs.declared.Bound.TheVariants.{None}
use Rattle.std.proofs.Common.{replicate, ℕ, List, subst, take, map, ◌≡◌, arith, ◌∙◌, length-set, length-take-le}
use Rattle.std.proofs.lemmas.Result.{err_from_is_err_and}
use Rattle.plan.specs.Prepared.{x_of}
use Rattle.plan_reader.specs.Reading.{SoFar}
use Rattle.plan_reader.proofs.Taken as laws
use Rattle.plan_reader.proofs.read_entries.Goals as goal
use Rattle.plan_reader.proofs.read_entries.Goals.{in-Some+in-Some-judged_number, in-Some+in-None, in_default}

pub loop-row-init : goal.loop-row-init
loop-row-init c = let a = c.args in (length-take-le a.n _ c.requires, laws.begun a.grid a.s.now.bytes.now a.n)

pub returns-in_err-b : goal.returns-in_err-b
returns-in_err-b c =
    let a = c.args in
    let l = c.loop-row in
    let p = err_from_is_err_and c.from_residual.result c.from_residual.ensures.1 in
    rw (p.1, p.2) (laws.bad_turn a.grid a.s.now.bytes.now l.s.bytes.now c.next_entry.new.s.bytes.now a.n l.row-index l.passes l.front l.invariant.1 (omega (arith, l.invariant.0)) (omega (arith, l.invariant.0)) _ c.in_err-b.ensures)

pub loop-row-preserved : goal.loop-row-preserved
loop-row-preserved c =
    let a = c.args in
    let l = c.loop-row in
    let s = a.s.now.bytes.now in
    let t = l.s.bytes.now in
    let u = c.next_entry.new.s.bytes.now in
    let i = c.match-branch-2 in
    let told = c.in_ok-b.ensures in (
      length-set l.front l.row-index _ ∙ l.invariant.0,
      elim i.branch [
        | in-Some+in-Some-judged_number w ↦ let k = rw w.in-Some.is at told in
            rw (w.passes-is, w.x-is) (laws.pass_turn a.grid s t u a.n l.row-index l.passes l.front l.invariant.1 (omega (arith, l.invariant.0)) (omega (arith, l.invariant.0)) _ _ k w.in-Some-judged_number.ensures)
        | in-Some+in-None w ↦ let k = rw w.in-Some.is at told in
            rw (w.passes-is, w.x-is) (laws.fail_turn a.grid s t u a.n l.row-index l.passes l.front l.invariant.1 (omega (arith, l.invariant.0)) (omega (arith, l.invariant.0)) _ k w.in-None.ensures)
        | in_default w ↦ let k = rw w.in_default.is at told in rw (w.passes-is, w.x-is) (laws.none_turn a.grid s t u a.n l.row-index l.passes l.front l.invariant.1 (omega (arith, l.invariant.0)) (omega (arith, l.invariant.0)) k)
      ],
    )

pub returns : goal.returns
returns c =
    let a = c.args in
    let l = c.loop-row in
    let e : l.row-index ≡ a.n = omega (arith, l.invariant.0) in
    let told = subst (λ (k : ℕ). SoFar a.grid a.s.now.bytes.now l.s.bytes.now a.n k l.passes (map x_of (take k l.front))) e l.invariant.1 in
    laws.ended a.grid a.s.now.bytes.now l.s.bytes.now a.n l.passes _ _ (subst (λ (front : List Planned). SoFar a.grid a.s.now.bytes.now l.s.bytes.now a.n a.n l.passes (map x_of front)) (laws.front_put a.n a.n (replicate max_bundles (record { x = None })) l.front l.invariant.0) told) c.then_some.ensures
