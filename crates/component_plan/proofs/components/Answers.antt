-- `component_plan::components` meets its contract. Assumes nothing.
use mathlib.Core.Path.{◌≡◌, refl, sym, ◌∙◌, ap, subst}
use mathlib.Core.Bool.{Bool, true, false}
use mathlib.Core.List.{List, ◌∷◌}
use Prim.Native.Nat.{ℕ, ◌+◌, ◌≤◌, ◌<◌}
use native.Mathlib.Omega.{arith}
use borrow.Author.Rules.{rules}
use lib.ListN.{length, take, drop, set, replicate}
use Rattle.limits.specs.Limits.{max_bundles}
use Rattle.geometry.specs.Points.{Route}
use Rattle.board.specs.Board.{Board}
use Rattle.search.specs.Search.{search_of}
use Rattle.plan.specs.Plan.{Ranged, ranged_at, found?, indices_from, components}
use Rattle.plan.specs.Prepared.{Listing, range_at, plan_in}
use Rattle.plan.specs.Stack.{component_from}
use Rattle.plan.proofs.TableReads as rows
use Rattle.components.specs.Settled.{ranges_in}
use Rattle.components.proofs.Turns as turns
use Rattle.component_plan.proofs.Joins as laws
use Rattle.component_plan.proofs.components.Goals as goal
use Rattle.component_plan.proofs.components.Goals.{Start, then-not-seen-i+then-is_some+in_ok-p, else-not-seen-i, else-not-seen-i-via-then-not-seen-i+else-is_some, else-not-seen-i-via-else-not-seen-i}
use Rattle.std.proofs.lemmas.Result.{err_from_is_err_and}

long : (s : Start) → length (ranges_in s.args.ranges.now) ≡ length s.args.ranges.now
long s = laws.ranges_length s.args.ranges.now

few : (s : Start) → length s.args.ranges.now ≤ max_bundles
few s = omega (arith, s.args.layout.among.bundles_few, s.requires.as_many)

next : (s : Start) (i : ℕ) → i < length s.args.ranges.now
    → drop i (indices_from 0 (ranges_in s.args.ranges.now)) ≡ i ∷ drop (i + 1) (indices_from 0 (ranges_in s.args.ranges.now))
next s i h = laws.indices_cons (ranges_in s.args.ranges.now) i (omega (arith, h, long s))

-- the array of marks as the definition has it
none_seen : (s : Start) (b : Board) (given : List Route)
    → components search_of b given (ranges_in s.args.ranges.now) (indices_from 0 (ranges_in s.args.ranges.now)) (take (length s.args.ranges.now) (replicate max_bundles false)) (plan_in (length s.args.ranges.now) s.args.before)
    ≡ components search_of b given (ranges_in s.args.ranges.now) (indices_from 0 (ranges_in s.args.ranges.now)) (replicate (length s.args.ranges.now) false) (plan_in (length s.args.ranges.now) s.args.before)
none_seen s b given =
    ap (λ (l : List Bool). components search_of b given (ranges_in s.args.ranges.now) (indices_from 0 (ranges_in s.args.ranges.now)) l (plan_in (length s.args.ranges.now) s.args.before))
    (laws.none_seen (length s.args.ranges.now) max_bundles (few s))

found-read : (s : Start) (i : ℕ) (f : Bool) → f ≡ found? (range_at s.args.ranges.now i).bounds → f ≡ found? (ranged_at (ranges_in s.args.ranges.now) i).bounds
found-read s i f e = e ∙ ap (λ (z : Ranged). found? z.bounds) (turns.range_read s.args.ranges.now i)

pub loop-i-init : goal.loop-i-init
loop-i-init c = record { seen_length = refl; plan_is = λ b given k e. refl }

pub treat-requires : goal.treat-requires
treat-requires c =
    let a = c.args in
    let n = length a.ranges.now in
    let l = c.loop-i in
    let w = c.component-w in
    let s = (goal.at.treat-requires c).Start in
    let order = w.result.order.items in record {
      as_many = s.requires.as_many;
      listing = subst (λ (z : List ℕ). (length z ≤ max_bundles) × Listing z (length a.layout.reaches.now)) (sym c.as_slice.ensures.value) (
        omega (arith, w.ensures.few, few s),
        subst (Listing order) s.requires.as_many (laws.component_listed a.adjacent.now.rows n l.i order (take n (set l.seen l.i true)) (take n w.result.seen) c.loop-i-test.true w.ensures.walked),
      );
    }

pub returns-in_err-p : goal.returns-in_err-p
returns-in_err-p c =
    let a = c.args in
    let n = length a.ranges.now in
    let l = c.loop-i in
    let h = c.loop-i-test.true in
    let s = (goal.at.returns-in_err-p c).Start in
    let m : l.i < length l.seen = omega (arith, h, l.invariant.seen_length, few s) in
    let w = c.component-w in
    let r = err_from_is_err_and c.from_residual.result c.from_residual.ensures.1 in
    rw (r.1, r.2) (λ b given k e.
    laws.turn_refused b given (ranges_in a.ranges.now) n l.seen l.i _ _ (plan_in n l.p) (next s l.i h) h m c.if-not-seen-i.true c.is_some.result (found-read s l.i c.is_some.result c.is_some.ensures)
    (component_from n w.result) _ c.if-is_some.true
    (laws.component_is a.adjacent.now.rows n b given (ranges_in a.ranges.now) l.i l.seen (component_from n w.result) (long s) h e w.ensures.walked)
    (rw c.as_slice.ensures.value at (c.in_err-p.ensures b given k))
    _ refl
    ∙ l.invariant.plan_is b given k e
    ∙ none_seen s b given)

pub loop-i-preserved : goal.loop-i-preserved
loop-i-preserved c =
    let a = c.args in
    let n = length a.ranges.now in
    let l = c.loop-i in
    let h = c.loop-i-test.true in
    let s = (goal.at.loop-i-preserved c).Start in
    let m : l.i < length l.seen = omega (arith, h, l.invariant.seen_length, few s) in
    elim c.if-not-seen-i.branch [
      | then-not-seen-i+then-is_some+in_ok-p v ↦
          let w = v.component-w in
          rw (v.seen-is, v.p-is) (record {
            seen_length = search (rules, rows.length_mapped);
            plan_is = λ b given k e.
                laws.turn_going b given (ranges_in a.ranges.now) n l.seen l.i _ _ (plan_in n l.p) (next s l.i h) h m v.if-not-seen-i.true v.is_some.result (found-read s l.i v.is_some.result v.is_some.ensures)
                (component_from n w.result) _ v.if-is_some.true
                (laws.component_is a.adjacent.now.rows n b given (ranges_in a.ranges.now) l.i l.seen (component_from n w.result) (long s) h e w.ensures.walked)
                (rw v.as_slice.ensures.value at (v.in_ok-p.ensures b given k))
                _ refl
                ∙ l.invariant.plan_is b given k e;
          })
      | else-not-seen-i v ↦ rw (v.seen-is, v.p-is) (record {
        seen_length = l.invariant.seen_length;
        plan_is = λ b given k e.
            (elim v.else-not-seen-i.branch [
              | else-not-seen-i-via-then-not-seen-i+else-is_some u ↦
                  laws.turn_absent b given (ranges_in a.ranges.now) n l.seen l.i _ _ (plan_in n l.p) (next s l.i h) h m u.if-not-seen-i.true u.is_some.result (found-read s l.i u.is_some.result u.is_some.ensures) u.if-is_some.false
              | else-not-seen-i-via-else-not-seen-i u ↦
                  laws.turn_seen b given (ranges_in a.ranges.now) n l.seen l.i _ _ (plan_in n l.p) (next s l.i h) h m u.if-not-seen-i.false
            ])
            ∙ l.invariant.plan_is b given k e;
      })
    ]

pub returns : goal.returns
returns c =
    let a = c.args in
    let n = length a.ranges.now in
    let l = c.loop-i in
    let s = (goal.at.returns c).Start in
    let h : length (ranges_in a.ranges.now) ≤ l.i = omega (arith, c.loop-i-test.false, long s) in
    λ b given k e.
    laws.turns_end b given (ranges_in a.ranges.now) (take n l.seen) _ (plan_in n l.p) (laws.indices_none (ranges_in a.ranges.now) l.i h)
    ∙ l.invariant.plan_is b given k e
    ∙ none_seen s b given
