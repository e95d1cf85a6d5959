-- `plan_neighbours::component` meets its contract. Assumes nothing.
use Rattle.std.proofs.Common.{sym, ◌∙◌, ap, subst, true, List, ℕ, [], ◌∷◌, ◌++◌, ◌-◌, ◌<◌, get_or, length, length-append, take, set, arith}
use Rattle.limits.specs.Limits.{max_bundles}
use Rattle.plan.specs.Plan.{walk}
use Rattle.plan.specs.Stack.{backward, row_of, walk_of}
use Rattle.plan_neighbours.proofs.Walks as laws
use Rattle.plan_neighbours.proofs.component.Goals as goal
use Rattle.plan_neighbours.proofs.component.Goals.{In-Some}

below : (c : In-Some) → (c.in-Some.i < c.args.n) × laws.Below c.args.n (backward c.pop.new.self.items)
below c = laws.top_below c.args.n c.loop-i.s.pending.items c.pop.new.self.items c.in-Some.i c.in-Some.ensures.items c.loop-i.invariant.below

pub loop-i-init : goal.loop-i-init
loop-i-init c =
    let a = c.args in
    let near = row_of a.adjacent.now.rows a.n in
    rw (c.push.ensures.items, c.new.ensures, c.new-order.ensures) (record {
      few = omega (arith, laws.marked_room a.before a.n a.start (omega arith) (omega arith));
      below = laws.below_one a.n a.start (omega arith);
      walked = laws.walk_start near a.n (take a.n (set a.before a.start true)) (backward (a.start ∷ []));
    })

pub offset_bounds-adjacent-i : goal.offset_bounds-adjacent-i
offset_bounds-adjacent-i c = omega (arith, (below (goal.at.offset_bounds-adjacent-i c).In-Some).0)

pub bounds-adjacent-i : goal.bounds-adjacent-i
bounds-adjacent-i c = omega (arith, (below (goal.at.bounds-adjacent-i c).In-Some).0)

pub push_near-requires : goal.push_near-requires
push_near-requires c =
    let a = c.args in
    let l = c.loop-i in
    let k = laws.unseen_more l.s.seen a.n max_bundles (omega arith) in
    let p = c.in-Some.ensures.items in
    let q = length-append c.pop.new.self.items (c.in-Some.i ∷ []) in
    (omega (arith, laws.cut_length (get_or a.adjacent.now.rows c.in-Some.i []) a.n), omega (arith, l.invariant.few, k, ap length p, q))

pub loop-i-preserved : goal.loop-i-preserved
loop-i-preserved c =
    let a = c.args in
    let l = c.loop-i in
    let adj = a.adjacent.now.rows in
    let seen = take a.n l.s.seen in
    let b = below (goal.at.loop-i-preserved c).In-Some in
    let row = get_or adj c.in-Some.i [] in
    let e = rw (laws.row_lent row a.n) at (c.push_near.ensures a.n (laws.cut_length row a.n) (omega arith)) in
    let p = c.in-Some.ensures.items in
    let h : length l.order.items < a.n = omega (arith, ap length p, length-append c.pop.new.self.items (c.in-Some.i ∷ [])) in record {
      few = omega (arith, e.1, ap length p, length-append c.pop.new.self.items (c.in-Some.i ∷ []));
      below = subst (λ w. laws.Below a.n w.pending) (sym e.0) (laws.near_below adj c.in-Some.i a.n (record { seen = seen; pending = backward c.pop.new.self.items }) b.1);
      walked =
          laws.walk_turn (row_of adj a.n) a.n c.in-Some.i l.order.items _ l.s.pending.items c.pop.new.self.items seen (walk_of a.n c.push_near.new.s) h c.push-in-Some.ensures.items p e.0
          ∙ l.invariant.walked;
    }

pub returns-clause-few : goal.returns-clause-few
returns-clause-few c = omega (arith, c.loop-i.invariant.few)

pub returns-clause-walked : goal.returns-clause-walked
returns-clause-walked c =
    let l = c.loop-i in
    let a = c.args in
    let near = row_of a.adjacent.now.rows a.n in
    laws.walk_end near (a.n - length l.order.items) l.order.items l.s.pending.items (take a.n l.s.seen) (laws.nothing_left l.s.pending.items c.in_default.ensures.variant.1)
    ∙ l.invariant.walked
    ∙ ap (λ (k : List ℕ). walk near a.n (take a.n (set a.before a.start true)) (backward k)) (c.push.ensures.items ∙ ap (λ (k : List ℕ). k ++ (a.start ∷ [])) c.new.ensures)
    ∙ ap (walk near a.n (take a.n (set a.before a.start true))) (laws.backward_one a.start)
