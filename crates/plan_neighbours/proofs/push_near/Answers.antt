-- `plan_neighbours::push_near` meets its contract. Assumes nothing.
use Rattle.std.proofs.Common.{◌≡◌, refl, ◌∙◌, true, false, [], ◌∷◌, ◌<◌, get_or, length, length-append, arith}
use Rattle.limits.specs.Limits.{max_bundles}
use Rattle.plan.specs.Stack.{backward, walk_of}
use Rattle.plan_neighbours.proofs.Walks as laws
use Rattle.plan_neighbours.proofs.push_near.Goals as goal
use Rattle.plan_neighbours.proofs.push_near.Goals.{then-is_near+then-not-s-j, else-is_near, else-is_near-via-then-is_near+else-not-s-j, else-is_near-via-else-is_near}

pub loop-j-init : goal.loop-j-init
loop-j-init c = record { room_kept = λ n h k. refl; pushed = λ n h k. laws.row_start c.args.row.now n _ }

pub push-requires : goal.push-requires
push-requires c =
    let l = c.loop-j in
    let f : get_or l.s.seen l.j true ≡ false = laws.same_in l.s.seen l.j (omega arith) ∙ c.if-not-s-j.true in
    let r = laws.room_left l.s.seen max_bundles l.j (omega arith) (omega arith) f in
    let k = l.invariant.room_kept max_bundles (omega arith) (omega arith) in
    omega arith

pub loop-j-preserved : goal.loop-j-preserved
loop-j-preserved c =
    let l = c.loop-j in
    let row = c.args.row.now in
    let t : l.j < length row = c.loop-j-test.true in
    elim c.if-is_near.branch [
      | then-is_near+then-not-s-j w ↦
          let f : get_or l.s.seen l.j true ≡ false = laws.same_in l.s.seen l.j (omega arith) ∙ w.if-not-s-j.true in
          rw (w.s-is, w.push.ensures.items) (record {
            room_kept = λ n h k. omega (arith, laws.room_left l.s.seen n l.j (omega arith) (omega arith) f, l.invariant.room_kept n h k, length-append l.s.pending.items (l.j ∷ []));
            pushed = λ n h k. laws.pushed row n l.j l.s.seen l.s.pending.items (omega arith) w.if-is_near.true f ∙ l.invariant.pushed n h k;
          })
      | else-is_near w ↦ elim w.else-is_near.branch [
        | else-is_near-via-then-is_near+else-not-s-j v ↦
            let f : get_or l.s.seen l.j true ≡ true = laws.same_in l.s.seen l.j (omega arith) ∙ v.if-not-s-j.false in
            rw w.s-is (record { room_kept = l.invariant.room_kept; pushed = λ n h k. laws.passed row n l.j l.s.seen (backward l.s.pending.items) (omega arith) v.if-is_near.true f ∙ l.invariant.pushed n h k })
        | else-is_near-via-else-is_near v ↦
            rw w.s-is (record { room_kept = l.invariant.room_kept; pushed = λ n h k. laws.left_out row n l.j (walk_of n l.s) (omega arith) v.if-is_near.false ∙ l.invariant.pushed n h k })
      ]
    ]

pub returns : goal.returns
returns c n h k =
    let l = c.loop-j in
    (laws.row_done c.args.row.now n l.j (walk_of n l.s) c.loop-j-test.false ∙ l.invariant.pushed n h k, l.invariant.room_kept n h k)
