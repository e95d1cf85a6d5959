-- `plan_corridors::add_corridors` meets its contract. Assumes nothing.
use mathlib.Core.Path.{◌≡◌, refl, sym, ◌∙◌, ap}
use Prim.Native.Nat.{ℕ, ◌+◌, ◌-◌, ◌≤◌, ◌<◌}
use native.Mathlib.Omega.{arith}
use lib.ListN.{length, get_or, take, drop}
use lib.Ieee as Ieee
use lib.Ieee.{Float, binary64}
use Rattle.limits.specs.Limits.{max_edges, max_lane}
use Rattle.geometry.specs.declared.Role.{Role}
use Rattle.board.specs.declared.Bundle.{Bundle}
use Rattle.board.specs.declared.Member.{Member}
use Rattle.board.specs.Board.{Board, rail_depth}
use Rattle.plan.specs.Depths.{◌⊕◌, number, inward, endpoint_of, pitch_of, corridor_x}
use Rattle.plan.specs.declared.Bound.TheVariants.{None}
use Rattle.plan.specs.BoardTables.{no_member}
use Rattle.plan.proofs.MemberColumns as columns
use Rattle.plan.proofs.TableReads as laws
use Rattle.plan_corridors.proofs.Among as among
use Rattle.plan_corridors.proofs.add_corridors.Goals as goal
use Rattle.plan_corridors.proofs.add_corridors.Goals.{in-None, in_default, In-loop-m}

-- the corridor of the code is the definition's
corridor-is : (b : Board) (u : Bundle) (m : Member) (role : Role) (lane : ℕ) (tap offset pitch : Float) → u.role ≡ role → lane ≡ m.tap_lane → tap ≡ inward u.role (endpoint_of b u).x (rail_depth b.options) → pitch ≡ pitch_of b u
    → inward role tap (offset ⊕ Ieee.mul binary64 (number (lane + 1)) pitch) ≡ corridor_x b u offset m
corridor-is b u m role lane tap offset pitch r l t p =
    ap (λ (z : Role). inward z tap (offset ⊕ Ieee.mul binary64 (number (lane + 1)) pitch)) (sym r)
    ∙ ap (λ (z : ℕ). inward u.role tap (offset ⊕ Ieee.mul binary64 (number (z + 1)) pitch)) l
    ∙ ap (λ (z : Float). inward u.role z (offset ⊕ Ieee.mul binary64 (number (m.tap_lane + 1)) pitch)) t
    ∙ ap (λ (z : Float). inward u.role (inward u.role (endpoint_of b u).x (rail_depth b.options)) (offset ⊕ Ieee.mul binary64 (number (m.tap_lane + 1)) z)) p

edge_low : (s : In-loop-m) → (get_or (take (s.args.u.first + s.args.u.count - s.args.u.first) (drop s.args.u.first s.args.members.now)) s.loop-m.m-index no_member).edge < max_edges
edge_low s = columns.edge_below s.args.members.now s.args.u s.requires.inside s.loop-m.m-index s.loop-m-test.true max_edges s.requires.below.0

pub offset_bounds-corridors-m : goal.offset_bounds-corridors-m
offset_bounds-corridors-m c = omega (arith, edge_low (goal.at.offset_bounds-corridors-m c).In-loop-m)

pub bounds : goal.bounds
bounds c = omega (arith, edge_low (goal.at.bounds c).In-loop-m, c.requires.room)

pub offset_bounds-corridors-m-in-None : goal.offset_bounds-corridors-m-in-None
offset_bounds-corridors-m-in-None c = omega (arith, edge_low (goal.at.offset_bounds-corridors-m-in-None c).In-loop-m)

pub bounds-corridors-m : goal.bounds-corridors-m
bounds-corridors-m c = omega (arith, edge_low (goal.at.bounds-corridors-m c).In-loop-m, c.requires.room)

pub corridor_x-requires : goal.corridor_x-requires
corridor_x-requires c = omega (arith, columns.lane_below c.args.members.now c.args.u c.requires.inside c.loop-m.m-index c.loop-m-test.true (max_lane + 1) c.requires.below.1)

pub loop-m-preserved : goal.loop-m-preserved
loop-m-preserved c =
    let a = c.args in
    let l = c.loop-m in
    let u = a.u in
    let i = l.m-index in
    let h : i < u.count = columns.place_in a.members.now u c.requires.inside i c.loop-m-test.true in
    let r : Member = get_or (take (u.first + u.count - u.first) (drop u.first a.members.now)) i no_member in
    let low = edge_low (goal.at.loop-m-preserved c).In-loop-m in
    elim c.match-corridors-m.branch [
      | in-None v ↦ rw v.corridors-is (λ b e w k t p.
          let m : Member = get_or b.members (u.first + i) no_member in
          let there : u.first + i < length b.members = omega (arith, h, k) in
          let x = v.corridor_x in
          among.among_new b u a.offset l.corridors m r.edge (columns.part_edge a.members.now u.first u.count i h ∙ w.edge_is (u.first + i) there) e
          _ _ (laws.part_at no_member b.members u.first u.count k i h) x.result (omega (arith, low, c.requires.room)) v.in-None.is
          (x.ensures ∙ corridor-is b u m u.role _ a.tap a.offset a.pitch refl (columns.part_lane a.members.now u.first u.count i h ∙ w.lane_is (u.first + i) there) t p)
          ∙ l.invariant b e w k t p)
      | in_default v ↦ rw v.corridors-is (λ b e w k t p.
          let there : u.first + i < length b.members = omega (arith, h, k) in
          among.among_known b u a.offset l.corridors (get_or b.members (u.first + i) no_member) r.edge (columns.part_edge a.members.now u.first u.count i h ∙ w.edge_is (u.first + i) there) e
          _ _ (laws.part_at no_member b.members u.first u.count k i h) _ v.in_default.is
          ∙ l.invariant b e w k t p)
    ]

pub returns : goal.returns
returns c =
    let a = c.args in
    let l = c.loop-m in
    let done : a.u.count ≤ l.m-index = omega (arith, columns.part_long a.members.now a.u.first a.u.count c.requires.inside, c.loop-m-test.false) in
    λ b e w k t p.
    among.among_end b a.u a.offset (get_or l.corridors e None) e _ (laws.part_end no_member b.members a.u.first a.u.count k l.m-index done)
    ∙ l.invariant b e w k t p
