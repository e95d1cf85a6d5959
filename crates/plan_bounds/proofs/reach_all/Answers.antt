-- `plan_bounds::reach_all` meets its contract. Assumes nothing.
use mathlib.Core.Path.{◌≡◌, sym, ◌∙◌, ap}
use mathlib.Core.List.{List, ◌∷◌}
use Prim.Native.Nat.{ℕ, ◌+◌, ◌≤◌, ◌<◌}
use native.Mathlib.Omega.{arith}
use lib.ListN.{length, get_or, drop}
use Rattle.geometry.specs.declared.Role.{Role}
use Rattle.board.specs.declared.Bundle.{Bundle}
use Rattle.board.specs.declared.Member.{Member}
use Rattle.board.specs.Board.{Board}
use Rattle.plan.specs.Depths.{members_in, corridor_of}
use Rattle.plan.specs.BoardTables.{no_member}
use Rattle.plan.specs.MemberColumns.{edges_of}
use Rattle.plan.specs.Prepared.{other, end_x, Rowed}
use Rattle.plan.proofs.MemberColumns.{edge_got}
use Rattle.plan.proofs.TableReads as rows
use Rattle.plan_bounds.proofs.Bounding as laws
use Rattle.plan_bounds.proofs.reach_all.Goals as goal

-- the member that a turn reads, and what it reads of it
module _ (b : Board) (ms : List Member) (lanes : List ℕ) (u : Bundle) (i : ℕ) (w : Rowed b (edges_of ms) lanes) (k : u.first + u.count ≤ length b.members) (h : i < u.count) where
  there : u.first + i < length b.members
  there = omega (arith, h, k)

  abbrev member : Member
  member = get_or b.members (u.first + i) no_member

  edge_is : (get_or ms (u.first + i) no_member).edge ≡ member.edge
  edge_is = sym (edge_got ms (u.first + i)) ∙ w.edge_is (u.first + i) there

  part : drop i (members_in b u) ≡ member ∷ drop (i + 1) (members_in b u)
  part = rows.part_at no_member b.members u.first u.count k i h

pub returns-in_default : goal.returns-in_default
returns-in_default c =
    let a = c.args in
    let l = c.loop-i in
    let u = a.u in
    let h = c.loop-i-test.true in
    let m = c.member_reach in
    let v = c.member_route-route.ensures in
    let e = rw (v.0, v.1, v.2) at c.end_x-end.ensures in
    λ b given lanes r w k q o.
    laws.reach_none b given a.role l.d (member b a.members.now lanes u l.i w k h) _ _ (part b a.members.now lanes u l.i w k h) m.result
    (m.ensures ∙ laws.reach_is b given a.role (member b a.members.now lanes u l.i w k h) a.reserve _ c.end_x-end.result r
    (c.corridor_of-corridor.ensures b o ∙ ap (λ (z : Role). corridor_of b z ((get_or a.members.now (u.first + l.i) no_member).edge)) c.other-across.ensures ∙ ap (corridor_of b (other a.role)) (edge_is b a.members.now lanes u l.i w k h))
    (e ∙ ap (end_x a.role) (q.routes_are (u.first + l.i) (there b a.members.now lanes u l.i w k h))))
    c.in_default.is
    ∙ l.invariant b given lanes r w k q o

pub loop-i-preserved : goal.loop-i-preserved
loop-i-preserved c =
    let a = c.args in
    let l = c.loop-i in
    let u = a.u in
    let h = c.loop-i-test.true in
    let m = c.member_reach in
    let v = c.member_route-route.ensures in
    let e = rw (v.0, v.1, v.2) at c.end_x-end.ensures in
    λ b given lanes r w k q o.
    laws.reach_some b given a.role l.d (member b a.members.now lanes u l.i w k h) _ _ (part b a.members.now lanes u l.i w k h) m.result
    (m.ensures ∙ laws.reach_is b given a.role (member b a.members.now lanes u l.i w k h) a.reserve _ c.end_x-end.result r
    (c.corridor_of-corridor.ensures b o ∙ ap (λ (z : Role). corridor_of b z ((get_or a.members.now (u.first + l.i) no_member).edge)) c.other-across.ensures ∙ ap (corridor_of b (other a.role)) (edge_is b a.members.now lanes u l.i w k h))
    (e ∙ ap (end_x a.role) (q.routes_are (u.first + l.i) (there b a.members.now lanes u l.i w k h))))
    c.in-At.x c.tighten.result c.in-At.is c.tighten.ensures
    ∙ l.invariant b given lanes r w k q o

pub returns : goal.returns
returns c =
    let a = c.args in
    let l = c.loop-i in
    λ b given lanes r w k q o.
    laws.reach_end b given a.role l.d _ (rows.part_end no_member b.members a.u.first a.u.count k l.i c.loop-i-test.false)
    ∙ l.invariant b given lanes r w k q o

pub corridor_of-corridor-requires : goal.corridor_of-corridor-requires
corridor_of-corridor-requires c =
    let i = c.loop-i.i in
    let k = c.args.u.first + i in
    omega (arith, c.requires.below.low i c.loop-i-test.true, edge_got c.args.members.now k)
