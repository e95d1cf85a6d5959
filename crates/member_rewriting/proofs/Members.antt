-- Routes in slots, one rewritten, and the members that are left.
-- Assumes nothing.
use Rattle.std.specs.Prelude.{Option, Some, None}
use Prim.Native.Nat.{ℕ, ◌+◌, ◌*◌, ◌-◌, ◌≤◌, ◌<◌}
use mathlib.Core.Path.{◌≡◌, refl, sym, ap, ◌∙◌}
use mathlib.Core.List.{List}
use mathlib.Core.Bool.{Bool, true, false, cond}
use native.Mathlib.Omega.{arith}
use lib.Dec.{ltb}
use lib.ListN.{length, get_or, set, drop}
use lib.Seq.{get_or-set_other}
use lib.Ieee.{Float}
use borrow.Author.Tests.{lt-ltb, le-ltb}
use Rattle.limits.specs.Limits.{slot_points}
use Rattle.geometry.specs.declared.Point.{Point}
use Rattle.geometry.specs.declared.Role.{Role}
use Rattle.geometry.specs.Points.{Route, points_from}
use Rattle.route.specs.Window.{points_length}
use Rattle.route.specs.Slots.{routes_of, Held, Stored, held_set, slot_is}
use Rattle.route.specs.Contract.{told, left_in, Leaves}
use Rattle.board.specs.declared.Member.{Member}
use Rattle.plan.specs.BoardTables.{no_member}
use Rattle.plan.specs.MemberColumns.{edges_of}
use Rattle.plan.proofs.MemberColumns.{edge_got}
use Rattle.plan.proofs.TableReads.{rest_cons, rest_none}
use Rattle.drawing.specs.Build.{route_at}
use Rattle.drawing.specs.Rewrite.{rewritten, two_points, corridor_depth, rewrite_one, put_route, then_routes, rewrite_all}
use Rattle.checks.specs.CheckRows.{no_point}
use Rattle.checks.specs.LentRows.{taps_of}
use Rattle.geometry.specs.declared.Role.TheVariants.{Input, Output}
use Rattle.member_rewriting.specs.declared.Way.{Way}
use Rattle.member_rewriting.specs.declared.Way.TheVariants.{Trunk, Corridor}
use borrow.Author.Rules.{rules}
use Rattle.member_rewriting.specs.Ways.{way_of, is_trunk, depth_of}
use Rattle.checks.specs.MemberSlices.{depth_at, rewrite_with, routes_in, CountsKept, Roomy}

pub same_kept : (ns : List ℕ) (e : ℕ) → Held ns → CountsKept ns ns e
same_kept ns e h = record { hold = h; others = λ k d. refl }

-- ---- one member

module _ (inside : Bool) (role : Role) (pitch depth : Float) (tap : Point) (s : List Float) (ns : List ℕ) (e : ℕ) (h : e < length ns) where
  abbrev pub asked : Option Route
  asked = rewrite_with inside role pitch depth tap (route_at (routes_of s ns) e)

  abbrev pub asked_in : Option Route
  asked_in = rewritten inside role pitch depth tap (points_from s (slot_points * e) (get_or ns e 0))

  asked_is : asked ≡ cond (ltb (get_or ns e 0) 2) None (two_points asked_in)
  unfolding rewrite_with
  asked_is = rw (slot_is s ns e h, points_length s (slot_points * e) (get_or ns e 0))

  none_put : asked ≡ None → routes_in false s ns ≡ put_route asked e (routes_of s ns)
  unfolding routes_in put_route
  none_put x = rw x

  pub member_short : get_or ns e 0 < 2 → routes_in false s ns ≡ put_route asked e (routes_of s ns)
  member_short l = none_put (asked_is ∙ ap (λ (b : Bool). cond b None (two_points asked_in)) (lt-ltb (get_or ns e 0) 2 l))

  long : 2 ≤ get_or ns e 0 → asked ≡ two_points asked_in
  long l = asked_is ∙ ap (λ (b : Bool). cond b None (two_points asked_in)) (le-ltb (get_or ns e 0) 2 l)

  pub member_refused : (t u : List Float) (c : ℕ) → 2 ≤ get_or ns e 0 → Leaves None u t c asked_in → routes_in false s ns ≡ put_route asked e (routes_of s ns)
  unfolding told two_points
  member_refused t u c l x = none_put (long l ∙ ap two_points (sym x.route))

  made_is : (m : ℕ) (t u : List Float) (c : ℕ) → 2 ≤ get_or ns e 0 → Leaves (Some m) u t c asked_in → asked ≡ cond (ltb m 2) None (Some (points_from t 0 m))
  unfolding told two_points
  made_is m t u c l x = long l ∙ ap two_points (sym x.route) ∙ ap (λ (n : ℕ). cond (ltb n 2) None (Some (points_from t 0 m))) (points_length t 0 m)

  pub member_tiny : (m : ℕ) (t u : List Float) (c : ℕ) → 2 ≤ get_or ns e 0 → m < 2 → Leaves (Some m) u t c asked_in → routes_in false s ns ≡ put_route asked e (routes_of s ns)
  member_tiny m t u c l k x = none_put (made_is m t u c l x ∙ ap (λ (b : Bool). cond b None (Some (points_from t 0 m))) (lt-ltb m 2 k))

  pub member_made : (m : ℕ) (t u v : List Float) (c : ℕ) (ms : List ℕ) → 2 ≤ get_or ns e 0 → 2 ≤ m → Held ns → Leaves (Some m) u t c asked_in → Stored s ns e (points_from t 0 m) v ms → routes_in true v ms ≡ put_route asked e (routes_of s ns)
  unfolding routes_in put_route
  member_made m t u v c ms l k w x y =
      ap (λ (r : List Route). Some r) (y.routes w)
      ∙ sym (ap (λ (o : Option Route). put_route o e (routes_of s ns)) (made_is m t u c l x ∙ ap (λ (b : Bool). cond b None (Some (points_from t 0 m))) (le-ltb m 2 k)))

pub made_most : (m : ℕ) (t u : List Float) (c : ℕ) (o : Option Route) → c ≤ slot_points - 2 → Leaves (Some m) u t c o → m ≤ slot_points
unfolding left_in
made_most m t u c o l x = let z : m ≤ c + 2 = x.scratch in omega arith

pub counts_made : (s t v : List Float) (ns ms : List ℕ) (e m : ℕ) → m ≤ slot_points → Held ns → Stored s ns e (points_from t 0 m) v ms → CountsKept ns ms e
counts_made s t v ns ms e m l h y =
    let q : ms ≡ set ns e m = y.counts ∙ ap (set ns e) (points_length t 0 m) in
    record {
      hold = λ k. rw q (held_set ns e m l h k);
      others = λ k d. ap (λ (x : List ℕ). get_or x k 0) q ∙ get_or-set_other ns e k m 0 d;
    }

-- ---- the members that are left

module _ (inside : Bool) (role : Role) (pitch offset : Float) (ms : List Member) (taps : List Point) where
  abbrev pub rest_all : ℕ → List Route → Option (List Route)
  rest_all i rs = rewrite_all inside role pitch offset (taps_of (drop i ms) (drop i taps)) (drop i ms) rs

  abbrev pub one_of : ℕ → List Route → Option (List Route)
  one_of i rs = put_route (rewrite_with inside role pitch (depth_at offset pitch (get_or ms i no_member).tap_lane) (get_or taps i no_point) (route_at rs (get_or ms i no_member).edge)) (get_or ms i no_member).edge rs

  all_next : (i : ℕ) (rs : List Route) → i < length ms → length ms ≤ length taps → rest_all i rs ≡ then_routes (one_of i rs) (λ ss. rest_all (i + 1) ss)
  unfolding rewrite_all taps_of rewrite_one rewrite_with corridor_depth depth_at
  all_next i rs h k = rw (rest_cons ms i no_member h, rest_cons taps i no_point (omega arith))

  then_on : (o : Option (List Route)) (k : List Route → Option (List Route)) (p : List Float) (c : List ℕ) → routes_in true p c ≡ o → then_routes o k ≡ k (routes_of p c)
  unfolding routes_in then_routes
  then_on o k p c e = rw (sym e)

  then_off : (o : Option (List Route)) (k : List Route → Option (List Route)) (p : List Float) (c : List ℕ) → routes_in false p c ≡ o → then_routes o k ≡ routes_in false p c
  unfolding routes_in then_routes
  then_off o k p c e = rw (sym e)

  pub all_on : (i : ℕ) (rs : List Route) (p : List Float) (c : List ℕ) → i < length ms → length ms ≤ length taps → routes_in true p c ≡ one_of i rs → rest_all (i + 1) (routes_of p c) ≡ rest_all i rs
  all_on i rs p c h k e = sym (all_next i rs h k ∙ then_on (one_of i rs) (λ ss. rest_all (i + 1) ss) p c e)

  pub all_off : (i : ℕ) (rs : List Route) (p : List Float) (c : List ℕ) → i < length ms → length ms ≤ length taps → routes_in false p c ≡ one_of i rs → routes_in false p c ≡ rest_all i rs
  all_off i rs p c h k e = sym (all_next i rs h k ∙ then_off (one_of i rs) (λ ss. rest_all (i + 1) ss) p c e)

  pub all_end : (i : ℕ) (p : List Float) (c : List ℕ) → length ms ≤ i → routes_in true p c ≡ rest_all i (routes_of p c)
  unfolding rewrite_all taps_of routes_in
  all_end i p c h = rw (rest_none ms i h)

-- the way of the route at a lane
pub way_trunk : (inside : Bool) (offset depth : Float) → Trunk ≡ way_of inside offset → Trunk ≡ way_of inside depth
unfolding way_of
way_trunk true offset depth e = refl
way_trunk false offset depth e = search rules

pub way_corridor : (inside : Bool) (x offset pitch : Float) (lane : ℕ) → Corridor x ≡ way_of inside offset → Corridor (depth_at x pitch lane) ≡ way_of inside (depth_at offset pitch lane)
unfolding way_of depth_of
way_corridor true x offset pitch lane e = search rules
way_corridor false x offset pitch lane e = ap (λ (w : Way). Corridor (depth_at (depth_of w) pitch lane)) e

-- a way as a test and a depth leads as these do: through the trunk the depth says nothing
with_way : (inside : Bool) (role : Role) (pitch depth : Float) (tap : Point) (r : Route) (w : Way) → w ≡ way_of inside depth → rewrite_with inside role pitch depth tap r ≡ rewrite_with (is_trunk w) role pitch (depth_of w) tap r
unfolding rewrite_with rewritten way_of is_trunk depth_of
with_way true Input pitch depth tap r w e = rw e
with_way true Output pitch depth tap r w e = rw e
with_way false role pitch depth tap r w e = rw e

-- what is made of a member's route, by its way
pub one_read : (inside : Bool) (role : Role) (pitch offset : Float) (w : Way) (ms : List Member) (taps : List Point) (i : ℕ) (rs : List Route) → w ≡ way_of inside (depth_at offset pitch (get_or ms i no_member).tap_lane) → one_of inside role pitch offset ms taps i rs ≡ put_route (rewrite_with (is_trunk w) role pitch (depth_of w) (get_or taps i no_point) (route_at rs (get_or ms i no_member).edge)) (get_or ms i no_member).edge rs
one_read inside role pitch offset w ms taps i rs e =
    ap
    (λ (o : Option Route). put_route o (get_or ms i no_member).edge rs)
    (with_way inside role pitch (depth_at offset pitch (get_or ms i no_member).tap_lane) (get_or taps i no_point) (route_at rs (get_or ms i no_member).edge) w e)

pub roomy_next : (edges : List ℕ) (first i count : ℕ) (p q : List Float) (c d : List ℕ) → Roomy edges first i count p c → CountsKept c d (get_or edges (first + i) 0) → length d ≡ length c → length q ≡ length p → i < count → Roomy edges first (i + 1) count q d
roomy_next edges first i count p q c d r k x y h =
    record {
      slots = let z = r.slots in omega arith;
      hold = k.hold;
      known = λ j l m. let z = r.known j (omega arith) m in omega arith;
      room = λ j l m.
          let z = r.room j (omega arith) m in
          let e : get_or d (get_or edges (first + j) 0) 0 ≡ get_or c (get_or edges (first + j) 0) 0 = k.others (get_or edges (first + j) 0) (λ w. r.once i j (omega arith) (omega arith) m (sym w)) in
          rw e z;
      once = λ j l m n o. r.once j l (omega arith) n o;
    }

-- the same of a member's row
module _ (ms : List Member) (i : ℕ) (p : List Float) (c : List ℕ) (r : Roomy (edges_of ms) 0 i (length ms) p c) (h : i < length ms) where
  here : get_or (edges_of ms) (0 + i) 0 ≡ (get_or ms i no_member).edge
  here = let z : 0 + i ≡ i = omega arith in rw (z, edge_got ms i)

  pub row_known : (get_or ms i no_member).edge < length c
  row_known = let k = r.known i (omega arith) h in rw here at k

  pub row_room : get_or c (get_or ms i no_member).edge 0 ≤ slot_points - 2
  row_room = let k = r.room i (omega arith) h in rw here at k

  pub row_next : (q : List Float) (d : List ℕ) → CountsKept c d (get_or ms i no_member).edge → length d ≡ length c → length q ≡ length p → Roomy (edges_of ms) 0 (i + 1) (length ms) q d
  row_next q d k x y = roomy_next (edges_of ms) 0 i (length ms) p q c d r (rw here k) x y h
