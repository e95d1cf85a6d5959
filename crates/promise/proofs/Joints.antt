-- No false joint: the first three sentences of demand 3, of a sheet whose numbers are finite and whose tests are all clear; so of every sheet that is drawn.
-- Assumes nothing.
use Rattle.std.specs.Prelude.{ℕ, zero, suc, ◌<◌, ◌≡◌, refl, Bool, true, false, ◌||◌, cond, T, eqb, length, get_or, Float, Some, None}
use Rattle.std.proofs.Common.{subst, arith, eqb-true, ne_eqb}
use mathlib.Core.List.Memᴰ
use mathlib.Core.List.{List, [], ◌∷◌, Memᴰ}
use Rattle.std.specs.Float.Ieee.Scale.{finite}
use Rattle.geometry.specs.declared.Point.{Point}
use Rattle.geometry.specs.declared.Segment.{Segment}
use Rattle.geometry.specs.Points.{Route}
use Rattle.geometry.specs.Contact.{slanted, contact}
use Rattle.geometry.specs.Enters.{passes_inside}
use Rattle.exact.specs.Exact.{Exact, SamePlace, Finite}
use Rattle.exact.specs.Promise.{Shared, Tapped, Clean, FiniteTap}
use Rattle.exact.proofs.Theorem.{no_contact}
use Rattle.exact.proofs.TwoBundles.{nothing_shared}
use Rattle.route.proofs.Found.{run_ends}
use Rattle.board.specs.declared.Options.{Options}
use Rattle.board.specs.declared.Bundle.{Bundle}
use Rattle.board.specs.Board.{Board, no_edge}
use Rattle.sorting.specs.Lists.{Every}
use Rattle.plan.specs.Depths.{members_in, no_node}
use Rattle.drawing.specs.Build.{TapOn, Drawn, route_at, tap_of, no_drawn}
use Rattle.drawing.specs.Check.{own, every_route, drawn_tests, interior_tests}
use Rattle.drawing.specs.Sheet.{Turn, Progress, going, sheet_of, blank}
use Rattle.drawing.proofs.CleanChecks.{Clear}
use Rattle.drawing.proofs.Assembly.{Apart, sound}
use Rattle.drawing.proofs.Promise.{FreePair, Outside, drawn_free, apart_at, member_clear, every_mem}
use Rattle.ranges.specs.Coordinates.{OfPoint, OfRoutes, OfTap, OfDrawn}
use Rattle.ranges.proofs.Extent.{OkTurn, sheet_ok}
use Rattle.ranges.specs.Extent.{InX, InY, OkSheet, Limits}
use Rattle.promise.specs.Demand3.{SegmentOf, its_collector, its_spine, OnBoth, OnlyAtTap, StaysOut, AllFinite, WithRoutes, WithBundles, MembersOut, NoFalseJoint}

-- ---- the numbers of a sheet are finite

module _ (X Y : Float → Type 0) (f : (x : Float) → X x → T (finite x)) (g : (y : Float) → Y y → T (finite y)) where
  at_point : (p : Point) → OfPoint X Y p → Finite p
  at_point p k = record { x = f p.x k.0; y = g p.y k.1 }

  ends : (d : Drawn) → OfDrawn X Y d → (s : Segment) → SegmentOf d s → Finite s.start × Finite s.end
  ends d k s (its_collector e) = rw e (at_point d.collector.start k.collector_start, at_point d.collector.end k.collector_end)
  ends d k s (its_spine e) = rw e (at_point d.spine.start k.spine_start, at_point d.spine.end k.spine_end)

  pub finite_of : (routes : List Route) (drawn : List Drawn) → OfRoutes X Y routes → Every (OfDrawn X Y) drawn → AllFinite routes drawn
  finite_of routes drawn r h = record {
    on_routes = λ i p m. at_point p (r i p m);
    of_bundles = λ d m s e. ends d (every_mem (OfDrawn X Y) drawn h d m) s e;
    of_taps = λ d m t n. at_point t.place (every_mem (OfTap X Y) d.taps (every_mem (OfDrawn X Y) drawn h d m).taps t n);
  }

pub every_point : (P : Point → Type 0) (rs : List Route) → Every (Every P) rs → (i : ℕ) (p : Point) → Memᴰ p (route_at rs i) → P p
every_point P [] e i p m = absurd (Memᴰ.not-nil m)
every_point P (r ∷ rs) e zero p m = every_mem P r e.0 p m
every_point P (r ∷ rs) e (suc i) p m = every_point P rs e.1 i p m

pub all_finite : (u : Progress) → OkSheet u → AllFinite u.routes u.drawn
all_finite u h = finite_of InX InY (λ x k. k.is_finite) (λ y k. k.is_finite) u.routes u.drawn h.present h.bundles

-- ---- the tap that is permitted is one that is listed

pub tap_finite : (ts : List TapOn) (i : ℕ) → ((t : TapOn) → Memᴰ t ts → Finite t.place) → FiniteTap (tap_of ts i)
unfolding tap_of
tap_finite [] i f = tt
tap_finite (t ∷ ts) i f = go (eqb t.edge i) (tap_finite ts i (λ x m. f x (Memᴰ.tail m)))
  where
    go : (k : Bool) → FiniteTap (tap_of ts i) → FiniteTap (cond k (Some t.place) (tap_of ts i))
    go true h = f t (Memᴰ.head refl)
    go false h = h

pub record Listed (ts : List TapOn) (i : ℕ) (p : Exact) : Type 0 where
  pub tap : TapOn
  pub listed : Memᴰ tap ts
  pub of_route : tap.edge ≡ i
  pub at_tap : SamePlace tap.place p

pub tap_listed : (ts : List TapOn) (i : ℕ) (p : Exact) → Tapped (tap_of ts i) p → Listed ts i p
unfolding tap_of
tap_listed [] i p h = absurd h
tap_listed (t ∷ ts) i p h = go (eqb t.edge i) refl h (tap_listed ts i p)
  where
    go : (k : Bool) → eqb t.edge i ≡ k → Tapped (cond k (Some t.place) (tap_of ts i)) p → (Tapped (tap_of ts i) p → Listed ts i p) → Listed (t ∷ ts) i p
    go true e h f = record { tap = t; listed = Memᴰ.head refl; of_route = eqb-true t.edge i e; at_tap = h }
    go false e h f = let l = f h in record { tap = l.tap; listed = Memᴰ.tail l.listed; of_route = l.of_route; at_tap = l.at_tap }

pub shared : (s run : Segment) (p : Exact) → OnBoth s run p → Shared s run.start run.end p
shared s run p h = record { on_bus = h.on_first; on_route = h.on_second }

only_at_tap : (d : Drawn) (i : ℕ) (s run : Segment) → Clean s run.start run.end (tap_of d.taps i) → OnlyAtTap d i s run
only_at_tap d i s run c = record {
  at_most_one = λ p q h k. c.at_most_one p q (shared s run p h) (shared s run q k);
  only_there = λ p h.
      let t = c.at_the_tap p (shared s run p h) in
      let l = tap_listed d.taps i p t.at_tap in
      record { tap = l.tap; listed = l.listed; of_route = l.of_route; at_tap = l.at_tap; at_end = t.at_end };
}

-- ---- nodes

both_false : (x y : Bool) → x ≡ false → y ≡ false → (x || y) ≡ false
both_false false y e f = f
both_false true y e f = e

stays_out : (b : Board) (i : ℕ) (run : Segment) → Outside b (get_or b.edges i no_edge) run → StaysOut b i run
unfolding own
stays_out b i run o = record {
  straight = o.straight;
  foreign = λ j l s t.
      let e = get_or b.edges i no_edge in
      both_false (slanted run.start run.end) (passes_inside run.start run.end (get_or b.nodes j no_node).body) o.straight
      (o.foreign j l (both_false (eqb j e.source) (eqb j e.target) (ne_eqb j e.source s) (ne_eqb j e.target t)));
}

-- ---- the sentences, of a sheet all of whose tests are clear

pub mem_at : {A : Type 0} (l : List A) (z : A) (k : ℕ) → k < length l → Memᴰ (get_or l k z) l
mem_at [] z k h = absurd (omega arith)
mem_at (x ∷ l) z zero h = Memᴰ.head refl
mem_at (x ∷ l) z (suc k) h = Memᴰ.tail (mem_at l z k (omega arith))

module _ (o : Options) (routes : List Route) (drawn : List Drawn) (fine : AllFinite routes drawn) where
  pub with_routes : Every (λ (d : Drawn). Clear (drawn_tests o false d every_route routes)) drawn → WithRoutes routes drawn
  with_routes h d m s part i run n l =
      let f = drawn_free o false routes drawn h d m i run n in
      let e = run_ends (route_at routes i) run n in
      let k = fine.of_bundles d m s part in
      only_at_tap d i s run
      (no_contact s run.start run.end (tap_of d.taps i)
      (record { bus_start = k.0; bus_end = k.1; first = fine.on_routes i run.start e.0; last = fine.on_routes i run.end e.1; its_tap = tap_finite d.taps i (fine.of_taps d m) })
      l (go f.0.contact f.1.contact part))
    where
      go : contact d.collector run.start run.end (tap_of d.taps i) false ≡ false → contact d.spine run.start run.end (tap_of d.taps i) false ≡ false → SegmentOf d s → contact s run.start run.end (tap_of d.taps i) false ≡ false
      go c p (its_collector e) = rw e c
      go c p (its_spine e) = rw e p

  -- two bundles: the later one's segment is the bus, the earlier one's the run
  pub with_bundles : Apart o false drawn → WithBundles drawn
  with_bundles h j k less within s t first second l p on =
      let d = get_or drawn j no_drawn in
      let c = get_or drawn k no_drawn in
      let x = fine.of_bundles d (mem_at drawn no_drawn j (omega arith)) s first in
      let y = fine.of_bundles c (mem_at drawn no_drawn k within) t second in
      nothing_shared t s.start s.end (record { bus_start = y.0; bus_end = y.1; first = x.0; last = x.1; its_tap = tt })
      l (go d c (apart_at o false drawn h j k less within) first second) p (record { on_bus = on.on_second; on_route = on.on_first })
    where
      go : (d c : Drawn) → FreePair o false c d → SegmentOf d s → SegmentOf c t → contact t s.start s.end None false ≡ false
      go d c f (its_collector x) (its_collector y) = rw (x, y) f.collectors.contact
      go d c f (its_collector x) (its_spine y) = rw (x, y) f.spine_collector.contact
      go d c f (its_spine x) (its_collector y) = rw (x, y) f.collector_spine.contact
      go d c f (its_spine x) (its_spine y) = rw (x, y) f.spines.contact

pub members_out : (b : Board) (routes : List Route) → ((u : Bundle) → Memᴰ u b.bundles → Clear (interior_tests b (members_in b u) routes)) → MembersOut b routes
members_out b routes h u l m k run r = stays_out b m.edge run (member_clear b (members_in b u) routes (h u l) m k run r)

-- THE THEOREM, with crossings forbidden, for every plan whose numbers are finite; that each bundle has its turn is asked for
pub no_false_joint : (b : Board) (routes : List Route) (limits : Limits b routes) (ts : List Turn) (grant : ℕ) (u : Progress) (planned : Every OkTurn ts) (went : sheet_of b false ts (blank routes grant) ≡ going u)
    → ((v : Bundle) → Memᴰ v b.bundles → (t : Turn) × Memᴰ t ts × (t.bundle ≡ v)) → NoFalseJoint b u.routes u.drawn
no_false_joint b routes limits ts grant u planned went each =
    let s = sound b false routes grant ts u went in
    let fine = all_finite u (sheet_ok b routes limits false ts grant u planned went) in
    record {
      with_routes = with_routes b.options u.routes u.drawn fine s.contacts;
      with_bundles = with_bundles b.options u.routes u.drawn fine s.apart;
      members_out = members_out b u.routes (λ v m.
          let t = each v m in
          subst (λ (z : Bundle). Clear (interior_tests b (members_in b z) u.routes)) t.2 (every_mem (λ (x : Turn). Clear (interior_tests b (members_in b x.bundle) u.routes)) ts s.outside t.0 t.1));
    }
