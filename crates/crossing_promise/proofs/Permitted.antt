-- With crossings permitted: what bundles and routes of a sheet that is drawn share, beside its list. For every plan whose x are within 2 ^ 30. Assumes nothing.
use Rattle.std.specs.Prelude.{ℕ, ◌<◌, ◌≡◌, refl, ◌⊎◌, Bool, true, false, length, Option, None}
use Rattle.std.proofs.Common.{◌∙◌, inl, inr, true≢false, arith}
use mathlib.Core.List.{List}
use Rattle.std.proofs.Math.ListN.{get_or}
use Rattle.geometry.specs.declared.Point.{Point}
use Rattle.geometry.specs.declared.Segment.{Segment}
use Rattle.geometry.specs.declared.Contact.{Contact}
use Rattle.geometry.specs.declared.Contact.TheVariants as kinds
use Rattle.geometry.specs.Points.{Route, runs}
use Rattle.geometry.specs.Contact.{contact}
use Rattle.geometry.specs.Kind.{kind, disallowed}
use Rattle.geometry.proofs.KindContact.{kind_contact}
use Rattle.geometry.specs.Crossing.{crossing_place}
use Rattle.exact.specs.Exact.{Exact, Same, exact, HasLength}
use Rattle.exact.specs.Promise as exactly
use Rattle.exact.specs.Promise.{Shared, Touches}
use Rattle.exact.proofs.Between.{same_trans}
use Rattle.exact.proofs.Theorem.{no_contact, no_contact_but_crossing}
use Rattle.kind_words.specs.Words.{Words}
use Rattle.kind_words.proofs.Theorem.{kind_words, strict_shares}
use Rattle.route.proofs.Found.{run_ends}
use Rattle.board.specs.Board.{Board}
use Rattle.sorting.specs.Lists.{Every}
use Rattle.drawing.specs.Build.{Drawn, route_at, tap_of, no_drawn}
use Rattle.drawing.specs.Sheet.{Turn, Progress, going, sheet_of, blank}
use Rattle.drawing.proofs.Promise.{Free, accepted}
use Rattle.ranges.proofs.Extent.{OkTurn, sheet_ok}
use Rattle.ranges.specs.Extent.{Limits}
use Rattle.promise.specs.Demand3.{SegmentOf, its_collector, its_spine, OnBoth, AtTapAndEnd, AllFinite}
use Rattle.promise.proofs.Joints.{all_finite, tap_finite, tap_listed, shared, mem_at}
use Rattle.crossings.specs.List.{crossing_of, crossing_list}
use Rattle.crossings.specs.Words.{no_run, segment_of, run_of}
use Rattle.crossings.proofs.Each.{listed_each}
use Rattle.crossing_promise.specs.Demand7.{ListedAt, AtTapOrListed, Joints}
use Rattle.crossing_promise.proofs.Sheet.{free}

-- ---- one bundle segment and one run, where nothing is disallowed with crossings permitted

module _ (bus : Segment) (a b : Point) (tap : Option Point) (F : exactly.Numbers bus a b tap) where
  data Join (p : Exact) : Type 0 where
    touching : Touches a b tap p → Join p
    strictly : kind bus a b tap ≡ kinds.StrictCrossing → Same p (exact (crossing_place bus a)) → Join p

  join : HasLength a b → contact bus a b tap true ≡ false → (p : Exact) → Shared bus a b p → Join p
  join l e p h = go (kind bus a b tap) refl (kind_words bus a b tap F) (kind_contact bus a b tap true ∙ e)
    where
      go : (k : Contact) → kind bus a b tap ≡ k → Words bus a b tap k → disallowed true k ≡ false → Join p
      go kinds.Apart i (inl w) d = absurd (w l)
      go kinds.Apart i (inr w) d = absurd (w.1 p h)
      go kinds.TouchAtTap i w d = touching ((no_contact bus a b tap F l w.1).at_the_tap p h)
      go kinds.StrictCrossing i w d =
          let o = strict_shares bus a b tap F i in
          let x = o.only p h in
          let y = o.is.at in
          strictly i (record { x = same_trans p.x o.point.x (exact (crossing_place bus a)).x x.x y.x; y = same_trans p.y o.point.y (exact (crossing_place bus a)).y x.y y.y })
      go kinds.TouchElsewhere i w d = absurd (true≢false d)
      go kinds.Overlap i w d = absurd (true≢false d)
      go kinds.Slanted i w d = absurd (true≢false d)

part_of : (d : Drawn) (s : Bool) → SegmentOf d (segment_of d s)
part_of d false = its_collector refl
part_of d true = its_spine refl

-- ---- the sheet

module _ (b : Board) (routes : List Route) (limits : Limits b routes) (ts : List Turn) (grant : ℕ) (u : Progress) (planned : Every OkTurn ts) (went : sheet_of b true ts (blank routes grant) ≡ going u) where
  fine : AllFinite u.routes u.drawn
  fine = all_finite u (sheet_ok b routes limits true ts grant u planned went)

  numbers : (w e : ℕ) (s : Bool) (n : ℕ) → w < length u.drawn → n < length (runs (route_at u.routes e)) → exactly.Numbers (segment_of (get_or u.drawn w no_drawn) s) (run_of u.routes e n).start (run_of u.routes e n).end (tap_of (get_or u.drawn w no_drawn).taps e)
  unfolding fine
  numbers w e s n l k =
      let d = get_or u.drawn w no_drawn in
      let r = run_of u.routes e n in
      let i = mem_at u.drawn no_drawn w l in
      let m = run_ends (route_at u.routes e) r (mem_at (runs (route_at u.routes e)) no_run n k) in
      let g = fine.of_bundles d i (segment_of d s) (part_of d s) in
      record {
        bus_start = g.0;
        bus_end = g.1;
        first = fine.on_routes e r.start m.0;
        last = fine.on_routes e r.end m.1;
        its_tap = tap_finite d.taps e (fine.of_taps d i);
      }

  with_routes : (w e : ℕ) (s : Bool) (n : ℕ) → w < length u.drawn → e < length u.routes → n < length (runs (route_at u.routes e)) → HasLength (run_of u.routes e n).start (run_of u.routes e n).end → AtTapOrListed u.drawn u.routes (crossing_list u.drawn u.routes) w e s n
  with_routes w e s n l m k h =
      let d = get_or u.drawn w no_drawn in
      let bus = segment_of d s in
      let r = run_of u.routes e n in
      let tap = tap_of d.taps e in
      let F = numbers w e s n l k in
      let c : contact bus r.start r.end tap true ≡ false = (free b routes true ts grant u went w e s n l k).contact in
      let o = (no_contact_but_crossing bus r.start r.end tap F h c).at_most_one in
      record {
        at_most_one = λ p q f g. o p q (shared bus r p f) (shared bus r q g);
        only_there = λ p f. go p (join bus r.start r.end tap F h c p (shared bus r p f));
      }
    where
      go : (p : Exact) → Join (segment_of (get_or u.drawn w no_drawn) s) (run_of u.routes e n).start (run_of u.routes e n).end (tap_of (get_or u.drawn w no_drawn).taps e) (numbers w e s n l k) p
          → AtTapAndEnd (get_or u.drawn w no_drawn) e (run_of u.routes e n) p ⊎ ListedAt (crossing_list u.drawn u.routes) w e s n p
      go p (touching t) =
          let x = tap_listed (get_or u.drawn w no_drawn).taps e p t.at_tap in
          inl (record { tap = x.tap; listed = x.listed; of_route = x.of_route; at_tap = x.at_tap; at_end = t.at_end })
      go p (strictly i same) =
          let c = crossing_of w e s n (crossing_place (segment_of (get_or u.drawn w no_drawn) s) (run_of u.routes e n).start) in
          inr (record {
            entry = c;
            in_list = listed_each u.drawn u.routes c (record { bundle_there = l; edge_there = m; run_there = k; strict = i; placed = refl });
            bundle = refl;
            edge = refl;
            spine = refl;
            run = refl;
            at_place = same;
          })

  pair : (j k : ℕ) → j < k → k < length u.drawn → (s t : Bool) → Free b.options true (segment_of (get_or u.drawn k no_drawn) t) None (segment_of (get_or u.drawn j no_drawn) s)
  pair j k l m false false = ((accepted b true routes grant ts u went).bundles_free j k l m).collectors
  pair j k l m false true = ((accepted b true routes grant ts u went).bundles_free j k l m).spine_collector
  pair j k l m true false = ((accepted b true routes grant ts u went).bundles_free j k l m).collector_spine
  pair j k l m true true = ((accepted b true routes grant ts u went).bundles_free j k l m).spines

  with_bundles : (j k : ℕ) → j < k → k < length u.drawn → (s t : Bool) → HasLength (segment_of (get_or u.drawn j no_drawn) s).start (segment_of (get_or u.drawn j no_drawn) s).end → (p : Exact) → OnBoth (segment_of (get_or u.drawn j no_drawn) s) (segment_of (get_or u.drawn k no_drawn) t) p
      → kind (segment_of (get_or u.drawn k no_drawn) t) (segment_of (get_or u.drawn j no_drawn) s).start (segment_of (get_or u.drawn j no_drawn) s).end None ≡ kinds.StrictCrossing
  unfolding fine
  with_bundles j k l m s t h p on =
      let first = get_or u.drawn j no_drawn in
      let second = get_or u.drawn k no_drawn in
      let earlier = segment_of first s in
      let later = segment_of second t in
      let g = fine.of_bundles first (mem_at u.drawn no_drawn j (omega arith)) earlier (part_of first s) in
      let f = fine.of_bundles second (mem_at u.drawn no_drawn k m) later (part_of second t) in
      go (join later earlier.start earlier.end None (record { bus_start = f.0; bus_end = f.1; first = g.0; last = g.1; its_tap = tt }) h (pair j k l m s t).contact p (record { on_bus = on.on_second; on_route = on.on_first }))
    where
      go : {F : exactly.Numbers (segment_of (get_or u.drawn k no_drawn) t) (segment_of (get_or u.drawn j no_drawn) s).start (segment_of (get_or u.drawn j no_drawn) s).end None} → Join (segment_of (get_or u.drawn k no_drawn) t) (segment_of (get_or u.drawn j no_drawn) s).start (segment_of (get_or u.drawn j no_drawn) s).end None F p
          → kind (segment_of (get_or u.drawn k no_drawn) t) (segment_of (get_or u.drawn j no_drawn) s).start (segment_of (get_or u.drawn j no_drawn) s).end None ≡ kinds.StrictCrossing
      go (touching x) = absurd x.at_tap
      go (strictly i same) = i

  pub permitted_joints : Joints u.drawn u.routes (crossing_list u.drawn u.routes)
  permitted_joints = record { with_routes = with_routes; with_bundles = with_bundles }
