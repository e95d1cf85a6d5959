-- What a sheet that is drawn promises of its list: in order, each strict crossing once and nothing else; with crossings forbidden, nothing. For every plan whose x are numbers of the format within 2 ^ 30. Assumes nothing.
use Rattle.std.specs.Prelude.{ℕ, ◌<◌, ◌≡◌, refl, List, [], ◌∷◌, Bool, cond, length, get_or, Float}
use Rattle.std.proofs.Common.{sym, ap, ◌∙◌, subst, true≢false}
use Rattle.std.proofs.Math.Bool.{true, false}
use Rattle.geometry.specs.declared.Point.{Point}
use Rattle.geometry.specs.declared.Segment.{Segment}
use Rattle.geometry.specs.Points.{Route, runs}
use Rattle.geometry.specs.Contact.{level, contact}
use Rattle.geometry.specs.Kind.{disallowed}
use Rattle.geometry.proofs.KindContact.{kind_contact}
use Rattle.geometry.specs.Crossing.{crossing_place}
use Rattle.route.proofs.Found.{run_ends}
use Rattle.board.specs.Board.{Board}
use Rattle.sorting.specs.Lists.{Every}
use Rattle.sorting.specs.Sorted.{every_map, every_at}
use Rattle.drawing.specs.Build.{Drawn, route_at, tap_of, no_drawn}
use Rattle.drawing.specs.Sheet.{Turn, Progress, going, sheet_of, blank}
use Rattle.drawing.proofs.Promise.{Free, Accepted, accepted}
use Rattle.ranges.proofs.NoMinusZero.{PlainBoard}
use Rattle.ranges.specs.Coordinates.{OfPoint, OfDrawn}
use Rattle.ranges.proofs.Drawn.{OfTurn}
use Rattle.ranges.proofs.Extent.{OkTurn, sheet_ok, sheet_of_format}
use Rattle.ranges.specs.Extent.{OfFormat, OkPoint, OkDrawn, Limits}
use Rattle.crossings.specs.List.{Crossing, crossing_list}
use Rattle.crossings.specs.Words.{no_run, segment_of, run_of, IsCrossing, ListKept}
use Rattle.crossings.proofs.Keys.{RealPoint}
use Rattle.promise.proofs.Joints.{mem_at}
use Rattle.crossings.proofs.Each.{listed_only, listed_each}
use Rattle.crossings.proofs.Order.{in_order, once}

-- ---- with crossings forbidden nothing is listed

module _ (b : Board) (routes : List Route) (allow : Bool) (ts : List Turn) (grant : ℕ) (u : Progress) (went : sheet_of b allow ts (blank routes grant) ≡ going u) where
  kept : Accepted b allow routes ts u
  kept = accepted b allow routes grant ts u went

  pub free : (w e : ℕ) (s : Bool) (n : ℕ) → w < length u.drawn → n < length (runs (route_at u.routes e)) → Free b.options allow (segment_of (get_or u.drawn w no_drawn) s) (tap_of (get_or u.drawn w no_drawn).taps e) (run_of u.routes e n)
  unfolding kept
  free w e false n l k = kept.collector_free (get_or u.drawn w no_drawn) (mem_at u.drawn no_drawn w l) e (run_of u.routes e n) (mem_at (runs (route_at u.routes e)) no_run n k)
  free w e true n l k = kept.spine_free (get_or u.drawn w no_drawn) (mem_at u.drawn no_drawn w l) e (run_of u.routes e n) (mem_at (runs (route_at u.routes e)) no_run n k)

  none_crosses : allow ≡ false → (c : Crossing) → ¬ IsCrossing u.drawn u.routes c
  none_crosses f c h =
      let d = get_or u.drawn c.bundle no_drawn in
      let s = segment_of d c.spine in
      let r = run_of u.routes c.edge c.run in
      let tap = tap_of d.taps c.edge in
      let n : contact s r.start r.end tap false ≡ false = subst (λ (x : Bool). contact s r.start r.end tap x ≡ false) f (free c.bundle c.edge c.spine c.run h.bundle_there h.run_there).contact in
      true≢false (ap (disallowed false) (sym h.strict) ∙ kind_contact s r.start r.end tap false ∙ n)

  pub nothing_listed : allow ≡ false → crossing_list u.drawn u.routes ≡ []
  nothing_listed f = go (crossing_list u.drawn u.routes) (listed_only u.drawn u.routes)
    where
      go : (l : List Crossing) → Every (IsCrossing u.drawn u.routes) l → l ≡ []
      go [] e = refl
      go (c ∷ l) e = absurd (none_crosses f c e.0)

-- ---- THE LIST, crossings permitted or not

segment_ends : (X Y : Float → Type 0) (d : Drawn) → OfDrawn X Y d → (s : Bool) → OfPoint X Y (segment_of d s).start × OfPoint X Y (segment_of d s).end
segment_ends X Y d k false = (k.collector_start, k.collector_end)
segment_ends X Y d k true = (k.spine_start, k.spine_end)

module _ (b : Board) (routes : List Route) (limits : Limits b routes) (plain : PlainBoard b routes) (ts : List Turn) (grant : ℕ) (u : Progress) (planned : Every OkTurn ts) (planned_held : Every (OfTurn OfFormat) ts) (allow : Bool) (went : sheet_of b allow ts (blank routes grant) ≡ going u) where
  real : (p : Point) → OkPoint p → OfPoint OfFormat OfFormat p → RealPoint p
  real p k f = record { x = (k.0.is_finite, f.0); y = (k.1.is_finite, f.1) }

  crossing_real : (bus : Segment) (a : Point) → RealPoint bus.start → RealPoint a → RealPoint (crossing_place bus a)
  crossing_real bus a S A = go (level bus.start bus.end)
    where
      go : (t : Bool) → RealPoint (cond t (record { x = a.x; y = bus.start.y }) (record { x = bus.start.x; y = a.y }))
      go true = record { x = A.x; y = S.y }
      go false = record { x = S.x; y = A.y }

  place_real : (c : Crossing) → IsCrossing u.drawn u.routes c → RealPoint c.place
  place_real c h =
      let fit = sheet_of_format b routes limits plain allow ts grant u planned_held went in
      let ok = sheet_ok b routes limits allow ts grant u planned went in
      let d = get_or u.drawn c.bundle no_drawn in
      let bus = segment_of d c.spine in
      let r = run_of u.routes c.edge c.run in
      let m = run_ends (route_at u.routes c.edge) r (mem_at (runs (route_at u.routes c.edge)) no_run c.run h.run_there) in
      let g = segment_ends _ _ d (every_at OkDrawn u.drawn no_drawn ok.bundles c.bundle h.bundle_there) c.spine in
      let f = segment_ends _ _ d (every_at (OfDrawn OfFormat OfFormat) u.drawn no_drawn fit.bundles c.bundle h.bundle_there) c.spine in
      subst RealPoint (sym h.placed) (crossing_real bus r.start (real bus.start g.0 f.0) (real r.start (ok.present c.edge r.start m.0) (fit.present c.edge r.start m.0)))

  pub list_kept : ListKept u.drawn u.routes (crossing_list u.drawn u.routes)
  list_kept = record {
    in_order = in_order u.drawn u.routes (every_map (IsCrossing u.drawn u.routes) (λ c. RealPoint c.place) (crossing_list u.drawn u.routes) place_real (listed_only u.drawn u.routes));
    each = listed_each u.drawn u.routes;
    once = once u.drawn u.routes;
    nothing_else = listed_only u.drawn u.routes;
  }
