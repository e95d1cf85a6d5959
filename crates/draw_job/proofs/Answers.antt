-- The answer that is written from the tables after the last shift is the one that is told.
-- Assumes nothing.
use Prim.Native.Nat.{ℕ, zero, suc, ◌+◌, ◌≤◌, ◌<◌}
use mathlib.Core.Path.{◌≡◌, refl, sym, ap, ◌∙◌, subst}
use mathlib.Core.List.{List, [], ◌∷◌, map}
use native.Mathlib.Omega.{arith}
use lib.ListN.{length, get_or, take, drop}
use lib.Seq.{get_or-take, length-take-le}
use lib.Ieee.{Float}
use Rattle.geometry.specs.declared.Point.{Point}
use Rattle.board.specs.declared.Edge.{Edge}
use Rattle.board.specs.declared.Member.{Member}
use Rattle.board.specs.declared.Bundle.{Bundle}
use Rattle.board.specs.declared.DrawnBundle.{DrawnBundle}
use Rattle.board.specs.declared.DrawnTap.{DrawnTap}
use Rattle.board.specs.Tables.{DrawnTaps}
use Rattle.board.specs.Board.{window}
use Rattle.plan.specs.Tables.{Planning}
use Rattle.plan.specs.BoardTables.{no_bundle}
use Rattle.planner.specs.Members.{member_at}
use Rattle.planner.proofs.MemberTurns.{window_cons}
use Rattle.drawing.specs.Check.{no_edge}
use Rattle.checks.specs.CheckRows.{no_point, taps_from, drawn_of}
use Rattle.checks.specs.MemberSlices.{Row}
use Rattle.turns.specs.TurnTables.{Rows}
use Rattle.route.specs.Slots.{routes_of}
use Rattle.board.specs.Tables.{DrawnBundles}
use Rattle.drawing.specs.Normal.{Page, page_of}
use Rattle.normalize.specs.declared.Laid.{Laid}
use Rattle.normalize.specs.PageTables.{Heading, heading, sheet_in, page_in, Windows}
use Rattle.answer.specs.declared.Frame.{Frame}
use Rattle.answer.specs.Answer.{Trunk, trunk_of, spot_of, lines_of}
use Rattle.answer.specs.SheetTables.{sheet_of}
use Rattle.job.specs.declared.Job as code
use Rattle.promise.specs.Stage.{tap_told, bundle_told, bundles_told, page_told, answer_of}
use Rattle.job_tables.specs.Came.{job_in}
use Rattle.draw_job.specs.JobTables.{TapsOf, OnSheet, finished}

null_tap : DrawnTap
null_tap = record { edge = 0; point = no_point }

module _ (table : List Edge) (members : List Member) (edges : List ℕ) (taps : List Point) (t : DrawnTaps) (of : TapsOf table members taps t)
    (are : (k : ℕ) → k < length members → get_or edges k 0 ≡ (member_at members k).edge) where
  abbrev listed : List DrawnTap
  listed = t.items

  tap_same : (k : ℕ) → k < length members → get_or listed k null_tap ≡ tap_told table (record { edge = get_or edges k 0; place = get_or taps k no_point })
  tap_same k h =
      of.row_is k h null_tap
      ∙ ap (λ (e : ℕ). record { edge = (get_or table e no_edge).id; point = get_or taps k no_point }) (sym (are k h))

  taps_same : (k first : ℕ) → first + k ≤ length members → window first k listed ≡ map (tap_told table) (taps_from edges taps first k)
  unfolding taps_from
  taps_same zero first h = refl
  taps_same (suc k) first h =
      rw (window_cons listed first k null_tap (omega (arith, of.count_is)))
      (ap (λ (d : DrawnTap). d ∷ window (suc first) k listed) (tap_same first (omega arith))
      ∙ ap (λ (l : List DrawnTap). tap_told table (record { edge = get_or edges first 0; place = get_or taps first no_point }) ∷ l) (taps_same k (suc first) (omega arith)))

  trunk_same : (u : Bundle) (d : DrawnBundle) → d.id ≡ u.id → d.first + d.count ≤ length members → trunk_of listed d ≡ bundle_told table u (drawn_of edges taps d)
  trunk_same u d e h =
      ap (λ (l : List DrawnTap). record { id = d.id; interior = d.interior; collector = d.collector; spine = d.spine; taps = l }) (taps_same d.count d.first h)
      ∙ ap (λ (i : ℕ). record { id = i; interior = d.interior; collector = d.collector; spine = d.spine; taps = map (tap_told table) (taps_from edges taps d.first d.count) }) e

  pub trunks_same : (us : List Bundle) (ds olds : List DrawnBundle) → map heading ds ≡ map heading olds → Rows us olds → ((i : ℕ) → i < length us → (get_or us i no_bundle).first + (get_or us i no_bundle).count ≤ length members)
      → map (trunk_of listed) ds ≡ bundles_told table us (map (drawn_of edges taps) ds)
  unfolding bundles_told Rows
  trunks_same [] [] olds e r w = refl
  trunks_same [] (d ∷ ds) [] e r w = let z = ap length e in absurd (omega arith)
  trunks_same [] (d ∷ ds) (c ∷ olds) e r w = absurd r
  trunks_same (u ∷ us) [] [] e r w = absurd r
  trunks_same (u ∷ us) [] (c ∷ olds) e r w = let z = ap length e in absurd (omega arith)
  trunks_same (u ∷ us) (d ∷ ds) [] e r w = absurd r
  trunks_same (u ∷ us) (d ∷ ds) (c ∷ olds) e r w =
      let nothing : Heading = record { id = 0; first = 0; count = 0 } in
      let h : heading d ≡ heading c = ap (λ (l : List Heading). get_or l 0 nothing) e in
      let rest : map heading ds ≡ map heading olds = ap (λ (l : List Heading). drop 1 l) e in
      let i : d.id ≡ u.id = ap (λ (x : Heading). x.id) h ∙ r.0.id in
      let f : d.first ≡ u.first = ap (λ (x : Heading). x.first) h ∙ r.0.first in
      let n : d.count ≡ u.count = ap (λ (x : Heading). x.count) h ∙ r.0.count in
      ap (λ (t : Trunk). t ∷ map (trunk_of listed) ds) (trunk_same u d i (omega (arith, f, n, w 0 (omega arith))))
      ∙ ap (λ (l : List Trunk). bundle_told table u (drawn_of edges taps d) ∷ l) (trunks_same us ds olds rest r.1 (λ k m. w (suc k) (omega arith)))

-- ---- the rows of the drawn bundles

row_at : (us : List Bundle) (ds : List DrawnBundle) → Rows us ds → (i : ℕ) → i < length us → (u : Bundle) (d : DrawnBundle) → Row (get_or us i u) (get_or ds i d)
unfolding Rows
row_at [] ds r i h u d = absurd (omega arith)
row_at (v ∷ us) [] r i h u d = absurd r
row_at (v ∷ us) (c ∷ ds) r zero h u d = r.0
row_at (v ∷ us) (c ∷ ds) r (suc i) h u d = row_at us ds r.1 i (omega arith) u d

module _ (j : code.Job) (edges : List ℕ) (ds : DrawnBundles) (points : List Float) (counts : List ℕ) (taps : List Point) (on : OnSheet j edges ds points counts taps) where
  pub windows : Windows ds.items (length j.members.items)
  windows i d h =
      let r = row_at j.bundles.items ds.items on.each_row i (omega (arith, h, on.all_drawn)) no_bundle d in
      omega (arith, on.windows i h, r.first, r.count)

  bundle_windows : (i : ℕ) → i < length j.bundles.items → (get_or j.bundles.items i no_bundle).first + (get_or j.bundles.items i no_bundle).count ≤ length j.members.items
  bundle_windows i h = on.windows i (omega (arith, h, on.all_drawn))

  module _ (buffer : List Float) (p : Planning) (rest : ℕ) (l : Laid) (after : List Float) (shifted : List Point) (t : DrawnTaps) (of : TapsOf j.edges.items j.members.items shifted t)
      (page : page_in edges l after counts shifted ≡ page_of (sheet_in edges j.nodes.items ds.items points counts taps)) (kept : map heading l.drawn.items ≡ map heading ds.items) where
    abbrev frame : Frame
    frame = record { tap_visits = p.left.0; geometry_visits = rest; width = l.width; height = l.height }

    trunks : map (trunk_of t.items) l.drawn.items
        ≡ bundles_told j.edges.items j.bundles.items (map (drawn_of edges shifted) l.drawn.items)
    trunks = trunks_same j.edges.items j.members.items edges shifted t of on.edges_are j.bundles.items l.drawn.items ds.items kept on.each_row bundle_windows

    pub sheet_same : sheet_of frame l.nodes.items j.edges.items after counts l.drawn.items t.items ≡ answer_of (finished j buffer p edges ds points counts taps rest)
    unfolding page_told
    sheet_same =
        ap (λ (b : List Trunk). record { tap_visits = p.left.0; geometry_visits = rest; width = l.width; height = l.height; nodes = map spot_of l.nodes.items; routes = lines_of j.edges.items (routes_of after counts); bundles = b }) trunks
        ∙ ap (λ (q : Page). page_told (job_in j buffer).board p.left.0 rest q) page
