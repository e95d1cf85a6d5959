-- Every collector number of a drawn grid job's answer can stand on the page: a whole number of 128ths, not negative, below 2 ^ 33. For every plan whose numbers are multiples of 1/128 up to 2 ^ 20. Assumes nothing.
use Rattle.std.specs.Prelude.{ℕ, zero, suc, ◌-◌, ◌*◌, ◌^◌, ◌≤◌, ◌<◌, refl, Bool, true, List, [], ◌∷◌, map, ℤ, pos, negsuc, nat_abs, Float, length, take, get_or, Option, Some, None}
use Rattle.std.proofs.Math.Path.{◌≡◌, subst}
use Rattle.std.proofs.Common.{sym, ap, ◌∙◌, mul-le-mul_right, arith, length-take-le, get_or-take}
use Rattle.std.specs.Float.Ieee.{lt}
use Rattle.std.specs.Float.Ieee.Positive.{num, den}
use Rattle.binary64.specs.Range.{Within}
use Rattle.binary64.specs.ExactOnGrid.{at_size}
use Rattle.geometry.specs.declared.Segment.{Segment}
use Rattle.geometry.specs.Points.{Route}
use Rattle.board.specs.declared.Edge.{Edge}
use Rattle.board.specs.declared.Bundle.{Bundle}
use Rattle.board.specs.declared.DrawnBundle.{DrawnBundle}
use Rattle.board.specs.declared.DrawnTap.{DrawnTap}
use Rattle.board.specs.Board.{Board}
use Rattle.sorting.specs.Lists.{Every}
use Rattle.job.specs.Job.{Job, given_routes, read_job}
use Rattle.job.specs.Job as job
use Rattle.job.proofs.Sound.{Sound, accepted_sound}
use Rattle.plan.specs.declared.Bound.{Bound}
use Rattle.plan.specs.Depths.{offsets_of}
use Rattle.plan.proofs.CarriedNumbers.{OfBound}
use Rattle.plan.specs.Plan.{Plan}
use Rattle.drawing.specs.Build.{Drawn}
use Rattle.drawing.specs.Normal as N
use Rattle.drawing.specs.Sheet.{Progress}
use Rattle.drawing.specs.Sheet as drawing
use Rattle.answer.specs.Answer.{Trunk, trunk_of}
use Rattle.ranges.proofs.Corridors.{Below}
use Rattle.ranges.specs.Coordinates.{OfDrawn}
use Rattle.ranges.proofs.Page.{OfPage, after_shift}
use Rattle.promise.specs.Order.{turns_of, drawn_of}
use Rattle.promise.specs.Stage.{sheet_drawn, normalized, bundles_told, page_told}
use Rattle.promise.proofs.BoardDemand.{Readable, turns_fine}
use Rattle.promise.proofs.Read.{readable}
use Rattle.grid.specs.On.{on}
use Rattle.grid.proofs.OnLaws.{on_at, on_finite}
use Rattle.grid.proofs.GridArithmetic.{at_bounded}
use Rattle.grid_plan.specs.Board as Z
use Rattle.grid_plan.specs.Image as I
use Rattle.grid_plan.specs.Sizes.{Near, Placed}
use Rattle.grid_sheet.specs.Draw as W
use Rattle.grid_sheet.specs.Page as X
use Rattle.grid_sheet.specs.Image as M
use Rattle.grid_sheet.proofs.Drawing.{OfOutcome}
use Rattle.grid_sheet.specs.Whole as Z2
use Rattle.grid_sheet.proofs.WholeSheet.{drawing_on, drawing_of, normalized_on}
use Rattle.grid_promise.specs.Grid.{whole_board, given}
use Rattle.grid_promise.proofs.Back.{board_back, routes_back, on_grid}
use Rattle.grid_promise.proofs.Whole.{WholePlan}
use Rattle.bundle_page.specs.PageTables.{OnPage, Printable, Printables}
use Rattle.bundle_page.proofs.PartsLaws.{chosen}
use Rattle.page_promise.proofs.Forward.{Forward, Onward, moved_onward}

-- ---- what can stand on the page
fits_page : (z : ℤ) → Forward z → Below 33 (on z) → OnPage (on z)
fits_page (pos n) f b =
    let h = at_bounded 7 (2 ^ 33 - 1) (on (pos n)) (pos n) (on_at (pos n)) b in
    record { count = n; is = on_at (pos n); small = omega arith }
fits_page (negsuc n) f b = absurd (omega arith)

-- of the numbers of a collector that are printed
pub record Ends (P : Float → Type 0) (c : Segment) : Type 0 where
  pub start_x : P c.start.x
  pub start_y : P c.start.y
  pub end_y : P c.end.y

-- each bundle of an answer can stand on the page
abbrev pub PageFits : List Trunk → Type 0
PageFits ts = Every (λ (t : Trunk). Ends OnPage t.collector) ts

-- a whole number of 128ths, not negative
record Gridded (x : Float) : Type 0 where
  whole : ℤ
  is : x ≡ on whole
  forward : Forward whole

fits : (x : Float) → Gridded x → Below 33 x → OnPage x
fits x g b = subst OnPage (sym g.is) (fits_page g.whole g.forward (subst (Below 33) g.is b))

-- ---- from the sheet to the answer
every_told : (P : Segment → Type 0) (edges : List Edge) (us : List Bundle) (ds : List Drawn) → Every (λ (d : Drawn). P d.collector) ds → Every (λ (t : Trunk). P t.collector) (bundles_told edges us ds)
unfolding bundles_told
every_told P edges [] ds h = tt
every_told P edges (u ∷ us) [] h = tt
every_told P edges (u ∷ us) (d ∷ ds) h = (h.0, every_told P edges us ds h.1)

both : (ds : List W.Drawn) → Every Onward ds → Every (OfDrawn (Below 33) (Below 33)) (map M.drawn ds) → Every (λ (d : Drawn). Ends OnPage d.collector) (map M.drawn ds)
both [] h k = tt
both (d ∷ ds) h k =
    let o = h.0 in
    let b = k.0 in (
      record {
        start_x = fits _ (record { whole = d.collector.start.x; is = refl; forward = o.start_x }) b.collector_start.0;
        start_y = fits _ (record { whole = d.collector.start.y; is = refl; forward = o.start_y }) b.collector_start.1;
        end_y = fits _ (record { whole = d.collector.end.y; is = refl; forward = o.end_y }) b.collector_end.1;
      },
      both ds h.1 k.1,
    )

-- ---- the plan's numbers are within 2 ^ 30
near_within : (z : ℤ) → Near z → Within 30 (on z)
near_within z h =
    let e : num (on z) * 2 ^ 7 ≡ nat_abs z * den (on z) = at_size 7 (on z) z (on_at z) in
    let l : nat_abs z * den (on z) ≤ 2 ^ 27 * den (on z) = mul-le-mul_right (den (on z)) h in
    record { is_finite = on_finite z; size = omega arith }

within : (zs : List (Option ℤ)) → Every Placed zs → Every (OfBound (Within 30)) (map I.bound zs)
within [] h = tt
within (None ∷ zs) h = (tt, within zs h.1)
within (Some z ∷ zs) h = (near_within z h.0, within zs h.1)

-- ---- a job with bit 2 set, read, and a plan on the grid
module _ (bytes : List ℕ) (j : Job) (came : read_job bytes ≡ job.accepted j) (g : j.flags.on_grid ≡ true) where
  abbrev B : Z.Board
  B = whole_board j

  abbrev allow : Bool
  allow = j.flags.permits_crossings

  abbrev visits : ℕ
  visits = j.grants.geometry_visits

  sound : Sound j
  sound = (accepted_sound bytes j came).0

  fit : Readable j.board (given_routes j)
  fit = readable bytes j came

  module _ (p : Plan) (n : WholePlan p) (u : Progress) (drawn : sheet_drawn j p ≡ drawing.going u) where
    abbrev wholes : W.Outcome
    wholes = Z2.sheet_drawn B (given j) allow n.whole.xs visits

    sheet_is : M.outcome (Z2.sheet_drawn (whole_board j) (given j) j.flags.permits_crossings n.whole.xs j.grants.geometry_visits) ≡ drawing.going u
    sheet_is =
        sym (drawing_on B (given j) (on_grid j sound g) allow n.whole.xs visits n.near)
        ∙ ap (λ (xs : List Bound). drawn_of (I.board B) allow (map I.route (given j)) xs visits) (sym (ap (λ (k : Plan). k.xs) n.is))
        ∙ ap (λ (b : Board). drawn_of b allow (map I.route (given j)) p.xs visits) (board_back j sound g)
        ∙ ap (λ (rs : List Route). drawn_of j.board allow rs p.xs visits) (routes_back j sound g)
        ∙ drawn

    below : OfPage (Below 33) (Below 33) (normalized j.board u)
    below =
        let b = j.board in
        after_shift b (given_routes j) fit.limits allow (turns_of b p.xs) visits u drawn
        (turns_fine (Within 30) b.bundles p.xs (offsets_of b) (subst (λ (xs : List Bound). Every (OfBound (Within 30)) xs) (sym (ap (λ (k : Plan). k.xs) n.is)) (within n.whole.xs n.near)))

    page_is : (v : W.Progress) → OfOutcome (W.going v) → M.progress v ≡ u → normalized j.board u ≡ M.page (Z2.normalized B v)
    page_is v o e = ap (λ (k : Progress). normalized j.board k) (sym e) ∙ ap (λ (b : Board). normalized b (M.progress v)) (sym (board_back j sound g)) ∙ normalized_on B (given j) (on_grid j sound g) v o

    ends : (o : W.Outcome) → OfOutcome o → M.outcome o ≡ drawing.going u → Every (λ (d : Drawn). Ends OnPage d.collector) (normalized j.board u).sheet.drawn
    unfolding X.page_of
    ends (W.refused e m) k q = let z : ◌≡◌ {A = ℕ} 0 1 = cc in absurd (omega arith)
    ends (W.going v) k q =
        let e = page_is v k (one_progress (M.progress v) u q) in
        subst (λ (pg : N.Page). Every (λ (d : Drawn). Ends OnPage d.collector) pg.sheet.drawn) (sym e)
        (both (Z2.normalized B v).sheet.drawn (moved_onward (record { nodes = B.nodes; routes = v.routes; drawn = v.drawn }))
        (subst (λ (pg : N.Page). Every (OfDrawn (Below 33) (Below 33)) pg.sheet.drawn) e below.placed.drawn))
      where
        one_progress : (a b : Progress) → drawing.going a ≡ drawing.going b → a ≡ b
        one_progress a b e = cc

    -- THE THEOREM: every printed number of the answer can stand on the page
    pub page_fits : PageFits (page_told j.board p.left u.left (normalized j.board u)).bundles
    unfolding page_told
    page_fits =
        every_told (Ends OnPage) j.board.edges j.board.bundles (normalized j.board u).sheet.drawn
        (ends (Z2.sheet_drawn B (given j) allow n.whole.xs visits) (drawing_of B (given j) (on_grid j sound g) allow n.whole.xs visits n.near) sheet_is)

-- ---- what `page_writer::put_page` requires, of the table that the answer is written from
printable : (b : DrawnBundle) → Ends OnPage b.collector → Printable b
printable b e =
    let y = b.collector.start.y in
    let z = b.collector.end.y in
    record { x = e.start_x; low = chosen (lt z y) z y e.end_y e.start_y; high = chosen (lt y z) z y e.end_y e.start_y }

every_row : (P : DrawnBundle → Type 0) (l : List DrawnBundle) (i : ℕ) (d : DrawnBundle) → i < length l → Every P l → P (get_or l i d)
every_row P [] i d h e = absurd (omega arith)
every_row P (x ∷ l) zero d h e = e.0
every_row P (x ∷ l) (suc i) d h e = every_row P l i d (omega arith) e.1

rows_of : (taps : List DrawnTap) (l : List DrawnBundle) → PageFits (map (trunk_of taps) l) → Every Printable l
rows_of taps [] e = tt
rows_of taps (b ∷ l) e = (printable b e.0, rows_of taps l e.1)

pub printables : (n : ℕ) (rows : List DrawnBundle) (taps : List DrawnTap) → n ≤ length rows → PageFits (map (trunk_of taps) (take n rows)) → Printables n rows
printables n rows taps fr e i d h =
    let q : i < length (take n rows) = rw (length-take-le n rows fr) h in
    subst Printable (get_or-take n rows i d h) (every_row Printable (take n rows) i d q (rows_of taps (take n rows) e))
