-- A job with bit 2 set has an exact last shift: so the sheet in its answer has no false joint, with no condition on the sheet. Assumes nothing.
use Rattle.std.specs.Prelude.{◌≡◌, ℕ, ◌^◌, ◌≤◌, Bool, true, false, List, [], ◌∷◌, map, ℤ, nat_abs, Float, Option}
use Rattle.std.proofs.Math.Path.{sym}
use Rattle.std.proofs.Common.{ap, ◌∙◌, subst, arith, true≢false}
use Rattle.geometry.specs.Points.{Route}
use Rattle.board.specs.declared.PlacedNode.{PlacedNode}
use Rattle.board.specs.Board.{Board}
use Rattle.job.specs.Job.{Job, given_routes, read_job}
use Rattle.job.specs.Job as job
use Rattle.job.proofs.Sound.{accepted_sound}
use Rattle.plan.specs.Plan as K
use Rattle.drawing.specs.Sheet as S
use Rattle.drawing.specs.Normal.{sheet_after}
use Rattle.sorting.specs.Lists.{Every}
use Rattle.ranges.specs.Coordinates.{OfPoint, OfTap, OfDrawn, OfPlaced}
use Rattle.answer.specs.Answer.{Sheet}
use Rattle.promise.specs.Stage as stage
use Rattle.promise.specs.Stage.{Comes}
use Rattle.promise.specs.Order.{drawn_of}
use Rattle.last_shift.specs.Shift.{ShiftExact, NodesExact}
use Rattle.last_shift.proofs.GridSteps as grid
use Rattle.last_shift.proofs.Grid.{grid_shift, grid_nodes}
use Rattle.grid.specs.On.{on}
use Rattle.grid.proofs.OnLaws.{on_finite}
use Rattle.grid.proofs.Exactly.{on_value}
use Rattle.grid_plan.specs.Board as Z
use Rattle.grid_plan.specs.Plan as P
use Rattle.grid_plan.specs.Image as I
use Rattle.grid_plan.specs.Sizes.{Placed, Length}
use Rattle.grid_plan.specs.Sizes as sizes
use Rattle.grid_plan.specs.OnGrid.{OnDraftingGrid}
use Rattle.grid_sheet.specs.Draw as W
use Rattle.grid_sheet.specs.Image as M
use Rattle.grid_sheet.specs.Sizes.{Kept, Tapped, KeptDrawn, Standing}
use Rattle.grid_sheet.proofs.SheetSteps.{tapped_kept}
use Rattle.grid_sheet.proofs.Drawing.{OfOutcome}
use Rattle.grid_sheet.specs.Whole.{sheet_drawn}
use Rattle.grid_sheet.proofs.WholeSheet.{drawing_on, drawing_of}
use Rattle.grid_promise.specs.Grid.{whole_board, given, whole_plan}
use Rattle.grid_promise.proofs.Back.{board_back, routes_back, on_grid}
use Rattle.grid_promise.proofs.Whole.{plan_is, own_near}

-- ---- numbers: z / 128 with |z| up to 2 ^ 46
abbrev G : Float → Type 0
G = grid.OnGrid 7 39

number_on : (z : ℤ) → nat_abs z ≤ 2 ^ 46 → G (on z)
number_on z h = record { is_finite = on_finite z; whole = z; is = on_value z; size = h }

point_on : (p : Z.Point) → Kept p → OfPoint G G (I.point p)
point_on p h = (number_on p.x h.0, number_on p.y h.1)

mapped : {A B : Type 0} (f : A → B) (P : A → Type 0) (Q : B → Type 0) → ((a : A) → P a → Q (f a)) → (l : List A) → Every P l → Every Q (map f l)
mapped f P Q g [] e = tt
mapped f P Q g (a ∷ l) e = (g a e.0, mapped f P Q g l e.1)

drawn_on : (d : W.Drawn) → KeptDrawn d → OfDrawn G G (M.drawn d)
drawn_on d h = record {
  collector_start = point_on d.collector.start h.0.0;
  collector_end = point_on d.collector.end h.0.1;
  spine_start = point_on d.spine.start h.1.0;
  spine_end = point_on d.spine.end h.1.1;
  taps = mapped M.tap_on Tapped (OfTap G G) (λ t k. point_on t.place (tapped_kept t k)) d.taps h.2;
}

job_size : (z : ℤ) → sizes.Job z → nat_abs z ≤ 2 ^ 46
job_size z h = let a = h.size in omega arith

-- ---- the sheet of a board in whole numbers
is_going : S.Outcome → Bool
is_going (S.going u) = true
is_going (S.refused e n) = false

the_sheet : S.Progress → S.Outcome → S.Progress
the_sheet d (S.going u) = u
the_sheet d (S.refused e n) = d

pub record Wholly (u : S.Progress) : Type 0 where
  pub whole : W.Progress
  pub is : u ≡ M.progress whole
  pub stands : Standing whole

module _ (b : Z.Board) (routes : List Z.Route) (good : OnDraftingGrid b routes) where
  wholly : (allow : Bool) (xs : List (Option ℤ)) (geometry : ℕ) (u : S.Progress) → Every Placed xs → drawn_of (I.board b) allow (map I.route routes) (map I.bound xs) geometry ≡ S.going u → Wholly u
  unfolding is_going the_sheet
  wholly allow xs geometry u near e = go (sheet_drawn b routes allow xs geometry) (drawing_of b routes good allow xs geometry near) (sym (drawing_on b routes good allow xs geometry near) ∙ e)
    where
      go : (o : W.Outcome) → OfOutcome o → M.outcome o ≡ S.going u → Wholly u
      go (W.refused n v) k z = absurd (true≢false (sym (ap is_going z)))
      go (W.going w) k z = record { whole = w; is = sym (ap (the_sheet u) z); stands = k }

  abbrev Inside : Z.PlacedNode → Type 0
  Inside n = sizes.Job n.body.corner.x × sizes.Job n.body.corner.y × Length n.body.width × Length n.body.height

  placed_on : (w : W.Progress) → Standing w → OfPlaced G G (sheet_after (I.board b) (M.progress w))
  placed_on w k = record {
    nodes = mapped I.placed Inside (λ (n : PlacedNode). OfPoint G G n.body.corner)
        (λ n h. (number_on n.body.corner.x (job_size n.body.corner.x h.0), number_on n.body.corner.y (job_size n.body.corner.y h.1))) b.nodes good.nodes;
    routes = mapped I.route (Every Kept) (Every (OfPoint G G)) (λ r h. mapped I.point Kept (OfPoint G G) point_on r h) w.routes k.routes;
    drawn = mapped M.drawn KeptDrawn (OfDrawn G G) drawn_on w.drawn k.drawn;
  }

  sizes_on : Every (λ (n : PlacedNode). G n.body.width × G n.body.height) (map I.placed b.nodes)
  sizes_on = mapped I.placed Inside (λ (n : PlacedNode). G n.body.width × G n.body.height)
      (λ n h. (number_on n.body.width (job_size n.body.width h.2.0), number_on n.body.height (job_size n.body.height h.3.0))) b.nodes good.nodes

  abbrev Exact : Board → S.Progress → Type 0
  Exact c u = ShiftExact (sheet_after c u) × NodesExact (sheet_after c u)

  exact_on : (u : S.Progress) → Wholly u → Exact (I.board b) u
  exact_on u h =
      subst (Exact (I.board b)) (sym h.is)
      (let s = sheet_after (I.board b) (M.progress h.whole) in
      (grid_shift 7 39 (omega arith) s (placed_on h.whole h.stands), grid_nodes 7 39 (omega arith) s (placed_on h.whole h.stands) sizes_on))

-- ---- a job

-- from every plan in whole numbers
pub shift_exact : (bytes : List ℕ) (j : Job) → read_job bytes ≡ job.accepted j → j.flags.on_grid ≡ true → (q : P.Plan) → Every Placed q.xs → (u : S.Progress) → stage.sheet_drawn j (I.plan q) ≡ S.going u
    → ShiftExact (sheet_after j.board u) × NodesExact (sheet_after j.board u)
shift_exact bytes j is_read g q near u e =
    let sound = (accepted_sound bytes j is_read).0 in
    let B = whole_board j in
    let rs = given j in
    let good = on_grid j sound g in
    let allow = j.flags.permits_crossings in
    let geometry = j.grants.geometry_visits in
    let board_is = board_back j sound g in
    let routes_are = routes_back j sound g in
    let drawn : drawn_of (I.board B) allow (map I.route rs) (map I.bound q.xs) geometry ≡ S.going u =
    ap (λ (b : Board). drawn_of b allow (map I.route rs) (map I.bound q.xs) geometry) board_is ∙ ap (λ (r : List Route). drawn_of j.board allow r (map I.bound q.xs) geometry) routes_are ∙ e in
    subst (λ (b : Board). ShiftExact (sheet_after b u) × NodesExact (sheet_after b u)) board_is
    (exact_on B rs good u (wholly B rs good allow q.xs geometry u near drawn))

the_plan : K.Plan → K.Step → K.Plan
the_plan d (K.going p) = p
the_plan d (K.refused v) = d

-- from our own
pub own_shift_exact : (bytes : List ℕ) (a : Sheet) (c : Comes bytes a) → c.said.flags.on_grid ≡ true
    → ShiftExact (sheet_after c.said.board c.sheet_made) × NodesExact (sheet_after c.said.board c.sheet_made)
unfolding the_plan
own_shift_exact bytes a c g =
    let j = c.said in
    let sound = (accepted_sound bytes j c.is_read).0 in
    let same : K.going c.plan_made ≡ K.going (I.plan (whole_plan j)) = sym c.is_planned ∙ plan_is j sound g in
    let is : c.plan_made ≡ I.plan (whole_plan j) = ap (the_plan c.plan_made) same in
    shift_exact bytes j c.is_read g (whole_plan j) (own_near j sound g) c.sheet_made (ap (stage.sheet_drawn j) (sym is) ∙ c.is_drawn)
