-- The sheet before the last shift, from the board and planned x: binary64's is the image of the one in whole numbers, and its numbers are small.
-- Assumes nothing.
use Rattle.std.specs.Prelude.{◌≡◌, refl, ℕ, ◌^◌, Bool, ℤ, Float, Option, Some, None}
use Rattle.std.proofs.Common.{ap, ◌∙◌, arith}
use mathlib.Core.List.{List, [], ◌∷◌, map}
use Rattle.board.specs.declared.Bundle.{Bundle}
use Rattle.plan.specs.Depths as L
use Rattle.drawing.specs.Sheet as S
use Rattle.drawing.specs.Normal as N
use Rattle.sorting.specs.Sorted.{every_map}
use Rattle.grid_plan.specs.Board as Z
use Rattle.grid_plan.specs.Depths as D
use Rattle.grid_plan.specs.Image.{placed, board, route, bound}
use Rattle.grid_plan.proofs.Deep.{offsets_on, offsets_sized}
use Rattle.grid_sheet.specs.Draw as W
use Rattle.grid_sheet.specs.Image as M
use Rattle.grid_sheet.specs.Image.{turn, outcome, page}
use Rattle.grid_sheet.proofs.Drawing.{OfOutcome, sheet_on, sheet_of_of}
use Rattle.grid_sheet.proofs.Paging.{page_on}
use Rattle.sorting.specs.Lists.{Every}
use Rattle.grid.specs.On.{on}
use Rattle.grid_sheet.specs.Whole.{normalized, sheet_drawn}
use Rattle.grid_plan.specs.Sizes.{Sized, Job, Placed}
use Rattle.grid_plan.specs.OnGrid.{OnDraftingGrid}
use Rattle.grid_sheet.specs.Sizes.{Kept, Timely, Standing}

-- ---- the turns
turns_on : (us : List Bundle) (xs : List (Option ℤ)) (ds : List ℤ) → S.turns_from us (map bound xs) (map on ds) ≡ map turn (W.turns_from us xs ds)
unfolding S.turns_from W.turns_from
turns_on [] xs ds = refl
turns_on (u ∷ us) [] ds = refl
turns_on (u ∷ us) (x ∷ xs) [] = refl
turns_on (u ∷ us) (x ∷ xs) (d ∷ ds) = ap (λ (o : Option Float). record { bundle = u; planned = o; offset = on d } ∷ S.turns_from us (map bound xs) (map on ds)) (planned x) ∙ ap (λ (l : List S.Turn). turn (record { bundle = u; planned = x; offset = d }) ∷ l) (turns_on us xs ds)
  where
    planned : (x : Option ℤ) → S.planned_x (bound x) ≡ M.number x
    planned None = refl
    planned (Some z) = refl

module _ (b : Z.Board) (routes : List Z.Route) (good : OnDraftingGrid b routes) where
  turns_timely : (us : List Bundle) (xs : List (Option ℤ)) (ds : List ℤ) → Every Placed xs → Every (Sized (2 ^ 44)) ds → Every (Timely) (W.turns_from us xs ds)
  unfolding W.turns_from
  turns_timely [] xs ds h k = tt
  turns_timely (u ∷ us) [] ds h k = tt
  turns_timely (u ∷ us) (x ∷ xs) [] h k = tt
  turns_timely (u ∷ us) (x ∷ xs) (d ∷ ds) h k = ((h.0, k.0.size), turns_timely us xs ds h.1 k.1)

  pub start : (grant : ℕ) → Standing (W.blank routes grant)
  start grant = record { routes = every_map (Every (λ (p : Z.Point). Job p.x × Job p.y)) (Every Kept) routes (λ r h. every_map (λ (p : Z.Point). Job p.x × Job p.y) Kept r (λ p k. (let a = k.0.size in omega arith, let a = k.1.size in omega arith)) h) good.points; drawn = tt }

  -- THE DRAWING, from any planned x of the grid's size: multiples of 1/128 up to 2 ^ 20
  pub drawing_on : (allow : Bool) (xs : List (Option ℤ)) (geometry : ℕ) → Every Placed xs → S.sheet_of (board b) allow (S.turns_from b.bundles (map bound xs) (L.offsets_of (board b))) (S.blank (map route routes) geometry) ≡ outcome (sheet_drawn b routes allow xs geometry)
  drawing_on allow xs geometry h =
      ap (λ (ds : List Float). S.sheet_of (board b) allow (S.turns_from b.bundles (map bound xs) ds) (S.blank (map route routes) geometry)) (offsets_on b routes good)
      ∙ ap (λ (ts : List S.Turn). S.sheet_of (board b) allow ts (S.blank (map route routes) geometry)) (turns_on b.bundles xs (D.offsets_of b))
      ∙ sheet_on b routes good allow (W.turns_from b.bundles xs (D.offsets_of b)) (W.blank routes geometry) (turns_timely b.bundles xs (D.offsets_of b) h (offsets_sized b routes good)) (start geometry)

  pub drawing_of : (allow : Bool) (xs : List (Option ℤ)) (geometry : ℕ) → Every Placed xs → OfOutcome (sheet_drawn b routes allow xs geometry)
  drawing_of allow xs geometry h = sheet_of_of b routes good allow (W.turns_from b.bundles xs (D.offsets_of b)) (W.blank routes geometry) (turns_timely b.bundles xs (D.offsets_of b) h (offsets_sized b routes good)) (start geometry)

  -- and its page
  pub normalized_on : (u : W.Progress) → Standing u → N.page_of (record { nodes = map placed b.nodes; routes = map route u.routes; drawn = map M.drawn u.drawn }) ≡ page (normalized b u)
  normalized_on u k = page_on (record { nodes = b.nodes; routes = u.routes; drawn = u.drawn }) (record { nodes = good.nodes; routes = k.routes; drawn = k.drawn })
