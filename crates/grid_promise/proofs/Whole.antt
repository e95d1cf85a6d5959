-- F-2, proved: what a job with bit 2 set comes to, its plan, its sheet, its refusals and its answer, is what it comes to in whole numbers over 128. Assumes nothing.
use Rattle.std.specs.Prelude.{ℕ, ◌≡◌, Bool, true, List, map}
use Rattle.std.proofs.Math.Path.{refl, ap}
use Rattle.std.proofs.Common.{sym, ◌∙◌}
use Rattle.sorting.specs.Lists.{Every}
use Rattle.geometry.specs.Points.{Route}
use Rattle.board.specs.Board.{Board}
use Rattle.job.specs.Job.{Job, given_routes, read_job}
use Rattle.job.specs.Job as job
use Rattle.job.proofs.Sound.{Sound}
use Rattle.answer.specs.Answer.{answer_bytes}
use Rattle.plan.specs.Plan as plan
use Rattle.plan.specs.Plan.{plan_of}
use Rattle.drawing.specs.Normal as N
use Rattle.promise.specs.Order.{drawn_of}
use Rattle.promise.specs.Stage as stage
use Rattle.promise.specs.Stage.{page_told, planned, after_sheet, after_plan, after_reading, told_bytes}
use Rattle.grid_plan.specs.Board as Z
use Rattle.grid_plan.specs.Image as I
use Rattle.grid_plan.specs.Plan as P
use Rattle.grid_plan.proofs.Planning.{plan_on, plan_near}
use Rattle.grid_plan.specs.Sizes.{Placed}
use Rattle.grid_sheet.proofs.AllNumbers.{numbers}
use Rattle.grid_sheet.specs.Draw as W
use Rattle.grid_sheet.specs.Image as M
use Rattle.grid_sheet.proofs.Drawing.{OfOutcome}
use Rattle.grid_sheet.specs.Whole as Z2
use Rattle.grid_sheet.proofs.WholeSheet.{drawing_on, drawing_of, normalized_on}
use Rattle.grid_promise.specs.Grid.{whole_board, given, whole_plan, whole_sheet_from, whole_job_from, whole_sheet, whole_job, as_told_from, as_told, as_bytes, WholeJob}
use Rattle.grid_promise.proofs.Back.{board_back, routes_back, on_grid}

-- a plan that is one in whole numbers over 128, each at most 2 ^ 20
pub record WholePlan (p : plan.Plan) : Type 0 where
  pub whole : P.Plan
  pub is : p ≡ I.plan whole
  pub near : Every Placed whole.xs

-- ---- a job with bit 2 set
module _ (j : Job) (sound : Sound j) (g : j.flags.on_grid ≡ true) where
  abbrev B : Z.Board
  B = whole_board j

  abbrev allow : Bool
  allow = j.flags.permits_crossings

  abbrev visits : ℕ
  visits = j.grants.geometry_visits

  pub plan_is : planned j ≡ plan.going (I.plan (whole_plan j))
  plan_is =
      ap (λ (b : Board). plan_of b (given_routes j) j.flags.separates_collectors j.grants.tap_visits) (sym (board_back j sound g))
      ∙ ap (λ (rs : List Route). plan_of (I.board B) rs j.flags.separates_collectors j.grants.tap_visits) (sym (routes_back j sound g))
      ∙ plan_on B (given j) (on_grid j sound g) j.flags.separates_collectors j.grants.tap_visits

  page_is : (u : W.Progress) (o : OfOutcome (W.going u)) → stage.normalized j.board (M.progress u) ≡ M.page (Z2.normalized B u)
  page_is u o = ap (λ (b : Board). stage.normalized b (M.progress u)) (sym (board_back j sound g)) ∙ normalized_on B (given j) (on_grid j sound g) u o

  -- of every plan in whole numbers
  module _ (q : P.Plan) (near : Every Placed q.xs) where
    sheet_is : stage.sheet_drawn j (I.plan q) ≡ M.outcome (whole_sheet_from j q)
    sheet_is =
        ap (λ (b : Board). drawn_of b allow (given_routes j) (map I.bound q.xs) visits) (sym (board_back j sound g))
        ∙ ap (λ (rs : List Route). drawn_of (I.board B) allow rs (map I.bound q.xs) visits) (sym (routes_back j sound g))
        ∙ drawing_on B (given j) (on_grid j sound g) allow q.xs visits near

    after_is : (o : W.Outcome) → after_sheet j (I.plan q) (M.outcome o) ≡ as_told_from j q o
    unfolding after_sheet
    after_is (W.refused e n) = refl
    after_is (W.going u) = refl

    pub drawn_is : after_sheet j (I.plan q) (stage.sheet_drawn j (I.plan q)) ≡ as_told_from j q (whole_sheet_from j q)
    drawn_is = ap (after_sheet j (I.plan q)) sheet_is ∙ after_is (whole_sheet_from j q)

    bytes_are : (o : W.Outcome) → OfOutcome o → told_bytes (as_told_from j q o) ≡ as_bytes j (Z2.after_sheet B q.left o)
    unfolding told_bytes
    bytes_are (W.refused e n) k = refl
    bytes_are (W.going u) k = ap (λ (p : N.Page). answer_bytes (page_told j.board q.left u.left p)) (page_is u k)

    pub answer_from : told_bytes (as_told_from j q (whole_sheet_from j q)) ≡ as_bytes j (whole_job_from j q)
    answer_from = bytes_are (whole_sheet_from j q) (drawing_of B (given j) (on_grid j sound g) allow q.xs visits near)

  -- of our own
  pub own_near : Every Placed (whole_plan j).xs
  own_near = plan_near B (given j) (on_grid j sound g) j.flags.separates_collectors j.grants.tap_visits

  pub told_is : after_plan j (planned j) ≡ as_told j (whole_sheet j)
  unfolding after_plan
  told_is = ap (after_plan j) plan_is ∙ drawn_is (whole_plan j) own_near

  pub answer_is : told_bytes (as_told j (whole_sheet j)) ≡ as_bytes j (whole_job j)
  answer_is = answer_from (whole_plan j) own_near

  pub in_wholes : WholeJob j
  in_wholes = record { board_is = board_back j sound g; routes_are = routes_back j sound g; on_grid = on_grid j sound g; numbers_are = numbers (whole_board j) (given j) (on_grid j sound g) }

pub read_so : (bytes : List ℕ) (j : Job) → read_job bytes ≡ job.accepted j → stage.told bytes ≡ after_plan j (planned j)
unfolding after_reading
read_so bytes j e = ap after_reading e
