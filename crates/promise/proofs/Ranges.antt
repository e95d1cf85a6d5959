-- The numbers and the visits of every job that comes to a sheet: how large each is, that none is minus zero, and that visits granted are those left and those counted.
-- Assumes nothing.
use Rattle.std.specs.Prelude.{ℕ, ◌+◌, ◌≡◌, List, [], length}
use Rattle.std.proofs.Common.{sym, ap, ◌∙◌}
use Rattle.binary64.specs.Range.{Within}
use Rattle.geometry.specs.declared.Role.{Role}
use Rattle.geometry.specs.Points.{Route}
use Rattle.board.specs.Board.{Board}
use Rattle.sorting.specs.Lists.{Every}
use Rattle.job.specs.Job.{Job, given_routes, read_job}
use Rattle.job.specs.Job as job
use Rattle.plan.specs.Depths.{offsets_of, corridor_of}
use Rattle.plan.specs.Plan.{Plan, left_of}
use Rattle.plan.proofs.CarriedNumbers.{OfBound}
use Rattle.plan.proofs.Visits.{paid_of}
use Rattle.plan.proofs.Visits as plan_visits
use Rattle.drawing.specs.Normal.{sheet_after}
use Rattle.drawing.specs.Sheet.{Progress}
use Rattle.drawing.specs.Sheet as drawing
use Rattle.answer.specs.Answer.{Sheet}
use Rattle.ranges.specs.SheetLooks.{sheet_looks}
use Rattle.ranges.proofs.Looks.{accepted_left}
use Rattle.binary64.proofs.Plain.{Plain}
use Rattle.ranges.proofs.Corridors.{Below, offsets_below, corridors_below}
use Rattle.ranges.proofs.Planned.{planned_within}
use Rattle.ranges.proofs.NoMinusZero.{offsets_plain, corridors_plain, planned_plain}
use Rattle.ranges.specs.Extent.{OfFormat, InX, InY}
use Rattle.ranges.specs.Coordinates.{OfPlaced}
use Rattle.ranges.proofs.Page.{OfPage, before_shift, after_shift, before_plain, after_plain, before_of_format}
use Rattle.promise.specs.Order.{turns_of}
use Rattle.promise.specs.Stage.{Comes, sheet_drawn, normalized}
use Rattle.promise.proofs.BoardDemand.{Readable, turns_fine}
use Rattle.promise.proofs.Read.{readable}

-- of a job that is read and a sheet that is drawn, whatever the plan
module _ (bytes : List ℕ) (j : Job) (is_read : read_job bytes ≡ job.accepted j) (p : Plan) (u : Progress) (is_drawn : sheet_drawn j p ≡ drawing.going u) where
  read_so : Readable j.board (given_routes j)
  read_so = readable bytes j is_read

  pub before_range : Every (OfBound (Within 30)) p.xs → OfPlaced InX InY (sheet_after j.board u)
  unfolding read_so
  before_range h = before_shift j.board (given_routes j) read_so.limits j.flags.permits_crossings (turns_of j.board p.xs) j.grants.geometry_visits u is_drawn (turns_fine (Within 30) j.board.bundles p.xs (offsets_of j.board) h)

  pub after_range : Every (OfBound (Within 30)) p.xs → OfPage (Below 33) (Below 33) (normalized j.board u)
  unfolding read_so
  after_range h = after_shift j.board (given_routes j) read_so.limits j.flags.permits_crossings (turns_of j.board p.xs) j.grants.geometry_visits u is_drawn (turns_fine (Within 30) j.board.bundles p.xs (offsets_of j.board) h)

  pub before_format : Every (OfBound OfFormat) p.xs → OfPlaced OfFormat OfFormat (sheet_after j.board u)
  unfolding read_so
  before_format h = before_of_format j.board (given_routes j) read_so.limits j.flags.permits_crossings (turns_of j.board p.xs) j.grants.geometry_visits u is_drawn read_so.plain (turns_fine OfFormat j.board.bundles p.xs (offsets_of j.board) h)

module _ (bytes : List ℕ) (s : Sheet) (c : Comes bytes s) where
  abbrev j : Job
  j = c.said

  abbrev b : Board
  b = c.said.board

  abbrev given : List Route
  given = given_routes c.said

  abbrev taps : ℕ
  taps = c.said.grants.tap_visits

  abbrev visits : ℕ
  visits = c.said.grants.geometry_visits

  fit : Readable c.said.board (given_routes c.said)
  fit = readable bytes c.said c.is_read

  -- ---- the plan
  pub offsets_in : Every (Below 34) (offsets_of c.said.board) × Every Plain (offsets_of c.said.board)
  unfolding fit
  offsets_in = (offsets_below b given fit.limits.numbers fit.signs, offsets_plain b given fit.limits.numbers fit.plain)

  pub corridors_in : (role : Role) (edge : ℕ) → OfBound (Below 34) (corridor_of c.said.board role edge) × OfBound Plain (corridor_of c.said.board role edge)
  unfolding fit
  corridors_in role edge = (corridors_below b given fit.limits.numbers fit.signs role edge, corridors_plain b given fit.limits.numbers fit.plain role edge)

  pub planned_in : Every (OfBound (Within 30)) c.plan_made.xs × Every (OfBound Plain) c.plan_made.xs
  unfolding fit
  planned_in = (
    (planned_within b given fit.limits.numbers fit.signs j.flags.separates_collectors taps fit.windows c.plan_made c.is_planned).0,
    planned_plain b given fit.limits.numbers fit.plain j.flags.separates_collectors taps fit.windows c.plan_made c.is_planned,
  )

  -- ---- the sheet
  pub before_in : OfPlaced InX InY (sheet_after c.said.board c.sheet_made) × OfPlaced Plain Plain (sheet_after c.said.board c.sheet_made)
  unfolding fit
  before_in =
      let xs = c.plan_made.xs in
      let ts = turns_of b xs in
      let allow = j.flags.permits_crossings in (
        before_range bytes c.said c.is_read c.plan_made c.sheet_made c.is_drawn planned_in.0,
        before_plain b given fit.limits allow ts visits c.sheet_made c.is_drawn fit.plain (turns_fine Plain b.bundles xs (offsets_of b) planned_in.1),
      )

  pub after_in : OfPage (Below 33) (Below 33) (normalized c.said.board c.sheet_made) × OfPage Plain Plain (normalized c.said.board c.sheet_made)
  unfolding fit
  after_in =
      let xs = c.plan_made.xs in
      let ts = turns_of b xs in
      let allow = j.flags.permits_crossings in (
        after_range bytes c.said c.is_read c.plan_made c.sheet_made c.is_drawn planned_in.0,
        after_plain b given fit.limits allow ts visits c.sheet_made c.is_drawn fit.plain (turns_fine Plain b.bundles xs (offsets_of b) planned_in.1),
      )

  -- ---- the visits left in the answer
  pub tap_visits_counted : c.plan_made.left + paid_of c.said.board (given_routes c.said) c.said.flags.separates_collectors c.said.grants.tap_visits ≡ c.said.grants.tap_visits
  tap_visits_counted =
      let separate = j.flags.separates_collectors in
      ap (λ (n : ℕ). n + paid_of b given separate taps) (sym (ap left_of c.is_planned)) ∙ plan_visits.visits_counted b given separate taps

  pub geometry_visits_counted : c.sheet_made.left + length (sheet_looks c.said.board c.said.flags.permits_crossings (turns_of c.said.board c.plan_made.xs) (given_routes c.said) []) ≡ c.said.grants.geometry_visits
  geometry_visits_counted = accepted_left b j.flags.permits_crossings (turns_of b c.plan_made.xs) given visits c.sheet_made c.is_drawn
