-- F-7's promise, proved whole: for every job's bytes, for our plan and for any plan whose x are numbers of the format within 2 ^ 30. Assumes nothing.
use Rattle.std.specs.Prelude.{ℕ, ◌+◌, ◌*◌, ◌/◌, ◌%◌, ◌≤◌, ◌≡◌, refl, Bool, true, false, cond, List, [], ◌++◌, length, get_or, take, drop}
use Rattle.std.proofs.Common.{◌∙◌, arith, take_at, eq-eqb}
use Rattle.std.proofs.Math.Path.{ap, subst}
use Rattle.std.proofs.lemmas.List.Edits.{sets, sets-eq}
use Rattle.std.proofs.lemmas.List.{take-append-le}
use Rattle.wire.specs.Bytes.{bytes, number}
use Rattle.wire.proofs.BytesLaws.{bytes_length, number_back}
use Rattle.binary64.specs.Range.{Within}
use Rattle.binary64.proofs.Plain.{Plain}
use Rattle.board.specs.Board.{Board}
use Rattle.sorting.specs.Lists.{Every}
use Rattle.sorting.specs.Sorted.{every_map}
use Rattle.job.specs.Job.{Job, given_routes, read_job}
use Rattle.job.specs.Job as job
use Rattle.plan.specs.declared.Bound.{Bound}
use Rattle.plan.specs.declared.Bound.TheVariants.{None, At}
use Rattle.plan.specs.Depths.{offsets_of}
use Rattle.plan.proofs.CarriedNumbers.{OfBound}
use Rattle.drawing.specs.Sheet.{Turn, Progress, blank, sheet_of}
use Rattle.drawing.specs.Sheet as drawing
use Rattle.ranges.specs.Extent.{OfFormat}
use Rattle.ranges.proofs.Drawn.{OfTurn}
use Rattle.answer.specs.Answer.{answer_bytes, all_bytes}
use Rattle.promise.specs.Order.{turns_of}
use Rattle.promise.specs.Stage.{Finished, answer_of, Told, drawn, sheet_drawn}
use Rattle.promise.proofs.Size.{ComesTo}
use Rattle.promise.proofs.BoardDemand.{Readable, turns_fine}
use Rattle.promise.proofs.Read.{readable}
use Rattle.promise.proofs.Ranges.{planned_in}
use Rattle.promise.proofs.Flags.{flags_read, no_crossings}
use Rattle.crossings.specs.List.{Crossing, crossing_list, listed}
use Rattle.crossings.specs.Words.{ListKept}
use Rattle.limits.specs.Limits.{max_crossings, crossing_bytes, crossings_room}
use Rattle.crossing_bytes.specs.Bytes.{crossing_entry, list_bytes}
use Rattle.crossing_bytes.proofs.Link.{list_length}
use Rattle.crossing_promise.specs.Demand7.{Joints, ListOnSheet, ListPromised, list_in}
use Rattle.crossing_promise.specs.SheetList.{list_of}
use Rattle.crossing_promise.proofs.Sheet.{nothing_listed, list_kept}
use Rattle.crossing_promise.proofs.Permitted.{permitted_joints}

-- ---- the flags

crossings_on : (s : List ℕ) (j : Job) → read_job s ≡ job.accepted j → get_or s 5 0 / 2 % 2 ≡ 1 → j.flags.permits_crossings ≡ true
crossings_on s j e h = (flags_read s j e).permits ∙ eq-eqb (get_or s 5 0 / 2 % 2) 1 h

-- ---- a job that is drawn from a plan within 2 ^ 30

pub record Drawable (bytes : List ℕ) (f : Finished) : Type 0 where
  pub is_read : read_job bytes ≡ job.accepted f.said
  pub within : Every (OfBound (Within 30)) f.plan_used.xs
  pub of_format : Every (OfBound OfFormat) f.plan_used.xs
  pub is_drawn : sheet_drawn f.said f.plan_used ≡ drawing.going f.sheet_made

plain_fits : (o : Bound) → OfBound Plain o → OfBound OfFormat o
plain_fits None h = tt
plain_fits (At x) h = h.1

-- our own plan is one
pub own_drawable : (bytes : List ℕ) (f : Finished) → ComesTo bytes f → Drawable bytes f
own_drawable bytes f c =
    let p = planned_in bytes (answer_of f) (record { said = f.said; is_read = c.is_read; plan_made = f.plan_used; is_planned = c.is_planned; sheet_made = f.sheet_made; is_drawn = c.is_drawn; is_answer = refl }) in
    record { is_read = c.is_read; within = p.0; of_format = every_map (OfBound Plain) (OfBound OfFormat) f.plan_used.xs plain_fits p.1; is_drawn = c.is_drawn }

module _ (bytes : List ℕ) (f : Finished) (d : Drawable bytes f) where
  abbrev b : Board
  b = f.said.board

  abbrev u : Progress
  u = f.sheet_made

  abbrev visits : ℕ
  visits = f.said.grants.geometry_visits

  abbrev turns : List Turn
  turns = turns_of f.said.board f.plan_used.xs

  fit : Readable f.said.board (given_routes f.said)
  fit = readable bytes f.said d.is_read

  fine : Every (OfTurn (Within 30)) (turns_of f.said.board f.plan_used.xs)
  fine = turns_fine (Within 30) b.bundles f.plan_used.xs (offsets_of b) d.within

  held : Every (OfTurn OfFormat) (turns_of f.said.board f.plan_used.xs)
  held = turns_fine OfFormat b.bundles f.plan_used.xs (offsets_of b) d.of_format

  -- with crossings forbidden the list of all crossings has none
  all_listed : crossing_list u.drawn u.routes ≡ list_of f
  all_listed = go f.said.flags.permits_crossings refl
    where
      go : (t : Bool) → f.said.flags.permits_crossings ≡ t → crossing_list u.drawn u.routes ≡ cond t (crossing_list u.drawn u.routes) []
      go true e = refl
      go false e = nothing_listed b (given_routes f.said) f.said.flags.permits_crossings turns visits u d.is_drawn e

  pub on_sheet : ListOnSheet bytes f.sheet_made (list_of f)
  unfolding fit
  on_sheet = record {
    kept = subst (ListKept u.drawn u.routes) all_listed (list_kept b (given_routes f.said) fit.limits fit.plain turns visits u fine held f.said.flags.permits_crossings d.is_drawn);
    forbidden = λ off. ap (λ (t : Bool). listed t u.drawn u.routes) (no_crossings bytes f.said d.is_read off);
    permitted = λ on.
        subst (Joints u.drawn u.routes) all_listed
        (permitted_joints b (given_routes f.said) fit.limits turns visits u fine
        (subst (λ (t : Bool). sheet_of b t turns (blank (given_routes f.said) visits) ≡ drawing.going u) (crossings_on bytes f.said d.is_read on) d.is_drawn));
  }

-- ---- the list that stands in a buffer

count_front : (b : Board) (l : List Crossing) → take 2 (list_bytes b l) ≡ bytes 2 (length l)
unfolding list_bytes
count_front b l = take_at (bytes 2 (length l)) (all_bytes (crossing_entry b) l) 2 (bytes_length 2 (length l))

pub list_there : (b : Board) (l : List Crossing) (buffer : List ℕ) → length l ≤ max_crossings → crossings_room ≤ length buffer → list_in (sets buffer 0 (list_bytes b l)) ≡ list_bytes b l
list_there b l buffer h room =
    let w = list_bytes b l in
    let long = list_length b l in
    let fits : 0 + length w ≤ length buffer = omega arith in
    let rest = drop (0 + length w) buffer in
    let e : sets buffer 0 w ≡ w ++ rest = sets-eq w buffer 0 fits in
    let n : number (take 2 (w ++ rest)) ≡ length l = ap number (take-append-le 2 w rest (omega arith) ∙ count_front b l) ∙ number_back 2 (length l) (omega arith) in
    ap list_in e ∙ ap (λ (k : ℕ). take (2 + crossing_bytes * k) (w ++ rest)) n ∙ take_at w rest (2 + crossing_bytes * length l) long

-- THE THEOREM
pub list_promised : (bytes : List ℕ) (t : Told) (f : Finished) (answer buffer after : List ℕ) → Drawable bytes f → t ≡ drawn f → answer ≡ answer_bytes (answer_of f) → length (list_of f) ≤ max_crossings → crossings_room ≤ length buffer → after ≡ sets buffer 0 (list_bytes f.said.board (list_of f)) → ListPromised bytes t answer (list_in after)
list_promised bytes t f answer buffer after d e a n room w = record {
  finished = f;
  is_told = e;
  is_written = a;
  entries = list_of f;
  is_list = ap list_in w ∙ list_there f.said.board (list_of f) buffer n room;
  not_too_many = n;
  on_sheet = on_sheet bytes f d;
}
