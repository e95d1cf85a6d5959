-- The list of a sheet in the tables and slices, as list_crossings leaves it, is the finished job's.
-- Assumes nothing.
use Prim.Native.Nat.{ℕ}
use mathlib.Core.Path.{◌≡◌, refl, sym, ap, ◌∙◌}
use mathlib.Core.Bool.{Bool, true, false, ◌&&◌, ◌||◌, cond}
use mathlib.Core.List.{List, [], ◌∷◌, map}
use lib.Dec.{ltb}
use lib.ListN.{length, take}
use lib.Seq.{sets}
use lib.Ieee.{Float}
use Rattle.geometry.specs.declared.Point.{Point}
use Rattle.sorting.specs.Sort.{sorted}
use Rattle.route.specs.Slots.{routes_of}
use Rattle.board.specs.declared.Bundle.{Bundle}
use Rattle.board.specs.declared.DrawnBundle.{DrawnBundle}
use Rattle.board.specs.Tables.{DrawnBundles}
use Rattle.job.specs.declared.Job as code
use Rattle.plan.specs.Tables.{Planning}
use Rattle.checks.specs.CheckRows.{drawn_of}
use Rattle.turns.specs.TurnTables.{Rows}
use Rattle.promise.specs.Stage.{Finished}
use Rattle.limits.specs.Limits.{max_crossings}
use Rattle.crossing_rows.specs.Rows.{rows_met}
use Rattle.crossing_bytes.specs.Bytes.{list_bytes}
use Rattle.crossing_bytes.specs.RowBytes.{row_key, rows_bytes, written_rows}
use Rattle.crossing_bytes.proofs.Link.{rows_many, bytes_same}
use Rattle.crossing_promise.specs.SheetList.{list_of}
use Rattle.outputs.specs.declared.Wants.{Wants}
use Rattle.outputs.specs.Outputs.{too_many}
use Rattle.job_tables.specs.Came.{job_in}
use Rattle.draw_job.specs.JobTables.{OnSheet, finished}

-- a drawn bundle has the id of its bundle
same_ids : (us : List Bundle) (ds : List DrawnBundle) → Rows us ds → map (λ (d : DrawnBundle). d.id) ds ≡ map (λ (u : Bundle). u.id) us
unfolding Rows
same_ids [] [] r = refl
same_ids [] (d ∷ ds) r = absurd r
same_ids (u ∷ us) [] r = absurd r
same_ids (u ∷ us) (d ∷ ds) r = rw (r.0.id, same_ids us ds r.1)

module _ (j : code.Job) (buffer : List Float) (p : Planning) (edges : List ℕ) (ds : DrawnBundles) (points : List Float) (counts : List ℕ) (taps : List Point) (rest : ℕ) (on : OnSheet j edges ds points counts taps) where
  abbrev f : Finished
  f = finished j buffer p edges ds points counts taps rest

  abbrev permitted : Bool
  permitted = j.flags.permits_crossings

  ids : map (λ (d : DrawnBundle). d.id) ds.items ≡ map (λ (u : Bundle). u.id) (job_in j buffer).board.bundles
  ids = same_ids j.bundles.items ds.items on.each_row

  many_rows : length (rows_met permitted j.edges.items ds.items points counts) ≡ length (list_of (finished j buffer p edges ds points counts taps rest))
  unfolding rows_met
  many_rows = rows_many (job_in j buffer).board (drawn_of edges taps) (λ d. refl) (λ d. refl) permitted ds.items (routes_of points counts) ids

  list_rows : rows_bytes (sorted row_key (rows_met permitted j.edges.items ds.items points counts)) ≡ list_bytes (job_in j buffer).board (list_of (finished j buffer p edges ds points counts taps rest))
  unfolding rows_met
  list_rows = bytes_same (job_in j buffer).board (drawn_of edges taps) (λ d. refl) (λ d. refl) permitted ds.items (routes_of points counts) ids

  module _ (w : Wants) (withheld r : Bool) (before after : List ℕ) (wanted : w.crossings ≡ true) (is : r ≡ ltb max_crossings (length (rows_met j.flags.permits_crossings j.edges.items ds.items points counts))) (left : after ≡ sets before 0 (written_rows withheld (rows_met j.flags.permits_crossings j.edges.items ds.items points counts))) where
    too_many_is : too_many w (finished j buffer p edges ds points counts taps rest) ≡ r
    unfolding too_many
    too_many_is = ap (λ (b : Bool). b && ltb max_crossings (length (list_of f))) wanted ∙ sym (is ∙ ap (λ (n : ℕ). ltb max_crossings n) many_rows)

    -- 19
    pub many : r ≡ true → (too_many w (finished j buffer p edges ds points counts taps rest) ≡ true) × (after ≡ before)
    unfolding written_rows
    many h = (too_many_is ∙ h, left ∙ ap (λ (b : Bool). sets before 0 (cond (b || withheld) [] (rows_bytes (sorted row_key (rows_met permitted j.edges.items ds.items points counts))))) (sym is ∙ h))

    few_left : r ≡ false → after ≡ sets before 0 (cond withheld [] (list_bytes (job_in j buffer).board (list_of (finished j buffer p edges ds points counts taps rest))))
    unfolding written_rows
    few_left h =
        left
        ∙ ap (λ (b : Bool). sets before 0 (cond (b || withheld) [] (rows_bytes (sorted row_key (rows_met permitted j.edges.items ds.items points counts))))) (sym is ∙ h)
        ∙ ap (λ (l : List ℕ). sets before 0 (cond withheld [] l)) list_rows

-- the list's buffer past 19: written where the list is wanted and nothing else is refused
pub record Listed (w : Wants) (f : Finished) (withheld : Bool) (before after : List ℕ) : Type 0 where
  pub few : too_many w f ≡ false
  pub bytes : after ≡ sets before 0 (cond withheld [] (cond w.crossings (list_bytes f.said.board (list_of f)) []))

pub wanted_listed : (j : code.Job) (buffer : List Float) (p : Planning) (edges : List ℕ) (ds : DrawnBundles) (points : List Float) (counts : List ℕ) (taps : List Point) (rest : ℕ) → OnSheet j edges ds points counts taps
    → (w : Wants) (withheld r : Bool) (before after : List ℕ) → w.crossings ≡ true → r ≡ ltb max_crossings (length (rows_met j.flags.permits_crossings j.edges.items ds.items points counts)) → after ≡ sets before 0 (written_rows withheld (rows_met j.flags.permits_crossings j.edges.items ds.items points counts)) → r ≡ false
    → Listed w (finished j buffer p edges ds points counts taps rest) withheld before after
wanted_listed j buffer p edges ds points counts taps rest on w withheld r before after wanted is left h =
    let f = finished j buffer p edges ds points counts taps rest in
    record {
      few = too_many_is j buffer p edges ds points counts taps rest on w withheld r before after wanted is left ∙ h;
      bytes = few_left j buffer p edges ds points counts taps rest on w withheld r before after wanted is left h ∙ ap (λ (b : Bool). sets before 0 (cond withheld [] (cond b (list_bytes f.said.board (list_of f)) []))) (sym wanted);
    }

pub unwanted_listed : (w : Wants) (f : Finished) (withheld : Bool) (before after : List ℕ) → w.crossings ≡ false → after ≡ before → Listed w f withheld before after
unfolding too_many
unwanted_listed w f true before after h e = record { few = ap (λ (b : Bool). b && ltb max_crossings (length (list_of f))) h; bytes = e }
unwanted_listed w f false before after h e = record { few = ap (λ (b : Bool). b && ltb max_crossings (length (list_of f))) h; bytes = e ∙ ap (λ (b : Bool). sets before 0 (cond b (list_bytes f.said.board (list_of f)) [])) (sym h) }

-- 16 is due: the buffer is as it was
pub left_alone : (w : Wants) (f : Finished) (withheld : Bool) (before after : List ℕ) → Listed w f withheld before after → withheld ≡ true → after ≡ before
left_alone w f withheld before after l h = l.bytes ∙ ap (λ (b : Bool). sets before 0 (cond b [] (cond w.crossings (list_bytes f.said.board (list_of f)) []))) h

pub list_left : (w : Wants) (f : Finished) (withheld : Bool) (before after : List ℕ) → Listed w f withheld before after → withheld ≡ false → after ≡ sets before 0 (cond w.crossings (list_bytes f.said.board (list_of f)) [])
list_left w f withheld before after l h = l.bytes ∙ ap (λ (b : Bool). sets before 0 (cond b [] (cond w.crossings (list_bytes f.said.board (list_of f)) []))) h
