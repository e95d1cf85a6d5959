-- The collector of every bundle of an answer is upright, so that it has one x; and the answer has the ids of the job's bundles, in job order. Assumes nothing.
use Rattle.std.specs.Prelude.{ℕ, ◌≡◌, refl, Bool, true, false, ◌||◌, cond, List, [], ◌∷◌, map, Float, length, Option, Some, None}
use Rattle.std.proofs.Common.{sym, ap, ◌∙◌, subst, arith}
use Rattle.std.specs.Float.Ieee.{ne, sub}
use Rattle.std.specs.Float.{binary64}
use Rattle.std.proofs.lemmas.List.{length-map}
use Rattle.binary64.specs.Accepted.{zero64}
use Rattle.geometry.specs.declared.Segment.{Segment}
use Rattle.geometry.specs.Points.{Route}
use Rattle.board.specs.declared.Edge.{Edge}
use Rattle.board.specs.declared.Bundle.{Bundle}
use Rattle.board.specs.Board.{Board}
use Rattle.sorting.specs.Lists.{Every}
use Rattle.plan.specs.declared.Bound.{Bound}
use Rattle.drawing.specs.Build.{TapOn, Drawn, pt, railed, drawn_as, drawn_inside, inside_or, build}
use Rattle.drawing.specs.Sheet.{Turn, Progress}
use Rattle.drawing.specs.Sheet as drawing
use Rattle.drawing.specs.Normal.{Sheet, sheet_after, min_x, min_y, shifted, shifted_drawn, shifted_sheet, moved, page_of}
use Rattle.drawing.proofs.Assembly.{Built, sound}
use Rattle.answer.specs.Answer.{Trunk}
use Rattle.promise.specs.Order.{turns_of, drawn_of}
use Rattle.promise.specs.Stage.{normalized, bundles_told}

abbrev Standing : Segment → Type 0
Standing c = c.start.x ≡ c.end.x

abbrev Upright : List Drawn → Type 0
Upright ds = Every (λ (d : Drawn). d.collector.start.x ≡ d.collector.end.x) ds

-- ---- build_geometry gives both ends the same x
rail_upright : (b : Board) (u : Bundle) → Standing (railed b u).collector
unfolding railed drawn_as
rail_upright b u = refl

inside_upright : (b : Board) (u : Bundle) (x : Float) (o : Option (List TapOn)) → Standing (inside_or o b u x).collector
unfolding inside_or drawn_inside drawn_as
inside_upright b u x None = rail_upright b u
inside_upright b u x (Some ts) = refl

build_upright : (b : Board) (u : Bundle) (x : Option Float) (rs : List Route) → Standing (build b u x rs).collector
unfolding build
build_upright b u None rs = rail_upright b u
build_upright b u (Some x) rs = inside_upright b u x _

built_upright : (b : Board) (given : List Route) (earlier ts : List Turn) (ds : List Drawn) → Built b given earlier ts ds → Upright ds
unfolding Built
built_upright b given earlier [] [] h = tt
built_upright b given earlier [] (d ∷ ds) h = absurd h
built_upright b given earlier (t ∷ ts) [] h = absurd h
built_upright b given earlier (t ∷ ts) (d ∷ ds) h = (subst (λ (k : Drawn). Standing k.collector) (sym h.0.made) (build_upright b t.bundle t.planned h.0.present), built_upright b given _ ts ds h.1)

-- ---- the last shift keeps it
shifted_upright : (mx my : Float) (ds : List Drawn) → Upright ds → Upright (map (shifted_drawn (pt mx my)) ds)
unfolding shifted_drawn shifted
shifted_upright mx my [] h = tt
shifted_upright mx my (d ∷ ds) h = (ap (λ (x : Float). sub binary64 x mx) h.0, shifted_upright mx my ds h.1)

moved_upright : (s : Sheet) → Upright s.drawn → Upright (moved s).drawn
unfolding moved shifted_sheet
moved_upright s h = go (ne (min_x s) zero64 || ne (min_y s) zero64)
  where
    go : (t : Bool) → Upright (cond t (shifted_sheet (pt (min_x s) (min_y s)) s) s).drawn
    go true = shifted_upright (min_x s) (min_y s) s.drawn h
    go false = h

moved_length : (s : Sheet) → length (moved s).drawn ≡ length s.drawn
unfolding moved shifted_sheet
moved_length s = go (ne (min_x s) zero64 || ne (min_y s) zero64)
  where
    go : (t : Bool) → length (cond t (shifted_sheet (pt (min_x s) (min_y s)) s) s).drawn ≡ length s.drawn
    go true = length-map s.drawn (shifted_drawn (pt (min_x s) (min_y s)))
    go false = refl

-- ---- in the answer
told_upright : (edges : List Edge) (us : List Bundle) (ds : List Drawn) → Upright ds → Every (λ (t : Trunk). t.collector.start.x ≡ t.collector.end.x) (bundles_told edges us ds)
unfolding bundles_told
told_upright edges [] ds h = tt
told_upright edges (u ∷ us) [] h = tt
told_upright edges (u ∷ us) (d ∷ ds) h = (h.0, told_upright edges us ds h.1)

-- whatever plan it was drawn from
pub answer_upright : (b : Board) (given : List Route) (allow : Bool) (xs : List Bound) (geometry : ℕ) (u : Progress) → drawn_of b allow given xs geometry ≡ drawing.going u
    → Every (λ (t : Trunk). t.collector.start.x ≡ t.collector.end.x) (bundles_told b.edges b.bundles (normalized b u).sheet.drawn)
unfolding page_of
answer_upright b given allow xs geometry u e =
    told_upright b.edges b.bundles (normalized b u).sheet.drawn (moved_upright (sheet_after b u) (built_upright b given [] (turns_of b xs) u.drawn (sound b allow given geometry (turns_of b xs) u e).built))

told_ids : (edges : List Edge) (us : List Bundle) (ds : List Drawn) → length ds ≡ length us → map (λ (t : Trunk). t.id) (bundles_told edges us ds) ≡ map (λ (u : Bundle). u.id) us
unfolding bundles_told
told_ids edges [] ds h = refl
told_ids edges (u ∷ us) [] h = absurd (omega (arith, h))
told_ids edges (u ∷ us) (d ∷ ds) h = ap (λ (l : List ℕ). u.id ∷ l) (told_ids edges us ds (omega (arith, h)))

-- "in job order"
pub answer_ids : (b : Board) (u : Progress) → length u.drawn ≡ length b.bundles → map (λ (t : Trunk). t.id) (bundles_told b.edges b.bundles (normalized b u).sheet.drawn) ≡ map (λ (v : Bundle). v.id) b.bundles
unfolding page_of
answer_ids b u h = told_ids b.edges b.bundles (normalized b u).sheet.drawn (moved_length (sheet_after b u) ∙ h)
