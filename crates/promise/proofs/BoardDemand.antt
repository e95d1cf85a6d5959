-- Demand 3 of a plan and the sheet of a board, whole: what the reader gives is asked for in `Readable`, what a plan has to be in `Shaped`, and everything else is shown.
-- Assumes nothing.
use Rattle.std.specs.Prelude.{ℕ, suc, ◌≤◌, ◌<◌, ◌≡◌, refl, ◌⊎◌, Bool, false, length, get_or, Float}
use Rattle.std.proofs.Common.{sym, ap, ◌∙◌, inl, inr, arith}
use mathlib.Core.List.Memᴰ
use mathlib.Core.List.{List, [], ◌∷◌, Memᴰ}
use Rattle.binary64.specs.Range.{Within}
use Rattle.geometry.specs.Points.{Route}
use Rattle.board.specs.declared.Bundle.{Bundle}
use Rattle.board.specs.Board.{Board, no_bundle}
use Rattle.sorting.specs.Lists.{Every}
use Rattle.plan.specs.declared.Bound.{Bound}
use Rattle.plan.specs.declared.Bound.TheVariants.{None, At}
use Rattle.plan.specs.Depths.{offsets_of}
use Rattle.plan.specs.Plan.{Plan, going, due, plan_of}
use Rattle.plan.specs.Lone.{Lone}
use Rattle.plan.proofs.CarriedNumbers.{Windowed, OfBound}
use Rattle.drawing.specs.Sheet.{Turn, Progress}
use Rattle.drawing.specs.Sheet as sheet
use Rattle.drawing.proofs.Assembly.{touched, sound}
use Rattle.drawing.proofs.CleanChecks.{Agree}
use Rattle.drawing.specs.Build.{no_drawn}
use Rattle.drawing.proofs.Promise.{built_length}
use Rattle.promise.specs.Order.{planned_x, turns_from, turns_of, drawn_of}
use Rattle.ranges.proofs.Corridors.{Signs}
use Rattle.ranges.proofs.NoMinusZero.{PlainBoard}
use Rattle.ranges.proofs.Planned.{planned_within}
use Rattle.ranges.proofs.Drawn.{OfTurn}
use Rattle.ranges.proofs.Extent.{sheet_ok}
use Rattle.ranges.specs.Extent.{Limits, OkSheet}
use Rattle.promise.specs.Demand3.{NoFalseJoint, BestPlace}
use Rattle.promise.proofs.Joints.{no_false_joint}
use Rattle.promise.proofs.Places.{OnceARole, offsets_length, turns_length, best_place}

-- what an accepted job's board is: its numbers within their limits and none of them minus zero, its windows within its tables, and an edge once in the bundles of a role
pub record Readable (b : Board) (given : List Route) : Type 0 where
  pub limits : Limits b given
  pub signs : Signs b
  pub plain : PlainBoard b given
  pub windows : Every (Windowed b) b.bundles
  pub once : OnceARole b

-- ---- the turns

-- what holds of every planned x holds of every turn's
pub turns_fine : (X : Float → Type 0) (us : List Bundle) (xs : List Bound) (ds : List Float) → Every (OfBound X) xs → Every (OfTurn X) (turns_from us xs ds)
unfolding turns_from
turns_fine X [] xs ds e = tt
turns_fine X (u ∷ us) [] ds e = tt
turns_fine X (u ∷ us) (x ∷ xs) [] e = tt
turns_fine X (u ∷ us) (None ∷ xs) (d ∷ ds) e = (tt, turns_fine X us xs ds e.1)
turns_fine X (u ∷ us) (At x ∷ xs) (d ∷ ds) e = (e.0, turns_fine X us xs ds e.1)

-- each bundle has its turn
each_turn : (us : List Bundle) (xs : List Bound) (ds : List Float) → length xs ≡ length us → length ds ≡ length us → (v : Bundle) → Memᴰ v us → (t : Turn) × Memᴰ t (turns_from us xs ds) × (t.bundle ≡ v)
unfolding turns_from
each_turn [] xs ds e f v m = absurd (Memᴰ.not-nil m)
each_turn (u ∷ us) [] ds e f v m = absurd (omega (arith, e))
each_turn (u ∷ us) (x ∷ xs) [] e f v m = absurd (omega (arith, f))
each_turn (u ∷ us) (x ∷ xs) (d ∷ ds) e f v m = go (Memᴰ.cases_cons m) (each_turn us xs ds (omega (arith, e)) (omega (arith, f)) v)
  where
    first : Turn
    first = record { bundle = u; planned = planned_x x; offset = d }

    go : (v ≡ u) ⊎ Memᴰ v us → (Memᴰ v us → (t : Turn) × Memᴰ t (turns_from us xs ds) × (t.bundle ≡ v)) → (t : Turn) × Memᴰ t (record { bundle = u; planned = planned_x x; offset = d } ∷ turns_from us xs ds) × (t.bundle ≡ v)
    go (inl z) g = (record { bundle = u; planned = planned_x x; offset = d }, Memᴰ.head refl, sym z)
    go (inr n) g = let r = g n in (r.0, Memᴰ.tail r.1, r.2)

agree_length : (c : ℕ → Bool) (rs qs : List Route) (i : ℕ) → Agree c rs qs i → length qs ≡ length rs
unfolding Agree
agree_length c [] [] i h = refl
agree_length c [] (q ∷ qs) i h = absurd h
agree_length c (r ∷ rs) [] i h = absurd h
agree_length c (r ∷ rs) (q ∷ qs) i h = ap suc (agree_length c rs qs (suc i) h.1)

-- as many routes as were given
pub routes_length : (b : Board) (given : List Route) (allow : Bool) (xs : List Bound) (geometry : ℕ) (u : Progress) → drawn_of b allow given xs geometry ≡ sheet.going u → length u.routes ≡ length given
routes_length b given allow xs geometry u drawn = agree_length (touched b (turns_of b xs)) given u.routes 0 (sound b allow given geometry (turns_of b xs) u drawn).untouched

-- ---- the whole

-- a plan that can be drawn, whoever made it: an x within 2 ^ 30, or none, for each bundle
pub record Shaped (b : Board) (xs : List Bound) : Type 0 where
  pub within : Every (OfBound (Within 30)) xs
  pub sized : length xs ≡ length b.bundles

-- our own is
pub own_shaped : (b : Board) (given : List Route) → Readable b given → (separate : Bool) (taps : ℕ) (p : Plan) → plan_of b given separate taps ≡ going p → Shaped b p.xs
own_shaped b given readable separate taps p planned =
    let h = planned_within b given readable.limits.numbers readable.signs separate taps readable.windows p planned in
    record { within = h.0; sized = h.1 }

module _ (b : Board) (given : List Route) (readable : Readable b given) (xs : List Bound) (shape : Shaped b xs) (geometry : ℕ) where
  pub sheet_fine : (allow : Bool) (u : Progress) → drawn_of b allow given xs geometry ≡ sheet.going u → OkSheet u
  sheet_fine allow u drawn = sheet_ok b given readable.limits allow (turns_of b xs) geometry u (turns_fine (Within 30) b.bundles xs (offsets_of b) shape.within) drawn

  -- each bundle is drawn
  pub drawn_length : (allow : Bool) (u : Progress) → drawn_of b allow given xs geometry ≡ sheet.going u → length u.drawn ≡ length b.bundles
  drawn_length allow u drawn =
      built_length b given [] (turns_of b xs) u.drawn (sound b allow given geometry (turns_of b xs) u drawn).built
      ∙ turns_length b.bundles xs (offsets_of b) shape.sized (offsets_length b b.bundles (record { input = None; output = None }))

  -- with crossings forbidden: no false joint
  pub joints : (u : Progress) → drawn_of b false given xs geometry ≡ sheet.going u → NoFalseJoint b u.routes u.drawn
  joints u drawn =
      no_false_joint b given readable.limits (turns_of b xs) geometry u (turns_fine (Within 30) b.bundles xs (offsets_of b) shape.within) drawn
      (each_turn b.bundles xs (offsets_of b) shape.sized (offsets_length b b.bundles (record { input = None; output = None })))

-- with lane separation off and a sufficient grant: best places
pub places : (b : Board) (given : List Route) → Readable b given → (allow : Bool) (taps geometry : ℕ) (p : Plan) (u : Progress)
    → plan_of b given false taps ≡ going p → due b given false ≤ taps → drawn_of b allow given p.xs geometry ≡ sheet.going u
    → (k : ℕ) → k < length b.bundles → Lone b (get_or b.bundles k no_bundle) → (present : List Route) → BestPlace b given present (get_or b.bundles k no_bundle) (get_or u.drawn k no_drawn)
places b given readable allow taps geometry p u planned enough drawn =
    best_place b given allow taps geometry p u readable.limits.numbers readable.once
    (record { sufficient = enough; planned = planned; sized = (own_shaped b given readable false taps p planned).sized; drawn = drawn })
