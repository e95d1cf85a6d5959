-- What is carried through the plan, and the steps of its numbers that carry it.
-- Assumes nothing.
use Rattle.std.specs.Prelude.{ℕ, ◌+◌, ◌≤◌, ◌<◌, Bool, cond, T, length, Float}
use Rattle.std.proofs.Math.Bool.{true, false}
use mathlib.Core.List.{List, [], ◌∷◌}
use Rattle.std.specs.Float.{binary64}
use Rattle.std.specs.Float.Ieee.{lt, fits}
use Rattle.binary64.specs.Bools.{either}
use Rattle.binary64.specs.Order.{least, greatest}
use Rattle.binary64.specs.Accepted.{zero64}
use Rattle.geometry.specs.declared.Point.{Point}
use Rattle.geometry.specs.declared.Role.{Role}
use Rattle.geometry.specs.declared.Role.TheVariants.{Input, Output}
use Rattle.geometry.specs.Points.{Route}
use Rattle.geometry.specs.Stretch.{holds, stretch}
use Rattle.board.specs.declared.Bundle.{Bundle}
use Rattle.board.specs.Board.{Board, rail_depth}
use Rattle.search.specs.declared.Bounds.{Bounds}
use Rattle.sorting.specs.Lists.{Every}
use Rattle.plan.specs.declared.Bound.{Bound}
use Rattle.plan.specs.declared.Bound.TheVariants.{None, At}
use Rattle.plan.specs.Depths.{◌⊕◌, ◌⊖◌, further, parting_pitch, endpoint_of, corridor_of}
use Rattle.plan.specs.Bounds.{clamped, raised, lowered, first_x, last_x, map_bound, tighter, trunks}
use Rattle.plan.specs.Plan.{Look, found_x, largest_of, smallest_of, largest, smallest, run_end, diverges_at}

-- a bundle's members stand in the table
abbrev pub Windowed : Board → Bundle → Type 0
Windowed b u = u.first + u.count ≤ length b.members

-- of a bound, if there is one
abbrev pub OfBound : (Float → Type 0) → Bound → Type 0
OfBound P None = Unit {0}
OfBound P (At x) = P x

abbrev pub OfBounds : (Float → Type 0) → Bounds → Type 0
OfBounds P r = P r.minimum × P r.desired × P r.maximum

-- P is what holds of each x that is found, Q what holds of each bound and of the numbers that bounds are made of
pub record Traits (look : Look) (b : Board) (routes : List Route) : Type 1 where
  pub P : Float → Type 0
  pub Q : Float → Type 0
  pub weaker : (x : Float) → P x → Q x
  pub plus : (x d : Float) → T (fits binary64 d) → Q x → Q (x ⊕ d)
  pub minus : (x d : Float) → T (fits binary64 d) → Q x → Q (x ⊖ d)
  pub none : Q zero64
  pub end : (u : Bundle) → Q (endpoint_of b u).x
  pub points : Every (Every (λ (p : Point). Q p.x)) routes
  pub corridor : (role : Role) (e : ℕ) → OfBound Q (corridor_of b role e)
  pub pitch_fits : T (fits binary64 (parting_pitch b))
  pub rail_fits : T (fits binary64 (rail_depth b.options))
  pub reserve_fits : T (fits binary64 b.options.member_endpoint_reserve)
  pub found : (u : Bundle) (r : Bounds) (v : ℕ) → Windowed b u → 1 < u.count → OfBounds Q r → OfBound P (found_x (look u.role r (trunks b routes u) v).outcome)

module _ (Q : Float → Type 0) where
  pub of_least : (x y : Float) → Q x → Q y → Q (least x y)
  of_least x y s t = either (lt y x) y x Q t s

  pub of_greatest : (x y : Float) → Q x → Q y → Q (greatest x y)
  of_greatest x y s t = either (lt x y) y x Q t s

  pub of_clamped : (x low high : Float) → Q x → Q low → Q high → Q (clamped x low high)
  of_clamped x low high s t w = of_least (greatest x low) high (of_greatest x low s t) w

  pub of_raised : (x : Float) (o : Bound) → Q x → OfBound Q o → Q (raised x o)
  of_raised x None s t = s
  of_raised x (At y) s t = of_greatest x y s t

  pub of_lowered : (x : Float) (o : Bound) → Q x → OfBound Q o → Q (lowered x o)
  of_lowered x None s t = s
  of_lowered x (At y) s t = of_least x y s t

  pub of_further : (o : Bound) (x : Float) → OfBound Q o → Q x → OfBound Q (further o x)
  of_further None x s t = t
  of_further (At y) x s t = of_greatest y x s t

  pub of_first : (r : Route) → Every (λ (p : Point). Q p.x) r → OfBound Q (first_x r)
  of_first [] e = tt
  of_first (p ∷ r) e = e.0

  pub of_last : (r : Route) → Every (λ (p : Point). Q p.x) r → OfBound Q (last_x r)
  unfolding last_x
  of_last [] e = tt
  of_last (p ∷ []) e = e.0
  of_last (p ∷ q ∷ r) e = of_last (q ∷ r) e.1

  pub of_map : (f : Float → Float) (o : Bound) → OfBound Q o → ((x : Float) → Q x → Q (f x)) → OfBound Q (map_bound f o)
  of_map f None s g = tt
  of_map f (At x) s g = g x s

  pub of_tighter : (role : Role) (o : Bound) (x : Float) → OfBound Q o → Q x → Q (tighter role o x)
  of_tighter Input None x s t = t
  of_tighter Output None x s t = t
  of_tighter Input (At d) x s t = of_least d x s t
  of_tighter Output (At d) x s t = of_greatest d x s t

  pub of_largest : (f : ℕ → Float) (x : Float) (is : List ℕ) → Q x → ((i : ℕ) → Q (f i)) → Q (largest f x is)
  unfolding largest
  of_largest f x [] s g = s
  of_largest f x (i ∷ is) s g = of_largest f (greatest x (f i)) is (of_greatest x (f i) s (g i)) g

  pub of_smallest : (f : ℕ → Float) (x : Float) (is : List ℕ) → Q x → ((i : ℕ) → Q (f i)) → Q (smallest f x is)
  unfolding smallest
  of_smallest f x [] s g = s
  of_smallest f x (i ∷ is) s g = of_smallest f (least x (f i)) is (of_least x (f i) s (g i)) g

  pub of_largest_of : (x : Float) (ys : List Float) → Q x → Every Q ys → Q (largest_of x ys)
  unfolding largest_of
  of_largest_of x [] s e = s
  of_largest_of x (y ∷ ys) s e = of_largest_of (greatest x y) ys (of_greatest x y s e.0) e.1

  pub of_smallest_of : (x : Float) (ys : List Float) → Q x → Every Q ys → Q (smallest_of x ys)
  unfolding smallest_of
  of_smallest_of x [] s e = s
  of_smallest_of x (y ∷ ys) s e = of_smallest_of (least x y) ys (of_least x y s e.0) e.1

  pub of_run_end : (role : Role) (pitch x : Float) (p : Point) (ps : List Point) → Every (λ (q : Point). Q q.x) ps → OfBound Q (run_end role pitch x p ps)
  unfolding run_end
  of_run_end role pitch x p [] e = tt
  of_run_end role pitch x p (q ∷ ps) e = go (holds x (stretch role pitch p q)) (of_run_end role pitch x q ps e.1)
    where
      go : (t : Bool) → OfBound Q (run_end role pitch x q ps) → OfBound Q (cond t (At q.x) (run_end role pitch x q ps))
      go true h = e.0
      go false h = h

  pub of_diverges : (role : Role) (pitch x : Float) (r : Route) → Every (λ (q : Point). Q q.x) r → OfBound Q (diverges_at role pitch x r)
  of_diverges role pitch x [] e = tt
  of_diverges role pitch x (p ∷ ps) e = of_run_end role pitch x p ps e.1
