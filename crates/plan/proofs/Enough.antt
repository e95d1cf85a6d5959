-- A grant that covers what is due: no search of the plan is spent, and each says what it says when visits never run out.
-- Assumes nothing.
use Rattle.std.proofs.Common.{sym, ap, subst, arith}
use Rattle.std.specs.Prelude.{Bool, List, ℕ, ◌+◌, ◌-◌, ◌≤◌, Option, Float}
use Rattle.geometry.specs.declared.Role.{Role}
use Rattle.geometry.specs.Points.{Route}
use Rattle.board.specs.declared.Bundle.{Bundle}
use Rattle.board.specs.Board.{Board}
use Rattle.search.specs.declared.Bounds.{Bounds}
use Rattle.search.specs.declared.Searched.{Searched}
use Rattle.search.specs.Search.{search_of}
use Rattle.search.specs.Freely.{price, bound}
use Rattle.search.proofs.Cost.{price_bound, enough}
use Rattle.plan.proofs.Through as through
use Rattle.plan.proofs.Through.{Kept}
use Rattle.plan.proofs.Alike as alike
use Rattle.plan.proofs.Alike.{Alike, Twins, SamePass, SameStep}
use Rattle.plan.specs.Plan.{first_pass, plan_with, plan_of, free, due}

-- f visits, the count at the plan's end, are covered by the count so far and the visits in hand
abbrev pub Covers : ℕ → ℕ → ℕ → Type 0
Covers f n w = f ≤ w + n

look_alike : (f : ℕ) (role : Role) (r : Bounds) (ms : List (List (Option (Float × Float)))) (n w : ℕ) → f ≤ w + n → (free role r ms n).left.0 ≤ f → Alike (Covers f) (free role r ms n) (search_of role r ms w)
look_alike f role r ms n w h k =
    let e = enough role r ms w (omega arith) in
    let p = price_bound role r ms in
    let g : f ≤ w - price role r ms + (n + bound ms) = omega arith in
    record { same = ap (λ (s : Searched). s.outcome) e; counts = subst (λ (s : Searched). f ≤ s.left.0 + (n + bound ms)) (sym e) g }

-- the count grows with every search
abbrev pub grown : Kept free
grown = record { R = λ m n. m ≤ n; same = λ n. omega arith; chain = λ l m n h k. omega arith; step = λ role r ms n. omega arith }

abbrev covered : (f : ℕ) → Twins free search_of
covered f = record { R = Covers f; Ok = λ n. n ≤ f; kept = grown; before = λ m n h k. omega arith; step = look_alike f }

module _ (b : Board) (routes : List Route) where
  pub first_pass_same : (f : ℕ) (us : List Bundle) (n w : ℕ) → f ≤ w + n → (first_pass free b routes us n).left ≤ f → SamePass (Covers f) (first_pass free b routes us n) (first_pass search_of b routes us w)
  first_pass_same f us n w h k = alike.first_pass_same free search_of (covered f) b routes us n w h k

  -- the sum covers that of the first pass
  pub first_pass_due : (separate : Bool) → (first_pass free b routes b.bundles 0).left ≤ due b routes separate
  first_pass_due separate = through.plan_from_kept free grown b routes separate (first_pass free b routes b.bundles 0)

  -- with a grant that covers what is due the paid plan is the free one, but for the visits left
  pub sufficient : (separate : Bool) (v : ℕ) → due b routes separate ≤ v → SameStep (Covers (due b routes separate)) (plan_with free b routes separate 0) (plan_of b routes separate v)
  sufficient separate v h = alike.plan_same free search_of (covered (due b routes separate)) b routes separate 0 v (omega arith) (omega arith)
