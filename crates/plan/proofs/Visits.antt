-- What the plan pays. Visits granted are visits left plus those that the definition counts; where they never run out it counts the sum of the prices of its searches.
-- Assumes nothing.
use Rattle.std.specs.Prelude.{◌≡◌, refl, Bool, true, false, cond, List, ℕ, ◌+◌, ◌-◌, ◌≤◌, leb, Option, Float}
use Rattle.std.proofs.Common.{arith, le-leb, leb-true}
use Rattle.geometry.specs.declared.Role.{Role}
use Rattle.geometry.specs.Points.{Route}
use Rattle.board.specs.Board.{Board}
use Rattle.search.specs.declared.Bounds.{Bounds}
use Rattle.search.specs.declared.Outcome.TheVariants as outcome
use Rattle.search.specs.Search.{search_of, answer}
use Rattle.search.proofs.Count.{search_paid}
use Rattle.search.specs.Freely.{freely, price}
use Rattle.search.proofs.Cost.{price_bound}
use Rattle.plan.proofs.Through.{Kept}
use Rattle.plan.proofs.Alike.{Alike, Twins, SameStep, plan_same}
use Rattle.plan.specs.Plan.{Look, Step, going, refused, left_of, plan_with, plan_of, free, due}

-- ---- what is counted

-- a search with n visits paid before it: it pays its price, or what is left of the grant if that is less, and is spent then
abbrev pub counting : ℕ → Look
counting grant role r ms n = cond (leb (price role r ms) (grant - n)) (answer (freely role r ms) (n + price role r ms)) (answer outcome.Spent (n + (grant - n)))

-- the visits that the plan pays out of a grant: a sum over the searches that it makes, from 0
abbrev pub paid_of : Board → List Route → Bool → ℕ → ℕ
paid_of b routes separate grant = left_of (plan_with (counting grant) b routes separate 0)

-- a search when visits never run out
abbrev pub pricing : Look
pricing role r ms n = answer (freely role r ms) (n + price role r ms)

-- the sum of the prices of all searches that the plan makes when visits never run out
abbrev pub cost_of : Board → List Route → Bool → ℕ
cost_of b routes separate = left_of (plan_with pricing b routes separate 0)

-- the planned x are the same, or both refuse
abbrev pub Agree : Step → Step → Type 0
Agree (going p) (going q) = q.xs ≡ p.xs
Agree (going p) (refused w) = ⊥
Agree (refused n) (going q) = ⊥
Agree (refused n) (refused w) = Unit {0}

agree : (R : ℕ → ℕ → Type 0) (s t : Step) → SameStep R s t → Agree s t
agree R (going p) (going q) h = h.same
agree R (going p) (refused w) h = h
agree R (refused n) (going q) h = h
agree R (refused n) (refused w) h = tt

counts_of : (R : ℕ → ℕ → Type 0) (s t : Step) → SameStep R s t → R (left_of s) (left_of t)
counts_of R (going p) (going q) h = h.counts
counts_of R (going p) (refused w) h = absurd h
counts_of R (refused n) (going q) h = absurd h
counts_of R (refused n) (refused w) h = h

-- nothing is asked of a count
abbrev any : (look : Look) → Kept look
any look = record { R = λ m n. Unit {0}; same = λ n. tt; chain = λ l m n h k. tt; step = λ role r ms n. tt }

-- ---- visits granted are visits left plus those counted

counted_alike : (grant : ℕ) (role : Role) (r : Bounds) (ms : List (List (Option (Float × Float)))) (n w : ℕ) → w + n ≡ grant → Alike (λ m v. v + m ≡ grant) (counting grant role r ms n) (search_of role r ms w)
counted_alike grant role r ms n w h =
    let e : grant - n ≡ w = omega arith in
    rw (search_paid role r ms w, e) (go (leb (price role r ms) w) refl)
  where
    go : (t : Bool) → leb (price role r ms) w ≡ t
        → Alike (λ m v. v + m ≡ grant) (cond t (answer (freely role r ms) (n + price role r ms)) (answer outcome.Spent (n + w))) (cond t (answer (freely role r ms) (w - price role r ms)) (answer outcome.Spent 0))
    go true t = record { same = refl; counts = omega (arith, leb-true) }
    go false t = record { same = refl; counts = omega arith }

abbrev counted : (grant : ℕ) → Twins (counting grant) search_of
counted grant = record { R = λ n w. w + n ≡ grant; Ok = λ n. Unit {0}; kept = any (counting grant); before = λ m n h k. tt; step = λ role r ms n w h k. counted_alike grant role r ms n w h }

module _ (b : Board) (routes : List Route) (separate : Bool) (v : ℕ) where
  counted_plan : SameStep (λ n w. w + n ≡ v) (plan_with (counting v) b routes separate 0) (plan_of b routes separate v)
  counted_plan = plan_same (counting v) search_of (counted v) b routes separate 0 v (omega arith) tt

  -- VISITS GRANTED equal visits left plus those that the definition counts, where the plan is made and where it is refused
  pub visits_counted : left_of (plan_of b routes separate v) + paid_of b routes separate v ≡ v
  visits_counted = counts_of (λ n w. w + n ≡ v) (plan_with (counting v) b routes separate 0) (plan_of b routes separate v) counted_plan

  -- the definition that counts plans the same
  pub counted_same : Agree (plan_with (counting v) b routes separate 0) (plan_of b routes separate v)
  counted_same = agree (λ n w. w + n ≡ v) (plan_with (counting v) b routes separate 0) (plan_of b routes separate v) counted_plan

  -- the plan invents no visits
  pub left_at_most : left_of (plan_of b routes separate v) ≤ v
  left_at_most = omega (arith, visits_counted)

-- ---- where visits do not run out

abbrev grows : Kept pricing
grows = record { R = λ m n. m ≤ n; same = λ n. omega arith; chain = λ l m n h k. omega arith; step = λ role r ms n. omega arith }

priced_alike : (grant : ℕ) (role : Role) (r : Bounds) (ms : List (List (Option (Float × Float)))) (n w : ℕ) → w ≡ n → n + price role r ms ≤ grant → Alike (λ m v. v ≡ m) (pricing role r ms n) (counting grant role r ms w)
priced_alike grant role r ms n w h k = rw (h, le-leb (price role r ms) (grant - n) (omega arith)) (record { same = refl; counts = refl })

abbrev priced : (grant : ℕ) → Twins pricing (counting grant)
priced grant = record { R = λ n w. w ≡ n; Ok = λ n. n ≤ grant; kept = grows; before = λ m n h k. omega arith; step = priced_alike grant }

abbrev cheaper : Twins pricing free
cheaper =
    record {
      R = λ n w. n ≤ w;
      Ok = λ n. Unit {0};
      kept = any pricing;
      before = λ m n h k. tt;
      step = λ role r ms n w h k. record { same = refl; counts = omega (arith, price_bound role r ms) };
    }

module _ (b : Board) (routes : List Route) (separate : Bool) where
  -- a grant that covers the prices pays them, each once
  pub paid_in_full : (v : ℕ) → cost_of b routes separate ≤ v → paid_of b routes separate v ≡ cost_of b routes separate
  paid_in_full v h =
      counts_of (λ n w. w ≡ n) (plan_with pricing b routes separate 0) (plan_with (counting v) b routes separate 0)
      (plan_same pricing (counting v) (priced v) b routes separate 0 0 refl h)

  -- and a sufficient grant covers them
  pub cost_covered : cost_of b routes separate ≤ due b routes separate
  cost_covered = counts_of (λ n w. n ≤ w) (plan_with pricing b routes separate 0) (plan_with free b routes separate 0) (plan_same pricing free cheaper b routes separate 0 0 (omega arith) tt)

  pub sufficient_paid : (v : ℕ) → due b routes separate ≤ v → paid_of b routes separate v ≡ cost_of b routes separate
  sufficient_paid v h = paid_in_full v (omega (arith, cost_covered))
