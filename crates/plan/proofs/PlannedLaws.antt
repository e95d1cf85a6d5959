-- The planned x of a bundle that shares no route with a bundle of the other role, where collectors of one role are not separated and the grant is sufficient.
-- Assumes nothing.
use Rattle.std.specs.declared.option.Option.TheVariants as option
use Rattle.std.specs.Prelude.{◌≡◌, refl, ◌⊎◌, Bool, true, false, cond, length, get_or, leb, Option, Float}
use Rattle.std.proofs.Common.{sym, ◌∙◌, subst, inl, inr, arith, le-leb}
use Rattle.std.proofs.Math.Path.{ap}
use mathlib.Core.List.{List, [], ◌∷◌}
use Prim.Native.Nat.{ℕ, zero, suc, ◌≤◌, ◌<◌}
use Rattle.binary64.specs.Rational.{Fraction, value}
use Rattle.geometry.specs.declared.Role.{Role}
use Rattle.board.specs.declared.Bundle.{Bundle}
use Rattle.geometry.specs.Points.{Route}
use Rattle.board.specs.Board.{Board}
use Rattle.plan.specs.declared.Bound.{Bound}
use Rattle.plan.specs.declared.Bound.TheVariants.{None, At}
use Rattle.search.specs.declared.Bounds.{Bounds}
use Rattle.search.specs.declared.Outcome.{Outcome}
use Rattle.search.specs.declared.Outcome.TheVariants as outcome
use Rattle.search.specs.Search.{search_of}
use Rattle.search.specs.Freely.{freely}
use Rattle.search.specs.BestOrder.{UpToℚ, Answers}
use Rattle.search.proofs.Best.{best}
use Rattle.search.specs.Good.{Real, Good}
use Rattle.plan.specs.Bounds.{if_at, reach_all, between, bounds_of, trunks}
use Rattle.plan.specs.Depths.{members_in}
use Rattle.plan.specs.Plan.{Ranged, no_ranged, ranged_at, ranged, initial_x, Plan, going, free, due, plan_of, seek_in, seek, first_pass}
use Rattle.plan.proofs.Enough.{first_pass_same, first_pass_due}
use Rattle.plan.specs.Lone.{Lone}
use Rattle.plan.proofs.LonePlanned.{Kept, lone_kept}
use Rattle.plan.proofs.SmallNumbers.{Numbers}
use Rattle.plan.proofs.Numbers.{FairRange, bounds_fair, trunks_real}

-- x is the best of the fractions that lie between the bounds and in a stretch of every member; where none is planned there is none, and where bounds are absent none is planned
abbrev pub Best : Role → Option Bounds → List (List (Option (Float × Float))) → Bound → Type 0
Best role option.None ms x = x ≡ None
Best role (option.Some r) ms None = (q : Fraction) → Good r ms q → ⊥
Best role (option.Some r) ms (At x) = Real x × Good r ms (value x) × ((q : Fraction) → Good r ms q → UpToℚ role q x)

-- width or member count below two
pub few_none : (b : Board) (routes : List Route) (u : Bundle) (lower upper : Bound) → (u.width < 2) ⊎ (u.count < 2) → bounds_of b routes u lower upper ≡ option.None
unfolding bounds_of
few_none b routes u lower upper (inl h) = rw (le-leb u.width 1 (omega arith))
few_none b routes u lower upper (inr h) = go (leb u.width 1)
  where
    go : (t : Bool) → cond t option.None (cond (leb u.count 1) option.None (if_at (reach_all b routes u.role None (members_in b u)) option.None (between b u lower upper u.role))) ≡ option.None
    go true = refl
    go false = rw (le-leb u.count 1 (omega arith))

-- what the first search of a bundle finds when visits never run out
abbrev ranged_for : Board → List Route → Bundle → Ranged
ranged_for b routes u = ranged u (bounds_of b routes u None None) (seek_in free b routes u (bounds_of b routes u None None) 0).outcome

module _ (b : Board) (routes : List Route) where
  found_alike : (u : Bundle) (r : Option Bounds) (n : ℕ) → (seek_in free b routes u r n).outcome ≡ (seek_in free b routes u r 0).outcome
  found_alike u option.None n = refl
  found_alike u (option.Some r) n = refl

  ranges_at : (us : List Bundle) (n i : ℕ) (d : Bundle) → i < length us → ranged_at (first_pass free b routes us n).ranges i ≡ ranged_for b routes (get_or us i d)
  unfolding first_pass
  ranges_at [] n i d h = absurd (omega arith)
  ranges_at (u ∷ us) n zero d h = ap (ranged u (bounds_of b routes u None None)) (found_alike u (bounds_of b routes u None None) n)
  ranges_at (u ∷ us) n (suc i) d h = ranges_at us (seek free b routes u None None n).left.0 i d (omega arith)

  answer_best : (role : Role) (r : Bounds) (ms : List (List (Option (Float × Float)))) (f : Outcome) → Answers role r ms f → Best role (option.Some r) ms (initial_x (ranged no_ranged.bundle (option.Some r) f))
  answer_best role r ms (outcome.Found x) a = a
  answer_best role r ms outcome.Nothing a = a
  answer_best role r ms outcome.Spent a = absurd a

  ranged_best : (good : Numbers b routes) (u : Bundle) → Best u.role (bounds_of b routes u None None) (trunks b routes u) (initial_x (ranged_for b routes u))
  ranged_best good u = go (bounds_of b routes u None None) (bounds_fair b routes good u None None tt tt)
    where
      go : (r : Option Bounds) → FairRange b routes good u.role r → Best u.role r (trunks b routes u) (initial_x (ranged u r (seek_in free b routes u r 0).outcome))
      go option.None h = refl
      go (option.Some r) h = answer_best u.role r (trunks b routes u) (freely u.role r (trunks b routes u)) (best u.role r (trunks b routes u) h (trunks_real b routes good u))

  -- the last sentence of demand 3, about the plan
  pub planned_best : (good : Numbers b routes) (v i : ℕ) (d : Bundle) (p : Plan) → i < length b.bundles → Lone b (get_or b.bundles i d) → due b routes false ≤ v → plan_of b routes false v ≡ going p
      → Best (get_or b.bundles i d).role (bounds_of b routes (get_or b.bundles i d) None None) (trunks b routes (get_or b.bundles i d)) (get_or p.xs i None)
  planned_best good v i d p h lone enough e =
      let u = get_or b.bundles i d in
      let a = first_pass_same b routes (due b routes false) b.bundles 0 v (omega arith) (first_pass_due b routes false) in
      let s : ranged_at (first_pass search_of b routes b.bundles v).ranges i ≡ ranged_for b routes u = ap (λ (l : List Ranged). ranged_at l i) a.same ∙ ranges_at b.bundles 0 i d h in
      let k : Kept i (initial_x (ranged_at (first_pass search_of b routes b.bundles v).ranges i)) (plan_of b routes false v) = lone_kept search_of b routes i v (subst (λ (t : Ranged). Lone b t.bundle) (sym s) lone) in
      let x : get_or p.xs i None ≡ initial_x (ranged_for b routes u) = subst (Kept i (initial_x (ranged_at (first_pass search_of b routes b.bundles v).ranges i))) e k ∙ ap initial_x s in
      subst (Best u.role (bounds_of b routes u None None) (trunks b routes u)) (sym x) (ranged_best good u)
