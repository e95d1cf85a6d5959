-- A mask that is true at a bundle's members' edges and false elsewhere: with it the two checks make the tests of the definitions.
-- Assumes nothing.
use Prim.Native.Nat.{ℕ, suc, ◌+◌, ◌≤◌, ◌<◌}
use mathlib.Core.Path.{◌≡◌, refl, sym, ap, ap₂, ◌∙◌}
use mathlib.Core.List.{List, [], ◌∷◌, ◌++◌}
use mathlib.Core.Bool.{Bool, cond}
use native.Mathlib.Omega.{arith}
use lib.ListN.{length}
use Rattle.std.specs.Prelude.{Some}
use Rattle.geometry.specs.Points.{Route}
use Rattle.board.specs.declared.Edge.{Edge}
use Rattle.board.specs.declared.Options.{Options}
use Rattle.board.specs.declared.PlacedNode.{PlacedNode}
use Rattle.board.specs.declared.Member.{Member}
use Rattle.drawing.specs.declared.GeometryVisits.{GeometryVisits}
use Rattle.drawing.specs.Verdict.{Verdict, Clean, Refused}
use Rattle.drawing.specs.Build.{Drawn}
use Rattle.drawing.specs.Check.{Test, walk, over_routes, every_route, among, route_tests, drawn_tests, pair_tests, prior_tests, contact_tests}
use Rattle.checks.specs.CheckRows.{chosen_by, inside_route}
use Rattle.checks.specs.MemberSlices.{Marks, then_walk}

-- the two choose alike among the routes from i on
abbrev Alike : (ℕ → Bool) → (ℕ → Bool) → List Route → ℕ → Type 0
Alike c d rs i = (k : ℕ) → k < length rs → c (i + k) ≡ d (i + k)

over_alike : (f : ℕ → Route → List Test) (c d : ℕ → Bool) (rs : List Route) (i : ℕ) → Alike c d rs i → over_routes f c rs i ≡ over_routes f d rs i
unfolding over_routes
over_alike f c d [] i h = refl
over_alike f c d (r ∷ rs) i h =
    let z : i + 0 ≡ i = omega arith in
    let e : c i ≡ d i = ap c (sym z) ∙ h 0 (omega arith) ∙ ap d z in
    let g : Alike c d rs (suc i) = λ k l. let y : suc i + k ≡ i + suc k = omega arith in ap c y ∙ h (suc k) (omega arith) ∙ ap d (sym y) in
    ap₂ (λ (b : Bool) (ts : List Test). cond b (f i r) [] ++ ts) e (over_alike f c d rs (suc i) g)

module _ (ms : List Member) (mask : List Bool) (rs : List Route) (marks : Marks ms mask) (room : length rs ≤ length mask) where
  chosen_alike : Alike (chosen_by (Some mask)) (among ms) rs 0
  unfolding chosen_by
  chosen_alike k l = let z : 0 + k ≡ k = omega arith in rw z (marks k (omega arith))

  drawn_masked : (o : Options) (allow : Bool) (d : Drawn) → drawn_tests o allow d (chosen_by (Some mask)) rs ≡ drawn_tests o allow d (among ms) rs
  unfolding drawn_tests
  drawn_masked o allow d =
      ap₂ (λ (x y : List Test). x ++ y)
      (over_alike (route_tests o allow d.collector d.taps) (chosen_by (Some mask)) (among ms) rs 0 chosen_alike)
      (over_alike (route_tests o allow d.spine d.taps) (chosen_by (Some mask)) (among ms) rs 0 chosen_alike)

  prior_masked : (o : Options) (allow : Bool) (new : Drawn) (ds : List Drawn) → prior_tests o allow new (chosen_by (Some mask)) ds rs ≡ prior_tests o allow new (among ms) ds rs
  unfolding prior_tests
  prior_masked o allow new [] = refl
  prior_masked o allow new (d ∷ ds) =
      ap₂ (λ (x y : List Test). (x ++ pair_tests o allow new d) ++ y) (drawn_masked o allow d) (prior_masked o allow new ds)

  -- the tests of verify_new_bundle_route_contacts
  pub contact_masked : (o : Options) (allow : Bool) (new : Drawn) (ds : List Drawn) → contact_tests o allow new (chosen_by (Some mask)) ds rs ≡ contact_tests o allow new (among ms) ds rs
  unfolding contact_tests
  contact_masked o allow new ds = ap (λ (x : List Test). drawn_tests o allow new every_route rs ++ x) (prior_masked o allow new ds)

  -- the tests of verify_one_bundle_route_node_interiors
  pub inside_masked : (ns : List PlacedNode) (es : List Edge) → over_routes (inside_route ns es) (chosen_by (Some mask)) rs 0 ≡ over_routes (inside_route ns es) (among ms) rs 0
  inside_masked ns es = over_alike (inside_route ns es) (chosen_by (Some mask)) (among ms) rs 0 chosen_alike

-- ---- one check after the other

pub both_off : (xs ys zs : List Test) (n e : ℕ) (p : GeometryVisits) → Refused e p ≡ walk 12 xs n → xs ≡ ys → Refused e p ≡ then_walk (walk 12 ys n) (λ k. walk 11 zs k)
unfolding then_walk
both_off xs ys zs n e p h q = ap (λ (v : Verdict). then_walk v (λ k. walk 11 zs k)) (h ∙ ap (λ (x : List Test). walk 12 x n) q)

pub both_on : (xs ys ws zs : List Test) (n : ℕ) (p : GeometryVisits) → Clean p ≡ walk 12 xs n → xs ≡ ys → ws ≡ zs → walk 11 ws p.0 ≡ then_walk (walk 12 ys n) (λ k. walk 11 zs k)
unfolding then_walk
both_on xs ys ws zs n p h q r =
    ap (λ (x : List Test). walk 11 x p.0) r
    ∙ ap (λ (v : Verdict). then_walk v (λ k. walk 11 zs k)) (h ∙ ap (λ (x : List Test). walk 12 x n) q)
