-- Laws of a rewriting by the steps of one function for both roles; today's functions have a step for each role (`WindowSteps.put_together`). Assumes nothing.
use Prim.Native.Nat.{ℕ, suc, ◌+◌, ◌-◌, ◌≤◌, ◌<◌}
use Rattle.std.specs.Prelude.{◌≡◌, Bool, true, false, not, ◌&&◌, take, drop, Float, Option, Some, None}
use Rattle.std.proofs.Math.Path.{refl}
use Rattle.std.proofs.Common.{sym, ◌∙◌}
use mathlib.Core.List.{List, [], ◌++◌}
use native.Mathlib.Omega.{arith}
use Rattle.geometry.specs.declared.Point.{Point}
use Rattle.geometry.specs.declared.Role.{Role}
use Rattle.geometry.specs.declared.Role.TheVariants.{Input, Output}
use Rattle.geometry.specs.Contact.{matches}
use Rattle.geometry.specs.Points.{Route, runs, points_from}
use Rattle.route.specs.Push.{push_points}
use Rattle.route.specs.Intersection.{first_met, last_met}
use Rattle.route.specs.Rewrite.{corner, new_points, sequence, joined}
use Rattle.route.specs.Contract.{Pushed, Within, told, left_in, Leaves}
use Rattle.route.specs.Window.{points_length, points_drop, points_take}
use Rattle.route.proofs.Lines.{Line, meets}
use Rattle.route.proofs.Found.{first_found, last_found, met_on_route}
use Rattle.route.proofs.Remade.{new_length}
use Rattle.route.proofs.WindowSteps.{push_both}

within_of : (c : Option (ℕ × Point)) (n : ℕ) → ((k : ℕ) (p : Point) → c ≡ Some (k, p) → suc k < n) → Within c n
within_of None n f = tt
within_of (Some (k, p)) n f = let l : suc k < n = f k p refl in omega arith

module _ (line : Line) (x : Float) (src : List Float) (start count : ℕ) (c : Option (ℕ × Point)) where
  pub within_first : c ≡ first_met (meets line x) 0 (runs (points_from src start count)) → Within c count
  within_first e = within_of c count (λ k p h. rw (points_length src start count) at (met_on_route line x (points_from src start count) k p (first_found (meets line x) 0 (runs (points_from src start count)) k p (sym e ∙ h))).0)

  pub within_last : c ≡ last_met (meets line x) 0 (runs (points_from src start count)) → Within c count
  within_last e = within_of c count (λ k p h. rw (points_length src start count) at (met_on_route line x (points_from src start count) k p (last_found (meets line x) 0 (runs (points_from src start count)) k p (sym e ∙ h))).0)

pub within_run : (found : Option (ℕ × Point)) (count i : ℕ) (p : Point) → Within found count → found ≡ Some (i, p) → i + 1 < count
within_run found count i p h e = rw e at h

pub pushed_new : (role : Role) (trunk : Bool) (tap turn p : Point) {s t : List Float} {n m : ℕ} → Pushed s n (new_points role trunk tap turn p) t m → m ≤ n + 3
pushed_new role trunk tap turn p h = let l = new_length role trunk tap turn p in omega (arith, h.most)

pub pushed_window : (src : List Float) (start k : ℕ) {s t : List Float} {n m : ℕ} → Pushed s n (points_from src start k) t m → m ≤ n + k
pushed_window src start k h = let l = points_length src start k in omega (arith, h.most)

module _ (role : Role) (trunk : Bool) (tap : Point) (x : Float) (found : Option (ℕ × Point)) (src : List Float) (start count : ℕ) (s : List Float) where
  abbrev pub wanted : Option Route
  wanted = joined role trunk tap x found (points_from src start count)

  pub left_unmet : found ≡ None → Leaves None s s count wanted
  unfolding told left_in joined
  left_unmet e = record { route = rw e; scratch = refl }

  pub left_missed : (i : ℕ) (p : Point) (m : Bool) → found ≡ Some (i, p) → m ≡ matches p tap → (trunk && not m) ≡ true → Leaves None s s count wanted
  unfolding told left_in joined
  left_missed i p m e f h = record { route = let g = rw f at h in rw (e, g); scratch = refl }

  -- what is pushed in two lots is the sequence of points that the definition names
  made : (i : ℕ) (p : Point) (m : Bool) (t : List Float) (n : ℕ) → found ≡ Some (i, p) → m ≡ matches p tap → (trunk && not m) ≡ false
      → points_from t 0 n ≡ push_points [] (sequence role i (points_from src start count) (new_points role trunk tap (corner x tap) p)) → n ≤ count + 2 → Leaves (Some n) s t count wanted
  unfolding told left_in joined
  made i p m t n e f h g l = record { route = let k = rw f at h in rw (e, k, g); scratch = l }

  pub made_input : (i : ℕ) (p : Point) (m : Bool) (u t : List Float) (k n : ℕ) → role ≡ Input → i + 1 < count → found ≡ Some (i, p) → m ≡ matches p tap → (trunk && not m) ≡ false
      → Pushed s 0 (new_points role trunk tap (corner x tap) p) u k → Pushed u k (points_from src (start + i + 1) (start + count - (start + i + 1))) t n → Leaves (Some n) s t count wanted
  unfolding sequence points_from
  made_input i p m u t k n q l e f h a b =
      let ps = new_points role trunk tap (corner x tap) p in
      let z : start + i + 1 ≡ start + suc i = omega arith in
      let y : start + count - (start + i + 1) ≡ count - suc i = omega arith in
      let w : points_from src (start + i + 1) (start + count - (start + i + 1)) ≡ drop (suc i) (points_from src start count) = rw (y, z) (sym (points_drop src start count (suc i))) in
      let j : Pushed s 0 (ps ++ drop (suc i) (points_from src start count)) t n = rw w at (push_both a b) in
      let c = new_length role trunk tap (corner x tap) p in
      let d = points_length src (start + i + 1) (start + count - (start + i + 1)) in
      made i p m t n e f h (rw q (rw q at j.points)) (omega (arith, a.most, b.most))

  pub made_output : (i : ℕ) (p : Point) (m : Bool) (u t : List Float) (k n : ℕ) → role ≡ Output → i + 1 < count → found ≡ Some (i, p) → m ≡ matches p tap → (trunk && not m) ≡ false
      → Pushed s 0 (points_from src start (start + i + 1 - start)) u k → Pushed u k (new_points role trunk tap (corner x tap) p) t n → Leaves (Some n) s t count wanted
  unfolding sequence points_from
  made_output i p m u t k n q l e f h a b =
      let ps = new_points role trunk tap (corner x tap) p in
      let z : start + i + 1 - start ≡ suc i = omega arith in
      let g : suc i ≤ count = omega arith in
      let w : points_from src start (start + i + 1 - start) ≡ take (suc i) (points_from src start count) = rw z (sym (points_take src start count (suc i) g)) in
      let j : Pushed s 0 (take (suc i) (points_from src start count) ++ ps) t n = rw w at (push_both a b) in
      let c = new_length role trunk tap (corner x tap) p in
      let d = points_length src start (start + i + 1 - start) in
      made i p m t n e f h (rw q (rw q at j.points)) (omega (arith, a.most, b.most))
