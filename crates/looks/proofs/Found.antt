-- A route's tap, found among the members and their taps.
-- Assumes nothing.
use Rattle.std.specs.Prelude.{◌≡◌, refl, ℕ, List, [], ◌∷◌, Bool, true, false, cond, Option, Some, None}
use Rattle.std.proofs.Common.{◌==◌, ap}
use Rattle.std.specs.List.{find, zip}
use Rattle.std.specs.Option.{option_map, MatchOption, IsSomeAnd}
use Rattle.geometry.specs.declared.Point.{Point}
use Rattle.board.specs.declared.Member.{Member}
use Rattle.drawing.specs.Build.{tap_of}
use Rattle.checks.specs.LentRows.{taps_of}

pub found_tap : (ms : List Member) (ps : List Point) (e : ℕ) → option_map (λ (p : Member × Point). p.1) (find (λ (p : Member × Point). p.0.edge == e) (zip ms ps)) ≡ tap_of (taps_of ms ps) e
unfolding taps_of tap_of
found_tap [] ps e = refl
found_tap (m ∷ ms) [] e = refl
found_tap (m ∷ ms) (p ∷ ps) e = by_test (m.edge == e) (find (λ (q : Member × Point). q.0.edge == e) (zip ms ps)) (tap_of (taps_of ms ps) e) (found_tap ms ps e)
  where
    by_test : (b : Bool) (f : Option (Member × Point)) (t : Option Point) → option_map (λ (q : Member × Point). q.1) f ≡ t → option_map (λ (q : Member × Point). q.1) (cond b (Some (m, p)) f) ≡ cond b (Some p) t
    by_test true f t h = refl
    by_test false f t h = h

-- what is read of an item that is there or not
pub read_of : {X Y Z : Type 0} (g : X → Y) (h : Y → Z) (P : X → Z → Type 0) (f : Option X) (r : Option Z) → ((x : X) (z : Z) → P x z → z ≡ h (g x)) → MatchOption f (r ≡ None) (λ x. IsSomeAnd r (P x)) → r ≡ option_map h (option_map g f)
read_of g h P None r k m = m
read_of g h P (Some x) None k m = absurd m
read_of g h P (Some x) (Some z) k m = ap (λ y. Some y) (k x z m)
