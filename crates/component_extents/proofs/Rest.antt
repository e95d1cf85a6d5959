-- The elements of a list after the first, as `&which[1..]` lends them. Assumes nothing.
use Rattle.std.proofs.Common.{◌≡◌, refl, ℕ, suc, ◌-◌, List, [], ◌∷◌, length, take, drop, take_all, arith}
use Rattle.plan.specs.Prepared.{Listing}

abbrev pub after_first : List ℕ → List ℕ
after_first w = take (length w - 1) (drop 1 w)

pub after_first_are : (w : List ℕ) → after_first w ≡ drop 1 w
after_first_are [] = refl
after_first_are (x ∷ w) = take_all (length (x ∷ w) - 1) w (omega arith)

pub after_first_listed : (w : List ℕ) (m : ℕ) → Listing w m → Listing (after_first w) m
after_first_listed [] m e = record { each = λ k h. absurd (omega arith) }
after_first_listed (x ∷ w) m e = rw (after_first_are (x ∷ w)) (record { each = λ k h. e.each (suc k) (omega arith) })
