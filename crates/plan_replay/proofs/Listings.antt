-- One place more in a list of places. Assumes nothing.
use Rattle.std.proofs.Common.{◌≡◌, ℕ, zero, suc, ◌+◌, ◌<◌, List, [], ◌∷◌, ◌++◌, length, length-append, get_or, arith}
use Rattle.plan.specs.Prepared.{Listing}

grown : (l : List ℕ) (x n : ℕ) → ((k : ℕ) → k < length l → get_or l k 0 < n) → x < n → (k : ℕ) → k < length l + 1 → get_or (l ++ (x ∷ [])) k 0 < n
grown [] x n f h zero q = h
grown [] x n f h (suc k) q = absurd (omega arith)
grown (y ∷ l) x n f h zero q = f 0 (omega arith)
grown (y ∷ l) x n f h (suc k) q = grown l x n (λ j r. f (suc j) (omega arith)) h k (omega arith)

pub listing_push : (l m : List ℕ) (x n : ℕ) → m ≡ l ++ (x ∷ []) → Listing l n → x < n → Listing m n
listing_push l m x n e f h = rw e (record { each = λ k q. grown l x n f.each h k (omega (arith, q, length-append l (x ∷ []))) })
