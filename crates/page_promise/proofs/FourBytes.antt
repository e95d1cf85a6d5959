-- Four bytes are a number below 2 ^ 32. Assumes nothing.
use Rattle.std.specs.Prelude.{List, [], ◌∷◌, ℕ, suc, ◌^◌, ◌≤◌, ◌<◌, length, take, get_or}
use Rattle.std.proofs.Common.{arith}
use Rattle.wire.specs.Bytes.{number, number_on}
use Rattle.sorting.specs.Lists.{Every}

abbrev pub Bytes : List ℕ → Type 0
Bytes s = Every (λ (b : ℕ). b < 256) s

pub bytes_of : (s : List ℕ) → ((i : ℕ) → i < length s → get_or s i 0 < 256) → Bytes s
bytes_of [] f = tt
bytes_of (b ∷ s) f = (f 0 (omega arith), bytes_of s (λ i h. f (suc i) (omega arith)))

pub four_bytes : (s : List ℕ) → 4 ≤ length s → Bytes s → number (take 4 s) < 2 ^ 32
unfolding number_on
four_bytes [] h k = absurd (omega arith)
four_bytes (a ∷ []) h k = absurd (omega arith)
four_bytes (a ∷ b ∷ []) h k = absurd (omega arith)
four_bytes (a ∷ b ∷ c ∷ []) h k = absurd (omega arith)
four_bytes (a ∷ b ∷ c ∷ d ∷ s) h k = omega (arith, k.0, k.1.0, k.1.1.0, k.1.1.1.0)
