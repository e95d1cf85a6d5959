-- A number in columns, with any fill in front. Definitions of inner contracts.
-- Assumes nothing.
use Rattle.std.specs.Prelude.{ℕ, zero, suc, ◌+◌, ◌/◌, ◌%◌, List, [], ◌∷◌, ◌++◌}
use Rattle.page_text.specs.Listing.{columns}

-- a number right-aligned in w columns: at least one digit, and `fill` in front of the first
unfoldable pub padded : ℕ → ℕ → ℕ → List ℕ
padded fill zero n = []
padded fill (suc w) n = columns fill w (n / 10) ++ ((48 + n % 10) ∷ [])
