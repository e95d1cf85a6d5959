-- A record in one piece with its length. Definitions of inner contracts.
-- Assumes nothing.
use Rattle.std.specs.Prelude.{ℕ, ◌-◌, List, length, cond, ltb}
use Rattle.std.proofs.lemmas.List.Edits.{sets}
use Rattle.wire.specs.Bytes.{bytes}

-- bytes, of which the first n are to be a record: the length of those behind the first four stands in these. They stay as they are where n is less than four or more than there are, or a u32 doesn't hold the length
abbrev pub headed : List ℕ → ℕ → List ℕ
headed out n = cond (ltb n 4) out (cond (ltb (length out) n) out (cond (ltb 4294967299 n) out (sets out 0 (bytes 4 (n - 4)))))
