-- F-7's list as bytes: "a u16 count and then the entries", an entry being "the point as two f64, the bundle id, the edge id", big-endian as all that is written. Definitions only.
-- Assumes nothing.
use Rattle.std.specs.Prelude.{ℕ, List, ◌++◌, length, get_or}
use Rattle.geometry.specs.declared.Point.{Point}
use Rattle.wire.specs.Bytes.{bytes}
use Rattle.board.specs.Board.{Board, no_bundle, no_edge}
use Rattle.answer.specs.Answer.{all_bytes, point_bytes}
use Rattle.crossings.specs.List.{Crossing}

-- an entry, by its place and the two ids
unfoldable pub entry_bytes : Point → ℕ → ℕ → List ℕ
entry_bytes p bundle edge = point_bytes p ++ (bytes 4 bundle ++ bytes 4 edge)

-- the ids are those that the board has at the crossing's bundle and edge
abbrev pub crossing_entry : Board → Crossing → List ℕ
crossing_entry b c = entry_bytes c.place (get_or b.bundles c.bundle no_bundle).id (get_or b.edges c.edge no_edge).id

unfoldable pub list_bytes : Board → List Crossing → List ℕ
list_bytes b l = bytes 2 (length l) ++ all_bytes (crossing_entry b) l
