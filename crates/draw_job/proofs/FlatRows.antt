-- The columns of the members' edges and lanes, which were lent with a sheet's other slices before its rows were read: cut to so many members and routes, each was as long as its table. No function's proof cites this law now.
-- Assumes nothing.
use Rattle.std.specs.Prelude.{◌≡◌, ℕ, ◌≤◌, List, length, take}
use Rattle.std.proofs.Common.{length-take-le}

pub columns_cut : (edges lanes counts : List ℕ) (members routes : ℕ) → members ≤ length edges → members ≤ length lanes → routes ≤ length counts
    → (length (take members edges) ≡ members)
    × (length (take members lanes) ≡ members)
    × (length (take routes counts) ≡ routes)
columns_cut edges lanes counts members routes e l c =
    (length-take-le members edges e, length-take-le members lanes l, length-take-le routes counts c)
