-- Places by their indices in a slice, which were sorted before the rows themselves were. No function's proof cites these laws now.
-- Assumes nothing.
use Rattle.std.specs.Prelude.{ℕ, ◌/◌, ◌≤◌, ◌<◌, ◌≡◌, List, cond, ltb, length, Float}
use Rattle.std.proofs.Common.{lt-ltb, le-ltb}
use Rattle.geometry.specs.declared.Point.{Point}
use Rattle.geometry.specs.Points.{point_at}
use Rattle.place_order.specs.Order.{number_key, joined, place_key}

-- the key of the point that an index names, 0 outside the slice
unfoldable pub index_key : List Float → ℕ → ℕ
index_key places i = cond (ltb i (length places / 2)) (place_key (point_at places i)) 0

-- the key that an index names, from the place's own
pub key_inside : (places : List Float) (i : ℕ) (p : Point) (y x : ℕ) → i < length places / 2 → p ≡ point_at places i → y ≡ number_key p.y → x ≡ number_key p.x → joined y x ≡ index_key places i
unfolding index_key
key_inside places i p y x h e d f = rw (d, f, e, lt-ltb i (length places / 2) h)

pub key_outside : (places : List Float) (i : ℕ) → length places / 2 ≤ i → joined 0 0 ≡ index_key places i
unfolding index_key
key_outside places i h = rw (le-ltb i (length places / 2) h)
