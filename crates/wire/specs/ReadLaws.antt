-- A field that is there and one that is not, and repeated records one by one. Assumes nothing.
use Prim.Native.Nat.{ℕ, suc, ◌+◌, ◌-◌, ◌≤◌, ◌<◌}
use Rattle.std.specs.Prelude.{◌≡◌, refl, Bool, true, false, cond, leb, List, length, take, drop}
use native.Mathlib.Omega.{arith}
use Rattle.std.proofs.Common.{length-drop, drop-drop, le-leb, leb-true, leb-false}
use Rattle.std.proofs.lemmas.Bool.{lt-leb}
use Rattle.wire.specs.Bytes.{number}
use Rattle.wire.specs.Read.{Reader, after, field, got, many, refused}

-- a field at a place that leaves room for it, and one that does not
pub field_at : (w at : ℕ) (s : List ℕ) → at + w ≤ length s → field w (drop at s) ≡ got (number (take w (drop at s))) (drop (at + w) s)
unfolding field
field_at w at s h =
    let k : w ≤ length (drop at s) = rw length-drop (omega arith) in
    rw (le-leb w (length (drop at s)) k, drop-drop)

pub field_past : (w at : ℕ) (s : List ℕ) → 0 < w → length s < at + w → field w (drop at s) ≡ refused 4
unfolding field
field_past w at s g h =
    let k : length (drop at s) < w = rw length-drop (omega arith) in
    rw (lt-leb w (length (drop at s)) k)

-- what a field that was read says of the bytes, and one that was not
pub field_got : (w : ℕ) (s : List ℕ) (n : ℕ) (t : List ℕ) → field w s ≡ got n t → (w ≤ length s) × (number (take w s) ≡ n) × (drop w s ≡ t)
unfolding field
field_got w s n t e = by_test (leb w (length s)) (leb-true w (length s)) e
  where
    by_test : (b : Bool) → (b ≡ true → w ≤ length s) → cond b (got (number (take w s)) (drop w s)) (refused 4) ≡ got n t → (w ≤ length s) × (number (take w s) ≡ n) × (drop w s ≡ t)
    by_test true h e = (h refl, cc, cc)
    by_test false h e = let z : ◌≡◌ {A = ℕ} 0 1 = cc in absurd (omega arith)

pub field_missed : (w : ℕ) (s : List ℕ) (r : ℕ) → field w s ≡ refused r → length s < w
unfolding field
field_missed w s r e = by_test (leb w (length s)) (leb-false w (length s)) e
  where
    by_test : (b : Bool) → (b ≡ false → length s < w) → cond b (got (number (take w s)) (drop w s)) (refused 4) ≡ refused r → length s < w
    by_test true h e = let z : ◌≡◌ {A = ℕ} 0 1 = cc in absurd (omega arith)
    by_test false h e = h refl

module _ {A : Type 0} (p : A → Reader A) (n i : ℕ) (a : A) (s : List ℕ) where
  -- a turn is due
  pub many_turn : i < n → many (n - i) p a s ≡ after (p a s) (many (n - (i + 1)) p)
  unfolding many
  many_turn h =
      let e : n - i ≡ suc (n - (i + 1)) = omega arith in
      rw e

  -- a turn that was refused
  pub many_refused : (r : ℕ) → i < n → p a s ≡ refused r → many (n - i) p a s ≡ refused r
  unfolding after
  many_refused r h e = rw (many_turn h, e)

  -- a turn that came to b and the bytes t
  pub many_next : (b : A) (t : List ℕ) → i < n → p a s ≡ got b t → many (n - (i + 1)) p b t ≡ many (n - i) p a s
  unfolding after
  many_next b t h e = rw (many_turn h, e)

  -- no turn is left
  pub many_done : n ≤ i → many (n - i) p a s ≡ got a s
  unfolding many
  many_done h =
      let e : n - i ≡ 0 = omega arith in
      rw e
