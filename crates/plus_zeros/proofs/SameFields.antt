-- F-1: each kind of field is read from a copy with plus zeros as from the bytes, with what is left copied on.
-- Assumes nothing.
use Rattle.std.specs.Prelude.{ℕ, zero, suc, ◌+◌, ◌≤◌, ◌<◌, ◌≡◌, Bool, true, false, ◌&&◌, cond, List, [], ◌∷◌, ◌++◌, eqb, leb, length, take, drop, Float}
use Rattle.std.proofs.Math.Path.{refl}
use Rattle.std.proofs.Common.{sym, ap, ◌∙◌, subst, true≢false, arith, length-append, take-append-drop, length-take-le, le-leb, leb-true, leb-false, eqb-true}
use Rattle.std.proofs.Math.Seq.{take-append_seam, drop-append_seam}
use Rattle.std.specs.Float.Ieee.{of_bits, eq}
use Rattle.std.proofs.lemmas.Bool.{lt-leb}
use Rattle.binary64.specs.Accepted.{plus_zero, accepted}
use Rattle.wire.specs.Bytes.{number, number_on}
use Rattle.wire.specs.Read.{Read, refused, got, Reader, after, read, give, field, limited}
use Rattle.grid.specs.DraftingGrid.{on_drafting_grid}
use Rattle.wire.specs.Accept.{number_in_bits, taken, gridded, number_in}
use Rattle.geometry.specs.declared.Side.TheVariants.{North, East, South, West}
use Rattle.job.specs.Job as job
use Rattle.plus_zeros.specs.Places.{Copy, kept, same_bytes, minus_zero_bytes, plus_zero_bytes, number_field, f64, times}

-- ---- a copy has as many bytes
abbrev pub Keeps : Copy → Type 0
Keeps m = (s : List ℕ) → length (m s) ≡ length s

seam : (w : ℕ) (s l r : List ℕ) → length l ≡ length (take w s) → length r ≡ length (drop w s) → length (l ++ r) ≡ length s
seam w s l r a b =
    length-append l r ∙ ap (λ (z : ℕ). z + length r) a ∙ ap (λ (z : ℕ). length (take w s) + z) b
    ∙ sym (length-append (take w s) (drop w s)) ∙ ap length (take-append-drop w s)

pub keeps_kept : (w : ℕ) (k : ℕ → Copy) → ((n : ℕ) → Keeps (k n)) → Keeps (kept w k)
unfolding kept
keeps_kept w k h s = seam w s (take w s) (k (number (take w s)) (drop w s)) refl (h (number (take w s)) (drop w s))

same_is : (l m : List ℕ) → same_bytes l m ≡ true → l ≡ m
unfolding same_bytes
same_is [] [] e = refl
same_is [] (b ∷ m) e = absurd (true≢false (sym e))
same_is (a ∷ l) [] e = absurd (true≢false (sym e))
same_is (a ∷ l) (b ∷ m) e = go (eqb a b) refl e (same_is l m)
  where
    go : (t : Bool) → eqb a b ≡ t → (t && same_bytes l m) ≡ true → (same_bytes l m ≡ true → l ≡ m) → a ∷ l ≡ b ∷ m
    go true h k f = ap (λ (x : ℕ). x ∷ l) (eqb-true a b h) ∙ ap (λ (r : List ℕ). b ∷ r) (f k)
    go false h k f = absurd (true≢false (sym k))

number_field_length : (l : List ℕ) → length (number_field l) ≡ length l
unfolding number_field
number_field_length l = go (same_bytes l minus_zero_bytes) refl
  where
    go : (t : Bool) → same_bytes l minus_zero_bytes ≡ t → length (cond t plus_zero_bytes l) ≡ length l
    go true e = sym (ap length (same_is l minus_zero_bytes e))
    go false e = refl

-- what is read of it is what is read of the bytes as they were
number_field_number : (l : List ℕ) → number_in_bits (number (number_field l)) ≡ number_in_bits (number l)
unfolding number_field
number_field_number l = go (same_bytes l minus_zero_bytes) refl
  where
    both : number_in_bits (number plus_zero_bytes) ≡ number_in_bits (number minus_zero_bytes)
    both = unfold plus_zero in unfold of_bits in unfold eq in unfold number_on in refl

    go : (t : Bool) → same_bytes l minus_zero_bytes ≡ t → number_in_bits (number (cond t plus_zero_bytes l)) ≡ number_in_bits (number l)
    go true e = both ∙ sym (ap (λ (z : List ℕ). number_in_bits (number z)) (same_is l minus_zero_bytes e))
    go false e = refl

pub keeps_f64 : (k : Copy) → Keeps k → Keeps (f64 k)
unfolding f64
keeps_f64 k h s = seam 8 s (number_field (take 8 s)) (k (drop 8 s)) (number_field_length (take 8 s)) (h (drop 8 s))

pub keeps_times : (n : ℕ) (c : Copy → Copy) (k : Copy) → ((j : Copy) → Keeps j → Keeps (c j)) → Keeps k → Keeps (times n c k)
unfolding times
keeps_times zero c k f h = h
keeps_times (suc n) c k f h = f (times n c k) (keeps_times n c k f h)

-- ---- a reader on a copy: the same value or refusal, and the copy k of what is left
pub record Moves {A : Type 0} (p : Reader A) (m : Copy) (k : A → Copy) : Type 0 where
  pub at : (s : List ℕ) → p (m s) ≡ after (p s) (λ a t. got a (k a t))

pub give_moves : {A : Type 0} (a : A) (k : A → Copy) → Moves (give a) (k a) k
unfolding after
give_moves a k = record { at = λ s. refl }

-- a reader on bytes that stay
pub stay : {A : Type 0} (p : Reader A) → Moves p (λ r. r) (λ a r. r)
unfolding after
stay p = record { at = λ s. go (p s) }
  where
    go : {A : Type 0} (x : Read A) → x ≡ after x (λ a t. got a t)
    go (refused r) = refl
    go (got a t) = refl

pub bind : {A B : Type 0} {p : Reader A} {q : A → Reader B} {m : Copy} {k : A → Copy} {j : B → Copy} → Moves p m k → ((a : A) → Moves (q a) (k a) j) → Moves (read p q) m j
unfolding after
bind {A} {B} {p} {q} {m} {k} {j} f g = record { at = λ s. ap (λ (x : Read A). after x q) (f.at s) ∙ go (p s) }
  where
    go : (x : Read A) → after (after x (λ a t. got a (k a t))) q ≡ after (after x q) (λ b t. got b (j b t))
    go (refused r) = refl
    go (got a t) = (g a).at t

-- ---- fields
field_front : (l r : List ℕ) → field (length l) (l ++ r) ≡ got (number l) r
unfolding field
field_front l r =
    let h : length l ≤ length (l ++ r) = rw length-append (omega arith) in
    rw (le-leb (length l) (length (l ++ r)) h, take-append_seam l r, drop-append_seam l r)

field_is : (w : ℕ) (l r : List ℕ) → length l ≡ w → field w (l ++ r) ≡ got (number l) r
field_is w l r e = subst (λ (n : ℕ). field n (l ++ r) ≡ got (number l) r) e (field_front l r)

field_long : (w : ℕ) (s : List ℕ) → w ≤ length s → field w s ≡ got (number (take w s)) (drop w s)
unfolding field
field_long w s h = rw (le-leb w (length s) h)

field_short : (w : ℕ) (s : List ℕ) → length s < w → field w s ≡ refused 4
unfolding field
field_short w s h = rw (lt-leb w (length s) h)

pub field_moves : (w : ℕ) (k : ℕ → Copy) → ((n : ℕ) → Keeps (k n)) → Moves (field w) (kept w k) k
unfolding after kept
field_moves w k h = record { at = λ s. go s (leb w (length s)) refl }
  where
    go : (s : List ℕ) (b : Bool) → leb w (length s) ≡ b → field w (kept w k s) ≡ after (field w s) (λ a t. got a (k a t))
    go s true e =
        let l = leb-true w (length s) e in
        field_is w (take w s) (k (number (take w s)) (drop w s)) (length-take-le w s l) ∙ sym (ap (λ (x : Read ℕ). after x (λ a t. got a (k a t))) (field_long w s l))
    go s false e =
        let l = leb-false w (length s) e in
        field_short w (kept w k s) (subst (λ (n : ℕ). n < w) (sym (keeps_kept w k h s)) l) ∙ sym (ap (λ (x : Read ℕ). after x (λ a t. got a (k a t))) (field_short w s l))

limited_moves : (limit n : ℕ) (k : ℕ → Copy) → Moves (limited limit n) (k n) k
unfolding after limited
limited_moves limit n k = record { at = λ s. go s (leb n limit) }
  where
    go : (s : List ℕ) (b : Bool) → cond b (got n (k n s)) (refused 5) ≡ after (cond b (got n s) (refused 5)) (λ a t. got a (k a t))
    go s true = refl
    go s false = refl

pub within_moves : (all earlier n : ℕ) (k : ℕ → Copy) → Moves (job.within_total all earlier n) (k n) k
unfolding after job.within_total
within_moves all earlier n k = record { at = λ s. go s (leb (earlier + n) all) }
  where
    go : (s : List ℕ) (b : Bool) → cond b (got n (k n s)) (refused 5) ≡ after (cond b (got n s) (refused 5)) (λ a t. got a (k a t))
    go s true = refl
    go s false = refl

pub at_most_moves : (limit w : ℕ) (k : ℕ → Copy) → ((n : ℕ) → Keeps (k n)) → Moves (read (field w) (limited limit)) (kept w k) k
at_most_moves limit w k h = bind (field_moves w k h) (λ n. limited_moves limit n k)

-- one of two
if_moves : {A : Type 0} (b : Bool) (p q : Reader A) (k : Copy) → Moves p k (λ a. k) → Moves q k (λ a. k) → Moves (λ s. cond b (p s) (q s)) k (λ a. k)
if_moves true p q k f g = record { at = f.at }
if_moves false p q k f g = record { at = g.at }

got_moves : {A : Type 0} (a : A) (k : Copy) → Moves (λ s. got a s) k (λ b. k)
unfolding after
got_moves a k = record { at = λ s. refl }

refused_moves : {A : Type 0} (r : ℕ) (k : Copy) → Moves {A = A} (λ s. refused r) k (λ b. k)
unfolding after
refused_moves r k = record { at = λ s. refl }

pub flags_moves : (n : ℕ) (k : Copy) → Moves (job.flags_of n) k (λ f. k)
unfolding job.flags_of
flags_moves n k = record { at = (if_moves (leb n 7) _ _ k (got_moves _ k) (refused_moves 6 k)).at }

pub side_moves : (n : ℕ) (k : Copy) → Moves (job.side_of n) k (λ f. k)
unfolding job.side_of
side_moves n k = record {
  at = (if_moves (eqb n 0) _ _ k (got_moves North k) (if_moves (eqb n 1) _ _ k (got_moves East k) (if_moves (eqb n 2) _ _ k (got_moves South k) (if_moves (eqb n 3) _ _ k (got_moves West k) (refused_moves 6 k))))).at;
}

taken_moves : (low high x : Float) (k : Copy) → Moves (taken low high x) k (λ y. k)
unfolding taken
taken_moves low high x k = record { at = (if_moves (accepted low high x) _ _ k (got_moves x k) (refused_moves 7 k)).at }

abbrev of_pattern : Float → Float → ℕ → Reader Float
of_pattern low high b = taken low high (number_in_bits b)

-- a number is read from a copy as from the bytes
number_moves : (low high : Float) (k : Copy) → Keeps k → Moves (number_in low high) (f64 k) (λ x. k)
unfolding after f64
number_moves low high k h = record { at = λ s. go s (leb 8 (length s)) refl }
  where
    go : (s : List ℕ) (b : Bool) → leb 8 (length s) ≡ b → after (field 8 (f64 k s)) (of_pattern low high) ≡ after (after (field 8 s) (of_pattern low high)) (λ a t. got a (k t))
    go s true e =
        let l = leb-true 8 (length s) e in
        ap (λ (x : Read ℕ). after x (of_pattern low high)) (field_is 8 (number_field (take 8 s)) (k (drop 8 s)) (number_field_length (take 8 s) ∙ length-take-le 8 s l))
        ∙ ap (λ (x : Float). taken low high x (k (drop 8 s))) (number_field_number (take 8 s))
        ∙ (taken_moves low high (number_in_bits (number (take 8 s))) k).at (drop 8 s)
        ∙ sym (ap (λ (x : Read ℕ). after (after x (of_pattern low high)) (λ a t. got a (k t))) (field_long 8 s l))
    go s false e =
        let l = leb-false 8 (length s) e in
        ap (λ (x : Read ℕ). after x (of_pattern low high)) (field_short 8 (f64 k s) (subst (λ (n : ℕ). n < 8) (sym (keeps_f64 k h s)) l))
        ∙ sym (ap (λ (x : Read ℕ). after (after x (of_pattern low high)) (λ a t. got a (k t))) (field_short 8 s l))

-- with bit 2 of the flags set, 15 off the drafting grid
gridded_moves : (grid : Bool) (x : Float) (k : Copy) → Moves (gridded grid x) k (λ y. k)
unfolding gridded
gridded_moves grid x k = record { at = (if_moves grid _ _ k (if_moves (on_drafting_grid x) _ _ k (got_moves x k) (refused_moves 15 k)) (got_moves x k)).at }

pub number_field_moves : (grid : Bool) (low high : Float) (k : Copy) → Keeps k → Moves (read (number_in low high) (gridded grid)) (f64 k) (λ x. k)
number_field_moves grid low high k h = bind (number_moves low high k h) (λ x. gridded_moves grid x k)
