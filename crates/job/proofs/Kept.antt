-- What every step of a reading keeps, its end keeps; and what each looking up gives, all of them give. Assumes nothing.
use Prim.Native.Nat.{ℕ, zero, suc, ◌+◌, ◌-◌, ◌*◌, ◌≤◌, ◌<◌}
use Rattle.std.specs.Prelude.{◌≡◌, refl, Bool, true, false, cond, eqb, leb, length, take, drop, get_or, Option, Some, None}
use Rattle.std.proofs.Math.Path.{sym, ap, subst}
use Rattle.std.proofs.Common.{◌∙◌, arith, length-append, length-drop, eqb-true, leb-true}
use mathlib.Core.List.{List, [], ◌∷◌, ◌++◌, map, append-nil, append_assoc, map-append}
use Rattle.binary64.specs.Bools.{both_true}
use Rattle.wire.specs.Bytes.{number}
use Rattle.wire.specs.Read.{refused, got, Reader, field, many}
use Rattle.wire.proofs.All.{All, all_one_more}
use Rattle.job.specs.Keys.{Key, same, known_then, place_from, each}
use Rattle.job.specs.LoopSteps.{Came, came, got_both}
use Rattle.job.specs.Job.{push}

-- ---- steps of a reading
module _ {A : Type 0} (p : A → Reader A) (P : A → List ℕ → Type 0) (step : (a : A) (s : List ℕ) (b : A) (t : List ℕ) → P a s → p a s ≡ got b t → P b t) where
  pub many_keeps : (n : ℕ) (a : A) (s : List ℕ) (b : A) (t : List ℕ) → P a s → many n p a s ≡ got b t → P b t
  unfolding many
  many_keeps zero a s b t h e =
      let x : a ≡ b = cc in
      let y : s ≡ t = cc in
      rw (← x, ← y) h
  many_keeps (suc n) a s b t h e =
      let c = came (p a s) (many n p) b t e in
      many_keeps n c.value c.rest b t (step a s c.value c.rest h c.first) c.second

-- a list that grew by pushes: each of it was read
pub push_step : {A : Type 0} (p : Reader A) (l : List A) (s : List ℕ) (m : List A) (t : List ℕ) → push p l s ≡ got m t → Came (p s) (λ a u. got (l ++ (a ∷ [])) u) m t
push_step p l s m t e = came (p s) (λ a u. got (l ++ (a ∷ [])) u) m t e

-- each record of w bytes is good
module _ {A : Type 0} (p : Reader A) (Q : A → Type 0) (w : ℕ) (good : (s : List ℕ) (a : A) (t : List ℕ) → p s ≡ got a t → Q a × (length s ≡ w + length t)) where
  -- the list so far, and how many bytes are left of those at the start
  pub record So (from : ℕ) (size : ℕ) (l : List A) (s : List ℕ) : Type 0 where
    pub all : All Q l
    pub bytes : from ≡ w * length l + length s + size

  grows : (n : ℕ) → w * (n + 1) ≡ w * n + w
  grows n = native.Mathlib.Nat.mul-add w n 1 ∙ ap (λ (z : ℕ). w * n + z) (native.Mathlib.Nat.mul-one w)

  so_as : (from size : ℕ) (l m : List A) (s t : List ℕ) → l ≡ m → s ≡ t → So from size l s → So from size m t
  so_as from size l m s t x y h = subst (λ (k : List A). So from size k t) x (subst (λ (u : List ℕ). So from size l u) y h)

  so_step : (from size : ℕ) (l : List A) (s : List ℕ) (m : List A) (t : List ℕ) → So from size l s → push p l s ≡ got m t → So from size m t
  so_step from size l s m t h e =
      let c = push_step p l s m t e in
      let q = got_both (l ++ (c.value ∷ [])) m c.rest t c.second in
      let g = good s c.value c.rest c.first in
      let x = grows (length l) in
      let y : length (l ++ (c.value ∷ [])) ≡ length l + 1 = simp length-append in
      let b = h.bytes in
      let d = g.1 in
      so_as from size (l ++ (c.value ∷ [])) m c.rest t q.0 q.1 (record { all = all_one_more Q l c.value h.all g.0; bytes = rw (y, x) (omega arith) })

  pub pushes_good : (n : ℕ) (from size : ℕ) (l : List A) (s : List ℕ) (m : List A) (t : List ℕ) → So from size l s → many n (push p) l s ≡ got m t → So from size m t
  pushes_good n from size l s m t h e = many_keeps (push p) (So from size) (so_step from size) n l s m t h e

-- how many were read
pub pushes_count : {A : Type 0} (p : Reader A) (n : ℕ) (l : List A) (s : List ℕ) (m : List A) (t : List ℕ) → many n (push p) l s ≡ got m t → length m ≡ length l + n
unfolding many
pushes_count p zero l s m t e =
    let x : l ≡ m = cc in
    let y = ap length x in
    omega arith
pushes_count p (suc n) l s m t e =
    let c = came (push p l s) (many n (push p)) m t e in
    let d = push_step p l s c.value c.rest c.first in
    let q = got_both (l ++ (d.value ∷ [])) c.value d.rest c.rest d.second in
    let y : length c.value ≡ length l + 1 = ap length (sym q.0) ∙ simp length-append in
    let z = pushes_count p n c.value c.rest m t c.second in
    omega arith

-- a field of w bytes takes them
pub field_takes : (w : ℕ) (s : List ℕ) (n : ℕ) (t : List ℕ) → field w s ≡ got n t → (w ≤ length s) × (length s ≡ w + length t)
unfolding field
field_takes w s n t e = go (leb w (length s)) refl e
  where
    go : (b : Bool) → leb w (length s) ≡ b → cond b (got (number (take w s)) (drop w s)) (refused 4) ≡ got n t → (w ≤ length s) × (length s ≡ w + length t)
    go true q h =
        let k = leb-true w (length s) q in
        let x : drop w s ≡ t = cc in
        let y = ap length x in
        let z = length-drop w s in
        (k, omega arith)
    go false q h = let z : ◌≡◌ {A = ℕ} 0 1 = cc in absurd (omega arith)

-- ---- looking up
pub known_came : {A B : Type 0} (x : Option A) (f : A → Option B) (b : B) → known_then x f ≡ Some b → (a : A) × (x ≡ Some a) × (f a ≡ Some b)
unfolding known_then
known_came None f b e = let z : ◌≡◌ {A = ℕ} 0 1 = cc in absurd (omega arith)
known_came (Some a) f b e = (a, refl, e)

module _ {A B : Type 0} (f : A → Option B) where
  -- what each one gives
  pub each_all : (P : A → Type 0) (Q : B → Type 0) → ((a : A) (b : B) → P a → f a ≡ Some b → Q b)
      → (l : List A) (out r : List B) → All P l → All Q out → each f l out ≡ Some r → All Q r
  unfolding each All
  each_all P Q step [] out r h k e =
      let x : out ≡ r = cc in
      subst (λ (z : List B). All Q z) x k
  each_all P Q step (a ∷ l) out r h k e =
      let c = known_came (f a) (λ b. each f l (out ++ (b ∷ []))) r e in
      each_all P Q step l (out ++ (c.0 ∷ [])) r h.1 (all_one_more Q out c.0 k (step a c.0 h.0 c.1)) c.2

  -- what each one keeps
  pub each_map : {C : Type 0} (g : B → C) (h : A → C) → ((a : A) (b : B) → f a ≡ Some b → g b ≡ h a)
      → (l : List A) (out r : List B) → each f l out ≡ Some r → map g r ≡ map g out ++ map h l
  unfolding each
  each_map g h step [] out r e =
      let x : out ≡ r = cc in
      ap (map g) (sym x) ∙ sym (append-nil (map g out))
  each_map g h step (a ∷ l) out r e =
      let c = known_came (f a) (λ b. each f l (out ++ (b ∷ []))) r e in
      each_map g h step l (out ++ (c.0 ∷ [])) r c.2
      ∙ ap (λ z. z ++ map h l) (map-append g out (c.0 ∷ []))
      ∙ append_assoc (map g out) (g c.0 ∷ []) (map h l)
      ∙ ap (λ z. map g out ++ (z ∷ map h l)) (step a c.0 c.1)

-- a place is one of the list, and the key stands there
pub place_inside : (j : ℕ) (k : Key) (ks : List Key) (i : ℕ) → place_from j k ks ≡ Some i → (j ≤ i) × (i < j + length ks)
unfolding place_from
place_inside j k [] i e = let z : ◌≡◌ {A = ℕ} 0 1 = cc in absurd (omega arith)
place_inside j k (l ∷ ks) i e = go (same l k) (λ h. place_inside (suc j) k ks i h) e
  where
    go : (b : Bool) → (place_from (suc j) k ks ≡ Some i → (suc j ≤ i) × (i < suc j + length ks)) → cond b (Some j) (place_from (suc j) k ks) ≡ Some i → (j ≤ i) × (i < j + suc (length ks))
    go true f h = let x : j ≡ i = cc in (omega arith, omega arith)
    go false f h = let r = f h in (omega arith, omega arith)

pub place_hits : (j : ℕ) (k : Key) (ks : List Key) (i : ℕ) (d : Key) → place_from j k ks ≡ Some i → get_or ks (i - j) d ≡ k
unfolding place_from
place_hits j k [] i d e = let z : ◌≡◌ {A = ℕ} 0 1 = cc in absurd (omega arith)
place_hits j k (l ∷ ks) i d e = go (same l k) refl (λ h. place_hits (suc j) k ks i d h) e
  where
    go : (b : Bool) → same l k ≡ b → (place_from (suc j) k ks ≡ Some i → get_or ks (i - suc j) d ≡ k) → cond b (Some j) (place_from (suc j) k ks) ≡ Some i → get_or (l ∷ ks) (i - j) d ≡ k
    go true q f h =
        let x : i - j ≡ 0 = let y : j ≡ i = cc in omega arith in
        let r = both_true (eqb l.0 k.0) (eqb l.1 k.1) q in
        let u = eqb-true l.0 k.0 r.0 in
        let v = eqb-true l.1 k.1 r.1 in
        rw x (pair l k u v)
      where
        pair : (a b : Key) → a.0 ≡ b.0 → a.1 ≡ b.1 → a ≡ b
        pair (a, a') (b, b') p p' = cc
    go false q f h =
        let r = place_inside (suc j) k ks i h in
        let x : i - j ≡ suc (i - suc j) = omega arith in
        rw x (f h)
