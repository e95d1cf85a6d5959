-- A sheet is refused with 10, 11 or 12 exactly where a turn stops it so, and otherwise with 14.
-- Assumes nothing.
use Prim.Native.Nat.{ℕ, zero, suc}
use Rattle.std.proofs.Math.Path.{◌≡◌, refl, sym, ap}
use Rattle.std.proofs.Common.{◌∙◌, subst, arith}
use Rattle.std.specs.Prelude.{◌⊎◌, Bool, Option, Some, None}
use Rattle.std.proofs.Math.Logic.{inl, inr}
use Rattle.std.proofs.Math.Bool.{true, false}
use mathlib.Core.List.{List, [], ◌∷◌, ◌++◌, append_assoc}
use Rattle.geometry.specs.Points.{Route}
use Rattle.board.specs.Board.{Board}
use Rattle.drawing.specs.Verdict.{Verdict, Clean, Refused}
use Rattle.drawing.specs.Check.{Test, due, barred, walk}
use Rattle.drawing.specs.Sheet.{Turn, Progress, Outcome, refused, going, after_check, after_rewrite, after_turn, drawn_at, rewritten_by, inside_check, contact_check, checked, turn, sheet_of}
use Rattle.promise.specs.Due.{AtTurn, Stops, ten, eleven, twelve}

-- ---- the numbers of an outcome

outcome_number : {m n v w : ℕ} → refused m v ≡ refused n w → m ≡ n
outcome_number {m} {n} {v} {w} e = ap (λ (o : Outcome). elim o [ refused k z ↦ k | going s ↦ 0 ]) e

not_refused : {A : Type 0} (s : Progress) (n v : ℕ) → going s ≡ refused n v → A
not_refused s n v e = let z : ◌≡◌ {A = ℕ} 0 1 = cc in absurd (omega arith)

-- ---- a turn that stops the sheet

module _ (b : Board) (allow : Bool) where
  sheet_append : (xs ys : List Turn) (s : Progress) → sheet_of b allow (xs ++ ys) s ≡ after_turn (sheet_of b allow xs s) (λ u. sheet_of b allow ys u)
  unfolding sheet_of after_turn
  sheet_append [] ys s = refl
  sheet_append (t ∷ xs) ys s = go (turn b allow t s) (λ u. sheet_append xs ys u)
    where
      go : (o : Outcome) → ((u : Progress) → sheet_of b allow (xs ++ ys) u ≡ after_turn (sheet_of b allow xs u) (λ w. sheet_of b allow ys w)) → after_turn o (λ u. sheet_of b allow (xs ++ ys) u) ≡ after_turn (after_turn o (λ u. sheet_of b allow xs u)) (λ u. sheet_of b allow ys u)
      go (refused n v) below = refl
      go (going u) below = below u

  stops_turn : (t : Turn) (s : Progress) (n : ℕ) → Stops b allow t s n → (v : ℕ) × (turn b allow t s ≡ refused n v)
  unfolding turn checked after_rewrite after_check
  stops_turn t s n (ten e) = (s.left, rw e)
  stops_turn t s n (twelve rs e v f) = (v, rw (e, f))
  stops_turn t s n (eleven rs e m f v g) = (v, rw (e, f, g))

  -- so is the sheet
  pub stops_sheet : (ts : List Turn) (first : Progress) (t : Turn) (s : Progress) → AtTurn b allow ts first t s → (n : ℕ) → Stops b allow t s n → (v : ℕ) × (sheet_of b allow ts first ≡ refused n v)
  unfolding sheet_of after_turn
  stops_sheet ts first t s a n h =
      let r = stops_turn t s n h in
      (r.0, ap (λ (l : List Turn). sheet_of b allow l first) a.are_turns ∙ sheet_append a.earlier (t ∷ a.later) first ∙ rw (a.went, r.1))

  -- ---- and the other way
  -- where a sheet that is refused stops
  pub record Stopped (ts : List Turn) (first : Progress) (n v : ℕ) : Type 0 where
    pub next : Turn
    pub standing : Progress
    pub at : AtTurn b allow ts first next standing
    pub stops : turn b allow next standing ≡ refused n v

  found : (earlier ts : List Turn) (first s : Progress) (n v : ℕ) → sheet_of b allow earlier first ≡ going s → sheet_of b allow ts s ≡ refused n v → Stopped (earlier ++ ts) first n v
  unfolding sheet_of after_turn
  found earlier [] first s n v e f = not_refused s n v f
  found earlier (t ∷ ts) first s n v e f = go (turn b allow t s) refl f (λ u g h. found (earlier ++ (t ∷ [])) ts first u n v g h)
    where
      on : (u : Progress) → turn b allow t s ≡ going u → sheet_of b allow (earlier ++ (t ∷ [])) first ≡ going u
      on u g = sheet_append earlier (t ∷ []) first ∙ rw (e, g)

      go : (o : Outcome) → turn b allow t s ≡ o → after_turn o (λ u. sheet_of b allow ts u) ≡ refused n v
          → ((u : Progress) → sheet_of b allow (earlier ++ (t ∷ [])) first ≡ going u → sheet_of b allow ts u ≡ refused n v → Stopped ((earlier ++ (t ∷ [])) ++ ts) first n v) → Stopped (earlier ++ (t ∷ ts)) first n v
      go (refused m w) g h below = record { next = t; standing = s; at = record { earlier = earlier; later = ts; are_turns = refl; went = e }; stops = g ∙ h }
      go (going u) g h below = subst (λ (l : List Turn). Stopped l first n v) (append_assoc earlier (t ∷ []) ts) (below u (on u g) h)

  -- a walk that fails has its own number or 14
  walk_number : (e : ℕ) (ts : List Test) (n r v : ℕ) → walk e ts n ≡ Refused r (record { 0 = v }) → (r ≡ e) ⊎ (r ≡ 14)
  unfolding walk
  walk_number e [] n r v h = let z : ◌≡◌ {A = ℕ} 0 1 = cc in absurd (omega arith)
  walk_number e (barred ∷ ts) n r v h = inl (sym (verdict_number h))
    where
      verdict_number : {q : ℕ} → Refused e (record { 0 = q }) ≡ Refused r (record { 0 = v }) → e ≡ r
      verdict_number h = cc
  walk_number e (due t ∷ ts) zero r v h = inr (let z : 14 ≡ r = cc in sym z)
  walk_number e (due true ∷ ts) (suc n) r v h = inl (let z : e ≡ r = cc in sym z)
  walk_number e (due false ∷ ts) (suc n) r v h = walk_number e ts n r v h

  -- a turn that is refused with no 14 stops with 10, 11 or 12
  turn_stops : (t : Turn) (s : Progress) (n v : ℕ) → (n ≡ 14 → ⊥) → turn b allow t s ≡ refused n v → Stops b allow t s n
  unfolding turn checked after_rewrite after_check
  turn_stops t s n v other e = at_rewrite (rewritten_by b t (drawn_at b t s) s.routes) refl e
    where
      own : (k r w : ℕ) (ts : List Test) (m : ℕ) → walk k ts m ≡ Refused r (record { 0 = w }) → refused r w ≡ refused n v → n ≡ k
      own k r w ts m f h = elim (walk_number k ts m r w f) [ inl x ↦ sym (outcome_number h) ∙ x | inr x ↦ absurd (other (sym (outcome_number h) ∙ x)) ]

      at_contact : (rs : List Route) → rewritten_by b t (drawn_at b t s) s.routes ≡ Some rs → (m : ℕ) → inside_check b t rs s.left ≡ Clean (record { 0 = m }) → (c : Verdict) → contact_check b allow t (drawn_at b t s) s.drawn rs m ≡ c
          → after_check c (λ left. going (record { routes = rs; drawn = s.drawn ++ (drawn_at b t s ∷ []); left = left })) ≡ refused n v → Stops b allow t s n
      at_contact rs r m i (Clean q) f h = not_refused _ n v h
      at_contact rs r m i (Refused k q) f h =
          let x = own 11 k q.0 _ m f h in
          let y : k ≡ 11 = outcome_number h ∙ x in
          subst (Stops b allow t s) (sym x) (eleven rs r m i q.0 (f ∙ ap (λ (z : ℕ). Refused z q) y))

      at_inside : (rs : List Route) → rewritten_by b t (drawn_at b t s) s.routes ≡ Some rs → (c : Verdict) → inside_check b t rs s.left ≡ c
          → after_check c (λ k. after_check (contact_check b allow t (drawn_at b t s) s.drawn rs k) (λ left. going (record { routes = rs; drawn = s.drawn ++ (drawn_at b t s ∷ []); left = left }))) ≡ refused n v → Stops b allow t s n
      at_inside rs r (Clean q) f h = at_contact rs r q.0 f (contact_check b allow t (drawn_at b t s) s.drawn rs q.0) refl h
      at_inside rs r (Refused k q) f h =
          let x = own 12 k q.0 _ s.left f h in
          let y : k ≡ 12 = outcome_number h ∙ x in
          subst (Stops b allow t s) (sym x) (twelve rs r q.0 (f ∙ ap (λ (z : ℕ). Refused z q) y))

      at_rewrite : (o : Option (List Route)) → rewritten_by b t (drawn_at b t s) s.routes ≡ o → after_rewrite o s.left (λ rs. checked b allow t (drawn_at b t s) s.drawn rs s.left) ≡ refused n v → Stops b allow t s n
      at_rewrite None r h = subst (Stops b allow t s) (outcome_number h) (ten r)
      at_rewrite (Some rs) r h = at_inside rs r (inside_check b t rs s.left) refl h

  -- THE THEOREM: a sheet that is refused, and not with 14, was stopped by a turn
  pub sheet_stops : (ts : List Turn) (first : Progress) (n v : ℕ) → (n ≡ 14 → ⊥) → sheet_of b allow ts first ≡ refused n v → (t : Turn) × (s : Progress) × AtTurn b allow ts first t s × Stops b allow t s n
  unfolding sheet_of
  sheet_stops ts first n v other e =
      let f = found [] ts first first n v refl e in
      (f.next, f.standing, f.at, turn_stops f.next f.standing n v other f.stops)
