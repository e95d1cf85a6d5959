-- A plan that is written is read back; a plan that is taken has an entry for each bundle, visits within the grant and numbers of the format that pass 18; a plan of 32 entries has at most 297 bytes.
-- Assumes nothing.
use Rattle.std.specs.Prelude.{ℕ, zero, suc, ◌+◌, ◌-◌, ◌*◌, ◌^◌, ◌≤◌, ◌<◌, ◌≡◌, refl, Bool, true, false, ◌&&◌, cond, List, [], ◌∷◌, ◌++◌, eqb, leb, length, take, drop}
use Rattle.std.proofs.Common.{sym, ap, ◌∙◌, subst, append_assoc, append-nil, arith, length-append, take_at, drop_at, le-leb, eq-eqb, leb-true}
use Rattle.std.specs.Float.{binary64}
use Rattle.std.specs.Float.Ieee.{of_bits, to_bits}
use Rattle.std.specs.Float.Ieee.Bits.{of_bits-to_bits, of_bits-fits, to_bits-lt}
use Rattle.limits.specs.Limits.{max_bundles, plan_room}
use Rattle.sorting.specs.Lists.{Every}
use Rattle.wire.specs.Bytes.{number, bytes, number_bytes}
use Rattle.wire.proofs.BytesLaws.{bytes_length, number_back}
use Rattle.wire.specs.Read.{Read, refused, got, Reader, after, read, give, field, list_of}
use Rattle.answer.specs.Answer.{all_bytes}
use Rattle.answer.proofs.Back.{Real, field_back}
use Rattle.plan.specs.declared.Bound.{Bound}
use Rattle.plan.specs.declared.Bound.TheVariants.{None, At}
use Rattle.plan.specs.Plan.{Plan}
use Rattle.plan.proofs.CarriedNumbers.{OfBound}
use Rattle.plan_bytes.specs.PlanNumbers.{both}
use Rattle.plan_bytes.specs.PlanBytes.{entry_bytes, body_bytes, plan_bytes, marked, entry, versioned, body, rejected, taken, every_planned, plannable, settled, length_fits, read_plan}

-- ---- there and back

entry_back : (x : Bound) (rest : List ℕ) → OfBound Real x → entry (entry_bytes x ++ rest) ≡ got x rest
unfolding after entry_bytes marked
entry_back None rest f = rw (field_back 1 0 rest (omega arith))
entry_back (At x) rest f =
    rw (append_assoc (bytes 1 1) (number_bytes x) rest, field_back 1 1 (number_bytes x ++ rest) (omega arith), field_back 8 (to_bits binary64 x) rest (to_bits-lt binary64 x f), of_bits-to_bits binary64 x f)

entries_back : (xs : List Bound) (rest : List ℕ) → Every (OfBound Real) xs → list_of (length xs) entry (all_bytes entry_bytes xs ++ rest) ≡ got xs rest
unfolding list_of all_bytes after
entries_back [] rest h = refl
entries_back (x ∷ xs) rest h =
    rw (append_assoc (entry_bytes x) (all_bytes entry_bytes xs) rest, entry_back x (all_bytes entry_bytes xs ++ rest) h.0, entries_back xs rest h.1)

body_back : (p : Plan) → p.left < 4294967296 → Every (OfBound Real) p.xs → body (length p.xs) (body_bytes p) ≡ got p []
unfolding after body_bytes versioned
body_back p h f =
    let es = all_bytes entry_bytes p.xs in
    let e = entries_back p.xs [] f in
    let z : es ++ [] ≡ es = append-nil es in
    rw (field_back 1 1 (bytes 4 p.left ++ es) (omega arith), field_back 4 p.left es h, rw z at e)

-- ---- sizes

-- nine bytes at most for each bundle
entries_length : (xs : List Bound) → length (all_bytes entry_bytes xs) ≤ 9 * length xs
unfolding all_bytes entry_bytes
entries_length [] = omega arith
entries_length (None ∷ xs) =
    let h = entries_length xs in
    simp (length-append, bytes_length) (omega (arith, h))
entries_length (At x ∷ xs) =
    let h = entries_length xs in
    simp (length-append, bytes_length) (omega (arith, h))

body_length : (p : Plan) → length (body_bytes p) ≡ 5 + length (all_bytes entry_bytes p.xs)
unfolding body_bytes
body_length p = simp (length-append, bytes_length) (omega arith)

pub plan_length : (p : Plan) → length (plan_bytes p) ≡ 9 + length (all_bytes entry_bytes p.xs)
unfolding plan_bytes
plan_length p =
    let h = body_length p in
    simp (length-append, bytes_length) (omega (arith, h))

-- THE LARGEST PLAN: 297 bytes
pub plan_at_most : (p : Plan) → length p.xs ≤ max_bundles → length (plan_bytes p) ≤ plan_room
plan_at_most p h = omega (arith, plan_length p, entries_length p.xs)

-- a plan is longer than a notice, and its length is never that of a notice
pub plan_at_least : (p : Plan) → 9 ≤ length (plan_bytes p)
plan_at_least p = omega (arith, plan_length p)

length_back : (p : Plan) → length p.xs ≤ max_bundles → length_fits (plan_bytes p) ≡ true
unfolding length_fits plan_bytes
length_back p h =
    let n = length (body_bytes p) in
    let s = bytes 4 n ++ body_bytes p in
    let l : length s ≡ 4 + n = simp (length-append, bytes_length) (omega arith) in
    let m : 4 ≤ length s = omega (arith, l) in
    let k : n < 256 ^ 4 = omega (arith, body_length p, entries_length p.xs) in
    let e : number (take 4 s) ≡ n = ap number (take_at (bytes 4 n) (body_bytes p) 4 (bytes_length 4 n)) ∙ number_back 4 n k in
    let d : length s - 4 ≡ n = omega (arith, l) in
    rw (le-leb 4 (length s) m, e, d, eq-eqb n n refl)

body_behind : (p : Plan) → drop 4 (plan_bytes p) ≡ body_bytes p
unfolding plan_bytes
body_behind p = drop_at (bytes 4 (length (body_bytes p))) (body_bytes p) 4 (bytes_length 4 (length (body_bytes p)))

-- what is written is taken
pub record Written (grid : Bool) (bundles grant : ℕ) (p : Plan) : Type 0 where
  pub few : length p.xs ≤ max_bundles
  pub each : length p.xs ≡ bundles
  pub within : p.left ≤ grant
  pub small : p.left < 4294967296
  pub real : Every (OfBound Real) p.xs
  pub pass : every_planned (plannable grid) p.xs ≡ true

-- THE WAY BACK: a plan's bytes are read as that plan
pub plan_back : (grid : Bool) (bundles grant : ℕ) (p : Plan) → Written grid bundles grant p → read_plan grid bundles grant (plan_bytes p) ≡ taken p
unfolding read_plan settled
plan_back grid bundles grant p w =
    let e : body bundles (body_bytes p) ≡ got p [] = subst (λ (k : ℕ). body k (body_bytes p) ≡ got p []) w.each (body_back p w.small w.real) in
    rw (length_back p w.few, body_behind p, e, le-leb p.left grant w.within, w.pass)

-- ---- what is taken

no_refusal : {A : Type 0} (n : ℕ) (p : Plan) → rejected n ≡ taken p → A
no_refusal n p e = let z : ◌≡◌ {A = ℕ} 0 1 = cc in absurd (omega arith)

same_plan : (p q : Plan) → taken p ≡ taken q → p ≡ q
same_plan p q e = cc

-- a reading that was refused is none
stopped : {A B : Type 0} (n : ℕ) (a : A) (s : List ℕ) → refused n ≡ got a s → B
stopped n a s e = let z : ◌≡◌ {A = ℕ} 0 1 = cc in absurd (omega arith)

list_length : {A : Type 0} (n : ℕ) (p : Reader A) (s : List ℕ) (l : List A) (t : List ℕ) → list_of n p s ≡ got l t → length l ≡ n
unfolding list_of after
list_length zero p s l t e = let z : [] ≡ l = cc in ap length (sym z)
list_length {A} (suc n) p s l t e = one (p s) e (list_length n p)
  where
    two : (a : A) (u : List ℕ) (r : Read (List A)) → list_of n p u ≡ r → after r (λ m. give (a ∷ m)) ≡ got l t → ((s : List ℕ) (m : List A) (t : List ℕ) → list_of n p s ≡ got m t → length m ≡ n) → length l ≡ suc n
    two a u (refused k) f e h = stopped k l t e
    two a u (got m v) f e h = let z : a ∷ m ≡ l = cc in ap length (sym z) ∙ ap suc (h u m v f)

    one : (r : Read A) → after r (λ a. read (list_of n p) (λ m. give (a ∷ m))) ≡ got l t → ((s : List ℕ) (m : List A) (t : List ℕ) → list_of n p s ≡ got m t → length m ≡ n) → length l ≡ suc n
    one (refused k) e h = stopped k l t e
    one (got a u) e h = two a u (list_of n p u) refl e h

-- what holds of every list of so many entries holds of a plan's
body_holds : (Q : List Bound → Type 0) (bundles : ℕ) → ((s : List ℕ) (xs : List Bound) (t : List ℕ) → list_of bundles entry s ≡ got xs t → Q xs) → (s : List ℕ) (p : Plan) (t : List ℕ) → body bundles s ≡ got p t → Q p.xs
unfolding versioned after
body_holds Q bundles holds s p t e = one (field 1 s) e
  where
    one : (r : Read ℕ) → after r (versioned bundles) ≡ got p t → Q p.xs
    one (refused k) e = stopped k p t e
    one (got v u) e = two (eqb v 1) e
      where
        three : (r : Read ℕ) → after r (λ left. read (list_of bundles entry) (λ xs. give (record { xs = xs; left = left }))) ≡ got p t → Q p.xs
        three (refused k) e = stopped k p t e
        three (got left w) e = four (list_of bundles entry w) refl e
          where
            four : (r : Read (List Bound)) → list_of bundles entry w ≡ r → after r (λ xs. give (record { xs = xs; left = left })) ≡ got p t → Q p.xs
            four (refused k) f e = stopped k p t e
            four (got xs x) f e = let z : xs ≡ p.xs = cc in subst Q z (holds w xs x f)

        two : (b : Bool) → cond b (after (field 4 u) (λ left. read (list_of bundles entry) (λ xs. give (record { xs = xs; left = left })))) (refused 17) ≡ got p t → Q p.xs
        two true e = three (field 4 u) e
        two false e = stopped 17 p t e

-- a number that is read is one of the format
entry_real : (s : List ℕ) (x : Bound) (t : List ℕ) → entry s ≡ got x t → OfBound Real x
unfolding marked after
entry_real s x t e = one (field 1 s) e
  where
    number : (r : Read ℕ) → after r (λ b. give (At (of_bits binary64 b))) ≡ got x t → OfBound Real x
    number (refused k) e = stopped k x t e
    number (got b u) e = let z : At (of_bits binary64 b) ≡ x = cc in subst (OfBound Real) z (of_bits-fits binary64 b)

    none : (u : List ℕ) → got None u ≡ got x t → OfBound Real x
    none u e = let z : None ≡ x = cc in subst (OfBound Real) z tt

    two : (m : ℕ) (u : List ℕ) (c d : Bool) → cond c (got None u) (cond d (after (field 8 u) (λ b. give (At (of_bits binary64 b)))) (refused 17)) ≡ got x t → OfBound Real x
    two m u true d e = none u e
    two m u false true e = number (field 8 u) e
    two m u false false e = stopped 17 x t e

    one : (r : Read ℕ) → after r marked ≡ got x t → OfBound Real x
    one (refused k) e = stopped k x t e
    one (got m u) e = two m u (eqb m 0) (eqb m 1) e

list_every : {A : Type 0} (P : A → Type 0) (p : Reader A) → ((s : List ℕ) (a : A) (t : List ℕ) → p s ≡ got a t → P a) → (n : ℕ) (s : List ℕ) (l : List A) (t : List ℕ) → list_of n p s ≡ got l t → Every P l
unfolding list_of after
list_every P p holds zero s l t e = let z : [] ≡ l = cc in subst (Every P) z tt
list_every {A} P p holds (suc n) s l t e = one (p s) refl e (list_every P p holds n)
  where
    two : (a : A) (u : List ℕ) → P a → (r : Read (List A)) → list_of n p u ≡ r → after r (λ m. give (a ∷ m)) ≡ got l t → ((s : List ℕ) (m : List A) (t : List ℕ) → list_of n p s ≡ got m t → Every P m) → Every P l
    two a u q (refused k) f e h = stopped k l t e
    two a u q (got m v) f e h = let z : a ∷ m ≡ l = cc in subst (Every P) z (q, h u m v f)

    one : (r : Read A) → p s ≡ r → after r (λ a. read (list_of n p) (λ m. give (a ∷ m))) ≡ got l t → ((s : List ℕ) (m : List A) (t : List ℕ) → list_of n p s ≡ got m t → Every P m) → Every P l
    one (refused k) f e h = stopped k l t e
    one (got a u) f e h = two a u (holds s a u f) (list_of n p u) refl e h

pub record Fair (grid : Bool) (bundles grant : ℕ) (p : Plan) : Type 0 where
  pub each : length p.xs ≡ bundles
  pub within : p.left ≤ grant
  pub real : Every (OfBound Real) p.xs
  pub pass : every_planned (plannable grid) p.xs ≡ true

-- a plan that is taken fits the job
pub taken_fair : (grid : Bool) (bundles grant : ℕ) (s : List ℕ) (p : Plan) → read_plan grid bundles grant s ≡ taken p → Fair grid bundles grant p
unfolding read_plan settled
taken_fair grid bundles grant s p e = one (length_fits s) e
  where
    three : (q : Plan) (t : List ℕ) → body bundles (drop 4 s) ≡ got q t → (c : Bool) → (eqb (length t) 0 && leb q.left grant) ≡ c → (d : Bool) → every_planned (plannable grid) q.xs ≡ d
        → cond c (cond d (taken q) (rejected 18)) (rejected 17) ≡ taken p → Fair grid bundles grant p
    three q t f true g true h e =
        let z : q ≡ p = same_plan q p e in
        subst (Fair grid bundles grant) z
        (record { each = body_holds (λ xs. length xs ≡ bundles) bundles (list_length bundles entry) (drop 4 s) q t f; real = body_holds (Every (OfBound Real)) bundles (list_every (OfBound Real) entry entry_real bundles) (drop 4 s) q t f; within = leb-true q.left grant (both (eqb (length t) 0) (leb q.left grant) g).1; pass = h })
    three q t f true g false h e = no_refusal 18 p e
    three q t f false g d h e = no_refusal 17 p e

    two : (r : Read Plan) → body bundles (drop 4 s) ≡ r → settled grid grant r ≡ taken p → Fair grid bundles grant p
    two (refused k) f e = no_refusal 17 p e
    two (got q t) f e = three q t f (eqb (length t) 0 && leb q.left grant) refl (every_planned (plannable grid) q.xs) refl e

    one : (b : Bool) → cond b (settled grid grant (body bundles (drop 4 s))) (rejected 17) ≡ taken p → Fair grid bundles grant p
    one true e = two (body bundles (drop 4 s)) refl e
    one false e = no_refusal 17 p e
