-- What the steps of the plan's reader come to. Assumes nothing.
use Prim.Native.Nat.{ℕ, suc, ◌+◌, ◌-◌, ◌<◌}
use mathlib.Core.Path.{◌≡◌, refl, sym, ap, ◌∙◌, subst}
use mathlib.Core.Bool.{Bool, true, false, ◌&&◌, cond, true≢false}
use mathlib.Core.List.{List, [], ◌∷◌, ◌++◌, map, append-nil, append_assoc}
use native.Mathlib.Omega.{arith}
use native.Mathlib.Numerals.{add-one}
use lib.Dec.{eqb, leb}
use lib.Ieee.{Float, binary64, of_bits}
use lib.Seq.{take-suc-set}
use lib.ListN.{length, take, set, length-drop}
use borrow.Author.Tests.{eq-eqb, ne_eqb, le-leb, lt-leb}
use Rattle.wire.specs.Bytes.{number}
use Rattle.wire.specs.Read.{Read, refused, got, after, give, field, list_of}
use Rattle.wire.specs.ReadLaws.{field_got, field_missed}
use Rattle.plan.specs.declared.Bound.{Bound}
use Rattle.plan.specs.declared.Bound.TheVariants.{None, At}
use Rattle.plan.specs.declared.Planned.{Planned}
use Rattle.plan.specs.Prepared.{x_of}
use Rattle.plan_bytes.specs.PlanBytes.{entry, versioned, body, rejected, taken, every_planned, plannable, settled, length_fits, read_plan}
use Rattle.refusal.specs.declared.Refusal.{Refusal}
use Rattle.refusal.specs.declared.Refusal.TheVariants.{PlannedNumber}
use Rattle.refusal.specs.Refusal.{refusal_number}
use Rattle.std.specs.Prelude.{◌≤◌, Result, Ok, Err, Option}
use Rattle.std.specs.Prelude as std
use Rattle.std.specs.Bool.{then_some}
use Rattle.std.specs.Option.{ok_or}
use Rattle.std.proofs.lemmas.List.{take_all}
use Rattle.std.proofs.lemmas.Slice.{take-put_mid}
use borrow.Rule.Slice.PartMut.{put_mid}
use Rattle.plan_reader.specs.Reading.{told_entry, judged, prefixed, SoFar, RowsAre, EntriesGot, BodyGot}

-- ---- entry after entry

prefixed_none : (r : Read (List Bound)) → prefixed [] r ≡ r
unfolding prefixed
prefixed_none (refused n) = refl
prefixed_none (got m t) = refl

prefixed_one : (l : List Bound) (x : Bound) (r : Read (List Bound)) → prefixed l (after r (λ m. give (x ∷ m))) ≡ prefixed (l ++ (x ∷ [])) r
unfolding prefixed after
prefixed_one l x (refused n) = refl
prefixed_one l x (got m t) = ap (λ (k : List Bound). got k t) (sym (append_assoc l (x ∷ []) m))

turned : (k : ℕ) (s : List ℕ) (x : Bound) (t : List ℕ) → entry s ≡ got x t → list_of (suc k) entry s ≡ after (list_of k entry t) (λ m. give (x ∷ m))
unfolding list_of after
turned k s x t e = rw e

stopped : (k : ℕ) (s : List ℕ) (r : ℕ) → entry s ≡ refused r → list_of (suc k) entry s ≡ refused r
unfolding list_of after
stopped k s r e = rw e

pub begun : (grid : Bool) (s : List ℕ) (n : ℕ) → SoFar grid s s n 0 true []
unfolding every_planned
begun grid s n = let z : n - 0 ≡ n = omega arith in record { list = []; goes = prefixed_none (list_of (n - 0) entry s) ∙ ap (λ (k : ℕ). list_of k entry s) z; passed = refl; stands = λ e. refl }

every_one : (grid : Bool) (l : List Bound) (x : Bound) → every_planned (plannable grid) (l ++ (x ∷ [])) ≡ (every_planned (plannable grid) l && every_planned (plannable grid) (x ∷ []))
unfolding every_planned
every_one grid [] x = refl
every_one grid (None ∷ l) x = every_one grid l x
every_one grid (At y ∷ l) x = ap (λ (b : Bool). plannable grid y && b) (every_one grid l x) ∙ regroup (plannable grid y) (every_planned (plannable grid) l) (every_planned (plannable grid) (x ∷ []))
  where
    regroup : (a b c : Bool) → (a && (b && c)) ≡ ((a && b) && c)
    regroup true b c = refl
    regroup false b c = refl

-- one turn: an entry is x, behind which u is left, and y is what is stored for it; k says whether it passes
module _ (grid : Bool) (s t u : List ℕ) (n i : ℕ) (passes : Bool) (xs ys : List Bound) (x y : Bound) (k : Bool) (f : SoFar grid s t n i passes xs) (before : i < n) where
  pub next : entry t ≡ got x u → k ≡ every_planned (plannable grid) (x ∷ []) → (k ≡ true → x ≡ y) → ys ≡ xs ++ (y ∷ []) → SoFar grid s u n (i + 1) (passes && k) ys
  next e p q w =
      let z : n - i ≡ suc (n - (i + 1)) = omega (arith, before) in
      let step : list_of (n - i) entry t ≡ after (list_of (n - (i + 1)) entry u) (λ m. give (x ∷ m)) = ap (λ (k : ℕ). list_of k entry t) z ∙ turned (n - (i + 1)) t x u e in
      record {
        list = f.list ++ (x ∷ []);
        goes = sym (prefixed_one f.list x (list_of (n - (i + 1)) entry u)) ∙ ap (prefixed f.list) (sym step) ∙ f.goes;
        passed = both f.passed p ∙ sym (every_one grid f.list x);
        stands = λ h. let k = split passes k h in ap (λ (l : List Bound). l ++ (x ∷ [])) (f.stands k.0) ∙ ap (λ (z : Bound). xs ++ (z ∷ [])) (q k.1) ∙ sym w;
      }
    where
      both : {a b c d : Bool} → a ≡ b → c ≡ d → (a && c) ≡ (b && d)
      both g h = cc

      split : (a b : Bool) → (a && b) ≡ true → (a ≡ true) × (b ≡ true)
      split true b h = (refl, h)
      split false b h = absurd (true≢false (sym h))

-- ---- the turns of the loop

rows_more : (l : List Planned) (i : ℕ) (y : Bound) → i < length l → map x_of (take (i + 1) (set l i (record { x = y }))) ≡ map x_of (take i l) ++ (y ∷ [])
rows_more l i y h =
    let e : take (i + 1) (set l i (record { x = y })) ≡ take i l ++ (record { x = y } ∷ []) = rw (add-one i, take-suc-set l i (record { x = y })) in
    ap (map x_of) e ∙ one (take i l)
  where
    one : (m : List Planned) → map x_of (m ++ (record { x = y } ∷ [])) ≡ map x_of m ++ (y ∷ [])
    one [] = refl
    one (p ∷ m) = ap (λ (k : List Bound). p.x ∷ k) (one m)

and_true : (a : Bool) → (a && true) ≡ a
and_true true = refl
and_true false = refl

and_false : (a : Bool) → (a && false) ≡ false
and_false true = refl
and_false false = refl

module _ (grid : Bool) (s t u : List ℕ) (n i : ℕ) (passes : Bool) (rows : List Planned) (f : SoFar grid s t n i passes (map x_of (take i rows))) (before : i < n) (room : i < length rows) where
  pub none_turn : told_entry (Ok std.None) u ≡ entry t → SoFar grid s u n (i + 1) passes (map x_of (take (i + 1) (set rows i (record { x = None }))))
  unfolding told_entry every_planned
  none_turn w =
      subst (λ (b : Bool). SoFar grid s u n (i + 1) b (map x_of (take (i + 1) (set rows i (record { x = None }))))) (and_true passes)
      (next grid s t u n i passes (map x_of (take i rows)) _ None None true f before (sym w) refl (λ h. refl) (rows_more rows i None room))

  number_turn : (b : ℕ) (y : Bound) (k : Bool) → told_entry (Ok (std.Some b)) u ≡ entry t → k ≡ plannable grid (of_bits binary64 b) → (k ≡ true → At (of_bits binary64 b) ≡ y)
      → SoFar grid s u n (i + 1) (passes && k) (map x_of (take (i + 1) (set rows i (record { x = y }))))
  unfolding told_entry every_planned
  number_turn b y k w p q =
      next grid s t u n i passes (map x_of (take i rows)) _ (At (of_bits binary64 b)) y k f before (sym w)
      (p ∙ sym (and_true (plannable grid (of_bits binary64 b)))) q (rows_more rows i y room)

  judged_is : (b : ℕ) (p : Bool) → plannable grid (of_bits binary64 b) ≡ p → judged grid b ≡ cond p (std.Some (of_bits binary64 b)) std.None
  judged_is b p e = rw e

  pub pass_turn : (b : ℕ) (y : Float) → told_entry (Ok (std.Some b)) u ≡ entry t → std.Some y ≡ judged grid b
      → SoFar grid s u n (i + 1) passes (map x_of (take (i + 1) (set rows i (record { x = At y }))))
  pass_turn b y w e = go (plannable grid (of_bits binary64 b)) refl
    where
      go : (p : Bool) → plannable grid (of_bits binary64 b) ≡ p → SoFar grid s u n (i + 1) passes (map x_of (take (i + 1) (set rows i (record { x = At y }))))
      go true h =
          let k : std.Some y ≡ std.Some (of_bits binary64 b) = e ∙ judged_is b true h in
          subst (λ (c : Bool). SoFar grid s u n (i + 1) c (map x_of (take (i + 1) (set rows i (record { x = At y }))))) (and_true passes) (number_turn b (At y) true w (sym h) (λ g. cc))
      go false h = let k : std.Some y ≡ std.None = e ∙ judged_is b false h in absurd (cc)

  pub fail_turn : (b : ℕ) → told_entry (Ok (std.Some b)) u ≡ entry t → std.None ≡ judged grid b
      → SoFar grid s u n (i + 1) false (map x_of (take (i + 1) (set rows i (record { x = None }))))
  fail_turn b w e = go (plannable grid (of_bits binary64 b)) refl
    where
      go : (p : Bool) → plannable grid (of_bits binary64 b) ≡ p → SoFar grid s u n (i + 1) false (map x_of (take (i + 1) (set rows i (record { x = None }))))
      go true h = let k : std.None ≡ std.Some (of_bits binary64 b) = e ∙ judged_is b true h in absurd (cc)
      go false h =
          subst (λ (c : Bool). SoFar grid s u n (i + 1) c (map x_of (take (i + 1) (set rows i (record { x = None }))))) (and_false passes) (number_turn b None false w (sym h) (λ g. absurd (true≢false (sym g))))

  pub bad_turn : (e : Refusal) → told_entry (Err e) u ≡ entry t → list_of n entry s ≡ refused (refusal_number e)
  unfolding told_entry prefixed
  bad_turn e w =
      let z : n - i ≡ suc (n - (i + 1)) = omega (arith, before) in
      let h : list_of (n - i) entry t ≡ refused (refusal_number e) = ap (λ (k : ℕ). list_of k entry t) z ∙ stopped (n - (i + 1)) t _ (sym w) in
      sym f.goes ∙ ap (prefixed f.list) h

-- the rows whose front was written
pub front_put : (n k : ℕ) (rows front : List Planned) → length front ≡ n → take n front ≡ take n (put_mid 0 k rows front)
front_put n k rows front e = let z : 0 ≤ length rows = omega arith in take_all n front (omega (arith, e)) ∙ sym (take-put_mid 0 k rows front n (omega (arith, e)) z)

-- the rows at the end, if all passed
pub ended : (grid : Bool) (s t : List ℕ) (n : ℕ) (passes : Bool) (rows : List Planned) (kept : Option (List Planned)) → SoFar grid s t n n passes (map x_of (take n rows))
    → kept ≡ then_some passes rows → EntriesGot grid s t n kept
unfolding prefixed list_of
ended grid s t n passes rows kept f e = record { list = f.list; is = is; are = subst (RowsAre grid n f.list) (sym e) (are passes f.passed f.stands) }
  where
    is : list_of n entry s ≡ got f.list t
    is =
        let z : n - n ≡ 0 = omega arith in
        sym f.goes ∙ ap (λ (k : ℕ). prefixed f.list (list_of k entry t)) z ∙ ap (λ (k : List Bound). got k t) (append-nil f.list)

    are : (p : Bool) → p ≡ every_planned (plannable grid) f.list → (p ≡ true → f.list ≡ map x_of (take n rows)) → RowsAre grid n f.list (then_some p rows)
    are true p q = (sym p, q refl)
    are false p q = sym p

-- ---- what stands before the entries

module _ (n : ℕ) (s : List ℕ) where
  pub no_version : (r : ℕ) → field 1 s ≡ refused r → body n s ≡ refused r
  unfolding after
  no_version r e = rw e

  module _ (v : ℕ) (t : List ℕ) (byte : field 1 s ≡ got v t) where
    pub wrong_version : (v ≡ 1 → ⊥) → body n s ≡ refused 17
    unfolding after versioned
    wrong_version h = rw (byte, ne_eqb v 1 h)

    module _ (one : v ≡ 1) where
      pub no_visits : (r : ℕ) → field 4 t ≡ refused r → body n s ≡ refused r
      unfolding after versioned
      no_visits r e = rw (byte, eq-eqb v 1 one, e)

      module _ (left : ℕ) (u : List ℕ) (word : field 4 t ≡ got left u) where
        pub no_entries : (r : ℕ) → list_of n entry u ≡ refused r → body n s ≡ refused r
        unfolding after versioned
        no_entries r e = rw (byte, eq-eqb v 1 one, word, e)

        pub body_read : (grid : Bool) (w : List ℕ) (rows : Option (List Planned)) → EntriesGot grid u w n rows → BodyGot grid s w n (record { left = left; rows = rows })
        unfolding after versioned
        body_read grid w rows e = record { list = e.list; is = rw (byte, eq-eqb v 1 one, word, e.is); are = e.are }

-- ---- the whole

module _ (grid : Bool) (n grant : ℕ) (s : List ℕ) where
  -- no length is there
  pub no_length : (r : ℕ) → field 4 s ≡ refused r → read_plan grid n grant s ≡ rejected 17
  unfolding read_plan length_fits
  no_length r e = rw (lt-leb 4 (length s) (field_missed 4 s r e))

  module _ (size : ℕ) (t : List ℕ) (word : field 4 s ≡ got size t) where
    behind : length s - 4 ≡ length t
    behind = let f = field_got 4 s size t word in sym (length-drop 4 s) ∙ ap length f.2

    pub wrong_length : (size ≡ length t → ⊥) → read_plan grid n grant s ≡ rejected 17
    unfolding read_plan length_fits
    wrong_length h =
        let f = field_got 4 s size t word in
        rw (le-leb 4 (length s) f.0, ne_eqb (number (take 4 s)) (length s - 4) (λ z. h (sym f.1 ∙ z ∙ behind)))

    module _ (right : size ≡ length t) where
      read_on : read_plan grid n grant s ≡ settled grid grant (body n t)
      unfolding read_plan length_fits
      read_on = let f = field_got 4 s size t word in rw (le-leb 4 (length s) f.0, eq-eqb (number (take 4 s)) (length s - 4) (f.1 ∙ right ∙ sym behind), f.2)

      pub broken : (r : ℕ) → body n t ≡ refused r → read_plan grid n grant s ≡ rejected 17
      unfolding settled
      broken r e = read_on ∙ rw e

      module _ (u : List ℕ) (left : ℕ) (rows : Option (List Planned)) (b : BodyGot grid t u n (record { left = left; rows = rows })) (empty : Bool) (none_left : empty ≡ eqb (length u) 0) where
        judged_as : (fits : Bool) → (empty && leb left grant) ≡ fits → read_plan grid n grant s ≡ cond fits (cond (every_planned (plannable grid) b.list) (taken (record { xs = b.list; left = left })) (rejected 18)) (rejected 17)
        unfolding settled
        judged_as fits e = read_on ∙ rw (b.is, ← none_left, e)

        pub plan_17 : (empty && leb left grant) ≡ false → read_plan grid n grant s ≡ rejected 17
        plan_17 e = judged_as false e

        pub plan_18 : (r : Refusal) → (empty && leb left grant) ≡ true → rows ≡ std.None → ◌≡◌ {A = Result (List Planned) Refusal} (Err r) (ok_or rows PlannedNumber) → read_plan grid n grant s ≡ rejected (refusal_number r)
        plan_18 r e h w = judged_as true e ∙ rw (subst (RowsAre grid n b.list) h b.are) (ap (λ (k : Refusal). rejected (refusal_number k)) (sym (why rows h w)))
          where
            why : (rows : Option (List Planned)) → rows ≡ std.None → ◌≡◌ {A = Result (List Planned) Refusal} (Err r) (ok_or rows PlannedNumber) → r ≡ PlannedNumber
            why std.None e w = cc
            why (std.Some l) e w = cc

        pub plan_0 : (ps : List Planned) → (empty && leb left grant) ≡ true → rows ≡ std.Some ps → read_plan grid n grant s ≡ taken (record { xs = map x_of (take n ps); left = left })
        plan_0 ps e h = let k = subst (RowsAre grid n b.list) h b.are in judged_as true e ∙ rw (k.0) (ap (λ (l : List Bound). taken (record { xs = l; left = left })) k.1)
