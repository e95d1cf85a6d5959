-- The x that the search finds is the best one: of all the numbers, as exact fractions, that lie between the bounds and in a stretch of every member, the largest for Input and the smallest for Output. Where it finds none there is none.
-- Assumes nothing.
use Rattle.std.specs.Prelude.{◌≡◌, ◌⊎◌, Bool, ◌&&◌, ℕ, ◌≤◌, T, Float, Option, Some, None}
use Rattle.std.proofs.Math.Path.{refl}
use Rattle.std.proofs.Common.{sym, ◌∙◌, subst, inl, inr, true≢false}
use Rattle.std.proofs.Math.Bool.{true, false, cond}
use mathlib.Core.List.{List, [], ◌∷◌, ◌++◌}
use Rattle.std.specs.Float.Ieee.{le, lt}
use Rattle.binary64.specs.Bools.{either}
use Rattle.binary64.specs.Order.{least, greatest}
use Rattle.binary64.specs.Value.{le_trans_finite, lt_not_le, least_finite, greatest_finite, least_le_left, least_le_right, le_greatest_left, le_greatest_right}
use Rattle.binary64.proofs.Fraction.{le→AtMostℚ}
use Rattle.binary64.specs.Rational.{Fraction, AtMostℚ, value}
use Rattle.geometry.specs.declared.Role.{Role}
use Rattle.geometry.specs.declared.Role.TheVariants.{Input, Output}
use Rattle.geometry.specs.Stretch.{holds}
use Rattle.sorting.specs.Sort.{sort_key, sorted}
use Rattle.sorting.specs.Sorted.{every_in, every_map, in_left, in_last, every_last, every_append, in_sorted, every_sorted, sorted_ordered, every_distinct, distinct_ordered, in_distinct}
use Rattle.sorting.specs.Lists.{In, Every}
use Rattle.search.specs.declared.Outcome.{Outcome}
use Rattle.search.specs.declared.Outcome.TheVariants.{Found, Nothing, Spent}
use Rattle.search.specs.declared.Bounds.{Bounds}
use Rattle.search.specs.Stretches.{all_runs}
use Rattle.search.specs.Search.{candidate, nearest, onto, falls, search_of}
use Rattle.search.proofs.Count.{accounted, Accounted, RanOut}
use Rattle.search.specs.Freely.{hits, common, candidates_onto, candidates, freely, price}
use Rattle.search.specs.Good.{Good, Holds, HoldsAll, HoldsSome, Real, RealStretch}
use Rattle.search.proofs.BestOrder.{upto_refl, upto_trans, upto_ℚ, aims, between, less_far, less_far_ind, less_far_left, less_far_right, not_above, key_upto, key_once, both, common_holds, First, first_common}
use Rattle.search.specs.BestOrder.{UpToℚ, Answers, UpTo, far, Fair}

-- ---- (a) the candidates
module _ (role : Role) (b : Bounds) (fair : Fair role b) where
  -- the candidate of a stretch
  abbrev cut_low : Float → Float
  cut_low low = greatest low b.minimum

  abbrev cut_high : Float → Float
  cut_high high = least high b.maximum

  abbrev of : Option (Float × Float) → Float
  of None = b.desired
  of (Some (low, high)) = nearest role (cut_low low) (cut_high high) b.desired

  cut_low_real : (low : Float) → Real low → Real (cut_low low)
  cut_low_real low r = either (lt low b.minimum) b.minimum low Real fair.minimum_real r

  cut_high_real : (high : Float) → Real high → Real (cut_high high)
  cut_high_real high r = either (lt b.maximum high) b.maximum high Real fair.maximum_real r

  nearest_ind : (r : Role) (low high desired : Float) (P : Float → Type 0) → P low → P high → P desired → P (nearest r low high desired)
  nearest_ind Input low high desired P p q d = either (lt desired high) desired high P d q
  nearest_ind Output low high desired P p q d = either (lt low desired) desired low P d p

  of_real : (s : Option (Float × Float)) → RealStretch s → Real (of s)
  of_real None r = fair.desired_real
  of_real (Some (low, high)) r = nearest_ind role (cut_low low) (cut_high high) b.desired Real (cut_low_real low r.0) (cut_high_real high r.1) fair.desired_real

  -- it is no better than the stretch's better end
  of_upto : (s low high : Float) → Real low → Real high → UpTo role (nearest role (cut_low low) (cut_high high) b.desired) (far role low high)
  of_upto s low high r t = go role (cut_low_real low r) (cut_high_real high t)
    where
      go : (k : Role) → Real (cut_low low) → Real (cut_high high) → UpTo k (nearest k (cut_low low) (cut_high high) b.desired) (far k low high)
      go Input p q =
          le_trans_finite (least (cut_high high) b.desired) (cut_high high) high (least_finite (cut_high high) b.desired q.0 fair.desired_real.0) q.0 t.0
          (least_le_left (cut_high high) b.desired q.0 fair.desired_real.0) (least_le_left high b.maximum t.0 fair.maximum_real.0)
      go Output p q =
          le_trans_finite low (cut_low low) (greatest (cut_low low) b.desired) r.0 p.0 (greatest_finite (cut_low low) b.desired p.0 fair.desired_real.0)
          (le_greatest_left low b.minimum r.0 fair.minimum_real.0) (le_greatest_left (cut_low low) b.desired p.0 fair.desired_real.0)

  -- every candidate is a number between the bounds
  abbrev Bounded : Float → Type 0
  Bounded x = Real x × T (le b.minimum x) × T (le x b.maximum)

  desired_bounded : Bounded b.desired
  desired_bounded = (fair.desired_real, (aims role b fair).from, (aims role b fair).to)

  of_bounded : (low high : Float) → Real low → Real high → T (le (cut_low low) (cut_high high)) → Bounded (nearest role (cut_low low) (cut_high high) b.desired)
  of_bounded low high r t h =
      let p = cut_low_real low r in
      let q = cut_high_real high t in
      let m = fair.minimum_real in
      let n = fair.maximum_real in
      let a : T (le b.minimum (cut_low low)) = le_greatest_right low b.minimum r.0 m.0 in
      let c : T (le (cut_high high) b.maximum) = least_le_right high b.maximum t.0 n.0 in
      nearest_ind role (cut_low low) (cut_high high) b.desired Bounded
      (p, a, le_trans_finite (cut_low low) (cut_high high) b.maximum p.0 q.0 n.0 h c)
      (q, le_trans_finite b.minimum (cut_low low) (cut_high high) m.0 p.0 q.0 a h, c)
      desired_bounded

  onto_bounded : (xs : List Float) (s : Option (Float × Float)) → Every Bounded xs → RealStretch s → Every Bounded (onto xs (candidate role b s))
  onto_bounded xs None e r = e
  onto_bounded xs (Some (low, high)) e r = go (lt (cut_high high) (cut_low low)) refl
    where
      go : (t : Bool) → lt (cut_high high) (cut_low low) ≡ t → Every Bounded (onto xs (cond t None (Some (of (Some (low, high))))))
      go true h = e
      go false h =
          every_last Bounded (of (Some (low, high))) xs e
          (of_bounded low high r.0 r.1 (not_above (cut_high high) (cut_low low) (cut_high_real high r.1) (cut_low_real low r.0) h))

  candidates_bounded : (xs : List Float) (ss : List (Option (Float × Float))) → Every Bounded xs → Every RealStretch ss → Every Bounded (candidates_onto role b xs ss)
  unfolding candidates_onto
  candidates_bounded xs [] e r = e
  candidates_bounded xs (s ∷ ss) e r = candidates_bounded (onto xs (candidate role b s)) ss (onto_bounded xs s e r.0) r.1

  in_onto : (x : Float) (xs : List Float) (s : Option (Float × Float)) → In x xs → In x (onto xs (candidate role b s))
  in_onto x xs None i = i
  in_onto x xs (Some (low, high)) i = go (lt (cut_high high) (cut_low low))
    where
      go : (t : Bool) → In x (onto xs (cond t None (Some (of (Some (low, high))))))
      go true = i
      go false = in_left x xs (of (Some (low, high)) ∷ []) i

  in_candidates : (x : Float) (xs : List Float) (ss : List (Option (Float × Float))) → In x xs → In x (candidates_onto role b xs ss)
  unfolding candidates_onto
  in_candidates x xs [] i = i
  in_candidates x xs (s ∷ ss) i = in_candidates x (onto xs (candidate role b s)) ss (in_onto x xs s i)

  -- q lies between the bounds
  module _ (q : Fraction) (above : AtMostℚ (value b.minimum) q) (below : AtMostℚ q (value b.maximum)) where
    desired_upto : UpToℚ role q b.desired
    desired_upto = go role (aims role b fair).aim
      where
        go : (k : Role) → UpTo k (far k b.minimum b.maximum) b.desired → UpToℚ k q b.desired
        go Input h = upto_ℚ Input q b.maximum b.desired fair.maximum_real fair.desired_real below h
        go Output h = upto_ℚ Output q b.minimum b.desired fair.minimum_real fair.desired_real above h

    low_below : (low : Float) → AtMostℚ (value low) q → AtMostℚ (value (cut_low low)) q
    low_below low h = either (lt low b.minimum) b.minimum low (λ (z : Float). AtMostℚ (value z) q) above h

    high_above : (high : Float) → AtMostℚ q (value high) → AtMostℚ q (value (cut_high high))
    high_above high h = either (lt b.maximum high) b.maximum high (λ (z : Float). AtMostℚ q (value z)) below h

    -- the candidate of a stretch that holds q is at least as good
    of_reaches : (low high : Float) → Holds q (Some (low, high)) → UpToℚ role q (nearest role (cut_low low) (cut_high high) b.desired)
    of_reaches low high h = go role desired_upto
      where
        go : (k : Role) → UpToℚ k q b.desired → UpToℚ k q (nearest k (cut_low low) (cut_high high) b.desired)
        go Input d = either (lt b.desired (cut_high high)) b.desired (cut_high high) (λ (z : Float). AtMostℚ q (value z)) d (high_above high h.1)
        go Output d = either (lt (cut_low low) b.desired) b.desired (cut_low low) (λ (z : Float). AtMostℚ (value z) q) d (low_below low h.0)

    -- and is among the candidates
    onto_of : (xs : List Float) (s : Option (Float × Float)) → RealStretch s → Holds q s → In (of s) (onto xs (candidate role b s))
    onto_of xs None r h = absurd h
    onto_of xs (Some (low, high)) r h = go (lt (cut_high high) (cut_low low)) refl
      where
        go : (t : Bool) → lt (cut_high high) (cut_low low) ≡ t → In (of (Some (low, high))) (onto xs (cond t None (Some (of (Some (low, high))))))
        go true e =
            let p = cut_low_real low r.0 in
            let c = cut_high_real high r.1 in
            absurd (lt_not_le (cut_high high) (cut_low low) c.0 p.0 (subst T (sym e) tt) (between (cut_low low) (cut_high high) q p c (low_below low h.0) (high_above high h.1)))
        go false e = in_last (of (Some (low, high))) xs

    covers : (xs : List Float) (ss : List (Option (Float × Float))) → Every RealStretch ss → Every (λ (s : Option (Float × Float)). Holds q s → In (of s) (candidates_onto role b xs ss)) ss
    unfolding candidates_onto
    covers xs [] r = tt
    covers xs (s ∷ ss) r = ((λ (h : Holds q s). in_candidates (of s) (onto xs (candidate role b s)) ss (onto_of xs s r.0 h)), covers (onto xs (candidate role b s)) ss r.1)

    -- a candidate of a member: whatever is no better than it, and no worse than q, lies in the member's stretch
    pub record Serves (cs : List Float) (m : List (Option (Float × Float))) : Type 0 where
      pub k : Float
      pub among : In k cs
      pub real : Real k
      pub reaches : UpToℚ role q k
      pub serves : (c : Float) → Real c → UpToℚ role q c → UpTo role c k → hits c m ≡ true

    stretch_serves : (low high c : Float) → Real low → Real high → Holds q (Some (low, high)) → Real c → UpToℚ role q c
        → UpTo role c (nearest role (cut_low low) (cut_high high) b.desired) → (le low c && le c high) ≡ true
    stretch_serves low high c r t h p d u =
        go role d (upto_trans role c (of (Some (low, high))) (far role low high) p (of_real (Some (low, high)) (r, t)) (far_real role) u (of_upto c low high r t))
      where
        far_real : (k : Role) → Real (far k low high)
        far_real Input = t
        far_real Output = r

        go : (k : Role) → UpToℚ k q c → UpTo k c (far k low high) → (le low c && le c high) ≡ true
        go Input d w = both (le low c) (le c high) (between low c q r p h.0 d) w
        go Output d w = both (le low c) (le c high) w (between c high q p t d h.1)

    member : (cs : List Float) (m : List (Option (Float × Float))) → Every RealStretch m → Every (λ (s : Option (Float × Float)). Holds q s → In (of s) cs) m → HoldsSome q m → Serves cs m
    unfolding hits
    member cs [] r e h = absurd h
    member cs (None ∷ m) r e (inl h) = absurd h
    member cs (Some (low, high) ∷ m) r e (inl h) =
        record {
          k = of (Some (low, high));
          among = e.0 h;
          real = of_real (Some (low, high)) r.0;
          reaches = of_reaches low high h;
          serves = λ c p d u. rw (stretch_serves low high c r.0.0 r.0.1 h p d u);
        }
    member cs (s ∷ m) r e (inr i) =
        let t = member cs m r.1 e.1 i in
        record { k = t.k; among = t.among; real = t.real; reaches = t.reaches; serves = λ c p d u. go (holds c s) (hits c m) (t.serves c p d u) }
      where
        go : (t h : Bool) → h ≡ true → cond t true h ≡ true
        go true h e = refl
        go false h e = e

    -- a common candidate that is at least as good as q
    pub record Reached (cs : List Float) (ms : List (List (Option (Float × Float)))) (start : Float) : Type 0 where
      pub c : Float
      pub among : In c cs
      pub real : Real c
      pub reaches : UpToℚ role q c
      pub under : UpTo role c start
      pub shared : common c ms ≡ true

    reached : (cs : List Float) (ms : List (List (Option (Float × Float)))) (start : Float) → In start cs → Real start → UpToℚ role q start
        → Every (Every RealStretch) ms → Every (Every (λ (s : Option (Float × Float)). Holds q s → In (of s) cs)) ms → HoldsAll q ms → Reached cs ms start
    unfolding common
    reached cs [] start i r d e f h = record { c = start; among = i; real = r; reaches = d; under = upto_refl role start r; shared = refl }
    reached cs (m ∷ ms) start i r d e f h =
        let t = member cs m e.0 f.0 h.0 in
        let next = less_far role start t.k in
        let next_real : Real next = less_far_ind role start t.k Real r t.real in
        let u =
        reached cs ms next (less_far_ind role start t.k (λ (z : Float). In z cs) i t.among) next_real
        (less_far_ind role start t.k (λ (z : Float). UpToℚ role q z) d t.reaches) e.1 f.1 h.1 in
        let hit : hits u.c m ≡ true =
        t.serves u.c u.real u.reaches (upto_trans role u.c next t.k u.real next_real t.real u.under (less_far_right role start t.k r t.real)) in
        record {
          c = u.c;
          among = u.among;
          real = u.real;
          reaches = u.reaches;
          under = upto_trans role u.c next start u.real next_real r u.under (less_far_left role start t.k r t.real);
          shared = rw hit u.shared;
        }

every_split : {A : Type 0} (P : A → Type 0) (l m : List A) → Every P (l ++ m) → Every P l × Every P m
every_split P [] m e = (tt, e)
every_split P (x ∷ l) m e = let r = every_split P l m e.1 in ((e.0, r.0), r.1)

every_all_runs : (P : Option (Float × Float) → Type 0) (ms : List (List (Option (Float × Float)))) → Every P (all_runs ms) → Every (Every P) ms
unfolding all_runs
every_all_runs P [] e = tt
every_all_runs P (m ∷ ms) e = let r = every_split P m (all_runs ms) e in (r.0, every_all_runs P ms r.1)

all_runs_every : (P : Option (Float × Float) → Type 0) (ms : List (List (Option (Float × Float)))) → Every (Every P) ms → Every P (all_runs ms)
unfolding all_runs
all_runs_every P [] e = tt
all_runs_every P (m ∷ ms) e = every_append P m (all_runs ms) e.0 (all_runs_every P ms e.1)

module _ (role : Role) (b : Bounds) (ms : List (List (Option (Float × Float)))) (fair : Fair role b) (real : Every (Every RealStretch) ms) where
  abbrev all : List Float
  all = candidates_onto role b (b.desired ∷ []) (all_runs ms)

  abbrev key : Float → ℕ
  key = sort_key (falls role)

  all_bounded : Every (Bounded role b fair) all
  all_bounded = candidates_bounded role b fair (b.desired ∷ []) (all_runs ms) (desired_bounded role b fair, tt) (all_runs_every RealStretch ms real)

  all_real : Every Real all
  all_real = every_map (Bounded role b fair) Real all (λ x h. h.0) all_bounded

  tried_bounded : Every (Bounded role b fair) (candidates role b ms)
  tried_bounded = every_distinct key (Bounded role b fair) (sorted key all) (every_sorted key (Bounded role b fair) all all_bounded)

  -- for each q there is a common candidate, among those tried, that is at least as good
  tried_reaches : (q : Fraction) → Good b ms q → (c : Float) × In c (candidates role b ms) × Real c × UpToℚ role q c × (common c ms ≡ true)
  tried_reaches q g =
      let r =
      reached role b fair q g.above g.below all ms b.desired (in_candidates role b fair b.desired (b.desired ∷ []) (all_runs ms) (inl refl)) fair.desired_real
      (desired_upto role b fair q g.above g.below) real
      (every_all_runs (λ (s : Option (Float × Float)). Holds q s → In (of role b fair s) all) ms (covers role b fair q g.above g.below (b.desired ∷ []) (all_runs ms) (all_runs_every RealStretch ms real))) g.usable in
      (r.c, in_distinct key Real (key_once role) r.c (sorted key all) (every_sorted key Real all all_real) (in_sorted key r.c all r.among), r.real, r.reaches, r.shared)

  answers : (f : Outcome) → First key ms (candidates role b ms) f → Answers role b ms f
  answers (Found x) h =
      let w = every_in (Bounded role b fair) x (candidates role b ms) tried_bounded h.0 in (
        w.0,
        record {
          above = le→AtMostℚ b.minimum x fair.minimum_real.0 w.0.0 w.1;
          below = le→AtMostℚ x b.maximum w.0.0 fair.maximum_real.0 w.2;
          usable = common_holds x ms w.0 real h.1;
        },
        λ q g.
            let t = tried_reaches q g in
            let k = every_in (λ (y : Float). common y ms ≡ true → key x ≤ key y) t.0 (candidates role b ms) h.2 t.1 t.4 in
            upto_ℚ role q t.0 x t.2 w.0 t.3 (key_upto role x t.0 w.0 t.2 k),
      )
  answers Nothing h = λ q g. let t = tried_reaches q g in true≢false (sym t.4 ∙ every_in (λ (y : Float). common y ms ≡ false) t.0 (candidates role b ms) h t.1)
  answers Spent h = h

  -- what the search says when visits never run out
  pub best : Answers role b ms (freely role b ms)
  best = answers (freely role b ms) (first_common key ms (candidates role b ms) (distinct_ordered key (sorted key all) (sorted_ordered key all)))

  -- what the search says, if it is not spent, is the best x, or that there is none
  pub best_place : (v : ℕ) → ((search_of role b ms v).outcome ≡ Spent → ⊥) → Answers role b ms (search_of role b ms v).outcome
  best_place v paid = go (accounted role b ms v)
    where
      go : Accounted v (price role b ms) (freely role b ms) (search_of role b ms v) ⊎ RanOut v (price role b ms) (search_of role b ms v) → Answers role b ms (search_of role b ms v).outcome
      go (inl a) = subst (Answers role b ms) (sym a.says) best
      go (inr r) = absurd (paid r.says)

  -- and it says Nothing exactly if there is none
  pub nothing_if_none : (v : ℕ) → ((search_of role b ms v).outcome ≡ Spent → ⊥) → ((q : Fraction) → Good b ms q → ⊥) → (search_of role b ms v).outcome ≡ Nothing
  nothing_if_none v paid none = go (search_of role b ms v).outcome (best_place v paid)
    where
      go : (f : Outcome) → Answers role b ms f → f ≡ Nothing
      go (Found x) a = absurd (none (value x) a.1)
      go Nothing a = refl
      go Spent a = absurd a
