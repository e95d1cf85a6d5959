-- Routes copied into rows of their own, plus zeros for minus zeros: what a store adds, that the copies are the routes, and that a search of them is the search of the routes.
-- Assumes nothing.
use Rattle.std.specs.Prelude.{◌≡◌, Bool, true, false, not, ◌&&◌, cond, List, [], ◌∷◌, ◌++◌, ℕ, zero, suc, ◌+◌, ◌-◌, ◌*◌, ◌≤◌, ◌<◌, leb, eqb, length, take, drop, get_or, set, Float, Option}
use Rattle.std.proofs.Math.Path.{refl}
use Rattle.std.proofs.Common.{sym, ◌∙◌, ap, subst, true≢false, arith, add-zero, length-append, get_or-set_same, get_or-set_other, length-take-le, leb-true, le-leb, eqb-true}
use Rattle.std.proofs.lemmas.List.{length-map}
use Rattle.std.proofs.Math.ListN.{get_or-map}
use Rattle.std.proofs.Math.Seq.{take-append_seam}
use Rattle.std.specs.Float.{nan}
use Rattle.std.specs.Float.Ieee.{eq}
use Rattle.limits.specs.Limits.{max_bundle_members, max_route_points, max_points, max_tap_visits, route_numbers, member_numbers}
use Rattle.binary64.specs.Bools.{both_true}
use Rattle.binary64.specs.Accepted.{plus_zero}
use Rattle.binary64.proofs.Kind.{plus_zero_again}
use Rattle.geometry.specs.declared.Point.{Point}
use Rattle.geometry.specs.Points.{point_at, points_from}
use Rattle.search.specs.Stretches.{members, routes}
use Rattle.search.specs.declared.Bounds.{Bounds}
use Rattle.search.specs.Search.{common_xs}
use Rattle.search_calls.specs.declared.SearchAnswer.{SearchAnswer}
use Rattle.search_calls.specs.Entry.{plus_zeros, places_fit, counts_fit, refusal, role_of, Said, said, refused, bounds_fit, collector_bounds_fit, search_room, search_number, search_says, promotion_room, promotion_number, promotion_says, promoted, Replied, Untouched}
use Rattle.search_calls.specs.Copied.{windows_fit, Fitting, Put, Copied, SameCall}
use Rattle.search_calls.proofs.RefusalSteps.{windows, Promise}

-- ---- one route
pub put_none : (points : List Float) (from : ℕ) (copy : List Float) (at : ℕ) → Put points from 0 copy copy at
put_none points from copy at = record { put = λ j h. absurd (omega arith); earlier = λ j h. refl }

either : {P : Type 0} (a b : ℕ) → (a < b → P) → (a ≡ b → P) → (b < a → P) → P
either zero zero f g h = g refl
either zero (suc b) f g h = f (omega arith)
either (suc a) zero f g h = h (omega arith)
either (suc a) (suc b) f g h = either a b (λ l. f (omega arith)) (λ e. g (ap suc e)) (λ l. h (omega arith))

pub put_more : (points : List Float) (from i : ℕ) (before now : List Float) (at : ℕ) (x : Float) → Put points from i before now at → at + i < length now → x ≡ plus_zero (get_or points (from + i) nan)
    → Put points from (i + 1) before (set now (at + i) x) at
put_more points from i before now at x p h e = record {
  put = λ j k. either j i
      (λ l. get_or-set_other now (at + i) (at + j) x nan (λ z. omega arith) ∙ p.put j l)
      (λ z. subst (λ (n : ℕ). get_or (set now (at + i) x) (at + n) nan ≡ plus_zero (get_or points (from + n) nan)) (sym z) (get_or-set_same now (at + i) x nan h ∙ e))
      (λ l. absurd (omega arith));
  earlier = λ j k. get_or-set_other now (at + i) j x nan (λ z. omega arith) ∙ p.earlier j k;
}

pub put_all : (points : List Float) (from i n : ℕ) (before now : List Float) (at : ℕ) → Put points from i before now at → i ≡ n → Put points from n before now at
put_all points from i n before now at p e = subst (λ (k : ℕ). Put points from k before now at) e p

-- ---- all routes
pub copied_none : (points : List Float) (starts counts : List ℕ) (copy : List Float) (rows : List ℕ) → Copied points starts counts 0 copy rows
copied_none points starts counts copy rows = record { rows_are = λ i h. absurd (omega arith); numbers_are = λ i h. absurd (omega arith) }

module _ (points : List Float) (starts counts : List ℕ) (m : ℕ) (copy copy' : List Float) (rows : List ℕ) where
  pub copied_more : Copied points starts counts m copy rows → ((i : ℕ) → i < m + 1 → get_or counts i 0 ≤ max_route_points) → m < length rows
      → Put points (2 * get_or starts m 0) (2 * get_or counts m 0) copy copy' (route_numbers * m) → Copied points starts counts (m + 1) copy' (set rows m (max_route_points * m))
  copied_more t short h p = record {
    rows_are = λ i k. either i m
        (λ l. get_or-set_other rows m i (max_route_points * m) 0 (λ z. omega arith) ∙ t.rows_are i l)
        (λ z. subst (λ (n : ℕ). get_or (set rows m (max_route_points * m)) n 0 ≡ max_route_points * n) (sym z) (get_or-set_same rows m (max_route_points * m) 0 h))
        (λ l. absurd (omega arith));
    numbers_are = λ i k j q. either i m
        (λ l. let s = short i k in p.earlier (route_numbers * i + j) (omega arith) ∙ t.numbers_are i l j q)
        (λ z. subst (λ (n : ℕ). j < 2 * get_or counts n 0 → get_or copy' (route_numbers * n + j) nan ≡ plus_zero (get_or points (2 * get_or starts n 0 + j) nan)) (sym z) (p.put j) q)
        (λ l. absurd (omega arith));
  }

pub copied_all : (points : List Float) (starts counts : List ℕ) (m n : ℕ) (copy : List Float) (rows : List ℕ) → Copied points starts counts m copy rows → m ≡ n → Copied points starts counts n copy rows
copied_all points starts counts m n copy rows t e = subst (λ (k : ℕ). Copied points starts counts k copy rows) e t

-- ---- the copies are the routes
plus_nan : plus_zero nan ≡ nan
plus_nan = unfold plus_zero in unfold eq in refl

pub plus_at : (points : List Float) (i : ℕ) → get_or (plus_zeros points) i nan ≡ plus_zero (get_or points i nan)
plus_at points i = subst (λ (d : Float). get_or (plus_zeros points) i d ≡ plus_zero (get_or points i nan)) plus_nan (get_or-map plus_zero points i nan)

points_same : (p q : List Float) (s t c : ℕ) → ((j : ℕ) → j < 2 * c → get_or p (2 * s + j) nan ≡ get_or q (2 * t + j) nan) → points_from p s c ≡ points_from q t c
unfolding points_from point_at
points_same p q s t zero h = refl
points_same p q s t (suc c) h =
    let x : get_or p (2 * s) nan ≡ get_or q (2 * t) nan = rw (add-zero (2 * s), add-zero (2 * t)) at (h 0 (omega arith)) in
    let y : get_or p (2 * s + 1) nan ≡ get_or q (2 * t + 1) nan = h 1 (omega arith) in
    let r = points_same p q (suc s) (suc t) c (λ j l.
    let a : 2 * suc s + j ≡ 2 * s + (2 + j) = omega arith in
    let b : 2 * suc t + j ≡ 2 * t + (2 + j) = omega arith in
    ap (λ (n : ℕ). get_or p n nan) a ∙ h (2 + j) (omega arith) ∙ sym (ap (λ (n : ℕ). get_or q n nan) b)) in
    rw (x, y, r)

routes_same : (p q : List Float) (ss ts cs : List ℕ) → length ss ≡ length ts → ((i : ℕ) → i < length ss → points_from p (get_or ss i 0) (get_or cs i 0) ≡ points_from q (get_or ts i 0) (get_or cs i 0)) → routes p ss cs ≡ routes q ts cs
unfolding routes
routes_same p q [] [] cs e h = refl
routes_same p q [] (t ∷ ts) cs e h = absurd (omega arith)
routes_same p q (s ∷ ss) [] cs e h = absurd (omega arith)
routes_same p q (s ∷ ss) (t ∷ ts) [] e h = refl
routes_same p q (s ∷ ss) (t ∷ ts) (c ∷ cs) e h = rw (h 0 (omega arith), routes_same p q ss ts cs (omega arith) (λ i l. h (suc i) (omega arith)))

-- rows written over the front of others
pub record Front (n : ℕ) (old new : List ℕ) : Type 0 where
  pub within : n ≤ length (new ++ drop n old)
  pub is : take n (new ++ drop n old) ≡ new
  pub size : length new ≡ n

pub rows_front : (n : ℕ) (old new : List ℕ) → n ≤ length old → length new ≡ length (take n old) → Front n old new
rows_front n old new h e =
    let l : length new ≡ n = e ∙ length-take-le n old h in
    record {
      within = omega (arith, length-append new (drop n old), l);
      is = subst (λ (k : ℕ). take k (new ++ drop n old) ≡ new) l (take-append_seam new (drop n old));
      size = l;
    }

-- ---- what the test on places and counts says
each_short : (counts : List ℕ) (left : ℕ) → counts_fit left counts ≡ true → (m : ℕ) → m < length counts → get_or counts m 0 ≤ max_route_points
unfolding counts_fit
each_short [] left e m h = absurd (omega arith)
each_short (c ∷ cs) left e zero h = leb-true c max_route_points (both_true (leb c max_route_points) (leb c left) (both_true (leb c max_route_points && leb c left) (counts_fit (left - c) cs) e).0).0
each_short (c ∷ cs) left e (suc m) h = each_short cs (left - c) (both_true (leb c max_route_points && leb c left) (counts_fit (left - c) cs) e).1 m (omega arith)

pub fitting : (points : List Float) (starts counts : List ℕ) → windows_fit points starts counts ≡ true → Fitting points starts counts
unfolding windows_fit
fitting points starts counts e =
    let a = both_true (places_fit points starts counts) (leb (length starts) max_bundle_members && counts_fit max_points counts) e in
    let b = both_true (leb (length starts) max_bundle_members) (counts_fit max_points counts) a.1 in
    let w = windows points starts counts a.0 in
    record {
      placed = a.0;
      at_places = w;
      few = leb-true (length starts) max_bundle_members b.0;
      short = λ m h. each_short counts max_points b.1 m (subst (λ (k : ℕ). m < k) w.paired h);
    }

-- ---- places hang on the length alone
places_plus : (points : List Float) (starts counts : List ℕ) → places_fit (plus_zeros points) starts counts ≡ places_fit points starts counts
unfolding places_fit
places_plus points [] [] = refl
places_plus points [] (c ∷ cs) = refl
places_plus points (s ∷ ss) [] = refl
places_plus points (s ∷ ss) (c ∷ cs) = rw (length-map points plus_zero, places_plus points ss cs)

rows_fit : (copy : List Float) (rows counts : List ℕ) → length rows ≡ length counts → ((m : ℕ) → m < length rows → 2 * (get_or rows m 0 + get_or counts m 0) ≤ length copy) → places_fit copy rows counts ≡ true
unfolding places_fit
rows_fit copy [] [] e h = refl
rows_fit copy [] (c ∷ cs) e h = absurd (omega arith)
rows_fit copy (r ∷ rs) [] e h = absurd (omega arith)
rows_fit copy (r ∷ rs) (c ∷ cs) e h = rw (le-leb (2 * (r + c)) (length copy) (h 0 (omega arith)), rows_fit copy rs cs (omega arith) (λ m l. h (suc m) (omega arith)))

-- ---- a refusal looks at places, counts and routes alone
refusal_same : (room : Bool) (p q : List Float) (ss ts cs : List ℕ) (role : ℕ) (pitch : Float) (b : Bool) (granted : ℕ) → places_fit p ss cs ≡ places_fit q ts cs → length ss ≡ length ts → routes p ss cs ≡ routes q ts cs
    → refusal room p ss cs role pitch b granted ≡ refusal room q ts cs role pitch b granted
refusal_same room p q ss ts cs role pitch b granted e f g = rw (e, f, g)

-- a call of other places or counts is refused before a number is looked at
pub unfit_same : (room : Bool) (points : List Float) (starts counts : List ℕ) (role : ℕ) (pitch : Float) (b : Bool) (granted : ℕ) → windows_fit points starts counts ≡ false
    → (refusal room points starts counts role pitch b granted ≡ refusal room (plus_zeros points) starts counts role pitch b granted) × (refusal room points starts counts role pitch b granted ≡ 0 → ⊥)
unfolding windows_fit
unfit_same room points starts counts role pitch b granted e =
    rw (places_plus points starts counts) (go room (places_fit points starts counts) (leb (length starts) max_bundle_members) (counts_fit max_points counts) (leb granted max_tap_visits) _ _ e)
  where
    go : (a p l c v : Bool) (m n : ℕ) → (p && (l && c)) ≡ false
        → (◌≡◌ {A = ℕ} (cond (not a) 2 (cond (not p) 4 (cond (not (l && c && v)) 5 m))) (cond (not a) 2 (cond (not p) 4 (cond (not (l && c && v)) 5 n)))) × (◌≡◌ {A = ℕ} (cond (not a) 2 (cond (not p) 4 (cond (not (l && c && v)) 5 m))) 0 → ⊥)
    go false p l c v m n e = (refl, λ z. omega arith)
    go true false l c v m n e = (refl, λ z. omega arith)
    go true true false c v m n e = (refl, λ z. omega arith)
    go true true true false v m n e = (refl, λ z. omega arith)
    go true true true true v m n e = absurd (true≢false e)

module _ (points : List Float) (starts counts : List ℕ) (copy : List Float) (rows : List ℕ) (t : Copied points starts counts (length starts) copy rows) (e : length rows ≡ length starts) where
  pub copied_routes : routes copy rows counts ≡ routes (plus_zeros points) starts counts
  copied_routes = routes_same copy (plus_zeros points) rows starts counts e (λ i h. points_same copy (plus_zeros points) (get_or rows i 0) (get_or starts i 0) (get_or counts i 0) (λ j l.
      let r = t.rows_are i (omega arith) in
      let a : 2 * get_or rows i 0 + j ≡ route_numbers * i + j = omega arith in
      ap (λ (n : ℕ). get_or copy n nan) a ∙ t.numbers_are i (omega arith) j l ∙ sym (plus_at points (2 * get_or starts i 0 + j))))

  pub copied_same : (room : Bool) (role : ℕ) (pitch : Float) (b : Bool) (granted : ℕ) → Fitting points starts counts → length copy ≡ member_numbers
      → refusal room copy rows counts role pitch b granted ≡ refusal room (plus_zeros points) starts counts role pitch b granted
  copied_same room role pitch b granted f l =
      refusal_same room copy (plus_zeros points) rows starts counts role pitch b granted
      (rows_fit copy rows counts (e ∙ f.at_places.paired) (λ m h.
      let r = t.rows_are m (omega arith) in
      let q = f.short m (omega arith) in
      let n = f.few in
      omega arith) ∙ sym (places_plus points starts counts ∙ f.placed)) e copied_routes

-- ---- a call with plus zeros says what it says
pub plus_zeros_again : (points : List Float) → plus_zeros (plus_zeros points) ≡ plus_zeros points
plus_zeros_again [] = refl
plus_zeros_again (x ∷ xs) = rw (plus_zero_again x, plus_zeros_again xs)

-- ---- two calls that look at the same routes
pub unfit_call : (points : List Float) (starts counts : List ℕ) (role : ℕ) (pitch : Float) (granted : ℕ) → windows_fit points starts counts ≡ false → SameCall points (plus_zeros points) starts starts counts role pitch granted
unfit_call points starts counts role pitch granted e = record {
  number = λ room b. (unfit_same room points starts counts role pitch b granted e).0;
  searched = λ room b z. absurd ((unfit_same room points starts counts role pitch b granted e).1 z);
}

pub copied_call : (points : List Float) (starts counts : List ℕ) (copy : List Float) (rows : List ℕ) (role : ℕ) (pitch : Float) (granted : ℕ) → Copied points starts counts (length starts) copy rows → length rows ≡ length starts
    → Fitting points starts counts → length copy ≡ member_numbers → SameCall copy (plus_zeros points) rows starts counts role pitch granted
copied_call points starts counts copy rows role pitch granted t e f l = record {
  number = λ room b. copied_same points starts counts copy rows t e room role pitch b granted f l;
  searched = λ room b z. copied_routes points starts counts copy rows t e;
}

carried : (number number' : ℕ) (s s' : Said) (granted : ℕ) (r : SearchAnswer) (xs xs' candidates candidates' scratch scratch' : List Float) → number ≡ number' → (number ≡ 0 → s ≡ s')
    → Promise number s granted r xs xs' candidates candidates' scratch scratch' → Promise number' s' granted r xs xs' candidates candidates' scratch scratch'
carried number number' s s' granted r xs xs' candidates candidates' scratch scratch' e f h =
    subst (λ (n : ℕ). Promise n s' granted r xs xs' candidates candidates' scratch scratch') e
    (subst (λ (a : Said). Replied number a r xs xs') (go (eqb number 0) refl) h.0, h.1)
  where
    go : (b : Bool) → eqb number 0 ≡ b → cond b s (refused granted) ≡ cond b s' (refused granted)
    go true z = f (eqb-true number 0 z)
    go false z = refl

-- ---- the entries: what is said of the copies is said of the points with plus zeros
module _ (xs candidates scratch : List Float) (r : SearchAnswer) (xs' candidates' scratch' : List Float) where
  abbrev pub SearchSaid : List Float → List ℕ → List ℕ → ℕ → Float → Bounds → ℕ → Type 0
  SearchSaid p ss cs role pitch b granted =
      Replied (search_number xs candidates scratch p ss cs role pitch b granted) (search_says (search_number xs candidates scratch p ss cs role pitch b granted) p ss cs role pitch b granted) r xs xs'
      × Untouched (search_number xs candidates scratch p ss cs role pitch b granted) candidates candidates' scratch scratch'

  abbrev pub PromotionSaid : List Float → List ℕ → List ℕ → ℕ → Float → Option Bounds → ℕ → Type 0
  PromotionSaid p ss cs role pitch b granted =
      Replied (promotion_number xs candidates scratch p ss cs role pitch b granted) (promotion_says (promotion_number xs candidates scratch p ss cs role pitch b granted) p ss cs role pitch b granted) r xs xs'
      × Untouched (promotion_number xs candidates scratch p ss cs role pitch b granted) candidates candidates' scratch scratch'

  module _ (p q : List Float) (ss ts cs cs' : List ℕ) (role role' granted granted' : ℕ) (pitch pitch' : Float) (d : cs ≡ cs') (e : pitch ≡ pitch') (g : role ≡ role') (h : granted ≡ granted') (same : SameCall p q ss ts cs' role pitch granted) where
    pub search_carried : (b b' : Bounds) → b ≡ b' → SearchSaid p ss cs role pitch b granted → SearchSaid q ts cs' role' pitch' b' granted'
    search_carried b b' f said_of =
        let room = search_room xs candidates scratch in
        let fit = bounds_fit b in
        rw (← e, ← f, ← g, ← h)
        (carried (search_number xs candidates scratch p ss cs' role pitch b granted) (search_number xs candidates scratch q ts cs' role pitch b granted) _ _ granted r xs xs' candidates candidates' scratch scratch' (same.number room fit)
        (λ z. ap (λ (rs : List (List Point)). said (common_xs (role_of role) b (members (role_of role) pitch rs) granted)) (same.searched room fit z)) (subst (λ (l : List ℕ). SearchSaid p ss l role pitch b granted) d said_of))

    pub promotion_carried : (b b' : Option Bounds) → b ≡ b' → PromotionSaid p ss cs role pitch b granted → PromotionSaid q ts cs' role' pitch' b' granted'
    promotion_carried b b' f said_of =
        let room = promotion_room xs candidates scratch in
        let fit = collector_bounds_fit b in
        rw (← e, ← f, ← g, ← h)
        (carried (promotion_number xs candidates scratch p ss cs' role pitch b granted) (promotion_number xs candidates scratch q ts cs' role pitch b granted) _ _ granted r xs xs' candidates candidates' scratch scratch' (same.number room fit)
        (λ z. ap (λ (rs : List (List Point)). promoted (role_of role) pitch b (members (role_of role) pitch rs) granted) (same.searched room fit z)) (subst (λ (l : List ℕ). PromotionSaid p ss l role pitch b granted) d said_of))
