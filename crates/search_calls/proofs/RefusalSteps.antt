-- The steps of the refusals' definitions, by place in the lists; what an accepted call may count on; and what is written for a list.
-- Assumes nothing.
use Rattle.std.specs.Prelude.{◌≡◌, refl, Bool, true, false, not, ◌&&◌, ◌||◌, cond, List, [], ◌∷◌, ◌++◌, leb, ltb, eqb, get_or, take, drop, Float, Option, Some, None, Ok, Err}
use Rattle.std.proofs.Common.{sym, ◌∙◌, subst, true≢false, add-one, length-append, take-take, take_all, length-take-le, leb-true, ltb-true, ltb-false, ne_eqb}
use Rattle.std.proofs.Math.Nat.{min-eq_left, min-eq_right}
use Rattle.std.proofs.Math.Path.{ap}
use Rattle.std.proofs.Math.Bool.{and-false}
use Prim.Native.Nat.{ℕ, zero, suc, ◌+◌, ◌-◌, ◌*◌, ◌≤◌, ◌<◌, min}
use native.Mathlib.Omega.{arith}
use Rattle.std.proofs.Math.ListN.{length, drop_of_length-le}
use Rattle.std.proofs.Math.Seq.{drop-cons}
use Rattle.std.specs.Float.{nan}
use Rattle.limits.specs.Limits.{most_kept, max_bundle_members, max_route_points, max_points, max_tap_visits}
use Rattle.binary64.specs.Bools.{both_true}
use Rattle.binary64.specs.Accepted.{is_coordinate, zero64}
use Rattle.geometry.specs.declared.Role.{Role}
use Rattle.geometry.specs.Points.{point_at, points_from}
use Rattle.search.specs.declared.TapVisits.{TapVisits}
use Rattle.search.specs.declared.Bounds.{Bounds}
use Rattle.search.specs.declared.TapVisitsSpent.{TapVisitsSpent}
use Rattle.search.specs.declared.SearchSpent.TheVariants.{First, Second}
use Rattle.search.specs.Stretches.{members, routes, runs_in, Windows}
use Rattle.search.specs.Search.{Listed, Listing, first, mark, told, Fits, Lists}
use Rattle.search.specs.Promotion.{Promoted, Promotion, promotion_xs, shortened, promotion_told, PromotionFits, Promotes}
use Rattle.search.proofs.Parts.{fits_in, told_front, promotion_fits_in, promotion_front, take_head}
use Rattle.search_calls.specs.declared.SearchAnswer.{SearchAnswer}
use Rattle.search_calls.specs.Entry.{places_fit, counts_fit, points_fit, routes_fit, refusal, Said, said, promotion_said, answer_of, refused, bounds_fit, collector_bounds_fit, promoted, Replied, Untouched}
use Rattle.search_calls.proofs.Sizes.{runs_few}

-- ---- places
pub places_differ : (points : List Float) (starts counts : List ℕ) → (length starts ≡ length counts → ⊥) → places_fit points starts counts ≡ false
unfolding places_fit
places_differ points [] [] ne = absurd (ne refl)
places_differ points [] (c ∷ cs) ne = refl
places_differ points (s ∷ ss) [] ne = refl
places_differ points (s ∷ ss) (c ∷ cs) ne = rw (places_differ points ss cs (λ e. ne (ap suc e))) (and-false (leb (2 * (s + c)) (length points)))

-- a start and a count that are looked at, and those after them
module _ (points : List Float) (start count : ℕ) (starts counts ss cs : List ℕ) (s : ss ≡ start ∷ starts) (c : cs ≡ count ∷ counts) where
  pub places_on : leb (2 * (start + count)) (length points) ≡ true → places_fit points ss cs ≡ places_fit points starts counts
  unfolding places_fit
  places_on h = rw (s, c, h)

  pub places_off : leb (2 * (start + count)) (length points) ≡ false → places_fit points ss cs ≡ false
  unfolding places_fit
  places_off h = rw (s, c, h)

  pub places_paired : length ss ≡ length cs → length starts ≡ length counts
  places_paired p = omega (arith, ap length s, ap length c)

pub places_done : (points : List Float) (ss cs : List ℕ) → ss ≡ [] → cs ≡ [] → places_fit points ss cs ≡ true
unfolding places_fit
places_done points ss cs s c = rw (s, c)

module _ (points : List Float) (starts counts : List ℕ) (paired : length starts ≡ length counts) (m : ℕ) where
  pub places_next : m < length starts → places_fit points (drop m starts) (drop m counts)
      ≡ (leb (2 * (get_or starts m 0 + get_or counts m 0)) (length points) && places_fit points (drop (m + 1) starts) (drop (m + 1) counts))
  unfolding places_fit
  places_next h =
      let h' : m < length counts = omega arith in
      rw (add-one, drop-cons starts m 0 h, drop-cons counts m 0 h')

  pub places_end : length starts ≤ m → places_fit points (drop m starts) (drop m counts) ≡ true
  unfolding places_fit
  places_end h =
      let h' : length counts ≤ m = omega arith in
      rw (drop_of_length-le starts h, drop_of_length-le counts h')

  pub routes_next : m < length starts → routes_fit (routes points (drop m starts) (drop m counts))
      ≡ (points_fit (points_from points (get_or starts m 0) (get_or counts m 0)) && routes_fit (routes points (drop (m + 1) starts) (drop (m + 1) counts)))
  unfolding routes_fit routes
  routes_next h =
      let h' : m < length counts = omega arith in
      rw (add-one, drop-cons starts m 0 h, drop-cons counts m 0 h')

  pub routes_end : length starts ≤ m → routes_fit (routes points (drop m starts) (drop m counts)) ≡ true
  unfolding routes_fit routes
  routes_end h = rw (drop_of_length-le starts h)

-- ---- counts
module _ (counts : List ℕ) (left m : ℕ) where
  pub counts_next : m < length counts → counts_fit left (drop m counts)
      ≡ ((leb (get_or counts m 0) max_route_points && leb (get_or counts m 0) left) && counts_fit (left - get_or counts m 0) (drop (m + 1) counts))
  unfolding counts_fit
  counts_next h = rw (add-one, drop-cons counts m 0 h)

  pub counts_end : length counts ≤ m → counts_fit left (drop m counts) ≡ true
  unfolding counts_fit
  counts_end h = rw (drop_of_length-le counts h)

-- ---- points
module _ (points : List Float) (at n : ℕ) where
  pub points_next : 0 < n → points_fit (points_from points at n)
      ≡ ((is_coordinate (point_at points at).x && is_coordinate (point_at points at).y) && points_fit (points_from points (at + 1) (n - 1)))
  unfolding points_fit points_from
  points_next h = let e : n ≡ suc (n - 1) = omega arith in ap (λ (k : ℕ). points_fit (points_from points at k)) e ∙ rw (add-one at)

  pub points_end : n ≤ 0 → points_fit (points_from points at n) ≡ true
  unfolding points_fit points_from
  points_end h = let e : n ≡ 0 = omega arith in rw e

-- ---- what an accepted call may count on
windows_inside : (points : List Float) (starts counts : List ℕ) → places_fit points starts counts ≡ true → (m : ℕ) → m < length starts → 2 * (get_or starts m 0 + get_or counts m 0) ≤ length points
unfolding places_fit
windows_inside points [] counts e m h = absurd (omega arith)
windows_inside points (s ∷ ss) [] e m h = absurd (true≢false (sym e))
windows_inside points (s ∷ ss) (c ∷ cs) e zero h = leb-true (2 * (s + c)) (length points) (both_true (leb (2 * (s + c)) (length points)) (places_fit points ss cs) e).0
windows_inside points (s ∷ ss) (c ∷ cs) e (suc m) h = windows_inside points ss cs (both_true (leb (2 * (s + c)) (length points)) (places_fit points ss cs) e).1 m (omega arith)

windows_paired : (points : List Float) (starts counts : List ℕ) → places_fit points starts counts ≡ true → length starts ≡ length counts
unfolding places_fit
windows_paired points [] [] e = refl
windows_paired points [] (c ∷ cs) e = absurd (true≢false (sym e))
windows_paired points (s ∷ ss) [] e = absurd (true≢false (sym e))
windows_paired points (s ∷ ss) (c ∷ cs) e = ap suc (windows_paired points ss cs (both_true (leb (2 * (s + c)) (length points)) (places_fit points ss cs) e).1)

pub windows : (points : List Float) (starts counts : List ℕ) → places_fit points starts counts ≡ true → Windows points starts counts
windows points starts counts e = record { paired = windows_paired points starts counts e; inside = windows_inside points starts counts e }

-- a call that is not refused
pub record Accepted (room : Bool) (points : List Float) (starts counts : List ℕ) : Type 0 where
  pub roomy : room ≡ true
  pub placed : Windows points starts counts
  pub few : (role : Role) (pitch : Float) → runs_in (members role pitch (routes points starts counts)) ≤ 2016

pub accepted : (room : Bool) (points : List Float) (starts counts : List ℕ) (role : ℕ) (pitch : Float) (b : Bool) (granted : ℕ) → refusal room points starts counts role pitch b granted ≡ 0 → Accepted room points starts counts
accepted room points starts counts role pitch b granted e =
    let t = go room (places_fit points starts counts) (leb (length starts) max_bundle_members) (counts_fit max_points counts) (leb granted max_tap_visits) _ e in
    let w = windows points starts counts t.1 in record {
      roomy = t.0;
      placed = w;
      few = λ r p. runs_few points r p starts counts w.paired t.2;
    }
  where
    go : (a p l c v : Bool) (rest : ℕ) → cond (not a) 2 (cond (not p) 4 (cond (not (l && c && v)) 5 rest)) ≡ 0 → (a ≡ true) × (p ≡ true) × (c ≡ true)
    go false p l c v rest e = absurd (omega arith)
    go true false l c v rest e = absurd (omega arith)
    go true true false c v rest e = absurd (omega arith)
    go true true true false v rest e = absurd (omega arith)
    go true true true true v rest e = (refl, refl, refl)

-- ---- what is written for a list
module _ (k left n : ℕ) (list xs : List Float) where
  abbrev pub front_said : Said
  front_said = record { mark = k; list = take n list; left = left }

  pub none_replied : n ≡ 0 → Replied 0 front_said (record { number = 0; mark = k; left = left; count = 0; x = zero64 }) xs xs
  none_replied e = rw e (record { answer = refl; written = refl })

  pub some_replied : (part : List Float) → 0 < n → n ≤ length list → n ≤ length xs → part ≡ take (length (take n xs)) list
      → Replied 0 front_said (record { number = 0; mark = k; left = left; count = n; x = get_or list 0 nan }) xs (part ++ drop n xs)
  some_replied part some within room h =
      let long = length-take-le n list within in
      record {
        answer = rw (long, take_head list n some within);
        written = rw long (ap (λ (l : List Float). l ++ drop n xs) (h ∙ ap (λ (j : ℕ). take j list) (length-take-le n xs room)));
      }

pub mark_none : (n : ℕ) (list : List Float) → n ≡ 0 → 0 ≡ mark (first (take n list))
mark_none n list e = rw e

pub mark_some : (n : ℕ) (list : List Float) → 0 < n → n ≤ length list → 1 ≡ mark (first (take n list))
mark_some n list some within = rw (take_head list n some within)

-- ---- what the search's list says
pub spent_said : (g : Listed) (list : List Float) (s : TapVisitsSpent) → g ≡ Err s → record { mark = 2; list = []; left = 0 } ≡ said (told g list)
spent_said g list s e = rw e

pub listed_said : (g : Listed) (list : List Float) (k n : ℕ) (v : TapVisits) → g ≡ Ok (n, v) → k ≡ mark (first (take n list)) → record { mark = k; list = take n list; left = v.0 } ≡ said (told g list)
listed_said g list k n v e h = rw (e, h)

-- ---- what a promotion's list says: its first numbers, as many as are kept
abbrev pub few : ℕ → ℕ
few n = cond (ltb n most_kept) n most_kept

pub few_are : (n : ℕ) → (few n ≤ n) × (few n ≤ most_kept)
few_are n = go (ltb n most_kept) refl
  where
    go : (t : Bool) → ltb n most_kept ≡ t → (cond t n most_kept ≤ n) × (cond t n most_kept ≤ most_kept)
    go true e = (omega arith, omega (arith, ltb-true))
    go false e = (omega (arith, ltb-false), omega arith)

-- as the library says it
pub least_kept : (n : ℕ) → min n most_kept ≡ few n
least_kept n = go (ltb n most_kept) refl
  where
    go : (t : Bool) → ltb n most_kept ≡ t → min n most_kept ≡ cond t n most_kept
    go true e = min-eq_left (omega (arith, ltb-true))
    go false e = min-eq_right (omega (arith, ltb-false))

front : (n : ℕ) (list : List Float) → n ≤ length list → take (few n) list ≡ take most_kept (take n list)
front n list within = go (ltb n most_kept) refl
  where
    go : (t : Bool) → ltb n most_kept ≡ t → take (cond t n most_kept) list ≡ take most_kept (take n list)
    go true e = sym (take_all most_kept (take n list) (omega (arith, ltb-true, length-take-le n list within)))
    go false e = sym (take-take most_kept n list (omega (arith, ltb-false)))

module _ (p : Promoted) (list : List Float) where
  pub first_spent_said : p ≡ Err First → record { mark = 2; list = []; left = 0 } ≡ promotion_said (shortened (promotion_told p list))
  first_spent_said e = rw e

  module _ (j n : ℕ) (h : j ≡ few n) (within : n ≤ length list) where
    list_is : take j list ≡ take most_kept (take n list)
    list_is = ap (λ (i : ℕ). take i list) h ∙ front n list within

    pub second_spent_said : (k : ℕ) → k ≡ 4 → p ≡ Err (Second n) → record { mark = k; list = take j list; left = 0 } ≡ promotion_said (shortened (promotion_told p list))
    second_spent_said k m e = rw (e, m, list_is)

    pub kept_said : (k : ℕ) (v : TapVisits) → p ≡ Ok (n, v) → k ≡ mark (first (take j list)) → record { mark = k; list = take j list; left = v.0 } ≡ promotion_said (shortened (promotion_told p list))
    kept_said k v e m = rw (e, m, list_is)

-- the count that an answer carries
pub second_within : (p : Promoted) (n size : ℕ) → p ≡ Err (Second n) → PromotionFits p size → n ≤ size
second_within p n size e f = subst (λ (r : Promoted). PromotionFits r size) e f

pub kept_within : (p : Promoted) (n : ℕ) (v : TapVisits) (size : ℕ) → p ≡ Ok (n, v) → PromotionFits p size → n ≤ size
kept_within p n v size e f = subst (λ (r : Promoted). PromotionFits r size) e f

-- ---- the entries
pub rooms : (a b c k m n : ℕ) → (leb a k && leb b m && leb c n) ≡ true → (a ≤ k) × (b ≤ m) × (c ≤ n)
rooms a b c k m n e =
    let p = both_true (leb a k && leb b m) (leb c n) e in
    let q = both_true (leb a k) (leb b m) p.0 in
    (leb-true a k q.0, leb-true b m q.1, leb-true c n p.1)

module _ (number : ℕ) (says : Said) (granted : ℕ) (r : SearchAnswer) where
  abbrev pub Promise : List Float → List Float → List Float → List Float → List Float → List Float → Type 0
  Promise xs xs' candidates candidates' scratch scratch' = Replied number (cond (eqb number 0) says (refused granted)) r xs xs' × Untouched number candidates candidates' scratch scratch'

  pub refused_all : (k : ℕ) (xs candidates scratch : List Float) → k ≡ number → (k ≡ 0 → ⊥) → r ≡ answer_of k (refused granted) → Promise xs xs candidates candidates scratch scratch
  refused_all k xs candidates scratch e ne h =
      let f : number ≡ 0 → ⊥ = λ z. ne (e ∙ z) in (
        rw (ne_eqb number 0 f) (record { answer = h ∙ ap (λ (n : ℕ). answer_of n (refused granted)) e; written = refl }),
        record { kept_candidates = λ z. refl; kept_scratch = λ z. refl },
      )

  pub accepted_all : (xs xs' candidates candidates' scratch scratch' : List Float) → number ≡ 0 → Replied 0 says r xs xs' → Promise xs xs' candidates candidates' scratch scratch'
  accepted_all xs xs' candidates candidates' scratch scratch' e h = (
    rw e h,
    record { kept_candidates = λ z. absurd (z e); kept_scratch = λ z. absurd (z e) },
  )

-- a list in the first numbers of a slice is said of the slice, and lies within it
module _ (m xs : List Float) (size : ℕ) (room : size ≤ length xs) (same : length m ≡ length (take size xs)) where
  size_is : length (take size xs) ≡ size
  size_is = length-take-le size xs room

  module _ (g : Listed) (l : Listing) (s : Lists g m (length (take size xs)) l) where
    pub list_said : said (told g (m ++ drop size xs)) ≡ said l
    list_said = ap said (told_front g m (drop size xs) (rw same s.within) ∙ s.are)

    pub list_within : (n : ℕ) → size ≤ n → Fits g n
    list_within n h = fits_in g (length (take size xs)) n (omega (arith, size_is)) s.within

  module _ (r : Promoted) (p : Promotion) (s : Promotes r m (length (take size xs)) p) where
    pub promotion_list_said : promotion_said (shortened (promotion_told r (m ++ drop size xs))) ≡ promotion_said (shortened p)
    promotion_list_said = ap (λ (q : Promotion). promotion_said (shortened q)) (promotion_front r m (drop size xs) (rw same s.within) ∙ s.are)

    pub promotion_list_within : (n : ℕ) → size ≤ n → PromotionFits r n
    promotion_list_within n h = promotion_fits_in r (length (take size xs)) n (omega (arith, size_is)) s.within

  pub slice_length : size ≤ length (m ++ drop size xs)
  slice_length = omega (arith, length-append m (drop size xs), same, size_is)

-- ---- bounds that may be absent
pub bounds_either : (present t : Bool) (b : Bounds) → t ≡ bounds_fit b → (not present || t) ≡ collector_bounds_fit (cond present (Some b) None)
bounds_either true t b e = e
bounds_either false t b e = refl

module _ (role : Role) (pitch : Float) (present : Bool) (b : Bounds) (ms : List (List (Option (Float × Float)))) (granted : ℕ) where
  pub absent_replied : (xs : List Float) → present ≡ false → Replied 0 (promoted role pitch (cond present (Some b) None) ms granted) (record { number = 0; mark = 3; left = granted; count = 0; x = zero64 }) xs xs
  absent_replied xs e = rw e (record { answer = refl; written = refl })

  pub present_says : present ≡ true → promotion_said (shortened (promotion_xs role pitch b ms granted)) ≡ promoted role pitch (cond present (Some b) None) ms granted
  present_says e = rw e
