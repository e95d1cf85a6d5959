-- The search of binary64 on numbers of the grid is the search in whole numbers: same candidates, same order, same outcome, same visits.
-- Assumes nothing.
use Rattle.std.specs.Prelude.{◌≡◌, refl, Bool, true, false, not, cond, ℤ, nat_abs, ◌+ℤ◌, ◌-ℤ◌, Float, Option, Some, None}
use Rattle.std.proofs.Common.{sym, ap, ◌∙◌}
use Prim.Native.Nat.{ℕ, zero, suc, ◌^◌, ◌≤◌}
use mathlib.Core.List.{List, [], ◌∷◌, ◌++◌, map}
use Rattle.geometry.specs.declared.Segment.{Segment}
use Rattle.geometry.specs.declared.Role.{Role}
use Rattle.geometry.specs.declared.Role.TheVariants.{Input, Output}
use Rattle.geometry.specs.Points.{runs}
use Rattle.geometry.specs.Stretch as G
use Rattle.search.specs.Stretches as T
use Rattle.search.specs.Search as F
use Rattle.search.specs.Search.{Tried, held, lacked, unpaid, after, falls}
use Rattle.sorting.specs.Sort as O
use Rattle.sorting.specs.Sort.{sort_key}
use Rattle.grid_plan.specs.Board as Z
use Rattle.grid_plan.specs.Search as S
use Rattle.grid_plan.proofs.Sized.{pick_smaller, pick_larger}
use Rattle.grid_plan.specs.Image.{point, segment, route, stretch, bounds}
use Rattle.grid_plan.specs.InnerImage.{searched}
use Rattle.sorting.specs.Lists.{Every}
use Rattle.grid.specs.On.{on, below, at_most, same, smaller, larger, comes}
use Rattle.grid.proofs.Operations.{lt_on, le_on, ne_on, least_on, greatest_on, add_on, sub_on}
use Rattle.grid_plan.proofs.Keys.{sort_on, once_on}
use Rattle.grid_plan.specs.Sizes.{OfOption, Fit}

-- ---- stretches
from_to_on : (a b : ℤ) → G.from_to (on a) (on b) ≡ stretch (S.from_to a b)
from_to_on a b = ap (λ (t : Bool). cond t (Some (on a, on b)) None) (le_on a b) ∙ go (at_most a b)
  where
    go : (t : Bool) → cond t (Some (on a, on b)) None ≡ stretch (cond t (Some (record { low = a; high = b })) None)
    go true = refl
    go false = refl

shortened_on : (role : Role) (p a b : ℤ) → Fit a p → Fit b p → G.shortened role (on p) (on a) (on b) ≡ stretch (S.shortened role p a b)
shortened_on Input p a b h k = ap (G.from_to (on a)) (sub_on b p k) ∙ from_to_on a (b -ℤ p)
shortened_on Output p a b h k = ap (λ (x : Float). G.from_to x (on b)) (add_on a p h) ∙ from_to_on (a +ℤ p) b

pub stretch_on : (role : Role) (p : ℤ) (a b : Z.Point) → Fit a.x p → Fit b.x p → G.stretch role (on p) (point a) (point b) ≡ stretch (S.stretch role p a b)
stretch_on role p a b h k =
    rw (ne_on a.y b.y, le_on b.x a.x, shortened_on role p a.x b.x h k)
    (go (not (same a.y b.y)) (at_most b.x a.x) (S.shortened role p a.x b.x))
  where
    go : (s t : Bool) (c : Option S.Stretch) → cond s None (cond t None (stretch c)) ≡ stretch (cond s None (cond t None c))
    go true t c = refl
    go false true c = refl
    go false false c = refl

pub holds_on : (x : ℤ) (s : Option S.Stretch) → G.holds (on x) (stretch s) ≡ S.holds x s
holds_on x None = refl
holds_on x (Some s) = rw (le_on s.low x, le_on x s.high)

pub runs_on : (r : Z.Route) → runs (route r) ≡ map segment (Z.runs r)
unfolding runs Z.runs
runs_on [] = refl
runs_on (a ∷ []) = refl
runs_on (a ∷ b ∷ r) = ap (λ (l : List Segment). record { start = point a; end = point b } ∷ l) (runs_on (b ∷ r))

-- every x of a route goes with the pitch
abbrev pub Suits : ℤ → Z.Route → Type 0
Suits p r = Every (λ (q : Z.Point). Fit q.x p) r

stretches_on : (role : Role) (p : ℤ) (r : Z.Route) → Suits p r → T.stretches role (on p) (map segment (Z.runs r)) ≡ map stretch (S.stretches role p (Z.runs r))
unfolding T.stretches S.stretches Z.runs
stretches_on role p [] h = refl
stretches_on role p (a ∷ []) h = refl
stretches_on role p (a ∷ b ∷ r) h = rw (stretch_on role p a b h.0 h.1.0, stretches_on role p (b ∷ r) h.1)

pub members_on : (role : Role) (p : ℤ) (rs : List Z.Route) → Every (Suits p) rs → T.members role (on p) (map route rs) ≡ map (map stretch) (S.members role p rs)
unfolding T.members S.members
members_on role p [] h = refl
members_on role p (r ∷ rs) h = rw (runs_on r, stretches_on role p r h.0, members_on role p rs h.1)

map_append : {A B : Type 0} (f : A → B) (xs ys : List A) → map f (xs ++ ys) ≡ map f xs ++ map f ys
map_append f [] ys = refl
map_append f (x ∷ xs) ys = ap (λ (l : List _). f x ∷ l) (map_append f xs ys)

all_runs_on : (ms : List (List (Option S.Stretch))) → T.all_runs (map (map stretch) ms) ≡ map stretch (S.all_runs ms)
unfolding T.all_runs S.all_runs
all_runs_on [] = refl
all_runs_on (m ∷ ms) = ap (λ (l : List (Option (Float × Float))). map stretch m ++ l) (all_runs_on ms) ∙ sym (map_append stretch m (S.all_runs ms))

-- ---- the first pass
nearest_on : (role : Role) (l h d : ℤ) → F.nearest role (on l) (on h) (on d) ≡ on (S.nearest role l h d)
nearest_on Input l h d = least_on h d
nearest_on Output l h d = greatest_on l d

abbrev candidacy : Option ℤ → Option Float
candidacy None = None
candidacy (Some z) = Some (on z)

candidate_on : (role : Role) (r : S.Bounds) (s : Option S.Stretch) → F.candidate role (bounds r) (stretch s) ≡ candidacy (S.candidate role r s)
candidate_on role r None = refl
candidate_on role r (Some s) =
    rw (least_on s.high r.maximum, greatest_on s.low r.minimum, lt_on (smaller s.high r.maximum) (larger s.low r.minimum), nearest_on role (larger s.low r.minimum) (smaller s.high r.maximum) r.desired)
    (go (below (smaller s.high r.maximum) (larger s.low r.minimum)) (S.nearest role (larger s.low r.minimum) (smaller s.high r.maximum) r.desired))
  where
    go : (t : Bool) (z : ℤ) → cond t None (Some (on z)) ≡ candidacy (cond t None (Some z))
    go true z = refl
    go false z = refl

abbrev listing : S.Listing → F.Listing
listing (S.listing xs v) = F.listing (map on xs) v
listing S.spent = F.spent

onto_on : (xs : List ℤ) (c : Option ℤ) → F.onto (map on xs) (candidacy c) ≡ map on (S.onto xs c)
onto_on xs None = refl
onto_on xs (Some z) = sym (map_append on xs (z ∷ []))

gathered_onto_on : (role : Role) (r : S.Bounds) (xs : List ℤ) (ss : List (Option S.Stretch)) (v : ℕ) → F.gathered_onto role (bounds r) (map on xs) (map stretch ss) v ≡ listing (S.gathered_onto role r xs ss v)
unfolding F.gathered_onto S.gathered_onto
gathered_onto_on role r xs [] v = refl
gathered_onto_on role r xs (s ∷ ss) zero = refl
gathered_onto_on role r xs (s ∷ ss) (suc v) =
    ap (λ (l : List Float). F.gathered_onto role (bounds r) l (map stretch ss) v) (ap (F.onto (map on xs)) (candidate_on role r s) ∙ onto_on xs (S.candidate role r s))
    ∙ gathered_onto_on role r (S.onto xs (S.candidate role r s)) ss v

-- ---- sorted
abbrev pub Held : ℤ → Type 0
Held z = nat_abs z ≤ 2 ^ 53

insert_held : (P : ℤ → Type 0) (f : Bool) (x : ℤ) (ys : List ℤ) → P x → Every P ys → Every P (S.insert f x ys)
unfolding S.insert
insert_held P f x [] h k = (h, tt)
insert_held P f x (y ∷ ys) h k = go (comes f x y) (insert_held P f x ys h k.1)
  where
    go : (t : Bool) → Every P (S.insert f x ys) → Every P (cond t (x ∷ y ∷ ys) (y ∷ S.insert f x ys))
    go true l = (h, k)
    go false l = (k.0, l)

pub sorted_held : (P : ℤ → Type 0) (f : Bool) (xs : List ℤ) → Every P xs → Every P (S.sorted f xs)
unfolding S.sorted
sorted_held P f [] h = tt
sorted_held P f (x ∷ xs) h = insert_held P f x (S.sorted f xs) h.0 (sorted_held P f xs h.1)

insert_on : (f : Bool) (x : ℤ) (ys : List ℤ) → Held x → Every Held ys → O.insert (sort_key f) (on x) (map on ys) ≡ map on (S.insert f x ys)
unfolding O.insert S.insert
insert_on f x [] h k = refl
insert_on f x (y ∷ ys) h k =
    rw (sort_on f x y h k.0, insert_on f x ys h k.1) (go (comes f x y) (S.insert f x ys))
  where
    go : (t : Bool) (l : List ℤ) → cond t (on x ∷ on y ∷ map on ys) (on y ∷ map on l) ≡ map on (cond t (x ∷ y ∷ ys) (y ∷ l))
    go true l = refl
    go false l = refl

sorted_on : (f : Bool) (xs : List ℤ) → Every Held xs → O.sorted (sort_key f) (map on xs) ≡ map on (S.sorted f xs)
unfolding O.sorted S.sorted
sorted_on f [] h = refl
sorted_on f (x ∷ xs) h = ap (O.insert (sort_key f) (on x)) (sorted_on f xs h.1) ∙ insert_on f x (S.sorted f xs) h.0 (sorted_held Held f xs h.1)

distinct_after_on : (f : Bool) (x : ℤ) (ys : List ℤ) → Held x → Every Held ys → O.distinct_after (sort_key f) (on x) (map on ys) ≡ map on (S.distinct_after x ys)
unfolding O.distinct_after S.distinct_after
distinct_after_on f x [] h k = refl
distinct_after_on f x (y ∷ ys) h k =
    rw (once_on f x y h k.0, distinct_after_on f x ys h k.1, distinct_after_on f y ys k.0 k.1) (go (same x y) (S.distinct_after x ys) (S.distinct_after y ys))
  where
    go : (t : Bool) (l m : List ℤ) → cond t (map on l) (on y ∷ map on m) ≡ map on (cond t l (y ∷ m))
    go true l m = refl
    go false l m = refl

distinct_on : (f : Bool) (xs : List ℤ) → Every Held xs → O.distinct (sort_key f) (map on xs) ≡ map on (S.distinct xs)
unfolding O.distinct S.distinct
distinct_on f [] h = refl
distinct_on f (x ∷ xs) h = ap (λ (l : List Float). on x ∷ l) (distinct_after_on f x xs h.0 h.1)

in_order_on : (role : Role) (xs : List ℤ) → Every Held xs → F.in_order role (map on xs) ≡ map on (S.in_order role xs)
in_order_on role xs h = ap (O.distinct (sort_key (falls role))) (sorted_on (falls role) xs h) ∙ distinct_on (falls role) (S.sorted (falls role) xs) (sorted_held Held (falls role) xs h)

-- ---- the second pass
tried_on_on : (x : ℤ) (ss : List (Option S.Stretch)) (v : ℕ) → F.tried_on (on x) (map stretch ss) v ≡ S.tried_on x ss v
unfolding F.tried_on S.tried_on
tried_on_on x [] v = refl
tried_on_on x (s ∷ ss) zero = refl
tried_on_on x (s ∷ ss) (suc v) = rw (holds_on x s, tried_on_on x ss v)

tried_on_all_on : (x : ℤ) (ms : List (List (Option S.Stretch))) (v : ℕ) → F.tried_on_all (on x) (map (map stretch) ms) v ≡ S.tried_on_all x ms v
unfolding F.tried_on_all S.tried_on_all
tried_on_all_on x [] v = refl
tried_on_all_on x (m ∷ ms) v = ap (λ (t : Tried). after t (F.tried_on_all (on x) (map (map stretch) ms)) lacked unpaid) (tried_on_on x m v) ∙ go (tried_on_all_on x ms) (S.tried_on x m v)
  where
    go : ((w : ℕ) → F.tried_on_all (on x) (map (map stretch) ms) w ≡ S.tried_on_all x ms w) → (t : Tried) → after t (F.tried_on_all (on x) (map (map stretch) ms)) lacked unpaid ≡ after t (S.tried_on_all x ms) lacked unpaid
    go h (held w) = h w
    go h (lacked w) = refl
    go h unpaid = refl

tried_list_on : (ms : List (List (Option S.Stretch))) (xs found : List ℤ) (v : ℕ) → F.tried (map (map stretch) ms) (map on xs) (map on found) v ≡ listing (S.tried ms xs found v)
unfolding F.tried S.tried
tried_list_on ms [] found v = refl
tried_list_on ms (x ∷ xs) found v = ap (λ (t : Tried). after t (F.tried (map (map stretch) ms) (map on xs) (map on found ++ (on x ∷ []))) (F.tried (map (map stretch) ms) (map on xs) (map on found)) F.spent) (tried_on_all_on x ms v) ∙ go (tried_list_on ms xs) (S.tried_on_all x ms v)
  where
    go : ((found : List ℤ) (v : ℕ) → F.tried (map (map stretch) ms) (map on xs) (map on found) v ≡ listing (S.tried ms xs found v)) → (t : Tried) → after t (F.tried (map (map stretch) ms) (map on xs) (map on found ++ (on x ∷ []))) (F.tried (map (map stretch) ms) (map on xs) (map on found)) F.spent ≡ listing (after t (S.tried ms xs (found ++ (x ∷ []))) (S.tried ms xs found) S.spent)
    go h (held w) = ap (λ (l : List Float). F.tried (map (map stretch) ms) (map on xs) l w) (sym (map_append on found (x ∷ []))) ∙ h (found ++ (x ∷ [])) w
    go h (lacked w) = h found w
    go h unpaid = refl

-- ---- what is gathered is in range
abbrev pub OfStretch : (ℤ → Type 0) → Option S.Stretch → Type 0
OfStretch P None = Unit {0}
OfStretch P (Some s) = P s.low × P s.high

abbrev pub OfBounds : (ℤ → Type 0) → S.Bounds → Type 0
OfBounds P r = P r.minimum × P r.desired × P r.maximum

abbrev pub OfListing : (ℤ → Type 0) → S.Listing → Type 0
OfListing P (S.listing xs v) = Every P xs
OfListing P S.spent = Unit {0}

module _ (P : ℤ → Type 0) where
  nearest_of : (role : Role) (l h d : ℤ) → P l → P h → P d → P (S.nearest role l h d)
  nearest_of Input l h d p q s = pick_smaller P h d q s
  nearest_of Output l h d p q s = pick_larger P l d p s

  candidate_of : (role : Role) (r : S.Bounds) (s : Option S.Stretch) → OfBounds P r → OfStretch P s → OfOption P (S.candidate role r s)
  candidate_of role r None b h = tt
  candidate_of role r (Some s) b h = go (below (smaller s.high r.maximum) (larger s.low r.minimum))
    where
      go : (t : Bool) → OfOption P (cond t None (Some (S.nearest role (larger s.low r.minimum) (smaller s.high r.maximum) r.desired)))
      go true = tt
      go false = nearest_of role (larger s.low r.minimum) (smaller s.high r.maximum) r.desired (pick_larger P s.low r.minimum h.0 b.0) (pick_smaller P s.high r.maximum h.1 b.2) b.1

  last_of : (x : ℤ) (xs : List ℤ) → Every P xs → P x → Every P (xs ++ (x ∷ []))
  last_of x [] h k = (k, tt)
  last_of x (y ∷ ys) h k = (h.0, last_of x ys h.1 k)

  onto_of : (xs : List ℤ) (c : Option ℤ) → Every P xs → OfOption P c → Every P (S.onto xs c)
  onto_of xs None e s = e
  onto_of xs (Some x) e s = last_of x xs e s

  gathered_of : (role : Role) (r : S.Bounds) (xs : List ℤ) (ss : List (Option S.Stretch)) (v : ℕ) → OfBounds P r → Every P xs → Every (OfStretch P) ss → OfListing P (S.gathered_onto role r xs ss v)
  unfolding S.gathered_onto
  gathered_of role r xs [] v b e h = e
  gathered_of role r xs (s ∷ ss) zero b e h = tt
  gathered_of role r xs (s ∷ ss) (suc v) b e h = gathered_of role r (S.onto xs (S.candidate role r s)) ss v b (onto_of xs (S.candidate role r s) e (candidate_of role r s b h.0)) h.1

  append_of : (xs ys : List (Option S.Stretch)) → Every (OfStretch P) xs → Every (OfStretch P) ys → Every (OfStretch P) (xs ++ ys)
  append_of [] ys h k = k
  append_of (x ∷ xs) ys h k = (h.0, append_of xs ys h.1 k)

  runs_of : (ms : List (List (Option S.Stretch))) → Every (Every (OfStretch P)) ms → Every (OfStretch P) (S.all_runs ms)
  unfolding S.all_runs
  runs_of [] h = tt
  runs_of (m ∷ ms) h = append_of m (S.all_runs ms) h.0 (runs_of ms h.1)

  pub gathered_are : (role : Role) (r : S.Bounds) (ms : List (List (Option S.Stretch))) (v : ℕ) → OfBounds P r → Every (Every (OfStretch P)) ms → OfListing P (S.gathered role r ms v)
  gathered_are role r ms v b h = gathered_of role r (r.desired ∷ []) (S.all_runs ms) v b (b.1, tt) (runs_of ms h)

-- THE SEARCH on the grid
pub search_on : (role : Role) (r : S.Bounds) (ms : List (List (Option S.Stretch))) (v : ℕ) → OfBounds Held r → Every (Every (OfStretch Held)) ms
    → F.search_of role (bounds r) (map (map stretch) ms) v ≡ searched (S.search_of role r ms v)
unfolding S.search_of
search_on role r ms v b h =
    ap (λ (l : List (Option (Float × Float))). F.searched (F.then_tried role (map (map stretch) ms) (F.gathered_onto role (bounds r) (on r.desired ∷ []) l v))) (all_runs_on ms)
    ∙ ap (λ (l : F.Listing). F.searched (F.then_tried role (map (map stretch) ms) l)) (gathered_onto_on role r (r.desired ∷ []) (S.all_runs ms) v)
    ∙ ap F.searched (go (S.gathered role r ms v) (gathered_are Held role r ms v b h))
    ∙ last (S.then_tried role ms (S.gathered role r ms v))
  where
    go : (l : S.Listing) → OfListing Held l → F.then_tried role (map (map stretch) ms) (listing l) ≡ listing (S.then_tried role ms l)
    go (S.listing xs w) k = ap (λ (l : List Float). F.tried (map (map stretch) ms) l [] w) (in_order_on role xs k) ∙ tried_list_on ms (S.in_order role xs) [] w
    go S.spent k = refl

    last : (l : S.Listing) → F.searched (listing l) ≡ searched (S.searched l)
    last (S.listing [] w) = refl
    last (S.listing (x ∷ xs) w) = refl
    last S.spent = refl
