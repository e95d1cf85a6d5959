-- Choices of bounds, and what a search finds: in whole numbers over 128 and in binary64; what holds of all candidates holds of the one found.
-- Assumes nothing.
use Rattle.std.proofs.Math.Path.{◌≡◌, refl}
use Rattle.std.proofs.Common.{ap, ◌∙◌, arith}
use Prim.Native.Nat.{ℕ, zero, suc}
use Rattle.std.specs.Prelude.{Bool, cond, ℤ, Float, Option, Some, None}
use Rattle.std.proofs.Math.Bool.{true, false}
use mathlib.Core.List.{List, [], ◌∷◌, ◌++◌}
use Rattle.binary64.specs.Order.{least}
use Rattle.geometry.specs.declared.Role.{Role}
use Rattle.geometry.specs.declared.Role.TheVariants.{Input, Output}
use Rattle.search.specs.Search.{Tried, held, lacked, unpaid, after, or_else, falls}
use Rattle.plan.specs.Bounds as M
use Rattle.grid_plan.specs.Board as Z
use Rattle.grid_plan.specs.Search as S
use Rattle.grid_plan.specs.Bounds as B
use Rattle.grid_plan.specs.Plan as P
use Rattle.grid_plan.proofs.Sized.{pick_smaller, pick_larger}
use Rattle.grid_plan.specs.Image.{route, bound, collector}
use Rattle.grid_plan.proofs.Searching.{OfStretch, OfBounds, OfListing, gathered_are, sorted_held}
use Rattle.sorting.specs.Lists.{Every}
use Rattle.grid.specs.On.{on, below, same, larger}
use Rattle.grid.proofs.Operations.{lt_on, least_on, greatest_on}
use Rattle.grid_plan.specs.Sizes.{OfOption}

-- ---- choices
pub raised_on : (a : ℤ) (o : Option ℤ) → M.raised (on a) (bound o) ≡ on (B.raised a o)
raised_on a None = refl
raised_on a (Some b) = greatest_on a b

pub lowered_on : (a : ℤ) (o : Option ℤ) → M.lowered (on a) (bound o) ≡ on (B.lowered a o)
lowered_on a None = refl
lowered_on a (Some b) = least_on a b

pub clamped_on : (x low high : ℤ) → M.clamped (on x) (on low) (on high) ≡ on (B.clamped x low high)
clamped_on x low high = ap (λ (z : Float). least z (on high)) (greatest_on x low) ∙ least_on (larger x low) high

pub tighter_on : (role : Role) (o : Option ℤ) (x : ℤ) → M.tighter role (bound o) (on x) ≡ on (B.tighter role o x)
tighter_on role None x = refl
tighter_on Input (Some d) x = least_on d x
tighter_on Output (Some d) x = greatest_on d x

pub unless_crossed_on : (low d high : ℤ) → M.unless_crossed (on low) (on d) (on high) ≡ collector (B.unless_crossed low d high)
unless_crossed_on low d high = rw (lt_on high low, clamped_on d low high) (go (below high low))
  where
    go : (t : Bool) → cond t None (Some (record { minimum = on low; desired = on (B.clamped d low high); maximum = on high })) ≡ collector (cond t None (Some (record { minimum = low; desired = B.clamped d low high; maximum = high })))
    go true = refl
    go false = refl

pub first_x_on : (r : Z.Route) → M.first_x (route r) ≡ bound (B.first_x r)
first_x_on [] = refl
first_x_on (p ∷ ps) = refl

pub last_x_on : (r : Z.Route) → M.last_x (route r) ≡ bound (B.last_x r)
unfolding M.last_x B.last_x
last_x_on [] = refl
last_x_on (p ∷ []) = refl
last_x_on (p ∷ q ∷ ps) = last_x_on (q ∷ ps)

module _ (Q : ℤ → Type 0) where
  pub raised_of : (a : ℤ) (o : Option ℤ) → Q a → OfOption Q o → Q (B.raised a o)
  raised_of a None s t = s
  raised_of a (Some b) s t = pick_larger Q a b s t

  pub lowered_of : (a : ℤ) (o : Option ℤ) → Q a → OfOption Q o → Q (B.lowered a o)
  lowered_of a None s t = s
  lowered_of a (Some b) s t = pick_smaller Q a b s t

  pub clamped_of : (x low high : ℤ) → Q x → Q low → Q high → Q (B.clamped x low high)
  clamped_of x low high s t u = pick_smaller Q (larger x low) high (pick_larger Q x low s t) u

  pub tighter_of : (role : Role) (o : Option ℤ) (x : ℤ) → OfOption Q o → Q x → Q (B.tighter role o x)
  tighter_of role None x s t = t
  tighter_of Input (Some d) x s t = pick_smaller Q d x s t
  tighter_of Output (Some d) x s t = pick_larger Q d x s t

  abbrev pub OfCollector : Option S.Bounds → Type 0
  OfCollector None = Unit {0}
  OfCollector (Some r) = OfBounds Q r

  pub unless_crossed_of : (low d high : ℤ) → Q low → Q d → Q high → OfCollector (B.unless_crossed low d high)
  unless_crossed_of low d high s t u = go (below high low)
    where
      go : (w : Bool) → OfCollector (cond w None (Some (record { minimum = low; desired = B.clamped d low high; maximum = high })))
      go true = tt
      go false = (s, clamped_of d low high t s u, u)

  pub first_x_of : (r : Z.Route) → Every (λ (p : Z.Point). Q p.x) r → OfOption Q (B.first_x r)
  first_x_of [] h = tt
  first_x_of (p ∷ ps) h = h.0

  pub last_x_of : (r : Z.Route) → Every (λ (p : Z.Point). Q p.x) r → OfOption Q (B.last_x r)
  unfolding B.last_x
  last_x_of [] h = tt
  last_x_of (p ∷ []) h = h.0
  last_x_of (p ∷ q ∷ ps) h = last_x_of (q ∷ ps) h.1

  -- ---- what a search finds
  append_one : (x : ℤ) (xs : List ℤ) → Every Q xs → Q x → Every Q (xs ++ (x ∷ []))
  append_one x [] h k = (k, tt)
  append_one x (y ∷ ys) h k = (h.0, append_one x ys h.1 k)

  distinct_after_of : (x : ℤ) (ys : List ℤ) → Every Q ys → Every Q (S.distinct_after x ys)
  unfolding S.distinct_after
  distinct_after_of x [] h = tt
  distinct_after_of x (y ∷ ys) h = go (same x y) (S.distinct_after x ys) (S.distinct_after y ys) (distinct_after_of x ys h.1) (distinct_after_of y ys h.1)
    where
      go : (t : Bool) (l m : List ℤ) → Every Q l → Every Q m → Every Q (cond t l (y ∷ m))
      go true l m p q = p
      go false l m p q = (h.0, q)

  in_order_of : (role : Role) (xs : List ℤ) → Every Q xs → Every Q (S.in_order role xs)
  unfolding S.distinct
  in_order_of role xs h = go (S.sorted (falls role) xs) (sorted_held Q (falls role) xs h)
    where
      go : (l : List ℤ) → Every Q l → Every Q (S.distinct l)
      go [] k = tt
      go (x ∷ l) k = (k.0, distinct_after_of x l k.1)

  tried_of : (ms : List (List (Option S.Stretch))) (xs found : List ℤ) (v : ℕ) → Every Q xs → Every Q found → OfListing Q (S.tried ms xs found v)
  unfolding S.tried
  tried_of ms [] found v h k = k
  tried_of ms (x ∷ xs) found v h k = go (S.tried_on_all x ms v) (λ (w : ℕ). tried_of ms xs (found ++ (x ∷ [])) w h.1 (append_one x found k h.0)) (λ (w : ℕ). tried_of ms xs found w h.1 k)
    where
      go : (t : Tried) → ((w : ℕ) → OfListing Q (S.tried ms xs (found ++ (x ∷ [])) w)) → ((w : ℕ) → OfListing Q (S.tried ms xs found w)) → OfListing Q (after t (S.tried ms xs (found ++ (x ∷ []))) (S.tried ms xs found) S.spent)
      go (held w) f g = f w
      go (lacked w) f g = g w
      go unpaid f g = tt

  searched_of : (l : S.Listing) → OfListing Q l → OfOption Q (P.found_x (S.searched l).outcome)
  searched_of (S.listing [] v) h = tt
  searched_of (S.listing (x ∷ xs) v) h = h.0
  searched_of S.spent h = tt

  -- one of the bounds or an end of a stretch
  pub found_of : (role : Role) (r : S.Bounds) (ms : List (List (Option S.Stretch))) (v : ℕ) → OfBounds Q r → Every (Every (OfStretch Q)) ms → OfOption Q (P.found_x (S.search_of role r ms v).outcome)
  unfolding S.search_of
  found_of role r ms v b h = searched_of (S.then_tried role ms (S.gathered role r ms v)) (go (S.gathered role r ms v) (gathered_are Q role r ms v b h))
    where
      go : (l : S.Listing) → OfListing Q l → OfListing Q (S.then_tried role ms l)
      go (S.listing xs w) k = tried_of ms (S.in_order role xs) [] w (in_order_of role xs k) tt
      go S.spent k = tt

  -- held by a stretch of the first member
  abbrev pub Holding : Option S.Stretch → Type 0
  Holding s = (x : ℤ) → S.holds x s ≡ true → Q x

  tried_on_held : (x : ℤ) (ss : List (Option S.Stretch)) (v w : ℕ) → Every Holding ss → S.tried_on x ss v ≡ held w → Q x
  unfolding S.tried_on
  tried_on_held x [] v w h e = let z : ◌≡◌ {A = ℕ} 0 1 = cc in absurd (omega arith)
  tried_on_held x (s ∷ ss) zero w h e = let z : ◌≡◌ {A = ℕ} 0 1 = cc in absurd (omega arith)
  tried_on_held x (s ∷ ss) (suc v) w h e = go (S.holds x s) refl e (tried_on_held x ss v w h.1)
    where
      go : (t : Bool) → S.holds x s ≡ t → or_else t v (S.tried_on x ss v) ≡ held w → (S.tried_on x ss v ≡ held w → Q x) → Q x
      go true e f k = h.0 x e
      go false e f k = k f

  all_held : (x : ℤ) (m : List (Option S.Stretch)) (ms : List (List (Option S.Stretch))) (v w : ℕ) → Every Holding m → S.tried_on_all x (m ∷ ms) v ≡ held w → Q x
  unfolding S.tried_on_all
  all_held x m ms v w h e = go (S.tried_on x m v) refl e
    where
      go : (t : Tried) → S.tried_on x m v ≡ t → after t (S.tried_on_all x ms) lacked unpaid ≡ held w → Q x
      go (held u) f g = tried_on_held x m v u h f
      go (lacked u) f g = let z : ◌≡◌ {A = ℕ} 0 1 = cc in absurd (omega arith)
      go unpaid f g = let z : ◌≡◌ {A = ℕ} 0 1 = cc in absurd (omega arith)

  tried_held : (m : List (Option S.Stretch)) (ms : List (List (Option S.Stretch))) (xs found : List ℤ) (v : ℕ) → Every Holding m → Every Q found → OfListing Q (S.tried (m ∷ ms) xs found v)
  unfolding S.tried
  tried_held m ms [] found v h k = k
  tried_held m ms (x ∷ xs) found v h k = go (S.tried_on_all x (m ∷ ms) v) (λ w. all_held x m ms v w h) (λ (w : ℕ) (q : Q x). tried_held m ms xs (found ++ (x ∷ [])) w h (append_one x found k q)) (λ (w : ℕ). tried_held m ms xs found w h k)
    where
      go : (t : Tried) → ((w : ℕ) → t ≡ held w → Q x) → ((w : ℕ) → Q x → OfListing Q (S.tried (m ∷ ms) xs (found ++ (x ∷ [])) w)) → ((w : ℕ) → OfListing Q (S.tried (m ∷ ms) xs found w)) → OfListing Q (after t (S.tried (m ∷ ms) xs (found ++ (x ∷ []))) (S.tried (m ∷ ms) xs found) S.spent)
      go (held w) e f g = f w (e w refl)
      go (lacked w) e f g = g w
      go unpaid e f g = tt

  pub found_held : (role : Role) (r : S.Bounds) (m : List (Option S.Stretch)) (ms : List (List (Option S.Stretch))) (v : ℕ) → Every Holding m → OfOption Q (P.found_x (S.search_of role r (m ∷ ms) v).outcome)
  unfolding S.search_of
  found_held role r m ms v h = searched_of (S.then_tried role (m ∷ ms) (S.gathered role r (m ∷ ms) v)) (go (S.gathered role r (m ∷ ms) v))
    where
      go : (l : S.Listing) → OfListing Q (S.then_tried role (m ∷ ms) l)
      go (S.listing xs w) = tried_held m ms (S.in_order role xs) [] w h tt
      go S.spent = tt
