-- The order of x by role, the tests of a search as facts, and the first common candidate in the order of the keys.
-- Assumes nothing.
use Rattle.std.specs.Prelude.{◌≡◌, Bool, not, cond, ◌&&◌, ℕ, ◌≤◌, T, Float, Option, Some, None}
use Rattle.std.proofs.Math.Path.{refl}
use Rattle.std.proofs.Common.{sym, ◌∙◌, subst, inl, inr, true≢false, le_of_eq, arith}
use Rattle.std.proofs.Math.Bool.{true, false}
use mathlib.Core.List.{List, [], ◌∷◌}
use Rattle.std.specs.Float.Ieee.{le, lt, eq}
use Rattle.std.specs.Float.Ieee.Fits.{and_l, and_r}
use Rattle.binary64.specs.Bools.{either}
use Rattle.binary64.specs.Order.{least, greatest}
use Rattle.binary64.specs.Value.{le_refl_finite, le_trans_finite, not_lt→le, least_le_left, least_le_right, le_greatest_left, le_greatest_right, eq→same, at_most→le}
use Rattle.binary64.proofs.Fraction.{at_most_trans, le→AtMostℚ, AtMostℚ→le}
use Rattle.binary64.specs.Rational.{Fraction, AtMostℚ, value}
use Rattle.binary64.proofs.Total.{key_order}
use Rattle.geometry.specs.declared.Role.{Role}
use Rattle.geometry.specs.declared.Role.TheVariants.{Input, Output}
use Rattle.geometry.specs.Stretch.{holds}
use Rattle.sorting.specs.Sort.{sort_key}
use Rattle.sorting.specs.Sorted.{every_map, Ordered}
use Rattle.sorting.specs.Lists.{In, Every}
use Rattle.sorting.proofs.Keys.{total_key_below, sort_key_once}
use Rattle.search.specs.declared.Outcome.{Outcome}
use Rattle.search.specs.declared.Outcome.TheVariants.{Found, Nothing, Spent}
use Rattle.search.specs.declared.Bounds.{Bounds}
use Rattle.search.specs.Search.{falls, first}
use Rattle.search.specs.Freely.{hits, common, commons}
use Rattle.search.specs.Good.{Holds, HoldsAll, HoldsSome, Real, RealStretch}
use Rattle.search.specs.BestOrder.{UpToℚ, UpTo, far, Fair}

-- ---- the order, by role
pub upto_refl : (role : Role) (x : Float) → Real x → UpTo role x x
upto_refl Input x r = le_refl_finite x r.0
upto_refl Output x r = le_refl_finite x r.0

pub upto_trans : (role : Role) (x y z : Float) → Real x → Real y → Real z → UpTo role x y → UpTo role y z → UpTo role x z
upto_trans Input x y z r s t h k = le_trans_finite x y z r.0 s.0 t.0 h k
upto_trans Output x y z r s t h k = le_trans_finite z y x t.0 s.0 r.0 k h

pub upto_ℚ : (role : Role) (q : Fraction) (x y : Float) → Real x → Real y → UpToℚ role q x → UpTo role x y → UpToℚ role q y
upto_ℚ Input q x y r s h k = at_most_trans q (value x) (value y) h (le→AtMostℚ x y r.0 s.0 k)
upto_ℚ Output q x y r s h k = at_most_trans (value y) (value x) q (le→AtMostℚ y x s.0 r.0 k) h

pub equal_below : (x y : Float) → Real x → Real y → T (eq x y) → T (le x y)
equal_below x y r s h = at_most→le x y r.0 s.0 (le_of_eq (eq→same x y r.0 s.0 h))

pub equal_above : (x y : Float) → Real x → Real y → T (eq x y) → T (le y x)
equal_above x y r s h = at_most→le y x s.0 r.0 (le_of_eq (sym (eq→same x y r.0 s.0 h)))

-- where desired lies
pub record Aims (role : Role) (b : Bounds) : Type 0 where
  pub from : T (le b.minimum b.desired)
  pub to : T (le b.desired b.maximum)
  pub aim : UpTo role (far role b.minimum b.maximum) b.desired

pub aims : (role : Role) (b : Bounds) → Fair role b → Aims role b
aims Input b f = record {
  from = le_trans_finite b.minimum b.maximum b.desired f.minimum_real.0 f.maximum_real.0 f.desired_real.0 f.ordered (equal_above b.desired b.maximum f.desired_real f.maximum_real f.aimed);
  to = equal_below b.desired b.maximum f.desired_real f.maximum_real f.aimed;
  aim = equal_above b.desired b.maximum f.desired_real f.maximum_real f.aimed;
}
aims Output b f = record {
  from = equal_above b.desired b.minimum f.desired_real f.minimum_real f.aimed;
  to = le_trans_finite b.desired b.minimum b.maximum f.desired_real.0 f.minimum_real.0 f.maximum_real.0 (equal_below b.desired b.minimum f.desired_real f.minimum_real f.aimed) f.ordered;
  aim = equal_below b.desired b.minimum f.desired_real f.minimum_real f.aimed;
}

pub between : (x y : Float) (q : Fraction) → Real x → Real y → AtMostℚ (value x) q → AtMostℚ q (value y) → T (le x y)
between x y q r s h k = AtMostℚ→le x y r.0 s.0 (at_most_trans (value x) q (value y) h k)

-- the less far of the two
pub less_far : Role → Float → Float → Float
less_far Input a b = least a b
less_far Output a b = greatest a b

pub less_far_ind : (role : Role) (a b : Float) (P : Float → Type 0) → P a → P b → P (less_far role a b)
unfolding less_far
less_far_ind Input a b P p q = either (lt b a) b a P q p
less_far_ind Output a b P p q = either (lt a b) b a P q p

pub less_far_left : (role : Role) (a b : Float) → Real a → Real b → UpTo role (less_far role a b) a
unfolding less_far
less_far_left Input a b r s = least_le_left a b r.0 s.0
less_far_left Output a b r s = le_greatest_left a b r.0 s.0

pub less_far_right : (role : Role) (a b : Float) → Real a → Real b → UpTo role (less_far role a b) b
unfolding less_far
less_far_right Input a b r s = least_le_right a b r.0 s.0
less_far_right Output a b r s = le_greatest_right a b r.0 s.0

pub not_above : (x y : Float) → Real x → Real y → lt x y ≡ false → T (le y x)
not_above x y r s h = not_lt→le x y r.0 s.0 (subst (λ (t : Bool). T (not t)) (sym h) tt)

-- ---- keys
pub key_upto : (role : Role) (x y : Float) → Real x → Real y → sort_key (falls role) x ≤ sort_key (falls role) y → UpTo role y x
unfolding sort_key
key_upto Input x y r s h = key_order y x s.0 r.0 s.1 r.1 (omega (arith, total_key_below x r.1, total_key_below y s.1))
key_upto Output x y r s h = key_order x y r.0 s.0 r.1 s.1 h

pub key_once : (role : Role) (x y : Float) → Real x → Real y → sort_key (falls role) x ≡ sort_key (falls role) y → x ≡ y
key_once role x y r s h = sort_key_once (falls role) x y r.1 s.1 h

-- ---- the tests, as facts
pub both : (a b : Bool) → T a → T b → (a && b) ≡ true
both true true s t = refl
both true false s t = absurd t
both false b s t = absurd s

pub in_stretch : (x : Float) (s : Option (Float × Float)) → Real x → RealStretch s → holds x s ≡ true → Holds (value x) s
in_stretch x None r s e = absurd (true≢false (sym e))
in_stretch x (Some (l, h)) r s e =
    let t : T (le l x && le x h) = subst T (sym e) tt in
    (le→AtMostℚ l x s.0.0 r.0 (and_l (le l x) (le x h) t), le→AtMostℚ x h r.0 s.1.0 (and_r (le l x) (le x h) t))

pub hits_holds : (x : Float) (ss : List (Option (Float × Float))) → Real x → Every RealStretch ss → hits x ss ≡ true → HoldsSome (value x) ss
unfolding hits
hits_holds x [] r e h = absurd (true≢false (sym h))
hits_holds x (s ∷ ss) r e h = go (holds x s) refl h (hits_holds x ss r e.1)
  where
    go : (t : Bool) → holds x s ≡ t → cond t true (hits x ss) ≡ true → (hits x ss ≡ true → HoldsSome (value x) ss) → HoldsSome (value x) (s ∷ ss)
    go true i k f = inl (in_stretch x s r e.0 i)
    go false i k f = inr (f k)

pub common_holds : (x : Float) (ms : List (List (Option (Float × Float)))) → Real x → Every (Every RealStretch) ms → common x ms ≡ true → HoldsAll (value x) ms
unfolding common
common_holds x [] r e h = tt
common_holds x (m ∷ ms) r e h = go (hits x m) refl h (common_holds x ms r e.1)
  where
    go : (t : Bool) → hits x m ≡ t → cond t (common x ms) false ≡ true → (common x ms ≡ true → HoldsAll (value x) ms) → HoldsAll (value x) (m ∷ ms)
    go true i k f = (hits_holds x m r e.0 i, f k)
    go false i k f = absurd (true≢false (sym k))

-- ---- the first common candidate, in order of the keys
abbrev pub First : (Float → ℕ) → List (List (Option (Float × Float))) → List Float → Outcome → Type 0
First key ms xs (Found x) = In x xs × (common x ms ≡ true) × Every (λ (y : Float). common y ms ≡ true → key x ≤ key y) xs
First key ms xs Nothing = Every (λ (y : Float). common y ms ≡ false) xs
First key ms xs Spent = ⊥

module _ (key : Float → ℕ) (ms : List (List (Option (Float × Float)))) where
  pub one_back : (x : Float) (xs : List Float) (f : Outcome) → common x ms ≡ false → First key ms xs f → First key ms (x ∷ xs) f
  one_back x xs (Found y) e h = (inr h.0, h.1, ((λ (c : common x ms ≡ true). absurd (true≢false (sym c ∙ e))), h.2))
  one_back x xs Nothing e h = (e, h)
  one_back x xs Spent e h = h

  pub first_common : (xs : List Float) → Ordered key xs → First key ms xs (first (commons ms xs))
  unfolding commons
  first_common [] o = tt
  first_common (x ∷ xs) o = go (common x ms) refl (first_common xs o.1)
    where
      go : (t : Bool) → common x ms ≡ t → First key ms xs (first (commons ms xs)) → First key ms (x ∷ xs) (first (cond t (x ∷ commons ms xs) (commons ms xs)))
      go true e f = (inl refl, e, ((λ (c : common x ms ≡ true). omega arith), every_map (λ (y : Float). key x ≤ key y) (λ (y : Float). common y ms ≡ true → key x ≤ key y) xs (λ y h c. h) o.0))
      go false e f = one_back x xs (first (commons ms xs)) e f
