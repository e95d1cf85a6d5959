-- After the last shift no number of a collector is negative: in whole numbers, for every sheet. Assumes nothing.
use Rattle.std.specs.Prelude.{◌≡◌, refl, ◌+◌, ◌≤◌, ◌<◌, Bool, true, false, not, ◌||◌, cond, ℤ, pos, negsuc, ◌-ℤ◌, T}
use Rattle.std.proofs.Common.{arith, ltb→lt, nltb→le, eqb→eq}
use mathlib.Core.List.{List, [], ◌∷◌, ◌++◌, map}
use Rattle.binary64.specs.Rational.{plus, less, AtMostℤ}
use Rattle.binary64.specs.Integers.{sub_parts_ℤ}
use Rattle.sorting.specs.Lists.{Every}
use Rattle.grid.specs.On.{below, same, smaller}
use Rattle.grid_plan.specs.Board.{Point, PlacedNode}
use Rattle.grid_sheet.specs.Draw.{pt, Drawn}
use Rattle.grid_sheet.specs.Page.{Sheet, route_points, tap_points, drawn_points, all_points, least_of, min_x, min_y, shifted, shifted_drawn, shifted_sheet, moved}

-- not negative
abbrev pub Forward : ℤ → Type 0
Forward z = less z ≡ 0

-- ---- the least of some numbers is at most each of them
at_most_trans : (a b c : ℤ) → AtMostℤ a b → AtMostℤ b c → AtMostℤ a c
at_most_trans a b c h k = omega arith

smaller_left : (a b : ℤ) → AtMostℤ (smaller a b) a
smaller_left a b = go (below b a) (ltb→lt (plus b + less a) (plus a + less b))
  where
    go : (t : Bool) → (T t → plus b + less a < plus a + less b) → AtMostℤ (cond t b a) a
    go true f = let h = f tt in omega arith
    go false f = omega arith

smaller_right : (a b : ℤ) → AtMostℤ (smaller a b) b
smaller_right a b = go (below b a) (nltb→le (plus b + less a) (plus a + less b))
  where
    go : (t : Bool) → (T (not t) → plus a + less b ≤ plus b + less a) → AtMostℤ (cond t b a) b
    go true f = omega arith
    go false f = let h = f tt in omega arith

least_first : (m : ℤ) (xs : List ℤ) → AtMostℤ (least_of m xs) m
unfolding least_of
least_first m [] = omega arith
least_first m (x ∷ xs) = at_most_trans (least_of (smaller m x) xs) (smaller m x) m (least_first (smaller m x) xs) (smaller_left m x)

least_each : (m : ℤ) (xs : List ℤ) → Every (AtMostℤ (least_of m xs)) xs
unfolding least_of
least_each m [] = tt
least_each m (x ∷ xs) = (at_most_trans (least_of (smaller m x) xs) (smaller m x) x (least_first (smaller m x) xs) (smaller_right m x), least_each (smaller m x) xs)

-- ---- picking the collectors' ends out of all points
every_right : {A : Type 0} (P : A → Type 0) (xs ys : List A) → Every P (xs ++ ys) → Every P ys
every_right P [] ys h = h
every_right P (x ∷ xs) ys h = every_right P xs ys h.1

every_unmap : {A B : Type 0} (P : B → Type 0) (f : A → B) (xs : List A) → Every P (map f xs) → Every (λ (a : A). P (f a)) xs
every_unmap P f [] h = tt
every_unmap P f (x ∷ xs) h = (h.0, every_unmap P f xs h.1)

-- both ends of a collector
abbrev Ends : (Point → Type 0) → Drawn → Type 0
Ends P d = P d.collector.start × P d.collector.end

pick_ends : (P : Point → Type 0) (ds : List Drawn) → Every P (drawn_points ds) → Every (Ends P) ds
unfolding drawn_points
pick_ends P [] h = tt
pick_ends P (d ∷ ds) h = ((h.0, h.1.0), pick_ends P ds (every_right P (tap_points d.taps) (drawn_points ds) h.1.1.1.1))

ends_of : (P : Point → Type 0) (s : Sheet) → Every P (all_points s) → Every (Ends P) s.drawn
unfolding all_points
ends_of P s h = pick_ends P s.drawn (every_right P (route_points s.routes) (drawn_points s.drawn) h)

ends_x : (s : Sheet) → Every (Ends (λ (p : Point). AtMostℤ (min_x s) p.x)) s.drawn
unfolding min_x
ends_x s =
    let f : Point → ℤ = λ (p : Point). p.x in
    let ns = map (λ (n : PlacedNode). n.body.corner.x) s.nodes in
    let m = least_of (pos 0) (ns ++ map f (all_points s)) in
    ends_of (λ (p : Point). AtMostℤ m p.x) s (every_unmap (AtMostℤ m) f (all_points s) (every_right (AtMostℤ m) ns (map f (all_points s)) (least_each (pos 0) (ns ++ map f (all_points s)))))

ends_y : (s : Sheet) → Every (Ends (λ (p : Point). AtMostℤ (min_y s) p.y)) s.drawn
unfolding min_y
ends_y s =
    let f : Point → ℤ = λ (p : Point). p.y in
    let ns = map (λ (n : PlacedNode). n.body.corner.y) s.nodes in
    let m = least_of (pos 0) (ns ++ map f (all_points s)) in
    ends_of (λ (p : Point). AtMostℤ m p.y) s (every_unmap (AtMostℤ m) f (all_points s) (every_right (AtMostℤ m) ns (map f (all_points s)) (least_each (pos 0) (ns ++ map f (all_points s)))))

-- ---- less the least, no number is negative
forward_less : (o a : ℤ) → AtMostℤ o a → Forward (a -ℤ o)
forward_less o a h = go (a -ℤ o) (sub_parts_ℤ a o)
  where
    go : (z : ℤ) → plus z + (less a + plus o) ≡ plus a + less o + less z → Forward z
    go (pos n) e = refl
    go (negsuc n) e = absurd (omega arith)

forward_same : (o a : ℤ) → T (same o (pos 0)) → AtMostℤ o a → Forward a
forward_same o (pos n) t h = refl
forward_same o (negsuc n) t h = let e = eqb→eq (plus o + 0) (0 + less o) t in absurd (omega arith)

-- what the page prints
pub record Onward (d : Drawn) : Type 0 where
  pub start_x : Forward d.collector.start.x
  pub start_y : Forward d.collector.start.y
  pub end_x : Forward d.collector.end.x
  pub end_y : Forward d.collector.end.y

module _ (mx my : ℤ) where
  shifted_onward : (ds : List Drawn) → Every (Ends (λ (p : Point). AtMostℤ mx p.x)) ds → Every (Ends (λ (p : Point). AtMostℤ my p.y)) ds → Every Onward (map (shifted_drawn (pt mx my)) ds)
  unfolding shifted_drawn shifted
  shifted_onward [] h k = tt
  shifted_onward (d ∷ ds) h k = (
    record {
      start_x = forward_less mx d.collector.start.x h.0.0;
      start_y = forward_less my d.collector.start.y k.0.0;
      end_x = forward_less mx d.collector.end.x h.0.1;
      end_y = forward_less my d.collector.end.y k.0.1;
    },
    shifted_onward ds h.1 k.1,
  )

  kept_onward : T (same mx (pos 0)) → T (same my (pos 0)) → (ds : List Drawn) → Every (Ends (λ (p : Point). AtMostℤ mx p.x)) ds → Every (Ends (λ (p : Point). AtMostℤ my p.y)) ds → Every Onward ds
  kept_onward s t [] h k = tt
  kept_onward s t (d ∷ ds) h k = (
    record {
      start_x = forward_same mx d.collector.start.x s h.0.0;
      start_y = forward_same my d.collector.start.y t k.0.0;
      end_x = forward_same mx d.collector.end.x s h.0.1;
      end_y = forward_same my d.collector.end.y t k.0.1;
    },
    kept_onward s t ds h.1 k.1,
  )

-- no printed number has a sign
pub moved_onward : (s : Sheet) → Every Onward (moved s).drawn
unfolding moved shifted_sheet
moved_onward s = go (same (min_x s) (pos 0)) (same (min_y s) (pos 0)) (λ t. t) (λ t. t)
  where
    go : (a b : Bool) → (T a → T (same (min_x s) (pos 0))) → (T b → T (same (min_y s) (pos 0))) → Every Onward (cond (not a || not b) (shifted_sheet (pt (min_x s) (min_y s)) s) s).drawn
    go true true f g = kept_onward (min_x s) (min_y s) (f tt) (g tt) s.drawn (ends_x s) (ends_y s)
    go true false f g = shifted_onward (min_x s) (min_y s) s.drawn (ends_x s) (ends_y s)
    go false b f g = shifted_onward (min_x s) (min_y s) s.drawn (ends_x s) (ends_y s)
