-- The same-place test is plain equality on the grid, the pitch less the tolerance is the pitch to every distance of the grid, and totalOrder is the order of the whole numbers.
-- Assumes nothing.
use Rattle.std.specs.Prelude.{◌≡◌, ℕ, ◌+◌, ◌-◌, ◌^◌, ◌≤◌, ◌<◌, Bool, true, false, not, ℤ, nat_abs, T, leb, eqb, Float}
use Rattle.std.proofs.Common.{sym, ap, ◌∙◌, subst, lt_irrefl, arith, leb→le, le→leb, eqb→eq}
use Rattle.std.proofs.Math.Dec.{nleb→lt}
use Rattle.std.specs.Float.Ieee.{le}
use Rattle.std.specs.Float.Ieee.Fits.{eq→eqb}
use Rattle.binary64.specs.Bools.{as_one}
use Rattle.binary64.specs.Order.{total_key}
use Rattle.binary64.proofs.Total.{key_order}
use Rattle.sorting.specs.Sort.{sort_key}
use Rattle.sorting.proofs.Keys.{total_key_below, sort_key_once}
use Rattle.binary64.specs.Rational.{plus, less}
use Rattle.binary64.specs.Integers.{by_parts}
use Rattle.grid.specs.On.{comes, on, at_most, same}
use Rattle.grid.proofs.OnLaws.{on_finite, on_fits}
use Rattle.grid.proofs.Operations.{le_on}

-- ---- totalOrder
equal : (a b : ℤ) → T (at_most a b) → T (at_most b a) → a ≡ b
equal a b s t = let u = leb→le (plus a + less b) (plus b + less a) s in let w = leb→le (plus b + less a) (plus a + less b) t in by_parts a b (omega arith)

key_on : (a b : ℤ) → nat_abs a ≤ 2 ^ 53 → nat_abs b ≤ 2 ^ 53 → leb (total_key (on a)) (total_key (on b)) ≡ at_most a b
key_on a b A B = as_one (leb (total_key (on a)) (total_key (on b))) (at_most a b) forth (λ t. back t (leb (total_key (on a)) (total_key (on b))) (nleb→lt (total_key (on a)) (total_key (on b))))
  where
    forth : T (leb (total_key (on a)) (total_key (on b))) → T (at_most a b)
    forth t = subst T (le_on a b) (key_order (on a) (on b) (on_finite a) (on_finite b) (on_fits a A) (on_fits b B) (leb→le (total_key (on a)) (total_key (on b)) t))

    back : T (at_most a b) → (w : Bool) → (T (not w) → total_key (on b) < total_key (on a)) → T w
    back t true f = tt
    back t false f =
        let k = f tt in
        let u : T (at_most b a) = subst T (le_on b a) (key_order (on b) (on a) (on_finite b) (on_finite a) (on_fits b B) (on_fits a A) (omega arith)) in
        let e : a ≡ b = equal a b t u in
        lt_irrefl (total_key (on b)) (subst (λ (z : ℤ). total_key (on b) < total_key (on z)) e k)

flipped : (m x y : ℕ) → x < m → y < m → leb (m - 1 - x) (m - 1 - y) ≡ leb y x
flipped m x y h k = as_one (leb (m - 1 - x) (m - 1 - y)) (leb y x) (λ t. let l = leb→le (m - 1 - x) (m - 1 - y) t in le→leb y x (omega arith)) (λ t. let l = leb→le y x t in le→leb (m - 1 - x) (m - 1 - y) (omega arith))

pub sort_on : (falling : Bool) (a b : ℤ) → nat_abs a ≤ 2 ^ 53 → nat_abs b ≤ 2 ^ 53 → leb (sort_key falling (on a)) (sort_key falling (on b)) ≡ comes falling a b
unfolding sort_key
sort_on true a b A B = flipped (2 ^ 64) (total_key (on a)) (total_key (on b)) (total_key_below (on a) (on_fits a A)) (total_key_below (on b) (on_fits b B)) ∙ key_on b a B A
sort_on false a b A B = key_on a b A B

pub once_on : (falling : Bool) (a b : ℤ) → nat_abs a ≤ 2 ^ 53 → nat_abs b ≤ 2 ^ 53 → eqb (sort_key falling (on a)) (sort_key falling (on b)) ≡ same a b
once_on falling a b A B = as_one (eqb (sort_key falling (on a)) (sort_key falling (on b))) (same a b) forth back
  where
    forth : T (eqb (sort_key falling (on a)) (sort_key falling (on b))) → T (same a b)
    forth t =
        let e : on a ≡ on b = sort_key_once falling (on a) (on b) (on_fits a A) (on_fits b B) (eqb→eq (sort_key falling (on a)) (sort_key falling (on b)) t) in
        let u : T (at_most a a) = le→leb (plus a + less a) (plus a + less a) (omega arith) in
        let x : T (at_most a b) = subst T (le_on a b) (subst (λ (z : Float). T (le (on a) z)) e (subst T (sym (le_on a a)) u)) in
        let y : T (at_most b a) = subst T (le_on b a) (subst (λ (z : Float). T (le z (on a))) e (subst T (sym (le_on a a)) u)) in
        let i = leb→le (plus a + less b) (plus b + less a) x in
        let j = leb→le (plus b + less a) (plus a + less b) y in
        let m : plus a + less b ≡ plus b + less a = omega arith in
        eq→eqb m

    back : T (same a b) → T (eqb (sort_key falling (on a)) (sort_key falling (on b)))
    back t = let e : a ≡ b = by_parts a b (eqb→eq (plus a + less b) (plus b + less a) t) in eq→eqb (ap (λ (z : ℤ). sort_key falling (on z)) e)
