-- The numbers that pass 18: how they are tested, how large they are, and which they are with bit 2 set. Assumes nothing.
use Rattle.std.specs.Prelude.{◌*◌, ◌^◌, ◌≤◌, ◌≡◌, refl, Bool, true, false, not, ◌&&◌, cond, List, [], ◌∷◌, T, ℤ, pos, nat_abs, Float}
use Rattle.std.proofs.Common.{sym, ap, ◌∙◌, subst, true≢false, mul-one, zero-mul, mul-le-mul_right, arith}
use Rattle.std.specs.Float.{nan, inf, fin, binary64}
use Rattle.std.specs.Float.Ieee.{fits, le, eq}
use Rattle.std.specs.Float.Ieee.Bits.{is_true}
use Rattle.std.specs.Float.Ieee.Positive.{den}
use Rattle.std.specs.Float.Ieee.Scale.{finite}
use Rattle.binary64.specs.Accepted.{zero64, is_coordinate, minus_zero, plus_zero, two_to}
use Rattle.binary64.specs.ExactOnGrid.{at_size}
use Rattle.binary64.proofs.Kind.{within, by_tests, plus_zero_plain, finite_between}
use Rattle.binary64.specs.Range.{Within}
use Rattle.binary64.specs.Value.{over, under, num_parts, at_most→le, eq→same}
use Rattle.grid.specs.DraftingGrid.{on_plan_grid, parts_of}
use Rattle.grid.proofs.DraftingLaws.{at_parts, parts_small}
use Rattle.grid.proofs.Exactly.{near_is_planned}
use Rattle.grid.specs.On.{on}
use Rattle.grid.proofs.OnLaws.{on_at, on_plain}
use Rattle.grid.proofs.Operations.{is_on}
use Rattle.sorting.specs.Lists.{Every}
use Rattle.plan.specs.declared.Bound.{Bound}
use Rattle.plan.specs.declared.Bound.TheVariants.{None, At}
use Rattle.plan.proofs.CarriedNumbers.{OfBound}
use Rattle.plan_bytes.specs.PlanBytes.{plannable, every_planned}

abbrev pub lowest : Float
lowest = fin true 1 (pos 30)

abbrev pub highest : Float
highest = two_to 30

-- ---- a coordinate, minus zero as plus zero

-- either zero is between them
zero_from : (x : Float) → T (finite x) → T (eq x zero64) → T (le lowest x) × T (le x highest)
zero_from x f e =
    let s = eq→same x zero64 f tt e in (
      at_most→le lowest x tt f (omega (arith, s, zero-mul (den x), mul-one (over x), mul-one (under x))),
      at_most→le x highest f tt (omega (arith, s, zero-mul (den x), mul-one (over x), mul-one (under x))),
    )

zero_finite : (x : Float) → eq x zero64 ≡ true → T (finite x)
unfolding eq
zero_finite nan e = absurd (true≢false (sym e))
zero_finite (inf s) e = absurd (true≢false (sym e))
zero_finite (fin s m d) e = tt

same_tests : (x : Float) → (le lowest (plus_zero x) && le (plus_zero x) highest) ≡ (le lowest x && le x highest)
unfolding plus_zero le
same_tests x = go (eq x zero64) refl
  where
    go : (b : Bool) → eq x zero64 ≡ b → (le lowest (cond b zero64 x) && le (cond b zero64 x) highest) ≡ (le lowest x && le x highest)
    go false e = refl
    go true e =
        let z = zero_from x (zero_finite x e) (subst T (sym e) tt) in
        rw (is_true (le lowest x) z.0, is_true (le x highest) z.1)

true_right : (t : Bool) → (t && true) ≡ t
true_right true = refl
true_right false = refl

-- THE TEST OF A COORDINATE: two comparisons; minus zero passes
pub coordinate_tests : (x : Float) → is_coordinate (plus_zero x) ≡ (le lowest x && le x highest)
coordinate_tests x =
    by_tests lowest highest (plus_zero x) tt tt
    ∙ ap (λ (t : Bool). (le lowest (plus_zero x) && le (plus_zero x) highest) && not t) (plus_zero_plain x)
    ∙ true_right (le lowest (plus_zero x) && le (plus_zero x) highest) ∙ same_tests x

pub both : (a b : Bool) → (a && b) ≡ true → (a ≡ true) × (b ≡ true)
both true true e = (refl, refl)
both true false e = absurd (true≢false (sym e))
both false b e = absurd (true≢false (sym e))

-- ---- a number that passes is within 2 ^ 30, and minus zero is
pub plannable_within : (grid : Bool) (x : Float) → plannable grid x ≡ true → Within 30 x
unfolding plannable
plannable_within grid x e =
    let c = (both (is_coordinate (plus_zero x)) (cond grid (not (minus_zero x) && on_plan_grid x) true) e).0 in
    let t = both (le lowest x) (le x highest) (sym (coordinate_tests x) ∙ c) in
    within 30 x (record { is_finite = subst T (sym (finite_between lowest highest x tt tt t.0 t.1)) tt; from = subst T (sym t.0) tt; to = subst T (sym t.1) tt })

pub every_within : (grid : Bool) (xs : List Bound) → every_planned (plannable grid) xs ≡ true → Every (OfBound (Within 30)) xs
unfolding every_planned
every_within grid [] e = tt
every_within grid (None ∷ xs) e = (tt, every_within grid xs e)
every_within grid (At x ∷ xs) e =
    let b = both (plannable grid x) (every_planned (plannable grid) xs) e in
    (plannable_within grid x b.0, every_within grid xs b.1)

-- ---- a number within 2 ^ 30 passes where bit 2 is clear
to_top : (x : Float) → Within 30 x → T (le x highest)
to_top x h = at_most→le x highest h.is_finite tt (let p = num_parts x in let s = h.size in omega (arith, zero-mul (den x), mul-one (over x), mul-one (under x)))

from_bottom : (x : Float) → Within 30 x → T (le lowest x)
from_bottom x h = at_most→le lowest x tt h.is_finite (let p = num_parts x in let s = h.size in omega (arith, zero-mul (den x), mul-one (over x), mul-one (under x)))

coordinate_of : (x : Float) → Within 30 x → is_coordinate (plus_zero x) ≡ true
coordinate_of x h = coordinate_tests x ∙ rw (is_true (le lowest x) (from_bottom x h), is_true (le x highest) (to_top x h)) refl

pub within_plannable : (x : Float) → Within 30 x → plannable false x ≡ true
unfolding plannable
within_plannable x h = rw (coordinate_of x h)

pub all_plannable : (xs : List Bound) → Every (OfBound (Within 30)) xs → every_planned (plannable false) xs ≡ true
unfolding every_planned
all_plannable [] e = refl
all_plannable (None ∷ xs) e = all_plannable xs e.1
all_plannable (At x ∷ xs) e = rw (within_plannable x e.0, all_plannable xs e.1)

-- ---- with bit 2 set: the whole numbers over 128 up to 2 ^ 20, and no others
near_within : (z : ℤ) → nat_abs z ≤ 2 ^ 27 → Within 30 (on z)
near_within z h =
    let s = at_size 7 (on z) z (on_at z) in
    let k : nat_abs z * den (on z) ≤ 2 ^ 27 * den (on z) = mul-le-mul_right (den (on z)) h in
    record { is_finite = (on_at z).is_finite; size = omega arith }

pub near_plannable : (z : ℤ) → nat_abs z ≤ 2 ^ 27 → plannable true (on z) ≡ true
unfolding plannable
near_plannable z h =
    let p = on_plain z (omega (arith, h)) in
    rw (coordinate_of (on z) (near_within z h), p.0, near_is_planned z h)

-- the whole number over 128 of a number that passes
pub record OnGrid (x : Float) : Type 0 where
  pub whole : ℤ
  pub is : x ≡ on whole
  pub near : nat_abs whole ≤ 2 ^ 27

not_false : (b : Bool) → not b ≡ true → b ≡ false
not_false true e = absurd (true≢false (sym e))
not_false false e = refl

pub plannable_on_grid : (x : Float) → T (fits binary64 x) → plannable true x ≡ true → OnGrid x
unfolding plannable
plannable_on_grid x f e =
    let g = (both (is_coordinate (plus_zero x)) (not (minus_zero x) && on_plan_grid x) e).1 in
    let m = both (not (minus_zero x)) (on_plan_grid x) g in
    let t : T (on_plan_grid x) = subst T (sym m.1) tt in
    let s = parts_small 7 x t in
    let n : nat_abs (parts_of 7 x) ≤ 2 ^ 27 = omega (arith, s) in
    record { whole = parts_of 7 x; is = is_on x (parts_of 7 x) (omega (arith, n)) (not_false (minus_zero x) m.0, f) (at_parts 7 x t); near = n }
