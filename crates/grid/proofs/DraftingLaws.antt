-- The whole number of parts that a number of a grid is (`multiple_within`), and for the drafting grid of document 02, F-2 (`on_drafting_grid`; any other number gets 15) the even whole number over 128.
-- Assumes nothing.
use Rattle.std.specs.Prelude.{◌≡◌, refl, ℕ, suc, ◌+◌, ◌*◌, ◌/◌, ◌%◌, ◌^◌, ◌≤◌, ◌<◌, Bool, true, false, cond, ℤ, pos, negsuc, nat_abs, neg_ℤ, T, eqb, leb, Float}
use Rattle.std.proofs.Common.{sym, subst, le_trans, le_of_eq, mul-le-mul_right, mul_right_comm, le_of_mul-le-mul_right, div-add-mod', arith, leb→le, eqb→eq}
use Rattle.std.specs.Float.{nan, inf, fin}
use Rattle.std.specs.Float.Ieee.{up, down, le}
use Rattle.std.specs.Float.Ieee.Fits.{and_l, and_r, down_pos}
use Rattle.binary64.proofs.Plain.{Plain}
use Rattle.binary64.specs.ExactOnGrid.{At}
use Rattle.binary64.specs.Accepted.{zero64}
use Rattle.binary64.specs.Rational.{less}
use Rattle.binary64.specs.Integers.{neg_plus, neg_less}
use Rattle.grid.specs.On.{on, at_most, Even}
use Rattle.grid.proofs.OnLaws.{on_zero}
use Rattle.grid.proofs.Operations.{le_on, is_on}
use Rattle.binary64.specs.ExactOnGrid.{neg_size}
use Rattle.grid.specs.DraftingGrid.{multiple_within, on_drafting_grid, parts_of, sixty_fourths, units}
use Rattle.grid.proofs.Lanes.{double_size, finer}

pub units_even : (x : Float) → Even (units x)
units_even x = record { half = sixty_fourths x; is = refl }

whole_part : (n d : ℕ) → T (eqb (n % d) 0) → n / d * d ≡ n
whole_part n d t = let e = div-add-mod' n d in let z = eqb→eq (n % d) 0 t in omega arith

pub at_parts : (g : ℕ) (x : Float) → T (multiple_within g x) → At g x (parts_of g x)
unfolding multiple_within parts_of
at_parts g nan t = absurd t
at_parts g (inf s) t = absurd t
at_parts g (fin false m e) t =
    let w = whole_part (m * up e * 2 ^ g) (down e) (and_l (eqb (m * up e * 2 ^ g % down e) 0) (leb (m * up e) (2 ^ 20 * down e)) t) in
    record { is_finite = tt; is = omega (arith, w) }
at_parts g (fin true m e) t =
    let q = m * up e * 2 ^ g / down e in
    let w = whole_part (m * up e * 2 ^ g) (down e) (and_l (eqb (m * up e * 2 ^ g % down e) 0) (leb (m * up e) (2 ^ 20 * down e)) t) in
    record { is_finite = tt; is = rw (neg_plus (pos q), neg_less (pos q)) (omega (arith, w)) }

small_part : (a q d G : ℕ) → 0 < d → q * d ≡ a * G → a ≤ 2 ^ 20 * d → q ≤ 2 ^ 20 * G
small_part a q d G D e h = le_of_mul-le-mul_right {k = d} (le_trans (le_of_eq e) (le_trans (mul-le-mul_right G h) (le_of_eq (mul_right_comm (2 ^ 20) d G)))) D

pub parts_small : (g : ℕ) (x : Float) → T (multiple_within g x) → nat_abs (parts_of g x) ≤ 2 ^ 20 * 2 ^ g
unfolding multiple_within parts_of
parts_small g nan t = absurd t
parts_small g (inf s) t = absurd t
parts_small g (fin s m e) t = go s
  where
    small : m * up e * 2 ^ g / down e ≤ 2 ^ 20 * 2 ^ g
    small =
        let a = eqb (m * up e * 2 ^ g % down e) 0 in
        let b = leb (m * up e) (2 ^ 20 * down e) in
        small_part (m * up e) (m * up e * 2 ^ g / down e) (down e) (2 ^ g) (down_pos e) (whole_part (m * up e * 2 ^ g) (down e) (and_l a b t)) (leb→le (m * up e) (2 ^ 20 * down e) (and_r a b t))

    go : (s : Bool) → nat_abs (cond s (neg_ℤ (pos (m * up e * 2 ^ g / down e))) (pos (m * up e * 2 ^ g / down e))) ≤ 2 ^ 20 * 2 ^ g
    go true = le_trans (le_of_eq (neg_size (pos (m * up e * 2 ^ g / down e)))) small
    go false = small

pub units_small : (x : Float) → T (on_drafting_grid x) → nat_abs (units x) ≤ 2 ^ 27
units_small x t = let h = parts_small 6 x t in omega (arith, double_size (sixty_fourths x))

-- the number is that whole number over 128
pub units_back : (x : Float) → T (on_drafting_grid x) → Plain x → on (units x) ≡ x
units_back x t p = sym (is_on x (units x) (let h = units_small x t in omega arith) p (finer 6 x (sixty_fourths x) (at_parts 6 x t)))

-- a number that is not below zero
pub units_length : (x : Float) → T (on_drafting_grid x) → Plain x → T (le zero64 x) → less (units x) ≡ 0
units_length x t p h = go (units x) (subst T (le_on (pos 0) (units x)) (subst (λ (y : Float). T (le (on (pos 0)) y)) (sym (units_back x t p)) (subst (λ (y : Float). T (le y x)) (sym on_zero) h)))
  where
    go : (z : ℤ) → T (at_most (pos 0) z) → less z ≡ 0
    go (pos n) k = refl
    go (negsuc n) k = absurd (let w = leb→le (0 + suc n) (0 + 0) k in omega arith)
