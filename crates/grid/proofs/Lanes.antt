-- Lanes, halves, the same-place test, the pitch less the tolerance and the sort keys on numbers of the grid.
-- Assumes nothing.
use Rattle.std.specs.Prelude.{◌≡◌, refl, ℕ, zero, suc, ◌+◌, ◌*◌, ◌^◌, ◌≤◌, ◌<◌, Bool, true, false, ℤ, pos, negsuc, nat_abs, ◌+ℤ◌, ◌-ℤ◌, ◌*ℤ◌, T, eqb, Float}
use Rattle.std.proofs.Common.{sym, ap, ◌∙◌, subst, lt_irrefl, mul_comm, mul_right_comm, add-mul, mul-le-mul, mul-pos, zero-mul, zero-lt-suc, arith, true≢false, eqb→eq, lit≤}
use Rattle.std.specs.Float.{nan, inf, fin, binary64}
use Rattle.std.specs.Float.Ieee.{up, down, odd, round, add, sub, mul, div, of_int}
use Rattle.std.specs.Float.Ieee.Fits.{down_pos, mul-fits, of_int-fits}
use Rattle.std.specs.Float.Ieee.Positive.{den}
use Rattle.binary64.specs.Bools.{is_false}
use Rattle.binary64.specs.Value.{over, under}
use Rattle.binary64.specs.Range.{half, div_two}
use Rattle.binary64.proofs.Plain.{round_plain, add_plain}
use Rattle.binary64.specs.ExactOnGrid.{At}
use Rattle.binary64.specs.Accepted.{minus_zero}
use Rattle.binary64.specs.Rational.{plus, less}
use Rattle.binary64.specs.Integers.{add_parts}
use Rattle.binary64.specs.ExactOnGrid.{add_exact, sub_exact}
use Rattle.grid.proofs.GridArithmetic.{half_exact, mul_exact, of_int_exact}
use Rattle.grid.specs.On.{half_of, on}
use Rattle.grid.proofs.OnLaws.{on_at, on_plain}
use Rattle.grid.proofs.Operations.{is_on, subtract_size, add_size, times_size}

-- ---- finer grids
-- z / 2 ^ g is (2 z) / 2 ^ (g + 1)
pub finer : (g : ℕ) (x : Float) (z : ℤ) → At g x z → At (suc g) x (z +ℤ z)
finer g x z h =
    let e = h.is in
    let p = add_parts z z in
    record { is_finite = h.is_finite; is = go (over x) (under x) (den x) (2 ^ g) (2 ^ suc g) (plus z) (less z) (plus (z +ℤ z)) (less (z +ℤ z)) (omega arith) e p }
  where
    go : (o u d G H p l P L : ℕ) → H ≡ G + G → o * G + l * d ≡ p * d + u * G → P + (l + l) ≡ p + p + L → o * H + L * d ≡ P * d + u * H
    go o u d G H p l P L w e f =
        let a : P * d + (l + l) * d ≡ (p + p) * d + L * d = sym (add-mul P (l + l) d) ∙ ap (λ (k : ℕ). k * d) f ∙ add-mul (p + p) L d in
        rw w (omega arith)

-- and back
pub coarser : (g : ℕ) (x : Float) (z : ℤ) → At (suc g) x (z +ℤ z) → At g x z
coarser g x z h =
    let e = h.is in
    let p = add_parts z z in
    record { is_finite = h.is_finite; is = go (over x) (under x) (den x) (2 ^ g) (2 ^ suc g) (plus z) (less z) (plus (z +ℤ z)) (less (z +ℤ z)) (omega arith) e p }
  where
    go : (o u d G H p l P L : ℕ) → H ≡ G + G → o * H + L * d ≡ P * d + u * H → P + (l + l) ≡ p + p + L → o * G + l * d ≡ p * d + u * G
    go o u d G H p l P L w e f =
        let a : P * d + (l + l) * d ≡ (p + p) * d + L * d = sym (add-mul P (l + l) d) ∙ ap (λ (k : ℕ). k * d) f ∙ add-mul (p + p) L d in
        let k = rw w at e in
        omega arith

-- a whole number n is 128 n / 128
whole_at : (x : Float) (n : ℕ) → At 0 x (pos n) → At 7 x (pos (n * 128))
whole_at x n h = let e = h.is in record { is_finite = h.is_finite; is = go (over x) (under x) (den x) n e }
  where
    go : (o u d n : ℕ) → o * 2 ^ 0 + 0 * d ≡ n * d + u * 2 ^ 0 → o * 2 ^ 7 + 0 * d ≡ n * 128 * d + u * 2 ^ 7
    go o u d n e = let k : n * 128 * d ≡ 128 * (n * d) = mul_right_comm n 128 d ∙ mul_comm (n * d) 128 in omega arith

-- ---- signs
-- numbers with the sign clear
abbrev Clear : Float → Type 0
Clear nan = ⊥
Clear (inf s) = ⊥
Clear (fin s m e) = s ≡ false

mul_clear : (x y : Float) → Clear x → Clear y → minus_zero (mul binary64 x y) ≡ false
unfolding mul
mul_clear nan y p q = absurd p
mul_clear (inf s) y p q = absurd p
mul_clear (fin s m e) nan p q = absurd q
mul_clear (fin s m e) (inf t) p q = absurd q
mul_clear (fin true m e) (fin t n d) p q = absurd (true≢false p)
mul_clear (fin false m e) (fin true n d) p q = absurd (true≢false q)
mul_clear (fin false m e) (fin false n d) p q = round_plain (m * up e * (n * up d)) (down e * down d)

on_clear : (n : ℕ) → Clear (on (pos n))
unfolding on odd
on_clear zero = refl
on_clear (suc n) = refl

-- a whole number
pub number_on : (n : ℕ) → n ≤ 2 ^ 46 → of_int binary64 (pos n) ≡ on (pos (n * 128))
number_on n h =
    is_on (of_int binary64 (pos n)) (pos (n * 128)) (omega arith) (sign n, of_int-fits binary64 (pos n))
    (whole_at (of_int binary64 (pos n)) n (of_int_exact (pos n) (omega arith)))
  where
    sign : (n : ℕ) → minus_zero (of_int binary64 (pos n)) ≡ false
    sign n = unfold of_int in round_plain n 1

-- so many lanes of a pitch that is not negative
pub lanes_on : (n p : ℕ) → n ≤ 2 ^ 10 → p ≤ 2 ^ 40 → mul binary64 (of_int binary64 (pos n)) (on (pos p)) ≡ on (pos (n * p))
lanes_on n p h k =
    let b : n * p ≤ 2 ^ 10 * 2 ^ 40 = mul-le-mul h k in
    let e : of_int binary64 (pos n) ≡ on (pos (n * 128)) = number_on n (omega arith) in
    let c : Clear (of_int binary64 (pos n)) = subst Clear (sym e) (on_clear (n * 128)) in
    is_on (mul binary64 (of_int binary64 (pos n)) (on (pos p))) (pos (n * p)) (omega arith) (mul_clear (of_int binary64 (pos n)) (on (pos p)) c (on_clear p), mul-fits binary64 (of_int binary64 (pos n)) (on (pos p)))
    (mul_exact 0 7 (of_int binary64 (pos n)) (on (pos p)) (pos n) (pos p) (lit≤ tt) (omega arith) (of_int_exact (pos n) (omega arith)) (on_at (pos p)))

-- ---- halves
pub half_even : (w : ℤ) → half_of (w +ℤ w) ≡ w
half_even (pos n) = ap pos (omega arith)
half_even (negsuc n) = ap negsuc (omega arith)

pub double_size : (w : ℤ) → nat_abs (w +ℤ w) ≡ nat_abs w + nat_abs w
double_size (pos n) = refl
double_size (negsuc n) = omega arith

two : of_int binary64 (pos 2) ≡ fin false 1 (pos 1)
unfolding of_int round
two = refl

half_sign : (s : Bool) (m : ℕ) (e : ℤ) → 0 < m → minus_zero (fin s m e) ≡ false
unfolding minus_zero
half_sign s zero e h = absurd (lt_irrefl 0 h)
half_sign true (suc m) e h = is_false (eqb (suc m) 0) (λ (w : T (eqb (suc m) 0)). let z = eqb→eq (suc m) 0 w in absurd (omega arith))
half_sign false (suc m) e h = refl

-- a number whose value is not zero is not minus zero
not_zero : (g : ℕ) (x : Float) (n : ℕ) → At g x (negsuc n) → minus_zero x ≡ false
not_zero g nan n h = absurd h.is_finite
not_zero g (inf s) n h = absurd h.is_finite
not_zero g (fin s (suc m) e) n h = half_sign s (suc m) e (zero-lt-suc m)
not_zero g (fin true zero e) n h = absurd (no (up e) (2 ^ g) (down e) (down_pos e) h.is)
  where
    no : (u G d : ℕ) → 0 < d → 0 * G + suc n * d ≡ 0 * d + 0 * u * G → ⊥
    no u G d D e = let a = mul-pos (zero-lt-suc n) D in omega (arith, zero-mul G, zero-mul d, zero-mul u)
not_zero g (fin false zero e) n h = absurd (no (up e) (2 ^ g) (down e) (down_pos e) h.is)
  where
    no : (u G d : ℕ) → 0 < d → 0 * u * G + suc n * d ≡ 0 * d + 0 * G → ⊥
    no u G d D e = let a = mul-pos (zero-lt-suc n) D in omega (arith, zero-mul G, zero-mul d, zero-mul u)

pub half_on : (w : ℤ) → nat_abs w < 2 ^ 52 → div binary64 (on (w +ℤ w)) (of_int binary64 (pos 2)) ≡ on w
half_on w h =
    let x = on (w +ℤ w) in
    let e : div binary64 x (of_int binary64 (pos 2)) ≡ half x = ap (div binary64 x) two ∙ div_two x in
    let a : At 7 (half x) w = half_exact 6 x w (lit≤ tt) (omega arith) (coarser 6 x w (on_at (w +ℤ w))) in
    e ∙ is_on (half x) w (omega arith) (sign w a, mul-fits binary64 x (fin false 1 (negsuc 0))) a
  where
    sign : (w : ℤ) → At 7 (half (on (w +ℤ w))) w → minus_zero (half (on (w +ℤ w))) ≡ false
    sign (pos n) a = mul_clear (on (pos (n + n))) (fin false 1 (negsuc 0)) (on_clear (n + n)) refl
    sign (negsuc n) a = not_zero 7 (half (on (negsuc n +ℤ negsuc n))) n a

-- ---- a rail's tap: y + (lane − (count − 1) / 2) × pitch, with a pitch of q + q
pub rail_on : (y q : ℤ) (l k : ℕ) → nat_abs y ≤ 2 ^ 40 → nat_abs q ≤ 2 ^ 30 → l ≤ 2 ^ 10 → k ≤ 2 ^ 10
    → add binary64 (on y) (mul binary64 (sub binary64 (of_int binary64 (pos l)) (div binary64 (of_int binary64 (pos k)) (of_int binary64 (pos 2)))) (on (q +ℤ q))) ≡ on (y +ℤ ((pos (l + l) -ℤ pos k) *ℤ q))
rail_on y q l k Y Q L K =
    let c = div binary64 (of_int binary64 (pos k)) (of_int binary64 (pos 2)) in
    let d = sub binary64 (of_int binary64 (pos l)) c in
    let m = mul binary64 d (on (q +ℤ q)) in
    let t = pos (l + l) -ℤ pos k in
    let e : c ≡ half (of_int binary64 (pos k)) = ap (div binary64 (of_int binary64 (pos k))) two ∙ div_two (of_int binary64 (pos k)) in
    let ac : At 1 c (pos k) = subst (λ (x : Float). At 1 x (pos k)) (sym e) (half_exact 0 (of_int binary64 (pos k)) (pos k) (lit≤ tt) (omega arith) (of_int_exact (pos k) (omega arith))) in
    let al : At 1 (of_int binary64 (pos l)) (pos (l + l)) = finer 0 (of_int binary64 (pos l)) (pos l) (of_int_exact (pos l) (omega arith)) in
    let ad : At 1 d t = sub_exact 1 (of_int binary64 (pos l)) c (pos (l + l)) (pos k) (lit≤ tt) (omega arith) al ac in
    let st : nat_abs t ≤ 2 ^ 12 = (let z = subtract_size (pos (l + l)) (pos k) in omega arith) in
    let sm : nat_abs t * nat_abs q ≤ 2 ^ 12 * 2 ^ 30 = mul-le-mul st Q in
    let am : At 7 m (t *ℤ q) = mul_exact 1 6 d (on (q +ℤ q)) t q (lit≤ tt) (omega arith) ad (coarser 6 (on (q +ℤ q)) q (on_at (q +ℤ q))) in
    let ts = times_size t q in
    let sy : nat_abs (y +ℤ (t *ℤ q)) ≤ nat_abs y + nat_abs (t *ℤ q) = add_size y (t *ℤ q) in
    is_on (add binary64 (on y) m) (y +ℤ (t *ℤ q)) (omega arith) (add_plain (on y) m (on_plain y (omega arith)) (mul-fits binary64 d (on (q +ℤ q))))
    (add_exact 7 (on y) m y (t *ℤ q) (lit≤ tt) (omega arith) (on_at y) am)
