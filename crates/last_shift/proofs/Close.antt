-- Whatever the job: a coordinate in the answer is within 2 ^ -20 of the exact one. Rounding keeps the order and leaves the multiples of 2 ^ -20 below 2 ^ 33 alone, so a difference and its rounding lie between the same two. Assumes nothing.
use Rattle.std.specs.Prelude.{◌≡◌, Bool, ℤ, pos, neg_ℤ, T, Float}
use Rattle.std.proofs.Math.Path.{refl}
use Rattle.std.proofs.Common.{sym, subst, le_trans, add-mul, mul_comm, mul_assoc, mul_left_comm, mul-pos, mul-le-mul_right, le_of_mul-le-mul_right, mod-lt, arith, pow_pos}
use Rattle.std.proofs.Math.Bool.{true, false}
use Prim.Native.Nat.{ℕ, suc, ◌+◌, ◌*◌, ◌/◌, ◌%◌, ◌^◌, ◌≤◌, ◌<◌}
use Rattle.std.proofs.Math.Nat.{div-add-mod}
use Rattle.std.specs.Float.{binary64}
use Rattle.std.specs.Float.Ieee.{round, sub, le}
use Rattle.std.specs.Float.Ieee.Positive.{den}
use Rattle.std.specs.Float.Ieee.Scale.{finite}
use Rattle.binary64.specs.Rational.{plus, less, Fraction, AtMostℚ, value}
use Rattle.binary64.specs.Integers.{neg_plus, neg_less}
use Rattle.binary64.specs.Value.{num_parts}
use Rattle.binary64.specs.Range.{Bounded, bounded_mono, sub_bounded}
use Rattle.binary64.specs.Monotone.{plus_of, less_of, round_mono_signed}
use Rattle.binary64.proofs.Fraction.{at_most_trans, value_plus, value_less, value_den, le→AtMostℚ}
use Rattle.exact.specs.Exact.{plusℚ, minusℚ}
use Rattle.exact.proofs.Between.{same→at_most, same→at_least}
use Rattle.exact.proofs.Near.{sub_rounded}
use Rattle.drawing.specs.Normal.{Sheet, min_x, min_y}
use Rattle.ranges.proofs.Corridors.{held, zero_bounded}
use Rattle.ranges.specs.Extent.{InX, InY}
use Rattle.ranges.specs.Coordinates.{OfPlaced}
use Rattle.ranges.proofs.Page.{corner_fine, placed_weaker}
use Rattle.last_shift.proofs.Fractions.{P, L, D, most_in, plus_mono, difference_parts, sum_parts}
use Rattle.binary64.specs.ExactOnGrid.{At, round_on_grid, value_parts}
use Rattle.last_shift.specs.Shift.{over_grid, tiny, Close, CloseLess}
use Rattle.last_shift.proofs.GridSteps.{at_out}

-- ---- ± q / 2 ^ 20 as a number
signed : Bool → ℕ → ℤ
signed false q = pos q
signed true q = neg_ℤ (pos q)

grid_float : (s : Bool) (q : ℕ) → q < 2 ^ 53 → At 20 (round binary64 s q (2 ^ 20)) (signed s q)
unfolding signed
grid_float false q h =
    let r = value_parts (round binary64 false q (2 ^ 20)) false q (2 ^ 20) (round_on_grid false 20 q (2 ^ 20) q (omega arith) (pow_pos 20) h refl) in
    record { is_finite = r.0; is = r.1 }
grid_float true q h =
    let r = value_parts (round binary64 true q (2 ^ 20)) true q (2 ^ 20) (round_on_grid true 20 q (2 ^ 20) q (omega arith) (pow_pos 20) h refl) in
    record { is_finite = r.0; is = rw (neg_plus (pos q), neg_less (pos q)) r.1 }

-- ---- the two multiples around n / c
below_it : (n c G : ℕ) → 0 < c → n * G / c * c ≤ n * G
below_it n c G C = let d = div-add-mod (n * G) c in go (n * G) (n * G / c) (n * G % c) c d
  where
    go : (a q r c : ℕ) → c * q + r ≡ a → q * c ≤ a
    go a q r c d = let e = mul_comm q c in omega arith

above_it : (n c G : ℕ) → 0 < c → n * G ≤ suc (n * G / c) * c
above_it n c G C = go (n * G) (n * G / c) (n * G % c) c (div-add-mod (n * G) c) (mod-lt (n * G) C)
  where
    go : (a q r c : ℕ) → c * q + r ≡ a → r < c → a ≤ suc q * c
    go a q r c d l = let e = mul_comm q c in omega arith

-- r and e lie between two neighbours
pub record Caught (r e : Fraction) : Type 0 where
  pub low : Fraction
  pub high : Fraction
  pub next : AtMostℚ high (plusℚ low tiny)
  pub r_low : AtMostℚ low r
  pub r_high : AtMostℚ r high
  pub e_low : AtMostℚ low e
  pub e_high : AtMostℚ e high

caught_close : (r e : Fraction) → Caught r e → Close r e
caught_close r e c = record {
  above = at_most_trans r c.high (plusℚ e tiny) c.r_high (at_most_trans c.high (plusℚ c.low tiny) (plusℚ e tiny) c.next (plus_mono c.low e tiny c.e_low));
  below = at_most_trans e c.high (plusℚ r tiny) c.e_high (at_most_trans c.high (plusℚ c.low tiny) (plusℚ r tiny) c.next (plus_mono c.low r tiny c.r_low));
}

step : (a b : ℤ) → plus b + less a ≡ suc (plus a) + less b → AtMostℚ (over_grid b 20) (plusℚ (over_grid a 20) tiny)
step a b h =
    let s = sum_parts (over_grid a 20) tiny in
    most_in (over_grid b 20) (plusℚ (over_grid a 20) tiny) (omega (arith, s))

-- ---- a rounded fraction and the fraction, by the sign
module _ (z : Float) (n c : ℕ) (e : Fraction) (C : 0 < c) (few : suc (n * 2 ^ 20 / c) < 2 ^ 53) (f : T (finite z)) (d : e.denominator ≡ c) where
  low_e : (x : ℕ) (w : ℤ) (s : Bool) → w ≡ signed s x → plus e.numerator + less_of s n ≡ plus_of s n + less e.numerator → plus_of s x * c + less_of s n * 2 ^ 20 ≤ plus_of s n * 2 ^ 20 + less_of s x * c → AtMostℚ (over_grid w 20) e
  unfolding signed
  low_e x w false u h k = rw u (most_in (over_grid (pos x) 20) e (rw d (omega (arith, h, k))))
  low_e x w true u h k = rw u (most_in (over_grid (neg_ℤ (pos x)) 20) e (rw (d, neg_plus (pos x), neg_less (pos x)) (omega (arith, h, k))))

  high_e : (x : ℕ) (w : ℤ) (s : Bool) → w ≡ signed s x → plus e.numerator + less_of s n ≡ plus_of s n + less e.numerator → plus_of s n * 2 ^ 20 + less_of s x * c ≤ plus_of s x * c + less_of s n * 2 ^ 20 → AtMostℚ e (over_grid w 20)
  unfolding signed
  high_e x w false u h k = rw u (most_in e (over_grid (pos x) 20) (rw d (omega (arith, h, k))))
  high_e x w true u h k = rw u (most_in e (over_grid (neg_ℤ (pos x)) 20) (rw (d, neg_plus (pos x), neg_less (pos x)) (omega (arith, h, k))))

  low_z : (x : ℕ) (s : Bool) → x < 2 ^ 53 → z ≡ round binary64 s n c → plus_of s x * c + less_of s n * 2 ^ 20 ≤ plus_of s n * 2 ^ 20 + less_of s x * c → AtMostℚ (over_grid (signed s x) 20) (value z)
  low_z x s few' u k =
      let y = round binary64 s x (2 ^ 20) in
      let g = grid_float s x few' in
      at_most_trans (over_grid (signed s x) 20) (value y) (value z) (same→at_least (value y) (over_grid (signed s x) 20) (at_out 20 y (signed s x) g))
      (le→AtMostℚ y z g.is_finite f (subst (λ (w : Float). T (le y w)) (sym u) (round_mono_signed s x (2 ^ 20) s n c (pow_pos 20) C k)))

  high_z : (x : ℕ) (s : Bool) → x < 2 ^ 53 → z ≡ round binary64 s n c → plus_of s n * 2 ^ 20 + less_of s x * c ≤ plus_of s x * c + less_of s n * 2 ^ 20 → AtMostℚ (value z) (over_grid (signed s x) 20)
  high_z x s few' u k =
      let y = round binary64 s x (2 ^ 20) in
      let g = grid_float s x few' in
      at_most_trans (value z) (value y) (over_grid (signed s x) 20) (le→AtMostℚ z y f g.is_finite (subst (λ (w : Float). T (le w y)) (sym u) (round_mono_signed s n c s x (2 ^ 20) C (pow_pos 20) k)))
      (same→at_most (value y) (over_grid (signed s x) 20) (at_out 20 y (signed s x) g))

  caught : (s : Bool) → z ≡ round binary64 s n c → plus e.numerator + less_of s n ≡ plus_of s n + less e.numerator → Caught (value z) e
  unfolding signed
  caught false u h =
      let m = n * 2 ^ 20 / c in
      let a = below_it n c (2 ^ 20) C in
      let b = above_it n c (2 ^ 20) C in
      let fewer : m < 2 ^ 53 = omega (arith, few) in
      let A : m * c + 0 * 2 ^ 20 ≤ n * 2 ^ 20 + 0 * c = omega (arith, a) in
      let B : n * 2 ^ 20 + 0 * c ≤ suc m * c + 0 * 2 ^ 20 = omega (arith, b) in
      record {
        low = over_grid (pos m) 20;
        high = over_grid (pos (suc m)) 20;
        next = step (pos m) (pos (suc m)) (omega arith);
        r_low = low_z m false fewer u A;
        r_high = high_z (suc m) false few u B;
        e_low = low_e m (pos m) false refl h A;
        e_high = high_e (suc m) (pos (suc m)) false refl h B;
      }
  caught true u h =
      let m = n * 2 ^ 20 / c in
      let a = below_it n c (2 ^ 20) C in
      let b = above_it n c (2 ^ 20) C in
      let fewer : m < 2 ^ 53 = omega (arith, few) in
      let A : 0 * 2 ^ 20 + m * c ≤ 0 * c + n * 2 ^ 20 = omega (arith, a) in
      let B : 0 * c + n * 2 ^ 20 ≤ 0 * 2 ^ 20 + suc m * c = omega (arith, b) in
      record {
        low = over_grid (neg_ℤ (pos (suc m))) 20;
        high = over_grid (neg_ℤ (pos m)) 20;
        next = step (neg_ℤ (pos (suc m))) (neg_ℤ (pos m)) (rw (neg_plus (pos m), neg_less (pos m)) (omega arith));
        r_low = low_z (suc m) true few u B;
        r_high = high_z m true fewer u A;
        e_low = low_e (suc m) (neg_ℤ (pos (suc m))) true refl h B;
        e_high = high_e m (neg_ℤ (pos m)) true refl h A;
      }

-- ---- a difference of two numbers of a sheet
size_of : (x : Float) → Bounded 2414870528 x → P (value x) + L (value x) ≤ 2414870528 * D (value x)
size_of x h = rw (value_plus x, value_less x, value_den x) (subst (λ (k : ℕ). k ≤ 2414870528 * den x) (num_parts x) h.size)

sizes_of : (pv lv dv pw lw dw B : ℕ) → pv + lv ≤ B * dv → pw + lw ≤ B * dw → pv * dw + lw * dv + (lv * dw + pw * dv) ≤ (B + B) * (dv * dw)
sizes_of pv lv dv pw lw dw B h k =
    let a = simp (add-mul, mul_assoc, mul_comm, mul_left_comm) at (mul-le-mul_right dw h) in
    let b = simp (add-mul, mul_assoc, mul_comm, mul_left_comm) at (mul-le-mul_right dv k) in
    simp (add-mul, mul_assoc, mul_comm, mul_left_comm) (omega arith)

within : (s : Bool) (n a b : ℕ) → plus_of s n + a ≡ b + less_of s n → n ≤ b + a
within false n a b h = omega arith
within true n a b h = omega arith

few_of : (n c : ℕ) → 0 < c → n ≤ (2414870528 + 2414870528) * c → suc (n * 2 ^ 20 / c) < 2 ^ 53
few_of n c C h = go (n * 2 ^ 20 / c) (below_it n c (2 ^ 20) C)
  where
    go : (q : ℕ) → q * c ≤ n * 2 ^ 20 → suc q < 2 ^ 53
    go q k =
        let l : q * c ≤ 4829741056 * 2 ^ 20 * c = omega (arith, k, h) in
        let m : q ≤ 4829741056 * 2 ^ 20 = le_of_mul-le-mul_right l C in
        omega (arith, m)

pub sub_close : (x o : Float) → Bounded 2414870528 x → Bounded 2414870528 o → T (finite (sub binary64 x o)) → Close (value (sub binary64 x o)) (minusℚ (value x) (value o))
sub_close x o a b f =
    let v = value x in
    let w = value o in
    let r = sub_rounded x o a.is_finite b.is_finite in
    let e = minusℚ v w in
    let c = v.denominator * w.denominator in
    let C = mul-pos v.above_zero w.above_zero in
    let t = within r.sign r.size (L v * D w + P w * D v) (P v * D w + L w * D v) r.parts in
    let n = le_trans t (sizes_of (P v) (L v) (D v) (P w) (L w) (D w) 2414870528 (size_of x a) (size_of o b)) in
    caught_close (value (sub binary64 x o)) e
    (caught (sub binary64 x o) r.size c e C (few_of r.size c C n) f refl r.sign r.is (omega (arith, r.parts, difference_parts v w)))

-- ---- a sheet
abbrev B : Float → Type 0
B x = Bounded 2414870528 x

less_close : (o x : Float) → B o → B x → CloseLess o x
less_close o x a b = sub_close x o b a (sub_bounded 2414870528 2414870528 x o (held (2414870528 + 2414870528) (omega arith)) b a).is_finite

pub sheet_close : (s : Sheet) → OfPlaced InX InY s → OfPlaced (CloseLess (min_x s)) (CloseLess (min_y s)) s
sheet_close s h =
    let wide : (x : Float) → InX x → B x = λ x k. bounded_mono 2149580800 2414870528 x (omega arith) k in
    let o = corner_fine B B (zero_bounded 2414870528) (zero_bounded 2414870528) s (placed_weaker InX InY B B wide (λ y k. k) s h) in
    placed_weaker InX InY (CloseLess (min_x s)) (CloseLess (min_y s)) (λ x k. less_close (min_x s) x o.0 (wide x k)) (λ y k. less_close (min_y s) y o.1 k) s h
