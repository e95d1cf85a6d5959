-- How a grid is tested: x raised by 1.5 * 2 ^ (52 - g) is rounded to a multiple of 1 / 2 ^ g, so x is one exactly if it comes back equal. And sums that are exact wherever their result has at most 53 digits.
-- Assumes nothing.
use Rattle.std.specs.Prelude.{◌≡◌, ℕ, zero, suc, ◌+◌, ◌-◌, ◌*◌, ◌%◌, ◌^◌, ◌≤◌, ◌<◌, Bool, true, false, not, ◌&&◌, cond, ℤ, pos, negsuc, nat_abs, neg_ℤ, ◌+ℤ◌, ◌-ℤ◌, T, ltb, leb, eqb, Float}
use Rattle.std.proofs.Math.Path.{refl}
use Rattle.std.proofs.Common.{sym, ap, ◌∙◌, subst, inl, inr, mul-le-mul_left, mul-le-mul_right, mul_right_comm, lt_irrefl, one-mul, mul-one, zero-mul, pow-suc, mul_comm, mul_assoc, mul_left_comm, add-mul, mul-pos, le_of_mul-le-mul_right, zero-lt-suc, arith, ltb→lt, leb→le, le→leb, lit≤, pow-add, pow_pos, pow_mono}
use Rattle.std.proofs.Math.Nat.{mul-mod_left, eq_of_mul-eq-mul_right}
use Rattle.std.proofs.Math.Dec.{nleb→lt}
use Rattle.std.specs.Float.{nan, inf, fin, binary64}
use Rattle.std.specs.Float.Ieee.{up, down, round, add, sub, neg, le, eq, fits}
use Rattle.std.specs.Float.Ieee.Fits.{and_i, and_l, and_r, eq→eqb, down_pos, add-fits}
use Rattle.std.specs.Float.Ieee.Positive.{den, den_pos}
use Rattle.std.specs.Float.Ieee.Scale.{finite}
use Rattle.std.specs.Float.Ieee.Bits.{is_true}
use Rattle.binary64.specs.Bools.{as_one}
use Rattle.binary64.proofs.Kind.{finite_between}
use Rattle.binary64.specs.Value.{over, under, le_trans_finite, le→at_most, at_most→le, eq→same, le_total_finite, le_antisymm_finite}
use Rattle.binary64.specs.Monotone.{plus_of, less_of, add_rounded, add_mono}
use Rattle.binary64.specs.ExactOnGrid.{At}
use Rattle.binary64.specs.Accepted.{two_to}
use Rattle.binary64.specs.Rational.{plus, less}
use Rattle.binary64.specs.Integers.{by_parts, add_parts, neg_plus, neg_less}
use Rattle.binary64.specs.ExactOnGrid.{at_size, round_on_grid, value_parts, neg_exact}
use Rattle.grid.proofs.GridArithmetic.{lt→Belowℤ}
use Rattle.grid.proofs.Operations.{add_size}
use Rattle.grid.proofs.DraftingLaws.{at_parts, parts_small}
use Rattle.grid.specs.DraftingGrid.{multiple_within, parts_of}
use Rattle.grid.specs.Grids.{parts, raise}
use Rattle.grid.specs.declared.Grid.{Grid}
use Rattle.grid.specs.declared.Grid.TheVariants.{Drafting, Plan}

-- ---- sums whose result has at most 53 digits
balanced : (s t ox ux dx oy uy dy G pa la pb lb P L : ℕ)
    → s + (ux * dy + uy * dx) ≡ ox * dy + oy * dx + t → ox * G + la * dx ≡ pa * dx + ux * G → oy * G + lb * dy ≡ pb * dy + uy * G → P + (la + lb) ≡ pa + pb + L
    → s * G + L * (dx * dy) ≡ P * (dx * dy) + t * G
balanced s t ox ux dx oy uy dy G pa la pb lb P L h x y p =
    let h' = simp (add-mul, mul_assoc, mul_comm, mul_left_comm) at (ap (λ (z : ℕ). z * G) h) in
    let x' = simp (add-mul, mul_assoc, mul_comm, mul_left_comm) at (ap (λ (z : ℕ). z * dy) x) in
    let y' = simp (add-mul, mul_assoc, mul_comm, mul_left_comm) at (ap (λ (z : ℕ). z * dx) y) in
    let p' = simp (add-mul, mul_assoc, mul_comm, mul_left_comm) at (ap (λ (z : ℕ). z * (dx * dy)) p) in
    simp (add-mul, mul_assoc, mul_comm, mul_left_comm) (omega arith)

size_of : (s : Bool) (n : ℕ) (z : ℤ) (G c : ℕ) → 0 < c → plus_of s n * G + less z * c ≡ plus z * c + less_of s n * G → n * G ≡ nat_abs z * c
size_of false n (pos k) G c C h = omega arith
size_of false n (negsuc k) G c C h = absurd (let p = mul-pos (zero-lt-suc k) C in omega arith)
size_of true n (pos k) G c C h = omega arith
size_of true n (negsuc k) G c C h = omega arith

finished : (oz uz dz s t c G P L : ℕ) → 0 < c → oz * c + t * dz ≡ s * dz + uz * c → s * G + L * c ≡ P * c + t * G → oz * G + L * dz ≡ P * dz + uz * G
finished oz uz dz s t c G P L C h k =
    let h' = simp (add-mul, mul_assoc, mul_comm, mul_left_comm) at (ap (λ (z : ℕ). z * G) h) in
    let k' = simp (add-mul, mul_assoc, mul_comm, mul_left_comm) at (ap (λ (z : ℕ). z * dz) k) in
    eq_of_mul-eq-mul_right c C (oz * G + L * dz) (P * dz + uz * G) (simp (add-mul, mul_assoc, mul_comm, mul_left_comm) (omega arith))

pub sum_on_grid : (g : ℕ) (x y : Float) (a b : ℤ) → g ≤ 1074 → nat_abs (a +ℤ b) < 2 ^ 53 → At g x a → At g y b → At g (add binary64 x y) (a +ℤ b)
sum_on_grid g x y a b G N h k =
    let r = add_rounded x y h.is_finite k.is_finite in
    let c = den x * den y in
    let C : 0 < c = mul-pos (den_pos x) (den_pos y) in
    let z = a +ℤ b in
    let e : plus_of r.sign r.size * 2 ^ g + less z * c ≡ plus z * c + less_of r.sign r.size * 2 ^ g =
    balanced (plus_of r.sign r.size) (less_of r.sign r.size) (over x) (under x) (den x) (over y) (under y) (den y) (2 ^ g) (plus a) (less a) (plus b) (less b) (plus z) (less z) r.parts h.is k.is (add_parts a b) in
    let w = round binary64 r.sign r.size c in
    let v = value_parts w r.sign r.size c (round_on_grid r.sign g r.size c (nat_abs z) G C N (size_of r.sign r.size z (2 ^ g) c C e)) in
    subst (λ (q : Float). At g q z) (sym r.is)
    (record { is_finite = v.0; is = finished (over w) (under w) (den w) (plus_of r.sign r.size) (less_of r.sign r.size) c (2 ^ g) (plus z) (less z) C v.1 e })

pub difference_on_grid : (g : ℕ) (x y : Float) (a b : ℤ) → g ≤ 1074 → nat_abs (a -ℤ b) < 2 ^ 53 → At g x a → At g y b → At g (sub binary64 x y) (a -ℤ b)
unfolding sub
difference_on_grid g x y a b G N h k = sum_on_grid g x (neg y) a (neg_ℤ b) G N h (neg_exact g y b k)

-- ---- equal values
pub at_equal : (g : ℕ) (x y : Float) (z : ℤ) → At g x z → At g y z → T (eq x y)
at_equal g x y z h k = le_antisymm_finite x y h.is_finite k.is_finite (under x y h k) (under y x k h)
  where
    under : (x y : Float) → At g x z → At g y z → T (le x y)
    under x y h k = elim (le_total_finite x y h.is_finite k.is_finite) [ inl u ↦ u | inr u ↦ absurd (lt_irrefl (plus z + less z) (lt→Belowℤ g y x z z k h u)) ]

pub at_of_equal : (g : ℕ) (x y : Float) (z : ℤ) → T (finite y) → T (eq x y) → At g x z → At g y z
at_of_equal g x y z t e a =
    let s = eq→same x y a.is_finite t e in
    record { is_finite = t; is = move (over x) (under x) (den x) (over y) (under y) (den y) (2 ^ g) (plus z) (less z) (den_pos x) s a.is }
  where
    move : (ox ux dx oy uy dy G p l : ℕ) → 0 < dx → ox * dy + uy * dx ≡ oy * dx + ux * dy → ox * G + l * dx ≡ p * dx + ux * G → oy * G + l * dy ≡ p * dy + uy * G
    move ox ux dx oy uy dy G p l X h k =
        let h' = simp (add-mul, mul_assoc, mul_comm, mul_left_comm) at (ap (λ (z : ℕ). z * G) h) in
        let k' = simp (add-mul, mul_assoc, mul_comm, mul_left_comm) at (ap (λ (z : ℕ). z * dy) k) in
        eq_of_mul-eq-mul_right dx X (oy * G + l * dy) (p * dy + uy * G) (simp (add-mul, mul_assoc, mul_comm, mul_left_comm) (omega arith))

-- what is closed for each g: a number within 2 ^ 20 is raised to one between 2 ^ (52 - g) and 2 ^ (53 - g)
pub record Raises (g : ℕ) : Type 0 where
  pub small : g ≤ 1074
  pub near : 2 ^ 20 * 2 ^ g ≤ 2 ^ 27
  pub is_bottom : 2 ^ (52 - g) * 2 ^ g ≡ 2 ^ 52
  pub is_top : 2 ^ (53 - g) * 2 ^ g ≡ 2 ^ 53
  pub at : At g (raise g) (pos (3 * 2 ^ 51))
  pub as_large : T (le (raise g) (raise g))
  pub bottom_finite : T (finite (add binary64 (fin true 1 (pos 20)) (raise g)))
  pub top_finite : T (finite (add binary64 (two_to 20) (raise g)))
  pub bottom_raised : T (le (two_to (52 - g)) (add binary64 (fin true 1 (pos 20)) (raise g)))
  pub top_raised : T (le (add binary64 (two_to 20) (raise g)) (two_to (53 - g)))

pub to_a_64th : Raises 6
unfolding add le
to_a_64th = record { small = lit≤ tt; near = lit≤ tt; is_bottom = refl; is_top = refl; at = record { is_finite = tt; is = refl }; as_large = tt; bottom_finite = tt; top_finite = tt; bottom_raised = tt; top_raised = tt }

pub to_a_128th : Raises 7
unfolding add le
to_a_128th = record { small = lit≤ tt; near = lit≤ tt; is_bottom = refl; is_top = refl; at = record { is_finite = tt; is = refl }; as_large = tt; bottom_finite = tt; top_finite = tt; bottom_raised = tt; top_raised = tt }

pub raises : (g : Grid) → Raises (parts g)
raises Drafting = to_a_64th
raises Plan = to_a_128th

-- a number of the format from 2 ^ (52 - g) on is a multiple of 1 / 2 ^ g
coarse_positive : (g P k i : ℕ) → P * 2 ^ g ≡ 2 ^ 52 → k < 2 ^ 53 → P * 2 ^ suc i ≤ k → suc i ≤ g
coarse_positive g P k i e h l = go (leb (suc i) g) (leb→le (suc i) g) (nleb→lt (suc i) g)
  where
    go : (t : Bool) → (T t → suc i ≤ g) → (T (not t) → g < suc i) → suc i ≤ g
    go true f u = f tt
    go false f u =
        let p : 2 ^ suc g ≤ 2 ^ suc i = pow_mono (u tt) in
        let q : P * 2 ^ suc g ≤ P * 2 ^ suc i = mul-le-mul_left P p in
        let r : P * 2 ^ suc g ≡ P * 2 ^ g * 2 = ap (λ (z : ℕ). P * z) (pow-suc 2 g) ∙ sym (mul_assoc P (2 ^ g) 2) in
        absurd (omega arith)

coarse : (g : ℕ) → Raises g → (y : Float) → T (fits binary64 y) → T (finite y) → T (le (two_to (52 - g)) y) → (w : ℕ) × At g y (pos w)
unfolding fits
coarse g R nan f p h = absurd p
coarse g R (inf s) f p h = absurd p
coarse g R (fin true m e) f p h = absurd (low (2 ^ (52 - g)) (m * up e) (down e) (pow_pos (52 - g)) (down_pos e) (le→at_most (two_to (52 - g)) (fin true m e) tt tt h))
  where
    low : (P a d : ℕ) → 0 < P → 0 < d → 1 * P * d + a * 1 ≤ 0 * 1 + 0 * d → ⊥
    low P a d p D h = let k = mul-pos p D in let q = simp (one-mul, mul-one, zero-mul) at h in omega arith
coarse g R (fin false zero e) f p h = absurd (low (2 ^ (52 - g)) (up e) (down e) (pow_pos (52 - g)) (down_pos e) (le→at_most (two_to (52 - g)) (fin false zero e) tt tt h))
  where
    low : (P u d : ℕ) → 0 < P → 0 < d → 1 * P * d + 0 * 1 ≤ 0 * u * 1 + 0 * d → ⊥
    low P u d p D h = let k = mul-pos p D in let q = simp (one-mul, mul-one, zero-mul) at h in omega arith
coarse g R (fin false (suc m) (pos i)) f p h = (suc m * 2 ^ i * 2 ^ g, record { is_finite = tt; is = plain (suc m * 2 ^ i) (2 ^ g) })
  where
    plain : (a G : ℕ) → a * G + 0 * 1 ≡ a * G * 1 + 0 * G
    plain a G = omega arith
coarse g R (fin false (suc m) (negsuc i)) f p h =
    let a = eqb (suc m % 2) 1 in
    let b = ltb (suc m) (2 ^ 53) in
    let c = leb (2 ^ suc i) (2 ^ 1074) in
    let d = ltb (suc m * 1) (2 ^ 1024 * 2 ^ suc i) in
    let k : suc m < 2 ^ 53 = ltb→lt (suc m) (2 ^ 53) (and_r a b (and_l (a && b) c (and_l (a && b && c) d f))) in
    let l = le→at_most (two_to (52 - g)) (fin false (suc m) (negsuc i)) tt tt h in
    let s : suc i ≤ g = coarse_positive g (2 ^ (52 - g)) (suc m) i R.is_bottom k (large (2 ^ (52 - g)) (suc m) (2 ^ suc i) l) in
    let q : 2 ^ (g - suc i) * 2 ^ suc i ≡ 2 ^ g = sym (pow-add 2 (g - suc i) (suc i)) ∙ ap (λ (z : ℕ). 2 ^ z) (back (suc i) s) in
    (suc m * 2 ^ (g - suc i), record { is_finite = tt; is = plain (suc m) (2 ^ (g - suc i)) (2 ^ suc i) (2 ^ g) q })
  where
    large : (P m d : ℕ) → 1 * P * d + 0 * 1 ≤ m * 1 * 1 + 0 * d → P * d ≤ m
    large P m d h = let q = simp (one-mul, mul-one, zero-mul) at h in omega arith

    back : (j : ℕ) → j ≤ g → g - j + j ≡ g
    back j h = omega arith

    plain : (m a d G : ℕ) → a * d ≡ G → m * 1 * G + 0 * d ≡ m * a * d + 0 * G
    plain m a d G e = let r : m * a * d ≡ m * G = mul_assoc m a d ∙ ap (λ (z : ℕ). m * z) e in simp (mul-one, zero-mul) (omega (arith, r))

-- ---- the test
cancel : (h c : ℤ) → (h +ℤ c) -ℤ c ≡ h
cancel h c = by_parts ((h +ℤ c) -ℤ c) h (omega (arith, add_parts h c, add_parts (h +ℤ c) (neg_ℤ c), neg_plus c, neg_less c))

module _ (g : ℕ) (R : Raises g) (x : Float) (f : T (fits binary64 x)) (p : T (finite x)) (low : T (le (fin true 1 (pos 20)) x)) (high : T (le x (two_to 20))) where
  abbrev raised : Float
  raised = add binary64 x (raise g)

  abbrev bottom : Float
  bottom = add binary64 (fin true 1 (pos 20)) (raise g)

  abbrev top : Float
  top = add binary64 (two_to 20) (raise g)

  -- a multiple comes back
  forth : (h : ℤ) → nat_abs h ≤ 2 ^ 20 * 2 ^ g → At g x h → T (eq (sub binary64 (add binary64 x (raise g)) (raise g)) x)
  forth h s a =
      let c = pos (3 * 2 ^ 51) in
      let n = R.near in
      let y = sum_on_grid g x (raise g) h c R.small (let k = add_size h c in omega arith) a R.at in
      let z = difference_on_grid g raised (raise g) (h +ℤ c) c R.small (subst (λ (w : ℤ). nat_abs w < 2 ^ 53) (sym (cancel h c)) (omega arith)) y R.at in
      at_equal g (sub binary64 raised (raise g)) x h (subst (λ (w : ℤ). At g (sub binary64 raised (raise g)) w) (cancel h c) z) a

  from_bottom : T (le (add binary64 (fin true 1 (pos 20)) (raise g)) (add binary64 x (raise g)))
  from_bottom = add_mono (fin true 1 (pos 20)) x (raise g) (raise g) tt p tt tt low R.as_large

  up_to_top : T (le (add binary64 x (raise g)) (add binary64 (two_to 20) (raise g)))
  up_to_top = add_mono x (two_to 20) (raise g) (raise g) p tt tt tt high R.as_large

  raised_finite : T (finite (add binary64 x (raise g)))
  raised_finite = subst T (sym (finite_between bottom top raised R.bottom_finite R.top_finite (is_true (le bottom raised) from_bottom) (is_true (le raised top) up_to_top))) tt

  from : T (le (two_to (52 - g)) (add binary64 x (raise g)))
  from = le_trans_finite (two_to (52 - g)) bottom raised tt R.bottom_finite raised_finite R.bottom_raised from_bottom

  to : T (le (add binary64 x (raise g)) (two_to (53 - g)))
  to = le_trans_finite raised top (two_to (53 - g)) raised_finite R.top_finite tt up_to_top R.top_raised

  -- what comes back equal is a multiple
  back : T (eq (sub binary64 (add binary64 x (raise g)) (raise g)) x) → (h : ℤ) × At g x h
  back e =
      let r = coarse g R raised (add-fits binary64 x (raise g)) raised_finite from in
      let w = r.0 in
      let c = pos (3 * 2 ^ 51) in
      let k : w ≤ 2 ^ 53 = small w raised r.1 raised_finite to in
      let z = difference_on_grid g raised (raise g) (pos w) (pos (3 * 2 ^ 51)) R.small (within_both w k) r.1 R.at in
      (pos w -ℤ pos (3 * 2 ^ 51), at_of_equal g (sub binary64 raised (raise g)) x (pos w -ℤ pos (3 * 2 ^ 51)) p e z)
    where
      small : (w : ℕ) (y : Float) → At g y (pos w) → T (finite y) → T (le y (two_to (53 - g))) → w ≤ 2 ^ 53
      small w y a t l =
          let q = le→at_most y (two_to (53 - g)) t tt l in
          le_of_mul-le-mul_right {k = den y} (bound w (over y) (under y) (den y) (2 ^ (53 - g)) (2 ^ g) R.is_top q a.is) (den_pos y)
        where
          bound : (w o u d C G : ℕ) → C * G ≡ 2 ^ 53 → o * 1 + 0 * d ≤ 1 * C * d + u * 1 → o * G + 0 * d ≡ w * d + u * G → w * d ≤ 2 ^ 53 * d
          bound w o u d C G e q i =
              let p : o + 0 ≤ C * d + u = simp (one-mul, mul-one, zero-mul) at q in
              let q' : o ≤ C * d + u = omega (arith, p) in
              let r : o * G ≤ (C * d + u) * G = mul-le-mul_right G q' in
              let s : (C * d + u) * G ≡ 2 ^ 53 * d + u * G = add-mul (C * d) u G ∙ ap (λ (z : ℕ). z + u * G) (mul_right_comm C d G ∙ ap (λ (z : ℕ). z * d) e) in
              omega (arith, zero-mul d)

      within_both : (w : ℕ) → w ≤ 2 ^ 53 → nat_abs (pos w -ℤ pos (3 * 2 ^ 51)) < 2 ^ 53
      within_both w h = go (ltb w (3 * 2 ^ 51)) (ltb→lt w (3 * 2 ^ 51))
        where
          go : (t : Bool) → (T t → w < 3 * 2 ^ 51) → nat_abs (cond t (negsuc (3 * 2 ^ 51 - suc w)) (pos (w - 3 * 2 ^ 51))) < 2 ^ 53
          go true f = let l = f tt in omega arith
          go false f = omega arith

-- ---- the whole test
in_size : (s : Bool) (m : ℕ) (e : ℤ) → leb (m * up e) (2 ^ 20 * down e) ≡ (le (fin true 1 (pos 20)) (fin s m e) && le (fin s m e) (two_to 20))
in_size s m e = as_one (leb (m * up e) (2 ^ 20 * down e)) (le (fin true 1 (pos 20)) (fin s m e) && le (fin s m e) (two_to 20)) (forth s) (back s)
  where
    forth : (s : Bool) → T (leb (m * up e) (2 ^ 20 * down e)) → T (le (fin true 1 (pos 20)) (fin s m e) && le (fin s m e) (two_to 20))
    forth true t = let h = leb→le (m * up e) (2 ^ 20 * down e) t in and_i (le (fin true 1 (pos 20)) (fin true m e)) (le (fin true m e) (two_to 20)) (at_most→le (fin true 1 (pos 20)) (fin true m e) tt tt (omega arith)) (at_most→le (fin true m e) (two_to 20) tt tt (omega arith))
    forth false t = let h = leb→le (m * up e) (2 ^ 20 * down e) t in and_i (le (fin true 1 (pos 20)) (fin false m e)) (le (fin false m e) (two_to 20)) (at_most→le (fin true 1 (pos 20)) (fin false m e) tt tt (omega arith)) (at_most→le (fin false m e) (two_to 20) tt tt (omega arith))

    back : (s : Bool) → T (le (fin true 1 (pos 20)) (fin s m e) && le (fin s m e) (two_to 20)) → T (leb (m * up e) (2 ^ 20 * down e))
    back true t = let a = le→at_most (fin true 1 (pos 20)) (fin true m e) tt tt (and_l (le (fin true 1 (pos 20)) (fin true m e)) (le (fin true m e) (two_to 20)) t) in le→leb (m * up e) (2 ^ 20 * down e) (omega arith)
    back false t = let a = le→at_most (fin false m e) (two_to 20) tt tt (and_r (le (fin true 1 (pos 20)) (fin false m e)) (le (fin false m e) (two_to 20)) t) in le→leb (m * up e) (2 ^ 20 * down e) (omega arith)

multiple : (g : ℕ) → Raises g → (s : Bool) (m : ℕ) (e : ℤ) → T (fits binary64 (fin s m e)) → T (le (fin true 1 (pos 20)) (fin s m e)) → T (le (fin s m e) (two_to 20))
    → eqb (m * up e * 2 ^ g % down e) 0 ≡ eq (sub binary64 (add binary64 (fin s m e) (raise g)) (raise g)) (fin s m e)
unfolding multiple_within
multiple g R s m e f low high = as_one (eqb (m * up e * 2 ^ g % down e) 0) (eq (sub binary64 (add binary64 (fin s m e) (raise g)) (raise g)) (fin s m e)) to_it from_it
  where
    size : T (leb (m * up e) (2 ^ 20 * down e))
    size = subst T (sym (in_size s m e)) (and_i (le (fin true 1 (pos 20)) (fin s m e)) (le (fin s m e) (two_to 20)) low high)

    to_it : T (eqb (m * up e * 2 ^ g % down e) 0) → T (eq (sub binary64 (add binary64 (fin s m e) (raise g)) (raise g)) (fin s m e))
    to_it t =
        let k : T (eqb (m * up e * 2 ^ g % down e) 0 && leb (m * up e) (2 ^ 20 * down e)) = and_i (eqb (m * up e * 2 ^ g % down e) 0) (leb (m * up e) (2 ^ 20 * down e)) t size in
        forth g R (fin s m e) f tt low high (parts_of g (fin s m e)) (parts_small g (fin s m e) k) (at_parts g (fin s m e) k)

    from_it : T (eq (sub binary64 (add binary64 (fin s m e) (raise g)) (raise g)) (fin s m e)) → T (eqb (m * up e * 2 ^ g % down e) 0)
    from_it t =
        let r = back g R (fin s m e) f tt low high t in
        let z : m * up e * 2 ^ g ≡ nat_abs r.0 * down e = at_size g (fin s m e) r.0 r.1 in
        let q : m * up e * 2 ^ g % down e ≡ 0 = ap (λ (k : ℕ). k % down e) z ∙ mul-mod_left (nat_abs r.0) (down e) in
        eq→eqb q

-- THE TEST: within 2 ^ 20, and equal after it is raised and lowered again
pub by_raising : (g : ℕ) → Raises g → (x : Float) → T (fits binary64 x) → multiple_within g x ≡ ((le (fin true 1 (pos 20)) x && le x (two_to 20)) && eq (sub binary64 (add binary64 x (raise g)) (raise g)) x)
unfolding multiple_within
by_raising g R nan f = unfold le in refl
by_raising g R (inf true) f = unfold le in refl
by_raising g R (inf false) f = unfold le in refl
by_raising g R (fin s m e) f =
    ap (λ (t : Bool). eqb (m * up e * 2 ^ g % down e) 0 && t) (in_size s m e)
    ∙ go (le (fin true 1 (pos 20)) (fin s m e)) (le (fin s m e) (two_to 20)) refl refl
  where
    false_right : (t : Bool) → (t && false) ≡ false
    false_right true = refl
    false_right false = refl

    true_right : (t : Bool) → (t && true) ≡ t
    true_right true = refl
    true_right false = refl

    go : (p q : Bool) → le (fin true 1 (pos 20)) (fin s m e) ≡ p → le (fin s m e) (two_to 20) ≡ q → (eqb (m * up e * 2 ^ g % down e) 0 && (p && q)) ≡ ((p && q) && eq (sub binary64 (add binary64 (fin s m e) (raise g)) (raise g)) (fin s m e))
    go true true a b = true_right (eqb (m * up e * 2 ^ g % down e) 0) ∙ multiple g R s m e f (subst T (sym a) tt) (subst T (sym b) tt)
    go true false a b = false_right (eqb (m * up e * 2 ^ g % down e) 0)
    go false q a b = false_right (eqb (m * up e * 2 ^ g % down e) 0)
