-- The points of a route, copied as the numbers that they stand in. Assumes nothing.
use Rattle.std.specs.Prelude.{ℕ, zero, suc, ◌+◌, ◌*◌, ◌-◌, ◌≤◌, ◌≡◌, refl, List, [], ◌∷◌, ◌++◌, length, take, drop, get_or, set, Float}
use Rattle.std.proofs.Common.{sym, ap, ◌∙◌, arith, drop-cons, length-drop, length-take-le, take_all}
use Rattle.std.proofs.lemmas.Slice.{put_mid-paste}
use Rattle.std.proofs.lemmas.List.Edits.{sets, sets-eq}
use Rattle.std.specs.Float.{nan}
use borrow.Rule.Slice.PartMut.{put_mid}
use Rattle.geometry.specs.declared.Point.{Point}
use Rattle.geometry.specs.Points.{Route, point_at, points_from, put_point}
use Rattle.route.specs.Slots.{put_points}

-- the numbers of points
numbers : Route → List Float
numbers [] = []
numbers (p ∷ ps) = p.x ∷ p.y ∷ numbers ps

numbers_length : (ps : Route) → length (numbers ps) ≡ 2 * length ps
unfolding numbers
numbers_length [] = refl
numbers_length (p ∷ ps) = let e = numbers_length ps in omega (arith, e)

window_length : (s : List Float) (i n : ℕ) → length (points_from s i n) ≡ n
unfolding points_from
window_length s i zero = refl
window_length s i (suc n) = ap suc (window_length s (suc i) n)

-- those of a window are a part of its slice
numbers_window : (s : List Float) (i n : ℕ) → 2 * (i + n) ≤ length s → numbers (points_from s i n) ≡ take (2 * n) (drop (2 * i) s)
unfolding points_from point_at numbers
numbers_window s i zero h = refl
numbers_window s i (suc n) h =
    let c : suc (2 * i) ≡ 2 * i + 1 = omega arith in
    let d : suc (2 * i + 1) ≡ 2 * suc i = omega arith in
    let a : drop (2 * i) s ≡ get_or s (2 * i) nan ∷ drop (2 * i + 1) s = drop-cons s (2 * i) nan (omega arith) ∙ ap (λ (k : ℕ). get_or s (2 * i) nan ∷ drop k s) c in
    let e : drop (2 * i + 1) s ≡ get_or s (2 * i + 1) nan ∷ drop (2 * suc i) s = drop-cons s (2 * i + 1) nan (omega arith) ∙ ap (λ (k : ℕ). get_or s (2 * i + 1) nan ∷ drop k s) d in
    let b : 2 * suc n ≡ suc (suc (2 * n)) = omega arith in
    rw (a, e, b, numbers_window s (suc i) n (omega arith))

puts_numbers : (s : List Float) (i : ℕ) (ps : Route) → put_points s i ps ≡ sets s (2 * i) (numbers ps)
unfolding put_points put_point numbers
puts_numbers s i [] = refl
puts_numbers s i (p ∷ ps) =
    let e : 2 * suc i ≡ suc (suc (2 * i)) = omega arith in
    let f : 2 * i + 1 ≡ suc (2 * i) = omega arith in
    puts_numbers (set (set s (2 * i) p.x) (2 * i + 1) p.y) (suc i) ps ∙ rw (e, f)

-- a part of a slice, written over with a part of another one
pub points_copied : (out ys pts : List Float) (at i n : ℕ) → 2 * (at + n) ≤ length out → 2 * (i + n) ≤ length pts → ys ≡ take (2 * i + 2 * n - 2 * i) (drop (2 * i) pts)
    → put_mid (2 * at) (2 * at + 2 * n - 2 * at) out ys ≡ put_points out at (points_from pts i n)
points_copied out ys pts at i n h k e =
    let v = numbers (points_from pts i n) in
    let a : 2 * i + 2 * n - 2 * i ≡ 2 * n = omega arith in
    let b : ys ≡ v = e ∙ ap (λ (m : ℕ). take m (drop (2 * i) pts)) a ∙ sym (numbers_window pts i n k) in
    let w : length v ≡ 2 * n = numbers_length (points_from pts i n) ∙ ap (λ (m : ℕ). 2 * m) (window_length pts i n) in
    let q : take (2 * n) v ≡ v = take_all (2 * n) v (omega (arith, w)) in
    put_mid-paste (2 * at) (2 * at + 2 * n - 2 * at) out ys v (2 * n) b (omega arith) (sym w) ∙ rw (q, puts_numbers out at (points_from pts i n), sets-eq v out (2 * at) (omega (arith, w)), w)
