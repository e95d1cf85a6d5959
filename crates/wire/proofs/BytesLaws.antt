-- Numbers as big-endian bytes, there and back: the laws. Assumes nothing.
use Rattle.std.specs.Prelude.{ℕ, zero, suc, ◌+◌, ◌*◌, ◌-◌, ◌/◌, ◌%◌, ◌^◌, ◌≤◌, ◌<◌, ◌≡◌, refl, List, [], ◌∷◌, ◌++◌, length, take, drop, get_or, slice_index}
use Rattle.std.proofs.Common.{sym, ap, ◌∙◌, div-add-mod', div-lt_iff_lt-mul, mul_assoc, mul_comm, add-mul, pow-suc, zero-add, arith, lit<, length-append, length-drop, drop-cons, take-add, drop-drop, length-take-le, take_all}
use Rattle.std.proofs.Math.Nat.{div-div-eq-div-mul}
use Rattle.std.proofs.lemmas.Slice.{put_mid-paste}
use Rattle.std.proofs.lemmas.List.Edits.{sets, sets-eq}
use borrow.Rule.Slice.PartMut.{put_mid}
use Rattle.wire.specs.Bytes.{bytes, number, number_on}
use Rattle.std.specs.Int.{from_be_bytes, w16, w32, w64}

pub number_behind : (a : ℕ) (l m : List ℕ) → number_on a (l ++ m) ≡ number_on (number_on a l) m
unfolding number_on
number_behind a [] m = refl
number_behind a (b ∷ l) m = number_behind (a * 256 + b) l m

scaled : (a b p n : ℕ) → (a * 256 + b) * p + n ≡ a * (p * 256) + (b * p + n)
scaled a b p n =
    let c : a * 256 * p ≡ a * (p * 256) = mul_assoc a 256 p ∙ ap (λ (z : ℕ). a * z) (mul_comm 256 p) in
    omega (arith, add-mul (a * 256) b p)

pub number_from : (a : ℕ) (l : List ℕ) → number_on a l ≡ a * 256 ^ length l + number l
unfolding number_on
number_from a [] = omega arith
number_from a (b ∷ l) =
    number_from (a * 256 + b) l ∙ scaled a b (256 ^ length l) (number l)
    ∙ sym (ap (λ (z : ℕ). a * z + number_on (0 + b) l) (pow-suc 256 (length l)) ∙ ap (λ (z : ℕ). a * (256 ^ length l * 256) + number_on z l) (zero-add b)
    ∙ ap (λ (z : ℕ). a * (256 ^ length l * 256) + z) (number_from b l))

-- what stands from a place on, in two parts
pub number_parts : (m n : ℕ) (s : List ℕ) (at : ℕ) → at + m + n ≤ length s
    → number (take (m + n) (drop at s)) ≡ number (take m (drop at s)) * 256 ^ n + number (take n (drop (at + m) s))
number_parts m n s at h =
    let k : n ≤ length (drop (at + m) s) = rw length-drop (omega arith) in
    ap number (take-add m n (drop at s)) ∙ number_behind 0 (take m (drop at s)) (take n (drop m (drop at s)))
    ∙ ap (λ (l : List ℕ). number_on (number (take m (drop at s))) (take n l)) (drop-drop m at s)
    ∙ number_from (number (take m (drop at s))) (take n (drop (at + m) s))
    ∙ ap (λ (z : ℕ). number (take m (drop at s)) * 256 ^ z + number (take n (drop (at + m) s))) (length-take-le n (drop (at + m) s) k)

pub number_one : (s : List ℕ) (at : ℕ) → at < length s → number (take 1 (drop at s)) ≡ get_or s at 0
unfolding number_on
number_one s at h = rw (drop-cons s at 0) (zero-add (get_or s at 0))

pub number_two : (s : List ℕ) (at : ℕ) → at + 2 ≤ length s → number (take 2 (drop at s)) ≡ get_or s at 0 * 256 + get_or s (at + 1) 0
number_two s at h =
    number_parts 1 1 s at (omega arith)
    ∙ ap (λ (z : ℕ). z * 256 + number (take 1 (drop (at + 1) s))) (number_one s at (omega arith))
    ∙ ap (λ (z : ℕ). get_or s at 0 * 256 + z) (number_one s (at + 1) (omega arith))

pub number_four : (s : List ℕ) (at : ℕ) → at + 4 ≤ length s
    → number (take 4 (drop at s)) ≡ get_or s at 0 * 16777216 + get_or s (at + 1) 0 * 65536 + get_or s (at + 2) 0 * 256 + get_or s (at + 3) 0
number_four s at h =
    let e : at + 2 + 1 ≡ at + 3 = omega arith in
    omega (arith, number_parts 2 2 s at (omega arith), number_two s at (omega arith), rw e at (number_two s (at + 2) (omega arith)))

pub number_eight : (s : List ℕ) (at : ℕ) → at + 8 ≤ length s
    → number (take 8 (drop at s))
    ≡ (get_or s at 0 * 16777216 + get_or s (at + 1) 0 * 65536 + get_or s (at + 2) 0 * 256 + get_or s (at + 3) 0) * 4294967296
    + (get_or s (at + 4) 0 * 16777216 + get_or s (at + 5) 0 * 65536 + get_or s (at + 6) 0 * 256 + get_or s (at + 7) 0)
number_eight s at h =
    let e : at + 4 + 1 ≡ at + 5 = omega arith in
    let f : at + 4 + 2 ≡ at + 6 = omega arith in
    let g : at + 4 + 3 ≡ at + 7 = omega arith in
    omega (arith, number_parts 4 4 s at (omega arith), number_four s at (omega arith), rw (e, f, g) at (number_four s (at + 4) (omega arith)))

-- what the library makes of an array of one, two, four or eight bytes is their number
pub byte_is : (b : List ℕ) → length b ≡ 1 → number b ≡ slice_index b 0
byte_is b h = rw (take_all 1 b (omega arith)) at (number_one b 0 (omega arith))

pub half_is : (b : List ℕ) → length b ≡ 2 → number b ≡ from_be_bytes w16 b
half_is b h =
    let e : number b ≡ get_or b 0 0 * 256 + get_or b 1 0 = rw (take_all 2 b (omega arith)) at (number_two b 0 (omega arith)) in
    omega (arith, e)

pub word_is : (b : List ℕ) → length b ≡ 4 → number b ≡ from_be_bytes w32 b
word_is b h =
    let e = rw (take_all 4 b (omega arith)) at (number_four b 0 (omega arith)) in
    omega (arith, e)

pub double_is : (b : List ℕ) → length b ≡ 8 → number b ≡ from_be_bytes w64 b
double_is b h =
    let e = rw (take_all 8 b (omega arith)) at (number_eight b 0 (omega arith)) in
    omega (arith, e)

pub bytes_length : (w v : ℕ) → length (bytes w v) ≡ w
unfolding bytes
bytes_length zero v = refl
bytes_length (suc w) v =
    let e = bytes_length w (v / 256) in
    simp length-append (omega arith)

-- a number that fits its bytes is read back
pub number_back : (w v : ℕ) → v < 256 ^ w → number (bytes w v) ≡ v
unfolding bytes number_on
number_back zero v h = omega arith
number_back (suc w) v h =
    let k : v / 256 < 256 ^ w = (div-lt_iff_lt-mul (lit< tt)).1 (rw (pow-suc 256 w) at h) in
    number_behind 0 (bytes w (v / 256)) (v % 256 ∷ [])
    ∙ ap (λ (z : ℕ). z * 256 + v % 256) (number_back w (v / 256) k) ∙ div-add-mod' v 256

-- a part of a slice, written over with a number's bytes
pub placed : (l ys : List ℕ) (at w v : ℕ) → at + w ≤ length l → ys ≡ bytes w v → put_mid at (at + w - at) l ys ≡ sets l at (bytes w v)
placed l ys at w v h e =
    let n : length (bytes w v) ≡ w = bytes_length w v in
    let q : take w (bytes w v) ≡ bytes w v = take_all w (bytes w v) (omega arith) in
    put_mid-paste at (at + w - at) l ys (bytes w v) w e (omega arith) (sym n) ∙ rw (q, sets-eq (bytes w v) l at (omega arith), n)

pub bytes_two : (v : ℕ) → (v % 65536 / 256 % 256 ∷ v % 65536 % 256 ∷ []) ≡ bytes 2 v
unfolding bytes
bytes_two v =
    let a : v % 65536 / 256 % 256 ≡ v / 256 % 256 = omega arith in
    let b : v % 65536 % 256 ≡ v % 256 = omega arith in
    rw (a, b)

pub bytes_four : (v : ℕ) → (v / 16777216 % 256 ∷ v / 65536 % 256 ∷ v / 256 % 256 ∷ v % 256 ∷ []) ≡ bytes 4 v
unfolding bytes
bytes_four v = simp div-div-eq-div-mul

pub bytes_eight : (v : ℕ) → (v / 256 ^ 7 % 256 ∷ v / 256 ^ 6 % 256 ∷ v / 256 ^ 5 % 256 ∷ v / 256 ^ 4 % 256 ∷ v / 16777216 % 256 ∷ v / 65536 % 256 ∷ v / 256 % 256 ∷ v % 256 ∷ []) ≡ bytes 8 v
unfolding bytes
bytes_eight v = simp div-div-eq-div-mul
