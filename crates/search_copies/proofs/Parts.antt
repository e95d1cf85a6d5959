-- Numbers copied from a part of one slice over a part of another: what one more number adds, and what one route's part says of both slices.
-- Assumes nothing.
use Rattle.std.specs.Prelude.{◌≡◌, List, [], ◌∷◌, ◌++◌, ℕ, ◌+◌, ◌-◌, ◌*◌, ◌≤◌, ◌<◌, length, take, drop, get_or, set, Float}
use Rattle.std.proofs.Common.{sym, ◌∙◌, ap, arith, length-drop, length-take-le, get_or-take, take_all}
use Rattle.std.proofs.lemmas.List.{length-map, take_more_set, get_or-drop, get_or-append_right}
use Rattle.std.proofs.Math.ListN.{get_or-append}
use Rattle.std.proofs.Math.Seq.{take-suc, drop-cons}
use native.Mathlib.Numerals.{add-one}
use mathlib.Core.List.{map-append}
use Rattle.std.specs.Float.{nan}
use Rattle.binary64.specs.Accepted.{plus_zero}
use Rattle.search_calls.specs.Entry.{plus_zeros}
use Rattle.search_calls.specs.Copied.{Fitting, Put, Copied}
use Rattle.search_calls.proofs.Copies.{plus_at, copied_more}
use borrow.Rule.Slice.PartMut.{put_mid}
use mathlib.Core.Logic.{◌⊎◌, ⊎_elim}
use Rattle.limits.specs.Limits.{max_route_points, route_numbers, member_numbers}

module _ (points copy : List Float) where
  pub copied_next : (i : ℕ) (x : Float) → i < length points → i < length copy → x ≡ plus_zero (get_or points i nan) → take i copy ≡ plus_zeros (take i points) → take (i + 1) (set copy i x) ≡ plus_zeros (take (i + 1) points)
  copied_next i x h k e t =
      take_more_set copy i x k ∙ ap (λ (l : List Float). l ++ (x ∷ [])) t ∙ ap (λ (y : Float). plus_zeros (take i points) ++ (y ∷ [])) e
      ∙ sym (ap plus_zeros (ap (λ (n : ℕ). take n points) (add-one i) ∙ take-suc points i nan h) ∙ map-append plus_zero (take i points) (get_or points i nan ∷ []))

  pub copied_whole : (i : ℕ) → length points ≤ i → length points ≡ length copy → take i copy ≡ plus_zeros (take i points) → copy ≡ plus_zeros points
  copied_whole i h e t = sym (take_all i copy (omega arith)) ∙ t ∙ ap plus_zeros (take_all i points h)

  module _ (ys : List Float) (from n at : ℕ) (inside : from + n ≤ length points) (room : at + n ≤ length copy) where
    pub put_part : ys ≡ plus_zeros (take n (drop from points)) → Put points from n copy (take at copy ++ (ys ++ drop n (drop at copy))) at
    put_part e =
        let l : length (take at copy) ≡ at = length-take-le at copy (omega arith) in
        let rest : n ≤ length (drop from points) = omega (arith, length-drop from points) in
        let k : length ys ≡ n = ap length e ∙ length-map (take n (drop from points)) plus_zero ∙ length-take-le n (drop from points) rest in
        record {
          put = λ j h.
              let z : at + j - at ≡ j = omega arith in
              get_or-append_right (take at copy) (ys ++ drop n (drop at copy)) at (at + j) nan l (omega arith) ∙ ap (λ (i : ℕ). get_or (ys ++ drop n (drop at copy)) i nan) z
              ∙ get_or-append ys (drop n (drop at copy)) nan j (omega arith) ∙ ap (λ (l : List Float). get_or l j nan) e ∙ plus_at (take n (drop from points)) j
              ∙ ap plus_zero (get_or-take n (drop from points) j nan h ∙ get_or-drop from points j nan);
          earlier = λ j h. get_or-append (take at copy) (ys ++ drop n (drop at copy)) nan j (omega arith) ∙ get_or-take at copy j nan h;
        }

-- what stands at the front of the rest of a list
pub rest_front : (l rest : List ℕ) (n x : ℕ) → drop n l ≡ x ∷ rest → (n < length l) × (x ≡ get_or l n 0) × (rest ≡ drop (n + 1) l)
rest_front l rest n x e =
    let h : n < length l = omega (arith, ap length e, length-drop n l) in
    let f = sym (drop-cons l n 0 h) ∙ e in
    (h, sym (ap (λ (k : List ℕ). get_or k 0 0) f), sym (ap (λ (k : List ℕ). drop 1 k) f) ∙ ap (λ (k : ℕ). drop k l) (sym (add-one n)))

-- a loop over both columns ends after the last start
pub both_done : (starts counts ss cs : List ℕ) (m : ℕ) → m ≤ length starts → length starts ≡ length counts → ss ≡ drop m starts → cs ≡ drop m counts → (ss ≡ []) ⊎ (cs ≡ []) → m ≡ length starts
both_done starts counts ss cs m h paired s c =
    ⊎_elim
    (λ e. omega (arith, length-drop m starts, ap length (sym s ∙ e)))
    (λ e. omega (arith, length-drop m counts, ap length (sym c ∙ e)))

-- one more route is copied
module _ (points : List Float) (starts counts : List ℕ) (m : ℕ) (copy ys : List Float) (rows : List ℕ) (fit : Fitting points starts counts) (long : length copy ≡ member_numbers) (as_many : length rows ≡ length starts) where
  copied_row : m < length starts → Copied points starts counts m copy rows → ys ≡ plus_zeros (take (2 * get_or starts m 0 + 2 * get_or counts m 0 - 2 * get_or starts m 0) (drop (2 * get_or starts m 0) points))
      → Copied points starts counts (m + 1) (put_mid (route_numbers * m) (route_numbers * m + 2 * get_or counts m 0 - route_numbers * m) copy ys) (set rows m (max_route_points * m))
  copied_row h t e =
      let from = 2 * get_or starts m 0 in
      let at = route_numbers * m in
      let n = 2 * get_or counts m 0 in
      let short = fit.short m h in
      let inside : from + n ≤ length points = let h' = fit.at_places.inside m h in omega arith in
      let room : at + n ≤ length copy = omega (arith, short, fit.few, long) in
      let f : from + n - from ≡ n = omega arith in
      let k : at + n - at ≡ n = omega arith in
      let is : ys ≡ plus_zeros (take n (drop from points)) = rw f at e in
      let p : Put points from n copy (put_mid at (at + n - at) copy ys) at = rw k (put_part points copy ys from n at inside room is) in
      copied_more points starts counts m copy (put_mid at (at + n - at) copy ys) rows t (λ i j. fit.short i (omega arith)) (omega arith) p

  pub copied_next_row : (k start count next : ℕ) → k ≡ m → start ≡ get_or starts m 0 → count ≡ get_or counts m 0 → next ≡ m + 1 → m < length starts → Copied points starts counts m copy rows
      → ys ≡ plus_zeros (take (2 * start + 2 * count - 2 * start) (drop (2 * start) points)) → Copied points starts counts next (put_mid (route_numbers * k) (route_numbers * k + 2 * count - route_numbers * k) copy ys) (set rows k (max_route_points * k))
  copied_next_row k start count next is s c n h t e = let e' = rw (s, c) at e in rw (is, c, n) (copied_row h t e')
