-- What the writer's steps come to. Assumes nothing.
use Prim.Native.Nat.{ℕ, ◌+◌, ◌-◌, ◌*◌, ◌≤◌, ◌<◌}
use mathlib.Core.Path.{◌≡◌, sym, ap, ◌∙◌, subst}
use mathlib.Core.List.{List, [], ◌∷◌, ◌++◌, map}
use native.Mathlib.Omega.{arith}
use lib.ListN.{length, get_or, drop, length-append}
use lib.Seq.{sets}
use lib.Ieee.{Float}
use Rattle.wire.specs.Bytes.{bytes, number_bytes}
use Rattle.wire.proofs.BytesLaws.{bytes_length}
use Rattle.answer.specs.Answer.{all_bytes}
use Rattle.answer.proofs.Stores.{sets_then, sets_before, number_length, all_map}
use Rattle.plan.specs.declared.Bound.{Bound}
use Rattle.plan.specs.declared.Bound.TheVariants.{None, At}
use Rattle.plan.specs.declared.Planned.{Planned}
use Rattle.plan.specs.Prepared.{x_of}
use Rattle.plan.proofs.TableReads.{rest_cons, rest_none}
use Rattle.plan_bytes.specs.PlanBytes.{entry_bytes, body_bytes, plan_bytes}
use Rattle.plan_writer.specs.Rows.{row_bytes}

-- an entry's bytes and where the next one stands
abbrev pub Put : List ℕ → List ℕ → ℕ → ℕ → Bound → Type 0
Put o o' at r x = (o' ≡ sets o at (entry_bytes x)) × (r ≡ at + length (entry_bytes x))

pub none_put : (o o' : List ℕ) (at r : ℕ) (x : Bound) → x ≡ None → o' ≡ sets o at (bytes 1 0) → r ≡ at + 1 → Put o o' at r x
unfolding entry_bytes
none_put o o' at r x e b k = subst (Put o o' at r) (sym e) (b, k ∙ ap (λ (n : ℕ). at + n) (sym (bytes_length 1 0)))

pub at_put : (o p o' : List ℕ) (at r : ℕ) (x : Bound) (y : Float) → x ≡ At y → p ≡ sets o at (bytes 1 1) → o' ≡ sets p (at + 1) (number_bytes y) → r ≡ at + 9 → Put o o' at r x
unfolding entry_bytes
at_put o p o' at r x y e a b k =
    let m : length (bytes 1 1 ++ number_bytes y) ≡ 9 = length-append (bytes 1 1) (number_bytes y) ∙ ap (λ (n : ℕ). n + length (number_bytes y)) (bytes_length 1 1) ∙ ap (λ (n : ℕ). 1 + n) (number_length y) in
    subst (Put o o' at r) (sym e)
    (b ∙ ap (λ (l : List ℕ). sets l (at + 1) (number_bytes y)) a ∙ sets_then o at (at + 1) (bytes 1 1) (number_bytes y) (ap (λ (n : ℕ). at + n) (sym (bytes_length 1 1))), k ∙ ap (λ (n : ℕ). at + n) (sym m))

pub entry_most : (x : Bound) → length (entry_bytes x) ≤ 9
unfolding entry_bytes
entry_most None = let h = bytes_length 1 0 in omega (arith, h)
entry_most (At y) = let h = length-append (bytes 1 1) (number_bytes y) in let k = bytes_length 1 1 in let l = number_length y in omega (arith, h, k, l)

-- the whole: version and visits, the entries, then the length in front
pub plan_put : (o o1 o2 o3 o4 : List ℕ) (end : ℕ) (l : List Planned) (left : ℕ) → o1 ≡ sets o 4 (bytes 1 1) → o2 ≡ sets o1 5 (bytes 4 left) → o3 ≡ sets o2 9 (all_bytes row_bytes l) → end ≡ 9 + length (all_bytes row_bytes l) → o4 ≡ sets o3 0 (bytes 4 (end - 4))
    → (o4 ≡ sets o 0 (plan_bytes (record { xs = map x_of l; left = left }))) × (end ≡ length (plan_bytes (record { xs = map x_of l; left = left })))
unfolding plan_bytes body_bytes
plan_put o o1 o2 o3 o4 end l left a b c d e =
    let rows = all_bytes row_bytes l in
    let same : all_bytes entry_bytes (map x_of l) ≡ rows = all_map entry_bytes x_of l in
    let body = bytes 1 1 ++ (bytes 4 left ++ rows) in
    let l1 = bytes_length 1 1 in
    let l4 = bytes_length 4 left in
    let bl : length body ≡ 5 + length rows = length-append (bytes 1 1) (bytes 4 left ++ rows) ∙ ap (λ (k : ℕ). length (bytes 1 1) + k) (length-append (bytes 4 left) rows) ∙ omega (arith, l1, l4) in
    let s2 : o3 ≡ sets o1 5 (bytes 4 left ++ rows) = c ∙ ap (λ (l : List ℕ). sets l 9 rows) b ∙ sets_then o1 5 9 (bytes 4 left) rows (omega (arith, l4)) in
    let s1 : o3 ≡ sets o 4 body = s2 ∙ ap (λ (l : List ℕ). sets l 5 (bytes 4 left ++ rows)) a ∙ sets_then o 4 5 (bytes 1 1) (bytes 4 left ++ rows) (omega (arith, l1)) in
    let m : end - 4 ≡ length body = omega (arith, d, bl) in
    let h : o4 ≡ sets (sets o 4 body) 0 (bytes 4 (length body)) = e ∙ ap (λ (l : List ℕ). sets l 0 (bytes 4 (end - 4))) s1 ∙ ap (λ (k : ℕ). sets (sets o 4 body) 0 (bytes 4 k)) m in
    let f = bytes_length 4 (length body) in
    let w : o4 ≡ sets o 0 (bytes 4 (length body) ++ body) = h ∙ sets_before o 0 4 (bytes 4 (length body)) body (omega (arith, f)) in
    let g = length-append (bytes 4 (length body)) body in
    rw same (w, omega (arith, d, bl, f, g))

-- nine bytes a row at most
pub rows_length : (l : List Planned) → length (all_bytes row_bytes l) ≤ 9 * length l
unfolding all_bytes
rows_length [] = omega arith
rows_length (p ∷ l) = let h = rows_length l in let k = entry_most p.x in let a = length-append (entry_bytes p.x) (all_bytes row_bytes l) in omega (arith, h, k, a)

pub entry_moves : (r at : ℕ) (x : Bound) → r ≡ at + length (entry_bytes x) → r ≤ at + 9
entry_moves r at x e = let k = entry_most x in omega (arith, e, k)

pub rows_move : (r at : ℕ) (l : List Planned) → r ≡ at + length (all_bytes row_bytes l) → r ≤ at + 9 * length l
rows_move r at l e = let k = rows_length l in omega (arith, e, k)

-- a turn of the loop over rows
module _ (rows : List Planned) (i : ℕ) (d : Planned) (before : i < length rows) where
  abbrev rest : ℕ → List ℕ
  rest k = all_bytes row_bytes (drop k rows)

  next : rest i ≡ row_bytes (get_or rows i d) ++ rest (i + 1)
  unfolding all_bytes
  next = ap (all_bytes row_bytes) (rest_cons rows i d before)

  pub turn : (o o' whole : List ℕ) (from at at' total : ℕ) → o' ≡ sets o at (row_bytes (get_or rows i d)) → at' ≡ at + length (row_bytes (get_or rows i d)) → at ≤ from + 9 * i
      → at + length (rest i) ≡ total → sets o at (rest i) ≡ whole → (at' ≤ from + 9 * (i + 1)) × (at' + length (rest (i + 1)) ≡ total) × (sets o' at' (rest (i + 1)) ≡ whole)
  turn o o' whole from at at' total b e h t w =
      let m = entry_moves at' at (get_or rows i d).x e in
      let s = ap length next ∙ length-append (row_bytes (get_or rows i d)) (rest (i + 1)) in
      let put = sets_then o at at' (row_bytes (get_or rows i d)) (rest (i + 1)) e in
      (omega (arith, m, h), omega (arith, e, s, t), ap (λ (z : List ℕ). sets z at' (rest (i + 1))) b ∙ put ∙ ap (sets o at) (sym next) ∙ w)

pub rows_done : (rows : List Planned) (i : ℕ) → length rows ≤ i → all_bytes row_bytes (drop i rows) ≡ []
unfolding all_bytes
rows_done rows i h = ap (all_bytes row_bytes) (rest_none rows i h)
