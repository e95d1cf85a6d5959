-- The stores of a number's columns, what stands in front of its digits and then they, and those of a line's parts with them. Assumes nothing.
use Rattle.std.specs.Prelude.{ℕ, ◌+◌, ◌*◌, ◌-◌, ◌/◌, ◌%◌, ◌^◌, ◌<◌, ◌≤◌, ◌≡◌, refl, List, [], ◌∷◌, ◌++◌, length, take, drop, replicate, decimal}
use Rattle.std.proofs.Common.{sym, ap, ◌∙◌, arith, take_all, length-take-le}
use Rattle.std.proofs.lemmas.List.{length-replicate, length-drop}
use Rattle.std.proofs.Math.Seq.{length-sets}
use Rattle.std.proofs.lemmas.Slice.{put_mid-paste}
use Rattle.std.proofs.lemmas.List.Edits.{sets, sets-eq}
use borrow.Rule.Slice.PartMut.{put_mid}
use Rattle.answer.proofs.Stores.{sets_then}
use Rattle.page_text.specs.Listing.{number_field, Entry, letter_field, cell, entry_line}
use Rattle.page_lines.specs.Padded.{padded}
use Rattle.page_lines.specs.LineStores.{field_joined, line_joined}
use Rattle.page_lines.proofs.Digits.{aligned_is, right_is, columns_is}

-- a part of a slice, written over
part : (o : List ℕ) (at k : ℕ) (zs : List ℕ) → at + k ≤ length o → length zs ≡ k → put_mid at k o zs ≡ sets o at zs
part o at k zs h l = put_mid-paste at k o zs zs k refl refl (sym l) ∙ rw (take_all k zs (omega arith), sets-eq zs o at (omega arith), l)

module _ (o : List ℕ) (at : ℕ) where
  -- what stands in front of the digits, then the digits
  two_parts : (w fill : ℕ) (ds : List ℕ) → at + w ≤ length o → length ds ≤ w → (n : ℕ) → n ≡ at + w - length ds → (f d : List ℕ) → f ≡ replicate (n - at) fill → d ≡ ds
      → put_mid n (at + w - n) (put_mid at (n - at) o f) d ≡ sets o at (replicate (w - length ds) fill ++ ds)
  two_parts w fill ds h l n q f d e g =
      let k = w - length ds in
      let bs = replicate k fill in
      let b = length-replicate k fill in
      let z : n ≡ at + k = omega arith in
      let m : at + k - at ≡ k = omega arith in
      rw (g, e, z, m, part o at k bs (omega arith) b)
      (part (sets o at bs) (at + k) (at + w - (at + k)) ds (omega (arith, length-sets o at bs)) (omega arith) ∙ sets_then o at (at + k) bs ds (omega (arith, b)))

  pub right_stored : (w fill v from : ℕ) (ds : List ℕ) → at + w ≤ length o → v < 2 ^ 64 → ds ≡ decimal v → from ≡ length ds - w
      → (n : ℕ) → n ≡ at + w - length (take (length ds - from) (drop from ds)) → (f d : List ℕ) → f ≡ replicate (length (take (n - at) (drop at o))) fill → d ≡ take (length ds - from) (drop from ds)
      → put_mid n (at + w - n) (put_mid at (n - at) o f) d ≡ sets o at (padded fill w v)
  right_stored w fill v from ds h r t q n z f d e g =
      let l = length-drop from ds in
      let s : take (length ds - from) (drop from ds) ≡ drop from ds = take_all (length ds - from) (drop from ds) (omega arith) in
      let k : w - length (drop from ds) ≡ w - length ds = omega arith in
      let m = length-take-le (n - at) (drop at o) (omega (arith, z, length-drop at o)) in
      two_parts w fill (drop from ds) h (omega arith) n (z ∙ ap (λ (x : List ℕ). at + w - length x) s) f d (e ∙ ap (λ (x : ℕ). replicate x fill) m) (g ∙ s)
      ∙ rw (k, q, t, aligned_is fill w v r)

  pub field_padded : (k : ℕ) → sets (sets (sets o at (padded 32 12 (k / 128))) (at + 12) (46 ∷ [])) (at + 13) (padded 48 7 (k % 128 * 78125)) ≡ sets o at (number_field k)
  field_padded k = rw (right_is 12 (k / 128), columns_is 7 (k % 128 * 78125)) (field_joined o at k)

  pub line_padded : (w : ℕ) (e : Entry)
      → sets (sets (sets (sets (sets o at (padded 32 w e.id)) (at + w) (letter_field e.interior)) (at + (w + 3)) (cell e.x 32)) (at + (w + 24)) (cell e.low 32)) (at + (w + 45)) (cell e.high 10)
      ≡ sets o at (entry_line w e)
  line_padded w e = rw (right_is w e.id) (line_joined o at w e)
