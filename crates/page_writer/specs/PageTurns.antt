-- The turns of the loop that writes a page. Assumes nothing.
use Rattle.std.specs.Prelude.{◌≡◌, ℕ, suc, ◌+◌, ◌<◌, ◌≤◌, false, List, length, drop, slice_index_or, Float}
use Rattle.std.proofs.Common.{sym, ap, ◌∙◌, arith, add-one, drop-cons, length-append}
use Rattle.std.specs.Float.{nan}
use Rattle.std.proofs.lemmas.List.Edits.{sets}
use Rattle.limits.specs.Limits.{max_bundles, id_columns, page_room}
use Rattle.binary64.specs.Order.{least, greatest}
use Rattle.geometry.specs.declared.Point.{Point}
use Rattle.geometry.specs.declared.Segment.{Segment}
use Rattle.board.specs.declared.DrawnBundle.{DrawnBundle}
use Rattle.answer.proofs.Stores.{sets_then}
use Rattle.page_text.specs.Listing.{entry_line}
use Rattle.answer.specs.Answer.{all_bytes}
use Rattle.bundle_page.specs.Parts.{parts_of}
use Rattle.bundle_page.specs.PageTables.{bundle_line, page_bytes}
use Rattle.bundle_page.proofs.Exact.{bundle_line_length, page_length}

-- ---- one line written
pub entry_written : (w : ℕ) (b : DrawnBundle) (o o' : List ℕ) (at x low high : ℕ) (lo hi : Float) → x ≡ parts_of b.collector.start.x
    → lo ≡ least b.collector.start.y b.collector.end.y → low ≡ parts_of lo → hi ≡ greatest b.collector.start.y b.collector.end.y → high ≡ parts_of hi
    → o' ≡ sets o at (entry_line w (record { id = b.id; interior = b.interior; x = x; low = low; high = high })) → o' ≡ sets o at (bundle_line w b)
unfolding bundle_line
entry_written w b o o' at x low high lo hi X L l H h e =
    let l' = l ∙ ap parts_of L in
    let h' = h ∙ ap parts_of H in
    e ∙ rw (X, l', h')

-- ---- a turn of the loop over the bundles
-- what a read past a list's end gives
abbrev pub some_bundle : DrawnBundle
some_bundle =
    let p : Point = record { x = nan; y = nan } in
    let s : Segment = record { start = p; end = p } in
    record { id = 0; interior = false; collector = s; spine = s; first = 0; count = 0 }

module _ (w : ℕ) (rows : List DrawnBundle) (i : ℕ) where
  pub line_room : i < length rows → length (page_bytes w (drop i rows)) ≡ 66 + w + length (page_bytes w (drop (i + 1) rows))
  unfolding all_bytes
  line_room h = rw (drop-cons rows i some_bundle h, add-one i, length-append, bundle_line_length w (slice_index_or rows i some_bundle))

  pub line_written : (d : DrawnBundle) (o o' : List ℕ) (at next : ℕ) → next ≡ at + (66 + w) → i < length rows → o' ≡ sets o at (bundle_line w (slice_index_or rows i d))
      → sets o' next (page_bytes w (drop (i + 1) rows)) ≡ sets o at (page_bytes w (drop i rows))
  unfolding all_bytes
  line_written d o o' at next q h e =
      rw (e, drop-cons rows i d h, add-one i)
      (sets_then o at next (bundle_line w (slice_index_or rows i d)) (page_bytes w (drop (suc i) rows)) (q ∙ ap (λ (z : ℕ). at + z) (sym (bundle_line_length w (slice_index_or rows i d)))))

-- a page of at most 32 rows has room
pub table_room : (rows : List DrawnBundle) → length rows ≤ max_bundles → length (page_bytes id_columns rows) ≤ page_room
table_room rows f = omega (arith, page_length id_columns rows)
