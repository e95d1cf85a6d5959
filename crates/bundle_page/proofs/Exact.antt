-- Each printed number reads back to the drawn one, as an exact fraction; and the page's length. Assumes nothing.
use Rattle.std.specs.Prelude.{◌≡◌, ℕ, ◌+◌, ◌*◌, ◌≤◌, List, pos, Float, length}
use Rattle.std.proofs.Common.{sym, ap, ◌∙◌, mul_right_comm, arith}
use Rattle.std.specs.Float.Ieee.Positive.{den}
use Rattle.limits.specs.Limits.{max_bundles, id_columns, page_room}
use Rattle.binary64.specs.Value.{over, under}
use Rattle.binary64.specs.Rational.{plus, less, Sameℚ, cross, value}
use Rattle.binary64.specs.Integers.{by_parts}
use Rattle.binary64.proofs.Fraction.{cross_plus, cross_less, value_plus, value_less, value_den}
use Rattle.binary64.specs.ExactOnGrid.{At}
use Rattle.board.specs.declared.DrawnBundle.{DrawnBundle}
use Rattle.board.specs.declared.PlacedNode.{PlacedNode}
use Rattle.board.specs.declared.Edge.{Edge}
use Rattle.board.specs.declared.DrawnTap.{DrawnTap}
use Rattle.answer.specs.declared.Frame.{Frame}
use Rattle.answer.specs.Answer.{Sheet, trunk_of}
use Rattle.answer.specs.SheetTables.{sheet_of}
use Rattle.answer.proofs.Stores.{all_length, all_map}
use Rattle.page_text.specs.Listing.{number_field}
use Rattle.page_text.specs.Reading.{read}
use Rattle.page_text.proofs.Back.{reads_back}
use Rattle.page_text.proofs.Laws.{line_length}
use Rattle.bundle_page.specs.Parts.{parts_of}
use Rattle.bundle_page.specs.AnswerPage.{trunk_line, answer_page, entry_from}
use Rattle.bundle_page.specs.PageTables.{OnPage, entry_of, bundle_line, page_bytes}
use Rattle.bundle_page.proofs.PartsLaws.{parts_at}
use Rattle.bundle_page.specs.PageReads.{ten_millionths, ReadsAs}

same_value : (x : Float) (k : ℕ) → At 7 x (pos k) → Sameℚ (ten_millionths (k * 78125)) (value x)
same_value x k h =
    let n = ten_millionths (k * 78125) in
    by_parts (cross n (value x)) (cross (value x) n)
    (same (plus (cross n (value x))) (less (cross n (value x))) (plus (cross (value x) n)) (less (cross (value x) n)) (over x) (under x) (den x) k
    (cross_plus n (value x) ∙ ap (λ (z : ℕ). k * 78125 * z) (value_den x)) (cross_less n (value x) ∙ ap (λ (z : ℕ). 0 * z) (value_den x))
    (cross_plus (value x) n ∙ ap (λ (z : ℕ). z * 10000000) (value_plus x)) (cross_less (value x) n ∙ ap (λ (z : ℕ). z * 10000000) (value_less x)) h.is)
  where
    same : (a b c d o u e k : ℕ) → a ≡ k * 78125 * e → b ≡ 0 * e → c ≡ o * 10000000 → d ≡ u * 10000000 → o * 128 + 0 * e ≡ k * e + u * 128 → a + d ≡ c + b
    same a b c d o u e k A B C D h =
        let m : k * 78125 * e ≡ k * e * 78125 = mul_right_comm k 78125 e in
        omega arith

-- document 02's "each printed number reads back to the drawn one"
pub printed_exactly : (x : Float) → OnPage x → ReadsAs (number_field (parts_of x)) x
printed_exactly x p =
    let k = p.count in
    let s = p.small in
    record {
      number = k * 78125;
      is_read = ap (λ (z : ℕ). read (number_field z)) (parts_at x k p.is) ∙ reads_back k (omega arith);
      is_finite = p.is.is_finite;
      is_exact = same_value x k p.is;
    }

-- ---- how long a page is
pub bundle_line_length : (w : ℕ) (b : DrawnBundle) → length (bundle_line w b) ≡ 66 + w
unfolding bundle_line
bundle_line_length w b = line_length w (entry_of b)

pub page_length : (w : ℕ) (bs : List DrawnBundle) → length (page_bytes w bs) ≡ (66 + w) * length bs
page_length w bs = all_length (bundle_line w) (66 + w) bs (bundle_line_length w)

pub answer_page_length : (w : ℕ) (s : Sheet) → length (answer_page w s) ≡ (66 + w) * length s.bundles
answer_page_length w s = all_length (trunk_line w) (66 + w) s.bundles (λ t. line_length w (entry_from t.id t.interior t.collector))

-- the page of at most 32 bundles has room in its buffer
pub page_at_most : (s : Sheet) → length s.bundles ≤ max_bundles → length (answer_page id_columns s) ≤ page_room
page_at_most s h = omega (arith, answer_page_length id_columns s)

-- ---- what is written from the rows of the bundles is the page of the answer that is written from the same rows
pub page_of_tables : (w : ℕ) (f : Frame) (n : List PlacedNode) (e : List Edge) (slots : List Float) (counts : List ℕ) (b : List DrawnBundle) (t : List DrawnTap)
    → page_bytes w b ≡ answer_page w (sheet_of f n e slots counts b t)
unfolding bundle_line
page_of_tables w f n e slots counts b t = sym (all_map (trunk_line w) (trunk_of t) b)
