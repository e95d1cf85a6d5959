-- The whole answer from the rows: its parts, their lengths, and the writes joined. Assumes nothing.
use Rattle.std.specs.Prelude.{ℕ, zero, suc, take, ◌+◌, ◌*◌, ◌-◌, ◌≤◌, ◌≡◌, refl, List, [], ◌∷◌, ◌++◌, Float}
use Rattle.std.proofs.Common.{ap, ◌∙◌, arith, length-append}
use Rattle.std.proofs.Math.ListN.{length, length-map}
use Rattle.std.proofs.lemmas.List.Edits.{sets}
use Rattle.wire.specs.Bytes.{bytes}
use Rattle.wire.proofs.BytesLaws.{bytes_length}
use Rattle.route.specs.Slots.{routes_of, routes_from, routes_length}
use Rattle.board.specs.declared.Edge.{Edge}
use Rattle.board.specs.declared.PlacedNode.{PlacedNode}
use Rattle.board.specs.declared.DrawnBundle.{DrawnBundle}
use Rattle.board.specs.declared.DrawnTap.{DrawnTap}
use Rattle.geometry.specs.Points.{Route}
use Rattle.answer.specs.declared.Frame.{Frame}
use Rattle.answer.specs.Answer.{all_bytes, spot_bytes, spot_of, line_bytes, lines_of, trunk_bytes, trunk_of, head_bytes, body_bytes, answer_bytes}
use Rattle.answer.specs.SheetTables.{node_bytes, drawn_bytes, sheet_of}
use Rattle.answer.proofs.Stores.{sets_then, sets_before, all_map, all_length, head_length, spot_length}

-- the parts written one behind the other, the length last
pub answer_joined : (o h n r u : List ℕ) (p q e : ℕ) → length h ≡ 32 → p ≡ 36 + length n → q ≡ p + length r → e ≡ q + length u
    → sets (sets (sets (sets (sets o 4 h) 36 n) p r) q u) 0 (bytes 4 (e - 4)) ≡ sets o 0 (bytes 4 (length (h ++ (n ++ (r ++ u)))) ++ (h ++ (n ++ (r ++ u))))
answer_joined o h n r u p q e eh ep eq ee =
    let body = h ++ (n ++ (r ++ u)) in
    let size : e - 4 ≡ length body = simp length-append (omega arith) in
    let joined : sets (sets (sets (sets o 4 h) 36 n) p r) q u ≡ sets o 4 body =
    sets_then (sets (sets o 4 h) 36 n) p q r u eq ∙ sets_then (sets o 4 h) 36 p n (r ++ u) ep ∙ sets_then o 4 36 h (n ++ (r ++ u)) (omega arith) in
    rw (joined, size) (sets_before o 0 4 (bytes 4 (length body)) body (omega (arith, bytes_length 4 (length body))))

-- a line for each edge, whatever counts go on behind them
lines_cut : (slots : List Float) (es : List Edge) (k : ℕ) (ns : List ℕ) → lines_of es (routes_from slots k (take (length es) ns)) ≡ lines_of es (routes_from slots k ns)
unfolding lines_of routes_from
lines_cut slots [] k ns = refl
lines_cut slots (e ∷ es) k [] = refl
lines_cut slots (e ∷ es) k (n ∷ ns) = rw (lines_cut slots es (suc k) ns)

pub sheet_cut : (f : Frame) (n : List PlacedNode) (e : List Edge) (slots : List Float) (counts : List ℕ) (b : List DrawnBundle) (t : List DrawnTap) → sheet_of f n e slots (take (length e) counts) b t ≡ sheet_of f n e slots counts b t
sheet_cut f n e slots counts b t = rw (lines_cut slots e 0 counts)

lines_count : (es : List Edge) (rs : List Route) → length es ≤ length rs → length (lines_of es rs) ≡ length es
unfolding lines_of
lines_count [] rs h = refl
lines_count (e ∷ es) [] h = absurd (omega arith)
lines_count (e ∷ es) (r ∷ rs) h = ap suc (lines_count es rs (omega arith))

module _ (f : Frame) (n : List PlacedNode) (e : List Edge) (slots : List Float) (counts : List ℕ) (b : List DrawnBundle) (t : List DrawnTap) where
  abbrev pub heads : List ℕ
  heads = head_bytes f.tap_visits f.geometry_visits f.width f.height (length n) (length e) (length b)

  abbrev pub nodes_part : List ℕ
  nodes_part = all_bytes node_bytes n

  abbrev pub routes_part : List ℕ
  routes_part = all_bytes line_bytes (lines_of e (routes_of slots counts))

  abbrev pub bundles_part : List ℕ
  bundles_part = all_bytes (drawn_bytes t) b

  pub nodes_size : length nodes_part ≡ 20 * length n
  nodes_size = all_length node_bytes 20 n (λ a. spot_length (spot_of a))

  module _ (counted : length e ≤ length counts) where
    body_is : body_bytes (sheet_of f n e slots counts b t) ≡ heads ++ (nodes_part ++ (routes_part ++ bundles_part))
    unfolding body_bytes
    body_is =
        let cn = length-map n spot_of in
        let ce = lines_count e (routes_of slots counts) (rw (routes_length slots 0 counts) counted) in
        let cb = length-map b (trunk_of t) in
        rw (cn, ce, cb, all_map spot_bytes spot_of n, all_map trunk_bytes (trunk_of t) b)

    pub answer_is : answer_bytes (sheet_of f n e slots counts b t) ≡ bytes 4 (length (heads ++ (nodes_part ++ (routes_part ++ bundles_part)))) ++ (heads ++ (nodes_part ++ (routes_part ++ bundles_part)))
    unfolding answer_bytes
    answer_is = rw body_is

    pub answer_size : length (answer_bytes (sheet_of f n e slots counts b t)) ≡ 36 + 20 * length n + length routes_part + length bundles_part
    answer_size =
        let h = head_length f.tap_visits f.geometry_visits f.width f.height (length n) (length e) (length b) in
        let k = nodes_size in
        ap length answer_is ∙ simp (length-append, bytes_length) (omega arith)
