-- Runs of stores one behind the other, and the lengths of what is written. Assumes nothing.
use Rattle.std.specs.Int.{from_bool}
use Rattle.std.specs.Prelude.{ℕ, suc, ◌+◌, ◌*◌, ◌-◌, ◌/◌, ◌%◌, ◌≤◌, ◌<◌, ◌≡◌, refl, Bool, true, false, List, [], ◌∷◌, ◌++◌, map, Float, take, drop, get_or, set}
use Rattle.std.proofs.Common.{sym, ◌∙◌, length-drop, drop_of_length-le, get_or-take, length-take-le}
use Rattle.std.proofs.Math.Path.{ap}
use native.Mathlib.Omega.{arith}
use Rattle.std.proofs.Math.Numerals.{add-one}
use Rattle.std.proofs.Math.ListN.{length, length-append}
use Rattle.std.proofs.lemmas.List.{set_comm}
use Rattle.std.proofs.Math.Seq.{sets, drop-cons}
use Rattle.limits.specs.Limits.{max_nodes, max_edges, max_bundles, max_members, slot_points, max_drawn_points, largest_answer}
use Rattle.wire.specs.Bytes.{bytes, number_bytes}
use Rattle.wire.proofs.BytesLaws.{bytes_length}
use Rattle.geometry.specs.declared.Point.{Point}
use Rattle.geometry.specs.declared.Segment.{Segment}
use Rattle.board.specs.declared.Edge.{Edge}
use Rattle.board.specs.declared.DrawnBundle.{DrawnBundle}
use Rattle.board.specs.declared.DrawnTap.{DrawnTap}
use Rattle.board.specs.Board.{taps_of}
use Rattle.geometry.specs.Points.{point_at, points_from}
use Rattle.route.specs.Window.{points_length}
use Rattle.route.specs.Slots.{routes_from}
use Rattle.answer.specs.Answer.{Line, Trunk, Sheet, all_bytes, point_bytes, segment_bytes, spot_bytes, line_bytes, tap_bytes, mark, trunk_head, trunk_bytes, counts_bytes, head_bytes, body_bytes, answer_bytes, notice_bytes, lines_of, trunk_of}
use Rattle.answer.specs.SheetTables.{drawn_bytes}
pub use Rattle.answer.specs.Widths.{spot_length, tap_length}

-- ---- stores
pub sets_append : (d : List ℕ) (i : ℕ) (bs cs : List ℕ) → sets (sets d i bs) (i + length bs) cs ≡ sets d i (bs ++ cs)
sets_append d i [] cs =
    let e : i + 0 ≡ i = omega arith in
    rw e
sets_append d i (b ∷ bs) cs =
    let e : i + suc (length bs) ≡ suc i + length bs = omega arith in
    rw (e, sets_append (set d i b) (suc i) bs cs)

-- a run, then another right behind it
pub sets_then : (d : List ℕ) (i j : ℕ) (bs cs : List ℕ) → j ≡ i + length bs → sets (sets d i bs) j cs ≡ sets d i (bs ++ cs)
sets_then d i j bs cs e = rw (e, sets_append)

set_sets : (d : List ℕ) (i j b : ℕ) (cs : List ℕ) → i < j → set (sets d j cs) i b ≡ sets (set d i b) j cs
set_sets d i j b [] h = refl
set_sets d i j b (c ∷ cs) h = set_sets (set d j c) i (suc j) b cs (omega arith) ∙ ap (λ (l : List ℕ). sets l (suc j) cs) (set_comm d j i c b (λ e. omega arith))

-- a run, then another right before it
pub sets_before : (d : List ℕ) (i j : ℕ) (bs cs : List ℕ) → j ≡ i + length bs → sets (sets d j cs) i bs ≡ sets d i (bs ++ cs)
sets_before d i j [] cs e =
    let q : j ≡ i = omega arith in
    rw q
sets_before d i j (b ∷ bs) cs e =
    ap (λ (l : List ℕ). sets l (suc i) bs) (set_sets d i j b cs (omega arith)) ∙ sets_before (set d i b) (suc i) j bs cs (omega arith)

-- ---- the low bytes
pub low_four : (v : ℕ) → bytes 4 (v % 4294967296) ≡ bytes 4 v
unfolding bytes
low_four v =
    let a : v % 4294967296 / 256 / 256 / 256 % 256 ≡ v / 256 / 256 / 256 % 256 = omega arith in
    let b : v % 4294967296 / 256 / 256 % 256 ≡ v / 256 / 256 % 256 = omega arith in
    let c : v % 4294967296 / 256 % 256 ≡ v / 256 % 256 = omega arith in
    let d : v % 4294967296 % 256 ≡ v % 256 = omega arith in
    cc

pub low_two : (v : ℕ) → bytes 2 (v % 65536) ≡ bytes 2 v
unfolding bytes
low_two v =
    let c : v % 65536 / 256 % 256 ≡ v / 256 % 256 = omega arith in
    let d : v % 65536 % 256 ≡ v % 256 = omega arith in
    cc

-- ---- lengths
pub number_length : (x : Float) → length (number_bytes x) ≡ 8
number_length x = bytes_length 8 _

pub point_length : (p : Point) → length (point_bytes p) ≡ 16
unfolding point_bytes
point_length p = simp (length-append, bytes_length)

pub segment_length : (s : Segment) → length (segment_bytes s) ≡ 32
unfolding segment_bytes
segment_length s = simp (length-append, point_length)

-- records of one length
pub all_length : {A : Type 0} (f : A → List ℕ) (w : ℕ) (l : List A) → ((a : A) → length (f a) ≡ w) → length (all_bytes f l) ≡ w * length l
unfolding all_bytes
all_length f w [] h = omega arith
all_length f w (a ∷ l) h =
    let k = all_length f w l h in
    let q = h a in
    let m : w * suc (length l) ≡ w + w * length l = native.Mathlib.Nat.mul-suc w (length l) ∙ native.Mathlib.Nat.add_comm _ _ in
    simp length-append (omega arith)

pub line_length : (l : Line) → length (line_bytes l) ≡ 6 + 16 * length l.points
unfolding line_bytes
line_length l =
    let k = all_length point_bytes 16 l.points point_length in
    simp (length-append, bytes_length) (omega arith)

pub trunk_head_length : (id : ℕ) (i : Bool) (c s : Segment) (n : ℕ) → length (trunk_head id i c s n) ≡ 71
unfolding trunk_head
trunk_head_length id i c s n = simp (length-append, bytes_length, segment_length)

pub trunk_length : (b : Trunk) → length (trunk_bytes b) ≡ 71 + 20 * length b.taps
unfolding trunk_bytes
trunk_length b =
    let k = all_length tap_bytes 20 b.taps tap_length in
    simp (length-append, trunk_head_length) (omega arith)

pub head_length : (t g : ℕ) (w h : Float) (n r b : ℕ) → length (head_bytes t g w h n r b) ≡ 32
unfolding head_bytes counts_bytes
head_length t g w h n r b = simp (length-append, bytes_length)

-- points of all routes, taps of all bundles
unfoldable pub total_points : List Line → ℕ
total_points [] = 0
total_points (l ∷ ls) = length l.points + total_points ls

unfoldable pub total_taps : List Trunk → ℕ
total_taps [] = 0
total_taps (b ∷ bs) = length b.taps + total_taps bs

lines_length : (ls : List Line) → length (all_bytes line_bytes ls) ≡ 6 * length ls + 16 * total_points ls
unfolding all_bytes total_points
lines_length [] = omega arith
lines_length (l ∷ ls) =
    let a = line_length l in
    let k = lines_length ls in
    simp length-append (omega arith)

trunks_length : (bs : List Trunk) → length (all_bytes trunk_bytes bs) ≡ 71 * length bs + 20 * total_taps bs
unfolding all_bytes total_taps
trunks_length [] = omega arith
trunks_length (b ∷ bs) =
    let a = trunk_length b in
    let k = trunks_length bs in
    simp length-append (omega arith)

-- how many bytes an answer has
pub answer_length : (s : Sheet) → length (answer_bytes s) ≡ 36 + 20 * length s.nodes + 6 * length s.routes + 16 * total_points s.routes + 71 * length s.bundles + 20 * total_taps s.bundles
unfolding answer_bytes body_bytes
answer_length s =
    let n = all_length spot_bytes 20 s.nodes spot_length in
    let l = lines_length s.routes in
    let t = trunks_length s.bundles in
    simp (length-append, bytes_length, head_length) (omega arith)

-- at most 52,484 bytes: 128 nodes, 256 routes, 2,048 given points and two for each of 256 members, 32 bundles, 256 taps
pub answer_at_most : (s : Sheet) → length s.nodes ≤ max_nodes → length s.routes ≤ max_edges → total_points s.routes ≤ max_drawn_points → length s.bundles ≤ max_bundles → total_taps s.bundles ≤ max_members
    → length (answer_bytes s) ≤ largest_answer
answer_at_most s n r p b t = omega (arith, answer_length s)

pub notice_length : (n : ℕ) → length (notice_bytes n) ≡ 6
unfolding notice_bytes
notice_length n = simp (length-append, bytes_length)

-- a bool converted to a number is the mark
pub mark_is : (b : Bool) → from_bool b ≡ mark b
unfolding mark
mark_is true = refl
mark_is false = refl

-- ---- turns of the loops
module _ {A : Type 0} (f : A → List ℕ) (l : List A) (n i : ℕ) (d : A) (fits : n ≤ length l) where
  pub rest_next : i < n → drop i (take n l) ≡ get_or l i d ∷ drop (i + 1) (take n l)
  rest_next h =
      let k : i < length (take n l) = rw (length-take-le n l fits) h in
      rw (drop-cons (take n l) i d k, get_or-take n l i d h, add-one i)

  -- one more was written
  pub written : (o o' : List ℕ) (at : ℕ) → i < n → o' ≡ sets o at (f (get_or l i d))
      → sets o' (at + length (f (get_or l i d))) (all_bytes f (drop (i + 1) (take n l))) ≡ sets o at (all_bytes f (drop i (take n l)))
  unfolding all_bytes
  written o o' at h e = rw (e, rest_next h, sets_append)

  -- what is left gets shorter by it
  pub shorter : i < n → length (all_bytes f (drop i (take n l))) ≡ length (f (get_or l i d)) + length (all_bytes f (drop (i + 1) (take n l)))
  unfolding all_bytes
  shorter h = rw (rest_next h, length-append)

pub nothing_left : {A : Type 0} (f : A → List ℕ) (l : List A) (n i : ℕ) → n ≤ length l → n ≤ i → all_bytes f (drop i (take n l)) ≡ []
unfolding all_bytes
nothing_left f l n i fits h =
    let k : length (take n l) ≤ i = rw (length-take-le n l fits) h in
    rw (drop_of_length-le (take n l) k)

pub all_map : {A B : Type 0} (f : B → List ℕ) (g : A → B) (l : List A) → all_bytes f (map g l) ≡ all_bytes (λ a. f (g a)) l
unfolding all_bytes
all_map f g [] = refl
all_map f g (a ∷ l) = rw (all_map f g l)

-- a list of records of one width, what is left of it
module _ {A : Type 0} (f : A → List ℕ) (w : ℕ) (sized : (a : A) → length (f a) ≡ w) (l : List A) (i : ℕ) where
  pub record_turn : (o o' : List ℕ) (at : ℕ) (a : A) → i < length l → a ≡ get_or l i a → o' ≡ sets o at (f a)
      → sets o' (at + w) (all_bytes f (drop (i + 1) l)) ≡ sets o at (all_bytes f (drop i l))
  unfolding all_bytes
  record_turn o o' at a h r e =
      rw (e, drop-cons l i a h, add-one i, ← r)
      (sets_then o at (at + w) (f a) (all_bytes f (drop (suc i) l)) (ap (λ (z : ℕ). at + z) (sym (sized a))))

pub records_done : {A : Type 0} (f : A → List ℕ) (l : List A) (i : ℕ) → length l ≤ i → all_bytes f (drop i l) ≡ []
unfolding all_bytes
records_done f l i h = rw (drop_of_length-le l h)

-- points of a route
pub points_turn : (s : List Float) (start n i at : ℕ) (o o' : List ℕ) (p : Point) → i < n → p ≡ point_at s (start + i) → o' ≡ sets o at (point_bytes p)
    → sets o' (at + 16) (all_bytes point_bytes (points_from s (start + (i + 1)) (n - (i + 1)))) ≡ sets o at (all_bytes point_bytes (points_from s (start + i) (n - i)))
unfolding all_bytes points_from
points_turn s start n i at o o' p h q e =
    let a : n - i ≡ suc (n - (i + 1)) = omega arith in
    let b : start + (i + 1) ≡ suc (start + i) = omega arith in
    rw (a, b, ← q, e)
    (sets_then o at (at + 16) (point_bytes p) (all_bytes point_bytes (points_from s (suc (start + i)) (n - (i + 1)))) (ap (λ (z : ℕ). at + z) (sym (point_length p))))

pub points_done : (s : List Float) (start n i at : ℕ) (o : List ℕ) → n ≤ i → sets o at (all_bytes point_bytes (points_from s (start + i) (n - i))) ≡ o
unfolding all_bytes points_from
points_done s start n i at o h = let a : n - i ≡ 0 = omega arith in rw a

-- windows of as many points
pub as_many : (s t : List Float) (i j n m : ℕ) → points_from s i n ≡ points_from t j m → n ≡ m
as_many s t i j n m e = sym (points_length s i n) ∙ ap length e ∙ points_length t j m

-- what a read past a list's end gives
abbrev pub some_edge : Edge
some_edge = record { id = 0; source = 0; target = 0; first = 0; count = 0 }

-- routes of the slots
module _ (rows : List Edge) (slots : List Float) (counts : List ℕ) (i : ℕ) (d : Edge) (within : i < length rows) (counted : length rows ≤ length counts) where
  abbrev rest : ℕ → List Line
  rest j = lines_of (drop j rows) (routes_from slots j (drop j counts))

  abbrev here : Line
  here = record { id = (get_or rows i d).id; points = points_from slots (slot_points * i) (get_or counts i 0) }

  lines_next : rest i ≡ here ∷ rest (i + 1)
  unfolding lines_of routes_from
  lines_next =
      let k : i < length counts = omega arith in
      rw (drop-cons rows i d within, drop-cons counts i 0 k, add-one i)

  here_length : length (line_bytes here) ≡ 6 + 16 * get_or counts i 0
  here_length = line_length here ∙ ap (λ (z : ℕ). 6 + 16 * z) (points_length slots (slot_points * i) (get_or counts i 0))

  pub line_turn : (o o' : List ℕ) (at next : ℕ) → next ≡ at + (6 + 16 * get_or counts i 0) → o' ≡ sets o at (line_bytes here)
      → sets o' next (all_bytes line_bytes (rest (i + 1))) ≡ sets o at (all_bytes line_bytes (rest i))
  unfolding all_bytes
  line_turn o o' at next q e =
      rw (lines_next, e)
      (sets_then o at next (line_bytes here) (all_bytes line_bytes (rest (i + 1))) (q ∙ ap (λ (z : ℕ). at + z) (sym here_length)))

  pub line_room : length (all_bytes line_bytes (rest i)) ≡ 6 + 16 * get_or counts i 0 + length (all_bytes line_bytes (rest (i + 1)))
  unfolding all_bytes
  line_room = let q = here_length in rw (lines_next, length-append, q)

pub lines_done : (rows : List Edge) (slots : List Float) (counts : List ℕ) (i : ℕ) → length rows ≤ i → all_bytes line_bytes (lines_of (drop i rows) (routes_from slots i (drop i counts))) ≡ []
unfolding lines_of all_bytes
lines_done rows slots counts i h = rw (drop_of_length-le rows h)

-- a bundle with its taps
module _ (taps : List DrawnTap) (b : DrawnBundle) (inside : b.first + b.count ≤ length taps) where
  pub taps_count : length (taps_of taps b) ≡ b.count
  taps_count =
      let k : b.count ≤ length (drop b.first taps) = rw length-drop (omega arith) in
      length-take-le b.count (drop b.first taps) k

  pub trunk_joined : (o o' o'' : List ℕ) (at : ℕ) → o' ≡ sets o at (trunk_head b.id b.interior b.collector b.spine b.count)
      → o'' ≡ sets o' (at + 71) (all_bytes tap_bytes (taps_of taps b)) → o'' ≡ sets o at (drawn_bytes taps b)
  unfolding trunk_bytes
  trunk_joined o o' o'' at e f =
      let h = trunk_head b.id b.interior b.collector b.spine b.count in
      rw (f, e, taps_count)
      (sets_then o at (at + 71) h (all_bytes tap_bytes (taps_of taps b)) (ap (λ (z : ℕ). at + z) (sym (trunk_head_length b.id b.interior b.collector b.spine b.count))))

  pub drawn_length : length (drawn_bytes taps b) ≡ 71 + 20 * b.count
  drawn_length = trunk_length (trunk_of taps b) ∙ ap (λ (z : ℕ). 71 + 20 * z) taps_count

-- the writes of a record joined
module _ (o : List ℕ) (at : ℕ) where
  pub point_joined : (p : Point) → sets (sets o at (number_bytes p.x)) (at + 8) (number_bytes p.y) ≡ sets o at (point_bytes p)
  unfolding point_bytes
  point_joined p = sets_then o at (at + 8) (number_bytes p.x) (number_bytes p.y) (omega (arith, number_length p.x))

  pub segment_joined : (s : Segment) → sets (sets o at (point_bytes s.start)) (at + 16) (point_bytes s.end) ≡ sets o at (segment_bytes s)
  unfolding segment_bytes
  segment_joined s = sets_then o at (at + 16) (point_bytes s.start) (point_bytes s.end) (omega (arith, point_length s.start))

  pub id_point_joined : (id : ℕ) (p : Point) → sets (sets o at (bytes 4 id)) (at + 4) (point_bytes p) ≡ sets o at (bytes 4 id ++ point_bytes p)
  id_point_joined id p = sets_then o at (at + 4) (bytes 4 id) (point_bytes p) (omega (arith, bytes_length 4 id))

  pub line_joined : (id count : ℕ) (ps : List Point) → length ps ≡ count
      → sets (sets (sets o at (bytes 4 id)) (at + 4) (bytes 2 count)) (at + 6) (all_bytes point_bytes ps) ≡ sets o at (line_bytes (record { id = id; points = ps }))
  unfolding line_bytes
  line_joined id count ps e =
      rw e
      (sets_then (sets o at (bytes 4 id)) (at + 4) (at + 6) (bytes 2 count) (all_bytes point_bytes ps) (omega (arith, bytes_length 2 count))
      ∙ sets_then o at (at + 4) (bytes 4 id) (bytes 2 count ++ all_bytes point_bytes ps) (omega (arith, bytes_length 4 id)))

  pub trunk_head_joined : (id : ℕ) (i : Bool) (c s : Segment) (n : ℕ)
      → sets (sets (sets (sets (sets o at (bytes 4 id)) (at + 4) (bytes 1 (mark i))) (at + 5) (segment_bytes c)) (at + 37) (segment_bytes s)) (at + 69) (bytes 2 n) ≡ sets o at (trunk_head id i c s n)
  unfolding trunk_head
  trunk_head_joined id i c s n =
      let a = bytes 4 id in
      let b = bytes 1 (mark i) in
      let d = segment_bytes c in
      let e = segment_bytes s in
      let f = bytes 2 n in
      sets_then (sets (sets (sets o at a) (at + 4) b) (at + 5) d) (at + 37) (at + 69) e f (omega (arith, segment_length s))
      ∙ sets_then (sets (sets o at a) (at + 4) b) (at + 5) (at + 37) d (e ++ f) (omega (arith, segment_length c))
      ∙ sets_then (sets o at a) (at + 4) (at + 5) b (d ++ (e ++ f)) (omega (arith, bytes_length 1 (mark i)))
      ∙ sets_then o at (at + 4) a (b ++ (d ++ (e ++ f))) (omega (arith, bytes_length 4 id))

  pub counts_joined : (n r b : ℕ) → sets (sets (sets o at (bytes 2 n)) (at + 2) (bytes 2 r)) (at + 4) (bytes 2 b) ≡ sets o at (counts_bytes n r b)
  unfolding counts_bytes
  counts_joined n r b =
      sets_then (sets o at (bytes 2 n)) (at + 2) (at + 4) (bytes 2 r) (bytes 2 b) (omega (arith, bytes_length 2 r))
      ∙ sets_then o at (at + 2) (bytes 2 n) (bytes 2 r ++ bytes 2 b) (omega (arith, bytes_length 2 n))

  pub head_joined : (t g : ℕ) (w h : Float) (n r b : ℕ)
      → sets (sets (sets (sets (sets (sets (sets o at (bytes 1 1)) (at + 1) (bytes 1 0)) (at + 2) (bytes 4 t)) (at + 6) (bytes 4 g)) (at + 10) (number_bytes w)) (at + 18) (number_bytes h)) (at + 26) (counts_bytes n r b)
      ≡ sets o at (head_bytes t g w h n r b)
  unfolding head_bytes
  head_joined t g w h n r b =
      let s1 = sets o at (bytes 1 1) in
      let s2 = sets s1 (at + 1) (bytes 1 0) in
      let s3 = sets s2 (at + 2) (bytes 4 t) in
      let s4 = sets s3 (at + 6) (bytes 4 g) in
      let s5 = sets s4 (at + 10) (number_bytes w) in
      let t6 = number_bytes h ++ counts_bytes n r b in
      let t5 = number_bytes w ++ t6 in
      let t4 = bytes 4 g ++ t5 in
      let t3 = bytes 4 t ++ t4 in
      let t2 = bytes 1 0 ++ t3 in
      sets_then s5 (at + 18) (at + 26) (number_bytes h) (counts_bytes n r b) (omega (arith, number_length h))
      ∙ sets_then s4 (at + 10) (at + 18) (number_bytes w) t6 (omega (arith, number_length w))
      ∙ sets_then s3 (at + 6) (at + 10) (bytes 4 g) t5 (omega (arith, bytes_length 4 g))
      ∙ sets_then s2 (at + 2) (at + 6) (bytes 4 t) t4 (omega (arith, bytes_length 4 t))
      ∙ sets_then s1 (at + 1) (at + 2) (bytes 1 0) t3 (omega (arith, bytes_length 1 0))
      ∙ sets_then o at (at + 1) (bytes 1 1) t2 (omega (arith, bytes_length 1 1))

  pub notice_joined : (n : ℕ) → sets (sets (sets o 0 (bytes 4 2)) 4 (bytes 1 1)) 5 (bytes 1 n) ≡ sets o 0 (notice_bytes n)
  unfolding notice_bytes
  notice_joined n =
      sets_then (sets o 0 (bytes 4 2)) 4 5 (bytes 1 1) (bytes 1 n) (omega (arith, bytes_length 1 1))
      ∙ sets_then o 0 4 (bytes 4 2) (bytes 1 1 ++ bytes 1 n) (omega (arith, bytes_length 4 2))

-- the loop over bundles
module _ (taps : List DrawnTap) (rows : List DrawnBundle) (i : ℕ) (d : DrawnBundle) (within : i < length rows) (inside : (get_or rows i d).first + (get_or rows i d).count ≤ length taps) where
  bundle_next : all_bytes (drawn_bytes taps) (drop i rows) ≡ drawn_bytes taps (get_or rows i d) ++ all_bytes (drawn_bytes taps) (drop (i + 1) rows)
  unfolding all_bytes
  bundle_next = rw (drop-cons rows i d within, add-one i)

  pub bundle_room : length (all_bytes (drawn_bytes taps) (drop i rows)) ≡ 71 + 20 * (get_or rows i d).count + length (all_bytes (drawn_bytes taps) (drop (i + 1) rows))
  bundle_room =
      let k = drawn_length taps (get_or rows i d) inside in
      ap length bundle_next ∙ length-append (drawn_bytes taps (get_or rows i d)) (all_bytes (drawn_bytes taps) (drop (i + 1) rows)) ∙ omega arith

  pub bundle_written : (o o' : List ℕ) (at next : ℕ) → next ≡ at + (71 + 20 * (get_or rows i d).count) → o' ≡ sets o at (drawn_bytes taps (get_or rows i d))
      → sets o' next (all_bytes (drawn_bytes taps) (drop (i + 1) rows)) ≡ sets o at (all_bytes (drawn_bytes taps) (drop i rows))
  bundle_written o o' at next q e =
      rw (e, bundle_next)
      (sets_then o at next (drawn_bytes taps (get_or rows i d)) (all_bytes (drawn_bytes taps) (drop (i + 1) rows)) (q ∙ ap (λ (z : ℕ). at + z) (sym (drawn_length taps (get_or rows i d) inside))))
