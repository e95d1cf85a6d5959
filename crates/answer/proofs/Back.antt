-- An answer read back: the sheet that was written. So an answer has one meaning. Assumes nothing.
use Rattle.std.specs.Prelude.{ℕ, ◌^◌, ◌≤◌, ◌<◌, ◌≡◌, refl, Bool, true, false, List, [], ◌∷◌, ◌++◌, T, eqb, Float, length}
use Rattle.std.proofs.Common.{append_assoc, arith, length-append, take_at, drop_at, le-leb}
use Rattle.std.specs.Float.{binary64}
use Rattle.std.specs.Float.Ieee.{fits, to_bits, of_bits}
use Rattle.std.specs.Float.Ieee.Bits.{of_bits-to_bits, to_bits-lt}
use Rattle.wire.specs.Bytes.{bytes, number_bytes}
use Rattle.wire.proofs.BytesLaws.{bytes_length, number_back}
use Rattle.wire.specs.Read.{got, Reader, after, read, give, field, list_of}
use Rattle.wire.proofs.All.{All}
use Rattle.geometry.specs.declared.Point.{Point}
use Rattle.geometry.specs.declared.Segment.{Segment}
use Rattle.board.specs.declared.DrawnTap.{DrawnTap}
use Rattle.answer.specs.Answer.{Spot, Line, Trunk, Sheet, all_bytes, point_bytes, segment_bytes, spot_bytes, line_bytes, tap_bytes, mark, trunk_head, trunk_bytes, counts_bytes, head_bytes, body_bytes, answer_bytes}

-- ---- the readings
abbrev pub real : Reader Float
real = read (field 8) (λ b. give (of_bits binary64 b))

abbrev pub point : Reader Point
point = read real (λ x. read real (λ y. give (record { x = x; y = y })))

abbrev pub segment : Reader Segment
segment = read point (λ a. read point (λ b. give (record { start = a; end = b })))

abbrev pub spot : Reader Spot
spot = read (field 4) (λ id. read point (λ p. give (record { id = id; corner = p })))

abbrev pub line : Reader Line
line = read (field 4) (λ id. read (field 2) (λ n. read (list_of n point) (λ ps. give (record { id = id; points = ps }))))

abbrev pub tap : Reader DrawnTap
tap = read (field 4) (λ edge. read point (λ p. give (record { edge = edge; point = p })))

abbrev pub trunk : Reader Trunk
trunk =
    read (field 4) (λ id. read (field 1) (λ m. read segment (λ c. read segment (λ s. read (field 2) (λ n. read (list_of n tap) (λ ts.
    give (record { id = id; interior = eqb m 1; collector = c; spine = s; taps = ts })))))))

-- version and number are looked at by whoever reads; here they are passed over
abbrev pub sheet_body : Reader Sheet
sheet_body =
    read (field 1) (λ version. read (field 1) (λ number. read (field 4) (λ t. read (field 4) (λ g. read real (λ w. read real (λ h.
    read (field 2) (λ n. read (field 2) (λ r. read (field 2) (λ b. read (list_of n spot) (λ ns. read (list_of r line) (λ rs. read (list_of b trunk) (λ bs.
    give (record { tap_visits = t; geometry_visits = g; width = w; height = h; nodes = ns; routes = rs; bundles = bs })))))))))))))

abbrev pub sheet : Reader Sheet
sheet = read (field 4) (λ size. sheet_body)

-- ---- what fits its fields
abbrev pub Real : Float → Type 0
Real x = T (fits binary64 x)

pub record Reals (p : Point) : Type 0 where
  pub x : Real p.x
  pub y : Real p.y

pub record Ends (s : Segment) : Type 0 where
  pub start : Reals s.start
  pub end : Reals s.end

pub record SpotFits (n : Spot) : Type 0 where
  pub id : n.id < 4294967296
  pub corner : Reals n.corner

pub record LineFits (l : Line) : Type 0 where
  pub id : l.id < 4294967296
  pub count : length l.points < 65536
  pub points : All Reals l.points

pub record TapFits (t : DrawnTap) : Type 0 where
  pub edge : t.edge < 4294967296
  pub point : Reals t.point

pub record TrunkFits (b : Trunk) : Type 0 where
  pub id : b.id < 4294967296
  pub collector : Ends b.collector
  pub spine : Ends b.spine
  pub count : length b.taps < 65536
  pub taps : All TapFits b.taps

pub record SheetFits (s : Sheet) : Type 0 where
  pub tap_visits : s.tap_visits < 4294967296
  pub geometry_visits : s.geometry_visits < 4294967296
  pub width : Real s.width
  pub height : Real s.height
  pub node_count : length s.nodes < 65536
  pub route_count : length s.routes < 65536
  pub bundle_count : length s.bundles < 65536
  pub nodes : All SpotFits s.nodes
  pub routes : All LineFits s.routes
  pub bundles : All TrunkFits s.bundles
  pub size : length (body_bytes s) < 4294967296

-- ---- there and back
pub field_back : (w v : ℕ) (rest : List ℕ) → v < 256 ^ w → field w (bytes w v ++ rest) ≡ got v rest
unfolding field
field_back w v rest h =
    let l = bytes_length w v in
    let k : w ≤ length (bytes w v ++ rest) = simp (length-append, bytes_length) (omega arith) in
    rw (le-leb w (length (bytes w v ++ rest)) k, take_at (bytes w v) rest w l, drop_at (bytes w v) rest w l, number_back w v h)

real_back : (x : Float) (rest : List ℕ) → Real x → real (number_bytes x ++ rest) ≡ got x rest
unfolding after
real_back x rest f = rw (field_back 8 (to_bits binary64 x) rest (to_bits-lt binary64 x f), of_bits-to_bits binary64 x f)

point_back : (p : Point) (rest : List ℕ) → Reals p → point (point_bytes p ++ rest) ≡ got p rest
unfolding after point_bytes
point_back p rest f = rw (append_assoc (number_bytes p.x) (number_bytes p.y) rest, real_back p.x (number_bytes p.y ++ rest) f.x, real_back p.y rest f.y)

segment_back : (s : Segment) (rest : List ℕ) → Ends s → segment (segment_bytes s ++ rest) ≡ got s rest
unfolding after segment_bytes
segment_back s rest f = rw (append_assoc (point_bytes s.start) (point_bytes s.end) rest, point_back s.start (point_bytes s.end ++ rest) f.start, point_back s.end rest f.end)

list_back : {A : Type 0} (f : A → List ℕ) (p : Reader A) (P : A → Type 0) → ((a : A) (rest : List ℕ) → P a → p (f a ++ rest) ≡ got a rest)
    → (l : List A) (rest : List ℕ) → All P l → list_of (length l) p (all_bytes f l ++ rest) ≡ got l rest
unfolding list_of all_bytes All after
list_back f p P back [] rest h = refl
list_back f p P back (a ∷ l) rest h =
    rw (append_assoc (f a) (all_bytes f l) rest, back a (all_bytes f l ++ rest) h.0, list_back f p P back l rest h.1)

spot_back : (n : Spot) (rest : List ℕ) → SpotFits n → spot (spot_bytes n ++ rest) ≡ got n rest
unfolding after spot_bytes
spot_back n rest f = rw (append_assoc (bytes 4 n.id) (point_bytes n.corner) rest, field_back 4 n.id (point_bytes n.corner ++ rest) f.id, point_back n.corner rest f.corner)

tap_back : (t : DrawnTap) (rest : List ℕ) → TapFits t → tap (tap_bytes t ++ rest) ≡ got t rest
unfolding after tap_bytes
tap_back t rest f = rw (append_assoc (bytes 4 t.edge) (point_bytes t.point) rest, field_back 4 t.edge (point_bytes t.point ++ rest) f.edge, point_back t.point rest f.point)

line_back : (l : Line) (rest : List ℕ) → LineFits l → line (line_bytes l ++ rest) ≡ got l rest
unfolding after line_bytes
line_back l rest f =
    let n = length l.points in
    let ps = all_bytes point_bytes l.points in
    rw (
      append_assoc (bytes 4 l.id) (bytes 2 n ++ ps) rest,
      append_assoc (bytes 2 n) ps rest,
      field_back 4 l.id (bytes 2 n ++ (ps ++ rest)) f.id,
      field_back 2 n (ps ++ rest) f.count,
      list_back point_bytes point Reals point_back l.points rest f.points,
    )

mark_back : (i : Bool) → eqb (mark i) 1 ≡ i
unfolding mark
mark_back true = refl
mark_back false = refl

mark_small : (i : Bool) → mark i < 256
unfolding mark
mark_small true = omega arith
mark_small false = omega arith

trunk_back : (b : Trunk) (rest : List ℕ) → TrunkFits b → trunk (trunk_bytes b ++ rest) ≡ got b rest
unfolding after trunk_bytes trunk_head
trunk_back b rest f =
    let id = bytes 4 b.id in
    let m = bytes 1 (mark b.interior) in
    let c = segment_bytes b.collector in
    let s = segment_bytes b.spine in
    let n = bytes 2 (length b.taps) in
    let ts = all_bytes tap_bytes b.taps in
    simp append_assoc
    (rw (
      field_back 4 b.id (m ++ (c ++ (s ++ (n ++ (ts ++ rest))))) f.id,
      field_back 1 (mark b.interior) (c ++ (s ++ (n ++ (ts ++ rest)))) (mark_small b.interior),
      segment_back b.collector (s ++ (n ++ (ts ++ rest))) f.collector,
      segment_back b.spine (n ++ (ts ++ rest)) f.spine,
      field_back 2 (length b.taps) (ts ++ rest) f.count,
      list_back tap_bytes tap TapFits tap_back b.taps rest f.taps,
      mark_back b.interior,
    ))

body_back : (s : Sheet) (rest : List ℕ) → SheetFits s → sheet_body (body_bytes s ++ rest) ≡ got s rest
unfolding after body_bytes head_bytes counts_bytes
body_back s rest f =
    let u = all_bytes trunk_bytes s.bundles ++ rest in
    let l = all_bytes line_bytes s.routes ++ u in
    let k = all_bytes spot_bytes s.nodes ++ l in
    let b = bytes 2 (length s.bundles) ++ k in
    let r = bytes 2 (length s.routes) ++ b in
    let n = bytes 2 (length s.nodes) ++ r in
    let h = number_bytes s.height ++ n in
    let w = number_bytes s.width ++ h in
    let g = bytes 4 s.geometry_visits ++ w in
    let t = bytes 4 s.tap_visits ++ g in
    simp append_assoc
    (rw (
      field_back 1 1 (bytes 1 0 ++ t) (omega arith),
      field_back 1 0 t (omega arith),
      field_back 4 s.tap_visits g f.tap_visits,
      field_back 4 s.geometry_visits w f.geometry_visits,
      real_back s.width h f.width,
      real_back s.height n f.height,
      field_back 2 (length s.nodes) r f.node_count,
      field_back 2 (length s.routes) b f.route_count,
      field_back 2 (length s.bundles) k f.bundle_count,
      list_back spot_bytes spot SpotFits spot_back s.nodes l f.nodes,
      list_back line_bytes line LineFits line_back s.routes u f.routes,
      list_back trunk_bytes trunk TrunkFits trunk_back s.bundles rest f.bundles,
    ))

-- the round trip
pub sheet_back : (s : Sheet) (rest : List ℕ) → SheetFits s → sheet (answer_bytes s ++ rest) ≡ got s rest
unfolding after answer_bytes
sheet_back s rest f = rw (append_assoc (bytes 4 (length (body_bytes s))) (body_bytes s) rest, field_back 4 (length (body_bytes s)) (body_bytes s ++ rest) f.size, body_back s rest f)
