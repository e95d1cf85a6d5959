-- Which bytes of a job are numbers, by their places in document 01's section "The job", and the same job with plus zeros (F-1): each number field that holds
-- 80 00 00 00 00 00 00 00 holds eight zero bytes instead, and every other byte stays. Bytes that end early are copied up to their end. Definitions of theorems.
-- Assumes nothing.
use Rattle.std.specs.Prelude.{ℕ, zero, suc, Bool, true, false, ◌&&◌, cond, List, [], ◌∷◌, ◌++◌, eqb, take, drop}
use Rattle.wire.specs.Bytes.{number}

abbrev pub Copy : Type 0
Copy = List ℕ → List ℕ

-- ---- fields, each followed by what k makes of the bytes behind it

-- w bytes that are no number, as they are; k may go by their value
unfoldable pub kept : ℕ → (ℕ → Copy) → Copy
kept w k s = take w s ++ k (number (take w s)) (drop w s)

abbrev pub u8 : Copy → Copy
u8 k = kept 1 (λ n. k)

abbrev pub u32 : Copy → Copy
u32 k = kept 4 (λ n. k)

abbrev pub count : (ℕ → Copy) → Copy
count k = kept 2 k

unfoldable pub same_bytes : List ℕ → List ℕ → Bool
same_bytes [] [] = true
same_bytes [] (b ∷ m) = false
same_bytes (a ∷ l) [] = false
same_bytes (a ∷ l) (b ∷ m) = eqb a b && same_bytes l m

abbrev pub minus_zero_bytes : List ℕ
minus_zero_bytes = 128 ∷ 0 ∷ 0 ∷ 0 ∷ 0 ∷ 0 ∷ 0 ∷ 0 ∷ []

abbrev pub plus_zero_bytes : List ℕ
plus_zero_bytes = 0 ∷ 0 ∷ 0 ∷ 0 ∷ 0 ∷ 0 ∷ 0 ∷ 0 ∷ []

-- the eight bytes of a number
unfoldable pub number_field : List ℕ → List ℕ
number_field l = cond (same_bytes l minus_zero_bytes) plus_zero_bytes l

-- a number
unfoldable pub f64 : Copy → Copy
f64 k s = number_field (take 8 s) ++ k (drop 8 s)

-- n records of one kind
unfoldable pub times : ℕ → (Copy → Copy) → Copy → Copy
times zero c k = k
times (suc n) c k = c (times n c k)

-- ---- the job

-- "Node: id u32; x, y, width, height f64."
abbrev pub node : Copy → Copy
node k = u32 (f64 (f64 (f64 (f64 k))))

-- "Port: node u32, id u32, side u8 .., offset f64."
abbrev pub port : Copy → Copy
port k = u32 (u32 (u8 (f64 k)))

-- "points as x, y f64"
abbrev pub point : Copy → Copy
point k = f64 (f64 k)

-- "Edge: id u32; source node, source port, target node, target port u32; point count u16; points .."
abbrev pub edge : Copy → Copy
edge k = u32 (u32 (u32 (u32 (u32 (count (λ points. times points point k))))))

-- "Five f64: port_stub, .., member_endpoint_reserve"
abbrev pub options : Copy → Copy
options k = f64 (f64 (f64 (f64 (f64 k))))

-- "Two u32 grants"
abbrev pub grants : Copy → Copy
grants k = u32 (u32 k)

-- "Then, in that order": nodes, ports, edges. Bundles have no number: they, and whatever follows, stay as they are
abbrev pub tables : ℕ → ℕ → ℕ → Copy
tables nodes ports edges = times nodes node (times ports port (times edges edge (λ rest. rest)))

-- "Four u16 counts: nodes, ports, edges, bundles"
abbrev pub counts : Copy
counts = count (λ nodes. count (λ ports. count (λ edges. count (λ bundles. tables nodes ports edges))))

-- "Flags u8", and what follows
abbrev pub fields : Copy
fields = u8 (options (grants counts))

-- "Length u32 .. Version u8", and what follows
abbrev pub with_plus_zeros : Copy
with_plus_zeros = u32 (u8 fields)
