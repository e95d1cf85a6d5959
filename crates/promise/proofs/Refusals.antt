-- The numbers that the reader refuses with, 1 to 9 or 15, and each exactly when it is due. Assumes nothing.
use Rattle.std.specs.Prelude.{ℕ, zero, suc, ◌+◌, ◌-◌, ◌≤◌, ◌≡◌, refl, ◌⊎◌, Bool, true, false, cond, List, [], leb, eqb, Float, length, get_or, take, drop, Option, Some, None}
use Rattle.std.proofs.Common.{sym, ◌∙◌, subst, inl, inr, true≢false, arith, leb-true, eqb-true, le-leb, eq-eqb, ne_eqb}
use Rattle.std.proofs.lemmas.Bool.{eqb-false}
use Rattle.limits.specs.Limits.{max_nodes, max_ports, max_edges, max_route_points, max_points, max_bundles, max_bundle_members, max_members, max_lane, max_tap_visits, max_geometry_visits}
use Rattle.geometry.specs.declared.Point.{Point}
use Rattle.geometry.specs.declared.Role.{Role}
use Rattle.board.specs.Board.{Board}
use Rattle.binary64.specs.Bools.{both_true}
use Rattle.binary64.specs.Accepted.{accepted}
use Rattle.wire.specs.Bytes.{number}
use Rattle.wire.proofs.BytesLaws.{number_one}
use Rattle.wire.specs.Read.{Read, refused, got, Reader, after, read, give, field, limited, at_most, many}
use Rattle.wire.specs.ReadLaws.{field_at}
use Rattle.grid.specs.DraftingGrid.{on_drafting_grid}
use Rattle.wire.specs.Accept.{number_in_bits, taken, number_in, gridded, coordinate, size, option}
use Rattle.job.specs.declared.Counts.{Counts}
use Rattle.job.specs.declared.Header.{Header}
use Rattle.job.specs.Job.{flags_of, side_of, role_of, options, grants, counts, header, node, port, point, member, within_total, counted, edge_head, bundle_head, push, EdgeList, BundleList, next_edge, next_bundle, Tables, ended, tables, some_twice, resolved, Outcome, refusal, or_nine, settled, outcome, fields, version, lengths_fit, read_job}
use Rattle.promise.specs.Due.{LengthFits, Begun, FieldsRead, DueInReading, one, three, in_head, in_tables, eight, nine}

-- from low to high
abbrev pub FromTo : ℕ → ℕ → ℕ → Type 0
FromTo low high n = (low ≤ n) × (n ≤ high)

-- ---- fields: 4 to 7, or 15

-- a field is refused with 4 to 7, or with 15
abbrev FieldNumber : ℕ → Type 0
FieldNumber r = FromTo 4 7 r ⊎ (r ≡ 15)

abbrev Refuses : {A : Type 0} → Reader A → Type 0
Refuses p = (s : List ℕ) (r : ℕ) → p s ≡ refused r → FieldNumber r

after_refuses : {A B : Type 0} (x : Read A) (f : A → Reader B) → ((r : ℕ) → x ≡ refused r → FieldNumber r) → ((a : A) → Refuses (f a)) → (r : ℕ) → after x f ≡ refused r → FieldNumber r
unfolding after
after_refuses (refused n) f g h r e = let z : n ≡ r = cc in subst (FieldNumber) z (g n refl)
after_refuses (got a s) f g h r e = h a s r e

read_refuses : {A B : Type 0} (p : Reader A) (f : A → Reader B) → Refuses p → ((a : A) → Refuses (f a)) → Refuses (read p f)
read_refuses p f g h s r e = after_refuses (p s) f (g s) h r e

give_refuses : {A : Type 0} (a : A) → Refuses (give a)
give_refuses a s r e = let z : ◌≡◌ {A = ℕ} 0 1 = cc in absurd (omega arith)

cond_refuses : {A : Type 0} (b : Bool) (x y : Read A) (r : ℕ) → (x ≡ refused r → FieldNumber r) → (y ≡ refused r → FieldNumber r) → cond b x y ≡ refused r → FieldNumber r
cond_refuses true x y r g h e = g e
cond_refuses false x y r g h e = h e

got_none : {A : Type 0} (a : A) (s : List ℕ) (r : ℕ) → got a s ≡ refused r → FieldNumber r
got_none a s r e = let z : ◌≡◌ {A = ℕ} 0 1 = cc in absurd (omega arith)

this_one : {A : Type 0} (n r : ℕ) → FieldNumber n → ◌≡◌ {A = Read A} (refused n) (refused r) → FieldNumber r
this_one n r h e = let z : n ≡ r = cc in subst (FieldNumber) z h

or_number : {A : Type 0} (b : Bool) (a : A) (s : List ℕ) (n r : ℕ) → FieldNumber n → cond b (got a s) (refused n) ≡ refused r → FieldNumber r
or_number b a s n r h e = cond_refuses b (got a s) (refused n) r (got_none a s r) (this_one n r h) e

field_refuses : (w : ℕ) → Refuses (field w)
unfolding field
field_refuses w s r e = or_number (leb w (length s)) _ _ 4 r (inl (omega arith, omega arith)) e

limited_refuses : (limit n : ℕ) → Refuses (limited limit n)
unfolding limited
limited_refuses limit n s r e = or_number (leb n limit) n s 5 r (inl (omega arith, omega arith)) e

at_most_refuses : (limit w : ℕ) → Refuses (at_most limit w)
at_most_refuses limit w = read_refuses (field w) (limited limit) (field_refuses w) (limited_refuses limit)

taken_refuses : (low high x : Float) → Refuses (taken low high x)
unfolding taken
taken_refuses low high x s r e = or_number (accepted low high x) x s 7 r (inl (omega arith, omega arith)) e

number_refuses : (low high : Float) → Refuses (number_in low high)
number_refuses low high = read_refuses (field 8) (λ b. taken low high (number_in_bits b)) (field_refuses 8) (λ b. taken_refuses low high (number_in_bits b))

gridded_refuses : (grid : Bool) (x : Float) → Refuses (gridded grid x)
unfolding gridded
gridded_refuses grid x s r e = cond_refuses grid (cond (on_drafting_grid x) (got x s) (refused 15)) (got x s) r (or_number (on_drafting_grid x) x s 15 r (inr refl)) (got_none x s r) e

grid_refuses : (grid : Bool) (low high : Float) → Refuses (read (number_in low high) (gridded grid))
grid_refuses grid low high = read_refuses (number_in low high) (gridded grid) (number_refuses low high) (gridded_refuses grid)

flags_refuses : (n : ℕ) → Refuses (flags_of n)
unfolding flags_of
flags_refuses n s r e = or_number (leb n 7) _ s 6 r (inl (omega arith, omega arith)) e

side_refuses : (n : ℕ) → Refuses (side_of n)
unfolding side_of
side_refuses n s r e =
    cond_refuses (eqb n 0) (got _ s) _ r (got_none _ s r)
    (cond_refuses (eqb n 1) (got _ s) _ r (got_none _ s r)
    (cond_refuses (eqb n 2) (got _ s) _ r (got_none _ s r)
    (or_number (eqb n 3) _ s 6 r (inl (omega arith, omega arith))))) e

role_refuses : (n : ℕ) → Refuses (role_of n)
unfolding role_of
role_refuses n s r e = cond_refuses (eqb n 0) (got _ s) _ r (got_none _ s r) (or_number (eqb n 1) _ s 6 r (inl (omega arith, omega arith))) e

many_refuses : {A : Type 0} (p : A → Reader A) → ((a : A) → Refuses (p a)) → (n : ℕ) (a : A) → Refuses (many n p a)
unfolding many
many_refuses p h zero a = give_refuses a
many_refuses p h (suc n) a = read_refuses (p a) (many n p) (h a) (many_refuses p h n)

push_refuses : {A : Type 0} (p : Reader A) → Refuses p → (l : List A) → Refuses (push p l)
push_refuses p h l = read_refuses p _ h (λ a. give_refuses _)

options_refuses : (grid : Bool) → Refuses (options grid)
options_refuses grid =
    read_refuses (option grid) _ (grid_refuses grid _ _) (λ a. read_refuses (option grid) _ (grid_refuses grid _ _) (λ b. read_refuses (option grid) _ (grid_refuses grid _ _) (λ c.
    read_refuses (option grid) _ (grid_refuses grid _ _) (λ d. read_refuses (option grid) _ (grid_refuses grid _ _) (λ e. give_refuses _)))))

grants_refuses : Refuses grants
grants_refuses = read_refuses (at_most max_tap_visits 4) _ (at_most_refuses max_tap_visits 4) (λ a. read_refuses (at_most max_geometry_visits 4) _ (at_most_refuses max_geometry_visits 4) (λ b. give_refuses _))

counts_refuses : Refuses counts
counts_refuses =
    read_refuses (at_most max_nodes 2) _ (at_most_refuses max_nodes 2) (λ a. read_refuses (at_most max_ports 2) _ (at_most_refuses max_ports 2) (λ b.
    read_refuses (at_most max_edges 2) _ (at_most_refuses max_edges 2) (λ c. read_refuses (at_most max_bundles 2) _ (at_most_refuses max_bundles 2) (λ d. give_refuses _))))

header_refuses : Refuses header
header_refuses =
    read_refuses (read (field 1) flags_of) _ (read_refuses (field 1) flags_of (field_refuses 1) flags_refuses) (λ f.
    read_refuses (options f.on_grid) _ (options_refuses f.on_grid) (λ o. read_refuses grants _ grants_refuses (λ g. read_refuses counts _ counts_refuses (λ c. give_refuses _))))

node_refuses : (grid : Bool) → Refuses (node grid)
node_refuses grid =
    read_refuses (field 4) _ (field_refuses 4) (λ i. read_refuses (coordinate grid) _ (grid_refuses grid _ _) (λ x. read_refuses (coordinate grid) _ (grid_refuses grid _ _) (λ y.
    read_refuses (size grid) _ (grid_refuses grid _ _) (λ w. read_refuses (size grid) _ (grid_refuses grid _ _) (λ h. give_refuses _)))))

port_refuses : (grid : Bool) → Refuses (port grid)
port_refuses grid =
    read_refuses (field 4) _ (field_refuses 4) (λ n. read_refuses (field 4) _ (field_refuses 4) (λ i.
    read_refuses (read (field 1) side_of) _ (read_refuses (field 1) side_of (field_refuses 1) side_refuses) (λ s. read_refuses (coordinate grid) _ (grid_refuses grid _ _) (λ o. give_refuses _))))

point_refuses : (grid : Bool) → Refuses (point grid)
point_refuses grid = read_refuses (coordinate grid) _ (grid_refuses grid _ _) (λ x. read_refuses (coordinate grid) _ (grid_refuses grid _ _) (λ y. give_refuses _))

member_refuses : (role : Role) → Refuses (member role)
member_refuses role = read_refuses (field 4) _ (field_refuses 4) (λ e. read_refuses (at_most max_lane 2) _ (at_most_refuses max_lane 2) (λ l. give_refuses _))

total_refuses : (all earlier n : ℕ) → Refuses (within_total all earlier n)
unfolding within_total
total_refuses all earlier n s r e = or_number (leb (earlier + n) all) n s 5 r (inl (omega arith, omega arith)) e

counted_refuses : (most all earlier : ℕ) → Refuses (counted most all earlier)
counted_refuses most all earlier = read_refuses (at_most most 2) (within_total all earlier) (at_most_refuses most 2) (total_refuses all earlier)

edge_head_refuses : (points : ℕ) → Refuses (edge_head points)
edge_head_refuses points =
    read_refuses (field 4) _ (field_refuses 4) (λ a. read_refuses (field 4) _ (field_refuses 4) (λ b. read_refuses (field 4) _ (field_refuses 4) (λ c.
    read_refuses (field 4) _ (field_refuses 4) (λ d. read_refuses (field 4) _ (field_refuses 4) (λ e.
    read_refuses (counted max_route_points max_points points) _ (counted_refuses max_route_points max_points points) (λ f. give_refuses _))))))

bundle_head_refuses : (members : ℕ) → Refuses (bundle_head members)
bundle_head_refuses members =
    read_refuses (field 4) _ (field_refuses 4) (λ a. read_refuses (field 4) _ (field_refuses 4) (λ b. read_refuses (field 4) _ (field_refuses 4) (λ c.
    read_refuses (read (field 1) role_of) _ (read_refuses (field 1) role_of (field_refuses 1) role_refuses) (λ d. read_refuses (field 4) _ (field_refuses 4) (λ e.
    read_refuses (counted max_bundle_members max_members members) _ (counted_refuses max_bundle_members max_members members) (λ f. give_refuses _))))))

edge_refuses : (grid : Bool) (l : EdgeList) → Refuses (next_edge grid l)
unfolding next_edge
edge_refuses grid l =
    read_refuses (edge_head (length l.points)) _ (edge_head_refuses (length l.points)) (λ e.
    read_refuses (many e.count (push (point grid)) l.points) _ (many_refuses (push (point grid)) (push_refuses (point grid) (point_refuses grid)) e.count l.points) (λ ps. give_refuses _))

bundle_refuses : (l : BundleList) → Refuses (next_bundle l)
unfolding next_bundle
bundle_refuses l =
    read_refuses (bundle_head (length l.members)) _ (bundle_head_refuses (length l.members)) (λ b.
    read_refuses (many b.count (push (member b.role)) l.members) _ (many_refuses (push (member b.role)) (push_refuses (member b.role) (member_refuses b.role)) b.count l.members) (λ ms. give_refuses _))

ended_refuses : (t : Tables) → Refuses (ended t)
unfolding ended
ended_refuses t s r e = or_number (eqb (length s) 0) t s 4 r (inl (omega arith, omega arith)) e

tables_refuses : (grid : Bool) (c : Counts) → Refuses (tables grid c)
tables_refuses grid c =
    read_refuses (many c.nodes (push (node grid)) []) _ (many_refuses (push (node grid)) (push_refuses (node grid) (node_refuses grid)) c.nodes []) (λ ns.
    read_refuses (many c.ports (push (port grid)) []) _ (many_refuses (push (port grid)) (push_refuses (port grid) (port_refuses grid)) c.ports []) (λ ps.
    read_refuses (many c.edges (next_edge grid) _) _ (many_refuses (next_edge grid) (edge_refuses grid) c.edges _) (λ es.
    read_refuses (many c.bundles next_bundle _) _ (many_refuses next_bundle bundle_refuses c.bundles _) (λ bs. ended_refuses _))))

-- ---- the reader: 1 to 9, or 15

-- a job is refused by the reader with 1 to 9, or with 15
abbrev pub ReaderNumber : ℕ → Type 0
ReaderNumber r = FromTo 1 9 r ⊎ (r ≡ 15)

field_of_reader : (r : ℕ) → FieldNumber r → ReaderNumber r
field_of_reader r (inl h) = inl (omega (arith, h.0), omega (arith, h.1))
field_of_reader r (inr e) = inr e

abbrev Numbered : Outcome → Type 0
Numbered o = (r : ℕ) → o ≡ refusal r → ReaderNumber r

outcome_numbered : {A : Type 0} (x : Read A) (f : A → List ℕ → Outcome) → ((r : ℕ) → x ≡ refused r → FieldNumber r) → ((a : A) (s : List ℕ) → Numbered (f a s)) → Numbered (outcome x f)
unfolding outcome
outcome_numbered (refused n) f g h r e =
    let z : n ≡ r = cc in
    subst ReaderNumber z (field_of_reader n (g n refl))
outcome_numbered (got a s) f g h r e = h a s r e

cond_numbered : (b : Bool) (x : Outcome) (n : ℕ) → Numbered x → ReaderNumber n → Numbered (cond b x (refusal n))
cond_numbered true x n g h r e = g r e
cond_numbered false x n g h r e = let z : n ≡ r = cc in subst (ReaderNumber) z h

nine_numbered : (k : Option Board) (h : Header) (ps : List Point) → Numbered (or_nine k h ps)
unfolding or_nine
nine_numbered None h ps r e = let z : 9 ≡ r = cc in inl (omega arith, omega arith)
nine_numbered (Some b) h ps r e = let z : ◌≡◌ {A = ℕ} 0 1 = cc in absurd (omega arith)

settled_numbered : (h : Header) (t : Tables) → Numbered (settled h t)
unfolding settled
settled_numbered h t = go (some_twice t)
  where
    go : (b : Bool) → Numbered (cond b (refusal 8) (or_nine (resolved h.options t) h t.edges.points))
    go true r e = let z : 8 ≡ r = cc in inl (omega arith, omega arith)
    go false r e = nine_numbered (resolved h.options t) h t.edges.points r e

pub reader_numbers : (s : List ℕ) (r : ℕ) → read_job s ≡ refusal r → ReaderNumber r
unfolding read_job version fields
reader_numbers s =
    cond_numbered (lengths_fit s) (outcome (field 1 (drop 4 s)) version) 1
    (outcome_numbered (field 1 (drop 4 s)) version (field_refuses 1 (drop 4 s)) (λ v t.
    cond_numbered (eqb v 1) (fields header t) 3
    (outcome_numbered (header t) _ (header_refuses t) (λ h u. outcome_numbered (tables h.flags.on_grid h.counts u) _ (tables_refuses h.flags.on_grid h.counts u) (λ w x. settled_numbered h w)))
    (inl (omega arith, omega arith))))
    (inl (omega arith, omega arith))

-- ---- the reader refuses with a number exactly when it is due

fits_so : (s : List ℕ) → lengths_fit s ≡ true → LengthFits s
unfolding lengths_fit
fits_so s e =
    let p = both_true (leb 5 (length s)) (eqb (number (take 4 s)) (length s - 4)) e in
    let a = leb-true 5 (length s) p.0 in
    record { five = a; counted = omega (arith, a, eqb-true (number (take 4 s)) (length s - 4) p.1) }

so_fits : (s : List ℕ) → LengthFits s → lengths_fit s ≡ true
unfolding lengths_fit
so_fits s l =
    let a = l.counted in
    let b = l.five in
    let e : number (take 4 s) ≡ length s - 4 = omega arith in
    rw (le-leb 5 (length s) b, eq-eqb (number (take 4 s)) (length s - 4) e)

unfits : (s : List ℕ) → lengths_fit s ≡ false → read_job s ≡ refusal 1
unfolding read_job
unfits s e = rw e

other_version : (v : ℕ) (s : List ℕ) → (v ≡ 1 → ⊥) → version v s ≡ refusal 3
unfolding version
other_version v s h = rw (ne_eqb v 1 h)

-- past the length stands the version, past it the head
version_read : (s : List ℕ) → LengthFits s → read_job s ≡ version (get_or s 4 0) (drop 5 s)
unfolding read_job outcome
version_read s l =
    let h : 4 + 1 ≤ length s = l.five in
    rw (so_fits s l, field_at 1 4 s h, number_one s 4 l.five)

begun_read : (s : List ℕ) → Begun s → read_job s ≡ fields header (drop 5 s)
unfolding version
begun_read s b = version_read s b.length_fits ∙ rw b.version

pub due_read : (s : List ℕ) (n : ℕ) → DueInReading s n → read_job s ≡ refusal n
unfolding fields outcome settled or_nine
due_read s n (one h) = go (lengths_fit s) refl
  where
    go : (b : Bool) → lengths_fit s ≡ b → read_job s ≡ refusal 1
    go true e = absurd (h (fits_so s e))
    go false e = unfits s e
due_read s n (three l h) = version_read s l ∙ other_version (get_or s 4 0) (drop 5 s) h
due_read s n (in_head b m e) = begun_read s b ∙ rw e
due_read s n (in_tables b h t e m f) = begun_read s b ∙ rw (e, f)
due_read s n (eight h t r e) = begun_read s r.begun ∙ rw (r.head, r.body, e)
due_read s n (nine h t r e u) = begun_read s r.begun ∙ rw (r.head, r.body, e, u)

settled_due : (s : List ℕ) (h : Header) (t : Tables) → FieldsRead s h t → (n : ℕ) → settled h t ≡ refusal n → DueInReading s n
unfolding settled or_nine
settled_due s h t r n e = go (some_twice t) refl e
  where
    known_or : (k : Option Board) → some_twice t ≡ false → resolved h.options t ≡ k → or_nine k h t.edges.points ≡ refusal n → DueInReading s n
    known_or None a q f = let z : 9 ≡ n = cc in subst (DueInReading s) z (nine h t r a q)
    known_or (Some b) a q f = let z : ◌≡◌ {A = ℕ} 0 1 = cc in absurd (omega arith)

    go : (b : Bool) → some_twice t ≡ b → cond b (refusal 8) (or_nine (resolved h.options t) h t.edges.points) ≡ refusal n → DueInReading s n
    go true a f = let z : 8 ≡ n = cc in subst (DueInReading s) z (eight h t r a)
    go false a f = known_or (resolved h.options t) a refl f

fields_due : (s : List ℕ) → Begun s → (n : ℕ) → fields header (drop 5 s) ≡ refusal n → DueInReading s n
unfolding fields outcome
fields_due s b n e = of_head (header (drop 5 s)) refl e
  where
    of_tables : (h : Header) (rest : List ℕ) → header (drop 5 s) ≡ got h rest → (x : Read Tables) → tables h.flags.on_grid h.counts rest ≡ x → outcome x (λ t end. settled h t) ≡ refusal n → DueInReading s n
    of_tables h rest p (refused m) q f = let z : m ≡ n = cc in subst (DueInReading s) z (in_tables b h rest p m q)
    of_tables h rest p (got t end) q f = settled_due s h t (record { begun = b; rest = rest; head = p; end = end; body = q }) n f

    of_head : (x : Read Header) → header (drop 5 s) ≡ x → outcome x (λ h rest. outcome (tables h.flags.on_grid h.counts rest) (λ t end. settled h t)) ≡ refusal n → DueInReading s n
    of_head (refused m) q f = let z : m ≡ n = cc in subst (DueInReading s) z (in_head b m q)
    of_head (got h rest) q f = of_tables h rest q (tables h.flags.on_grid h.counts rest) refl f

pub read_due : (s : List ℕ) (n : ℕ) → read_job s ≡ refusal n → DueInReading s n
unfolding version
read_due s n e = go (lengths_fit s) refl
  where
    of_version : LengthFits s → (b : Bool) → eqb (get_or s 4 0) 1 ≡ b → cond b (fields header (drop 5 s)) (refusal 3) ≡ refusal n → DueInReading s n
    of_version l true q f = fields_due s (record { length_fits = l; version = eqb-true (get_or s 4 0) 1 q }) n f
    of_version l false q f = let z : 3 ≡ n = cc in subst (DueInReading s) z (three l (eqb-false (get_or s 4 0) 1 q))

    go : (b : Bool) → lengths_fit s ≡ b → DueInReading s n
    go true q = let l = fits_so s q in of_version l (eqb (get_or s 4 0) 1) refl (sym (version_read s l) ∙ e)
    go false q =
        let z : refusal 1 ≡ refusal n = sym (unfits s q) ∙ e in
        let y : 1 ≡ n = cc in
        subst (DueInReading s) y (one (λ l. true≢false (sym (so_fits s l) ∙ q)))
