-- F-1: any bytes are read as the same bytes with plus zeros are, whatever is wrong with them. Assumes nothing.
use Rattle.std.specs.Prelude.{ℕ, zero, suc, ◌-◌, ◌≡◌, refl, Bool, true, false, ◌&&◌, cond, List, [], ◌∷◌, ◌++◌, eqb, leb, length, take, drop}
use Rattle.std.proofs.Common.{sym, ap, ◌∙◌, subst, arith, length-take-le, leb-true}
use Rattle.std.proofs.Math.Seq.{take-append_seam, drop-append_seam}
use Rattle.limits.specs.Limits.{max_nodes, max_ports, max_edges, max_bundles, max_route_points, max_points, max_tap_visits, max_geometry_visits}
use Rattle.wire.specs.Bytes.{number}
use Rattle.wire.specs.Read.{Read, refused, got, Reader, after, field, many}
use Rattle.job.specs.declared.Counts.{Counts}
use Rattle.job.specs.declared.Header.{Header}
use Rattle.job.specs.declared.RawEdge.{RawEdge}
use Rattle.job.specs.Job as job
use Rattle.plus_zeros.specs.Places.{Copy, kept, u8, u32, count, f64, times, node, port, point, edge, options, grants, tables, counts, fields, with_plus_zeros}
use Rattle.plus_zeros.proofs.SameFields.{Keeps, Moves, at_most_moves, bind, field_moves, flags_moves, give_moves, keeps_f64, keeps_kept, keeps_times, number_field_moves, side_moves, stay, within_moves}

-- ---- records
many_moves : {A : Type 0} (c : Copy → Copy) (step : A → Reader A) → ((k : Copy) → Keeps k → Keeps (c k)) → ((a : A) (k : Copy) → Keeps k → Moves (step a) (c k) (λ b. k))
    → (n : ℕ) (a : A) (k : Copy) → Keeps k → Moves (many n step a) (times n c k) (λ b. k)
unfolding many times
many_moves c step f g zero a k h = give_moves a (λ b. k)
many_moves c step f g (suc n) a k h = bind (g a (times n c k) (keeps_times n c k f h)) (λ b. many_moves c step f g n b k h)

push_moves : {A : Type 0} (c : Copy → Copy) (p : Reader A) → ((k : Copy) → Keeps k → Moves p (c k) (λ b. k)) → (l : List A) (k : Copy) → Keeps k → Moves (job.push p l) (c k) (λ b. k)
push_moves c p f l k h = bind (f k h) (λ a. give_moves (l ++ (a ∷ [])) (λ b. k))

keeps_u8 : (k : Copy) → Keeps k → Keeps (u8 k)
keeps_u8 k h = keeps_kept 1 (λ n. k) (λ n. h)

keeps_u32 : (k : Copy) → Keeps k → Keeps (u32 k)
keeps_u32 k h = keeps_kept 4 (λ n. k) (λ n. h)

field_on : (w : ℕ) (k : Copy) → Keeps k → Moves (field w) (kept w (λ n. k)) (λ n. k)
field_on w k h = field_moves w (λ n. k) (λ n. h)

keeps_node : (k : Copy) → Keeps k → Keeps (node k)
keeps_node k h = keeps_u32 (f64 (f64 (f64 (f64 k)))) (keeps_f64 (f64 (f64 (f64 k))) (keeps_f64 (f64 (f64 k)) (keeps_f64 (f64 k) (keeps_f64 k h))))

node_moves : (grid : Bool) (k : Copy) → Keeps k → Moves (job.node grid) (node k) (λ n. k)
node_moves grid k h =
    let h1 = keeps_f64 k h in
    let h2 = keeps_f64 (f64 k) h1 in
    let h3 = keeps_f64 (f64 (f64 k)) h2 in
    let h4 = keeps_f64 (f64 (f64 (f64 k))) h3 in
    bind (field_on 4 (f64 (f64 (f64 (f64 k)))) h4) (λ id. bind (number_field_moves grid _ _ (f64 (f64 (f64 k))) h3) (λ x. bind (number_field_moves grid _ _ (f64 (f64 k)) h2) (λ y.
    bind (number_field_moves grid _ _ (f64 k) h1) (λ w. bind (number_field_moves grid _ _ k h) (λ z. give_moves _ (λ b. k))))))

keeps_port : (k : Copy) → Keeps k → Keeps (port k)
keeps_port k h = keeps_u32 (u32 (u8 (f64 k))) (keeps_u32 (u8 (f64 k)) (keeps_u8 (f64 k) (keeps_f64 k h)))

port_moves : (grid : Bool) (k : Copy) → Keeps k → Moves (job.port grid) (port k) (λ n. k)
port_moves grid k h =
    let h1 = keeps_f64 k h in
    let h2 = keeps_u8 (f64 k) h1 in
    let h3 = keeps_u32 (u8 (f64 k)) h2 in
    bind (field_on 4 (u32 (u8 (f64 k))) h3) (λ n. bind (field_on 4 (u8 (f64 k)) h2) (λ id. bind (bind (field_on 1 (f64 k) h1) (λ b. side_moves b (f64 k))) (λ side.
    bind (number_field_moves grid _ _ k h) (λ offset. give_moves _ (λ b. k)))))

keeps_point : (k : Copy) → Keeps k → Keeps (point k)
keeps_point k h = keeps_f64 (f64 k) (keeps_f64 k h)

point_moves : (grid : Bool) (k : Copy) → Keeps k → Moves (job.point grid) (point k) (λ p. k)
point_moves grid k h = bind (number_field_moves grid _ _ (f64 k) (keeps_f64 k h)) (λ x. bind (number_field_moves grid _ _ k h) (λ y. give_moves _ (λ b. k)))

keeps_points : (k : Copy) → Keeps k → (n : ℕ) → Keeps (times n point k)
keeps_points k h n = keeps_times n point k keeps_point h

keeps_counted : (k : ℕ → Copy) → ((n : ℕ) → Keeps (k n)) → Keeps (count k)
keeps_counted k h = keeps_kept 2 k h

keeps_ids : (k : ℕ → Copy) → ((n : ℕ) → Keeps (k n)) → Keeps (u32 (u32 (u32 (u32 (u32 (count k))))))
keeps_ids k h =
    let c = keeps_counted k h in
    keeps_u32 (u32 (u32 (u32 (u32 (count k))))) (keeps_u32 (u32 (u32 (u32 (count k)))) (keeps_u32 (u32 (u32 (count k))) (keeps_u32 (u32 (count k)) (keeps_u32 (count k) c))))

keeps_edge : (k : Copy) → Keeps k → Keeps (edge k)
keeps_edge k h = keeps_ids (λ n. times n point k) (keeps_points k h)

head_moves : (earlier : ℕ) (k : ℕ → Copy) → ((n : ℕ) → Keeps (k n)) → Moves (job.edge_head earlier) (u32 (u32 (u32 (u32 (u32 (count k)))))) (λ e. k e.count)
head_moves earlier k h =
    let c = keeps_counted k h in
    let h1 = keeps_u32 (count k) c in
    let h2 = keeps_u32 (u32 (count k)) h1 in
    let h3 = keeps_u32 (u32 (u32 (count k))) h2 in
    let h4 = keeps_u32 (u32 (u32 (u32 (count k)))) h3 in
    bind (field_on 4 (u32 (u32 (u32 (u32 (count k))))) h4) (λ id. bind (field_on 4 (u32 (u32 (u32 (count k)))) h3) (λ s. bind (field_on 4 (u32 (u32 (count k))) h2) (λ sp.
    bind (field_on 4 (u32 (count k)) h1) (λ t. bind (field_on 4 (count k) c) (λ tp.
    bind (bind (at_most_moves max_route_points 2 k h) (λ n. within_moves max_points earlier n k)) (λ n. give_moves (record { id = id; source = s; target = t; first = earlier; count = n }) (λ (e : RawEdge). k e.count)))))))

edge_moves : (grid : Bool) (l : job.EdgeList) (k : Copy) → Keeps k → Moves (job.next_edge grid l) (edge k) (λ e. k)
unfolding job.next_edge
edge_moves grid l k h =
    bind (head_moves (length l.points) (λ n. times n point k) (keeps_points k h)) (λ e.
    bind (many_moves point (job.push (job.point grid)) keeps_point (push_moves point (job.point grid) (point_moves grid)) e.count l.points k h) (λ ps. give_moves _ (λ b. k)))

-- ---- the tables and the header
keeps_rest : Keeps (λ r. r)
keeps_rest s = refl

module _ (n p e : ℕ) where
  keeps_edges : Keeps (times e edge (λ r. r))
  keeps_edges = keeps_times e edge (λ r. r) keeps_edge keeps_rest

  keeps_ports : Keeps (times p port (times e edge (λ r. r)))
  keeps_ports = keeps_times p port (times e edge (λ r. r)) keeps_port keeps_edges

  keeps_tables : Keeps (tables n p e)
  keeps_tables = keeps_times n node (times p port (times e edge (λ r. r))) keeps_node keeps_ports

tables_moves : (grid : Bool) (c : Counts) → Moves (job.tables grid c) (tables c.nodes c.ports c.edges) (λ t r. r)
tables_moves grid c =
    let n = c.nodes in
    let p = c.ports in
    let e = c.edges in
    bind (many_moves node (job.push (job.node grid)) keeps_node (push_moves node (job.node grid) (node_moves grid)) n [] (times p port (times e edge (λ r. r))) (keeps_ports n p e)) (λ nodes.
    bind (many_moves port (job.push (job.port grid)) keeps_port (push_moves port (job.port grid) (port_moves grid)) p [] (times e edge (λ r. r)) (keeps_edges n p e)) (λ ports.
    bind (many_moves edge (job.next_edge grid) keeps_edge (edge_moves grid) e (record { edges = []; points = [] }) (λ r. r) keeps_rest) (λ edges. stay _)))

options_moves : (grid : Bool) (k : Copy) → Keeps k → Moves (job.options grid) (options k) (λ o. k)
options_moves grid k h =
    let h1 = keeps_f64 k h in
    let h2 = keeps_f64 (f64 k) h1 in
    let h3 = keeps_f64 (f64 (f64 k)) h2 in
    let h4 = keeps_f64 (f64 (f64 (f64 k))) h3 in
    bind (number_field_moves grid _ _ (f64 (f64 (f64 (f64 k)))) h4) (λ a. bind (number_field_moves grid _ _ (f64 (f64 (f64 k))) h3) (λ b. bind (number_field_moves grid _ _ (f64 (f64 k)) h2) (λ c.
    bind (number_field_moves grid _ _ (f64 k) h1) (λ d. bind (number_field_moves grid _ _ k h) (λ e. give_moves _ (λ b. k))))))

keeps_options : (k : Copy) → Keeps k → Keeps (options k)
keeps_options k h = keeps_f64 (f64 (f64 (f64 (f64 k)))) (keeps_f64 (f64 (f64 (f64 k))) (keeps_f64 (f64 (f64 k)) (keeps_f64 (f64 k) (keeps_f64 k h))))

grants_moves : (k : Copy) → Keeps k → Moves job.grants (grants k) (λ g. k)
grants_moves k h = bind (at_most_moves max_tap_visits 4 (λ n. u32 k) (λ n. keeps_u32 k h)) (λ t. bind (at_most_moves max_geometry_visits 4 (λ n. k) (λ n. h)) (λ g. give_moves _ (λ b. k)))

abbrev after_edges : ℕ → ℕ → ℕ → Copy
after_edges n p e = count (λ b. tables n p e)

abbrev after_ports : ℕ → ℕ → Copy
after_ports n p = count (after_edges n p)

abbrev after_nodes : ℕ → Copy
after_nodes n = count (after_ports n)

keeps_after_edges : (n p e : ℕ) → Keeps (after_edges n p e)
keeps_after_edges n p e = keeps_counted (λ b. tables n p e) (λ b. keeps_tables n p e)

keeps_after_ports : (n p : ℕ) → Keeps (after_ports n p)
keeps_after_ports n p = keeps_counted (after_edges n p) (keeps_after_edges n p)

keeps_after_nodes : (n : ℕ) → Keeps (after_nodes n)
keeps_after_nodes n = keeps_counted (after_ports n) (keeps_after_ports n)

keeps_counts : Keeps counts
keeps_counts = keeps_counted after_nodes keeps_after_nodes

abbrev behind : Counts → Copy
behind c = tables c.nodes c.ports c.edges

counts_moves : Moves job.counts counts behind
counts_moves =
    bind (at_most_moves max_nodes 2 after_nodes keeps_after_nodes) (λ n. bind (at_most_moves max_ports 2 (after_ports n) (keeps_after_ports n)) (λ p.
    bind (at_most_moves max_edges 2 (after_edges n p) (keeps_after_edges n p)) (λ e. bind (at_most_moves max_bundles 2 (λ b. tables n p e) (λ b. keeps_tables n p e)) (λ b.
    give_moves (record { nodes = n; ports = p; edges = e; bundles = b }) behind))))

keeps_grants : Keeps (grants counts)
keeps_grants = keeps_u32 (u32 counts) (keeps_u32 counts keeps_counts)

header_moves : Moves job.header fields (λ h. behind h.counts)
header_moves =
    bind (bind (field_on 1 (options (grants counts)) (keeps_options (grants counts) keeps_grants)) (λ n. flags_moves n (options (grants counts)))) (λ f.
    bind (options_moves f.on_grid (grants counts) keeps_grants) (λ o. bind (grants_moves counts keeps_counts) (λ g. bind counts_moves (λ c.
    give_moves (record { flags = f; options = o; grants = g; counts = c }) (λ (h : Header). behind h.counts)))))

keeps_fields : Keeps fields
keeps_fields = keeps_u8 (options (grants counts)) (keeps_options (grants counts) keeps_grants)

-- ---- the whole
pub same_length : (s : List ℕ) → length (with_plus_zeros s) ≡ length s
same_length = keeps_u32 (u8 fields) (keeps_u8 fields keeps_fields)

outcome_same : {A : Type 0} (x : Read A) (k : A → Copy) (f : A → List ℕ → job.Outcome) → ((a : A) (t : List ℕ) → f a (k a t) ≡ f a t) → job.outcome (after x (λ a t. got a (k a t))) f ≡ job.outcome x f
unfolding after job.outcome
outcome_same (refused r) k f h = refl
outcome_same (got a t) k f h = h a t

moved_outcome : {A : Type 0} {p : Reader A} {m : Copy} {k : A → Copy} → Moves p m k → (f : A → List ℕ → job.Outcome) → ((a : A) (t : List ℕ) → f a (k a t) ≡ f a t) → (s : List ℕ)
    → job.outcome (p (m s)) f ≡ job.outcome (p s) f
moved_outcome {A} {p} {m} {k} c f h s = ap (λ (x : Read A). job.outcome x f) (c.at s) ∙ outcome_same (p s) k f h

fields_same : (s : List ℕ) → job.fields job.header (fields s) ≡ job.fields job.header s
unfolding job.fields
fields_same s = moved_outcome header_moves _ (λ h t. moved_outcome (tables_moves h.flags.on_grid h.counts) _ (λ x end. refl) t) s

version_same : (v : ℕ) (s : List ℕ) → job.version v (fields s) ≡ job.version v s
unfolding job.version
version_same v s = ap (λ (o : job.Outcome). cond (eqb v 1) o (job.refusal 3)) (fields_same s)

lengths_differ : (s : List ℕ) → leb 5 (length s) ≡ false → job.read_job s ≡ job.refusal 1
unfolding job.read_job job.lengths_fit
lengths_differ s e = rw e

-- any bytes, whatever is wrong with them, are read as the same bytes with plus zeros
pub same_job : (s : List ℕ) → job.read_job (with_plus_zeros s) ≡ job.read_job s
unfolding job.read_job job.lengths_fit kept
same_job s = go (leb 5 (length s)) refl
  where
    go : (b : Bool) → leb 5 (length s) ≡ b → job.read_job (with_plus_zeros s) ≡ job.read_job s
    go false e = lengths_differ (with_plus_zeros s) (ap (leb 5) (same_length s) ∙ e) ∙ sym (lengths_differ s e)
    go true e =
        let l = leb-true 5 (length s) e in
        let four : length (take 4 s) ≡ 4 = length-take-le 4 s (omega arith) in
        let t : take 4 (with_plus_zeros s) ≡ take 4 s = subst (λ (n : ℕ). take n (take 4 s ++ u8 fields (drop 4 s)) ≡ take 4 s) four (take-append_seam (take 4 s) (u8 fields (drop 4 s))) in
        let d : drop 4 (with_plus_zeros s) ≡ u8 fields (drop 4 s) = subst (λ (n : ℕ). drop n (take 4 s ++ u8 fields (drop 4 s)) ≡ u8 fields (drop 4 s)) four (drop-append_seam (take 4 s) (u8 fields (drop 4 s))) in
        let o : job.outcome (field 1 (u8 fields (drop 4 s))) job.version ≡ job.outcome (field 1 (drop 4 s)) job.version = moved_outcome (field_on 1 fields keeps_fields) job.version version_same (drop 4 s) in
        ap (λ (n : ℕ). cond (leb 5 n && eqb (number (take 4 (with_plus_zeros s))) (n - 4)) (job.outcome (field 1 (drop 4 (with_plus_zeros s))) job.version) (job.refusal 1)) (same_length s)
        ∙ ap (λ (r : List ℕ). cond (leb 5 (length s) && eqb (number r) (length s - 4)) (job.outcome (field 1 (drop 4 (with_plus_zeros s))) job.version) (job.refusal 1)) t
        ∙ ap (λ (r : List ℕ). cond (leb 5 (length s) && eqb (number (take 4 s)) (length s - 4)) (job.outcome (field 1 r) job.version) (job.refusal 1)) d
        ∙ ap (λ (r : job.Outcome). cond (leb 5 (length s) && eqb (number (take 4 s)) (length s - 4)) r (job.refusal 1)) o
