-- What holds of every accepted job: its numbers, its places, its windows, its totals, its ids, and the bytes it has. Assumes nothing.
use Rattle.std.specs.Prelude.{ℕ, ◌+◌, ◌-◌, ◌≤◌, ◌<◌, Bool, true, false, cond, eqb, length, drop, get_or, Option, Some, None}
use Rattle.std.proofs.Math.Path.{◌≡◌, refl, ap, subst}
use Rattle.std.proofs.Common.{sym, ◌∙◌, arith, length-append, length-drop}
use mathlib.Core.List.{List, [], ◌∷◌, ◌++◌, map}
use Rattle.std.proofs.Math.ListN.{length-map}
use Rattle.limits.specs.Limits.{max_nodes, max_ports, max_edges, max_points, max_bundles, max_members, largest_job}
use Rattle.wire.specs.Read.{Read, refused, got, field}
use Rattle.binary64.specs.Bools.{neither}
use Rattle.binary64.specs.Accepted.{is_coordinate}
use Rattle.wire.proofs.All.{All}
use Rattle.geometry.specs.declared.Role.{Role}
use Rattle.board.specs.declared.PlacedNode.{PlacedNode}
use Rattle.board.specs.declared.Port.{Port}
use Rattle.board.specs.declared.Edge.{Edge}
use Rattle.board.specs.declared.Bundle.{Bundle}
use Rattle.board.specs.declared.Member.{Member}
use Rattle.board.specs.Board.{Board}
use Rattle.job.specs.declared.Header.{Header}
use Rattle.job.specs.declared.RawPort.{RawPort}
use Rattle.job.specs.declared.RawEdge.{RawEdge}
use Rattle.job.specs.declared.RawBundle.{RawBundle}
use Rattle.job.specs.declared.RawMember.{RawMember}
use Rattle.job.specs.Keys.{Key, twice, place, each}
use Rattle.job.proofs.Kept.{field_takes, known_came, each_all, each_map, place_inside, place_hits}
use Rattle.job.specs.Job.{options, grants, counts, header, node, port, Tables, tables, node_key, port_key, edge_key, bundle_key, some_twice, port_of, edge_of, bundle_of, member_of, resolved, Job, Outcome, refusal, or_nine, settled, outcome, fields, version, lengths_fit, read_job}
use Rattle.job.specs.Job as job
use Rattle.job.proofs.Claims.{Claim, claims, claim_of, raw_claim, edge_id}
use Rattle.job.proofs.GoodRecords.{GoodNumber, GoodPoint, GoodOptions, GoodNode, GoodPort, GoodEdge, GoodBundle, GoodMember, RawGoodPort, RawGoodMember}
use Rattle.job.proofs.GoodTables.{sum, starts, RawGoodEdge, RawGoodBundle, GoodGrants, GoodHeader, header_good, RawSound, tables_good}

-- ---- ids looked up
known_value : {A : Type 0} (a b : A) → Some a ≡ Some b → a ≡ b
known_value a b h = cc

pub record PortFrom (nodes : List Key) (p : RawPort) (q : Port) : Type 0 where
  pub found : place (p.node, 0) nodes ≡ Some q.node
  pub id : q.id ≡ p.id
  pub offset : q.offset ≡ p.offset

port_from : (nodes : List Key) (p : RawPort) (q : Port) → port_of nodes p ≡ Some q → PortFrom nodes p q
unfolding port_of
port_from nodes p q e =
    let c = known_came (place (p.node, 0) nodes) _ q e in
    let r = known_value (record { node = c.0; id = p.id; side = p.side; offset = p.offset }) q c.2 in
    record { found = c.1 ∙ ap (λ (x : Port). Some x.node) r; id = sym (ap (λ (x : Port). x.id) r); offset = sym (ap (λ (x : Port). x.offset) r) }

pub record EdgeFrom (nodes : List Key) (p : RawEdge) (q : Edge) : Type 0 where
  pub source : place (p.source, 0) nodes ≡ Some q.source
  pub target : place (p.target, 0) nodes ≡ Some q.target
  pub id : q.id ≡ p.id
  pub first : q.first ≡ p.first
  pub count : q.count ≡ p.count

edge_from : (nodes : List Key) (p : RawEdge) (q : Edge) → edge_of nodes p ≡ Some q → EdgeFrom nodes p q
unfolding edge_of
edge_from nodes p q e =
    let c = known_came (place (p.source, 0) nodes) _ q e in
    let d = known_came (place (p.target, 0) nodes) _ q c.2 in
    let r = known_value (record { id = p.id; source = c.0; target = d.0; first = p.first; count = p.count }) q d.2 in
    record {
      source = c.1 ∙ ap (λ (x : Edge). Some x.source) r;
      target = d.1 ∙ ap (λ (x : Edge). Some x.target) r;
      id = sym (ap (λ (x : Edge). x.id) r);
      first = sym (ap (λ (x : Edge). x.first) r);
      count = sym (ap (λ (x : Edge). x.count) r);
    }

pub record BundleFrom (ports : List Key) (p : RawBundle) (q : Bundle) : Type 0 where
  pub port : place (p.node, p.port) ports ≡ Some q.port
  pub id : q.id ≡ p.id
  pub role : q.role ≡ p.role
  pub first : q.first ≡ p.first
  pub count : q.count ≡ p.count

bundle_from : (nodes ports : List Key) (p : RawBundle) (q : Bundle) → bundle_of nodes ports p ≡ Some q → BundleFrom ports p q
unfolding bundle_of
bundle_from nodes ports p q e =
    let c = known_came (place (p.node, 0) nodes) _ q e in
    let d = known_came (place (p.node, p.port) ports) _ q c.2 in
    let r = known_value (record { id = p.id; port = d.0; role = p.role; width = p.width; first = p.first; count = p.count }) q d.2 in
    record {
      port = d.1 ∙ ap (λ (x : Bundle). Some x.port) r;
      id = sym (ap (λ (x : Bundle). x.id) r);
      role = sym (ap (λ (x : Bundle). x.role) r);
      first = sym (ap (λ (x : Bundle). x.first) r);
      count = sym (ap (λ (x : Bundle). x.count) r);
    }

pub record MemberFrom (edges : List Key) (p : RawMember) (q : Member) : Type 0 where
  pub edge : place (p.edge, 0) edges ≡ Some q.edge
  pub lane : q.tap_lane ≡ p.tap_lane

member_from : (edges : List Key) (p : RawMember) (q : Member) → member_of edges p ≡ Some q → MemberFrom edges p q
unfolding member_of
member_from edges p q e =
    let c = known_came (place (p.edge, 0) edges) _ q e in
    let r = known_value (record { edge = c.0; tap_lane = p.tap_lane }) q c.2 in
    record { edge = c.1 ∙ ap (λ (x : Member). Some x.edge) r; lane = sym (ap (λ (x : Member). x.tap_lane) r) }

-- ---- the whole
-- the id of the node at a place, 0 past the end
abbrev pub id_at : List PlacedNode → ℕ → ℕ
id_at nodes i = (get_or (map node_key nodes) i (0, 0)).0

-- the key of an edge that is resolved
abbrev pub resolved_key : Edge → Key
resolved_key e = (e.id, 0)

abbrev pub edge_at : List Edge → ℕ → ℕ
edge_at edges i = (get_or (map resolved_key edges) i (0, 0)).0

pub record Sound (j : Job) : Type 0 where
  -- numbers are finite, not minus zero and in their ranges; places and windows are inside their tables
  pub options : GoodOptions j.flags.on_grid j.board.options
  pub grants : GoodGrants j.grants
  pub nodes : All (GoodNode j.flags.on_grid) j.board.nodes
  pub ports : All (GoodPort j.flags.on_grid (length j.board.nodes)) j.board.ports
  pub edges : All (GoodEdge (length j.board.nodes) (length j.points)) j.board.edges
  pub points : All (GoodPoint j.flags.on_grid) j.points
  pub bundles : All (GoodBundle (length j.board.ports) (length j.board.members)) j.board.bundles
  pub members : All (GoodMember (length j.board.edges)) j.board.members
  -- totals
  pub node_total : length j.board.nodes ≤ max_nodes
  pub port_total : length j.board.ports ≤ max_ports
  pub edge_total : length j.board.edges ≤ max_edges
  pub bundle_total : length j.board.bundles ≤ max_bundles
  pub member_total : length j.board.members ≤ max_members
  pub point_total : length j.points ≤ max_points
  -- the windows of the routes, and those of the bundles, are as long together as their tables
  pub point_counts : sum (map (λ (e : Edge). e.count) j.board.edges) ≡ length j.points
  pub member_counts : sum (map (λ (b : Bundle). b.count) j.board.bundles) ≡ length j.board.members
  -- the windows of the bundles stand one behind the other
  pub member_starts : map (λ (b : Bundle). b.first) j.board.bundles ≡ starts 0 (map (λ (b : Bundle). b.count) j.board.bundles)
  -- ids stand once: among nodes, edges, bundles, and the ports of one node
  pub node_ids : twice (map node_key j.board.nodes) ≡ false
  pub edge_ids : twice (map (λ (e : Edge). (e.id, 0)) j.board.edges) ≡ false
  pub bundle_ids : twice (map (λ (b : Bundle). (b.id, 0)) j.board.bundles) ≡ false
  pub port_ids : twice (map (λ (p : Port). (id_at j.board.nodes p.node, p.id)) j.board.ports) ≡ false
  -- an edge stands once among the members of one role's bundles
  pub member_edges : twice (claims (map claim_of j.board.bundles) (map (λ (m : Member). edge_at j.board.edges m.edge) j.board.members)) ≡ false

each_count : {A B : Type 0} (f : A → Option B) (l : List A) (out r : List B) → each f l out ≡ Some r → length r ≡ length out + length l
unfolding each
each_count f [] out r e =
    let x : out ≡ r = cc in
    let y = ap length x in
    omega arith
each_count f (a ∷ l) out r e =
    let c = known_came (f a) (λ b. each f l (out ++ (b ∷ []))) r e in
    let z = each_count f l (out ++ (c.0 ∷ [])) r c.2 in
    let y : length (out ++ (c.0 ∷ [])) ≡ length out + 1 = simp length-append in
    omega arith

inside : (k : Key) (ks : List Key) (i n : ℕ) → place k ks ≡ Some i → length ks ≡ n → i < n
inside k ks i n e h = let r = place_inside 0 k ks i e in omega (arith, r.1, h)

first_of : (ks : List Key) (i x : ℕ) → place (x, 0) ks ≡ Some i → (get_or ks i (0, 0)).0 ≡ x
first_of ks i x e =
    let z : i - 0 ≡ i = omega arith in
    ap (λ (m : ℕ). (get_or ks m (0, 0)).0) (sym z) ∙ ap (λ (k : Key). k.0) (place_hits 0 (x, 0) ks i (0, 0) e)

same_claim : (a b : Role) (c d e f : ℕ) → a ≡ b → c ≡ d → e ≡ f → ◌≡◌ {A = Claim} (record { role = a; first = c; count = e }) (record { role = b; first = d; count = f })
same_claim a b c d e f p q r = cc

pair_is : (a b c d : ℕ) → a ≡ c → b ≡ d → ◌≡◌ {A = Key} (a, b) (c, d)
pair_is a b c d p q = cc

module _ (h : Header) (size : ℕ) (t : Tables) (g : GoodHeader h) (r : RawSound h.flags.on_grid h.counts size t) where
  abbrev node_keys : List Key
  node_keys = map node_key t.nodes

  abbrev port_keys : List Key
  port_keys = map port_key t.ports

  abbrev edge_keys : List Key
  edge_keys = map edge_key t.edges.edges

  abbrev job_with : Board → Job
  job_with b = record { flags = h.flags; grants = h.grants; board = b; points = t.edges.points }

  module _ (ps : List Port) (es : List Edge) (bs : List Bundle) (ms : List Member)
      (kp : each (port_of node_keys) t.ports [] ≡ Some ps) (ke : each (edge_of node_keys) t.edges.edges [] ≡ Some es)
      (kb : each (bundle_of node_keys port_keys) t.bundles.bundles [] ≡ Some bs) (km : each (member_of edge_keys) t.bundles.members [] ≡ Some ms)
      (once : some_twice t ≡ false) where
    board_sound : Sound (job_with (record { options = h.options; nodes = t.nodes; ports = ps; edges = es; bundles = bs; members = ms }))
    unfolding some_twice All
    board_sound =
        let np = each_count (port_of node_keys) t.ports [] ps kp in
        let ne = each_count (edge_of node_keys) t.edges.edges [] es ke in
        let nb = each_count (bundle_of node_keys port_keys) t.bundles.bundles [] bs kb in
        let nm = each_count (member_of edge_keys) t.bundles.members [] ms km in
        let ln = length-map t.nodes node_key in
        let lp = length-map t.ports port_key in
        let le = length-map t.edges.edges edge_key in
        let c = g.counts in
        let o = neither _ _ once in
        let o1 = neither _ _ o.1 in
        let o2 = neither _ _ o1.1 in
        let o3 = neither _ _ o2.1 in
        record {
          options = g.options;
          grants = g.grants;
          nodes = r.nodes;
          ports = each_all (port_of node_keys) (RawGoodPort h.flags.on_grid) (GoodPort h.flags.on_grid (length t.nodes))
              (λ a b x y. let f = port_from node_keys a b y in
              record { node = inside (a.node, 0) node_keys b.node _ f.found ln; offset = subst (GoodNumber h.flags.on_grid is_coordinate) (sym f.offset) x })
              t.ports [] ps r.ports tt kp;
          edges = each_all (edge_of node_keys) (RawGoodEdge (length t.edges.points)) (GoodEdge (length t.nodes) (length t.edges.points))
              (λ a b x y. let f = edge_from node_keys a b y in
              record {
                source = inside (a.source, 0) node_keys b.source _ f.source ln;
                target = inside (a.target, 0) node_keys b.target _ f.target ln;
                count = omega (arith, f.count, x.count);
                window = omega (arith, f.first, f.count, x.window);
              })
              t.edges.edges [] es r.edges tt ke;
          points = r.points;
          bundles = each_all (bundle_of node_keys port_keys) (RawGoodBundle (length t.bundles.members)) (GoodBundle (length ps) (length ms))
              (λ a b x y. let f = bundle_from node_keys port_keys a b y in
              record {
                port = inside (a.node, a.port) port_keys b.port (length ps) f.port (omega (arith, lp, np));
                count = omega (arith, f.count, x.count);
                window = omega (arith, f.first, f.count, x.window, nm);
              })
              t.bundles.bundles [] bs r.bundles tt kb;
          members = each_all (member_of edge_keys) RawGoodMember (GoodMember (length es))
              (λ a b x y. let f = member_from edge_keys a b y in
              record { edge = inside (a.edge, 0) edge_keys b.edge (length es) f.edge (omega (arith, le, ne)); lane = omega (arith, f.lane, x) })
              t.bundles.members [] ms r.members tt km;
          node_total = omega (arith, r.node_count, c.nodes);
          port_total = omega (arith, np, r.port_count, c.ports);
          edge_total = omega (arith, ne, r.edge_count, c.edges);
          bundle_total = omega (arith, nb, r.bundle_count, c.bundles);
          member_total = omega (arith, nm, r.member_total);
          point_total = r.point_total;
          point_counts = ap sum (each_map (edge_of node_keys) (λ (e : Edge). e.count) (λ (e : RawEdge). e.count) (λ a b y. (edge_from node_keys a b y).count) t.edges.edges [] es ke) ∙ r.point_counts;
          member_counts = ap sum (each_map (bundle_of node_keys port_keys) (λ (b : Bundle). b.count) (λ (b : RawBundle). b.count) (λ a b y. (bundle_from node_keys port_keys a b y).count) t.bundles.bundles [] bs kb) ∙ r.member_counts ∙ omega (arith, nm);
          member_starts =
              each_map (bundle_of node_keys port_keys) (λ (b : Bundle). b.first) (λ (b : RawBundle). b.first) (λ a b y. (bundle_from node_keys port_keys a b y).first) t.bundles.bundles [] bs kb
              ∙ r.member_starts
              ∙ ap (starts 0) (sym (each_map (bundle_of node_keys port_keys) (λ (b : Bundle). b.count) (λ (b : RawBundle). b.count) (λ a b y. (bundle_from node_keys port_keys a b y).count) t.bundles.bundles [] bs kb));
          node_ids = o.0;
          edge_ids = ap twice (each_map (edge_of node_keys) (λ (e : Edge). (e.id, 0)) edge_key (λ a b y. pair_is _ _ _ _ (edge_from node_keys a b y).id refl) t.edges.edges [] es ke) ∙ o2.0;
          bundle_ids = ap twice (each_map (bundle_of node_keys port_keys) (λ (e : Bundle). (e.id, 0)) bundle_key (λ a b y. pair_is _ _ _ _ (bundle_from node_keys port_keys a b y).id refl) t.bundles.bundles [] bs kb) ∙ o3.0;
          port_ids = ap twice (each_map (port_of node_keys) (λ (p : Port). (id_at t.nodes p.node, p.id)) port_key
              (λ a b y. let f = port_from node_keys a b y in pair_is _ _ _ _ (first_of node_keys b.node a.node f.found) f.id) t.ports [] ps kp) ∙ o1.0;
          member_edges = ap twice (
              ap (λ z. claims z (map (λ (m : Member). edge_at es m.edge) ms))
              (each_map (bundle_of node_keys port_keys) claim_of raw_claim
              (λ a b y. let f = bundle_from node_keys port_keys a b y in same_claim _ _ _ _ _ _ f.role f.first f.count) t.bundles.bundles [] bs kb)
              ∙ ap (claims (map raw_claim t.bundles.bundles))
              (each_map (member_of edge_keys) (λ (m : Member). edge_at es m.edge) edge_id
              (λ a b y. ap (λ (z : List Key). (get_or z b.edge (0, 0)).0) (each_map (edge_of node_keys) (λ (e : Edge). (e.id, 0)) edge_key (λ c d x. pair_is _ _ _ _ (edge_from node_keys c d x).id refl) t.edges.edges [] es ke)
              ∙ first_of edge_keys b.edge a.edge (member_from edge_keys a b y).edge) t.bundles.members [] ms km)
              ∙ r.claimed) ∙ o3.1;
        }

  resolved_sound : (b : Board) → some_twice t ≡ false → resolved h.options t ≡ Some b → Sound (job_with b)
  unfolding resolved
  resolved_sound b q u =
      let c = known_came (each (port_of node_keys) t.ports []) _ b u in
      let d = known_came (each (edge_of node_keys) t.edges.edges []) _ b c.2 in
      let e = known_came (each (bundle_of node_keys port_keys) t.bundles.bundles []) _ b d.2 in
      let f = known_came (each (member_of edge_keys) t.bundles.members []) _ b e.2 in
      let v = known_value (record { options = h.options; nodes = t.nodes; ports = c.0; edges = d.0; bundles = e.0; members = f.0 }) b f.2 in
      subst (λ (x : Board). Sound (job_with x)) v (board_sound c.0 d.0 e.0 f.0 c.1 d.1 e.1 f.1 q)

  nine_sound : (k : Option Board) (j : Job) → some_twice t ≡ false → resolved h.options t ≡ k → or_nine k h t.edges.points ≡ job.accepted j → Sound j
  unfolding or_nine
  nine_sound None j q u w = let z : ◌≡◌ {A = ℕ} 0 1 = cc in absurd (omega arith)
  nine_sound (Some b) j q u w =
      let v : job_with b ≡ j = accepted_value (job_with b) j w in
      subst Sound v (resolved_sound b q u)
    where
      accepted_value : (a b : Job) → job.accepted a ≡ job.accepted b → a ≡ b
      accepted_value a b e = cc

  eight_sound : (b : Bool) (j : Job) → some_twice t ≡ b → cond b (refusal 8) (or_nine (resolved h.options t) h t.edges.points) ≡ job.accepted j → Sound j
  eight_sound true j q w = let z : ◌≡◌ {A = ℕ} 0 1 = cc in absurd (omega arith)
  eight_sound false j q w = nine_sound (resolved h.options t) j q refl w

  settled_sound : (j : Job) → settled h t ≡ job.accepted j → Sound j
  unfolding settled
  settled_sound j e = eight_sound (some_twice t) j refl e

-- what an outcome that is an accepted job has read
pub record OutcomeCame {A : Type 0} (x : Read A) (f : A → List ℕ → Outcome) (j : Job) : Type 0 where
  pub value : A
  pub rest : List ℕ
  pub first : x ≡ got value rest
  pub second : f value rest ≡ job.accepted j

pub outcome_came : {A : Type 0} (x : Read A) (f : A → List ℕ → Outcome) (j : Job) → outcome x f ≡ job.accepted j → OutcomeCame x f j
unfolding outcome
outcome_came (refused r) f j e = let z : ◌≡◌ {A = ℕ} 0 1 = cc in absurd (omega arith)
outcome_came (got a s) f j e = record { value = a; rest = s; first = refl; second = e }

pub guarded : (b : Bool) (x : Outcome) (r : ℕ) (j : Job) → cond b x (refusal r) ≡ job.accepted j → x ≡ job.accepted j
guarded true x r j e = e
guarded false x r j e = let z : ◌≡◌ {A = ℕ} 0 1 = cc in absurd (omega arith)

-- an accepted job is sound, and has at most 49,566 bytes
pub accepted_sound : (s : List ℕ) (j : Job) → read_job s ≡ job.accepted j → Sound j × (length s ≤ largest_job)
unfolding read_job version fields
accepted_sound s j e =
    let a = outcome_came (field 1 (drop 4 s)) version j (guarded (lengths_fit s) (outcome (field 1 (drop 4 s)) version) 1 j e) in
    let v = guarded (eqb a.value 1) (fields header a.rest) 3 j a.second in
    let b = outcome_came (header a.rest) _ j v in
    let c = outcome_came (tables b.value.flags.on_grid b.value.counts b.rest) _ j b.second in
    let g = header_good a.rest b.value b.rest b.first in
    let r = tables_good b.value.flags.on_grid b.value.counts b.rest c.value c.rest c.first in
    let f = field_takes 1 (drop 4 s) a.value a.rest a.first in
    let d = length-drop 4 s in
    let k = g.0.counts in (
      settled_sound b.value (length b.rest) c.value g.0 r j c.second,
      omega (arith, f.0, f.1, d, g.1, r.bytes, r.node_count, r.port_count, r.edge_count, r.bundle_count, r.point_total, r.member_total, k.nodes, k.ports, k.edges, k.bundles),
    )
