-- What is known of the head and of the tables that were read: windows one behind the other, totals within the limits.
-- Assumes nothing.
use Rattle.std.specs.Prelude.{ℕ, zero, suc, ◌+◌, ◌*◌, ◌≤◌, ◌≡◌, refl, Bool, List, [], ◌∷◌, ◌++◌, map, leb, eqb, length}
use Rattle.std.proofs.Common.{sym, ap, subst, ◌∙◌, arith, length-append, eqb-true}
use Rattle.std.proofs.lemmas.List.{map-append}
use Rattle.limits.specs.Limits.{max_nodes, max_ports, max_edges, max_route_points, max_points, max_bundles, max_bundle_members, max_members, max_tap_visits, max_geometry_visits}
use Rattle.wire.specs.Read.{got, after, field, at_most, many}
use Rattle.wire.specs.Accept.{option}
use Rattle.wire.proofs.All.{All, all_one_more, all_weaker}
use Rattle.board.specs.declared.Options.{Options}
use Rattle.job.specs.declared.Flags.{Flags}
use Rattle.job.specs.declared.Grants.{Grants}
use Rattle.job.specs.declared.Counts.{Counts}
use Rattle.job.specs.declared.Header.{Header}
use Rattle.job.specs.declared.RawEdge.{RawEdge}
use Rattle.job.specs.declared.RawBundle.{RawBundle}
use Rattle.job.specs.LoopSteps.{came, got_both}
use Rattle.job.specs.Heads.{Limits, header_fits}
use Rattle.job.proofs.Windows.{edge_window, bundle_window}
use Rattle.job.proofs.Kept.{many_keeps, pushes_good, pushes_count, field_takes}
use Rattle.job.specs.Job.{flags_of, options, grants, counts, header, node, port, point, member, edge_head, bundle_head, push, EdgeList, BundleList, next_edge, next_bundle, Tables, ended, tables, member_key}
use Rattle.job.proofs.Claims.{claims, raw_claim, edge_id, Inside, members_pushed}
use Rattle.job.proofs.Claims as claim
use Rattle.job.proofs.GoodRecords.{GoodPoint, GoodOptions, GoodNode, picked, grid_number_good, point_good, node_good, RawGoodPort, port_good, at_most_good, RawGoodMember, member_good, edge_takes, bundle_takes}

-- ---- edges with their points, bundles with their members
unfoldable pub sum : List ℕ → ℕ
sum [] = 0
sum (n ∷ l) = n + sum l

pub sum_last : {A : Type 0} (f : A → ℕ) (l : List A) (a : A) → sum (map f (l ++ (a ∷ []))) ≡ sum (map f l) + f a
unfolding sum
sum_last f [] a = omega arith
sum_last f (b ∷ l) a = let e = sum_last f l a in omega arith

-- where windows of these lengths start, one behind the other from n on
unfoldable pub starts : ℕ → List ℕ → List ℕ
starts n [] = []
starts n (c ∷ cs) = n ∷ starts (n + c) cs

pub starts_last : {A : Type 0} (f : A → ℕ) (n : ℕ) (l : List A) (a : A) → starts n (map f (l ++ (a ∷ []))) ≡ starts n (map f l) ++ ((n + sum (map f l)) ∷ [])
unfolding starts sum
starts_last f n [] a = ap (λ (k : ℕ). k ∷ []) (omega arith)
starts_last f n (b ∷ l) a =
    let e : n + f b + sum (map f l) ≡ n + (f b + sum (map f l)) = omega arith in
    ap (λ (t : List ℕ). n ∷ t) (starts_last f (n + f b) l a ∙ ap (λ (k : ℕ). starts (n + f b) (map f l) ++ (k ∷ [])) e)

pub record RawGoodEdge (points : ℕ) (e : RawEdge) : Type 0 where
  pub count : e.count ≤ max_route_points
  pub window : e.first + e.count ≤ points

pub record EdgesSo (grid : Bool) (from : ℕ) (l : EdgeList) (s : List ℕ) : Type 0 where
  pub edges : All (RawGoodEdge (length l.points)) l.edges
  pub points : All (GoodPoint grid) l.points
  pub total : length l.points ≤ max_points
  pub counts : sum (map (λ (e : RawEdge). e.count) l.edges) ≡ length l.points
  pub bytes : from ≡ 22 * length l.edges + 16 * length l.points + length s

pub edges_as : (grid : Bool) (from : ℕ) (l m : EdgeList) (s t : List ℕ) → l ≡ m → s ≡ t → EdgesSo grid from l s → EdgesSo grid from m t
edges_as grid from l m s t x y h = subst (λ (k : EdgeList). EdgesSo grid from k t) x (subst (λ (u : List ℕ). EdgesSo grid from l u) y h)

pub edges_step : (grid : Bool) (from : ℕ) (l : EdgeList) (s : List ℕ) (m : EdgeList) (t : List ℕ) → EdgesSo grid from l s → next_edge grid l s ≡ got m t → EdgesSo grid from m t
unfolding next_edge
edges_step grid from l s m t h e =
    let ps = l.points in
    let a = came (edge_head (length ps) s) _ m t e in
    let b = came (many a.value.count (push (point grid)) ps a.rest) _ m t a.second in
    let q = got_both _ m b.rest t b.second in
    let w = edge_window (length ps) s a.value a.rest a.first in
    let g = pushes_good (point grid) (GoodPoint grid) 16 (point_good grid) a.value.count (16 * length ps + length a.rest) 0 ps a.rest b.value b.rest (record { all = h.points; bytes = omega arith }) b.first in
    let n = pushes_count (point grid) a.value.count ps a.rest b.value b.rest b.first in
    let k = edge_takes (length ps) s a.value a.rest a.first in
    let u = g.bytes in
    let v = h.bytes in
    let x : length (l.edges ++ (a.value ∷ [])) ≡ length l.edges + 1 = simp length-append in
    edges_as grid from (record { edges = l.edges ++ (a.value ∷ []); points = b.value }) m b.rest t q.0 q.1
    (record {
      edges = all_one_more (RawGoodEdge (length b.value)) l.edges a.value
          (all_weaker (RawGoodEdge (length ps)) (RawGoodEdge (length b.value)) l.edges (λ r y. record { count = y.count; window = omega arith }) h.edges)
          (record { count = w.own; window = omega (arith, w.starts) });
      points = g.all;
      total = omega (arith, w.total, n);
      counts = omega (arith, sum_last (λ (e : RawEdge). e.count) l.edges a.value, h.counts, n);
      bytes = rw x (omega arith);
    })

pub record RawGoodBundle (members : ℕ) (b : RawBundle) : Type 0 where
  pub count : b.count ≤ max_bundle_members
  pub window : b.first + b.count ≤ members

pub record BundlesSo (from : ℕ) (l : BundleList) (s : List ℕ) : Type 0 where
  pub bundles : All (RawGoodBundle (length l.members)) l.bundles
  pub members : All RawGoodMember l.members
  pub total : length l.members ≤ max_members
  pub counts : sum (map (λ (b : RawBundle). b.count) l.bundles) ≡ length l.members
  pub behind : map (λ (b : RawBundle). b.first) l.bundles ≡ starts 0 (map (λ (b : RawBundle). b.count) l.bundles)
  pub claimed : claims (map raw_claim l.bundles) (map edge_id l.members) ≡ map member_key l.members
  pub bytes : from ≡ 19 * length l.bundles + 6 * length l.members + length s

pub inside_all : (n : ℕ) (bs : List RawBundle) → All (RawGoodBundle n) bs → All (Inside n) (map raw_claim bs)
unfolding All
inside_all n [] h = tt
inside_all n (b ∷ bs) h = (h.0.window, inside_all n bs h.1)

pub bundles_as : (from : ℕ) (l m : BundleList) (s t : List ℕ) → l ≡ m → s ≡ t → BundlesSo from l s → BundlesSo from m t
bundles_as from l m s t x y h = subst (λ (k : BundleList). BundlesSo from k t) x (subst (λ (u : List ℕ). BundlesSo from l u) y h)

pub bundles_step : (from : ℕ) (l : BundleList) (s : List ℕ) (m : BundleList) (t : List ℕ) → BundlesSo from l s → next_bundle l s ≡ got m t → BundlesSo from m t
unfolding next_bundle
bundles_step from l s m t h e =
    let ms = l.members in
    let a = came (bundle_head (length ms) s) _ m t e in
    let b = came (many a.value.count (push (member a.value.role)) ms a.rest) _ m t a.second in
    let q = got_both _ m b.rest t b.second in
    let w = bundle_window (length ms) s a.value a.rest a.first in
    let g = pushes_good (member a.value.role) RawGoodMember 6 (member_good a.value.role) a.value.count (6 * length ms + length a.rest) 0 ms a.rest b.value b.rest (record { all = h.members; bytes = omega arith }) b.first in
    let n = pushes_count (member a.value.role) a.value.count ms a.rest b.value b.rest b.first in
    let k = bundle_takes (length ms) s a.value a.rest a.first in
    let u = g.bytes in
    let v = h.bytes in
    let x : length (l.bundles ++ (a.value ∷ [])) ≡ length l.bundles + 1 = simp length-append in
    bundles_as from (record { bundles = l.bundles ++ (a.value ∷ []); members = b.value }) m b.rest t q.0 q.1
    (record {
      bundles = all_one_more (RawGoodBundle (length b.value)) l.bundles a.value
          (all_weaker (RawGoodBundle (length ms)) (RawGoodBundle (length b.value)) l.bundles (λ r y. record { count = y.count; window = omega arith }) h.bundles)
          (record { count = w.own; window = omega (arith, w.starts) });
      members = g.all;
      total = omega (arith, w.total, n);
      counts = omega (arith, sum_last (λ (b : RawBundle). b.count) l.bundles a.value, h.counts, n);
      behind =
          map-append (λ (b : RawBundle). b.first) l.bundles (a.value ∷ [])
          ∙ ap (λ (k : ℕ). map (λ (b : RawBundle). b.first) l.bundles ++ (k ∷ [])) (omega (arith, w.starts, h.counts))
          ∙ ap (λ (t : List ℕ). t ++ ((0 + sum (map (λ (b : RawBundle). b.count) l.bundles)) ∷ [])) h.behind
          ∙ sym (starts_last (λ (b : RawBundle). b.count) 0 l.bundles a.value);
      claimed = claim.claimed l.bundles a.value ms b.value (inside_all (length ms) l.bundles h.bundles) w.starts
          (members_pushed a.value.role a.value.count ms a.rest b.value b.rest b.first) h.claimed;
      bytes = rw x (omega arith);
    })

-- ---- the head
pub options_good : (grid : Bool) (s : List ℕ) (o : Options) (t : List ℕ) → options grid s ≡ got o t → GoodOptions grid o × (length s ≡ 40 + length t)
options_good grid s o t e =
    let a = came (option grid s) _ o t e in
    let b = came (option grid a.rest) _ o t a.second in
    let c = came (option grid b.rest) _ o t b.second in
    let d = came (option grid c.rest) _ o t c.second in
    let f = came (option grid d.rest) _ o t d.second in
    let q = got_both _ o f.rest t f.second in
    let u = grid_number_good grid _ _ s a.value a.rest a.first in
    let v = grid_number_good grid _ _ a.rest b.value b.rest b.first in
    let w = grid_number_good grid _ _ b.rest c.value c.rest c.first in
    let x = grid_number_good grid _ _ c.rest d.value d.rest d.first in
    let y = grid_number_good grid _ _ d.rest f.value f.rest f.first in
    let l = ap length q.1 in
    (subst (GoodOptions grid) q.0 (record { stub = u.0; gap = v.0; clearance = w.0; spacing = x.0; reserve = y.0 }), omega (arith, u.1, v.1, w.1, x.1, y.1, l))

pub record GoodGrants (g : Grants) : Type 0 where
  pub tap : g.tap_visits ≤ max_tap_visits
  pub geometry : g.geometry_visits ≤ max_geometry_visits

pub grants_good : (s : List ℕ) (g : Grants) (t : List ℕ) → grants s ≡ got g t → GoodGrants g × (length s ≡ 8 + length t)
grants_good s g t e =
    let a = came (at_most max_tap_visits 4 s) _ g t e in
    let b = came (at_most max_geometry_visits 4 a.rest) _ g t a.second in
    let q = got_both _ g b.rest t b.second in
    let x = at_most_good max_tap_visits 4 s a.value a.rest a.first in
    let y = at_most_good max_geometry_visits 4 a.rest b.value b.rest b.first in
    let l = ap length q.1 in
    (subst GoodGrants q.0 (record { tap = x.0; geometry = y.0 }), omega (arith, x.1, y.1, l))

pub counts_take : (s : List ℕ) (c : Counts) (t : List ℕ) → counts s ≡ got c t → length s ≡ 8 + length t
counts_take s c t e =
    let a = came (at_most max_nodes 2 s) _ c t e in
    let b = came (at_most max_ports 2 a.rest) _ c t a.second in
    let d = came (at_most max_edges 2 b.rest) _ c t b.second in
    let f = came (at_most max_bundles 2 d.rest) _ c t d.second in
    let q = got_both _ c f.rest t f.second in
    let l = ap length q.1 in
    omega (
      arith,
      (at_most_good max_nodes 2 s a.value a.rest a.first).1,
      (at_most_good max_ports 2 a.rest b.value b.rest b.first).1,
      (at_most_good max_edges 2 b.rest d.value d.rest d.first).1,
      (at_most_good max_bundles 2 d.rest f.value f.rest f.first).1,
      l,
    )

pub flags_take : (n : ℕ) (s : List ℕ) (f : Flags) (t : List ℕ) → flags_of n s ≡ got f t → s ≡ t
unfolding flags_of
flags_take n s f t e = (picked (leb n 7) _ f s t 6 e).2

pub record GoodHeader (h : Header) : Type 0 where
  pub options : GoodOptions h.flags.on_grid h.options
  pub grants : GoodGrants h.grants
  pub counts : Limits h.counts

pub header_good : (s : List ℕ) (h : Header) (t : List ℕ) → header s ≡ got h t → GoodHeader h × (length s ≡ 57 + length t)
header_good s h t e =
    let a = came (after (field 1 s) flags_of) _ h t e in
    let b = came (options a.value.on_grid a.rest) _ h t a.second in
    let c = came (grants b.rest) _ h t b.second in
    let d = came (counts c.rest) _ h t c.second in
    let q = got_both _ h d.rest t d.second in
    let m = came (field 1 s) flags_of a.value a.rest a.first in
    let n = ap length (flags_take m.value m.rest a.value a.rest m.second) in
    let i = field_takes 1 s m.value m.rest m.first in
    let o = options_good a.value.on_grid a.rest b.value b.rest b.first in
    let g = grants_good b.rest c.value c.rest c.first in
    let k = counts_take c.rest d.value d.rest d.first in
    let l = ap length q.1 in (
      record {
        options = subst (λ (x : Header). GoodOptions x.flags.on_grid x.options) q.0 o.0;
        grants = subst (λ (x : Header). GoodGrants x.grants) q.0 g.0;
        counts = header_fits s h t e;
      },
      omega (arith, i.1, n, o.1, g.1, k, l),
    )

-- ---- the tables
pub record RawSound (grid : Bool) (c : Counts) (size : ℕ) (t : Tables) : Type 0 where
  pub nodes : All (GoodNode grid) t.nodes
  pub ports : All (RawGoodPort grid) t.ports
  pub edges : All (RawGoodEdge (length t.edges.points)) t.edges.edges
  pub points : All (GoodPoint grid) t.edges.points
  pub bundles : All (RawGoodBundle (length t.bundles.members)) t.bundles.bundles
  pub members : All RawGoodMember t.bundles.members
  pub node_count : length t.nodes ≡ c.nodes
  pub port_count : length t.ports ≡ c.ports
  pub edge_count : length t.edges.edges ≡ c.edges
  pub bundle_count : length t.bundles.bundles ≡ c.bundles
  pub point_total : length t.edges.points ≤ max_points
  pub member_total : length t.bundles.members ≤ max_members
  pub point_counts : sum (map (λ (e : RawEdge). e.count) t.edges.edges) ≡ length t.edges.points
  pub member_counts : sum (map (λ (b : RawBundle). b.count) t.bundles.bundles) ≡ length t.bundles.members
  pub member_starts : map (λ (b : RawBundle). b.first) t.bundles.bundles ≡ starts 0 (map (λ (b : RawBundle). b.count) t.bundles.bundles)
  pub claimed : claims (map raw_claim t.bundles.bundles) (map edge_id t.bundles.members) ≡ map member_key t.bundles.members
  pub bytes : size ≡ 36 * length t.nodes + 17 * length t.ports + 22 * length t.edges.edges + 16 * length t.edges.points + 19 * length t.bundles.bundles + 6 * length t.bundles.members

pub edges_count : (grid : Bool) (n : ℕ) (l : EdgeList) (s : List ℕ) (m : EdgeList) (t : List ℕ) → many n (next_edge grid) l s ≡ got m t → length m.edges ≡ length l.edges + n
unfolding many next_edge
edges_count grid zero l s m t e =
    let x : l ≡ m = cc in
    let y = ap (λ (k : EdgeList). length k.edges) x in
    omega arith
edges_count grid (suc n) l s m t e =
    let c = came (next_edge grid l s) (many n (next_edge grid)) m t e in
    let a = came (edge_head (length l.points) s) _ c.value c.rest c.first in
    let b = came (many a.value.count (push (point grid)) l.points a.rest) _ c.value c.rest a.second in
    let q = got_both _ c.value b.rest c.rest b.second in
    let y : length c.value.edges ≡ length l.edges + 1 = ap (λ (k : EdgeList). length k.edges) (sym q.0) ∙ simp length-append in
    let z = edges_count grid n c.value c.rest m t c.second in
    omega arith

pub bundles_count : (n : ℕ) (l : BundleList) (s : List ℕ) (m : BundleList) (t : List ℕ) → many n next_bundle l s ≡ got m t → length m.bundles ≡ length l.bundles + n
unfolding many next_bundle
bundles_count zero l s m t e =
    let x : l ≡ m = cc in
    let y = ap (λ (k : BundleList). length k.bundles) x in
    omega arith
bundles_count (suc n) l s m t e =
    let c = came (next_bundle l s) (many n next_bundle) m t e in
    let a = came (bundle_head (length l.members) s) _ c.value c.rest c.first in
    let b = came (many a.value.count (push (member a.value.role)) l.members a.rest) _ c.value c.rest a.second in
    let q = got_both _ c.value b.rest c.rest b.second in
    let y : length c.value.bundles ≡ length l.bundles + 1 = ap (λ (k : BundleList). length k.bundles) (sym q.0) ∙ simp length-append in
    let z = bundles_count n c.value c.rest m t c.second in
    omega arith

pub tables_good : (grid : Bool) (c : Counts) (s : List ℕ) (t : Tables) (u : List ℕ) → tables grid c s ≡ got t u → RawSound grid c (length s) t
unfolding ended All claims sum starts
tables_good grid c s t u e =
    let a = came (many c.nodes (push (node grid)) [] s) _ t u e in
    let b = came (many c.ports (push (port grid)) [] a.rest) _ t u a.second in
    let d = came (many c.edges (next_edge grid) (record { edges = []; points = [] }) b.rest) _ t u b.second in
    let f = came (many c.bundles next_bundle (record { bundles = []; members = [] }) d.rest) _ t u d.second in
    let all : Tables = record { nodes = a.value; ports = b.value; edges = d.value; bundles = f.value } in
    let k = picked (eqb (length f.rest) 0) all t f.rest u 4 f.second in
    let z = eqb-true (length f.rest) 0 k.0 in
    let n = pushes_good (node grid) (GoodNode grid) 36 (node_good grid) c.nodes (length s) 0 [] s a.value a.rest (record { all = tt; bytes = omega arith }) a.first in
    let p = pushes_good (port grid) (RawGoodPort grid) 17 (port_good grid) c.ports (length a.rest) 0 [] a.rest b.value b.rest (record { all = tt; bytes = omega arith }) b.first in
    let g = many_keeps (next_edge grid) (EdgesSo grid (length b.rest)) (edges_step grid (length b.rest)) c.edges (record { edges = []; points = [] }) b.rest d.value d.rest
    (record { edges = tt; points = tt; total = omega arith; counts = refl; bytes = omega arith }) d.first in
    let h = many_keeps next_bundle (BundlesSo (length d.rest)) (bundles_step (length d.rest)) c.bundles (record { bundles = []; members = [] }) d.rest f.value f.rest
    (record { bundles = tt; members = tt; total = omega arith; counts = refl; behind = refl; claimed = refl; bytes = omega arith }) f.first in
    subst (λ (x : Tables). RawSound grid c (length s) x) k.1 (record {
      nodes = n.all;
      ports = p.all;
      edges = g.edges;
      points = g.points;
      bundles = h.bundles;
      members = h.members;
      node_count = pushes_count (node grid) c.nodes [] s a.value a.rest a.first ∙ omega arith;
      port_count = pushes_count (port grid) c.ports [] a.rest b.value b.rest b.first ∙ omega arith;
      edge_count = edges_count grid c.edges (record { edges = []; points = [] }) b.rest d.value d.rest d.first ∙ omega arith;
      bundle_count = bundles_count c.bundles (record { bundles = []; members = [] }) d.rest f.value f.rest f.first ∙ omega arith;
      point_total = g.total;
      member_total = h.total;
      point_counts = g.counts;
      member_counts = h.counts;
      member_starts = h.behind;
      claimed = h.claimed;
      bytes = omega (arith, n.bytes, p.bytes, g.bytes, h.bytes, z);
    })
