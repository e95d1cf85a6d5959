-- `job_reader::read_tables` meets its contract. Each table's keys go to a slice with one place for each row. Assumes nothing.
use Rattle.std.proofs.Common.{rules, ◌≡◌, ℕ, ◌≤◌, replicate, refl, sym, ◌∙◌, length, length-take-le, take, arith, eqb-true, Result, Ok, Err}
use Rattle.std.proofs.lemmas.List.{length-replicate}
use Rattle.refusal.specs.declared.Refusal.{Refusal}
use Rattle.refusal.specs.Refusal.{refusal_number}
use Rattle.limits.specs.Limits.{max_nodes, max_ports, max_edges, max_bundles}
use Rattle.geometry.specs.Points.{points_from}
use Rattle.wire.specs.Read.{Read, refused, got}
use Rattle.job.specs.AllTables.{Keyed}
use Rattle.job.specs.Job.{settled, Tables}
use Rattle.job.specs.Keys.{Key}
use Rattle.job.specs.Reads.{nodes_of, ports_of, edges_of, bundles_of, TableTold, NodesGot, PortsGot, EdgesGot, BundlesGot}
use Rattle.job.proofs.Steps.{nodes_refused, ports_refused, edges_refused, bundles_refused, bytes_remain, all_read, eight, nine, all_known}
use Rattle.job_reader.proofs.read_tables.Goals as goal
use Rattle.job_reader.proofs.read_tables.Goals.{In-Ok, In-Ok-ports_read, In-Ok-edges_read, In-Ok-bundles_read}

-- the size of the slice of n keys
abbrev places : ℕ → ℕ → ℕ
places n most = length (take n (replicate {A = Key} most (0, 0)))

sized : (n most : ℕ) → n ≤ most → places n most ≡ n
sized n most h = length-take-le n (replicate most (0, 0)) (rw (length-replicate most) h)

few : (k n most : ℕ) → n ≤ most → k ≡ places n most → k ≤ most
few k n most h q = omega (arith, q, sized n most h, h)

-- what is told of a table's answer, where it is one or the other
got_of : {A T : Type 0} → (x : Read A) → (P : T → Type 0) → {r : Result T Refusal} → {t : T} → TableTold x P r → r ≡ Ok t → P t
got_of x P h q = rw q at h

refused_of : {A T : Type 0} → (x : Read A) → (P : T → Type 0) → {r : Result T Refusal} → {n : Refusal} → TableTold x P r → r ≡ Err n → x ≡ refused (refusal_number n)
refused_of x P h q = rw q at h

pub returns-in-Err : goal.returns-in-Err
returns-in-Err c =
    let h = c.args.h in
    let q : nodes_of h.flags.on_grid (places h.counts.nodes max_nodes) c.args.s.now.bytes.now ≡ refused (refusal_number c.in-Err.r) = refused_of _ _ c.read_nodes-nodes_read.ensures c.in-Err.is in
    record { is = sym (nodes_refused h.flags.on_grid h.counts c.args.s.now.bytes.now (λ t rest. settled h t) _ (rw (sized h.counts.nodes max_nodes c.requires.0.nodes) at q)); fits = tt }

nodes_got : (e : In-Ok) → let h = e.args.h in let r = e.read_nodes-nodes_read.new in
    NodesGot h.flags.on_grid e.args.s.now.bytes.now r.s.bytes.now (places h.counts.nodes max_nodes) r.keys e.in-Ok.n
nodes_got e = got_of _ _ e.read_nodes-nodes_read.ensures e.in-Ok.is

nodes : (e : In-Ok) → let h = e.args.h in
    nodes_of h.flags.on_grid h.counts.nodes e.args.s.now.bytes.now ≡ got e.in-Ok.n.items e.read_nodes-nodes_read.new.s.bytes.now
nodes e = rw (sized e.args.h.counts.nodes max_nodes e.requires.0.nodes) at (nodes_got e).is

pub returns-in-Err-ports_read : goal.returns-in-Err-ports_read
returns-in-Err-ports_read c =
    let h = c.args.h in
    let q : ports_of h.flags.on_grid (places h.counts.ports max_ports) c.read_nodes-nodes_read.new.s.bytes.now ≡ refused (refusal_number c.in-Err-ports_read.r) = refused_of _ _ c.read_ports-ports_read.ensures c.in-Err-ports_read.is in
    record { is = sym (ports_refused h.flags.on_grid h.counts c.args.s.now.bytes.now (λ t rest. settled h t) _ _ (nodes (goal.at.returns-in-Err-ports_read c).In-Ok) _ (rw (sized h.counts.ports max_ports c.requires.0.ports) at q)); fits = tt }

ports_got : (e : In-Ok-ports_read) → let h = e.args.h in let r = e.read_ports-ports_read.new in
    PortsGot h.flags.on_grid e.read_nodes-nodes_read.new.s.bytes.now r.s.bytes.now (places h.counts.ports max_ports) e.read_nodes-nodes_read.new.keys r.keys e.in-Ok-ports_read.p
ports_got e = got_of _ _ e.read_ports-ports_read.ensures e.in-Ok-ports_read.is

ports : (e : In-Ok-ports_read) → let h = e.args.h in
    ports_of h.flags.on_grid h.counts.ports e.read_nodes-nodes_read.new.s.bytes.now ≡ got (ports_got e).raw e.read_ports-ports_read.new.s.bytes.now
ports e = rw (sized e.args.h.counts.ports max_ports e.requires.0.ports) at (ports_got e).is

pub returns-in-Err-edges_read : goal.returns-in-Err-edges_read
returns-in-Err-edges_read c =
    let h = c.args.h in
    let at = goal.at.returns-in-Err-edges_read c in
    let q : edges_of h.flags.on_grid (places h.counts.edges max_edges) c.read_ports-ports_read.new.s.bytes.now ≡ refused (refusal_number c.in-Err-edges_read.r) = refused_of _ _ c.read_edges-edges_read.ensures c.in-Err-edges_read.is in
    record { is = sym (edges_refused h.flags.on_grid h.counts c.args.s.now.bytes.now (λ t rest. settled h t) _ _ (nodes at.In-Ok) _ _ (ports at.In-Ok-ports_read) _ (rw (sized h.counts.edges max_edges c.requires.0.edges) at q)); fits = tt }

edges_got : (e : In-Ok-edges_read) → let h = e.args.h in let r = e.read_edges-edges_read.new in
    EdgesGot h.flags.on_grid e.read_ports-ports_read.new.s.bytes.now r.s.bytes.now (places h.counts.edges max_edges) e.read_nodes-nodes_read.new.keys r.points r.keys e.in-Ok-edges_read.e
edges_got e = got_of _ _ e.read_edges-edges_read.ensures e.in-Ok-edges_read.is

edges : (e : In-Ok-edges_read) → let h = e.args.h in
    edges_of h.flags.on_grid h.counts.edges e.read_ports-ports_read.new.s.bytes.now ≡ got (record { edges = (edges_got e).raw; points = points_from e.read_edges-edges_read.new.points 0 e.in-Ok-edges_read.e.total }) e.read_edges-edges_read.new.s.bytes.now
edges e = rw (sized e.args.h.counts.edges max_edges e.requires.0.edges) at (edges_got e).is

pub returns-in-Err-bundles_read : goal.returns-in-Err-bundles_read
returns-in-Err-bundles_read c =
    let h = c.args.h in
    let at = goal.at.returns-in-Err-bundles_read c in
    let q : bundles_of (places h.counts.bundles max_bundles) c.read_edges-edges_read.new.s.bytes.now ≡ refused (refusal_number c.in-Err-bundles_read.r) = refused_of _ _ c.read_bundles-bundles_read.ensures c.in-Err-bundles_read.is in
    record {
      is = sym (bundles_refused h.flags.on_grid h.counts c.args.s.now.bytes.now (λ t rest. settled h t) _ _ (nodes at.In-Ok) _ _ (ports at.In-Ok-ports_read) _ _ (edges at.In-Ok-edges_read) _ (rw (sized h.counts.bundles max_bundles c.requires.0.bundles) at q));
      fits = tt;
    }

bundles_got : (e : In-Ok-bundles_read) → let r = e.read_bundles-bundles_read.new in
    BundlesGot e.read_edges-edges_read.new.s.bytes.now r.s.bytes.now (places e.args.h.counts.bundles max_bundles) e.read_nodes-nodes_read.new.keys e.read_ports-ports_read.new.keys e.read_edges-edges_read.new.keys r.keys r.member_keys e.in-Ok-bundles_read.b
bundles_got e = got_of _ _ e.read_bundles-bundles_read.ensures e.in-Ok-bundles_read.is

bundles : (e : In-Ok-bundles_read) →
    bundles_of e.args.h.counts.bundles e.read_edges-edges_read.new.s.bytes.now ≡ got (record { bundles = (bundles_got e).raw; members = (bundles_got e).raw_members }) e.read_bundles-bundles_read.new.s.bytes.now
bundles e = rw (sized e.args.h.counts.bundles max_bundles e.requires.0.bundles) at (bundles_got e).is

pub returns-then-not-is_empty : goal.returns-then-not-is_empty
returns-then-not-is_empty c =
    let h = c.args.h in
    let at = goal.at.returns-then-not-is_empty c in
    record {
      is = sym (bytes_remain h.flags.on_grid h.counts c.args.s.now.bytes.now (λ t rest. settled h t) _ _ (nodes at.In-Ok) _ _ (ports at.In-Ok-ports_read) _ _ (edges at.In-Ok-edges_read) _ c.read_bundles-bundles_read.new.s.bytes.now (bundles at.In-Ok-bundles_read) (search rules));
      fits = tt;
    }

-- what the tables say
abbrev said : In-Ok → In-Ok-ports_read → In-Ok-edges_read → In-Ok-bundles_read → Tables
said n p e b = record {
  nodes = n.in-Ok.n.items;
  ports = (ports_got p).raw;
  edges = record { edges = (edges_got e).raw; points = points_from e.read_edges-edges_read.new.points 0 e.in-Ok-edges_read.e.total };
  bundles = record { bundles = (bundles_got b).raw; members = (bundles_got b).raw_members };
}

-- and their keys
keyed : (n : In-Ok) → (p : In-Ok-ports_read) → (e : In-Ok-edges_read) → (b : In-Ok-bundles_read) → Keyed n.read_nodes-nodes_read.new.keys p.read_ports-ports_read.new.keys e.read_edges-edges_read.new.keys b.read_bundles-bundles_read.new.keys (take (length b.in-Ok-bundles_read.b.members.items) b.read_bundles-bundles_read.new.member_keys) (said n p e b)
keyed n p e b = record {
  of_nodes = (nodes_got n).keyed;
  of_ports = (ports_got p).keyed;
  of_edges = (edges_got e).keyed;
  of_bundles = (bundles_got b).keyed;
  of_members = (bundles_got b).member_keyed;
}

pub returns-then-any_twice : goal.returns-then-any_twice
returns-then-any_twice c =
    let h = c.args.h in
    let s = c.args.s.now.bytes.now in
    let at = goal.at.returns-then-any_twice c in
    let empty = eqb-true (length c.read_bundles-bundles_read.new.s.bytes.now) 0 (sym c.is_empty.ensures ∙ c.if-not-is_empty.false) in
    let read = all_read h.flags.on_grid h.counts s (λ t rest. settled h t) _ _ (nodes at.In-Ok) _ _ (ports at.In-Ok-ports_read) _ _ (edges at.In-Ok-edges_read) _ c.read_bundles-bundles_read.new.s.bytes.now (bundles at.In-Ok-bundles_read) empty in
    record { is = sym (read ∙ eight h (said at.In-Ok at.In-Ok-ports_read at.In-Ok-edges_read at.In-Ok-bundles_read) _ _ _ _ _ (keyed at.In-Ok at.In-Ok-ports_read at.In-Ok-edges_read at.In-Ok-bundles_read) c.any_twice.result (rw c.len.ensures.value at c.any_twice.ensures) c.if-any_twice.true); fits = tt }

pub returns-then-not-known : goal.returns-then-not-known
returns-then-not-known c =
    let h = c.args.h in
    let s = c.args.s.now.bytes.now in
    let p = c.in-Ok-ports_read.p in
    let e = c.in-Ok-edges_read.e in
    let b = c.in-Ok-bundles_read.b in
    let at = goal.at.returns-then-not-known c in
    let empty = eqb-true (length c.read_bundles-bundles_read.new.s.bytes.now) 0 (sym c.is_empty.ensures ∙ c.if-not-is_empty.false) in
    let read = all_read h.flags.on_grid h.counts s (λ t rest. settled h t) _ _ (nodes at.In-Ok) _ _ (ports at.In-Ok-ports_read) _ _ (edges at.In-Ok-edges_read) _ c.read_bundles-bundles_read.new.s.bytes.now (bundles at.In-Ok-bundles_read) empty in
    record {
      is = sym (read ∙ nine h (said at.In-Ok at.In-Ok-ports_read at.In-Ok-edges_read at.In-Ok-bundles_read) _ _ _ _ _ (keyed at.In-Ok at.In-Ok-ports_read at.In-Ok-edges_read at.In-Ok-bundles_read) c.any_twice.result (rw c.len.ensures.value at c.any_twice.ensures) p.known e.known b.known b.members_known _ _ _ _
          (ports_got at.In-Ok-ports_read).known (edges_got at.In-Ok-edges_read).known (bundles_got at.In-Ok-bundles_read).known (bundles_got at.In-Ok-bundles_read).members_known c.if-any_twice.false _ refl c.if-not-known.true);
      fits = tt;
    }

pub returns : goal.returns
returns c =
    let h = c.args.h in
    let l = c.requires.0 in
    let s = c.args.s.now.bytes.now in
    let p = c.in-Ok-ports_read.p in
    let e = c.in-Ok-edges_read.e in
    let b = c.in-Ok-bundles_read.b in
    let at = goal.at.returns c in
    let empty = eqb-true (length c.read_bundles-bundles_read.new.s.bytes.now) 0 (sym c.is_empty.ensures ∙ c.if-not-is_empty.false) in
    let read = all_read h.flags.on_grid h.counts s (λ t rest. settled h t) _ _ (nodes at.In-Ok) _ _ (ports at.In-Ok-ports_read) _ _ (edges at.In-Ok-edges_read) _ c.read_bundles-bundles_read.new.s.bytes.now (bundles at.In-Ok-bundles_read) empty in
    record {
      is =
          sym (read ∙ all_known h (said at.In-Ok at.In-Ok-ports_read at.In-Ok-edges_read at.In-Ok-bundles_read) _ _ _ _ _ (keyed at.In-Ok at.In-Ok-ports_read at.In-Ok-edges_read at.In-Ok-bundles_read) c.any_twice.result (rw c.len.ensures.value at c.any_twice.ensures) p.known e.known b.known b.members_known _ _ _ _
          (ports_got at.In-Ok-ports_read).known (edges_got at.In-Ok-edges_read).known (bundles_got at.In-Ok-bundles_read).known (bundles_got at.In-Ok-bundles_read).members_known c.if-any_twice.false _ refl c.if-not-known.false);
      fits = record {
        nodes = few _ h.counts.nodes max_nodes l.nodes (nodes_got at.In-Ok).rows;
        ports = few _ h.counts.ports max_ports l.ports (ports_got at.In-Ok-ports_read).rows;
        edges = few _ h.counts.edges max_edges l.edges (edges_got at.In-Ok-edges_read).rows;
        bundles = few _ h.counts.bundles max_bundles l.bundles (bundles_got at.In-Ok-bundles_read).rows;
        members = (bundles_got at.In-Ok-bundles_read).total;
        points = (edges_got at.In-Ok-edges_read).total;
      };
    }
