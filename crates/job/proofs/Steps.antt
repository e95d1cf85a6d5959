-- The whole reader, step by step: what the outcome is once this much has been read. Assumes nothing.
use Rattle.std.specs.Prelude.{ℕ, ◌-◌, ◌≤◌, ◌≡◌, Bool, ◌&&◌, ◌||◌, List, [], leb, take, Result, Ok, Err, Some}
use Rattle.std.proofs.Math.Path.{refl}
use Rattle.std.proofs.Common.{sym, ap, ◌∙◌, arith}
use Rattle.std.proofs.Math.Bool.{true, false, and-false}
use Rattle.std.proofs.Math.ListN.{length, length-drop}
use borrow.Author.Tests.{le-leb, lt-leb, eq-eqb, ne_eqb}
use Rattle.refusal.specs.declared.Refusal.{Refusal}
use Rattle.refusal.specs.Refusal.{refusal_number}
use Rattle.wire.specs.Bytes.{number}
use Rattle.wire.specs.Read.{Read, refused, got, after, field, many}
use Rattle.wire.specs.ReadLaws.{field_got, field_missed}
use Rattle.board.specs.declared.PlacedNode.{PlacedNode}
use Rattle.board.specs.declared.Port.{Port}
use Rattle.board.specs.declared.Edge.{Edge}
use Rattle.board.specs.declared.Bundle.{Bundle}
use Rattle.board.specs.declared.Member.{Member}
use Rattle.board.specs.Board.{Board}
use Rattle.job.specs.declared.Counts.{Counts}
use Rattle.job.specs.declared.Header.{Header}
use Rattle.job.specs.declared.RawPort.{RawPort}
use Rattle.job.specs.Keys.{Key, twice, known_then, each}
use Rattle.job.specs.Job.{Tables, EdgeList, BundleList, Outcome, refusal, accepted, push, node, port, next_edge, next_bundle, ended, tables, some_twice, resolved, or_nine, settled, outcome, fields, version, lengths_fit, read_job, header, port_of, edge_of, bundle_of, member_of}
use Rattle.job.specs.Reads.{TableTold, ended_as, known_as}
use Rattle.job.specs.AllTables.{Keyed}

-- ---- answers of the tables
module _ {A T : Type 0} (x : Read A) (P : T → Type 0) (r : Result T Refusal) (told : TableTold x P r) where
  pub read_good : (t : T) → r ≡ Ok t → P t
  read_good t e = rw e at told

  pub read_bad : (n : Refusal) → r ≡ Err n → x ≡ refused (refusal_number n)
  read_bad n e = rw e at told

-- ---- answers of the points of a route
pub stopped_as : {A : Type 0} {m : Read A} (x : Result (Unit {0}) Refusal) (ps : A) (t : List ℕ) (r : Refusal) → m ≡ ended_as x ps t → x ≡ Err r → m ≡ refused (refusal_number r)
stopped_as x ps t r e h = e ∙ ap (λ z. ended_as z ps t) h

pub well_as : {A : Type 0} {m : Read A} (x : Result (Unit {0}) Refusal) (ps : A) (t : List ℕ) (u : Unit {0}) → m ≡ ended_as x ps t → x ≡ Ok u → m ≡ got ps t
well_as x ps t u e h = e ∙ ap (λ z. ended_as z ps t) h

-- ---- the tables
module _ (grid : Bool) (c : Counts) (s : List ℕ) (g : Tables → List ℕ → Outcome) where
  pub nodes_refused : (r : ℕ) → many c.nodes (push (node grid)) [] s ≡ refused r → outcome (tables grid c s) g ≡ refusal r
  unfolding outcome after
  nodes_refused r e = rw e

  module _ (ns : List PlacedNode) (t : List ℕ) (en : many c.nodes (push (node grid)) [] s ≡ got ns t) where
    pub ports_refused : (r : ℕ) → many c.ports (push (port grid)) [] t ≡ refused r → outcome (tables grid c s) g ≡ refusal r
    unfolding outcome after
    ports_refused r e = rw (en, e)

    module _ (ps : List RawPort) (u : List ℕ) (ep : many c.ports (push (port grid)) [] t ≡ got ps u) where
      pub edges_refused : (r : ℕ) → many c.edges (next_edge grid) (record { edges = []; points = [] }) u ≡ refused r → outcome (tables grid c s) g ≡ refusal r
      unfolding outcome after
      edges_refused r e = rw (en, ep, e)

      module _ (es : EdgeList) (v : List ℕ) (ee : many c.edges (next_edge grid) (record { edges = []; points = [] }) u ≡ got es v) where
        pub bundles_refused : (r : ℕ) → many c.bundles next_bundle (record { bundles = []; members = [] }) v ≡ refused r → outcome (tables grid c s) g ≡ refusal r
        unfolding outcome after
        bundles_refused r e = rw (en, ep, ee, e)

        module _ (bs : BundleList) (w : List ℕ) (eb : many c.bundles next_bundle (record { bundles = []; members = [] }) v ≡ got bs w) where
          pub bytes_remain : (length w ≡ 0 → ⊥) → outcome (tables grid c s) g ≡ refusal 4
          unfolding outcome after ended
          bytes_remain h = rw (en, ep, ee, eb, ne_eqb (length w) 0 h)

          pub all_read : length w ≡ 0 → outcome (tables grid c s) g ≡ g (record { nodes = ns; ports = ps; edges = es; bundles = bs }) w
          unfolding outcome after ended
          all_read h = rw (en, ep, ee, eb, eq-eqb (length w) 0 h)

-- ---- 8 and 9
module _ (h : Header) (t : Tables) (nk pk ek bk mk : List Key) (r : Keyed nk pk ek bk mk t) (x : Bool) (found : x ≡ (twice nk || (twice pk || (twice ek || (twice bk || twice mk))))) where
  twice_is : some_twice t ≡ x
  unfolding some_twice
  twice_is = rw (found, r.of_nodes, r.of_ports, r.of_edges, r.of_bundles, r.of_members)

  pub eight : x ≡ true → settled h t ≡ refusal 8
  unfolding settled
  eight q = rw (twice_is, q)

  module _ (kp ke kb km : Bool) (ps : List Port) (es : List Edge) (bs : List Bundle) (ms : List Member)
      (dp : known_as kp ps ≡ each (port_of nk) t.ports []) (de : known_as ke es ≡ each (edge_of nk) t.edges.edges [])
      (db : known_as kb bs ≡ each (bundle_of nk pk) t.bundles.bundles []) (dm : known_as km ms ≡ each (member_of ek) t.bundles.members []) where
    abbrev board : Board
    board = record { options = h.options; nodes = t.nodes; ports = ps; edges = es; bundles = bs; members = ms }

    all_of : (a b c d : Bool) → known_then (known_as a ps) (λ ports. known_then (known_as b es) (λ edges. known_then (known_as c bs) (λ bundles. known_then (known_as d ms) (λ members.
        Some (record { options = h.options; nodes = t.nodes; ports = ports; edges = edges; bundles = bundles; members = members }))))) ≡ known_as (a && (b && (c && d))) board
    unfolding known_then known_as
    all_of true true true true = refl
    all_of true true true false = refl
    all_of true true false d = refl
    all_of true false c d = refl
    all_of false b c d = refl

    resolved_is : resolved h.options t ≡ known_as (kp && (ke && (kb && km))) board
    unfolding resolved
    resolved_is = rw (← r.of_nodes, ← r.of_ports, ← r.of_edges, ← dp, ← de, ← db, ← dm) (all_of kp ke kb km)

    module _ (q : x ≡ false) (k : Bool) (all : k ≡ (kp && (ke && (kb && km)))) where
      pub nine : k ≡ false → settled h t ≡ refusal 9
      unfolding settled or_nine known_as
      nine u = rw (twice_is, q, resolved_is, ← all, u)

      pub all_known : k ≡ true → settled h t ≡ accepted (record { flags = h.flags; grants = h.grants; board = board; points = t.edges.points })
      unfolding settled or_nine known_as
      all_known u = rw (twice_is, q, resolved_is, ← all, u)

-- ---- from the first byte on
module _ (s : List ℕ) where
  -- no length is there
  pub no_length : (r : ℕ) → field 4 s ≡ refused r → read_job s ≡ refusal 1
  unfolding read_job lengths_fit
  no_length r e = rw (lt-leb 5 (length s) (omega (arith, field_missed 4 s r e)))

  module _ (n : ℕ) (t : List ℕ) (word : field 4 s ≡ got n t) where
    pub wrong_length : (n ≡ length t → ⊥) → read_job s ≡ refusal 1
    unfolding read_job lengths_fit
    wrong_length h =
        let f = field_got 4 s n t word in
        let k : number (take 4 s) ≡ length s - 4 → ⊥ = λ z. h (sym f.1 ∙ z ∙ omega (arith, ap length f.2, length-drop 4 s)) in
        rw (ne_eqb (number (take 4 s)) (length s - 4) k, and-false (leb 5 (length s)))

    module _ (right : n ≡ length t) where
      -- and no version
      pub no_version : (r : ℕ) → field 1 t ≡ refused r → read_job s ≡ refusal 1
      unfolding read_job lengths_fit
      no_version r e =
          let f = field_got 4 s n t word in
          rw (lt-leb 5 (length s) (omega (arith, field_missed 1 t r e, ap length f.2, length-drop 4 s)))

      module _ (v : ℕ) (u : List ℕ) (byte : field 1 t ≡ got v u) where
        read_on : read_job s ≡ version v u
        unfolding read_job lengths_fit outcome
        read_on =
            let f = field_got 4 s n t word in
            let g = field_got 1 t v u byte in
            let l : length s - 4 ≡ length t = omega (arith, ap length f.2, length-drop 4 s) in
            let k : 5 ≤ length s = omega (arith, g.0, ap length f.2, length-drop 4 s) in
            rw (le-leb 5 (length s) k, eq-eqb (number (take 4 s)) (length s - 4) (f.1 ∙ right ∙ sym l), f.2, byte)

        pub wrong_version : (v ≡ 1 → ⊥) → read_job s ≡ refusal 3
        unfolding version
        wrong_version h = read_on ∙ rw (ne_eqb v 1 h)

        module _ (one : v ≡ 1) where
          pub head_refused : (r : ℕ) → header u ≡ refused r → read_job s ≡ refusal r
          unfolding version fields outcome
          head_refused r e = read_on ∙ rw (eq-eqb v 1 one, e)

          pub head_read : (h : Header) (t : List ℕ) → header u ≡ got h t → read_job s ≡ outcome (tables h.flags.on_grid h.counts t) (λ x rest. settled h x)
          unfolding version fields outcome
          head_read h t e = read_on ∙ rw (eq-eqb v 1 one, e)
