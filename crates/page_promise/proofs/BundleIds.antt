-- The id of a job's bundle is four bytes of the job, so it is below 2 ^ 32 and has its place in 10 columns. Assumes nothing.
use Rattle.std.specs.Prelude.{ℕ, zero, suc, ◌+◌, ◌^◌, ◌<◌, Bool, eqb, leb, Float, length, take, drop, get_or, Option, Some, None}
use Rattle.std.proofs.Math.Path.{◌≡◌, refl, subst}
use Rattle.std.proofs.Math.Bool.{true, false, cond}
use mathlib.Core.List.{List, [], ◌∷◌, ◌++◌, map}
use Rattle.std.proofs.Common.{arith}
use Rattle.binary64.specs.Accepted.{accepted}
use Rattle.grid.specs.DraftingGrid.{on_drafting_grid}
use Rattle.wire.specs.Bytes.{number}
use Rattle.wire.specs.Read.{Read, refused, got, Reader, read, give, field, limited, at_most, many}
use Rattle.wire.specs.Accept.{taken, number_in, number_in_bits, gridded}
use Rattle.wire.proofs.All.{All, all_one_more}
use Rattle.sorting.specs.Lists.{Every}
use Rattle.board.specs.declared.Bundle.{Bundle}
use Rattle.board.specs.Board.{Board}
use Rattle.plan.proofs.SmallNumbers.{every_drop}
use Rattle.job.specs.declared.RawBundle.{RawBundle}
use Rattle.job.specs.declared.Header.{Header}
use Rattle.job.specs.Keys.{Key, place, each}
use Rattle.job.specs.LoopSteps.{came, got_both}
use Rattle.job.proofs.Kept.{many_keeps, field_takes, known_came, each_all}
use Rattle.job.proofs.GoodRecords.{picked}
use Rattle.job.proofs.GoodTables.{flags_take}
use Rattle.job.proofs.Sound.{outcome_came, guarded}
use Rattle.job.specs.Job.{flags_of, side_of, role_of, options, grants, counts, header, node, port, point, member, within_total, counted, edge_head, bundle_head, push, EdgeList, BundleList, next_edge, next_bundle, Tables, ended, tables, node_key, port_key, edge_key, some_twice, port_of, edge_of, bundle_of, member_of, resolved, Job, refusal, or_nine, settled, outcome, fields, version, lengths_fit, read_job}
use Rattle.job.specs.Job as job
use Rattle.page_promise.proofs.FourBytes.{Bytes, bytes_of, four_bytes}

-- ---- what is left after a reading is bytes again
abbrev Keeps : {A : Type 0} → Reader A → Type 0
Keeps {A} p = (s : List ℕ) (a : A) (t : List ℕ) → p s ≡ got a t → Bytes s → Bytes t

-- a reading that takes nothing
data Rests {A : Type 0} (s : List ℕ) : Read A → Type 0 where
  stops : (r : ℕ) → Rests s (refused r)
  goes : (a : A) → Rests s (got a s)

rests_cond : {A : Type 0} (s : List ℕ) (b : Bool) (x y : Read A) → Rests s x → Rests s y → Rests s (cond b x y)
rests_cond s true x y h k = h
rests_cond s false x y h k = k

kept : {A : Type 0} (s : List ℕ) (x : Read A) → Rests s x → (a : A) (t : List ℕ) → x ≡ got a t → Bytes s → Bytes t
kept s x (stops r) a t e k = let z : ◌≡◌ {A = ℕ} 0 1 = cc in absurd (omega arith)
kept s x (goes b) a t e k = subst Bytes (got_both b a s t e).1 k

keeps_read : {A B : Type 0} (p : Reader A) (f : A → Reader B) → Keeps p → ((a : A) → Keeps (f a)) → Keeps (read p f)
keeps_read p f k l s b t e h = let c = came (p s) f b t e in l c.value c.rest b t c.second (k s c.value c.rest c.first h)

keeps_give : {A : Type 0} (a : A) → Keeps (give a)
keeps_give a s b t e h = kept s (got a s) (goes a) b t e h

keeps_field : (w : ℕ) → Keeps (field w)
unfolding field
keeps_field w s v t e h = subst Bytes (picked (leb w (length s)) (number (take w s)) v (drop w s) t 4 e).2 (every_drop (λ (b : ℕ). b < 256) w s h)

keeps_many : {A : Type 0} (n : ℕ) (p : A → Reader A) → ((a : A) → Keeps (p a)) → (a : A) → Keeps (many n p a)
unfolding many
keeps_many zero p k a = keeps_give a
keeps_many (suc n) p k a = keeps_read (p a) (many n p) (k a) (λ b. keeps_many n p k b)

keeps_push : {A : Type 0} (p : Reader A) → Keeps p → (l : List A) → Keeps (push p l)
keeps_push p k l = keeps_read p (λ a. give (l ++ (a ∷ []))) k (λ a. keeps_give (l ++ (a ∷ [])))

-- ---- the fields
keeps_limited : (m n : ℕ) → Keeps (limited m n)
unfolding limited
keeps_limited m n s a t e h = kept s _ (rests_cond s (leb n m) (got n s) (refused 5) (goes _) (stops _)) a t e h

keeps_at_most : (m w : ℕ) → Keeps (at_most m w)
keeps_at_most m w = keeps_read (field w) (limited m) (keeps_field w) (keeps_limited m)

keeps_counted : (m all n : ℕ) → Keeps (counted m all n)
unfolding within_total
keeps_counted m all n = keeps_read (at_most m 2) (within_total all n) (keeps_at_most m 2) (λ k s a t e h. kept s _ (rests_cond s (leb (n + k) all) (got k s) (refused 5) (goes _) (stops _)) a t e h)

keeps_number : (grid : Bool) (low high : Float) → Keeps (read (number_in low high) (gridded grid))
unfolding taken gridded
keeps_number grid low high =
    keeps_read (number_in low high) (gridded grid)
    (keeps_read (field 8) (λ b. taken low high (number_in_bits b)) (keeps_field 8) (λ b s a t e h. kept s _ (rests_cond s (accepted low high (number_in_bits b)) _ _ (goes _) (stops _)) a t e h))
    (λ x s a t e h. kept s _ (rests_cond s grid _ _ (rests_cond s (on_drafting_grid x) _ _ (goes _) (stops _)) (goes _)) a t e h)

keeps_flags : Keeps (read (field 1) flags_of)
keeps_flags = keeps_read (field 1) flags_of (keeps_field 1) (λ n s a t e h. subst Bytes (flags_take n s a t e) h)

keeps_side : Keeps (read (field 1) side_of)
unfolding side_of
keeps_side =
    keeps_read (field 1) side_of (keeps_field 1)
    (λ n s a t e h. kept s _ (rests_cond s (eqb n 0) _ _ (goes _) (rests_cond s (eqb n 1) _ _ (goes _) (rests_cond s (eqb n 2) _ _ (goes _) (rests_cond s (eqb n 3) _ _ (goes _) (stops _))))) a t e h)

keeps_role : Keeps (read (field 1) role_of)
unfolding role_of
keeps_role = keeps_read (field 1) role_of (keeps_field 1) (λ n s a t e h. kept s _ (rests_cond s (eqb n 0) _ _ (goes _) (rests_cond s (eqb n 1) _ _ (goes _) (stops _))) a t e h)

-- ---- the records
keeps_options : (grid : Bool) → Keeps (options grid)
keeps_options grid =
    keeps_read _ _ (keeps_number grid _ _) (λ a. keeps_read _ _ (keeps_number grid _ _) (λ b. keeps_read _ _ (keeps_number grid _ _) (λ c. keeps_read _ _ (keeps_number grid _ _) (λ d. keeps_read _ _ (keeps_number grid _ _) (λ f. keeps_give _)))))

keeps_header : Keeps header
keeps_header =
    keeps_read _ _ keeps_flags (λ f. keeps_read _ _ (keeps_options f.on_grid) (λ o. keeps_read _ _ (keeps_read _ _ (keeps_at_most _ 4) (λ a. keeps_read _ _ (keeps_at_most _ 4) (λ b. keeps_give _)))
    (λ g. keeps_read _ _ (keeps_read _ _ (keeps_at_most _ 2) (λ a. keeps_read _ _ (keeps_at_most _ 2) (λ b. keeps_read _ _ (keeps_at_most _ 2) (λ c. keeps_read _ _ (keeps_at_most _ 2) (λ d. keeps_give _))))) (λ c. keeps_give _))))

keeps_node : (grid : Bool) → Keeps (node grid)
keeps_node grid =
    keeps_read _ _ (keeps_field 4) (λ a. keeps_read _ _ (keeps_number grid _ _) (λ b. keeps_read _ _ (keeps_number grid _ _) (λ c. keeps_read _ _ (keeps_number grid _ _) (λ d. keeps_read _ _ (keeps_number grid _ _) (λ f. keeps_give _)))))

keeps_port : (grid : Bool) → Keeps (port grid)
keeps_port grid = keeps_read _ _ (keeps_field 4) (λ a. keeps_read _ _ (keeps_field 4) (λ b. keeps_read _ _ keeps_side (λ c. keeps_read _ _ (keeps_number grid _ _) (λ d. keeps_give _))))

keeps_point : (grid : Bool) → Keeps (point grid)
keeps_point grid = keeps_read _ _ (keeps_number grid _ _) (λ a. keeps_read _ _ (keeps_number grid _ _) (λ b. keeps_give _))

keeps_edge : (grid : Bool) (l : EdgeList) → Keeps (next_edge grid l)
unfolding next_edge
keeps_edge grid l =
    keeps_read (edge_head (length l.points)) _
    (keeps_read _ _ (keeps_field 4) (λ a. keeps_read _ _ (keeps_field 4) (λ b. keeps_read _ _ (keeps_field 4) (λ c. keeps_read _ _ (keeps_field 4) (λ d. keeps_read _ _ (keeps_field 4) (λ f. keeps_read _ _ (keeps_counted _ _ _) (λ g. keeps_give _)))))))
    (λ e. keeps_read _ _ (keeps_many e.count (push (point grid)) (keeps_push (point grid) (keeps_point grid)) l.points) (λ ps. keeps_give _))

-- ---- a bundle: its id, and what is left
head_small : (n : ℕ) (s : List ℕ) (b : RawBundle) (t : List ℕ) → bundle_head n s ≡ got b t → Bytes s → (b.id < 2 ^ 32) × Bytes t
unfolding field
head_small n s b t e h =
    let c = came (field 4 s) _ b t e in
    let k = field_takes 4 s c.value c.rest c.first in
    let p = picked (leb 4 (length s)) (number (take 4 s)) c.value (drop 4 s) c.rest 4 c.first in
    let small : c.value < 2 ^ 32 = subst (λ (v : ℕ). v < 2 ^ 32) p.1 (four_bytes s k.0 h) in
    let d = came (field 4 c.rest) _ b t c.second in
    let f = came (field 4 d.rest) _ b t d.second in
    let g = came (read (field 1) role_of f.rest) _ b t f.second in
    let i = came (field 4 g.rest) _ b t g.second in
    let m = came (counted _ _ n i.rest) _ b t i.second in
    let q = got_both _ b m.rest t m.second in (
      subst (λ (r : RawBundle). r.id < 2 ^ 32) q.0 small,
      subst Bytes q.1
          (keeps_counted _ _ n i.rest m.value m.rest m.first
          (keeps_field 4 g.rest i.value i.rest i.first
          (keeps_role f.rest g.value g.rest g.first
          (keeps_field 4 d.rest f.value f.rest f.first
          (keeps_field 4 c.rest d.value d.rest d.first
          (keeps_field 4 s c.value c.rest c.first h)))))),
    )

SmallId : RawBundle → Type 0
SmallId b = b.id < 2 ^ 32

record SoFar (l : BundleList) (s : List ℕ) : Type 0 where
  ids : All SmallId l.bundles
  left : Bytes s

bundle_step : (l : BundleList) (s : List ℕ) (m : BundleList) (t : List ℕ) → SoFar l s → next_bundle l s ≡ got m t → SoFar m t
unfolding next_bundle SmallId
bundle_step l s m t h e =
    let a = came (bundle_head (length l.members) s) _ m t e in
    let b = came (many a.value.count (push (member a.value.role)) l.members a.rest) _ m t a.second in
    let q = got_both _ m b.rest t b.second in
    let w = head_small (length l.members) s a.value a.rest a.first h.left in
    let k = keeps_many a.value.count (push (member a.value.role)) (keeps_push (member a.value.role) (keeps_read _ _ (keeps_field 4) (λ x. keeps_read _ _ (keeps_at_most _ 2) (λ y. keeps_give _)))) l.members a.rest b.value b.rest b.first w.1 in
    record {
      ids = subst (λ (z : BundleList). All SmallId z.bundles) q.0 (all_one_more SmallId l.bundles a.value h.ids w.0);
      left = subst Bytes q.1 k;
    }

-- ---- the tables
tables_small : (grid : Bool) (c : _) (s : List ℕ) (x : Tables) (t : List ℕ) → tables grid c s ≡ got x t → Bytes s → All SmallId x.bundles.bundles
unfolding ended All
tables_small grid c s x t e h =
    let a = came (many c.nodes (push (node grid)) [] s) _ x t e in
    let b = came (many c.ports (push (port grid)) [] a.rest) _ x t a.second in
    let d = came (many c.edges (next_edge grid) (record { edges = []; points = [] }) b.rest) _ x t b.second in
    let f = came (many c.bundles next_bundle (record { bundles = []; members = [] }) d.rest) _ x t d.second in
    let p = picked (eqb (length f.rest) 0) _ x f.rest t 4 f.second in
    let ha = keeps_many c.nodes (push (node grid)) (keeps_push (node grid) (keeps_node grid)) [] s a.value a.rest a.first h in
    let hb = keeps_many c.ports (push (port grid)) (keeps_push (port grid) (keeps_port grid)) [] a.rest b.value b.rest b.first ha in
    let hd = keeps_many c.edges (next_edge grid) (keeps_edge grid) (record { edges = []; points = [] }) b.rest d.value d.rest d.first hb in
    let so = many_keeps next_bundle SoFar bundle_step c.bundles (record { bundles = []; members = [] }) d.rest f.value f.rest (record { ids = tt; left = hd }) f.first in
    subst (λ (z : Tables). All SmallId z.bundles.bundles) p.1 so.ids

-- ---- the board
bundle_id : (nodes ports : List Key) (b : RawBundle) (u : Bundle) → SmallId b → bundle_of nodes ports b ≡ Some u → u.id < 2 ^ 32
unfolding bundle_of SmallId
bundle_id nodes ports b u h e =
    let c = known_came (place (b.node, 0) nodes) _ u e in
    let d = known_came (place (b.node, b.port) ports) _ u c.2 in
    let q : b.id ≡ u.id = id_of (record { id = b.id; port = d.0; role = b.role; width = b.width; first = b.first; count = b.count }) u d.2 in
    subst (λ (v : ℕ). v < 2 ^ 32) q h
  where
    id_of : (a b : Bundle) → Some a ≡ Some b → a.id ≡ b.id
    id_of a b e = cc

to_every : {A : Type 0} (P : A → Type 0) (l : List A) → All P l → Every P l
unfolding All
to_every P [] h = tt
to_every P (a ∷ l) h = (h.0, to_every P l h.1)

abbrev IdsOf : List Bundle → Type 0
IdsOf us = Every (λ (u : Bundle). u.id < 2 ^ 32) us

module _ (h : Header) (t : Tables) (small : All SmallId t.bundles.bundles) where
  resolved_ids : (b : Board) → resolved h.options t ≡ Some b → IdsOf b.bundles
  unfolding resolved All
  resolved_ids b u =
      let ns = map node_key t.nodes in
      let ps = map port_key t.ports in
      let c = known_came (each (port_of ns) t.ports []) _ b u in
      let d = known_came (each (edge_of ns) t.edges.edges []) _ b c.2 in
      let e = known_came (each (bundle_of ns ps) t.bundles.bundles []) _ b d.2 in
      let f = known_came (each (member_of (map edge_key t.edges.edges)) t.bundles.members []) _ b e.2 in
      let q = bundles_of (record { options = h.options; nodes = t.nodes; ports = c.0; edges = d.0; bundles = e.0; members = f.0 }) b f.2 in
      subst IdsOf q (to_every (λ (v : Bundle). v.id < 2 ^ 32) e.0 (each_all (bundle_of ns ps) SmallId (λ (v : Bundle). v.id < 2 ^ 32) (bundle_id ns ps) t.bundles.bundles [] e.0 small tt e.1))
    where
      bundles_of : (a b : Board) → Some a ≡ Some b → a.bundles ≡ b.bundles
      bundles_of a b e = cc

  nine_ids : (k : Option Board) (j : Job) → resolved h.options t ≡ k → or_nine k h t.edges.points ≡ job.accepted j → IdsOf j.board.bundles
  unfolding or_nine
  nine_ids None j u w = let z : ◌≡◌ {A = ℕ} 0 1 = cc in absurd (omega arith)
  nine_ids (Some b) j u w =
      subst IdsOf (bundles_of (record { flags = h.flags; grants = h.grants; board = b; points = t.edges.points }) j w) (resolved_ids b u)
    where
      bundles_of : (a b : Job) → job.accepted a ≡ job.accepted b → a.board.bundles ≡ b.board.bundles
      bundles_of a b e = cc

  settled_ids : (j : Job) → settled h t ≡ job.accepted j → IdsOf j.board.bundles
  unfolding settled
  settled_ids j e = go (some_twice t) e
    where
      go : (b : Bool) → cond b (refusal 8) (or_nine (resolved h.options t) h t.edges.points) ≡ job.accepted j → IdsOf j.board.bundles
      go true w = let z : ◌≡◌ {A = ℕ} 0 1 = cc in absurd (omega arith)
      go false w = nine_ids (resolved h.options t) j refl w

-- THE THEOREM, of a list each member of which is a byte
pub bundle_ids : (s : List ℕ) (j : Job) → ((i : ℕ) → i < length s → get_or s i 0 < 256) → read_job s ≡ job.accepted j → Every (λ (u : Bundle). u.id < 2 ^ 32) j.board.bundles
unfolding read_job version fields
bundle_ids s j all e =
    let a = outcome_came (field 1 (drop 4 s)) version j (guarded (lengths_fit s) (outcome (field 1 (drop 4 s)) version) 1 j e) in
    let v = guarded (eqb a.value 1) (fields header a.rest) 3 j a.second in
    let b = outcome_came (header a.rest) _ j v in
    let c = outcome_came (tables b.value.flags.on_grid b.value.counts b.rest) _ j b.second in
    let ha = keeps_field 1 (drop 4 s) a.value a.rest a.first (every_drop (λ (n : ℕ). n < 256) 4 s (bytes_of s all)) in
    let hb = keeps_header a.rest b.value b.rest b.first ha in
    settled_ids b.value c.value (tables_small b.value.flags.on_grid b.value.counts b.rest c.value c.rest c.first hb) j c.second
