-- The tests of a check one after the other: run after run, tap after tap, route after route, bundle after bundle, node after node.
-- Assumes nothing.
use Prim.Native.Nat.{ℕ, zero, suc, ◌+◌, ◌*◌, ◌-◌, ◌≤◌, ◌<◌}
use Rattle.std.specs.Prelude.{◌≡◌, refl, Bool, false, cond, length, get_or, drop, Float, Option, Some, None}
use Rattle.std.proofs.Math.Path.{sym, ap}
use Rattle.std.proofs.Common.{◌∙◌, add-one, drop_of_length-le}
use mathlib.Core.Logic.{◌⊎◌, inl, inr}
use mathlib.Core.List.{List, [], ◌∷◌, ◌++◌, map}
use Rattle.std.proofs.Math.Bool.{true}
use native.Mathlib.Omega.{arith}
use Rattle.std.proofs.Math.Seq.{drop-cons}
use borrow.Author.Tests.{eq-eqb, ne_eqb}
use Rattle.plan.proofs.TableReads.{null_node, rest_cons, rest_none}
use Rattle.limits.specs.Limits.{slot_points}
use Rattle.geometry.specs.declared.Point.{Point}
use Rattle.geometry.specs.declared.Segment.{Segment}
use Rattle.geometry.specs.Points.{Route, runs, point_at, run_at, points_from}
use Rattle.geometry.specs.Apart.{trunk, apart}
use Rattle.geometry.proofs.Clear.{apart_contact, apart_spacing}
use Rattle.geometry.proofs.KindContact.{kind_contact}
use Rattle.route.specs.Window.{runs_next, runs_none}
use Rattle.route.specs.Slots.{routes_from}
use Rattle.sorting.specs.Sorted.{every_at}
use Rattle.board.specs.declared.Options.{Options}
use Rattle.board.specs.declared.DrawnBundle.{DrawnBundle}
use Rattle.board.specs.declared.PlacedNode.{PlacedNode}
use Rattle.board.specs.declared.Edge.{Edge}
use Rattle.board.specs.declared.Member.{Member}
use Rattle.board.specs.Board.{Board}
use Rattle.geometry.specs.Contact.{slanted}
use Rattle.geometry.specs.Enters.{passes_inside}
use Rattle.drawing.specs.Build.{tap_of}
use Rattle.drawing.specs.Check.{Test, due, barred, clean, failed, walk, own, node_tests, inside_tests, member_tests, clash, run_tests, over_routes, drawn_tests, pair_tests, prior_tests}
use Rattle.drawing.proofs.CleanChecks.{walk_on, walk_off}
use Rattle.checks.specs.Purse.{charged}
use Rattle.checks.specs.CheckRows.{drawn_of, inside_route, Sliced, Tabled, AllTabled}
use Rattle.checks.specs.LentRows.{taps_of}

-- ---- one test, and tests after tests

pub charge_none : (n : ℕ) → n ≡ 0 → (false, n) ≡ charged n
unfolding charged
charge_none n h = rw h

pub charge_one : (n : ℕ) → (n ≡ 0 → ⊥) → (true, n - 1) ≡ charged n
unfolding charged
charge_one zero h = absurd (h refl)
charge_one (suc n) h = let a : suc n - 1 ≡ n = omega arith in rw a

-- a charge that is refused leaves nothing, as it found it; one that is paid leaves one less
unpaid : (n m : ℕ) → (false, m) ≡ charged n → (n ≡ 0) × (m ≡ 0)
unfolding charged
unpaid zero m p = (refl, ap (λ (x : Bool × ℕ). x.1) p)
unpaid (suc n) m p =
    let t : false ≡ true = ap (λ (x : Bool × ℕ). x.0) p in
    let z : ◌≡◌ {A = ℕ} 0 1 = cc in
    absurd (omega arith)

paid : (n m : ℕ) → (true, m) ≡ charged n → n ≡ suc m
unfolding charged
paid zero m p =
    let t : true ≡ false = ap (λ (x : Bool × ℕ). x.0) p in
    let z : ◌≡◌ {A = ℕ} 0 1 = cc in
    absurd (omega arith)
paid (suc n) m p = ap suc (sym (ap (λ (x : Bool × ℕ). x.1) p))

module _ (n m e : ℕ) (b : Bool) (ts : List Test) where
  pub due_spent : (false, m) ≡ charged n → failed 14 m ≡ walk e (due b ∷ ts) n
  unfolding walk
  due_spent p =
      let a = (unpaid n m p).0 in
      let c = (unpaid n m p).1 in
      rw (a, c)

  pub due_hit : (true, m) ≡ charged n → b ≡ true → failed e m ≡ walk e (due b ∷ ts) n
  unfolding walk
  due_hit p k = let a = paid n m p in rw (a, k)

  pub due_clean : (true, m) ≡ charged n → b ≡ false → walk e ts m ≡ walk e (due b ∷ ts) n
  unfolding walk
  due_clean p k = let a = paid n m p in rw (a, k)

pub walk_done : (e n : ℕ) → clean n ≡ walk e [] n
unfolding walk
walk_done e n = refl

-- a check in two parts, of which the first left m visits
module _ (e : ℕ) (xs ys : List Test) (n m : ℕ) where
  pub then_on : clean m ≡ walk e xs n → walk e ys m ≡ walk e (xs ++ ys) n
  then_on w = sym (walk_on e xs ys n (record { 0 = m }) (sym w))

  pub then_off : (r : ℕ) → failed r m ≡ walk e xs n → failed r m ≡ walk e (xs ++ ys) n
  then_off r w = sym (walk_off e xs ys n r (record { 0 = m }) (sym w))

-- ---- run after run

module _ (o : Options) (allow : Bool) (bus : Segment) (tap : Option Point) (s : List Float) (start n : ℕ) where
  abbrev pub tests_at : ℕ → List Test
  tests_at i = run_tests o allow bus tap (runs (points_from s (start + i) (n - i)))

  abbrev pub look_on : ℕ → List Test
  look_on i = due (clash o allow bus tap (run_at s (start + i))) ∷ []

  tests_next : (i : ℕ) → i + 1 < n → look_on i ++ tests_at (i + 1) ≡ tests_at i
  unfolding run_tests
  tests_next i h = rw (runs_next s start n i h)

  pub walk_start : (k : ℕ) → walk 11 (tests_at 0) k ≡ walk 11 (run_tests o allow bus tap (runs (points_from s start n))) k
  walk_start k =
      let a : start + 0 ≡ start = omega arith in
      let b : n - 0 ≡ n = omega arith in
      rw (a, b)

  pub walk_off_at : (i k m r : ℕ) → i + 1 < n → failed r m ≡ walk 11 (look_on i) k → failed r m ≡ walk 11 (tests_at i) k
  walk_off_at i k m r h w = then_off 11 (look_on i) (tests_at (i + 1)) k m r w ∙ ap (λ (l : List Test). walk 11 l k) (tests_next i h)

  pub walk_next : (i k m : ℕ) → i + 1 < n → clean m ≡ walk 11 (look_on i) k → walk 11 (tests_at (i + 1)) m ≡ walk 11 (tests_at i) k
  walk_next i k m h w = then_on 11 (look_on i) (tests_at (i + 1)) k m w ∙ ap (λ (l : List Test). walk 11 l k) (tests_next i h)

  pub walk_end : (i k : ℕ) → n ≤ i + 1 → clean k ≡ walk 11 (tests_at i) k
  unfolding walk run_tests
  walk_end i k h = let g : n - i ≤ 1 = omega arith in rw (runs_none s (start + i) (n - i) g)

-- ---- a run that is apart from a bus

pub apart_clean : (o : Options) (allow : Bool) (bus : Segment) (tap : Option Point) (run : Segment) → apart (trunk bus) o.minimum_parallel_wire_spacing run.start run.end ≡ true → clash o allow bus tap run ≡ false
unfolding clash
apart_clean o allow bus tap run h = rw (kind_contact bus run.start run.end tap allow, apart_contact bus o.minimum_parallel_wire_spacing run.start run.end tap allow h, apart_spacing bus o.minimum_parallel_wire_spacing run.start run.end h)

-- ---- tap after tap: the members ms and the taps ps that are left

module _ (ms : List Member) (ps : List Point) (e : ℕ) where
  module _ (m : Member) (p : Point) (ms' : List Member) (ps' : List Point) (a : ms ≡ m ∷ ms') (b : ps ≡ p ∷ ps') where
    pub tap_here : m.edge ≡ e → Some p ≡ tap_of (taps_of ms ps) e
    unfolding taps_of tap_of
    tap_here q = rw (a, b, eq-eqb m.edge e q)

    pub tap_next : (m.edge ≡ e → ⊥) → tap_of (taps_of ms' ps') e ≡ tap_of (taps_of ms ps) e
    unfolding taps_of tap_of
    tap_next q = rw (a, b, ne_eqb m.edge e q)

pub tap_none : (ms : List Member) (ps : List Point) (e : ℕ) → (length ms ≡ 0) ⊎ (length ps ≡ 0) → None ≡ tap_of (taps_of ms ps) e
unfolding taps_of tap_of
tap_none [] ps e h = refl
tap_none (m ∷ ms) [] e h = refl
tap_none (m ∷ ms) (p ∷ ps) e (inl q) = absurd (omega arith)
tap_none (m ∷ ms) (p ∷ ps) e (inr q) = absurd (omega arith)

-- ---- route after route, for either check

module _ (er : ℕ) (f : ℕ → Route → List Test) (chosen : ℕ → Bool) (s : List Float) (ns : List ℕ) where
  abbrev pub rest_of : ℕ → List Test
  rest_of i = over_routes f chosen (routes_from s i (drop i ns)) i

  abbrev pub slot_at : ℕ → Route
  slot_at i = points_from s (slot_points * i) (get_or ns i 0)

  rest_next : (i : ℕ) → i < length ns → rest_of i ≡ cond (chosen i) (f i (slot_at i)) [] ++ rest_of (i + 1)
  unfolding over_routes routes_from
  rest_next i h = rw (add-one, drop-cons ns i 0 h)

  pub over_skip : (i k : ℕ) → i < length ns → chosen i ≡ false → walk er (rest_of (i + 1)) k ≡ walk er (rest_of i) k
  over_skip i k h e = sym (ap (λ (l : List Test). walk er l k) (rest_next i h ∙ ap (λ (c : Bool). cond c (f i (slot_at i)) [] ++ rest_of (i + 1)) e))

  chosen_next : (i : ℕ) → i < length ns → chosen i ≡ true → rest_of i ≡ f i (slot_at i) ++ rest_of (i + 1)
  chosen_next i h e = rest_next i h ∙ ap (λ (c : Bool). cond c (f i (slot_at i)) [] ++ rest_of (i + 1)) e

  module _ (i k m : ℕ) (h : i < length ns) (e : chosen i ≡ true) where
    pub over_on : clean m ≡ walk er (f i (slot_at i)) k → walk er (rest_of (i + 1)) m ≡ walk er (rest_of i) k
    over_on w = then_on er (f i (slot_at i)) (rest_of (i + 1)) k m w ∙ sym (ap (λ (l : List Test). walk er l k) (chosen_next i h e))

    pub over_off : (r : ℕ) → failed r m ≡ walk er (f i (slot_at i)) k → failed r m ≡ walk er (rest_of i) k
    over_off r w = then_off er (f i (slot_at i)) (rest_of (i + 1)) k m r w ∙ sym (ap (λ (l : List Test). walk er l k) (chosen_next i h e))

  pub over_end : (i k : ℕ) → length ns ≤ i → clean k ≡ walk er (rest_of i) k
  unfolding over_routes routes_from walk
  over_end i k h = rw (drop_of_length-le ns h)

-- ---- bundle after bundle

pub tabled_at : (ds : List DrawnBundle) (i : ℕ) (d : DrawnBundle) (edges : List ℕ) (taps : List Point) → AllTabled ds edges taps → i < length ds → Tabled (get_or ds i d).first (get_or ds i d).count edges taps
tabled_at ds i d edges taps t h = every_at (λ x. Tabled x.first x.count edges taps) ds d t i h

module _ (o : Options) (allow : Bool) (new : DrawnBundle) (changed : ℕ → Bool) (edges : List ℕ) (taps : List Point) (rs : List Route) (ds : List DrawnBundle) where
  abbrev pub priors_at : ℕ → List Test
  priors_at i = prior_tests o allow (drawn_of edges taps new) changed (map (drawn_of edges taps) (drop i ds)) rs

  abbrev pub one_at : DrawnBundle → List Test
  one_at d = drawn_tests o allow (drawn_of edges taps d) changed rs ++ pair_tests o allow (drawn_of edges taps new) (drawn_of edges taps d)

  prior_next : (i : ℕ) (d : DrawnBundle) → i < length ds → priors_at i ≡ one_at (get_or ds i d) ++ priors_at (i + 1)
  unfolding prior_tests
  prior_next i d h = rw (rest_cons ds i d h)

  module _ (i : ℕ) (d : DrawnBundle) (k m : ℕ) (h : i < length ds) where
    pub prior_on : clean m ≡ walk 11 (one_at (get_or ds i d)) k → walk 11 (priors_at (i + 1)) m ≡ walk 11 (priors_at i) k
    prior_on w = then_on 11 (one_at (get_or ds i d)) (priors_at (i + 1)) k m w ∙ sym (ap (λ (t : List Test). walk 11 t k) (prior_next i d h))

    pub prior_off : (r : ℕ) → failed r m ≡ walk 11 (one_at (get_or ds i d)) k → failed r m ≡ walk 11 (priors_at i) k
    prior_off r w = then_off 11 (one_at (get_or ds i d)) (priors_at (i + 1)) k m r w ∙ sym (ap (λ (t : List Test). walk 11 t k) (prior_next i d h))

  pub prior_end : (i k : ℕ) → length ds ≤ i → clean k ≡ walk 11 (priors_at i) k
  unfolding prior_tests walk
  prior_end i k h = rw (rest_none ds i h)

-- ---- node after node, and then the tests that are left

module _ (e : Edge) (s : Segment) (ns : List PlacedNode) (rest : List Test) where
  abbrev pub nodes_at : ℕ → List Test
  nodes_at j = node_tests e s (drop j ns) j ++ rest

  abbrev look_at : ℕ → Test
  look_at j = due (passes_inside s.start s.end (get_or ns j null_node).body)

  own_next : (j : ℕ) → j < length ns → own e j ≡ true → nodes_at j ≡ nodes_at (j + 1)
  unfolding node_tests
  own_next j h o = let z : suc j ≡ j + 1 = omega arith in rw (rest_cons ns j null_node h, z, o)

  due_next : (j : ℕ) → j < length ns → own e j ≡ false → nodes_at j ≡ look_at j ∷ nodes_at (j + 1)
  unfolding node_tests
  due_next j h o = let z : suc j ≡ j + 1 = omega arith in rw (rest_cons ns j null_node h, z, o)

  pub node_own : (j k : ℕ) → j < length ns → own e j ≡ true → walk 12 (nodes_at (j + 1)) k ≡ walk 12 (nodes_at j) k
  node_own j k h o = sym (ap (λ (x : List Test). walk 12 x k) (own_next j h o))

  module _ (j k m : ℕ) (h : j < length ns) (o : own e j ≡ false) where
    abbrev now_due : walk 12 (look_at j ∷ nodes_at (j + 1)) k ≡ walk 12 (nodes_at j) k
    now_due = sym (ap (λ (x : List Test). walk 12 x k) (due_next j h o))

    pub node_spent : (false, m) ≡ charged k → failed 14 m ≡ walk 12 (nodes_at j) k
    node_spent p = due_spent k m 12 _ (nodes_at (j + 1)) p ∙ now_due

    pub node_hit : (true, m) ≡ charged k → passes_inside s.start s.end (get_or ns j null_node).body ≡ true → failed 12 m ≡ walk 12 (nodes_at j) k
    node_hit p x = due_hit k m 12 _ (nodes_at (j + 1)) p x ∙ now_due

    pub node_clean : (true, m) ≡ charged k → passes_inside s.start s.end (get_or ns j null_node).body ≡ false → walk 12 (nodes_at (j + 1)) m ≡ walk 12 (nodes_at j) k
    node_clean p x = due_clean k m 12 _ (nodes_at (j + 1)) p x ∙ now_due

  pub node_end : (j k : ℕ) → length ns ≤ j → walk 12 (nodes_at j) k ≡ walk 12 rest k
  unfolding node_tests
  node_end j k h = rw (rest_none ns j h)

-- ---- run after run against the nodes

module _ (ns : List PlacedNode) (e : Edge) (s : List Float) (start n : ℕ) where
  abbrev pub inside_at : ℕ → List Test
  inside_at i = inside_tests ns e (runs (points_from s (start + i) (n - i)))

  pub inside_start : (k : ℕ) → walk 12 (inside_at 0) k ≡ walk 12 (inside_tests ns e (runs (points_from s start n))) k
  inside_start k =
      let a : start + 0 ≡ start = omega arith in
      let b : n - 0 ≡ n = omega arith in
      rw (a, b)

  inside_next : (i : ℕ) → i + 1 < n → inside_at i ≡ cond (slanted (point_at s (start + i)) (point_at s (start + i + 1))) (barred ∷ []) (node_tests e (run_at s (start + i)) ns 0) ++ inside_at (i + 1)
  unfolding inside_tests
  inside_next i h = rw (runs_next s start n i h)

  pub inside_slanted : (i k : ℕ) (run : Segment) → i + 1 < n → run ≡ run_at s (start + i) → slanted run.start run.end ≡ true → walk 12 (inside_at i) k ≡ failed 12 k
  unfolding walk
  inside_slanted i k run h p x =
      let y : slanted (point_at s (start + i)) (point_at s (start + i + 1)) ≡ true = sym (ap (λ (r : Segment). slanted r.start r.end) p) ∙ x in
      ap (λ (l : List Test). walk 12 l k) (inside_next i h) ∙ ap (λ (b : Bool). walk 12 (cond b (barred ∷ []) (node_tests e (run_at s (start + i)) ns 0) ++ inside_at (i + 1)) k) y

  pub inside_straight : (i k : ℕ) (run : Segment) → i + 1 < n → run ≡ run_at s (start + i) → slanted run.start run.end ≡ false → walk 12 (node_tests e run ns 0 ++ inside_at (i + 1)) k ≡ walk 12 (inside_at i) k
  inside_straight i k run h p x =
      let y : slanted (point_at s (start + i)) (point_at s (start + i + 1)) ≡ false = sym (ap (λ (r : Segment). slanted r.start r.end) p) ∙ x in
      ap (λ (r : Segment). walk 12 (node_tests e r ns 0 ++ inside_at (i + 1)) k) p
      ∙ sym (ap (λ (l : List Test). walk 12 l k) (inside_next i h) ∙ ap (λ (b : Bool). walk 12 (cond b (barred ∷ []) (node_tests e (run_at s (start + i)) ns 0) ++ inside_at (i + 1)) k) y)

  pub inside_end : (i k : ℕ) → n ≤ i + 1 → walk 12 (inside_at i) k ≡ clean k
  unfolding inside_tests walk
  inside_end i k h = let g : n - i ≤ 1 = omega arith in rw (runs_none s (start + i) (n - i) g)

-- ---- the nodes and the edges that are lent

pub sliced_tests : (b : Board) (ns : List PlacedNode) (es : List Edge) → Sliced b ns es → member_tests b ≡ inside_route ns es
sliced_tests b ns es h =
    ap (λ (xs : List PlacedNode). inside_route xs b.edges) h.nodes
    ∙ ap (inside_route ns) h.edges
