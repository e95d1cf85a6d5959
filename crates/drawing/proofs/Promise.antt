-- What an accepted sheet promises, read off from its soundness line by line.
-- Assumes nothing.
use Rattle.std.specs.Prelude.{ℕ, zero, suc, ◌+◌, ◌<◌, ◌≡◌, refl, ◌⊎◌, Bool, true, false, ◌||◌, cond, T, eqb, length, get_or, take, Float, Option, Some, None}
use Rattle.std.proofs.Common.{sym, ap, ◌∙◌, inl, inr, arith, eq-eqb}
use mathlib.Core.List.Memᴰ
use mathlib.Core.List.{List, [], ◌∷◌, ◌++◌, Memᴰ, append_assoc, append-nil}
use Rattle.std.proofs.Math.Dec.{eqb_refl}
use Rattle.geometry.specs.declared.Point.{Point}
use Rattle.geometry.specs.declared.Segment.{Segment}
use Rattle.geometry.specs.declared.Role.{Role}
use Rattle.geometry.specs.declared.Role.TheVariants.{Input}
use Rattle.board.specs.declared.Options.{Options}
use Rattle.board.specs.declared.PlacedNode.{PlacedNode}
use Rattle.board.specs.declared.Edge.{Edge}
use Rattle.board.specs.declared.Bundle.{Bundle}
use Rattle.board.specs.declared.Member.{Member}
use Rattle.binary64.specs.Bools.{neither, or_second}
use Rattle.binary64.specs.Accepted.{zero64}
use Rattle.geometry.specs.Points.{Route, runs}
use Rattle.geometry.specs.Contact.{slanted, contact}
use Rattle.geometry.specs.Kind.{kind, disallowed}
use Rattle.geometry.proofs.KindContact.{kind_contact}
use Rattle.geometry.specs.Spacing.{too_close}
use Rattle.geometry.specs.Enters.{passes_inside}
use Rattle.board.specs.Board.{Board}
use Rattle.plan.specs.Depths.{members_in, pitch_of, no_node}
use Rattle.sorting.specs.Lists.{Every}
use Rattle.sorting.specs.Sorted.{every_at}
use Rattle.drawing.specs.Build.{TapOn, Drawn, build, inside_or, trunk_taps, tap_of, route_at, no_drawn}
use Rattle.drawing.specs.Check.{Test, due, barred, over_routes, every_route, among, clash, run_tests, route_tests, drawn_tests, pair_tests, member_tests, interior_tests, inside_tests, node_tests, own, no_edge}
use Rattle.drawing.specs.Sheet.{Turn, Progress, going, sheet_of, blank}
use Rattle.drawing.proofs.CleanChecks.{Clear, clear_parts, clear_at, Agree, agree_at}
use Rattle.drawing.proofs.Assembly.{Sound, sound, Apart, Built, Origin, touched}

-- ---- reading lists

pub every_mem : {A : Type 0} (P : A → Type 0) (xs : List A) → Every P xs → (x : A) → Memᴰ x xs → P x
every_mem P [] h x m = absurd (Memᴰ.not-nil m)
every_mem {A} P (y ∷ ys) h x m = go (every_mem P ys h.1 x) (Memᴰ.cases_cons m)
  where
    go : (Memᴰ x ys → P x) → (x ≡ y) ⊎ Memᴰ x ys → P x
    go below (inl e) = rw e h.0
    go below (inr k) = below k

or_first : (x y : Bool) → x ≡ true → (x || y) ≡ true
or_first true y h = refl
or_first false y h = let z : ◌≡◌ {A = ℕ} 0 1 = cc in absurd (omega arith)

pub among_mem : (ms : List Member) (m : Member) → Memᴰ m ms → among ms m.edge ≡ true
unfolding among
among_mem [] m k = absurd (Memᴰ.not-nil k)
among_mem (n ∷ ms) m k = go (among_mem ms m) (Memᴰ.cases_cons k)
  where
    go : (Memᴰ m ms → among ms m.edge ≡ true) → (m ≡ n) ⊎ Memᴰ m ms → (eqb n.edge m.edge || among ms m.edge) ≡ true
    go below (inl e) = or_first (eqb n.edge m.edge) (among ms m.edge) (rw e (eq-eqb n.edge n.edge refl))
    go below (inr l) = or_second (eqb n.edge m.edge) (among ms m.edge) (below l)

-- ---- contacts with routes

run_clear : (o : Options) (allow : Bool) (bus : Segment) (tap : Option Point) (rs : List Segment) → Clear (run_tests o allow bus tap rs) → Every (λ run. clash o allow bus tap run ≡ false) rs
unfolding run_tests Clear
run_clear o allow bus tap [] h = tt
run_clear o allow bus tap (r ∷ rs) h = (h.0, run_clear o allow bus tap rs h.1)

no_runs : (o : Options) (allow : Bool) (bus : Segment) (taps : List TapOn) (i : ℕ) → Clear (route_tests o allow bus taps i [])
unfolding run_tests runs Clear
no_runs o allow bus taps i = tt

bus_clear : (o : Options) (allow : Bool) (bus : Segment) (taps : List TapOn) (rs : List Route) → Clear (over_routes (route_tests o allow bus taps) every_route rs 0) → (i : ℕ) (run : Segment) → Memᴰ run (runs (route_at rs i)) → clash o allow bus (tap_of taps i) run ≡ false
bus_clear o allow bus taps rs h i run m =
    let z : 0 + i ≡ i = omega arith in
    let k : Clear (route_tests o allow bus taps i (route_at rs i)) = rw z at (clear_at (route_tests o allow bus taps) (no_runs o allow bus taps) every_route rs 0 i h refl) in
    every_mem (λ s. clash o allow bus (tap_of taps i) s ≡ false) (runs (route_at rs i)) (run_clear o allow bus (tap_of taps i) (runs (route_at rs i)) k) run m

-- a bundle's line against a run: no contact that is not allowed, and not too close
pub record Free (o : Options) (allow : Bool) (bus : Segment) (tap : Option Point) (run : Segment) : Type 0 where
  pub contact : contact bus run.start run.end tap allow ≡ false
  pub spacing : too_close bus run o.minimum_parallel_wire_spacing ≡ false

free : (o : Options) (allow : Bool) (bus : Segment) (tap : Option Point) (run : Segment) → clash o allow bus tap run ≡ false → Free o allow bus tap run
unfolding clash
free o allow bus tap run h =
    let n = neither (disallowed allow (kind bus run.start run.end tap)) (too_close bus run o.minimum_parallel_wire_spacing) h in
    record {
      contact = sym (kind_contact bus run.start run.end tap allow) ∙ n.0;
      spacing = n.1;
    }

-- ---- contacts between bundles

pub record FreePair (o : Options) (allow : Bool) (new prior : Drawn) : Type 0 where
  pub collectors : Free o allow new.collector None prior.collector
  pub collector_spine : Free o allow new.collector None prior.spine
  pub spine_collector : Free o allow new.spine None prior.collector
  pub spines : Free o allow new.spine None prior.spine

free_pair : (o : Options) (allow : Bool) (new prior : Drawn) → Clear (pair_tests o allow new prior) → FreePair o allow new prior
unfolding pair_tests Clear
free_pair o allow new prior h =
    record {
      collectors = free o allow new.collector None prior.collector h.0;
      collector_spine = free o allow new.collector None prior.spine h.1.0;
      spine_collector = free o allow new.spine None prior.collector h.1.1.0;
      spines = free o allow new.spine None prior.spine h.1.1.1.0;
    }

abbrev pub no_turn : Turn
no_turn = record { bundle = record { id = 0; port = 0; role = Input; width = 0; first = 0; count = 0 }; planned = None; offset = zero64 }

pub apart_at : (o : Options) (allow : Bool) (ds : List Drawn) → Apart o allow ds → (j k : ℕ) → j < k → k < length ds → FreePair o allow (get_or ds k no_drawn) (get_or ds j no_drawn)
unfolding Apart
apart_at o allow [] h j k l g = absurd (omega arith)
apart_at o allow (d ∷ ds) h j zero l g = absurd (omega arith)
apart_at o allow (d ∷ ds) h zero (suc k) l g =
    let m : k < length ds = omega arith in
    free_pair o allow (get_or ds k no_drawn) d (every_at (λ e. Clear (pair_tests o allow e d)) ds no_drawn h.0 k m)
apart_at o allow (d ∷ ds) h (suc j) (suc k) l g =
    let m : k < length ds = omega arith in
    let n : j < k = omega arith in
    apart_at o allow ds h.1 j k n m

-- ---- node interiors

-- the run is level or upright and enters no node but the edge's own
pub record Outside (b : Board) (e : Edge) (run : Segment) : Type 0 where
  pub straight : slanted run.start run.end ≡ false
  pub foreign : (j : ℕ) → j < length b.nodes → own e j ≡ false → passes_inside run.start run.end (get_or b.nodes j no_node).body ≡ false

unowned : (k : Bool) (x : Bool) → k ≡ false → Clear (cond k [] (due x ∷ [])) → x ≡ false
unfolding Clear
unowned true x e h = let z : ◌≡◌ {A = ℕ} 0 1 = cc in absurd (omega arith)
unowned false x e h = h.0

node_clear : (e : Edge) (s : Segment) (ns : List PlacedNode) (i : ℕ) → Clear (node_tests e s ns i) → (j : ℕ) → j < length ns → own e (i + j) ≡ false → passes_inside s.start s.end (get_or ns j no_node).body ≡ false
unfolding node_tests
node_clear e s [] i h j l k = absurd (omega arith)
node_clear e s (n ∷ ns) i h zero l k =
    let z : i + 0 ≡ i = omega arith in
    unowned (own e i) (passes_inside s.start s.end n.body) (ap (own e) (sym z) ∙ k) (clear_parts (cond (own e i) [] (due (passes_inside s.start s.end n.body) ∷ [])) (node_tests e s ns (suc i)) h).0
node_clear e s (n ∷ ns) i h (suc j) l k =
    let z : suc i + j ≡ i + suc j = omega arith in
    let m : j < length ns = omega arith in
    node_clear e s ns (suc i) (clear_parts (cond (own e i) [] (due (passes_inside s.start s.end n.body) ∷ [])) (node_tests e s ns (suc i)) h).1 j m (ap (own e) z ∙ k)

-- a clear run is not slanted
unslanted : (k : Bool) (ts : List Test) → Clear (cond k (barred ∷ []) ts) → (k ≡ false) × Clear ts
unfolding Clear
unslanted true ts h = absurd h
unslanted false ts h = (refl, h)

inside_clear : (b : Board) (e : Edge) (ss : List Segment) → Clear (inside_tests b.nodes e ss) → Every (Outside b e) ss
unfolding inside_tests
inside_clear b e [] h = tt
inside_clear b e (s ∷ ss) h =
    let p = clear_parts (cond (slanted s.start s.end) (barred ∷ []) (node_tests e s b.nodes 0)) (inside_tests b.nodes e ss) h in
    let q = unslanted (slanted s.start s.end) (node_tests e s b.nodes 0) p.0 in (
      record {
        straight = q.0;
        foreign = λ j l k. let z : 0 + j ≡ j = omega arith in node_clear e s b.nodes 0 q.1 j l (ap (own e) z ∙ k);
      },
      inside_clear b e ss p.1,
    )

no_inside : (b : Board) (i : ℕ) → Clear (member_tests b i [])
unfolding inside_tests runs Clear
no_inside b i = tt

pub member_clear : (b : Board) (ms : List Member) (rs : List Route) → Clear (interior_tests b ms rs) → (m : Member) → Memᴰ m ms → (run : Segment) → Memᴰ run (runs (route_at rs m.edge)) → Outside b (get_or b.edges m.edge no_edge) run
unfolding interior_tests
member_clear b ms rs h m k run l =
    let i = m.edge in
    let z : 0 + i ≡ i = omega arith in
    let e : Edge = get_or b.edges i no_edge in
    let c : Clear (member_tests b i (route_at rs i)) = rw z at (clear_at (member_tests b) (no_inside b) (among ms) rs 0 i h (ap (among ms) z ∙ among_mem ms m k)) in
    every_mem (Outside b e) (runs (route_at rs i)) (inside_clear b e (runs (route_at rs i)) c) run l

-- ---- the routes that a bundle was built on

pub built_length : (b : Board) (given : List Route) (earlier ts : List Turn) (ds : List Drawn) → Built b given earlier ts ds → length ds ≡ length ts
unfolding Built
built_length b given earlier [] [] h = refl
built_length b given earlier [] (d ∷ ds) h = absurd h
built_length b given earlier (t ∷ ts) [] h = absurd h
built_length b given earlier (t ∷ ts) (d ∷ ds) h = ap suc (built_length b given (earlier ++ (t ∷ [])) ts ds h.1)

built_at : (b : Board) (given : List Route) (earlier ts : List Turn) (ds : List Drawn) → Built b given earlier ts ds → (k : ℕ) → k < length ts → Origin b given (earlier ++ take k ts) (get_or ts k no_turn) (get_or ds k no_drawn)
unfolding Built
built_at b given earlier [] [] h k l = absurd (omega arith)
built_at b given earlier [] (d ∷ ds) h k l = absurd h
built_at b given earlier (t ∷ ts) [] h k l = absurd h
built_at b given earlier (t ∷ ts) (d ∷ ds) h zero l = rw append-nil h.0
built_at b given earlier (t ∷ ts) (d ∷ ds) h (suc k) l =
    let g : k < length ts = omega arith in
    rw (append_assoc earlier (t ∷ []) (take k ts)) at (built_at b given (earlier ++ (t ∷ [])) ts ds h.1 k g)

-- none of the members' routes was rewritten in the turns before
abbrev pub Fresh : Board → List Turn → Turn → Type 0
Fresh b earlier t = Every (λ m. touched b earlier m.edge ≡ false) (members_in b t.bundle)

taps_same : (c : ℕ → Bool) (role : Role) (pitch x : Float) (ms : List Member) (rs qs : List Route) → Agree c rs qs 0 → Every (λ m. c m.edge ≡ false) ms → trunk_taps role pitch x ms qs ≡ trunk_taps role pitch x ms rs
unfolding trunk_taps
taps_same c role pitch x [] rs qs a h = refl
taps_same c role pitch x (m ∷ ms) rs qs a h =
    let z : 0 + m.edge ≡ m.edge = omega arith in
    let e : route_at qs m.edge ≡ route_at rs m.edge = agree_at c rs qs 0 m.edge a (ap c z ∙ h.0) in
    rw (e, taps_same c role pitch x ms rs qs a h.1)

build_same : (b : Board) (u : Bundle) (p : Option Float) (c : ℕ → Bool) (rs qs : List Route) → Agree c rs qs 0 → Every (λ m. c m.edge ≡ false) (members_in b u) → build b u p qs ≡ build b u p rs
unfolding build
build_same b u None c rs qs a h = refl
build_same b u (Some x) c rs qs a h = ap (λ (o : Option (List TapOn)). inside_or o b u x) (taps_same c u.role (pitch_of b u) x (members_in b u) rs qs a h)

pub fresh_build : (b : Board) (given : List Route) (earlier : List Turn) (t : Turn) (d : Drawn) → Origin b given earlier t d → Fresh b earlier t → d ≡ build b t.bundle t.planned given
fresh_build b given earlier t d o h = o.made ∙ build_same b t.bundle t.planned (touched b earlier) given o.present o.untouched h

-- ---- the whole

-- crossings are forbidden where allow is false
pub record Accepted (b : Board) (allow : Bool) (given : List Route) (turns : List Turn) (u : Progress) : Type 0 where
  -- a bundle's collector and spine with every run of every route, the bundle's tap on that route permitted
  pub collector_free : (d : Drawn) → Memᴰ d u.drawn → (i : ℕ) (run : Segment) → Memᴰ run (runs (route_at u.routes i)) → Free b.options allow d.collector (tap_of d.taps i) run
  pub spine_free : (d : Drawn) → Memᴰ d u.drawn → (i : ℕ) (run : Segment) → Memᴰ run (runs (route_at u.routes i)) → Free b.options allow d.spine (tap_of d.taps i) run
  -- each bundle with each earlier one, no tap permitted
  pub bundles_free : (j k : ℕ) → j < k → k < length u.drawn → FreePair b.options allow (get_or u.drawn k no_drawn) (get_or u.drawn j no_drawn)
  -- a member route enters no node foreign to it
  pub members_outside : (t : Turn) → Memᴰ t turns → (m : Member) → Memᴰ m (members_in b t.bundle) → (run : Segment) → Memᴰ run (runs (route_at u.routes m.edge)) → Outside b (get_or b.edges m.edge no_edge) run
  -- every bundle was drawn, from its plan, on the given routes where none of its members was rewritten before
  pub all_drawn : length u.drawn ≡ length turns
  pub drawn_from : (k : ℕ) → k < length turns → Origin b given (take k turns) (get_or turns k no_turn) (get_or u.drawn k no_drawn)
  pub drawn_fresh : (k : ℕ) → k < length turns → Fresh b (take k turns) (get_or turns k no_turn) → get_or u.drawn k no_drawn ≡ build b (get_or turns k no_turn).bundle (get_or turns k no_turn).planned given
  -- no route but a member's is changed
  pub others_kept : (i : ℕ) → touched b turns i ≡ false → route_at u.routes i ≡ route_at given i

drawn_both : (o : Options) (allow : Bool) (rs : List Route) (ds : List Drawn) → Every (λ d. Clear (drawn_tests o allow d every_route rs)) ds → (d : Drawn) → Memᴰ d ds → Clear (over_routes (route_tests o allow d.collector d.taps) every_route rs 0) × Clear (over_routes (route_tests o allow d.spine d.taps) every_route rs 0)
unfolding drawn_tests
drawn_both o allow rs ds h d m =
    clear_parts (over_routes (route_tests o allow d.collector d.taps) every_route rs 0) (over_routes (route_tests o allow d.spine d.taps) every_route rs 0)
    (every_mem (λ x. Clear (drawn_tests o allow x every_route rs)) ds h d m)

-- a bundle whose tests are all clear, with each run of each route
pub drawn_free : (o : Options) (allow : Bool) (rs : List Route) (ds : List Drawn) → Every (λ d. Clear (drawn_tests o allow d every_route rs)) ds → (d : Drawn) → Memᴰ d ds → (i : ℕ) (run : Segment) → Memᴰ run (runs (route_at rs i))
    → Free o allow d.collector (tap_of d.taps i) run × Free o allow d.spine (tap_of d.taps i) run
drawn_free o allow rs ds h d m i run k =
    let c = drawn_both o allow rs ds h d m in (
      free o allow d.collector (tap_of d.taps i) run (bus_clear o allow d.collector d.taps rs c.0 i run k),
      free o allow d.spine (tap_of d.taps i) run (bus_clear o allow d.spine d.taps rs c.1 i run k),
    )

read_off : (b : Board) (allow : Bool) (given : List Route) (turns : List Turn) (u : Progress) → Sound b allow given turns u → Accepted b allow given turns u
read_off b allow given turns u s =
    let o : Options = b.options in
    record {
      collector_free = λ d m i run k. (drawn_free o allow u.routes u.drawn s.contacts d m i run k).0;
      spine_free = λ d m i run k. (drawn_free o allow u.routes u.drawn s.contacts d m i run k).1;
      bundles_free = apart_at o allow u.drawn s.apart;
      members_outside = λ t k m l run n. member_clear b (members_in b t.bundle) u.routes (every_mem (λ x. Clear (interior_tests b (members_in b x.bundle) u.routes)) turns s.outside t k) m l run n;
      all_drawn = built_length b given [] turns u.drawn s.built;
      drawn_from = built_at b given [] turns u.drawn s.built;
      drawn_fresh = λ k l h. fresh_build b given (take k turns) (get_or turns k no_turn) (get_or u.drawn k no_drawn) (built_at b given [] turns u.drawn s.built k l) h;
      others_kept = λ i e. let z : 0 + i ≡ i = omega arith in agree_at (touched b turns) given u.routes 0 i s.untouched (ap (touched b turns) z ∙ e);
    }

-- the assembly theorem
pub accepted : (b : Board) (allow : Bool) (given : List Route) (grant : ℕ) (turns : List Turn) (u : Progress) → sheet_of b allow turns (blank given grant) ≡ going u → Accepted b allow given turns u
accepted b allow given grant turns u e = read_off b allow given turns u (sound b allow given grant turns u e)
