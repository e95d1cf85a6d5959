-- Demand 3 has force: for each of its first three sentences a small sheet that breaks it. The first sheet keeps them all; each other one is that sheet with one fault, and keeps the sentences that it does not break. The last sentence is in RefutedPlaces.antt.
-- Assumes nothing.
use Rattle.std.specs.Prelude.{◌≡◌, refl, ◌⊎◌, true, false, ℕ, zero, suc, ◌≤◌, ◌<◌, pos, negsuc, T, length, Float}
use Rattle.std.proofs.Common.{ap, inl, inr, true≢false, zero-lt-suc, arith}
use mathlib.Core.List.Memᴰ
use mathlib.Core.List.{List, [], ◌∷◌, Memᴰ}
use Rattle.std.specs.Float.{binary64, fin}
use Rattle.std.specs.Float.Ieee.{of_int, lt, le, eq, add, sub, neg, of_bits, round}
use Rattle.std.specs.Float.Ieee.Scale.{finite}
use Rattle.binary64.specs.Order.{near, magnitude}
use Rattle.binary64.specs.Rational.{Fraction, AtMostℚ, value}
use Rattle.binary64.proofs.Fraction.{cross_plus, cross_less, Sameℚ→eq, le→AtMostℚ, AtMostℚ→le, at_most_trans}
use Rattle.geometry.specs.declared.Point.{Point}
use Rattle.geometry.specs.declared.Segment.{Segment}
use Rattle.geometry.specs.declared.Role.TheVariants.{Input}
use Rattle.geometry.specs.declared.Side.TheVariants.{East}
use Rattle.geometry.specs.Points.{Route, runs}
use Rattle.geometry.specs.Contact.{meet}
use Rattle.geometry.specs.Kind.{kind}
use Rattle.geometry.specs.Enters.{passes_inside}
use Rattle.geometry.specs.Spacing.{too_close}
use Rattle.exact.specs.Exact.{nought, unit, Exact, exact, near_exact, HasLength}
use Rattle.exact.proofs.Between.{at_most_refl, Between, rising, falling, across_between}
use Rattle.sorting.specs.Lists.{Every}
use Rattle.board.specs.declared.Bundle.{Bundle}
use Rattle.board.specs.Board.{Board}
use Rattle.plan.specs.Depths.{members_in}
use Rattle.drawing.specs.Build.{seg, pt, TapOn, Drawn, tap_of}
use Rattle.drawing.specs.Check.{over_routes, among, run_tests, clash, drawn_tests, pair_tests, own, node_tests, inside_tests, interior_tests}
use Rattle.drawing.proofs.CleanChecks.{Clear}
use Rattle.drawing.proofs.Assembly.{Apart}
use Rattle.drawing.proofs.Promise.{every_mem}
use Rattle.promise.specs.Demand3.{SegmentOf, its_collector, its_spine, OnBoth, OnlyAtTap, AllFinite, WithRoutes, WithBundles, MembersOut, NoFalseJoint, crossing_bit, Demand3}
use Rattle.job.specs.Job.{read_job, lengths_fit}
use Rattle.answer.proofs.Stores.{answer_length}
use Rattle.promise.proofs.Joints.{finite_of, every_point, with_routes, with_bundles, members_out}

-- ---- small numbers, points and lines

abbrev pub num : ℕ → Float
num n = of_int binary64 (pos n)

abbrev pub at : ℕ → ℕ → Point
at x y = pt (num x) (num y)

abbrev line : ℕ → ℕ → ℕ → ℕ → Segment
line a b c d = seg (at a b) (at c d)

-- n / (d + 1)
abbrev part : ℕ → ℕ → Fraction
part n d = record { numerator = pos n; denominator = suc d; above_zero = zero-lt-suc d }

-- ---- a sheet that keeps the three sentences

-- node 0 at (0, 10) of 10 by 10 and node 1 at (x, 8) of 2 by 4. Edges 0 and 1 are members of the first bundle, from node 0 to node 0; edge 2 is no member. The second bundle has no members
abbrev board : ℕ → Board
board x =
    record {
      options = record { port_stub = num 0; route_lane_gap = num 4; edge_node_clearance = num 0; minimum_parallel_wire_spacing = num 0; member_endpoint_reserve = num 0 };
      nodes = record { id = 0; body = record { corner = at 0 10; width = num 10; height = num 10 } } ∷ record { id = 1; body = record { corner = at x 8; width = num 2; height = num 4 } } ∷ [];
      ports = record { node = 0; id = 0; side = East; offset = num 5 } ∷ [];
      edges = record { id = 0; source = 0; target = 0; first = 0; count = 2 } ∷ record { id = 1; source = 0; target = 0; first = 2; count = 2 } ∷ record { id = 2; source = 0; target = 0; first = 4; count = 2 } ∷ [];
      bundles = record { id = 0; port = 0; role = Input; width = 2; first = 0; count = 2 } ∷ record { id = 1; port = 0; role = Input; width = 0; first = 2; count = 0 } ∷ [];
      members = record { edge = 0; tap_lane = 0 } ∷ record { edge = 1; tap_lane = 1 } ∷ [];
    }

-- the routes of the three edges, the first one given
abbrev with_first : Route → List Route
with_first r = r ∷ (at 20 20 ∷ at 25 20 ∷ []) ∷ (at 0 40 ∷ at 50 40 ∷ []) ∷ []

-- the third one given
abbrev with_third : Route → List Route
with_third r = (at 20 10 ∷ at 25 10 ∷ []) ∷ (at 20 20 ∷ at 25 20 ∷ []) ∷ r ∷ []

abbrev routes : List Route
routes = with_first (at 20 10 ∷ at 25 10 ∷ [])

abbrev first : Drawn
first = record { collector = line 20 10 20 20; spine = line 10 15 20 15; taps = record { edge = 0; place = at 20 10 } ∷ record { edge = 1; place = at 20 20 } ∷ []; interior = true }

-- the second bundle with its spine given
abbrev second : Segment → Drawn
second s = record { collector = line 40 12 40 18; spine = s; taps = []; interior = true }

abbrev drawn : List Drawn
drawn = first ∷ second (line 38 15 40 15) ∷ []

abbrev Fin : Float → Type 0
Fin x = T (finite x)

fine : (s : Segment) → Fin s.start.x → Fin s.start.y → Fin s.end.x → Fin s.end.y → AllFinite routes (first ∷ second s ∷ [])
unfolding of_int
fine s a b c d =
    finite_of Fin Fin (λ x h. h) (λ y h. h) routes (first ∷ second s ∷ [])
    (every_point (λ (p : Point). Fin p.x × Fin p.y) routes (((tt, tt), ((tt, tt), tt)), (((tt, tt), ((tt, tt), tt)), (((tt, tt), ((tt, tt), tt)), tt)))) (
      record { collector_start = (tt, tt); collector_end = (tt, tt); spine_start = (tt, tt); spine_end = (tt, tt); taps = ((tt, tt), ((tt, tt), tt)) },
      (record { collector_start = (tt, tt); collector_end = (tt, tt); spine_start = (a, b); spine_end = (c, d); taps = tt }, tt),
    )

keeps_routes : WithRoutes routes drawn
unfolding of_int of_bits Clear drawn_tests over_routes run_tests runs clash kind meet too_close tap_of near magnitude lt le eq add sub neg
keeps_routes = with_routes (board 60).options routes drawn (fine (line 38 15 40 15) tt tt tt tt) ((refl, (refl, (refl, (refl, (refl, (refl, tt)))))), ((refl, (refl, (refl, (refl, (refl, (refl, tt)))))), tt))

keeps_bundles : WithBundles drawn
unfolding of_int of_bits Clear Apart pair_tests clash kind meet too_close lt le eq add sub neg
keeps_bundles = with_bundles (board 60).options routes drawn (fine (line 38 15 40 15) tt tt tt tt) (((refl, (refl, (refl, (refl, tt)))), tt), (tt, tt))

-- the members of both bundles, with one run each
members_kept : (b : Board) (rs : List Route) → Every (λ (u : Bundle). Clear (interior_tests b (members_in b u) rs)) b.bundles → MembersOut b rs
members_kept b rs h = members_out b rs (λ u m. every_mem (λ (v : Bundle). Clear (interior_tests b (members_in b v) rs)) b.bundles h u m)

keeps_members : MembersOut (board 60) routes
unfolding of_int Clear interior_tests over_routes among inside_tests node_tests own runs passes_inside lt le eq add
keeps_members = members_kept (board 60) routes ((refl, (refl, tt)), (tt, tt))

-- THE SHEET that keeps all three
pub kept : NoFalseJoint (board 60) routes drawn
kept = record { with_routes = keeps_routes; with_bundles = keeps_bundles; members_out = keeps_members }

-- ---- the first sentence: a bundle segment and a run

zero_in : AtMostℚ nought nought
zero_in = at_most_refl nought

within_1 : (n d : ℕ) → n ≤ suc d → AtMostℚ (part n d) unit
within_1 n d h = omega (arith, cross_plus (part n d) unit, cross_less (part n d) unit, cross_plus unit (part n d), cross_less unit (part n d))

from_0 : (n d : ℕ) → AtMostℚ nought (part n d)
from_0 n d = omega (arith, cross_plus (part n d) nought, cross_less (part n d) nought, cross_plus nought (part n d), cross_less nought (part n d))

-- TWO POINTS SHARED: the run from (20, 10) to (20, 10 + 2 ^ -30) lies along the collector. Each of its points is in the same place as the tap, and as an end of the run
abbrev beyond : Float
beyond = fin false 10737418241 (negsuc 29)

abbrev along : List Route
along = with_first (at 20 10 ∷ pt (num 20) beyond ∷ pt (num 25) beyond ∷ [])

pub two_points : (NoFalseJoint (board 60) along drawn → ⊥) × WithBundles drawn × MembersOut (board 60) along
unfolding of_int Clear interior_tests over_routes among inside_tests node_tests own runs passes_inside lt le eq add
two_points = (broken, keeps_bundles, members_kept (board 60) along ((refl, (refl, (refl, tt))), (tt, tt)))
  where
    broken : NoFalseJoint (board 60) along drawn → ⊥
    broken h =
        let run = seg (at 20 10) (pt (num 20) beyond) in
        let long : HasLength run.start run.end = λ e. Sameℚ→eq (num 10) beyond tt tt e.y in
        let o = h.with_routes first (Memᴰ.head refl) first.collector (its_collector refl) 0 run (Memᴰ.head refl) long in
        let low : OnBoth first.collector run (exact run.start) = record {
          on_first = record { t = nought; from_0 = zero_in; to_1 = from_0 1 0; x = refl; y = refl };
          on_second = record { t = nought; from_0 = zero_in; to_1 = from_0 1 0; x = refl; y = refl };
        } in
        let high : OnBoth first.collector run (exact run.end) = record {
          on_first = record { t = part 1 10737418239; from_0 = from_0 1 10737418239; to_1 = within_1 1 10737418239 (omega arith); x = refl; y = refl };
          on_second = record { t = unit; from_0 = from_0 1 0; to_1 = at_most_refl unit; x = refl; y = refl };
        } in
        Sameℚ→eq (num 10) beyond tt tt (o.at_most_one (exact run.start) (exact run.end) low high).y

-- ONE POINT, AND NO TAP of that route: edge 2's route begins on the collector
abbrev untapped : List Route
untapped = with_third (at 20 12 ∷ at 25 12 ∷ [])

-- no tap of the first bundle is edge 2's
not_listed : (t : TapOn) → Memᴰ t first.taps → t.edge ≡ 2 → ⊥
not_listed t m = every_mem (λ (x : TapOn). x.edge ≡ 2 → ⊥) first.taps ((λ e. omega (arith, e)), ((λ e. omega (arith, e)), tt)) t m

pub no_tap : (NoFalseJoint (board 60) untapped drawn → ⊥) × WithBundles drawn × MembersOut (board 60) untapped
unfolding of_int Clear interior_tests over_routes among inside_tests node_tests own runs passes_inside lt le eq add
no_tap = (broken, keeps_bundles, members_kept (board 60) untapped ((refl, (refl, tt)), (tt, tt)))
  where
    broken : NoFalseJoint (board 60) untapped drawn → ⊥
    broken h =
        let run = line 20 12 25 12 in
        let long : HasLength run.start run.end = λ e. Sameℚ→eq (num 20) (num 25) tt tt e.x in
        let o = h.with_routes first (Memᴰ.head refl) first.collector (its_collector refl) 2 run (Memᴰ.head refl) long in
        let k = o.only_there (exact (at 20 12)) (record {
          on_first = record { t = part 1 4; from_0 = from_0 1 4; to_1 = within_1 1 4 (omega arith); x = refl; y = refl };
          on_second = record { t = nought; from_0 = zero_in; to_1 = from_0 1 0; x = refl; y = refl };
        }) in
        not_listed k.tap k.listed k.of_route

-- ONE POINT, AT ANOTHER ROUTE'S TAP: edge 2's route begins at the tap of edge 0's
abbrev at_anothers : List Route
at_anothers = with_third (at 20 10 ∷ at 20 5 ∷ [])

pub anothers_tap : (NoFalseJoint (board 60) at_anothers drawn → ⊥) × WithBundles drawn × MembersOut (board 60) at_anothers
unfolding of_int Clear interior_tests over_routes among inside_tests node_tests own runs passes_inside lt le eq add
anothers_tap = (broken, keeps_bundles, members_kept (board 60) at_anothers ((refl, (refl, tt)), (tt, tt)))
  where
    broken : NoFalseJoint (board 60) at_anothers drawn → ⊥
    broken h =
        let run = line 20 10 20 5 in
        let long : HasLength run.start run.end = λ e. Sameℚ→eq (num 10) (num 5) tt tt e.y in
        let o = h.with_routes first (Memᴰ.head refl) first.collector (its_collector refl) 2 run (Memᴰ.head refl) long in
        let k = o.only_there (exact (at 20 10)) (record {
          on_first = record { t = nought; from_0 = zero_in; to_1 = from_0 1 0; x = refl; y = refl };
          on_second = record { t = nought; from_0 = zero_in; to_1 = from_0 1 0; x = refl; y = refl };
        }) in
        not_listed k.tap k.listed k.of_route

-- ONE POINT, THE TAP, BUT NO END of the run: edge 0's route passes through its tap
abbrev through_tap : List Route
through_tap = with_first (at 15 10 ∷ at 25 10 ∷ [])

pub no_end : (NoFalseJoint (board 60) through_tap drawn → ⊥) × WithBundles drawn × MembersOut (board 60) through_tap
unfolding of_int of_bits Clear interior_tests over_routes among inside_tests node_tests own runs passes_inside near_exact magnitude round lt le eq add
no_end = (broken, keeps_bundles, members_kept (board 60) through_tap ((refl, (refl, tt)), (tt, tt)))
  where
    broken : NoFalseJoint (board 60) through_tap drawn → ⊥
    broken h =
        let run = line 15 10 25 10 in
        let long : HasLength run.start run.end = λ e. Sameℚ→eq (num 15) (num 25) tt tt e.x in
        let o = h.with_routes first (Memᴰ.head refl) first.collector (its_collector refl) 0 run (Memᴰ.head refl) long in
        let k = o.only_there (exact (at 20 10)) (record {
          on_first = record { t = nought; from_0 = zero_in; to_1 = from_0 1 0; x = refl; y = refl };
          on_second = record { t = part 1 1; from_0 = from_0 1 1; to_1 = within_1 1 1 (omega arith); x = refl; y = refl };
        }) in
        elim k.at_end [ inl u ↦ u | inr u ↦ u ]

-- ---- the second sentence: two bundles

-- the second bundle's spine crosses the first one's collector
abbrev crossed : List Drawn
crossed = first ∷ second (line 15 12 40 12) ∷ []

pub two_bundles : (NoFalseJoint (board 60) routes crossed → ⊥) × WithRoutes routes crossed × MembersOut (board 60) routes
unfolding of_int of_bits Clear drawn_tests over_routes run_tests runs clash kind meet too_close tap_of near magnitude lt le eq add sub neg
two_bundles = (
  broken,
  with_routes (board 60).options routes crossed (fine (line 15 12 40 12) tt tt tt tt) ((refl, (refl, (refl, (refl, (refl, (refl, tt)))))), ((refl, (refl, (refl, (refl, (refl, (refl, tt)))))), tt)),
  keeps_members,
)
  where
    broken : NoFalseJoint (board 60) routes crossed → ⊥
    broken h =
        let long : HasLength (at 20 10) (at 20 20) = λ e. Sameℚ→eq (num 10) (num 20) tt tt e.y in
        h.with_bundles 0 1 (omega arith) (omega arith) (line 20 10 20 20) (line 15 12 40 12) (its_collector refl) (its_spine refl) long (exact (at 20 12)) (record {
          on_first = record { t = part 1 4; from_0 = from_0 1 4; to_1 = within_1 1 4 (omega arith); x = refl; y = refl };
          on_second = record { t = part 1 4; from_0 = from_0 1 4; to_1 = within_1 1 4 (omega arith); x = refl; y = refl };
        })

-- ---- the third sentence: member routes and nodes

-- A MEMBER ROUTE ENTERS A FOREIGN NODE: node 1 stands in the way of edge 0's route
pub node_entered : (NoFalseJoint (board 22) routes drawn → ⊥) × WithRoutes routes drawn × WithBundles drawn
unfolding of_int runs passes_inside lt le eq add
node_entered = (broken, keeps_routes, keeps_bundles)
  where
    broken : NoFalseJoint (board 22) routes drawn → ⊥
    broken h =
        let o = h.members_out _ (Memᴰ.head refl) _ (Memᴰ.head refl) (line 20 10 25 10) (Memᴰ.head refl) in
        true≢false (o.foreign 1 (omega arith) (λ e. omega (arith, e)) (λ e. omega (arith, e)))

-- A MEMBER ROUTE IS SLANTED: edge 0's route goes on to (28, 11)
abbrev slanting : List Route
slanting = with_first (at 20 10 ∷ at 25 10 ∷ at 28 11 ∷ [])

-- x from a low one on, and up to a high one
from_x : (c : Fraction) (a p b : Fraction) → AtMostℚ c a → AtMostℚ c b → Between a p b → AtMostℚ c p
from_x c a p b h k (rising l m) = at_most_trans c a p h l
from_x c a p b h k (falling l m) = at_most_trans c b p k l

up_to_x : (c : Fraction) (a p b : Fraction) → AtMostℚ a c → AtMostℚ b c → Between a p b → AtMostℚ p c
up_to_x c a p b h k (rising l m) = at_most_trans p b c m k
up_to_x c a p b h k (falling l m) = at_most_trans p a c m h

-- a segment whose x are at most 20, or at least 38
pub record Aside (s : Segment) : Type 0 where
  pub start : T (finite s.start.x)
  pub end : T (finite s.end.x)
  pub side : (T (le s.start.x (num 20)) × T (le s.end.x (num 20))) ⊎ (T (le (num 38) s.start.x) × T (le (num 38) s.end.x))

-- shares no point with the run from (25, 10) to (28, 11)
beside : (s : Segment) (p : Exact) → Aside s → OnBoth s (line 25 10 28 11) p → ⊥
unfolding of_int le
beside s p h on = elim h.side [
  | inl k ↦ AtMostℚ→le (num 25) (num 20) tt tt
      (at_most_trans (value (num 25)) p.x (value (num 20)) (from_x (value (num 25)) (value (num 25)) p.x (value (num 28)) (at_most_refl (value (num 25))) (le→AtMostℚ (num 25) (num 28) tt tt tt) (across_between on.on_second))
      (up_to_x (value (num 20)) (value s.start.x) p.x (value s.end.x) (le→AtMostℚ s.start.x (num 20) h.start tt k.0) (le→AtMostℚ s.end.x (num 20) h.end tt k.1) (across_between on.on_first)))
  | inr k ↦ AtMostℚ→le (num 38) (num 28) tt tt
      (at_most_trans (value (num 38)) p.x (value (num 28)) (from_x (value (num 38)) (value s.start.x) p.x (value s.end.x) (le→AtMostℚ (num 38) s.start.x tt h.start k.0) (le→AtMostℚ (num 38) s.end.x tt h.end k.1) (across_between on.on_first))
      (up_to_x (value (num 28)) (value (num 25)) p.x (value (num 28)) (le→AtMostℚ (num 25) (num 28) tt tt tt) (at_most_refl (value (num 28))) (across_between on.on_second)))
]

aside : (d : Drawn) → Memᴰ d drawn → (s : Segment) → SegmentOf d s → Aside s
unfolding of_int le
aside d m s part = go (every_mem (λ (x : Drawn). Aside x.collector × Aside x.spine) drawn ((record { start = tt; end = tt; side = inl (tt, tt) }, record { start = tt; end = tt; side = inl (tt, tt) }), ((record { start = tt; end = tt; side = inr (tt, tt) }, record { start = tt; end = tt; side = inr (tt, tt) }), tt)) d m) part
  where
    go : Aside d.collector × Aside d.spine → SegmentOf d s → Aside s
    go h (its_collector e) = rw e h.0
    go h (its_spine e) = rw e h.1

keeps_slanting : WithRoutes slanting drawn
unfolding runs
keeps_slanting d m s part zero run n l = elim (Memᴰ.cases_cons n) [
  | inl e ↦ keeps_routes d m s part 0 run (Memᴰ.head e) l
  | inr k ↦ elim (Memᴰ.cases_cons k) [ inl e ↦ none e | inr z ↦ absurd (Memᴰ.not-nil z) ]
]
  where
    none : run ≡ line 25 10 28 11 → OnlyAtTap d 0 s run
    none e = rw e (record { at_most_one = λ p q h k. absurd (beside s p (aside d m s part) h); only_there = λ p h. absurd (beside s p (aside d m s part) h) })
keeps_slanting d m s part (suc i) run n l = keeps_routes d m s part (suc i) run n l

pub slanted_member : (NoFalseJoint (board 60) slanting drawn → ⊥) × WithRoutes slanting drawn × WithBundles drawn
unfolding of_int runs eq
slanted_member = (broken, keeps_slanting, keeps_bundles)
  where
    broken : NoFalseJoint (board 60) slanting drawn → ⊥
    broken h = true≢false (h.members_out _ (Memᴰ.head refl) _ (Memᴰ.head refl) (line 25 10 28 11) (Memᴰ.tail (Memᴰ.head refl))).straight

-- ---- the statement: bytes that are no answer to the job

-- MORE THAN A NOTICE FOR A JOB THAT IS REFUSED, whatever the bytes: no bytes at all are no job
pub refused_answered : (answer : List ℕ) → 6 < length answer → Demand3 [] answer → ⊥
unfolding read_job lengths_fit
refused_answered answer long h =
    let e = (h long refl).comes.is_read in
    let z : ◌≡◌ {A = ℕ} 0 1 = cc in
    omega arith

-- BYTES THAT ARE NO ANSWER, for every job without crossings: the shortest answer has 36
pub short_answer : (bytes answer : List ℕ) → crossing_bit bytes ≡ 0 → 6 < length answer → length answer < 36 → Demand3 bytes answer → ⊥
short_answer bytes answer clear long few h =
    let k = h long clear in
    omega (arith, ap length k.is_written, answer_length k.sheet)
