-- What the plan asks of the numbers of a board, and the operations on small numbers.
-- Assumes nothing.
use Rattle.std.specs.Prelude.{List, [], ◌∷◌, ℕ, zero, suc, ◌+◌, ◌≤◌, ◌<◌, length, take, drop, T, Float}
use Rattle.std.proofs.Common.{lt_of_le_of_lt, arith, lit<}
use Rattle.std.specs.Float.{binary64}
use Rattle.std.specs.Float.Ieee.{lt, fits}
use Rattle.std.specs.Float.Ieee.Fits.{add-fits, sub-fits}
use Rattle.limits.specs.Limits.{max_bundles, max_lane}
use Rattle.binary64.specs.Bools.{either}
use Rattle.binary64.specs.Order.{least, greatest}
use Rattle.binary64.specs.Range.{Within, of_int_bounded, held_small, within_mono, add_within, sub_within, bounded_mono}
use Rattle.binary64.specs.Accepted.{zero64}
use Rattle.geometry.specs.declared.Point.{Point}
use Rattle.board.specs.declared.PlacedNode.{PlacedNode}
use Rattle.board.specs.declared.Port.{Port}
use Rattle.board.specs.declared.Member.{Member}
use Rattle.geometry.specs.Points.{Route}
use Rattle.board.specs.Board.{Board}
use Rattle.plan.specs.declared.Bound.{Bound}
use Rattle.plan.specs.declared.Bound.TheVariants as bounded
use Rattle.sorting.specs.Lists.{Every}
use Rattle.search.specs.Good.{Real}
use Rattle.plan.specs.Depths.{◌⊕◌, ◌⊖◌, number, lane_count}
use Rattle.plan.specs.Bounds.{raised, lowered}

-- a number of the format of magnitude at most 2 ^ k
abbrev pub Small : ℕ → Float → Type 0
Small k x = Within k x × T (fits binary64 x)

abbrev pub SmallBound : ℕ → Bound → Type 0
SmallBound k bounded.None = Unit {0}
SmallBound k (bounded.At x) = Small k x

-- the limits of the job
pub record Numbers (b : Board) (routes : List Route) : Type 0 where
  pub stub : Small 20 b.options.port_stub
  pub gap : Small 20 b.options.route_lane_gap
  pub clearance : Small 20 b.options.edge_node_clearance
  pub spacing : Small 20 b.options.minimum_parallel_wire_spacing
  pub reserve : Small 20 b.options.member_endpoint_reserve
  pub nodes : Every (λ (n : PlacedNode). Small 30 n.body.corner.x × Small 30 n.body.width) b.nodes
  pub ports : Every (λ (p : Port). Small 30 p.offset) b.ports
  pub lanes : Every (λ (m : Member). m.tap_lane ≤ max_lane) b.members
  pub few : length b.bundles ≤ max_bundles
  pub points : Every (Every (λ (p : Point). Small 30 p.x)) routes

-- ---- the operations
pub small_real : (k : ℕ) (x : Float) → Small k x → Real x
small_real k x s = (s.0.is_finite, s.1)

pub wider : (j k : ℕ) (x : Float) → j ≤ k → Small j x → Small k x
wider j k x h s = (within_mono j k x h s.0, s.1)

pub add_small : (j k m : ℕ) (x y : Float) → m < 1023 → j ≤ m → k ≤ m → Small j x → Small k y → Small (suc m) (x ⊕ y)
add_small j k m x y h p q s t = (add_within m x y h (within_mono j m x p s.0) (within_mono k m y q t.0), add-fits binary64 x y)

pub sub_small : (j k m : ℕ) (x y : Float) → m < 1023 → j ≤ m → k ≤ m → Small j x → Small k y → Small (suc m) (x ⊖ y)
sub_small j k m x y h p q s t = (sub_within m x y h (within_mono j m x p s.0) (within_mono k m y q t.0), sub-fits binary64 x y)

pub least_small : (k : ℕ) (x y : Float) → Small k x → Small k y → Small k (least x y)
least_small k x y s t = either (lt y x) y x (Small k) t s

pub greatest_small : (k : ℕ) (x y : Float) → Small k x → Small k y → Small k (greatest x y)
greatest_small k x y s t = either (lt x y) y x (Small k) t s

pub zero_small : (k : ℕ) → Small k zero64
unfolding fits
zero_small k = (record { is_finite = tt; size = omega arith }, tt)

pub number_small : (n : ℕ) → n ≤ 256 → Within 8 (number n)
number_small n h = bounded_mono n 256 (number n) h (of_int_bounded n (held_small n (lt_of_le_of_lt h (lit< tt))))

pub every_take : {A : Type 0} (P : A → Type 0) (n : ℕ) (l : List A) → Every P l → Every P (take n l)
every_take P zero l e = tt
every_take P (suc n) [] e = tt
every_take P (suc n) (x ∷ l) e = (e.0, every_take P n l e.1)

pub every_drop : {A : Type 0} (P : A → Type 0) (n : ℕ) (l : List A) → Every P l → Every P (drop n l)
every_drop P zero l e = e
every_drop P (suc n) [] e = tt
every_drop P (suc n) (x ∷ l) e = every_drop P n l e.1

pub lane_count_small : (ms : List Member) → Every (λ (m : Member). m.tap_lane ≤ max_lane) ms → lane_count ms ≤ max_lane + 1
unfolding lane_count
lane_count_small [] e = omega arith
lane_count_small (m ∷ []) e = omega (arith, e.0)
lane_count_small (m ∷ n ∷ ms) e = lane_count_small (n ∷ ms) e.1

pub raised_small : (k : ℕ) (x : Float) (o : Bound) → Small k x → SmallBound k o → Small k (raised x o)
raised_small k x bounded.None s t = s
raised_small k x (bounded.At y) s t = greatest_small k x y s t

pub lowered_small : (k : ℕ) (x : Float) (o : Bound) → Small k x → SmallBound k o → Small k (lowered x o)
lowered_small k x bounded.None s t = s
lowered_small k x (bounded.At y) s t = least_small k x y s t
