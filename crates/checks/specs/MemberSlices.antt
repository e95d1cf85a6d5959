-- The members of a bundle as the slices hold them, and what their routes' slots must have. Definitions of inner contracts.
-- Assumes nothing.
use Rattle.std.specs.Prelude.{ℕ, zero, suc, ◌+◌, ◌*◌, ◌-◌, ◌≤◌, ◌<◌, ◌≡◌, ◌⊎◌, List, [], ◌∷◌, Bool, false, cond, ◌&&◌, ltb, get_or, length, Float, Option, Some, None}
use Rattle.std.specs.Float.{binary64}
use Rattle.std.specs.Float.Ieee.{eq, le, add, sub, mul}
use Rattle.limits.specs.Limits.{max_lane, slot_points, slot_numbers}
use Rattle.binary64.specs.Order.{magnitude}
use Rattle.geometry.specs.declared.Point.{Point}
use Rattle.geometry.specs.declared.Role.{Role}
use Rattle.geometry.specs.declared.Segment.{Segment}
use Rattle.geometry.specs.Points.{Route}
use Rattle.route.specs.Slots.{Held, routes_of}
use Rattle.board.specs.declared.Member.{Member}
use Rattle.board.specs.declared.Bundle.{Bundle}
use Rattle.board.specs.declared.Options.{Options}
use Rattle.board.specs.declared.DrawnBundle.{DrawnBundle}
use Rattle.board.specs.Board.{Board, rail_depth, bundle_pitch}
use Rattle.plan.specs.Depths.{number, inward, endpoint_of, members_in}
use Rattle.drawing.specs.Build.{pt, seg, TapOn, Drawn, build, lowest, highest, rail_low, rail_high, all_at}
use Rattle.drawing.specs.Verdict.{Verdict, Clean, Refused}
use Rattle.drawing.specs.Check.{among}
use Rattle.checks.specs.CheckRows.{no_point}
use Rattle.drawing.specs.Rewrite.{rewritten, two_points}

-- count members from place first on
unfoldable pub members_from : List ℕ → List ℕ → ℕ → ℕ → List Member
members_from edges lanes first zero = []
members_from edges lanes first (suc n) = record { edge = get_or edges first 0; tap_lane = get_or lanes first 0 } ∷ members_from edges lanes (suc first) n

-- the corridor depth of a tap lane
unfoldable pub depth_at : Float → Float → ℕ → Float
depth_at offset pitch lane = add binary64 offset (mul binary64 (number (suc lane)) pitch)

-- a route rewritten, at a given corridor depth
unfoldable pub rewrite_with : Bool → Role → Float → Float → Point → Route → Option Route
rewrite_with inside role pitch depth tap r = cond (ltb (length r) 2) None (two_points (rewritten inside role pitch depth tap r))

-- what the slots hold, if all went well
unfoldable pub routes_in : Bool → List Float → List ℕ → Option (List Route)
routes_in done points counts = cond done (Some (routes_of points counts)) None

-- only the count of route e may differ
pub record CountsKept (old new : List ℕ) (e : ℕ) : Type 0 where
  pub hold : Held new
  pub others : (k : ℕ) → (k ≡ e → ⊥) → get_or new k 0 ≡ get_or old k 0

-- count tap lanes from place first on, each at most 255
pub record Laned (first count : ℕ) (lanes : List ℕ) : Type 0 where
  pub members : first + count ≤ length lanes
  pub small : (k : ℕ) → get_or lanes k 0 ≤ max_lane

-- Every route has its slot; those of the members from member i on are there, each once, and have room for two points more.
pub record Roomy (edges : List ℕ) (first i count : ℕ) (points : List Float) (counts : List ℕ) : Type 0 where
  pub slots : slot_numbers * length counts ≤ length points
  pub hold : Held counts
  pub known : (k : ℕ) → i ≤ k → k < count → get_or edges (first + k) 0 < length counts
  pub room : (k : ℕ) → i ≤ k → k < count → get_or counts (get_or edges (first + k) 0) 0 ≤ slot_points - 2
  pub once : (j k : ℕ) → i ≤ j → j < k → k < count → get_or edges (first + j) 0 ≡ get_or edges (first + k) 0 → ⊥

-- ---- taps

-- the taps outside count places from first on are as they were
abbrev pub Untouched : List Point → List Point → ℕ → ℕ → Type 0
Untouched old new first count = (j : ℕ) → (j < first) ⊎ (first + count ≤ j) → get_or new j no_point ≡ get_or old j no_point

-- those inside are p 0, p 1 and so on
abbrev pub Placed : List Point → ℕ → ℕ → (ℕ → Point) → Type 0
Placed taps first count p = (k : ℕ) → k < count → get_or taps (first + k) no_point ≡ p k

-- the tap of a lane on the rail
abbrev pub rail_point : Point → Float → Float → ℕ → Point
rail_point end middle pitch lane = record { x = end.x; y = add binary64 end.y (mul binary64 (sub binary64 (number lane) middle) pitch) }

-- the test inside rewrite_member_routes, at a rail depth and a pitch
abbrev pub interior_at : Float → Float → Segment → Segment → List TapOn → Bool
interior_at depth pitch collector spine ts =
    eq spine.end.x collector.start.x
    && (eq spine.end.x collector.end.x
    && (all_at spine.end.x ts
    && le (add binary64 depth pitch) (magnitude (sub binary64 spine.end.x spine.start.x))))

-- ---- the definitions of crate drawing, with the parts of the board that they read

-- a row of the table of drawn bundles that stands for bundle u
pub record Row (u : Bundle) (d : DrawnBundle) : Type 0 where
  pub id : d.id ≡ u.id
  pub first : d.first ≡ u.first
  pub count : d.count ≡ u.count

-- a row of the table of drawn bundles; drawn-as
unfoldable pub drawn_row : Options → Bundle → Segment → Segment → List TapOn → DrawnBundle
drawn_row o u collector spine ts =
    record {
      id = u.id;
      interior = interior_at (rail_depth o) (bundle_pitch o u) collector spine ts;
      collector = collector;
      spine = spine;
      first = u.first;
      count = u.count;
    }

-- drawn-inside
unfoldable pub inside_with : Options → Bundle → Point → Float → List TapOn → DrawnBundle
inside_with o u end x ts = drawn_row o u (seg (pt x (lowest end.y ts)) (pt x (highest end.y ts))) (seg end (pt x end.y)) ts

-- rail-corner
abbrev pub corner_with : Options → Bundle → Point → Point
corner_with o u end = pt (inward u.role end.x (rail_depth o)) end.y

-- railed, with the taps on the rail
unfoldable pub railed_with : Options → Bundle → Point → List TapOn → DrawnBundle
railed_with o u end ts =
    drawn_row o u
    (seg (pt (corner_with o u end).x (rail_low ts (corner_with o u end).y)) (pt (corner_with o u end).x (rail_high ts (corner_with o u end).y)))
    (seg end (corner_with o u end)) ts

-- what a board has that is asked of it when bundle u is drawn
pub record Seen (b : Board) (o : Options) (u : Bundle) (end : Point) (ms : List Member) : Type 0 where
  pub options : b.options ≡ o
  pub endpoint : endpoint_of b u ≡ end
  pub members : members_in b u ≡ ms

-- d is what build_geometry draws of bundle u on every board that has these options, where u ends there and has these members
abbrev pub Draws : Options → Bundle → Point → List Member → Option Float → List Route → Drawn → Type 0
Draws o u end ms planned rs d = (b : Board) → Seen b o u end ms → d ≡ build b u planned rs

-- ---- masks

abbrev pub Blank : List Bool → Type 0
Blank mask = (k : ℕ) → k < length mask → get_or mask k false ≡ false

-- the members' edges are below n
abbrev pub Known : List ℕ → ℕ → ℕ → ℕ → Type 0
Known edges first count n = (k : ℕ) → k < count → get_or edges (first + k) 0 < n

-- the mask is true at the members' edges, and false elsewhere
abbrev pub Marks : List Member → List Bool → Type 0
Marks ms mask = (k : ℕ) → k < length mask → get_or mask k false ≡ among ms k

-- ---- one check after the other

-- the second check, with the visits that the first has left
unfoldable pub then_walk : Verdict → (ℕ → Verdict) → Verdict
then_walk (Clean p) k = k p.0
then_walk (Refused e p) k = Refused e p
