-- F-7's words about its list, said of any list of crossings: which crossings there are, their order, and that each stands there once. Definitions only.
-- Assumes nothing.
use Rattle.std.specs.Prelude.{ℕ, ◌<◌, ◌≡◌, List, [], ◌∷◌, Bool, true, false, T, length, get_or}
use Rattle.std.specs.Float.Ieee.{lt, eq}
use Rattle.binary64.specs.Accepted.{zero64}
use Rattle.geometry.specs.declared.Point.{Point}
use Rattle.geometry.specs.declared.Segment.{Segment}
use Rattle.geometry.specs.declared.Contact.TheVariants.{StrictCrossing}
use Rattle.geometry.specs.Points.{Route, runs}
use Rattle.geometry.specs.Kind.{kind}
use Rattle.geometry.specs.Crossing.{crossing_place}
use Rattle.sorting.specs.Lists.{In, Every}
use Rattle.drawing.specs.Build.{pt, seg, Drawn, tap_of, route_at, no_drawn}
use Rattle.crossings.specs.List.{Crossing}

-- what stands past the end of a route's runs; nothing is read there
abbrev pub no_run : Segment
no_run = seg (pt zero64 zero64) (pt zero64 zero64)

-- a bundle's segment: its spine, or its collector
abbrev pub segment_of : Drawn → Bool → Segment
segment_of d true = d.spine
segment_of d false = d.collector

-- run k of route e
abbrev pub run_of : List Route → ℕ → ℕ → Segment
run_of rs e k = get_or (runs (route_at rs e)) k no_run

-- a segment of a bundle and a run of a route cross strictly, "as F-6 answers them", and the entry's place is where they do
pub record IsCrossing (ds : List Drawn) (rs : List Route) (c : Crossing) : Type 0 where
  pub bundle_there : c.bundle < length ds
  pub edge_there : c.edge < length rs
  pub run_there : c.run < length (runs (route_at rs c.edge))
  pub strict : kind (segment_of (get_or ds c.bundle no_drawn) c.spine) (run_of rs c.edge c.run).start (run_of rs c.edge c.run).end (tap_of (get_or ds c.bundle no_drawn).taps c.edge) ≡ StrictCrossing
  pub placed : c.place ≡ crossing_place (segment_of (get_or ds c.bundle no_drawn) c.spine) (run_of rs c.edge c.run).start

-- "by y, then x": of the two zeros neither is below the other
pub data Above (p q : Point) : Type 0 where
  by_y : T (lt p.y q.y) → Above p q
  by_x : T (eq p.y q.y) → T (lt p.x q.x) → Above p q

pub record Level (p q : Point) : Type 0 where
  pub y : T (eq p.y q.y)
  pub x : T (eq p.x q.x)

-- "collector before spine"
abbrev pub rank : Bool → ℕ
rank false = 0
rank true = 1

-- "then bundle position, then edge position, then collector before spine, then run"
pub data Sooner (c d : Crossing) : Type 0 where
  by_bundle : c.bundle < d.bundle → Sooner c d
  by_edge : c.bundle ≡ d.bundle → c.edge < d.edge → Sooner c d
  by_segment : c.bundle ≡ d.bundle → c.edge ≡ d.edge → rank c.spine < rank d.spine → Sooner c d
  by_run : c.bundle ≡ d.bundle → c.edge ≡ d.edge → rank c.spine ≡ rank d.spine → c.run < d.run → Sooner c d

-- "order is by y, then x, then bundle position .."
pub data Ahead (c d : Crossing) : Type 0 where
  by_place : Above c.place d.place → Ahead c d
  by_name : Level c.place d.place → Sooner c d → Ahead c d

-- each is ahead of all after it
abbrev pub InOrder : List Crossing → Type 0
InOrder [] = Unit {0}
InOrder (c ∷ l) = Every (Ahead c) l × InOrder l

-- of the same two segments
pub record SamePair (c d : Crossing) : Type 0 where
  pub bundle : c.bundle ≡ d.bundle
  pub edge : c.edge ≡ d.edge
  pub spine : c.spine ≡ d.spine
  pub run : c.run ≡ d.run

-- no two entries are of the same two segments
abbrev pub Once : List Crossing → Type 0
Once [] = Unit {0}
Once (c ∷ l) = Every (λ d. ¬ SamePair c d) l × Once l

-- the list of a sheet with these bundles and routes: "a list of all strict crossings"; "each crossing stands there once and nothing else does"
pub record ListKept (ds : List Drawn) (rs : List Route) (l : List Crossing) : Type 0 where
  pub in_order : InOrder l
  pub each : (c : Crossing) → IsCrossing ds rs c → In c l
  pub once : Once l
  pub nothing_else : Every (IsCrossing ds rs) l
