-- A bundle drawn from its parts is the one that the definitions draw.
-- Assumes nothing.
use Rattle.std.specs.Prelude.{◌≡◌, refl, List, map, true, false, length, Option, Some, None, Float}
use Rattle.std.proofs.Common.{sym, ap, ◌∙◌}
use Rattle.geometry.specs.declared.Point.{Point}
use Rattle.geometry.specs.declared.Segment.{Segment}
use Rattle.geometry.specs.Points.{Route}
use Rattle.board.specs.declared.Options.{Options}
use Rattle.board.specs.declared.Bundle.{Bundle}
use Rattle.board.specs.declared.Member.{Member}
use Rattle.board.specs.declared.DrawnBundle.{DrawnBundle}
use Rattle.board.specs.Board.{Board, rail_depth, bundle_pitch}
use Rattle.plan.specs.Depths.{endpoint_of, members_in, pitch_of}
use Rattle.drawing.specs.Build.{pt, seg, TapOn, Drawn, trunk_taps, lowest, highest, center, rail_taps, rail_low, rail_high, counts_interior, drawn_as, drawn_inside, rail_corner, railed, inside_or, build}
use Rattle.checks.specs.LentRows.{taps_in, taps_of, tapped_in, rail_place}
use Rattle.checks.specs.MemberSlices.{interior_at, drawn_row, inside_with, corner_with, railed_with, Row, Seen}
use Rattle.bundle_geometry.proofs.Taps.{bare_of, lowest_any, highest_any, all_any, rail_low_any, rail_high_any, rail_listed}

abbrev drawn_by : Options → Bundle → Segment → Segment → List TapOn → Drawn
drawn_by o u collector spine ts = record { collector = collector; spine = spine; taps = ts; interior = interior_at (rail_depth o) (bundle_pitch o u) collector spine ts }

unfoldable inside_by : Options → Bundle → Point → Float → List TapOn → Drawn
inside_by o u end x ts = drawn_by o u (seg (pt x (lowest end.y ts)) (pt x (highest end.y ts))) (seg end (pt x end.y)) ts

unfoldable railed_by : Options → Bundle → Point → List TapOn → Drawn
railed_by o u end ts =
    drawn_by o u
    (seg (pt (corner_with o u end).x (rail_low ts (corner_with o u end).y)) (pt (corner_with o u end).x (rail_high ts (corner_with o u end).y)))
    (seg end (corner_with o u end)) ts

abbrev taps_by : Options → Bundle → Point → List Member → List TapOn
taps_by o u end ms = rail_taps (corner_with o u end) (center ms) (bundle_pitch o u) ms

inside_of : (b : Board) (u : Bundle) (x : Float) (ts : List TapOn) → drawn_inside b u x ts ≡ inside_by b.options u (endpoint_of b u) x ts
unfolding drawn_inside drawn_as counts_interior inside_by
inside_of b u x ts = refl

railed_of : (b : Board) (u : Bundle) → railed b u ≡ railed_by b.options u (endpoint_of b u) (taps_by b.options u (endpoint_of b u) (members_in b u))
unfolding railed rail_corner drawn_as counts_interior railed_by
railed_of b u = refl

-- ---- the row of a bundle stands for it

pub inside_row : (o : Options) (u : Bundle) (end : Point) (x : Float) (ts : List TapOn) → Row u (inside_with o u end x ts)
unfolding inside_with drawn_row
inside_row o u end x ts = record { id = refl; first = refl; count = refl }

pub railed_row : (o : Options) (u : Bundle) (end : Point) (ts : List TapOn) → Row u (railed_with o u end ts)
unfolding railed_with drawn_row
railed_row o u end ts = record { id = refl; first = refl; count = refl }

-- the bundle that a row stands for, with its members and their taps
abbrev pub with_taps : List Member → List Point → DrawnBundle → Drawn
with_taps ms t d = record { collector = d.collector; spine = d.spine; taps = taps_of ms t; interior = d.interior }

module _ (ms : List Member) (t : List Point) (o : Options) (u : Bundle) (end : Point) (long : length t ≡ length ms) where
  abbrev listed : List TapOn
  listed = taps_of ms t

  row_inside : (x : Float) → with_taps ms t (inside_with o u end x (taps_in t)) ≡ inside_by o u end x listed
  unfolding inside_with drawn_row inside_by
  row_inside x = rw (bare_of ms t long, lowest_any end.y listed, highest_any end.y listed, all_any x listed)

  row_rail : with_taps ms t (railed_with o u end (taps_in t)) ≡ railed_by o u end listed
  unfolding railed_with drawn_row railed_by
  row_rail =
      rw (
        bare_of ms t long,
        rail_low_any (corner_with o u end).y listed,
        rail_high_any (corner_with o u end).y listed,
        all_any (corner_with o u end).x listed,
      )

  abbrev pub OnRail : Type 0
  OnRail = t ≡ map (rail_place (corner_with o u end) (center ms) (bundle_pitch o u)) ms

  listed_rail : OnRail → listed ≡ taps_by o u end ms
  listed_rail p = ap (taps_of ms) p ∙ rail_listed (corner_with o u end) (center ms) (bundle_pitch o u) ms

  module _ (b : Board) (s : Seen b o u end ms) where
    railed_seen : OnRail → with_taps ms t (railed_with o u end (taps_in t)) ≡ railed b u
    railed_seen p =
        row_rail
        ∙ ap (railed_by o u end) (listed_rail p)
        ∙ sym (
        railed_of b u
        ∙ ap (λ (q : Options). railed_by q u (endpoint_of b u) (taps_by q u (endpoint_of b u) (members_in b u))) s.options
        ∙ ap (λ (q : Point). railed_by o u q (taps_by o u q (members_in b u))) s.endpoint
        ∙ ap (λ (q : List Member). railed_by o u end (taps_by o u end q)) s.members
        )

    inside_seen : (x : Float) → with_taps ms t (inside_with o u end x (taps_in t)) ≡ drawn_inside b u x listed
    inside_seen x =
        row_inside x
        ∙ sym (
        inside_of b u x listed
        ∙ ap (λ (q : Options). inside_by q u (endpoint_of b u) x listed) s.options
        ∙ ap (λ (q : Point). inside_by o u q x listed) s.endpoint
        )

    trunk_seen : (x : Float) (rs : List Route) → trunk_taps u.role (pitch_of b u) x (members_in b u) rs ≡ trunk_taps u.role (bundle_pitch o u) x ms rs
    trunk_seen x rs =
        ap (λ (q : Options). trunk_taps u.role (bundle_pitch q u) x (members_in b u) rs) s.options
        ∙ ap (λ (q : List Member). trunk_taps u.role (bundle_pitch o u) x q rs) s.members

    pub none_built : (rs : List Route) → OnRail → with_taps ms t (railed_with o u end (taps_in t)) ≡ build b u None rs
    unfolding build
    none_built rs p = railed_seen p

    pub inside_built : (x : Float) (rs : List Route) → tapped_in true ms t ≡ trunk_taps u.role (bundle_pitch o u) x ms rs → with_taps ms t (inside_with o u end x (taps_in t)) ≡ build b u (Some x) rs
    unfolding build inside_or tapped_in
    inside_built x rs e = inside_seen x ∙ ap (λ (q : Option (List TapOn)). inside_or q b u x) (e ∙ sym (trunk_seen x rs))

    pub rail_built : (x : Float) (rs : List Route) (old : List Point) → tapped_in false ms old ≡ trunk_taps u.role (bundle_pitch o u) x ms rs → OnRail → with_taps ms t (railed_with o u end (taps_in t)) ≡ build b u (Some x) rs
    unfolding build inside_or tapped_in
    rail_built x rs old e p = railed_seen p ∙ ap (λ (q : Option (List TapOn)). inside_or q b u x) (e ∙ sym (trunk_seen x rs))
