use Rattle.std.proofs.Common.{arith, refl, sym, ap, ◌∙◌, ◌≡◌, ◌+◌, ◌-◌, length, take, drop}
use Rattle.route.specs.Slots.{routes_of}
use Rattle.plan.proofs.MemberColumns.{edges_long}
use Rattle.checks.specs.MemberSlices.{Row}
use Rattle.bundle_geometry.proofs.Windows.{edges_below, part_size, kept, drawn_is, seen_in}
use Rattle.bundle_geometry.proofs.Built.{with_taps, none_built, inside_built, rail_built, inside_row, railed_row}
use Rattle.bundle_geometry.proofs.build_geometry.Goals as goal

pub trunk_taps-requires-clause-known : goal.trunk_taps-requires-clause-known
trunk_taps-requires-clause-known c =
    let a = c.args in
    edges_below a.table.now a.u.first a.u.count _ (omega (arith, c.requires.tabled.members, edges_long a.table.now)) c.requires.known

pub returns-then-is_some : goal.returns-then-is_some
returns-then-is_some c =
    let a = c.args in
    let f = c.build_inside in
    let g = c.trunk_taps in
    let t = c.requires.tabled in
    let k = a.u.first + a.u.count - a.u.first in
    let ms = take k (drop a.u.first a.table.now) in
    let long : length g.new.taps ≡ length ms = omega (arith, edges_long a.table.now, t.members, t.places, g.auto.taps, part_size a.table.now a.u.first a.u.count (omega (arith, edges_long a.table.now, t.members)), part_size a.taps.now a.u.first a.u.count t.places) in
    let size : length g.new.taps ≡ a.u.count = omega (arith, t.places, g.auto.taps, part_size a.taps.now a.u.first a.u.count t.places) in
    let e = rw (sym c.is_some.ensures ∙ c.if-is_some.true, c.pitch_of_bundle-pitch.ensures) at g.ensures.told in
    let row : Row a.u f.result = rw f.ensures (inside_row a.o a.u a.end _ _) in
    record {
      drawn = λ b s.
          rw c.in-At.is
          (drawn_is a.table.now a.taps.now g.new.taps a.u k refl t size f.result row
          ∙ ap (with_taps ms g.new.taps) f.ensures
          ∙ inside_built ms g.new.taps a.o a.u a.end long b (seen_in a.table.now a.taps.now g.new.taps a.u k refl t size b a.o a.end s) _ (routes_of a.present.points.now a.present.counts.now) e);
      row = row;
      kept = kept a.table.now a.taps.now g.new.taps a.u k refl t size;
    }

pub returns-in-None : goal.returns-in-None
returns-in-None c =
    let a = c.args in
    let f = c.build_rail in
    let t = c.requires.tabled in
    let k = a.u.first + a.u.count - a.u.first in
    let ms = take k (drop a.u.first a.table.now) in
    let long : length f.new.taps ≡ length ms = omega (arith, edges_long a.table.now, t.members, t.places, f.auto.taps, part_size a.table.now a.u.first a.u.count (omega (arith, edges_long a.table.now, t.members)), part_size a.taps.now a.u.first a.u.count t.places) in
    let size : length f.new.taps ≡ a.u.count = omega (arith, t.places, f.auto.taps, part_size a.taps.now a.u.first a.u.count t.places) in
    let row : Row a.u f.result = rw f.ensures.row (railed_row a.o a.u a.end _) in
    record {
      drawn = λ b s.
          rw c.in-None.is
          (drawn_is a.table.now a.taps.now f.new.taps a.u k refl t size f.result row
          ∙ ap (with_taps ms f.new.taps) f.ensures.row
          ∙ none_built ms f.new.taps a.o a.u a.end long b (seen_in a.table.now a.taps.now f.new.taps a.u k refl t size b a.o a.end s) (routes_of a.present.points.now a.present.counts.now) f.ensures.placed);
      row = row;
      kept = kept a.table.now a.taps.now f.new.taps a.u k refl t size;
    }

pub returns-else-is_some : goal.returns-else-is_some
returns-else-is_some c =
    let a = c.args in
    let f = c.build_rail-in-At in
    let g = c.trunk_taps in
    let t = c.requires.tabled in
    let k = a.u.first + a.u.count - a.u.first in
    let ms = take k (drop a.u.first a.table.now) in
    let long : length f.new.taps ≡ length ms = omega (arith, edges_long a.table.now, t.members, t.places, f.auto.taps, g.auto.taps, part_size a.table.now a.u.first a.u.count (omega (arith, edges_long a.table.now, t.members)), part_size a.taps.now a.u.first a.u.count t.places) in
    let size : length f.new.taps ≡ a.u.count = omega (arith, t.places, f.auto.taps, g.auto.taps, part_size a.taps.now a.u.first a.u.count t.places) in
    let e = rw (sym c.is_some.ensures ∙ c.if-is_some.false, c.pitch_of_bundle-pitch.ensures) at g.ensures.told in
    let row : Row a.u f.result = rw f.ensures.row (railed_row a.o a.u a.end _) in
    record {
      drawn = λ b s.
          rw c.in-At.is
          (drawn_is a.table.now a.taps.now f.new.taps a.u k refl t size f.result row
          ∙ ap (with_taps ms f.new.taps) f.ensures.row
          ∙ rail_built ms f.new.taps a.o a.u a.end long b (seen_in a.table.now a.taps.now f.new.taps a.u k refl t size b a.o a.end s) _ (routes_of a.present.points.now a.present.counts.now) _ e f.ensures.placed);
      row = row;
      kept = kept a.table.now a.taps.now f.new.taps a.u k refl t size;
    }
