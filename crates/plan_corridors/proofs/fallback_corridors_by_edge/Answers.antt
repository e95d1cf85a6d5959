-- `plan_corridors::fallback_corridors_by_edge` meets its contract. Assumes nothing.
use mathlib.Core.Path.{◌≡◌, sym, ◌∙◌, ap}
use mathlib.Core.List.{[], ◌∷◌}
use Prim.Native.Nat.{◌+◌, ◌≤◌, ◌<◌}
use native.Mathlib.Omega.{arith}
use lib.ListN.{length, get_or, take, drop, length-append}
use lib.Ieee.{Float, nan}
use Rattle.std.specs.List.{zip}
use Rattle.std.proofs.iter.Yields.{fronts}
use Rattle.std.proofs.lemmas.Iterator.{YieldsList, zips, YieldsList-from_slice, YieldsList-from_zip}
use Rattle.std.proofs.lemmas.Iterator.Consumers.{YieldsList-turn, YieldsList-end}
use Rattle.limits.specs.Limits.{max_bundles}
use Rattle.board.specs.declared.Options.{Options}
use Rattle.board.specs.declared.Bundle.{Bundle}
use Rattle.board.specs.Board.{bundle_pitch, rail_depth}
use Rattle.plan.specs.Depths.{inward, endpoint_of}
use Rattle.plan.specs.declared.Bound.TheVariants.{None}
use Rattle.plan.specs.BoardTables.{no_bundle}
use Rattle.plan.proofs.TableReads as laws
use Rattle.plan_numbers.proofs.Roles.{equal}
use Rattle.plan_corridors.proofs.Among as among
use Rattle.plan_corridors.proofs.Columns.{three_turn, three_length}
use borrow.Author.Rules.{rules}
use Rattle.plan_corridors.proofs.fallback_corridors_by_edge.Goals as goal
use Rattle.plan_corridors.proofs.fallback_corridors_by_edge.Goals.{Start, After-into_iter-u-iterator, In-Some, In-None}

ends_length : (s : Start) → length s.args.ends.rows ≡ max_bundles
ends_length s = search (rules, laws.length_mapped)

offsets_length : (s : Start) → length s.args.offsets.rows ≡ max_bundles
offsets_length s = search (rules, laws.length_mapped)

-- what the two `zip`s give
road : (c : After-into_iter-u-iterator) → YieldsList (zips (zips fronts fronts) fronts) (λ p. ((p.0.0.now, p.0.1.now), p.1.now)) c.into_iter-u-iterator.result (zip (zip c.args.bundles.now c.args.ends.rows) c.args.offsets.rows)
road c =
    let a = c.args in
    let f : c.into_iter-u-iterator.result.a ≡ c.zip.result = cc in
    YieldsList-from_zip (YieldsList-from_zip (YieldsList-from_slice a.bundles.now cc) (YieldsList-from_slice a.ends.rows cc)) (YieldsList-from_slice a.offsets.rows cc)

-- where this turn's bundle, its end and its offset stand
turn : (c : In-Some)
    → (length c.loop-u.yielded < length c.args.bundles.now) × ((d : Bundle) → c.in-Some.u.now ≡ get_or c.args.bundles.now (length c.loop-u.yielded) d)
    × ((d : Float) → c.in-Some.end.now ≡ get_or c.args.ends.rows (length c.loop-u.yielded) d) × ((d : Float) → c.in-Some.offset.now ≡ get_or c.args.offsets.rows (length c.loop-u.yielded) d)
turn c =
    let a = c.args in
    let s = (goal.at.In-Some c).Start in
    let y = YieldsList-turn (road (goal.at.In-Some c).After-into_iter-u-iterator) c.loop-u.yielded c.loop-u.u-iterator c.loop-u.yielded_by c.next.result c.next.new.self ((c.in-Some.u, c.in-Some.end), c.in-Some.offset) c.in-Some.is c.next.ensures.steps in
    three_turn a.bundles.now a.ends.rows a.offsets.rows (omega (arith, ends_length s, c.requires.all_below.0.bundles_few)) (omega (arith, offsets_length s, c.requires.all_below.0.bundles_few)) (length c.loop-u.yielded) ((c.in-Some.u.now, c.in-Some.end.now), c.in-Some.offset.now) y.0 y.1

bundles_left : (c : In-Some) → drop (length c.loop-u.yielded) c.args.bundles.now ≡ c.in-Some.u.now ∷ drop (length c.loop-u.yielded + 1) c.args.bundles.now
bundles_left c =
    let t = turn c in
    let i = length c.loop-u.yielded in
    laws.rest_cons c.args.bundles.now i no_bundle t.0 ∙ ap (λ (z : Bundle). z ∷ drop (i + 1) c.args.bundles.now) (sym (t.1 no_bundle))

offsets_left : (c : In-Some) → drop (length c.loop-u.yielded) (take (length c.args.bundles.now) c.args.offsets.rows) ≡ c.in-Some.offset.now ∷ drop (length c.loop-u.yielded + 1) (take (length c.args.bundles.now) c.args.offsets.rows)
offsets_left c =
    let t = turn c in
    let i = length c.loop-u.yielded in
    let n = length c.args.bundles.now in
    let k : n ≤ length c.args.offsets.rows = omega (arith, offsets_length (goal.at.In-Some c).Start, c.requires.all_below.0.bundles_few) in
    laws.part_cons c.args.offsets.rows n i nan t.0 k ∙ ap (λ (z : Float). z ∷ drop (i + 1) (take n c.args.offsets.rows)) (sym (t.3 nan))

pub add_corridors-requires : goal.add_corridors-requires
add_corridors-requires c =
    let t = turn (goal.at.add_corridors-requires c).In-Some in
    let i = length c.loop-u.yielded in
    rw (t.1 no_bundle) (record { below = (c.requires.all_below.0.each i t.0, c.requires.all_below.1.each i t.0); inside = c.requires.inside i t.0; room = omega arith })

pub loop-u-preserved-then-eq : goal.loop-u-preserved-then-eq
loop-u-preserved-then-eq c b e w n =
    let s = (goal.at.loop-u-preserved-then-eq c).In-Some in
    let t = turn s in
    let a = c.args in
    let l = c.loop-u in
    let i = length l.yielded in
    let u : Bundle = c.in-Some.u.now in
    let rail = c.boundary_bundle_rail_depth-rail in
    let same = c.eq.ensures ∙ equal _ _ in
    let m = rw (sym (t.1 no_bundle)) at (n.members_in i t.0) in
    let x = rw (sym (t.1 no_bundle)) at (n.end_is i t.0) in
    rw (length-append l.yielded (((c.in-Some.u, c.in-Some.end), c.in-Some.offset) ∷ []))
    (among.from_turn b a.role e u c.in-Some.offset.now _ _ _ _ (bundles_left s) (offsets_left s)
    (get_or l.corridors e None) _ (sym same ∙ c.if-eq.true)
    (c.add_corridors.ensures b e w m
    (c.inward-tap.ensures ∙ ap (λ (z : Float). inward u.role z rail.result) (t.2 _ ∙ x) ∙ ap (inward u.role (endpoint_of b u).x) (rail.ensures ∙ ap rail_depth n.options_are))
    (c.pitch_of_bundle-pitch.ensures ∙ ap (λ (z : Options). bundle_pitch z u) n.options_are))
    ∙ l.invariant b e w n)

pub loop-u-preserved : goal.loop-u-preserved
loop-u-preserved c b e w n =
    let s = (goal.at.loop-u-preserved c).In-Some in
    let a = c.args in
    let l = c.loop-u in
    rw (length-append l.yielded (((c.in-Some.u, c.in-Some.end), c.in-Some.offset) ∷ []))
    (among.from_skip b a.role e c.in-Some.u.now c.in-Some.offset.now _ _ _ _ (bundles_left s) (offsets_left s) (get_or l.corridors e None) (sym (c.eq.ensures ∙ equal _ _) ∙ c.if-eq.false)
    ∙ l.invariant b e w n)

pub returns : goal.returns
returns c b e w n =
    let a = c.args in
    let l = c.loop-u in
    let s = (goal.at.In-None c).Start in
    let y = YieldsList-end (road (goal.at.In-None c).After-into_iter-u-iterator) l.yielded l.u-iterator l.yielded_by c.next.result c.next.new.self c.in-None.is c.next.ensures.steps in
    let k = three_length a.bundles.now a.ends.rows a.offsets.rows (omega (arith, ends_length s, c.requires.all_below.0.bundles_few)) (omega (arith, offsets_length s, c.requires.all_below.0.bundles_few)) in
    among.from_end b a.role e _ _ (get_or l.corridors e None) (laws.rest_none a.bundles.now (length l.yielded) (omega (arith, y.1, k)))
    ∙ l.invariant b e w n
