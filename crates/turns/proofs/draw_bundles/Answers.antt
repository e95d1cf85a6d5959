use Rattle.std.proofs.Common.{arith, refl, sym, ap, ◌∙◌, subst, ◌≡◌, ℕ, ◌<◌, ◌+◌, List, [], ◌∷◌, get_or, length, take, drop, map}
use Rattle.std.specs.Float.{nan}
use Rattle.route.specs.Slots.{routes_of}
use Rattle.board.specs.declared.Bundle.{Bundle}
use Rattle.board.specs.declared.DrawnBundle.{DrawnBundle}
use Rattle.plan.specs.BoardTables.{no_bundle}
use Rattle.plan.specs.Lent.{board_lent}
use Rattle.plan.specs.Prepared.{no_planned}
use Rattle.plan.proofs.TableReads.{rest_cons}
use Rattle.plan.specs.MemberColumns.{edges_of, lanes_of}
use Rattle.plan.proofs.MemberColumns.{edges_long}
use Rattle.drawing.specs.Sheet.{Turn, sheet_of}
use Rattle.checks.specs.CheckRows.{drawn_of}
use Rattle.checks.specs.MemberSlices.{Row}
use Rattle.turns.specs.TurnTables.{turn_of, standing}
use Rattle.turns.proofs.Entering.{stands, members_are}
use Rattle.turns.proofs.Resting.{Rest, rest_start, rest_ready, rest_next, faces, longer_clean, turns_at, turns_next, turns_end, sheet_on, sheet_off, sheet_end, drawn_more, rows_next, rows_none, full_off, full_on}
use Rattle.turns.proofs.draw_bundles.Goals as goal
use Rattle.turns.proofs.draw_bundles.Goals.{Start}

-- the bundle of turn i, and the turns from it on
module _ (s : Start) (i : ℕ) (h : i < length s.args.turns.board.bundles.now) where
  abbrev this : Bundle
  this = get_or s.args.turns.board.bundles.now i no_bundle

  abbrev later : List Bundle
  later = drop (i + 1) s.args.turns.board.bundles.now

  split : (ds : List DrawnBundle) (edges lanes counts : List ℕ) → Rest (drop i s.args.turns.board.bundles.now) ds edges lanes counts → Rest (this ∷ later) ds edges lanes counts
  split ds edges lanes counts r = subst (λ (us : List Bundle). Rest us ds edges lanes counts) (rest_cons s.args.turns.board.bundles.now i no_bundle h) r

  abbrev turn_here : Turn
  turn_here = turn_of this (get_or s.args.turns.plan.now i no_planned).x (get_or s.args.turns.offsets.now i nan)

  abbrev turns_later : List Turn
  turns_later = turns_at s.args.turns.board.bundles.now s.args.turns.plan.now s.args.turns.offsets.now (i + 1)

  turns_are : turns_at s.args.turns.board.bundles.now s.args.turns.plan.now s.args.turns.offsets.now i ≡ turn_here ∷ turns_later
  turns_are =
      turns_next s.args.turns.board.bundles.now s.args.turns.plan.now s.args.turns.offsets.now i no_bundle no_planned nan h s.args.turns.plan_long s.args.turns.offsets_long

pub loop-i-init : goal.loop-i-init
loop-i-init c =
    let a = c.args in
    let d = c.new-drawn.result in
    let e = c.new-drawn.ensures in
    let z = ap (λ (ds : List DrawnBundle). length ds) e in
    record {
      drawn_to = z;
      rest = subst (λ (ds : List DrawnBundle). Rest a.turns.board.bundles.now ds (edges_of a.turns.board.members.now) (lanes_of a.turns.board.members.now) a.counts.now) (sym e) (rest_start a.turns.board.bundles.now (edges_of a.turns.board.members.now) (lanes_of a.turns.board.members.now) a.counts.now _ c.requires.lists c.requires.room.1);
      rows = rw e (rows_none a.turns.board.bundles.now [] 0 refl);
      told = ap (λ (ds : List DrawnBundle). sheet_of (board_lent a.turns.board) a.turns.permits_crossings (turns_at a.turns.board.bundles.now a.turns.plan.now a.turns.offsets.now 0) (standing (routes_of a.points.now a.counts.now) (map (drawn_of (edges_of a.turns.board.members.now) a.taps.now) ds) a.visits.now.0)) e;
      masked = c.requires.room.0.masked;
    }

pub draw_bundle-requires : goal.draw_bundle-requires
draw_bundle-requires c =
    let a = c.args in
    let l = c.loop-i in
    let h = c.loop-i-test.true in
    let s = (goal.at.draw_bundle-requires c).Start in
    let most = c.requires.edges in
    let m = c.requires.room.0 in
    let places = m.places in
    let long = edges_long a.turns.board.members.now in
    let slots = m.slots in
    let masked = l.invariant.masked in
    let lt = l.auto.taps in
    let lp = l.auto.points in
    let lc = l.auto.counts in (
      omega (arith, most, lc),
      rest_ready (this s l.i h) (later s l.i h) l.drawn.items (edges_of a.turns.board.members.now) (lanes_of a.turns.board.members.now) l.counts (split s l.i h l.drawn.items (edges_of a.turns.board.members.now) (lanes_of a.turns.board.members.now) l.counts l.invariant.rest) c.as_slice.result.now _ _ _ a.turns.board.bundles.now _ c.as_slice.ensures.value lc c.requires.lists (omega (arith, lt, places, long)) (omega (arith, lp, lc, slots)) (omega (arith, lc, masked)),
    )

pub returns-in-Err-clause-told : goal.returns-in-Err-clause-told
returns-in-Err-clause-told c =
    let b = board_lent c.args.turns.board in
    let a = c.args in
    let l = c.loop-i in
    let h = c.loop-i-test.true in
    let at = (goal.at.returns-in-Err-clause-told c).Start in
    let ds = l.drawn.items in
    let now = standing (routes_of l.points l.counts) (map (drawn_of (edges_of a.turns.board.members.now) l.taps) ds) l.visits.0 in
    let r = split at l.i h ds (edges_of a.turns.board.members.now) (lanes_of a.turns.board.members.now) l.counts l.invariant.rest in
    sheet_off b a.turns.permits_crossings (turn_here at l.i h) (turns_later at l.i h) now c.draw_bundle.new.visits _ _ _ _ _
    (rw c.as_slice.ensures.value at c.in-Err.ensures.told b (faces (this at l.i h) (later at l.i h) ds (edges_of a.turns.board.members.now) (lanes_of a.turns.board.members.now) l.counts r a.turns.board _ (members_are a.turns.board.members.now) (stands a.turns.board l.i _ h c.endpoint_of.ensures)))
    ∙ ap (λ (ts : List Turn). sheet_of b a.turns.permits_crossings ts now) (sym (turns_are at l.i h))
    ∙ l.invariant.told

pub returns-in-Err-clause-full : goal.returns-in-Err-clause-full
returns-in-Err-clause-full c =
    let count = c.loop-i.invariant.drawn_to in
    let h = c.loop-i-test.true in
    full_off _ _ (length c.loop-i.drawn.items) (length c.args.turns.board.bundles.now) (omega (arith, count, h))

pub loop-i-preserved : goal.loop-i-preserved
loop-i-preserved c =
    let a = c.args in
    let l = c.loop-i in
    let h = c.loop-i-test.true in
    let at = (goal.at.loop-i-preserved c).Start in
    let f = c.draw_bundle in
    let d = c.in-Ok.row in
    let ds = l.drawn.items in
    let now = standing (routes_of l.points l.counts) (map (drawn_of (edges_of a.turns.board.members.now) l.taps) ds) l.visits.0 in
    let r = split at l.i h ds (edges_of a.turns.board.members.now) (lanes_of a.turns.board.members.now) l.counts l.invariant.rest in
    let count = l.invariant.drawn_to in
    let few = a.turns.board.sound.bundles_few in
    let w = c.push.new.self in
    let b = board_lent a.turns.board in
    let more = c.push.ensures.items in
    record {
      drawn_to = c.push.ensures.len ∙ ap (λ (k : ℕ). k + 1) count;
      rest = rest_next (this at l.i h) (later at l.i h) ds (edges_of a.turns.board.members.now) (lanes_of a.turns.board.members.now) l.counts r d _ _ more c.in-Ok.ensures.row c.in-Ok.ensures.hold (longer_clean _ l.counts _ _ c.in-Ok.ensures.longer);
      rows = rows_next l.drawn w d more a.turns.board.bundles.now no_bundle (omega (arith, count, h, few)) c.push.ensures.len (subst (λ (i : ℕ). Row (get_or a.turns.board.bundles.now i no_bundle) d) (sym count) c.in-Ok.ensures.row) l.invariant.rows;
      told =
          sheet_on b a.turns.permits_crossings (turn_here at l.i h) (turns_later at l.i h) now f.new.visits _ _ _ (drawn_more l.drawn w d more (edges_of a.turns.board.members.now) _)
          (rw c.as_slice.ensures.value at c.in-Ok.ensures.told b (faces (this at l.i h) (later at l.i h) ds (edges_of a.turns.board.members.now) (lanes_of a.turns.board.members.now) l.counts r a.turns.board _ (members_are a.turns.board.members.now) (stands a.turns.board l.i _ h c.endpoint_of.ensures)))
          ∙ ap (λ (ts : List Turn). sheet_of b a.turns.permits_crossings ts now) (sym (turns_are at l.i h))
          ∙ l.invariant.told;
      masked = omega (arith, l.invariant.masked, c.in-Ok.ensures.mask);
    }

pub returns-clause-told : goal.returns-clause-told
returns-clause-told c =
    let b = board_lent c.args.turns.board in
    let a = c.args in
    let l = c.loop-i in
    let h = c.loop-i-test.false in
    sheet_end b a.turns.permits_crossings l.visits _ _ (turns_at a.turns.board.bundles.now a.turns.plan.now a.turns.offsets.now l.i) (turns_end a.turns.board.bundles.now a.turns.plan.now a.turns.offsets.now l.i (omega (arith, h)))
    ∙ l.invariant.told

pub returns-clause-full : goal.returns-clause-full
returns-clause-full c =
    let count = c.loop-i.invariant.drawn_to in
    full_on c.loop-i.visits (length c.loop-i.drawn.items) (length c.args.turns.board.bundles.now) (omega (arith, count))
