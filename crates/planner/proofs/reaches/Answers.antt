-- `planner::reaches` meets its contract. Assumes nothing.
use mathlib.Core.Path.{◌≡◌, refl, sym, ◌∙◌, ap, subst}
use mathlib.Core.List.{List}
use Prim.Native.Nat.{ℕ, ◌≤◌, ◌<◌}
use native.Mathlib.Omega.{arith}
use lib.ListN.{length, get_or}
use lib.Ieee.{nan}
use Rattle.geometry.specs.Points.{Route}
use Rattle.board.specs.declared.Options.{Options}
use Rattle.board.specs.declared.Bundle.{Bundle}
use Rattle.board.specs.Board.{Board, rail_depth, sheet_pitch}
use Rattle.plan.specs.declared.Reached.{Reached}
use Rattle.plan.specs.BoardTables.{no_bundle}
use Rattle.plan.specs.MemberColumns.{edges_of}
use Rattle.plan.specs.Prepared.{Rowed, Ended, Tells, no_reached}
use Rattle.plan.specs.Lent.{RoutesTell, CorridorsTell}
use Rattle.plan.proofs.TableReads as rows
use Rattle.planner.proofs.MemberTurns as laws
use Rattle.planner.proofs.reaches.Goals as goal
use Rattle.std.proofs.Common.{rules}

pub loop-i-preserved : goal.loop-i-preserved
loop-i-preserved c =
    let a = c.args in
    let l = c.loop-i in
    let h : l.i < length a.t.bundles.now = c.loop-i-test.true in
    let f = c.reach_all-d in
    let u : Bundle = get_or a.t.bundles.now l.i no_bundle in
    let v : Reached = record { bundle = u; endpoint = get_or a.ends.rows l.i nan; reached = f.result } in
    record {
      rows_length = omega (arith, c.push.ensures.len, l.invariant.rows_length);
      bundle_is = rows.pushed (λ j x. x.bundle ≡ get_or a.t.bundles.now j no_bundle) l.rows.items c.push.new.self.items l.i v no_reached l.invariant.rows_length c.push.ensures.items refl l.invariant.bundle_is;
      told = rows.pushed
          (λ j x. (b : Board) (given : List Route) (lanes : List ℕ) → Ended b a.t.options a.t.bundles.now a.ends.rows → Rowed b (edges_of a.t.members.now) lanes → RoutesTell b given a.routes
          → CorridorsTell b a.corridors → Tells b given a.routes.points.now a.routes.starts.now a.routes.counts.now (rail_depth a.t.options) (sheet_pitch a.t.options) x)
          l.rows.items c.push.new.self.items l.i v no_reached l.invariant.rows_length c.push.ensures.items
          (λ b given lanes e w q o. record {
            rail_is = ap rail_depth e.options_are;
            pitch_is = ap sheet_pitch e.options_are;
            endpoint_is = e.end_is l.i h;
            reached_is = f.ensures b given lanes (ap (λ (z : Options). z.member_endpoint_reserve) e.options_are) w (e.members_in l.i h) q o;
            routed = laws.routed b given a.routes.points.now a.routes.starts.now a.routes.counts.now q (omega (arith, w.few, c.requires.starts_long)) (omega (arith, w.few, c.requires.starts_long, a.routes.windows.paired)) u (e.members_in l.i h);
          })
          l.invariant.told;
    }

pub returns-clause-told : goal.returns-clause-told
returns-clause-told c =
    let a = c.args in
    let l = c.loop-i in
    let k = length a.t.bundles.now in
    let e : l.i ≡ k = omega (arith, c.loop-i-test.false) in
    let fit : length l.rows.items ≡ k = omega (arith, e, l.invariant.rows_length) in
    λ b given lanes n w q o.
    record {
      bundles_are = n.bundles_are ∙ laws.same_rows a.t.bundles.now l.rows.items fit (λ j h. l.invariant.bundle_is j (omega (arith, h, e)));
      each = λ j h.
          let g : j < k = omega (arith, h, fit) in
          l.invariant.told j (omega (arith, g, e)) b given lanes n w q o;
    }

pub reach_all-d-requires-clause-below : goal.reach_all-d-requires-clause-below
reach_all-d-requires-clause-below c = laws.edges_low c.args.t c.loop-i.i c.loop-i-test.true
