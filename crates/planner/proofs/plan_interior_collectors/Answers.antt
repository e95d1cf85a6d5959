-- `planner::plan_interior_collectors` meets its contract. Assumes nothing.
use mathlib.Core.Path.{sym, ◌∙◌, ap, subst}
use mathlib.Core.List.{List}
use Prim.Native.Nat.{ℕ}
use lib.ListN.{length}
use Rattle.board.specs.Board.{rail_depth, sheet_pitch}
use Rattle.plan.specs.declared.Reached.{Reached}
use Rattle.plan.specs.MemberColumns.{edges_of}
use Rattle.plan.specs.Prepared.{AllTell}
use Rattle.planner.specs.Members.{EdgesIn}
use Rattle.components.specs.Settled.{step_in}
use Rattle.plan.specs.Lent.{board_lent}
use Rattle.plan.specs.BoardTables.{given_routes}
use Rattle.planner.proofs.MemberTurns as laws
use Rattle.planner.proofs.plan_interior_collectors.Goals as goal

pub returns : goal.returns
returns c =
    let a = c.args in
    let t = a.t in
    let r = c.reach_bundles-reaches in
    let windowed = laws.windowed t a.points.now _ _ c.member_windows.ensures c.requires.routes_in in
    let given = given_routes a.points.now t.edges.now in
    let same = sym c.as_slice.ensures.value in
    let e = subst (λ (l : List Reached). EdgesIn (board_lent t) (edges_of t.members.now) l) same (laws.edges_in t r.result r.ensures.same) in
    let told =
    subst
    (λ (l : List Reached). AllTell (board_lent t) given a.points.now c.member_windows.new.starts c.member_windows.new.counts (rail_depth t.options) (sheet_pitch t.options) l) same
    (r.ensures.told t.edges.now given windowed) in
    ap (λ (n : ℕ). step_in n c.plan_reached.result) (sym (laws.rows_long t r.result r.ensures.same) ∙ ap length same)
    ∙ c.plan_reached.ensures (board_lent t) given c.pitch_of_sheet.ensures (rw (c.boundary_bundle_rail_depth.ensures, c.pitch_of_sheet.ensures) told) e
