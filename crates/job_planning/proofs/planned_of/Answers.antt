-- `job_planning::planned_of` meets its contract. Assumes nothing.
use native.Mathlib.Omega.{arith}
use Rattle.std.proofs.Common.{refl, sym, ap, ◌∙◌}
use Rattle.std.proofs.lemmas.Result.{err_from_is_err_and}
use Rattle.plan_bytes.specs.PlanBytes.{rejected}
use Rattle.job_tables.proofs.Ready.{routes_lent}
use Rattle.refusal.specs.Refusal.{refusal_number}
use Rattle.job_planning.proofs.PlanPhases as laws
use Rattle.job_planning.proofs.planned_of.Goals as goal

pub plan_interior_collectors-requires : goal.plan_interior_collectors-requires
plan_interior_collectors-requires c =
    let t = c.board_tables-t in
    let given = c.args.given.now in
    record {
      routes_in = routes_lent c.args.j given c.requires.came.0 t.result (t.ensures given);
      search_room = (omega (arith, c.requires.sorted_len.0), omega (arith, c.requires.sorted_len.0, c.requires.sorted_len.1));
      offsets_of = c.corridor_depth_offsets-offsets.ensures;
    }

pub returns-in_err-made : goal.returns-in_err-made
returns-in_err-made c =
    let s = c.plan_interior_collectors in
    let given = c.args.given.now in
    let p = err_from_is_err_and c.from_residual.result c.from_residual.ensures.1 in
    rw p.1 (
      laws.plan_refused c.args.j given c.requires.came.0 c.board_tables-t.result (c.board_tables-t.ensures given) s.result s.ensures _ c.in_err-made.was
          ∙ ap rejected (sym (ap refusal_number p.2)),
      refl,
    )

pub returns : goal.returns
returns c =
    let s = c.plan_interior_collectors in
    let w = c.write_plan.ensures in
    let given = c.args.given.now in
    laws.plan_writes _ _ _ _ _
    (laws.plan_taken c.args.j given c.requires.came.0 c.board_tables-t.result (c.board_tables-t.ensures given) s.result s.ensures _ c.in_ok-made.was)
    (rw c.len.ensures.value at w.bytes) (rw c.len.ensures.value at w.place)
