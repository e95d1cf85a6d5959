-- `sheet_replay::draw_in` is safe and ends. Assumes nothing.
use mathlib.Core.Path.{refl, ap, subst}
use Rattle.std.specs.Prelude.{List}
use Rattle.board.specs.Board.{Board}
use Rattle.board.specs.declared.Member.{Member}
use Rattle.plan.specs.MemberColumns.{edges_of}
use Rattle.checks.specs.Purse.{told}
use Rattle.job_tables.proofs.Ready as tables
use Rattle.draw_job.specs.JobTables.{OnSheet}
use Rattle.draw_job.proofs.Ready as ready
use Rattle.draw_job.proofs.Phases as laws
use Rattle.sheet_replay.proofs.draw_in.Goals as goal
use Rattle.sheet_replay.proofs.draw_in.Goals.{In-Ok}

pub board_tables-board-requires : goal.board_tables-board-requires
board_tables-board-requires c = record { came = (c.args.given.now, c.requires.came) }

pub draw_sheet-d-requires : goal.draw_sheet-d-requires
draw_sheet-d-requires c =
    let a = c.args in
    let lent = laws.lent_as a.j.now _ c.len.ensures.value _ _ _ _ _ _ refl c.requires.lent in
    let from = c.requires.came in
    let t = c.board_tables-board.result in
    let same = c.board_tables-board.ensures a.given.now in
    record {
      tables = tables.routes_lent a.j.now a.given.now from t same;
      once = (ready.follow a.j.now a.given.now from t same, ready.once_a_role a.j.now a.given.now from t same);
      exact = ready.exact a.j.now a.given.now from t same _ _ _ _ _ lent;
      room = ready.room a.j.now a.given.now from t same _ _ _ _ _ lent;
    }

-- all that the turns leave
on_sheet : (c : In-Ok) → OnSheet c.args.j.now (edges_of c.board_tables-board.result.members.now) c.draw_sheet-d.result.drawn c.draw_sheet-d.new.points c.draw_sheet-d.new.counts c.draw_sheet-d.new.taps
on_sheet c =
    let a = c.args in
    let d = c.draw_sheet-d in
    let lent = laws.lent_as a.j.now _ c.len.ensures.value _ _ _ _ _ _ refl c.requires.lent in
    laws.on_sheet a.j.now a.given.now c.requires.came c.board_tables-board.result (c.board_tables-board.ensures a.given.now) _ _ _ _ _ lent (told d.result.ended d.new.visits.0) d.result.drawn d.new.taps d.new.points d.new.counts d.auto.taps d.auto.points d.auto.counts _ (laws.ended_clean d.result.ended d.new.visits.0 _ c.in-Ok.is) d.ensures.rows d.ensures.full d.ensures.hold

pub put_pages-requires : goal.put_pages-requires
put_pages-requires c =
    let a = c.args in
    let d = c.draw_sheet-d in
    let same = c.board_tables-board.ensures a.given.now in
    record { on_sheet = subst (λ (ms : List Member). OnSheet a.j.now (edges_of ms) d.result.drawn d.new.points d.new.counts d.new.taps) (ap (λ (b : Board). b.members) same) (on_sheet (goal.at.put_pages-requires c).In-Ok) }
