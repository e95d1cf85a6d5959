use Rattle.job_tables.proofs.Ready.{tables_sound}
use Rattle.job_tables.proofs.board_tables.Goals as goal

pub invariant_of-result : goal.invariant_of-result
invariant_of-result c = record { sound = rw (c.as_slice.ensures.value, c.as_slice-2.ensures.value, c.as_slice-4.ensures.value, c.as_slice-5.ensures.value) (tables_sound c.args.j.now c.requires.came.0 c.requires.came.1) }
