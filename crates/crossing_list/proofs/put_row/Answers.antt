-- Written so that an edit is refused at the fact that does not hold.
use Rattle.crossing_bytes.proofs.Laws.{entry_joined}
use Rattle.crossing_list.proofs.put_row.Goals as goal

pub returns : goal.returns
returns c = rw (c.put_id-2.ensures, c.put_id.ensures, c.put_point.ensures) (entry_joined _ _ _ _ _)
