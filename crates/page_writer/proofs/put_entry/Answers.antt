use Rattle.page_writer.specs.PageTurns.{entry_written}
use Rattle.page_writer.proofs.put_entry.Goals as goal

pub returns-clause-bytes : goal.returns-clause-bytes
returns-clause-bytes c =
    let a = c.args in
    entry_written a.w a.b _ _ a.at _ _ _ _ _ c.parts_of-x.ensures c.min.ensures c.parts_of-low.ensures c.max.ensures c.parts_of-high.ensures c.put_line.ensures
