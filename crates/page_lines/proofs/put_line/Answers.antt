use Rattle.page_lines.proofs.DigitStores.{line_padded}
use Rattle.page_lines.proofs.put_line.Goals as goal

pub returns : goal.returns
returns c = rw (c.put_cell-3.ensures, c.put_cell-2.ensures, c.put_cell.ensures, c.put_letter.ensures, c.put_right.ensures) (line_padded _ _ _ _)
