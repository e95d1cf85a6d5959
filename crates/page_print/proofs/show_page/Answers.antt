use mathlib.Core.Path.{sym}
use mathlib.Core.List.{[]}
use lib.Dec.{lit≤}
use lib.Seq.{length-take-le}
use borrow.Author.Rules.{rules}
use Rattle.page_print.specs.Literals.{zero_fits, least_fits, half_fits, quarter_fits, three_fits, large_fits, next_fits, largest_fits, three_rows, three_room}
use Rattle.page_print.proofs.show_page.Goals as goal

pub bundle-first-requires : goal.bundle-first-requires
bundle-first-requires c = (half_fits, three_fits, quarter_fits)

pub bundle-second-requires : goal.bundle-second-requires
bundle-second-requires c = (largest_fits, zero_fits, least_fits)

pub bundle-third-requires : goal.bundle-third-requires
bundle-third-requires c = (zero_fits, large_fits, next_fits)

pub put_page-n-requires : goal.put_page-n-requires
put_page-n-requires c = (lit≤ tt, three_rows _ _ _ [] c.bundle-first.ensures c.bundle-second.ensures c.bundle-third.ensures, search rules)

pub slice_bounds-page-end : goal.slice_bounds-page-end
slice_bounds-page-end c = three_room _ _ _ _ c.put_page-n.new.out c.put_page-n.ensures.place c.put_page-n.auto.out

pub slice_bounds-write_all-end : goal.slice_bounds-write_all-end
slice_bounds-write_all-end c = sym (length-take-le _ _ (three_room _ _ _ _ c.put_page-n.new.out c.put_page-n.ensures.place c.put_page-n.auto.out))
