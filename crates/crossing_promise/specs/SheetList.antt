-- The list of a job that is drawn: F-7's, of the finished sheet before the shift. Definitions only.
-- Assumes nothing.
use Rattle.std.specs.Prelude.{List}
use Rattle.promise.specs.Stage.{Finished}
use Rattle.crossings.specs.List.{Crossing, listed}

abbrev pub list_of : Finished → List Crossing
list_of f = listed f.said.flags.permits_crossings f.sheet_made.drawn f.sheet_made.routes
