-- `search_copies::with_plus_zeros` meets its contract: the routes are copied with plus zeros where their places and counts are in order, and otherwise a call of them is refused before a number is looked at. Assumes nothing.
use mathlib.Core.Path.{sym, ◌∙◌, ap, subst}
use mathlib.Core.List.{List}
use Prim.Native.Nat.{ℕ, ◌≤◌}
use native.Mathlib.Omega.{arith}
use borrow.Author.Tests.{not-false}
use lib.ListN.{length}
use lib.Seq.{length-take-le}
use Rattle.std.proofs.Common.{not}
use Rattle.search_calls.specs.Copied.{Fitting, SameCall}
use Rattle.search_calls.specs.Entry.{plus_zeros}
use Rattle.search_calls.proofs.Copies as laws
use Rattle.search_copies.proofs.with_plus_zeros.Goals as goal
use Rattle.search_copies.proofs.with_plus_zeros.Goals.{After-copy_routes, Else-not-windows_fit}

fit : (e : Else-not-windows_fit) → let l = e.args.lent in Fitting l.points.now l.starts.now l.counts.now
fit e =
    let l = e.args.lent in
    laws.fitting l.points.now l.starts.now l.counts.now (sym e.windows_fit.ensures ∙ not-false e.windows_fit.result (ap not e.if-not-windows_fit.false))

few : (e : Else-not-windows_fit) → length e.args.lent.starts.now ≤ length e.args.rows.now
few e = omega (arith, (fit e).few, e.requires.1)

pub slice_bounds-copy_routes-end : goal.slice_bounds-copy_routes-end
slice_bounds-copy_routes-end c = few (goal.at.slice_bounds-copy_routes-end c).Else-not-windows_fit

pub slice_bounds-copy_routes-end-2 : goal.slice_bounds-copy_routes-end-2
slice_bounds-copy_routes-end-2 c = sym (length-take-le _ _ (few (goal.at.slice_bounds-copy_routes-end-2 c).Else-not-windows_fit))

pub copy_routes-requires-clause-fitting : goal.copy_routes-requires-clause-fitting
copy_routes-requires-clause-fitting c = fit (goal.at.copy_routes-requires-clause-fitting c).Else-not-windows_fit

pub copy_routes-requires-clause-copy_len : goal.copy_routes-requires-clause-copy_len
copy_routes-requires-clause-copy_len c = (c.requires.0, length-take-le _ _ (few (goal.at.copy_routes-requires-clause-copy_len c).Else-not-windows_fit))

-- the rows as they were written
front : (k : After-copy_routes) → laws.Front (length k.args.lent.starts.now) k.args.rows.now k.copy_routes.new.rows
front k = laws.rows_front _ k.args.rows.now k.copy_routes.new.rows (few (goal.at.After-copy_routes k).Else-not-windows_fit) k.copy_routes.auto.rows

pub slice_bounds-result-end : goal.slice_bounds-result-end
slice_bounds-result-end c = sym (length-take-le _ _ (front (goal.at.slice_bounds-result-end c).After-copy_routes).within)

pub returns-clause-plain : goal.returns-clause-plain
returns-clause-plain c =
    let l = c.args.lent in
    let f = front (goal.at.returns-clause-plain c).After-copy_routes in
    let copy = c.copy_routes.new.copy in
    let rows = c.copy_routes.new.rows in
    λ role pitch granted. subst (λ (r : List ℕ). SameCall copy (plus_zeros l.points.now) r l.starts.now l.counts.now role pitch granted) (sym f.is)
    (laws.copied_call l.points.now l.starts.now l.counts.now copy rows role pitch granted c.copy_routes.ensures f.size (fit (goal.at.returns-clause-plain c).Else-not-windows_fit) (c.copy_routes.auto.copy ∙ c.requires.0))
