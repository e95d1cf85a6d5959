use Rattle.std.specs.Prelude.{◌≡◌, ◌≤◌, length, drop}
use Rattle.std.specs.Iterator.Adapters.{zip_first, zip_second}
use Rattle.std.specs.Slice.Iter.{iter_rest}
use Rattle.search_calls.specs.Copied.{Copied}
use Rattle.search_copies.proofs.copy_routes.Given as goal

abbrev pub invariant-loop-m : goal.invariant-loop-m
invariant-loop-m l =
    let starts = l.lent.starts.now in
    let counts = l.lent.counts.now in
    let m = l.m-iterator.count in
    let rest = l.m-iterator.iter in
    Copied l.lent.points.now starts counts m l.copy l.rows × (m ≤ length starts) × (iter_rest (zip_first rest) ≡ drop m starts) × (iter_rest (zip_second rest) ≡ drop m counts)
