-- What the head of an edge and of a bundle says of its window. Assumes nothing.
use Rattle.std.specs.Prelude.{ℕ, ◌≡◌, List}
use Rattle.std.proofs.Common.{sym, ap, arith}
use Rattle.limits.specs.Limits.{max_route_points, max_points, max_bundle_members, max_members}
use Rattle.wire.specs.Read.{got, after, field}
use Rattle.job.specs.declared.RawEdge.{RawEdge}
use Rattle.job.specs.declared.RawBundle.{RawBundle}
use Rattle.job.specs.Job.{edge_head, bundle_head, counted, role_of}
use Rattle.job.specs.LoopSteps.{came, counted_fits, got_both}
use Rattle.job.specs.Heads.{Window}

pub edge_window : (total : ℕ) (s : List ℕ) (e : RawEdge) (t : List ℕ) → edge_head total s ≡ got e t → Window e.first e.count total max_route_points max_points
edge_window total s e t h =
    let a = came (field 4 s) _ e t h in
    let b = came (field 4 a.rest) _ e t a.second in
    let c = came (field 4 b.rest) _ e t b.second in
    let d = came (field 4 c.rest) _ e t c.second in
    let f = came (field 4 d.rest) _ e t d.second in
    let g = came (counted max_route_points max_points total f.rest) _ e t f.second in
    let k = counted_fits max_route_points max_points total g.value f.rest g.rest g.first in
    let q = (got_both _ e g.rest t g.second).0 in
    let first : total ≡ e.first = ap (λ (x : RawEdge). x.first) q in
    let count : g.value ≡ e.count = ap (λ (x : RawEdge). x.count) q in
    record { starts = sym first; own = omega (arith, k.0, count); total = omega (arith, k.1, count) }

pub bundle_window : (total : ℕ) (s : List ℕ) (e : RawBundle) (t : List ℕ) → bundle_head total s ≡ got e t → Window e.first e.count total max_bundle_members max_members
bundle_window total s e t h =
    let a = came (field 4 s) _ e t h in
    let b = came (field 4 a.rest) _ e t a.second in
    let c = came (field 4 b.rest) _ e t b.second in
    let d = came (after (field 1 c.rest) role_of) _ e t c.second in
    let f = came (field 4 d.rest) _ e t d.second in
    let g = came (counted max_bundle_members max_members total f.rest) _ e t f.second in
    let k = counted_fits max_bundle_members max_members total g.value f.rest g.rest g.first in
    let q = (got_both _ e g.rest t g.second).0 in
    let first : total ≡ e.first = ap (λ (x : RawBundle). x.first) q in
    let count : g.value ≡ e.count = ap (λ (x : RawBundle). x.count) q in
    record { starts = sym first; own = omega (arith, k.0, count); total = omega (arith, k.1, count) }
