-- `collector_xs::common_horizontal_collector_xs` meets its contract. Assumes nothing.
-- how many candidates there are, and the slices that `gather` leaves
use mathlib.Core.Path.{◌≡◌, ◌∙◌, subst, ap}
use mathlib.Core.List.{List, [], ◌++◌, map}
use Prim.Native.Nat.{ℕ, ◌-◌, ◌≤◌}
use native.Mathlib.Omega.{arith}
use lib.ListN.{length, take, drop}
use lib.Ieee.{Float}
use Rattle.search.specs.Stretches.{all_runs}
use Rattle.search.specs.Lent.{members_lent}
use Rattle.search.specs.Search.{Lists, then_tried}
use Rattle.std.proofs.lemmas.Result.{err_from_is_err_and}
use Rattle.search.specs.Kept.{kept}
use Rattle.geometry.specs.Points.{points_from}
use Rattle.search.proofs.Parts as parts
use Rattle.search.proofs.KeptLaws as laws
use Rattle.collector_xs.proofs.common_horizontal_collector_xs.Goals as goal
use Rattle.collector_xs.proofs.common_horizontal_collector_xs.Goals.{After-put_in_order-k, In_ok-n}

abbrev n-of : In_ok-n → ℕ
n-of c = c.in_ok-n.n

abbrev xs-of : In_ok-n → List Float
xs-of c = c.gather.new.xs

abbrev ks-of : In_ok-n → List Float
ks-of c = c.gather.new.kept

-- where the part for sorting begins
abbrev keep-of : In_ok-n → ℕ
keep-of c = let a = c.args in length a.scratch.now - length a.xs.now

keep-within : (c : In_ok-n) → keep-of c ≤ length (ks-of c)
keep-within c =
    let g = c.gather in
    omega (arith, g.auto.kept)

-- the scratch after it was sorted in
abbrev kept_in : After-put_in_order-k → List Float
kept_in o =
    take (keep-of (goal.at.After-put_in_order-k o).In_ok-n) (ks-of (goal.at.After-put_in_order-k o).In_ok-n) ++ (o.put_in_order-k.new.scratch ++ drop (length (ks-of (goal.at.After-put_in_order-k o).In_ok-n) - keep-of (goal.at.After-put_in_order-k o).In_ok-n) (drop (keep-of (goal.at.After-put_in_order-k o).In_ok-n) (ks-of (goal.at.After-put_in_order-k o).In_ok-n)))

-- the kept pairs are still there
still_kept : (o : After-put_in_order-k)
    → let a = o.args in
    let runs = all_runs (members_lent a.sought.role a.sought.pitch a.sought.routes) in
    points_from (kept_in o) 0 (length runs) ≡ map kept runs
still_kept o =
    laws.keeps_front (ks-of (goal.at.After-put_in_order-k o).In_ok-n) _ _ (keep-of (goal.at.After-put_in_order-k o).In_ok-n) (keep-within (goal.at.After-put_in_order-k o).In_ok-n) (omega (arith, o.requires.scratch_room)) o.in_ok-n.ensures.keeps

kept-length : (o : After-put_in_order-k) → length (kept_in o) ≡ length (ks-of (goal.at.After-put_in_order-k o).In_ok-n)
kept-length o =
    parts.whole_again (ks-of (goal.at.After-put_in_order-k o).In_ok-n) (keep-of (goal.at.After-put_in_order-k o).In_ok-n) (keep-within (goal.at.After-put_in_order-k o).In_ok-n) o.put_in_order-k.new.scratch (o.put_in_order-k.auto.scratch ∙ parts.back_length (ks-of (goal.at.After-put_in_order-k o).In_ok-n) (keep-of (goal.at.After-put_in_order-k o).In_ok-n) (keep-within (goal.at.After-put_in_order-k o).In_ok-n))

pub try_candidates-requires : goal.try_candidates-requires
try_candidates-requires c =
    let g = c.gather in
    let a = c.args in
    let o = (goal.at.try_candidates-requires c).After-put_in_order-k in
    let r = laws.kept_room a.sought.role a.sought.pitch a.sought.routes.points.now (kept_in o) a.sought.routes.starts.now a.sought.routes.counts.now c.args.sought.routes.windows.paired (still_kept o) in
    omega (arith, r, kept-length o, g.auto.kept, c.requires.scratch_room)

pub returns : goal.returns
returns c =
    let a = c.args in
    let o = (goal.at.returns c).After-put_in_order-k in
    let e = (goal.at.returns c).In_ok-n in
    let ms = members_lent a.sought.role a.sought.pitch a.sought.routes in
    let m = c.try_candidates.new.xs in
    let front = take c.put_in_order-k.result (c.put_in_order-k.new.xs ++ drop (n-of e) (xs-of e)) in
    let same = laws.kept_tried a.sought.role a.sought.pitch a.sought.routes.points.now (kept_in o) a.sought.routes.starts.now a.sought.routes.counts.now c.args.sought.routes.windows.paired (still_kept o) front [] c.in_ok-n.left.0 in
    parts.then_are a.sought.role ms (xs-of e) c.put_in_order-k.new.xs (n-of e) c.put_in_order-k.result c.put_in_order-k.auto.xs c.put_in_order-k.ensures
    c.try_candidates.result m c.in_ok-n.left (length a.xs.now) _ c.in_ok-n.ensures.found
    c.gather.auto.xs c.try_candidates.auto.xs (subst (Lists c.try_candidates.result m (length front)) same c.try_candidates.ensures)

pub returns-in_err-n : goal.returns-in_err-n
returns-in_err-n c =
    let a = c.args in
    let p = err_from_is_err_and c.from_residual.result c.from_residual.ensures.1 in
    rw p.1 (record { within = tt; are = ap (then_tried a.sought.role (members_lent a.sought.role a.sought.pitch a.sought.routes)) c.in_err-n.ensures.found.are })
