-- `promotion::add_adjacent` meets its contract. Assumes nothing.
-- the slice and the first list's length, where the second search is made
use mathlib.Core.Path.{◌≡◌, sym, ◌∙◌, ap}
use mathlib.Core.List.{List, ◌++◌}
use Prim.Native.Nat.{ℕ, ◌+◌, ◌-◌, ◌≤◌}
use native.Mathlib.Omega.{arith}
use borrow.Author.Tests.{not-false}
use lib.ListN.{length, take, drop}
use lib.Ieee.{Float}
use Rattle.search.specs.Lent.{members_lent}
use Rattle.search.specs.Search.{in_order}
use Rattle.search.specs.Promotion.{kept, second_spent, joined}
use Rattle.search.proofs.Parts as parts
use Rattle.std.proofs.Common.{not}
use Rattle.promotion.proofs.add_adjacent.Goals as goal
use Rattle.promotion.proofs.add_adjacent.Goals.{After-common_horizontal_collector_xs-listed}

abbrev xs-of : After-common_horizontal_collector_xs-listed → List Float
xs-of x = x.args.xs.now

abbrev n-of : After-common_horizontal_collector_xs-listed → ℕ
n-of x = x.args.n

abbrev ys-of : After-common_horizontal_collector_xs-listed → List Float
ys-of x = x.common_horizontal_collector_xs-listed.new.xs

-- the slice after it
abbrev whole : After-common_horizontal_collector_xs-listed → List Float
whole x = take (n-of x) (xs-of x) ++ (ys-of x ++ drop (length (xs-of x) - n-of x) (drop (n-of x) (xs-of x)))

in-front : (x : After-common_horizontal_collector_xs-listed) → n-of x ≤ length (xs-of x)
in-front x = omega (arith, x.requires.room)

ys-length : (x : After-common_horizontal_collector_xs-listed) → length (ys-of x) ≡ length (xs-of x) - n-of x
ys-length x = x.common_horizontal_collector_xs-listed.auto.xs ∙ parts.back_length (xs-of x) (n-of x) (in-front x)

whole_length : (x : After-common_horizontal_collector_xs-listed) → length (whole x) ≡ length (xs-of x)
whole_length x = parts.whole_again (xs-of x) (n-of x) (in-front x) (ys-of x) (ys-length x)

pub returns-in_default : goal.returns-in_default
returns-in_default c =
    let a = c.args in
    let x = (goal.at.returns-in_default c).After-common_horizontal_collector_xs-listed in
    let ms = members_lent a.sought.role a.sought.pitch a.sought.routes in
    let first = take (n-of x) (xs-of x) in
    let near = sym c.is_between.ensures ∙ not-false _ (ap not c.if-not-is_between.false) in
    record {
      within = in-front x;
      are = parts.second a.sought.role a.sought.pitch a.sought.bounds ms first a.left.0 _ c.adjacent_lane-lane.ensures near _
          (ap second_spent (parts.first_kept (xs-of x) (n-of x) (in-front x) (ys-of x) _) ∙ ap (joined a.sought.role first) c.in_default.ensures.are);
    }

pub returns : goal.returns
returns c =
    let a = c.args in
    let x = (goal.at.returns c).After-common_horizontal_collector_xs-listed in
    let ms = members_lent a.sought.role a.sought.pitch a.sought.routes in
    let first = take (n-of x) (xs-of x) in
    let near = sym c.is_between.ensures ∙ not-false _ (ap not c.if-not-is_between.false) in
    let p = c.put_in_order-k in
    let m = c.in-Ok.m in
    let f : m ≤ length (ys-of x) = rw c.common_horizontal_collector_xs-listed.auto.xs c.in-Ok.ensures.within in
    record {
      within = omega (arith, p.ensures.within, parts.front_within (whole x) (n-of x + m), whole_length x);
      are = parts.second a.sought.role a.sought.pitch a.sought.bounds ms first a.left.0 _ c.adjacent_lane-lane.ensures near _
          (ap (λ (l : List Float). kept l c.in-Ok.rest.0)
          (parts.front_in_order a.sought.role ms (whole x) p.new.xs (n-of x + m) p.result p.auto.xs p.ensures
          ∙ ap (in_order a.sought.role) (parts.both_lists (xs-of x) (n-of x) (in-front x) (ys-of x) _ m f))
          ∙ ap (joined a.sought.role first) c.in-Ok.ensures.are);
    }
