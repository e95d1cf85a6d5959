-- The steps of a plan that need no board: ranges, choices of indices, the walk through a component, and lanes of whole numbers over 128 are those of binary64.
-- Assumes nothing.
use Rattle.std.specs.Prelude.{◌≡◌, refl, ℕ, zero, suc, ◌+◌, ◌≤◌, Bool, false, not, cond, List, [], ◌∷◌, ◌++◌, map, ℤ, pos, negsuc, nat_abs, ◌+ℤ◌, ◌-ℤ◌, T, leb, set, Float, Option, Some, None}
use Rattle.std.proofs.Common.{sym, ap, ◌∙◌, subst, arith, ltb→lt, nltb→le}
use Rattle.std.proofs.Math.ListN.{get_or-map}
use Rattle.std.specs.Float.{binary64}
use Rattle.std.specs.Float.Ieee.{le, sub}
use Rattle.binary64.specs.Order.{least, greatest, magnitude, tolerance}
use Rattle.geometry.specs.declared.Role.{Role}
use Rattle.geometry.specs.declared.Role.TheVariants.{Input, Output}
use Rattle.plan.specs.declared.Bound.TheVariants as bounded
use Rattle.plan.specs.Depths.{same_role}
use Rattle.plan.specs.Plan as K
use Rattle.plan.specs.Plan.{Walk, Component, walk, push_all}
use Rattle.grid_plan.specs.Search as S
use Rattle.grid_plan.specs.Plan as P
use Rattle.grid_plan.proofs.Sized.{pick_smaller, pick_larger}
use Rattle.grid_plan.specs.Image.{bound, collector, ranged}
use Rattle.grid_plan.specs.InnerImage.{outcome, lanes}
use Rattle.binary64.specs.Accepted.{zero64}
use Rattle.binary64.specs.Rational.{plus, less}
use Rattle.binary64.specs.Integers.{sub_parts_ℤ, add_parts}
use Rattle.sorting.specs.Lists.{Every}
use Rattle.grid.specs.On.{on, below, at_most, smaller, larger}
use Rattle.grid.proofs.OnLaws.{on_zero}
use Rattle.binary64.specs.Bools.{is_false}
use Rattle.grid.proofs.Operations.{lt_on, least_on, greatest_on, sub_on, magnitude_on}
use Rattle.grid.proofs.SamePlace.{apart_on}
use Rattle.grid_plan.specs.Sizes.{Near, Placed}

-- ---- lists
pub set_map : {A C : Type 0} (f : A → C) (l : List A) (i : ℕ) (x : A) → set (map f l) i (f x) ≡ map f (set l i x)
set_map f [] i x = refl
set_map f (y ∷ l) zero x = refl
set_map f (y ∷ l) (suc i) x = ap (λ (m : List _). f y ∷ m) (set_map f l i x)

pub every_set : {A : Type 0} (Q : A → Type 0) (l : List A) (i : ℕ) (x : A) → Q x → Every Q l → Every Q (set l i x)
every_set Q [] i x s e = tt
every_set Q (y ∷ l) zero x s e = (s, e.1)
every_set Q (y ∷ l) (suc i) x s e = (e.0, every_set Q l i x s e.1)

pub map_append : {A C : Type 0} (f : A → C) (xs ys : List A) → map f (xs ++ ys) ≡ map f xs ++ map f ys
map_append f [] ys = refl
map_append f (x ∷ xs) ys = ap (λ (l : List _). f x ∷ l) (map_append f xs ys)

-- ---- ranges
pub found?_on : (r : Option S.Bounds) → K.found? (collector r) ≡ P.found? r
found?_on None = refl
found?_on (Some r) = refl

pub narrowed_on : (r : Option S.Bounds) (o : S.Outcome) → K.narrowed (collector r) (outcome o) ≡ collector (P.narrowed r o)
narrowed_on None (S.Found x) = refl
narrowed_on (Some r) (S.Found x) = refl
narrowed_on r S.Nothing = refl
narrowed_on r S.Spent = refl

pub found_x_on : (o : S.Outcome) → K.found_x (outcome o) ≡ bound (P.found_x o)
found_x_on (S.Found x) = refl
found_x_on S.Nothing = refl
found_x_on S.Spent = refl

initial_on : (s : P.Ranged) → K.initial_x (ranged s) ≡ bound (P.initial_x s)
initial_on s = go s.bounds
  where
    go : (r : Option S.Bounds) → K.if_between (collector r) bounded.None (λ t. bounded.At t.desired) ≡ bound (P.if_between r None (λ t. Some t.desired))
    go None = refl
    go (Some r) = refl

pub initials_on : (ss : List P.Ranged) → map K.initial_x (map ranged ss) ≡ map bound (map P.initial_x ss)
initials_on [] = refl
initials_on (s ∷ ss) = rw (initial_on s, initials_on ss)

pub at_on : (ss : List P.Ranged) (i : ℕ) → K.ranged_at (map ranged ss) i ≡ ranged (P.ranged_at ss i)
at_on ss i = get_or-map ranged ss i P.no_ranged

pub minimum_on : (ss : List P.Ranged) (i : ℕ) → K.minimum_at (map ranged ss) i ≡ on (P.minimum_at ss i)
minimum_on ss i = ap (λ (s : K.Ranged). K.if_between s.bounds zero64 (λ r. r.minimum)) (at_on ss i) ∙ go (P.ranged_at ss i).bounds
  where
    go : (r : Option S.Bounds) → K.if_between (collector r) zero64 (λ t. t.minimum) ≡ on (P.if_between r (pos 0) (λ t. t.minimum))
    go None = sym on_zero
    go (Some r) = refl

pub maximum_on : (ss : List P.Ranged) (i : ℕ) → K.maximum_at (map ranged ss) i ≡ on (P.maximum_at ss i)
maximum_on ss i = ap (λ (s : K.Ranged). K.if_between s.bounds zero64 (λ r. r.maximum)) (at_on ss i) ∙ go (P.ranged_at ss i).bounds
  where
    go : (r : Option S.Bounds) → K.if_between (collector r) zero64 (λ t. t.maximum) ≡ on (P.if_between r (pos 0) (λ t. t.maximum))
    go None = sym on_zero
    go (Some r) = refl

pub desired_on : (ss : List P.Ranged) (i : ℕ) → K.desired_at (map ranged ss) i ≡ on (P.desired_at ss i)
desired_on ss i = ap (λ (s : K.Ranged). K.if_between s.bounds zero64 (λ r. r.desired)) (at_on ss i) ∙ go (P.ranged_at ss i).bounds
  where
    go : (r : Option S.Bounds) → K.if_between (collector r) zero64 (λ t. t.desired) ≡ on (P.if_between r (pos 0) (λ t. t.desired))
    go None = sym on_zero
    go (Some r) = refl

pub indices_on : (k : ℕ) (ss : List P.Ranged) → K.indices_from k (map ranged ss) ≡ P.indices_from k ss
unfolding K.indices_from P.indices_from
indices_on k [] = refl
indices_on k (s ∷ ss) = ap (λ (l : List ℕ). k ∷ l) (indices_on (suc k) ss)

pub of_role_on : (role : Role) (ss : List P.Ranged) (is : List ℕ) → K.of_role role (map ranged ss) is ≡ P.of_role role ss is
unfolding K.of_role P.of_role
of_role_on role ss [] = refl
of_role_on role ss (i ∷ is) =
    ap (λ (s : K.Ranged). cond (same_role s.bundle.role role) (i ∷ K.of_role role (map ranged ss) is) (K.of_role role (map ranged ss) is)) (at_on ss i)
    ∙ ap (λ (l : List ℕ). cond (same_role (P.role_at ss i) role) (i ∷ l) l) (of_role_on role ss is)

pub largest_on : (f : ℕ → Float) (g : ℕ → ℤ) → ((i : ℕ) → f i ≡ on (g i)) → (x : ℤ) (is : List ℕ) → K.largest f (on x) is ≡ on (P.largest g x is)
unfolding K.largest P.largest
largest_on f g h x [] = refl
largest_on f g h x (i ∷ is) = ap (λ (z : Float). K.largest f z is) (ap (greatest (on x)) (h i) ∙ greatest_on x (g i)) ∙ largest_on f g h (larger x (g i)) is

pub smallest_on : (f : ℕ → Float) (g : ℕ → ℤ) → ((i : ℕ) → f i ≡ on (g i)) → (x : ℤ) (is : List ℕ) → K.smallest f (on x) is ≡ on (P.smallest g x is)
unfolding K.smallest P.smallest
smallest_on f g h x [] = refl
smallest_on f g h x (i ∷ is) = ap (λ (z : Float). K.smallest f z is) (ap (least (on x)) (h i) ∙ least_on x (g i)) ∙ smallest_on f g h (smaller x (g i)) is

pub largest_of : (Q : ℤ → Type 0) (g : ℕ → ℤ) → ((i : ℕ) → Q (g i)) → (x : ℤ) (is : List ℕ) → Q x → Q (P.largest g x is)
unfolding P.largest
largest_of Q g h x [] s = s
largest_of Q g h x (i ∷ is) s = largest_of Q g h (larger x (g i)) is (pick_larger Q x (g i) s (h i))

pub smallest_of : (Q : ℤ → Type 0) (g : ℕ → ℤ) → ((i : ℕ) → Q (g i)) → (x : ℤ) (is : List ℕ) → Q x → Q (P.smallest g x is)
unfolding P.smallest
smallest_of Q g h x [] s = s
smallest_of Q g h x (i ∷ is) s = smallest_of Q g h (smaller x (g i)) is (pick_smaller Q x (g i) s (h i))

pub drop_all_on : (is : List ℕ) (xs : List (Option ℤ)) → K.drop_all is (map bound xs) ≡ map bound (P.drop_all is xs)
unfolding K.drop_all P.drop_all
drop_all_on [] xs = refl
drop_all_on (i ∷ is) xs = ap (K.drop_all is) (set_map bound xs i None) ∙ drop_all_on is (set xs i None)

pub drop_all_of : (is : List ℕ) (xs : List (Option ℤ)) → Every Placed xs → Every Placed (P.drop_all is xs)
unfolding P.drop_all
drop_all_of [] xs h = h
drop_all_of (i ∷ is) xs h = drop_all_of is (set xs i None) (every_set Placed xs i None tt h)

pub exceeds_on : (o : Option ℤ) (limit : ℤ) → K.exceeds (bound o) (on limit) ≡ P.exceeds o limit
exceeds_on None limit = refl
exceeds_on (Some r) limit = lt_on limit r

-- ---- the walk through a component
pub walk_same : (f g : ℕ → List ℕ) → ((i : ℕ) → f i ≡ g i) → (k : ℕ) (seen : List Bool) (pending : List ℕ) → walk f k seen pending ≡ walk g k seen pending
unfolding walk
walk_same f g h zero seen pending = refl
walk_same f g h (suc k) seen [] = refl
walk_same f g h (suc k) seen (i ∷ pending) =
    ap (λ (l : List ℕ). next f (push_all l (record { seen = seen; pending = pending }))) (h i)
    ∙ ap (λ (c : Component). record { order = i ∷ c.order; seen = c.seen }) (walk_same f g h k (push_all (g i) (record { seen = seen; pending = pending })).seen (push_all (g i) (record { seen = seen; pending = pending })).pending)
  where
    next : (ℕ → List ℕ) → Walk → Component
    next f w = let c = walk f k w.seen w.pending in record { order = i ∷ c.order; seen = c.seen }

-- 13: the clamp of the input split never has its low end above its high end
pub never_13 : (low limit pitch : ℤ) → below limit (low +ℤ pitch) ≡ false → below (limit -ℤ pitch) low ≡ false
never_13 low limit pitch e = is_false (below (limit -ℤ pitch) low) (λ (t : T (below (limit -ℤ pitch) low)).
    let h = ltb→lt (plus (limit -ℤ pitch) + less low) (plus low + less (limit -ℤ pitch)) t in
    let p = sub_parts_ℤ limit pitch in
    let q = add_parts low pitch in
    let k : plus low + plus pitch + less limit + (plus (low +ℤ pitch) + less (low +ℤ pitch)) ≤ plus low + plus pitch + less limit + (plus (low +ℤ pitch) + less (low +ℤ pitch)) = omega arith in
    let n : plus (low +ℤ pitch) + less limit ≤ plus limit + less (low +ℤ pitch) = nltb→le (plus limit + less (low +ℤ pitch)) (plus (low +ℤ pitch) + less limit) (subst (λ (w : Bool). T (not w)) (sym e) tt) in
    absurd (omega arith))

-- ---- lane separation
at_most_pos : (k n : ℕ) → leb k n ≡ at_most (pos k) (pos n)
at_most_pos k n = let e : k + 0 ≡ k = omega arith in let f : n + 0 ≡ n = omega arith in rw (e, f)

clear_one : (p x y : ℤ) → Near p → less p ≡ 0 → Near x → Near y → le (sub binary64 (on p) tolerance) (magnitude (sub binary64 (on y) (on x))) ≡ at_most p (pos (nat_abs (y -ℤ x)))
clear_one p x y P l X Y =
    ap (λ (z : Float). le (sub binary64 (on p) tolerance) (magnitude z)) (sub_on y x (omega arith))
    ∙ ap (le (sub binary64 (on p) tolerance)) (magnitude_on (y -ℤ x))
    ∙ go p P l
  where
    go : (p : ℤ) → Near p → less p ≡ 0 → le (sub binary64 (on p) tolerance) (on (pos (nat_abs (y -ℤ x)))) ≡ at_most p (pos (nat_abs (y -ℤ x)))
    go (pos k) P l = apart_on k (nat_abs (y -ℤ x)) (omega arith) ∙ at_most_pos k (nat_abs (y -ℤ x))
    go (negsuc k) P l = absurd (omega arith)

pub clear_on : (p x : ℤ) (ys : List ℤ) → Near p → less p ≡ 0 → Near x → Every Near ys → K.clear (on p) (on x) (map on ys) ≡ P.clear p x ys
unfolding K.clear P.clear
clear_on p x [] P l X h = refl
clear_on p x (y ∷ ys) P l X h = rw (clear_one p x y P l X h.0, clear_on p x ys P l X h.1)

pub largest_of_on : (x : ℤ) (ys : List ℤ) → K.largest_of (on x) (map on ys) ≡ on (P.largest_of x ys)
unfolding K.largest_of P.largest_of
largest_of_on x [] = refl
largest_of_on x (y ∷ ys) = ap (λ (z : Float). K.largest_of z (map on ys)) (greatest_on x y) ∙ largest_of_on (larger x y) ys

pub smallest_of_on : (x : ℤ) (ys : List ℤ) → K.smallest_of (on x) (map on ys) ≡ on (P.smallest_of x ys)
unfolding K.smallest_of P.smallest_of
smallest_of_on x [] = refl
smallest_of_on x (y ∷ ys) = ap (λ (z : Float). K.smallest_of z (map on ys)) (least_on x y) ∙ smallest_of_on (smaller x y) ys

pub largest_of_near : (x : ℤ) (ys : List ℤ) → Near x → Every Near ys → Near (P.largest_of x ys)
unfolding P.largest_of
largest_of_near x [] h k = h
largest_of_near x (y ∷ ys) h k = largest_of_near (larger x y) ys (pick_larger Near x y h k.0) k.1

pub smallest_of_near : (x : ℤ) (ys : List ℤ) → Near x → Every Near ys → Near (P.smallest_of x ys)
unfolding P.smallest_of
smallest_of_near x [] h k = h
smallest_of_near x (y ∷ ys) h k = smallest_of_near (smaller x y) ys (pick_smaller Near x y h k.0) k.1

pub lanes_on : (role : Role) (l : P.Lanes) → K.lanes_of role (lanes l) ≡ map on (P.lanes_of role l)
lanes_on Input l = refl
lanes_on Output l = refl

pub add_lane_on : (role : Role) (x : Option ℤ) (l : P.Lanes) → K.add_lane role (bound x) (lanes l) ≡ lanes (P.add_lane role x l)
add_lane_on role None l = refl
add_lane_on Input (Some x) l = ap (λ (m : List Float). record { input = m; output = map on l.output }) (sym (map_append on l.input (x ∷ [])))
add_lane_on Output (Some x) l = ap (λ (m : List Float). record { input = map on l.input; output = m }) (sym (map_append on l.output (x ∷ [])))

abbrev pub NearLanes : P.Lanes → Type 0
NearLanes l = Every Near l.input × Every Near l.output

pub lanes_near : (role : Role) (l : P.Lanes) → NearLanes l → Every Near (P.lanes_of role l)
lanes_near Input l h = h.0
lanes_near Output l h = h.1

last_near : (x : ℤ) (xs : List ℤ) → Every Near xs → Near x → Every Near (xs ++ (x ∷ []))
last_near x [] h k = (k, tt)
last_near x (y ∷ ys) h k = (h.0, last_near x ys h.1 k)

pub add_lane_near : (role : Role) (x : Option ℤ) (l : P.Lanes) → Placed x → NearLanes l → NearLanes (P.add_lane role x l)
add_lane_near role None l s h = h
add_lane_near Input (Some x) l s h = (last_near x l.input h.0 s, h.1)
add_lane_near Output (Some x) l s h = (h.0, last_near x l.output h.1 s)

-- ---- the plan, on a board of the grid
