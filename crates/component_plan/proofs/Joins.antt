-- Components: the table of neighbours as the definition has it, the walk over it, and the turns of the loop over bundles.
-- Assumes nothing.
use mathlib.Core.Path.{◌≡◌, refl, sym, ◌∙◌, ap, subst}
use mathlib.Core.Bool.{Bool, true, false, not, cond, ◌||◌}
use mathlib.Core.List.{List, [], ◌∷◌, map}
use Prim.Native.Nat.{ℕ, zero, suc, ◌+◌, ◌≤◌, ◌<◌}
use native.Mathlib.Omega.{arith}
use lib.ListN.{length, get_or, take, drop, set, replicate, length-map, drop_of_length-le}
use lib.Seq.{get_or-take, drop-cons, take-set-lt}
use Rattle.geometry.specs.Points.{Route}
use Rattle.board.specs.Board.{Board}
use Rattle.search.specs.Search.{search_of}
use Rattle.plan.specs.declared.Range.{Range}
use Rattle.plan.specs.Plan.{Ranged, no_ranged, ranged_at, found?, Walk, push_all, Component, walk, joined, near_from, near, component_of, indices_from, Plan, Step, going, refused, then, treated, components, initial_x}
use Rattle.plan.specs.Prepared.{Listing, range_at, ranged_from, TabledTo}
use Rattle.plan.specs.Stack.{row_from, row_of}
use Rattle.plan_neighbours.proofs.Walks.{Below, near_below, same_in}
use Rattle.components.specs.Settled.{ranges_in, Neighboured, AllEdges, settled}
use Rattle.components.proofs.Turns.{range_read, below_listing}

pub ranges_length : (t : List Range) → length (ranges_in t) ≡ length t
ranges_length t = length-map t ranged_from

-- ---- the table of neighbours
row_near : (b : Board) (given : List Route) (row : List Bool) (s : Ranged) (j : ℕ) (l : List Ranged) → ((m : ℕ) → m < length l → get_or row (j + m) false ≡ joined b given s (get_or l m no_ranged))
    → row_from row j (length l) ≡ near_from b given s j l
unfolding row_from near_from
row_near b given row s j [] f = refl
row_near b given row s j (t ∷ l) f =
    let z : j + 0 ≡ j = omega arith in
    let e : get_or row j false ≡ joined b given s t = ap (λ (k : ℕ). get_or row k false) (sym z) ∙ f 0 (omega arith) in
    let r : row_from row (suc j) (length l) ≡ near_from b given s (suc j) l =
    row_near b given row s (suc j) l
    (λ m h. (let q : suc j + m ≡ j + suc m = omega arith in ap (λ (k : ℕ). get_or row k false) q ∙ f (suc m) (omega arith))) in
    ap (λ (x : Bool). cond x (j ∷ row_from row (suc j) (length l)) (row_from row (suc j) (length l))) e
    ∙ ap (λ (x : List ℕ). cond (joined b given s t) (j ∷ x) x) r

pub tabled_near : (b : Board) (given : List Route) (edges : List ℕ) (t : List Range) (a : List (List Bool)) → AllEdges b edges t → TabledTo b given edges t (length t) a
    → Neighboured b given (ranges_in t) (length t) a
tabled_near b given edges t a all known = record { rows_are = are }
  where
    are : (i : ℕ) → i < length t → row_of a (length t) i ≡ near b given (ranges_in t) i
    are i h =
        ap (row_from (get_or a i []) 0) (sym (ranges_length t))
        ∙ row_near b given (get_or a i []) (ranged_at (ranges_in t) i) 0 (ranges_in t)
        (λ m q.
        let g : m < length t = omega (arith, q, ranges_length t) in
        let z : 0 + m ≡ m = omega arith in
        ap (λ (k : ℕ). get_or (get_or a i []) k false) z
        ∙ known.are i m h g (all.each i h) (all.each m g)
        ∙ ap (λ (s : Ranged). joined b given s (ranged_from (range_at t m))) (range_read t i)
        ∙ ap (joined b given (ranged_at (ranges_in t) i)) (range_read t m))

-- ---- the walk
module _ (a : List (List Bool)) (n : ℕ) where
  walk_below : (k : ℕ) (seen : List Bool) (pending : List ℕ) → Below n pending → Below n (walk (row_of a n) k seen pending).order
  unfolding walk
  walk_below zero seen pending e = tt
  walk_below (suc k) seen [] e = tt
  walk_below (suc k) seen (i ∷ pending) e =
      let w : Walk = push_all (row_of a n i) (record { seen = seen; pending = pending }) in
      (e.0, walk_below k w.seen w.pending (near_below a i n (record { seen = seen; pending = pending }) e.1))

  -- the order of a component is a list of bundles
  pub component_listed : (i : ℕ) (order : List ℕ) (seen marks : List Bool) → i < n
      → ◌≡◌ {A = Component} (record { order = order; seen = marks }) (walk (row_of a n) n seen (i ∷ [])) → Listing order n
  component_listed i order seen marks h e = below_listing order n (subst (λ (c : Component). Below n c.order) (sym e) (walk_below n seen (i ∷ []) (h, tt)))

  module _ (at : ℕ → List ℕ) (same : (i : ℕ) → i < n → row_of a n i ≡ at i) where
    walk_same : (k : ℕ) (seen : List Bool) (pending : List ℕ) → Below n pending → walk (row_of a n) k seen pending ≡ walk at k seen pending
    unfolding walk
    walk_same zero seen pending e = refl
    walk_same (suc k) seen [] e = refl
    walk_same (suc k) seen (i ∷ pending) e =
        let w : Walk = push_all (row_of a n i) (record { seen = seen; pending = pending }) in
        ap (λ (c : Component). record { order = i ∷ c.order; seen = c.seen }) (walk_same k w.seen w.pending (near_below a i n (record { seen = seen; pending = pending }) e.1))
        ∙ ap
        (λ (l : List ℕ).
        let w : Walk = push_all l (record { seen = seen; pending = pending }) in
        let c : Component = walk at k w.seen w.pending in
        record { order = i ∷ c.order; seen = c.seen })
        (same i e.0)

  pub component_is : (b : Board) (given : List Route) (ranges : List Ranged) (i : ℕ) (seen : List Bool) (c : Component) → length ranges ≡ n → i < n → Neighboured b given ranges n a
      → c ≡ walk (row_of a n) n (take n (set seen i true)) (i ∷ []) → c ≡ component_of b given ranges i (take n seen)
  component_is b given ranges i seen c long h e p =
      p
      ∙ walk_same (near b given ranges) e.rows_are n (take n (set seen i true)) (i ∷ []) (h, tt)
      ∙ ap (λ (l : List Bool). walk (near b given ranges) n l (i ∷ [])) (take-set-lt n seen i true h)
      ∙ ap (λ (k : ℕ). walk (near b given ranges) k (set (take n seen) i true) (i ∷ [])) (sym long)

-- ---- the places of the bundles
indices_length : (k : ℕ) (l : List Ranged) → length (indices_from k l) ≡ length l
unfolding indices_from
indices_length k [] = refl
indices_length k (s ∷ l) = ap suc (indices_length (suc k) l)

index_at : (k : ℕ) (l : List Ranged) (i : ℕ) → i < length l → get_or (indices_from k l) i 0 ≡ k + i
unfolding indices_from
index_at k [] i h = absurd (omega arith)
index_at k (s ∷ l) zero h = omega arith
index_at k (s ∷ l) (suc i) h = let e : suc k + i ≡ k + suc i = omega arith in index_at (suc k) l i (omega arith) ∙ e

pub indices_cons : (l : List Ranged) (i : ℕ) → i < length l → drop i (indices_from 0 l) ≡ i ∷ drop (i + 1) (indices_from 0 l)
indices_cons l i h =
    let one : suc i ≡ i + 1 = omega arith in
    let z : 0 + i ≡ i = omega arith in
    drop-cons (indices_from 0 l) i 0 (omega (arith, h, indices_length 0 l))
    ∙ ap (λ (k : ℕ). k ∷ drop (suc i) (indices_from 0 l)) (index_at 0 l i h ∙ z)
    ∙ ap (λ (k : ℕ). i ∷ drop k (indices_from 0 l)) one

pub indices_none : (l : List Ranged) (i : ℕ) → length l ≤ i → drop i (indices_from 0 l) ≡ []
indices_none l i h = let e : length (indices_from 0 l) ≤ i = omega (arith, h, indices_length 0 l) in drop_of_length-le (indices_from 0 l) e

-- ---- a turn
module _ (s t f g : Bool) (es : s ≡ t) (ef : f ≡ g) where
  neither : t ≡ false → f ≡ false → (s || not g) ≡ true
  neither h k = ap (λ (z : Bool). z || not g) (es ∙ h) ∙ ap not (sym ef ∙ k)

  both : t ≡ false → f ≡ true → (s || not g) ≡ false
  both h k = ap (λ (z : Bool). z || not g) (es ∙ h) ∙ ap not (sym ef ∙ k)

module _ (b : Board) (given : List Route) (ranges : List Ranged) (n : ℕ) (seen : List Bool) (i : ℕ) (is l : List ℕ) (p : Plan) (pl : l ≡ i ∷ is) (h : i < n) (m : i < length seen) where
  marked : get_or (take n seen) i true ≡ get_or seen i true
  marked = get_or-take n seen i true h

  by : get_or (take n seen) i true || not (found? (ranged_at ranges i).bounds) ≡ true → components search_of b given ranges is (take n seen) p ≡ components search_of b given ranges l (take n seen) p
  unfolding components
  by e = sym (ap (λ (z : List ℕ). components search_of b given ranges z (take n seen) p) pl ∙ rw e refl)

  pub turn_seen : get_or seen i false ≡ true → components search_of b given ranges is (take n seen) p ≡ components search_of b given ranges l (take n seen) p
  turn_seen e = by (ap (λ (z : Bool). z || not (found? (ranged_at ranges i).bounds)) (marked ∙ same_in seen i m ∙ e))

  module _ (new : get_or seen i false ≡ false) (f : Bool) (ef : f ≡ found? (ranged_at ranges i).bounds) where
    pub turn_absent : f ≡ false → components search_of b given ranges is (take n seen) p ≡ components search_of b given ranges l (take n seen) p
    turn_absent e = by (neither _ _ f _ marked ef (same_in seen i m ∙ new) e)

    module _ (c : Component) (s : Step) (found : f ≡ true) (ec : c ≡ component_of b given ranges i (take n seen)) (es : s ≡ treated search_of b given ranges c.order p) where
      treating : then s (components search_of b given ranges is c.seen) ≡ components search_of b given ranges l (take n seen) p
      unfolding components
      treating =
          ap (λ (z : Step). then z (components search_of b given ranges is c.seen)) es
          ∙ ap (λ (z : Component). then (treated search_of b given ranges z.order p) (components search_of b given ranges is z.seen)) ec
          ∙ sym (ap (λ (z : List ℕ). components search_of b given ranges z (take n seen) p) pl ∙ rw (both _ _ f _ marked ef (same_in seen i m ∙ new) found) refl)

      pub turn_going : (q : Plan) → s ≡ going q → components search_of b given ranges is c.seen q ≡ components search_of b given ranges l (take n seen) p
      turn_going q e = ap (λ (z : Step). then z (components search_of b given ranges is c.seen)) (sym e) ∙ treating

      pub turn_refused : (v : ℕ) → s ≡ refused v → s ≡ components search_of b given ranges l (take n seen) p
      turn_refused v e = e ∙ ap (λ (z : Step). then z (components search_of b given ranges is c.seen)) (sym e) ∙ treating

pub turns_end : (b : Board) (given : List Route) (ranges : List Ranged) (seen : List Bool) (l : List ℕ) (p : Plan) → l ≡ [] → going p ≡ components search_of b given ranges l seen p
unfolding components
turns_end b given ranges seen l p pl = sym (ap (λ (z : List ℕ). components search_of b given ranges z seen p) pl)

pub none_seen : (n k : ℕ) → n ≤ k → take n (replicate k false) ≡ replicate n false
none_seen zero k h = refl
none_seen (suc n) zero h = absurd (omega arith)
none_seen (suc n) (suc k) h = ap (λ (l : List Bool). false ∷ l) (none_seen n k (omega arith))

-- the plan after the first pass
pub settled_is : (b : Board) (given : List Route) (t : List Range) (left : ℕ) (p : Plan) (s : Step) → p ≡ record { xs = map initial_x (ranges_in t); left = left }
    → s ≡ components search_of b given (ranges_in t) (indices_from 0 (ranges_in t)) (replicate (length t) false) p → s ≡ settled b given (record { ranges = ranges_in t; left = left })
settled_is b given t left p s ep es =
    es
    ∙ ap (λ (m : ℕ). components search_of b given (ranges_in t) (indices_from 0 (ranges_in t)) (replicate m false) p) (sym (ranges_length t))
    ∙ ap (λ (z : Plan). components search_of b given (ranges_in t) (indices_from 0 (ranges_in t)) (replicate (length (ranges_in t)) false) z) ep
