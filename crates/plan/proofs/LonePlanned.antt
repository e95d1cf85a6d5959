-- A bundle that shares no edge with the other role: its component is itself alone, so its planned x is the one that its first search found.
-- Assumes nothing.
use Rattle.std.specs.Prelude.{◌≡◌, ◌⊎◌, Bool, cond, ◌&&◌, ◌||◌, length, replicate, eqb, Float}
use Rattle.std.proofs.Math.Path.{refl, subst}
use Rattle.std.proofs.Common.{sym, ◌∙◌, ap, inl, inr, true≢false, get_or-set_other, eqb-true, ne_eqb}
use Rattle.std.proofs.Math.Bool.{true, false, not}
use mathlib.Core.List.{List, [], ◌∷◌, map}
use Prim.Native.Nat.{ℕ, zero, suc, ◌+◌}
use native.Mathlib.Omega.{arith}
use Rattle.std.proofs.Math.ListN.{get_or, set, get_or-map}
use Rattle.std.specs.Float.Ieee as Ieee
use Rattle.std.proofs.lemmas.Bool.{eqb-false}
use Rattle.geometry.specs.declared.Role.{Role}
use Rattle.geometry.specs.declared.Role.TheVariants.{Input, Output}
use Rattle.board.specs.declared.Bundle.{Bundle}
use Rattle.board.specs.declared.Member.{Member}
use Rattle.geometry.specs.Points.{Route}
use Rattle.board.specs.Board.{Board}
use Rattle.plan.specs.declared.Bound.{Bound}
use Rattle.plan.specs.declared.Bound.TheVariants.{None, At}
use Rattle.sorting.specs.Sorted.{every_map, every_get_d}
use Rattle.sorting.specs.Lists.{In, Every}
use Rattle.plan.specs.Depths.{◌⊕◌, ◌⊖◌, same_role, members_in, parting_pitch}
use Rattle.plan.specs.Plan.{Look, Ranged, no_ranged, ranged_at, role_at, found?, found_x, initial_x, Plan, Step, going, refused, then, takes, share, Walk, push, push_all, walk, of_role, largest, smallest, drop_all, input_split, input_limit, minimum_at, maximum_at, desired_at, joined, near_from, near, component_of, required, exceeds, seek, first_pass, again, limited, outputs_last, split, settle, treat, treated, components, indices_from, separated_if, plan_from}
use Rattle.plan.specs.Lone.{Disjoint, Lone}

abbrev Out : ℕ → List ℕ → Type 0
Out i l = In i l → ⊥

push_out : (i j : ℕ) (w : Walk) → (i ≡ j → ⊥) → Out i w.pending → Out i (push j w).pending
push_out i j w n o = go (get_or w.seen j true)
  where
    go : (t : Bool) → Out i (cond t w (record { seen = set w.seen j true; pending = j ∷ w.pending })).pending
    go true h = o h
    go false (inl e) = n e
    go false (inr h) = o h

push_all_out : (i : ℕ) (js : List ℕ) (w : Walk) → Out i js → Out i w.pending → Out i (push_all js w).pending
unfolding push_all
push_all_out i [] w n o = o
push_all_out i (j ∷ js) w n o = push_all_out i js (push j w) (λ h. n (inr h)) (push_out i j w (λ e. n (inl e)) o)

walk_out : (near : ℕ → List ℕ) (i k : ℕ) (seen : List Bool) (pending : List ℕ) → ((j : ℕ) → Out i (near j)) → Out i pending → Out i (walk near k seen pending).order
unfolding walk
walk_out near i zero seen pending n o h = h
walk_out near i (suc k) seen [] n o h = h
walk_out near i (suc k) seen (j ∷ pending) n o (inl e) = o (inl e)
walk_out near i (suc k) seen (j ∷ pending) n o (inr h) =
    let w = push_all (near j) (record { seen = seen; pending = pending }) in
    walk_out near i k w.seen w.pending n (push_all_out i (near j) (record { seen = seen; pending = pending }) (n j) (λ e. o (inr e))) h

walk_done : (near : ℕ → List ℕ) (k : ℕ) (seen : List Bool) → (walk near k seen []).order ≡ []
unfolding walk
walk_done near zero seen = refl
walk_done near (suc k) seen = refl

-- a bundle with no neighbours is alone
walk_alone : (near : ℕ → List ℕ) (i k : ℕ) (seen : List Bool) → near i ≡ [] → ((walk near k seen (i ∷ [])).order ≡ []) ⊎ ((walk near k seen (i ∷ [])).order ≡ i ∷ [])
unfolding walk push_all
walk_alone near i zero seen e = inl refl
walk_alone near i (suc k) seen e = inr (go (near i) e)
  where
    go : (l : List ℕ) → l ≡ [] → ◌≡◌ {A = List ℕ} (i ∷ (walk near k (push_all l (record { seen = seen; pending = [] })).seen (push_all l (record { seen = seen; pending = [] })).pending).order) (i ∷ [])
    go [] h = ap (λ (m : List ℕ). i ∷ m) (walk_done near k seen)
    go (j ∷ l) h = let z : ◌≡◌ {A = ℕ} 0 1 = cc in absurd (omega arith)

of_role_out : (i : ℕ) (role : Role) (ranges : List Ranged) (is : List ℕ) → Out i is → Out i (of_role role ranges is)
unfolding of_role
of_role_out i role ranges [] o = λ h. h
of_role_out i role ranges (j ∷ is) o = go (same_role (role_at ranges j) role) (of_role_out i role ranges is (λ h. o (inr h)))
  where
    go : (t : Bool) → Out i (of_role role ranges is) → Out i (cond t (j ∷ of_role role ranges is) (of_role role ranges is))
    go true n (inl e) = o (inl e)
    go true n (inr h) = n h
    go false n h = n h

drop_all_kept : (i : ℕ) (is : List ℕ) (xs : List Bound) → Out i is → get_or (drop_all is xs) i None ≡ get_or xs i None
unfolding drop_all
drop_all_kept i [] xs o = refl
drop_all_kept i (j ∷ is) xs o = drop_all_kept i is (set xs j None) (λ h. o (inr h)) ∙ get_or-set_other xs j i None None (λ e. o (inl e))

module _ (b : Board) (routes : List Route) where
  near_joined : (s : Ranged) (i k : ℕ) (ts : List Ranged) → In i (near_from b routes s k ts) → (n : ℕ) × (i ≡ k + n) × (joined b routes s (ranged_at ts n) ≡ true)
  unfolding near_from
  near_joined s i k [] h = absurd h
  near_joined s i k (t ∷ ts) h = go (joined b routes s t) refl h (near_joined s i (suc k) ts)
    where
      go : (p : Bool) → joined b routes s t ≡ p → In i (cond p (k ∷ near_from b routes s (suc k) ts) (near_from b routes s (suc k) ts))
          → (In i (near_from b routes s (suc k) ts) → (n : ℕ) × (i ≡ suc k + n) × (joined b routes s (ranged_at ts n) ≡ true)) → (n : ℕ) × (i ≡ k + n) × (joined b routes s (ranged_at (t ∷ ts) n) ≡ true)
      go true e (inl h) f = (0, omega arith, e)
      go true e (inr h) f = let r = f h in (suc r.0, omega (arith, r.1), r.2)
      go false e h f = let r = f h in (suc r.0, omega (arith, r.1), r.2)

  near_none : (s : Ranged) (k : ℕ) (ts : List Ranged) → Every (λ (t : Ranged). joined b routes s t ≡ false) ts → near_from b routes s k ts ≡ []
  unfolding near_from
  near_none s k [] e = refl
  near_none s k (t ∷ ts) e = rw e.0 (near_none s (suc k) ts e.1)

abbrev pub Kept : ℕ → Bound → Step → Type 0
Kept i x (going p) = get_or p.xs i None ≡ x
Kept i x (refused v) = Unit {0}

kept_then : (i : ℕ) (x : Bound) (s : Step) (g : Plan → Step) → Kept i x s → ((p : Plan) → get_or p.xs i None ≡ x → Kept i x (g p)) → Kept i x (then s g)
kept_then i x (going p) g h k = k p h
kept_then i x (refused v) g h k = tt

module _ (look : Look) (b : Board) (routes : List Route) (ranges : List Ranged) (i : ℕ) (x : Bound) where
  again_kept : (lower upper : Bound → Bound) (is : List ℕ) (p : Plan) → Out i is → get_or p.xs i None ≡ x → get_or (again look b routes ranges lower upper is p).xs i None ≡ x
  unfolding again
  again_kept lower upper [] p o h = h
  again_kept lower upper (j ∷ is) p o h =
      let y = get_or p.xs j None in
      let s = seek look b routes (ranged_at ranges j).bundle (lower y) (upper y) p.left in
      again_kept lower upper is (record { xs = set p.xs j (found_x s.outcome); left = s.left.0 }) (λ e. o (inr e))
      (get_or-set_other p.xs j i (found_x s.outcome) None (λ e. o (inl e)) ∙ h)

  limited_kept : (limit : Float) (inputs : List ℕ) (p : Plan) → Out i inputs → get_or p.xs i None ≡ x → get_or (limited look b routes ranges limit inputs p).xs i None ≡ x
  limited_kept limit inputs p o h = go (exceeds (required b routes ranges p.xs None inputs) limit)
    where
      go : (t : Bool) → get_or (cond t (again look b routes ranges (λ x. None) (input_limit (parting_pitch b) limit) inputs p) p).xs i None ≡ x
      go true = again_kept (λ x. None) (input_limit (parting_pitch b) limit) inputs p o h
      go false = h

  split_kept : (low limit deepest earliest : Float) (inputs : List ℕ) (p : Plan) → Out i inputs → get_or p.xs i None ≡ x → Kept i x (split look b routes ranges low limit deepest earliest inputs p)
  split_kept low limit deepest earliest inputs p o h = go (Ieee.lt earliest (deepest ⊕ parting_pitch b)) (Ieee.lt (limit ⊖ parting_pitch b) low)
    where
      go : (s t : Bool) → Kept i x (cond s (cond t (refused p.left) (going (again look b routes ranges (λ x. None) (λ x. At (input_split (parting_pitch b) low limit deepest earliest)) inputs p))) (going p))
      go true true = tt
      go true false = again_kept (λ x. None) (λ x. At (input_split (parting_pitch b) low limit deepest earliest)) inputs p o h
      go false t = h

  settle_kept : (order : List ℕ) (low limit deepest earliest : Float) (inputs outputs : List ℕ) (p : Plan) → Out i order → Out i inputs → Out i outputs → get_or p.xs i None ≡ x
      → Kept i x (settle look b routes ranges order low limit deepest earliest inputs outputs p)
  settle_kept order low limit deepest earliest inputs outputs p o oi oo h = go (Ieee.lt limit (low ⊕ parting_pitch b))
    where
      last : Plan → Step
      last q = going (outputs_last look b routes ranges inputs outputs (limited look b routes ranges limit inputs q))

      go : (t : Bool) → Kept i x (cond t (going (record { xs = drop_all order p.xs; left = p.left })) (then (split look b routes ranges low limit deepest earliest inputs p) last))
      go true = drop_all_kept i order p.xs o ∙ h
      go false =
          kept_then i x (split look b routes ranges low limit deepest earliest inputs p) last (split_kept low limit deepest earliest inputs p oi h)
          (λ q k. again_kept (λ x. required b routes ranges (limited look b routes ranges limit inputs q).xs None inputs) (λ x. None) outputs (limited look b routes ranges limit inputs q) oo (limited_kept limit inputs q oi k))

  treat_kept : (order inputs outputs : List ℕ) (p : Plan) → Out i order → Out i inputs → Out i outputs → get_or p.xs i None ≡ x → Kept i x (treat look b routes ranges order inputs outputs p)
  treat_kept order [] outputs p o oi oo h = h
  treat_kept order (j ∷ is) [] p o oi oo h = h
  treat_kept order (j ∷ is) (k ∷ os) p o oi oo h =
      settle_kept order (largest (minimum_at ranges) (minimum_at ranges j) is) (smallest (maximum_at ranges) (maximum_at ranges k) os)
      (largest (desired_at ranges) (desired_at ranges j) is) (smallest (desired_at ranges) (desired_at ranges k) os) (j ∷ is) (k ∷ os) p o oi oo h

  -- a component of one bundle is left as it is
  treated_alone : (order : List ℕ) (p : Plan) → (order ≡ []) ⊎ (order ≡ i ∷ []) → treated look b routes ranges order p ≡ going p
  unfolding of_role
  treated_alone order p (inl e) = subst (λ (o : List ℕ). treated look b routes ranges o p ≡ going p) (sym e) refl
  treated_alone order p (inr e) = subst (λ (o : List ℕ). treated look b routes ranges o p ≡ going p) (sym e) (go (role_at ranges i))
    where
      go : (r : Role) → treat look b routes ranges (i ∷ []) (cond (same_role r Input) (i ∷ []) []) (cond (same_role r Output) (i ∷ []) []) p ≡ going p
      go Input = refl
      go Output = refl

  module _ (to : (j : ℕ) → Out i (near b routes ranges j)) (from : near b routes ranges i ≡ []) where
    treated_kept : (j : ℕ) (seen : List Bool) (p : Plan) → get_or p.xs i None ≡ x → Kept i x (treated look b routes ranges (component_of b routes ranges j seen).order p)
    treated_kept j seen p h = go (eqb i j) refl
      where
        order : List ℕ
        order = (component_of b routes ranges j seen).order

        go : (t : Bool) → eqb i j ≡ t → Kept i x (treated look b routes ranges (component_of b routes ranges j seen).order p)
        go true e =
            let s : i ≡ j = eqb-true i j e in
            subst (Kept i x) (sym (treated_alone order p (subst (λ (k : ℕ). ((component_of b routes ranges k seen).order ≡ []) ⊎ ((component_of b routes ranges k seen).order ≡ i ∷ [])) s (walk_alone (near b routes ranges) i (length ranges) (set seen i true) from)))) h
        go false e =
            let o : Out i order = walk_out (near b routes ranges) i (length ranges) (set seen j true) (j ∷ []) to (λ c. alone c e) in
            treat_kept order (of_role Input ranges order) (of_role Output ranges order) p o (of_role_out i Input ranges order o) (of_role_out i Output ranges order o) h
          where
            alone : In i (j ∷ []) → eqb i j ≡ false → ⊥
            alone (inl s) e = eqb-false i j e s
            alone (inr c) e = c

    components_kept : (is : List ℕ) (seen : List Bool) (p : Plan) → get_or p.xs i None ≡ x → Kept i x (components look b routes ranges is seen p)
    unfolding components
    components_kept [] seen p h = h
    components_kept (j ∷ is) seen p h =
        let c = component_of b routes ranges j seen in
        go (get_or seen j true || not (found? (ranged_at ranges j).bounds)) (components look b routes ranges is seen p) (then (treated look b routes ranges c.order p) (components look b routes ranges is c.seen))
        (components_kept is seen p h)
        (kept_then i x (treated look b routes ranges c.order p) (components look b routes ranges is c.seen) (treated_kept j seen p h) (components_kept is c.seen))
      where
        go : (t : Bool) (s u : Step) → Kept i x s → Kept i x u → Kept i x (cond t s u)
        go true s u h k = h
        go false s u h k = k

takes_none : (m : Member) (ns : List Member) → ((n : Member) → In n ns → m.edge ≡ n.edge → ⊥) → takes m.edge ns ≡ false
unfolding takes
takes_none m [] d = refl
takes_none m (n ∷ ns) d = rw (ne_eqb n.edge m.edge (λ e. d n (inl refl) (sym e))) (takes_none m ns (λ k i. d k (inr i)))

share_none : (ms ns : List Member) → Disjoint ms ns → share ms ns ≡ false
unfolding share
share_none [] ns d = refl
share_none (m ∷ ms) ns d = rw (takes_none m ns (λ n. d m n (inl refl))) (share_none ms ns (λ k n i. d k n (inr i)))

pub other_way : (r s : Role) → same_role r s ≡ same_role s r
other_way Input Input = refl
other_way Input Output = refl
other_way Output Input = refl
other_way Output Output = refl

nothing_and : (a c d e : Bool) → (d ≡ false → e ≡ false) → (a && (c && (not d && e))) ≡ false
nothing_and false c d e h = refl
nothing_and true false d e h = refl
nothing_and true true true e h = refl
nothing_and true true false e h = h refl

module _ (b : Board) (routes : List Route) where
  apart : (s t : Ranged) → (same_role s.bundle.role t.bundle.role ≡ false → Disjoint (members_in b s.bundle) (members_in b t.bundle)) → joined b routes s t ≡ false
  apart s t h =
      nothing_and (found? s.bounds) (found? t.bounds) (same_role s.bundle.role t.bundle.role) (share (members_in b s.bundle) (members_in b t.bundle))
      (λ e. share_none (members_in b s.bundle) (members_in b t.bundle) (h e))

  apart_back : (s t : Ranged) → (same_role s.bundle.role t.bundle.role ≡ false → Disjoint (members_in b s.bundle) (members_in b t.bundle)) → joined b routes t s ≡ false
  apart_back s t h = apart t s (λ e m n i j k. h (other_way s.bundle.role t.bundle.role ∙ e) n m j i (sym k))

  ranges_every : (look : Look) (P : Bundle → Type 0) (us : List Bundle) (v : ℕ) → Every P us → Every (λ (s : Ranged). P s.bundle) (first_pass look b routes us v).ranges
  unfolding first_pass
  ranges_every look P [] v e = tt
  ranges_every look P (u ∷ us) v e = (e.0, ranges_every look P us (seek look b routes u None None v).left.0 e.1)

module _ (look : Look) (b : Board) (routes : List Route) (i v : ℕ) where
  abbrev ranges_of : List Ranged
  ranges_of = (first_pass look b routes b.bundles v).ranges

  abbrev own : Ranged
  own = ranged_at ranges_of i

  -- (c) the plan leaves a lone bundle the x that its first search found
  pub lone_kept : Lone b own.bundle → Kept i (initial_x own) (plan_from look b routes false (first_pass look b routes b.bundles v))
  lone_kept h =
      let lone = ranges_every b routes look (λ (t : Bundle). same_role own.bundle.role t.role ≡ false → Disjoint (members_in b own.bundle) (members_in b t)) b.bundles v h in
      let out = every_map (λ (t : Ranged). same_role own.bundle.role t.bundle.role ≡ false → Disjoint (members_in b own.bundle) (members_in b t.bundle)) (λ (t : Ranged). joined b routes own t ≡ false) ranges_of (apart b routes own) lone in
      let back = every_map (λ (t : Ranged). same_role own.bundle.role t.bundle.role ≡ false → Disjoint (members_in b own.bundle) (members_in b t.bundle)) (λ (t : Ranged). joined b routes t own ≡ false) ranges_of (apart_back b routes own) lone in
      kept_then i (initial_x own)
      (components look b routes ranges_of (indices_from 0 ranges_of) (replicate (length ranges_of) false) (record { xs = map initial_x ranges_of; left = (first_pass look b routes b.bundles v).left }))
      (separated_if look b routes false ranges_of)
      (components_kept look b routes ranges_of i (initial_x own) (into back) (near_none b routes own 0 ranges_of out) (indices_from 0 ranges_of) (replicate (length ranges_of) false)
      (record { xs = map initial_x ranges_of; left = (first_pass look b routes b.bundles v).left }) (get_or-map initial_x ranges_of i no_ranged))
      (λ p k. k)
    where
      into : Every (λ (t : Ranged). joined b routes t own ≡ false) ranges_of → (j : ℕ) → Out i (near b routes ranges_of j)
      into back j c =
          let r = near_joined b routes (ranged_at ranges_of j) i 0 ranges_of c in
          let e : r.0 ≡ i = omega (arith, r.1) in
          true≢false (sym (subst (λ (n : ℕ). joined b routes (ranged_at ranges_of j) (ranged_at ranges_of n) ≡ true) e r.2) ∙ every_get_d (λ (t : Ranged). joined b routes t own ≡ false) ranges_of no_ranged j back refl)
