-- What the reader leaves of an accepted job is what demand 3's proof asks for. Assumes nothing.
use Prim.Native.Nat.{ℕ, zero, suc, ◌<◌}
use Rattle.std.specs.Prelude.{◌≡◌, refl, Bool, true, length, get_or, take, drop, T, pos, Float}
use Rattle.std.proofs.Common.{sym, ap, ◌∙◌, subst, inl, inr, true≢false, arith, eq-eqb}
use mathlib.Core.List.{List, [], ◌∷◌, ◌++◌, map}
use Rattle.std.specs.Float.{fin}
use Rattle.std.specs.Float.Ieee.{le}
use Rattle.binary64.specs.Bools.{or_second}
use Rattle.binary64.specs.Accepted.{zero64, accepted, two_to, is_coordinate, is_size}
use Rattle.binary64.proofs.Kind.{accepted_between, coordinate_within, up_to_within}
use Rattle.geometry.specs.declared.Point.{Point}
use Rattle.geometry.specs.declared.Role.{Role}
use Rattle.geometry.specs.declared.Role.TheVariants.{Input, Output}
use Rattle.board.specs.declared.Edge.{Edge}
use Rattle.board.specs.declared.Bundle.{Bundle}
use Rattle.board.specs.declared.Member.{Member}
use Rattle.board.specs.Board.{members_of, routes_of, no_bundle}
use Rattle.wire.proofs.All.{All}
use Rattle.sorting.specs.Lists.{In, Every}
use Rattle.job.specs.Keys.{Key, same, stands_in, twice}
use Rattle.job.proofs.Claims.{claims, claim_of, by_role}
use Rattle.job.proofs.GoodRecords.{GoodNumber, GoodPoint, GoodNode, GoodPort, GoodBundle, GoodMember}
use Rattle.job.proofs.Sound.{Sound, edge_at, accepted_sound}
use Rattle.job.specs.Job.{Job, given_routes, read_job}
use Rattle.job.specs.Job as job
use Rattle.plan.specs.Depths.{same_role}
use Rattle.plan.proofs.SmallNumbers.{Small, Numbers, every_take, every_drop}
use Rattle.plan.proofs.CarriedNumbers.{Windowed}
use Rattle.binary64.proofs.Plain.{Plain, accepted_plain}
use Rattle.ranges.proofs.Corridors.{Signs}
use Rattle.ranges.proofs.NoMinusZero.{PlainBoard}
use Rattle.ranges.specs.Extent.{Limits}
use Rattle.promise.proofs.Places.{OnceARole}
use Rattle.promise.proofs.BoardDemand.{Readable}

every_of : {A : Type 0} (P Q : A → Type 0) (l : List A) → ((a : A) → P a → Q a) → All P l → Every Q l
unfolding All
every_of P Q [] f h = tt
every_of P Q (a ∷ l) f h = (f a h.0, every_of P Q l f h.1)

-- ---- numbers

coordinate_small : {grid : Bool} (x : Float) → GoodNumber grid is_coordinate x → Small 30 x
coordinate_small x g = (coordinate_within x g.in_range, g.of_format)

-- from 0 to 2 ^ k
up_to_small : {grid : Bool} (k : ℕ) (x : Float) → GoodNumber grid (accepted zero64 (two_to k)) x → Small k x
up_to_small k x g = (up_to_within k x g.in_range, g.of_format)

routes_every : (P : Point → Type 0) (points : List Point) (edges : List Edge) → Every P points → Every (Every P) (routes_of points edges)
routes_every P points [] h = tt
routes_every P points (e ∷ es) h = (every_take P e.count (drop e.first points) (every_drop P e.first points h), routes_every P points es h)

numbers : (j : Job) → Sound j → Numbers j.board (given_routes j)
numbers j s = record {
  stub = up_to_small 20 _ s.options.stub;
  gap = up_to_small 20 _ s.options.gap;
  clearance = up_to_small 20 _ s.options.clearance;
  spacing = up_to_small 20 _ s.options.spacing;
  reserve = up_to_small 20 _ s.options.reserve;
  nodes = every_of (GoodNode j.flags.on_grid) _ j.board.nodes (λ n g. (coordinate_small n.body.corner.x g.corner.x, up_to_small 30 n.body.width g.width)) s.nodes;
  ports = every_of (GoodPort j.flags.on_grid (length j.board.nodes)) _ j.board.ports (λ p g. coordinate_small p.offset g.offset) s.ports;
  lanes = every_of (GoodMember (length j.board.edges)) _ j.board.members (λ m g. g.lane) s.members;
  few = s.bundle_total;
  points = routes_every (λ (p : Point). Small 30 p.x) j.points j.board.edges (every_of (GoodPoint j.flags.on_grid) _ j.points (λ p g. coordinate_small p.x g.x) s.points);
}

limits : (j : Job) → Sound j → Limits j.board (given_routes j)
limits j s = record {
  numbers = numbers j s;
  node_ys = every_of (GoodNode j.flags.on_grid) _ j.board.nodes (λ n g. (coordinate_small n.body.corner.y g.corner.y, up_to_small 30 n.body.height g.height)) s.nodes;
  point_ys = routes_every (λ (p : Point). Small 30 p.y) j.points j.board.edges (every_of (GoodPoint j.flags.on_grid) _ j.points (λ p g. coordinate_small p.y g.y) s.points);
}

-- ---- signs

not_below : {grid : Bool} (k : ℕ) (x : Float) → GoodNumber grid (accepted zero64 (two_to k)) x → T (le zero64 x)
not_below k x g = (accepted_between zero64 (two_to k) x g.in_range).from

signs : (j : Job) → Sound j → Signs j.board
signs j s = record {
  stub = not_below 20 _ s.options.stub;
  gap = not_below 20 _ s.options.gap;
  widths = every_of (GoodNode j.flags.on_grid) _ j.board.nodes (λ n g. not_below 30 n.body.width g.width) s.nodes;
}

coordinate_plain : {grid : Bool} (x : Float) → GoodNumber grid is_coordinate x → Plain x
coordinate_plain x g = accepted_plain (fin true 1 (pos 30)) (two_to 30) x g.in_range g.of_format

size_plain : {grid : Bool} (x : Float) → GoodNumber grid is_size x → Plain x
size_plain x g = accepted_plain zero64 (two_to 30) x g.in_range g.of_format

plain : (j : Job) → Sound j → PlainBoard j.board (given_routes j)
plain j s = record {
  nodes = every_of (GoodNode j.flags.on_grid) _ j.board.nodes (λ n g. (coordinate_plain n.body.corner.x g.corner.x, coordinate_plain n.body.corner.y g.corner.y, size_plain n.body.width g.width, size_plain n.body.height g.height)) s.nodes;
  points = routes_every (λ (p : Point). Plain p.x × Plain p.y) j.points j.board.edges (every_of (GoodPoint j.flags.on_grid) _ j.points (λ p g. (coordinate_plain p.x g.x, coordinate_plain p.y g.y)) s.points);
}

-- ---- number 8: an edge stands once in the bundles of a role

in_behind : (k : Key) (l m : List Key) → In k m → In k (l ++ m)
in_behind k [] m i = i
in_behind k (x ∷ l) m i = inr (in_behind k l m i)

in_before : (k : Key) (l m : List Key) → In k l → In k (l ++ m)
in_before k [] m x' = elim x' [ ]
in_before k (x ∷ l) m (inl e) = inl e
in_before k (x ∷ l) m (inr i) = inr (in_before k l m i)

stands : (k : Key) (l : List Key) → In k l → stands_in k l ≡ true
unfolding stands_in
stands k [] x' = elim x' [ ]
stands k (x ∷ l) (inl e) = rw (e, eq-eqb x.0 x.0 refl, eq-eqb x.1 x.1 refl)
stands k (x ∷ l) (inr i) = or_second (same x k) (stands_in k l) (stands k l i)

-- a key of both parts of a list stands there twice
in_both : (k : Key) (l m : List Key) → In k l → In k m → twice (l ++ m) ≡ true
unfolding twice
in_both k [] m x'' i = elim x'' [ ]
in_both k (x ∷ l) m (inl e) i = rw (stands x (l ++ m) (in_behind x l m (subst (λ (z : Key). In z m) e i)))
in_both k (x ∷ l) m (inr h) i = or_second (stands_in x (l ++ m)) (twice (l ++ m)) (in_both k l m h i)

twice_behind : (l m : List Key) → twice m ≡ true → twice (l ++ m) ≡ true
unfolding twice
twice_behind [] m h = h
twice_behind (x ∷ l) m h = or_second (stands_in x (l ++ m)) (twice (l ++ m)) (twice_behind l m h)

in_map : {A B : Type 0} (f : A → B) (a : A) (l : List A) → In a l → In (f a) (map f l)
in_map {A = A} {B = B} f a [] x' = elim x' [ ]
in_map f a (x ∷ l) (inl e) = inl (ap f e)
in_map f a (x ∷ l) (inr i) = inr (in_map f a l i)

take_map : {A B : Type 0} (f : A → B) (n : ℕ) (l : List A) → map f (take n l) ≡ take n (map f l)
take_map f zero l = refl
take_map f (suc n) [] = refl
take_map f (suc n) (x ∷ l) = ap (λ k. f x ∷ k) (take_map f n l)

pub window_map : {A B : Type 0} (f : A → B) (m n : ℕ) (l : List A) → map f (take n (drop m l)) ≡ take n (drop m (map f l))
window_map f zero n l = take_map f n l
window_map f (suc m) n [] = take_map f n []
window_map f (suc m) n (x ∷ l) = window_map f m n l

module _ (id : Member → ℕ) (ms : List Member) where
  abbrev all_claims : List Bundle → List Key
  all_claims us = claims (map claim_of us) (map id ms)

  abbrev claim : Bundle → List Key
  claim u = map (by_role u.role) (take u.count (drop u.first (map id ms)))

  claimed_by : (u : Bundle) (m : Member) → In m (members_of ms u) → In (by_role u.role (id m)) (claim u)
  claimed_by u m i =
      in_map (by_role u.role) (id m) (take u.count (drop u.first (map id ms)))
      (subst (In (id m)) (window_map id u.first u.count ms) (in_map id m (members_of ms u) i))

  among_claims : (k : Key) (us : List Bundle) (j : ℕ) → j < length us → In k (claim (get_or us j no_bundle)) → In k (all_claims us)
  unfolding claims
  among_claims k [] j h i = absurd (omega arith)
  among_claims k (u ∷ us) zero h i = in_before k (claim u) (all_claims us) i
  among_claims k (u ∷ us) (suc j) h i = in_behind k (claim u) (all_claims us) (among_claims k us j (omega arith) i)

  claimed_twice : (k : Key) (us : List Bundle) (i j : ℕ) → i < j → j < length us → In k (claim (get_or us i no_bundle)) → In k (claim (get_or us j no_bundle)) → twice (all_claims us) ≡ true
  unfolding claims
  claimed_twice k [] i j h l p q = absurd (omega arith)
  claimed_twice k (u ∷ us) i zero h l p q = absurd (omega arith)
  claimed_twice k (u ∷ us) zero (suc j) h l p q = in_both k (claim u) (all_claims us) p (among_claims k us j (omega arith) q)
  claimed_twice k (u ∷ us) (suc i) (suc j) h l p q = twice_behind (claim u) (all_claims us) (claimed_twice k us i j (omega arith) (omega arith) p q)

pub same_roles : (r s : Role) → same_role r s ≡ true → r ≡ s
same_roles Input Input e = refl
same_roles Input Output e = absurd (true≢false (sym e))
same_roles Output Input e = absurd (true≢false (sym e))
same_roles Output Output e = refl

once_a_role : (j : Job) → Sound j → OnceARole j.board
once_a_role j s i k h l roles m n p q e =
    let b = j.board in
    let id : Member → ℕ = λ (m : Member). edge_at b.edges m.edge in
    let u = get_or b.bundles i no_bundle in
    let v = get_or b.bundles k no_bundle in
    let same_key : by_role v.role (id n) ≡ by_role u.role (id m) = rw (same_roles u.role v.role roles, e) in
    true≢false (sym (claimed_twice id b.members (by_role u.role (id m)) b.bundles i k h l
    (claimed_by id b.members u m p)
    (subst (λ (z : Key). In z (claim id b.members v)) same_key (claimed_by id b.members v n q))) ∙ s.member_edges)

-- ---- the whole

pub sound_readable : (j : Job) → Sound j → Readable j.board (given_routes j)
sound_readable j s = record {
  limits = limits j s;
  signs = signs j s;
  plain = plain j s;
  windows = every_of (GoodBundle (length j.board.ports) (length j.board.members)) (Windowed j.board) j.board.bundles (λ u g. g.window) s.bundles;
  once = once_a_role j s;
}

pub readable : (s : List ℕ) (j : Job) → read_job s ≡ job.accepted j → Readable j.board (given_routes j)
readable s j e = sound_readable j (accepted_sound s j e).0
