-- Laws of keys in two columns; no function keeps them so now. Assumes nothing.
use Rattle.std.specs.Prelude.{ℕ, zero, suc, ◌+◌, ◌≤◌, ◌<◌, ◌≡◌, refl, true, false, ◌&&◌, ◌||◌, List, [], ◌∷◌, ◌++◌, map, length, take, drop, get_or, set, replicate, eqb, Some, None}
use Rattle.std.proofs.Common.{sym, ap, ◌∙◌, arith, drop_of_length-le, length-take-le, drop-cons, get_or-take}
use Rattle.std.proofs.Math.Numerals.{add-one}
use Rattle.limits.specs.Limits.{key_room}
use Rattle.board.specs.declared.PlacedNode.{PlacedNode}
use Rattle.job.specs.declared.Counts.{Counts}
use Rattle.job.specs.declared.RawEdge.{RawEdge}
use Rattle.job.specs.declared.RawBundle.{RawBundle}
use Rattle.job.specs.Keys.{Key, stands_in, twice, place_from}
use Rattle.job.specs.Job.{Tables, port_key, member_key}
use Rattle.job.specs.LoopSteps.{one_more}
use Rattle.job.specs.Heads.{Limits}
use Rattle.job.specs.AllTables.{Keyed}

unfoldable pub keys : List ℕ → List ℕ → List Key
keys [] b = []
keys (x ∷ a) [] = []
keys (x ∷ a) (y ∷ b) = (x, y) ∷ keys a b

keys_append : (a b : List ℕ) (x y : ℕ) → length a ≡ length b → keys (a ++ (x ∷ [])) (b ++ (y ∷ [])) ≡ keys a b ++ ((x, y) ∷ [])
unfolding keys
keys_append [] [] x y h = refl
keys_append [] (d ∷ b) x y h = absurd (omega arith)
keys_append (c ∷ a) [] x y h = absurd (omega arith)
keys_append (c ∷ a) (d ∷ b) x y h =
    let k : length a ≡ length b = omega arith in
    rw (keys_append a b x y k)

-- a key having been stored behind the first i
pub keys_more : (a b : List ℕ) (i x y : ℕ) → i < length a → i < length b → keys (take (i + 1) (set a i x)) (take (i + 1) (set b i y)) ≡ keys (take i a) (take i b) ++ ((x, y) ∷ [])
keys_more a b i x y ha hb =
    let k : length (take i a) ≡ length (take i b) = rw (length-take-le i a (omega arith), length-take-le i b (omega arith)) in
    rw (one_more a i x ha, one_more b i y hb, keys_append (take i a) (take i b) x y k)

keys_zeros : (a : List ℕ) (m : ℕ) → length a ≤ m → keys a (take (length a) (replicate m 0)) ≡ map {B = Key} (λ x. (x, 0)) a
unfolding keys
keys_zeros [] m h = refl
keys_zeros (x ∷ a) zero h = absurd (omega arith)
keys_zeros (x ∷ a) (suc m) h =
    let k : length a ≤ m = omega arith in
    rw (keys_zeros a m k)

beside_zero : {A : Type 0} (f : A → ℕ) (l : List A) → map {B = Key} (λ x. (x, 0)) (map f l) ≡ map (λ a. (f a, 0)) l
beside_zero f [] = refl
beside_zero f (a ∷ l) = rw (beside_zero f l)

-- the keys of ids that stand alone
pub keys_alone : {A : Type 0} (f : A → ℕ) (ids : List ℕ) (l : List A) (n most : ℕ) → n ≤ most → n ≤ length ids → take n ids ≡ map f l
    → keys (take n ids) (take n (replicate most 0)) ≡ map (λ a. (f a, 0)) l
keys_alone f ids l n most h k e =
    let z : length (take n ids) ≡ n = length-take-le n ids k in
    ap (λ (m : ℕ). keys (take n ids) (take m (replicate most 0))) (sym z) ∙ keys_zeros (take n ids) most (omega arith) ∙ ap (map {B = Key} (λ x. (x, 0))) e ∙ beside_zero f l

keys_length : (a b : List ℕ) → length a ≡ length b → length (keys a b) ≡ length a
unfolding keys
keys_length [] b h = refl
keys_length (x ∷ a) [] h = absurd (omega arith)
keys_length (x ∷ a) (y ∷ b) h =
    let k : length a ≡ length b = omega arith in
    rw (keys_length a b k)

keys_at : (a b : List ℕ) (i : ℕ) → i < length a → i < length b → get_or (keys a b) i (0, 0) ≡ (get_or a i 0, get_or b i 0)
unfolding keys
keys_at [] b i h k = absurd (omega arith)
keys_at (x ∷ a) [] i h k = absurd (omega arith)
keys_at (x ∷ a) (y ∷ b) zero h k = refl
keys_at (x ∷ a) (y ∷ b) (suc i) h k = keys_at a b i (omega arith) (omega arith)

-- the first n keys of two columns that are long enough, from place i on
module _ (a b : List ℕ) (n i : ℕ) (fa : n ≤ length a) (fb : n ≤ length b) where
  count_keys : length (keys (take n a) (take n b)) ≡ n
  count_keys = keys_length (take n a) (take n b) (length-take-le n a fa ∙ sym (length-take-le n b fb)) ∙ length-take-le n a fa

  pub keys_next : i < n → drop i (keys (take n a) (take n b)) ≡ (get_or a i 0, get_or b i 0) ∷ drop (i + 1) (keys (take n a) (take n b))
  keys_next h =
      let k : i < length (keys (take n a) (take n b)) = rw count_keys h in
      let ka : i < length (take n a) = rw (length-take-le n a fa) h in
      let kb : i < length (take n b) = rw (length-take-le n b fb) h in
      drop-cons (keys (take n a) (take n b)) i (0, 0) k
      ∙ ap (λ (z : Key). z ∷ drop (suc i) (keys (take n a) (take n b))) (keys_at (take n a) (take n b) i ka kb ∙ both (get_or-take n a i 0 h) (get_or-take n b i 0 h))
      ∙ ap (λ (z : ℕ). (get_or a i 0, get_or b i 0) ∷ drop z (keys (take n a) (take n b))) (sym (add-one i))
    where
      both : {x y u v : ℕ} → x ≡ u → y ≡ v → ◌≡◌ {A = Key} (x, y) (u, v)
      both p q = cc

  pub keys_none : n ≤ i → drop i (keys (take n a) (take n b)) ≡ []
  keys_none h =
      let k : length (keys (take n a) (take n b)) ≤ i = rw count_keys h in
      drop_of_length-le (keys (take n a) (take n b)) k

  module _ (x y : ℕ) (h : i < n) where
    pub found_here : eqb (get_or a i 0) x && eqb (get_or b i 0) y ≡ true → place_from i (x, y) (drop i (keys (take n a) (take n b))) ≡ Some i
    unfolding place_from
    found_here e = rw (keys_next h, e)

    pub found_later : eqb (get_or a i 0) x && eqb (get_or b i 0) y ≡ false
        → place_from (i + 1) (x, y) (drop (i + 1) (keys (take n a) (take n b))) ≡ place_from i (x, y) (drop i (keys (take n a) (take n b)))
    unfolding place_from
    found_later e = rw (keys_next h, e, add-one i)

  pub found_nowhere : (x y : ℕ) → n ≤ i → place_from i (x, y) (drop i (keys (take n a) (take n b))) ≡ None
  unfolding place_from
  found_nowhere x y h = rw (keys_none h)

  pub twice_next : i < n → twice (drop i (keys (take n a) (take n b))) ≡ (stands_in (get_or a i 0, get_or b i 0) (drop (i + 1) (keys (take n a) (take n b))) || twice (drop (i + 1) (keys (take n a) (take n b))))
  unfolding twice
  twice_next h = rw (keys_next h)

  pub twice_none : n ≤ i → twice (drop i (keys (take n a) (take n b))) ≡ false
  unfolding twice
  twice_none h = rw (keys_none h)

-- the keys of the first n rows, in two columns
abbrev pub first_keys : List ℕ → List ℕ → ℕ → List Key
first_keys first second n = keys (take n first) (take n second)

-- the id that is a row's key
abbrev pub node_id : PlacedNode → ℕ
node_id n = n.id

abbrev pub edge_id : RawEdge → ℕ
edge_id e = e.id

abbrev pub bundle_id : RawBundle → ℕ
bundle_id b = b.id

-- the keys of tables whose columns are whole, ids that stand alone having zeros beside them
pub keyed_tables : (t : Tables) (c : Counts) (total : ℕ) (nodes port_nodes port_ids edges bundles member_edges member_roles : List ℕ)
    → Limits c → length nodes ≡ key_room → length edges ≡ key_room → length bundles ≡ key_room
    → take c.nodes nodes ≡ map node_id t.nodes → first_keys port_nodes port_ids c.ports ≡ map port_key t.ports → take c.edges edges ≡ map edge_id t.edges.edges
    → take c.bundles bundles ≡ map bundle_id t.bundles.bundles → first_keys member_edges member_roles total ≡ map member_key t.bundles.members
    → Keyed (first_keys nodes (replicate key_room 0) c.nodes) (first_keys port_nodes port_ids c.ports) (first_keys edges (replicate key_room 0) c.edges) (first_keys bundles (replicate key_room 0) c.bundles)
    (first_keys member_edges member_roles total) t
keyed_tables t c total nodes port_nodes port_ids edges bundles member_edges member_roles l ln le lb kn kp ke kb km = record {
  of_nodes = keys_alone node_id nodes t.nodes c.nodes key_room (omega (arith, l.nodes)) (omega (arith, l.nodes, ln)) kn;
  of_ports = kp;
  of_edges = keys_alone edge_id edges t.edges.edges c.edges key_room l.edges (omega (arith, l.edges, le)) ke;
  of_bundles = keys_alone bundle_id bundles t.bundles.bundles c.bundles key_room (omega (arith, l.bundles)) (omega (arith, l.bundles, lb)) kb;
  of_members = km;
}
