-- Which edges the bundles of a role have as members: the pairs that number 8 looks at, from windows of members. Assumes nothing.
use Rattle.std.specs.Prelude.{ℕ, zero, suc, ◌+◌, ◌≤◌, ◌≡◌, refl, List, [], ◌∷◌, ◌++◌, map, length, drop}
use Rattle.std.proofs.Common.{sym, ap, subst, ◌∙◌, append-nil, append_assoc, arith, length-drop, take_all, drop_at}
use Rattle.std.proofs.lemmas.List.{map-append, length-map, take-append-le, drop-append-le}
use Rattle.wire.specs.Read.{got, many}
use Rattle.wire.proofs.All.{All}
use Rattle.geometry.specs.declared.Role.{Role}
use Rattle.geometry.specs.Port.{role_number}
use Rattle.board.specs.declared.Bundle.{Bundle}
use Rattle.board.specs.Board.{window}
use Rattle.job.specs.declared.RawBundle.{RawBundle}
use Rattle.job.specs.declared.RawMember.{RawMember}
use Rattle.job.specs.Keys.{Key}
use Rattle.job.specs.LoopSteps.{came, got_both}
use Rattle.job.specs.Heads.{member_role}
use Rattle.job.proofs.Kept.{push_step}
use Rattle.job.specs.Job.{push, member, member_key}

-- a bundle's role and its window of members
pub record Claim : Type 0 where
  pub role : Role
  pub first : ℕ
  pub count : ℕ

abbrev pub raw_claim : RawBundle → Claim
raw_claim b = record { role = b.role; first = b.first; count = b.count }

abbrev pub claim_of : Bundle → Claim
claim_of b = record { role = b.role; first = b.first; count = b.count }

abbrev pub by_role : Role → ℕ → Key
by_role role id = (id, role_number role)

-- for each bundle in turn the ids of its members' edges, each with the bundle's role
unfoldable pub claims : List Claim → List ℕ → List Key
claims [] ids = []
claims (c ∷ cs) ids = map (by_role c.role) (window c.first c.count ids) ++ claims cs ids

claims_last : (cs : List Claim) (c : Claim) (ids : List ℕ) → claims (cs ++ (c ∷ [])) ids ≡ claims cs ids ++ map (by_role c.role) (window c.first c.count ids)
unfolding claims
claims_last [] c ids = append-nil (map (by_role c.role) (window c.first c.count ids))
claims_last (d ∷ cs) c ids = rw (claims_last cs c ids) (sym (append_assoc (map (by_role d.role) (window d.first d.count ids)) (claims cs ids) (map (by_role c.role) (window c.first c.count ids))))

abbrev pub Inside : ℕ → Claim → Type 0
Inside n c = c.first + c.count ≤ n

window_more : (f c : ℕ) (ids more : List ℕ) → f + c ≤ length ids → window f c (ids ++ more) ≡ window f c ids
window_more f c ids more h =
    let a : f ≤ length ids = omega arith in
    let b : c ≤ length (drop f ids) = rw length-drop (omega arith) in
    rw (drop-append-le f ids more a, take-append-le c (drop f ids) more b)

claims_more : (cs : List Claim) (ids more : List ℕ) → All (Inside (length ids)) cs → claims cs (ids ++ more) ≡ claims cs ids
unfolding claims All
claims_more [] ids more h = refl
claims_more (c ∷ cs) ids more h = rw (window_more c.first c.count ids more h.0, claims_more cs ids more h.1)

window_last : (ids more : List ℕ) → window (length ids) (length more) (ids ++ more) ≡ more
window_last ids more = rw (drop_at ids more (length ids) refl, take_all (length more) more (native.Mathlib.Nat.le_refl (length more)))

-- members that were pushed have the role they were read with
pub record Pushed (role : Role) (l m : List RawMember) (n : ℕ) : Type 0 where
  pub more : List RawMember
  pub is : m ≡ l ++ more
  pub count : length more ≡ n
  pub roles : map member_key more ≡ map (by_role role) (map (λ (x : RawMember). x.edge) more)

pub members_pushed : (role : Role) (n : ℕ) (l : List RawMember) (s : List ℕ) (m : List RawMember) (t : List ℕ) → many n (push (member role)) l s ≡ got m t → Pushed role l m n
unfolding many
members_pushed role zero l s m t e =
    let x : l ≡ m = cc in
    record { more = []; is = sym x ∙ sym (append-nil l); count = refl; roles = refl }
members_pushed role (suc n) l s m t e =
    let c = came (push (member role) l s) (many n (push (member role))) m t e in
    let d = push_step (member role) l s c.value c.rest c.first in
    let q = got_both (l ++ (d.value ∷ [])) c.value d.rest c.rest d.second in
    let z = members_pushed role n c.value c.rest m t c.second in
    let r = member_role role s d.value d.rest d.first in
    record {
      more = d.value ∷ z.more;
      is = z.is ∙ ap (λ k. k ++ z.more) (sym q.0) ∙ append_assoc l (d.value ∷ []) z.more;
      count = ap suc z.count;
      roles = rw (z.roles, r);
    }

abbrev pub edge_id : RawMember → ℕ
edge_id m = m.edge

-- one bundle more
pub claimed : (bs : List RawBundle) (b : RawBundle) (ms ns : List RawMember) → All (Inside (length ms)) (map raw_claim bs) → b.first ≡ length ms → Pushed b.role ms ns b.count
    → claims (map raw_claim bs) (map edge_id ms) ≡ map member_key ms → claims (map raw_claim (bs ++ (b ∷ []))) (map edge_id ns) ≡ map member_key ns
claimed bs b ms ns inside first p h =
    let cs = map raw_claim bs in
    let c = raw_claim b in
    let ids = map edge_id ms in
    let more = map edge_id p.more in
    let li : length ids ≡ length ms = length-map ms edge_id in
    let lm : length more ≡ b.count = length-map p.more edge_id ∙ p.count in
    let inside' : All (Inside (length ids)) cs = subst (λ (z : ℕ). All (Inside z) cs) (sym li) inside in
    let at_end : window b.first b.count (ids ++ more) ≡ more =
    ap (λ (z : ℕ). window z b.count (ids ++ more)) (first ∙ sym li) ∙ ap (λ (z : ℕ). window (length ids) z (ids ++ more)) (sym lm) ∙ window_last ids more in
    ap (λ z. claims (map raw_claim (bs ++ (b ∷ []))) (map edge_id z)) p.is ∙ ap (λ z. claims (map raw_claim (bs ++ (b ∷ []))) z) (map-append edge_id ms p.more)
    ∙ ap (λ z. claims z (ids ++ more)) (map-append raw_claim bs (b ∷ [])) ∙ claims_last cs c (ids ++ more)
    ∙ ap (λ z. z ++ map (by_role b.role) (window b.first b.count (ids ++ more))) (claims_more cs ids more inside' ∙ h)
    ∙ ap (λ z. map member_key ms ++ map (by_role b.role) z) at_end ∙ ap (λ z. map member_key ms ++ z) (sym p.roles)
    ∙ sym (map-append member_key ms p.more) ∙ ap (map member_key) (sym p.is)
