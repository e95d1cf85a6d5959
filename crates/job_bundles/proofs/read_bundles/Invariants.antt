use Rattle.std.proofs.Common.{◌≡◌, ℕ, ◌≤◌, ◌+◌, ◌-◌, Bool, List, length, take}
use Rattle.limits.specs.Limits.{max_members}
use Rattle.board.specs.declared.Bundle.{Bundle}
use Rattle.board.specs.declared.Member.{Member}
use Rattle.wire.specs.Read.{got, many}
use Rattle.job.specs.Job.{bundle_head, bundle_key, member_key, next_bundle, bundle_of, member_of}
use Rattle.job.specs.declared.RawBundle.{RawBundle}
use Rattle.job.specs.Keys.{Key}
use Rattle.job.specs.Reads.{bundles_of, SoFar, MembersLeft}
use Rattle.job_bundles.proofs.read_bundles.Given as goal

-- the members and the bundles that were read before bundle i; at is left to read, from was at the start
abbrev pub Earlier : (from at : List ℕ) (count : ℕ) (node_keys port_keys edge_keys : List Key) (ks member-ks : List Key) (rows : List Bundle) (member-rows : List Member) (known members_known : Bool) (total i : ℕ) → Type 0
Earlier from at count node_keys port_keys edge_keys ks member-ks rows member-rows known members_known total i =
    SoFar member_key (member_of edge_keys)
    (λ ms. SoFar bundle_key (bundle_of node_keys port_keys)
    (λ bs. many (count - i) next_bundle (record { bundles = bs; members = ms }) at ≡ bundles_of count from)
    i (take i ks) known rows)
    total (take total member-ks) members_known member-rows

-- b was read before its members, off what at was then, and start is left
pub record AtMembers (from start : List ℕ) (b : RawBundle) (count : ℕ) (node_keys port_keys edge_keys : List Key) (ks member-ks : List Key) (rows : List Bundle) (member-rows : List Member) (known members_known : Bool) (total i : ℕ) : Type 0 where
  pub at : List ℕ
  pub head : bundle_head total at ≡ got b start
  pub before : Earlier from at count node_keys port_keys edge_keys ks member-ks rows member-rows known members_known total i

abbrev pub invariant-loop : goal.invariant-loop
invariant-loop l =
    (length l.members.items ≡ length l.initial.members.items + l.counter) × (length l.initial.members.items + l.b.count ≤ max_members)
    × SoFar member_key (member_of l.tables.edges.now)
    (MembersLeft {O = AtMembers l.fn.s.bytes.now l.initial.s.bytes.now l.b (length l.fn.keys) l.tables.nodes.now l.tables.ports.now l.tables.edges.now l.keys l.initial.member_keys l.bundles.items l.initial.members.items l.known l.initial.members_known (length l.initial.members.items) l.i}
    (λ o. o.before.raw) l.b.role l.b.count l.counter l.initial.s.bytes.now l.s.bytes.now)
    (length l.members.items) (take (length l.members.items) l.member_keys) l.members_known l.members.items

abbrev pub invariant-loop-i : goal.invariant-loop-i
invariant-loop-i l =
    (length l.bundles.items ≡ l.i) × (length l.members.items ≤ max_members)
    × Earlier l.initial.s.bytes.now l.s.bytes.now (length l.initial.keys) l.tables.nodes.now l.tables.ports.now l.tables.edges.now l.keys l.member_keys l.bundles.items l.members.items l.known l.members_known (length l.members.items) l.i
