-- Closed cases of 8 and 9: all of 8 comes before all of 9, an edge may stand once in the bundles of each role, and a port's key has its node.
-- Assumes nothing.
use Rattle.std.specs.Prelude.{◌≡◌, refl, true, false, List, [], ◌∷◌, ℕ}
use Rattle.binary64.specs.Accepted.{zero64}
use Rattle.geometry.specs.declared.Role.{Role}
use Rattle.geometry.specs.declared.Role.TheVariants.{Input, Output}
use Rattle.geometry.specs.declared.Side.TheVariants.{North}
use Rattle.job.specs.declared.Header.{Header}
use Rattle.job.specs.declared.RawPort.{RawPort}
use Rattle.job.specs.declared.RawMember.{RawMember}
use Rattle.job.specs.Keys.{stands_in, twice}
use Rattle.job.specs.Job.{Tables, some_twice, refusal, settled}

abbrev port : ℕ → RawPort
port node = record { node = node; id = 1; side = North; offset = zero64 }

abbrev member : Role → ℕ → RawMember
member role lane = record { role = role; edge = 1; tap_lane = lane }

-- the tables of a job that has nothing but ports and members; no node is known
abbrev only : List RawPort → List RawMember → Tables
only ports members = record { nodes = []; ports = ports; edges = record { edges = []; points = [] }; bundles = record { bundles = []; members = members } }

-- an id twice beside an unknown node is 8, not 9
pub eight_before_nine : (h : Header) → settled h (only (port 7 ∷ port 7 ∷ []) []) ≡ refusal 8
unfolding settled some_twice twice stands_in
eight_before_nine h = refl

-- ports of two nodes may have one id
pub ports_of_two_nodes : some_twice (only (port 7 ∷ port 8 ∷ []) []) ≡ false
unfolding some_twice twice stands_in
ports_of_two_nodes = refl

-- an edge twice in one role is 8 whatever its lanes are
pub once_a_role : some_twice (only [] (member Input 0 ∷ member Input 1 ∷ [])) ≡ true
unfolding some_twice twice stands_in
once_a_role = refl

-- and once in each role it is not
pub once_in_each_role : some_twice (only [] (member Input 0 ∷ member Output 0 ∷ [])) ≡ false
unfolding some_twice twice stands_in
once_in_each_role = refl
