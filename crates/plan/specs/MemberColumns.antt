-- The edges and the lanes of the members' rows, each as a list. Definitions of inner contracts.
-- Assumes nothing.
use Rattle.std.specs.Prelude.{List, ℕ, map}
use Rattle.board.specs.declared.Member.{Member}
use Rattle.plan.specs.Over.{edge_of}

abbrev pub lane_of : Member → ℕ
lane_of m = m.tap_lane

abbrev pub edges_of : List Member → List ℕ
edges_of ms = map edge_of ms

abbrev pub lanes_of : List Member → List ℕ
lanes_of ms = map lane_of ms
