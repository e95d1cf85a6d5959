-- The tables of a board and of a sheet. Definitions of inner contracts.
-- Assumes nothing.
use Rattle.limits.specs.Limits.{max_nodes, max_ports, max_edges, max_bundles, max_members}
use Rattle.board.specs.declared.PlacedNode.{PlacedNode}
use Rattle.board.specs.declared.Port.{Port}
use Rattle.board.specs.declared.Edge.{Edge}
use Rattle.board.specs.declared.Bundle.{Bundle}
use Rattle.board.specs.declared.Member.{Member}
use Rattle.board.specs.declared.DrawnTap.{DrawnTap}
use Rattle.board.specs.declared.DrawnBundle.{DrawnBundle}
use Rattle.table.specs.Table.{Table}

abbrev pub Nodes : Type 0
Nodes = Table PlacedNode

abbrev pub Ports : Type 0
Ports = Table Port

abbrev pub Edges : Type 0
Edges = Table Edge

abbrev pub Bundles : Type 0
Bundles = Table Bundle

abbrev pub Members : Type 0
Members = Table Member

abbrev pub DrawnTaps : Type 0
DrawnTaps = Table DrawnTap

abbrev pub DrawnBundles : Type 0
DrawnBundles = Table DrawnBundle
