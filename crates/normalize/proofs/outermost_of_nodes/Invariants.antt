use mathlib.Core.Path.{◌≡◌}
use Rattle.normalize.specs.PageTables.{outermost, node_points}
use Rattle.normalize.proofs.Outer.{nodes_rest}
use Rattle.normalize.proofs.outermost_of_nodes.Given as goal

abbrev pub invariant-loop-node : goal.invariant-loop-node
invariant-loop-node l = outermost l.corner l.most (nodes_rest l.corner l.nodes l.node-index) ≡ outermost l.corner l.initial.most (node_points l.corner l.nodes)
