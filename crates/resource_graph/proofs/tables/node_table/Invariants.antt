use Rattle.resource_graph.specs.Holds.{HasNodesTo}
use Rattle.resource_graph.proofs.tables.node_table.Given as goal

abbrev pub invariant-loop-v : goal.invariant-loop-v
invariant-loop-v l = HasNodesTo l.vertices l.v l.nodes.items
