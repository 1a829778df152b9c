use Rattle.resource_graph.proofs.Queries.{in_preorder}
use Rattle.resource_graph.proofs.graph.Graph.of.Goals as goal

pub past_table-requires-clause-order : goal.past_table-requires-clause-order
past_table-requires-clause-order c = in_preorder _ _ c.items.ensures c.requires.valid.preorder

pub node_table-requires-clause-order : goal.node_table-requires-clause-order
node_table-requires-clause-order c = in_preorder _ _ c.items-2.ensures c.requires.valid.preorder

pub nested_table-requires-clause-order : goal.nested_table-requires-clause-order
nested_table-requires-clause-order c = in_preorder _ _ c.items-6.ensures c.requires.valid.preorder

pub place_table-requires-clause-order : goal.place_table-requires-clause-order
place_table-requires-clause-order c = in_preorder _ _ c.items-7.ensures c.requires.valid.preorder
