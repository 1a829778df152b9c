use Rattle.resource_graph.proofs.Queries.{in_preorder}
use Rattle.resource_graph.proofs.graph.Graph.vertex_at.Goals as goal

pub place_of-requires-clause-order : goal.place_of-requires-clause-order
place_of-requires-clause-order c = in_preorder _ _ c.items.ensures c.self.invariant.whole.valid.preorder
